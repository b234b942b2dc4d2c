use Rattle.std.proofs.Common.{◌+◌, List, ap, arith, drop, get_or, length, sym, ◌∙◌}
use Rattle.pass_grouping.specs.declared.operation.PassOp.{PassOp}
use Rattle.pass_grouping.specs.Groupings.{IsPass, first_or, operations_in}
use Rattle.pass_grouping.proofs.Groupings.{part_at, passes-at, passes_from-at}
use Rattle.pass_grouping.proofs.certificate.pass_at.Goals as goal

pub between-requires-clause-ordered : goal.between-requires-clause-ordered
between-requires-clause-ordered c =
    let is : IsPass c.args.ops.now (part_at c.args.starts.now (length c.args.ops.now) c.args.k) =
    passes-at c.args.ops.now c.args.starts.now (length c.args.ops.now) c.args.k c.requires.within c.requires.grouping.passes in
    omega (arith, is.some, c.first_or-behind.ensures, ap (λ (ops : List PassOp). first_or (drop (c.args.k + 1) c.args.starts.now) (length ops)) c.as_slice-items.ensures.items)

pub between-requires-clause-within : goal.between-requires-clause-within
between-requires-clause-within c =
    let is : IsPass c.args.ops.now (part_at c.args.starts.now (length c.args.ops.now) c.args.k) =
    passes-at c.args.ops.now c.args.starts.now (length c.args.ops.now) c.args.k c.requires.within c.requires.grouping.passes in
    omega (
      arith,
      is.within,
      c.first_or-behind.ensures,
      ap (λ (ops : List PassOp). first_or (drop (c.args.k + 1) c.args.starts.now) (length ops)) c.as_slice-items.ensures.items,
      ap length c.as_slice-items.ensures.items,
    )

pub returns : goal.returns
returns c =
    c.between.ensures
    ∙ ap (λ (ops : List PassOp). operations_in ops (record { start = get_or c.args.starts.now c.args.k 0; behind = c.first_or-behind.result })) c.as_slice-items.ensures.items
    ∙ ap (λ n. operations_in c.args.ops.now (record { start = get_or c.args.starts.now c.args.k 0; behind = n })) c.first_or-behind.ensures
    ∙ ap (λ (ops : List PassOp). operations_in c.args.ops.now (record { start = get_or c.args.starts.now c.args.k 0; behind = first_or (drop (c.args.k + 1) c.args.starts.now) (length ops) })) c.as_slice-items.ensures.items
    ∙ sym (passes_from-at c.args.ops.now c.args.starts.now c.args.k c.requires.within)
