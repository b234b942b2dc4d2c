use Rattle.std.proofs.Common.{◌≡◌, length, refl, sym, subst, ◌∙◌, arith}
use Rattle.std.proofs.lemmas.Bool.{true≢false}
use Rattle.pass_grouping.specs.Groupings.{first_or, IsPass}
use Rattle.pass_grouping.proofs.Groupings.{passes-all, passes-at, part_at}
use Rattle.pass_grouping.proofs.certificate.is_grouping.Goals as goal

pub returns-then-not-is_pass : goal.returns-then-not-is_pass
returns-then-not-is_pass c = let h = c.is_pass.ensures in let k = c.first_or-behind.ensures in (
  λ passes. absurd (true≢false (sym passes)),
  λ grouping. sym c.if-not-is_pass.true ∙ c.is_pass.ensures.1
      (subst (λ n. IsPass c.args.ops.now (record { start = (part_at c.args.starts.now (length c.args.ops.now) c.loop-k.k).start; behind = n })) (sym c.first_or-behind.ensures)
      (passes-at c.args.ops.now c.args.starts.now (length c.args.ops.now) c.loop-k.k (omega arith) grouping.passes)),
)

pub returns : goal.returns
returns c =
    let first : first_or c.args.starts.now (length c.args.ops.now) ≡ 0 = sym c.first_or.ensures ∙ c.if-first_or-ne0.false in (
      λ _. record { first = first; passes = passes-all c.args.ops.now c.args.starts.now (length c.args.ops.now) (λ k below. c.loop-k.invariant k (omega arith)) },
      λ _. refl,
    )
