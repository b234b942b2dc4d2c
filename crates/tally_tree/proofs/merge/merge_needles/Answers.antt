use Rattle.std.proofs.Common.{◌≡◌, ◌⊎◌, inl, inr, sym, ◌∙◌, length, arith}
use Rattle.std.proofs.lemmas.Bool.{eqb-true}
use Rattle.tally_tree.proofs.Merging.{end_long, merge_end}
use Rattle.tally_tree.proofs.merge.merge_needles.Goals.{then-loop-n-test+else-not-is_empty, else-loop-n-test}
use Rattle.tally_tree.proofs.merge.merge_needles.Goals as goal

pub append_all-requires : goal.append_all-requires
append_all-requires c =
    let ended : (length c.loop-n.a.now ≡ 0) ⊎ (length c.loop-n.b.now ≡ 0) = elim c.loop-n-test.branch [
      | then-loop-n-test+else-not-is_empty w ↦ inr (eqb-true _ 0 (sym w.is_empty-in-loop-n.ensures ∙ w.if-not-is_empty.false))
      | else-loop-n-test w ↦ inl (eqb-true _ 0 (sym c.is_empty.ensures ∙ w.loop-n-test.false))
    ] in
    omega (arith, end_long c.loop-n.a.now c.loop-n.b.now ended, c.loop-n.invariant.1)

pub returns : goal.returns
returns c = merge_end c.loop-n.out.items c.loop-n.a.now c.loop-n.b.now _ c.append_all.new.out.items _
    (elim c.loop-n-test.branch [
      | then-loop-n-test+else-not-is_empty w ↦ inr (eqb-true _ 0 (sym w.is_empty-in-loop-n.ensures ∙ w.if-not-is_empty.false))
      | else-loop-n-test w ↦ inl (eqb-true _ 0 (sym c.is_empty.ensures ∙ w.loop-n-test.false))
    ])
    c.append_all.ensures.items c.append_all-2.ensures.items c.loop-n.invariant.0
