-- The needles at one place before are the same, too.
use Rattle.std.proofs.Common.{◌≡◌, ◌+◌, ◌-◌, arith, drop, refl, subst}
use Rattle.face_data.specs.Composition.{changes_merged}
use Rattle.face_data.specs.Through.{changes_through}
use Rattle.summary_compose.specs.Changes.{changes_in}
use Rattle.summary_compose.proofs.Turns.{same_before}
use Rattle.summary_compose.proofs.merging.change_same.Goals as goal

pub loop-i-preserved : goal.loop-i-preserved
loop-i-preserved c =
    let a = c.args.a.now in
    let b = c.args.b.now in
    let k = c.loop-i.i - 1 in
    let before : c.loop-i.i ≡ k + 1 = omega (arith, c.loop-i-test.true) in
    record {
      same = same_before a b k _ (omega (arith, c.loop-i-test.true, c.loop-i.invariant.within)) (omega (arith, c.loop-i-test.true, c.loop-i.invariant.within, c.if-a-b.false))
          ((c.if-not-is_same.ensures).0 refl)
          (subst (λ m. changes_merged (drop m (changes_in a)) (drop m (changes_through (changes_in a) a.lines (changes_in b))) ≡ drop m (changes_through (changes_in a) a.lines (changes_in b))) before c.loop-i.invariant.same);
      within = omega (arith, c.loop-i.invariant.within);
    }
