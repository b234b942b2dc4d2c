-- Windows, one after the other.
use Rattle.std.proofs.Common.{◌≡◌, ℕ, ◌+◌, ◌<◌, ◌≤◌, List, length, get_or, All, sym, ap, subst, ◌∙◌, refl, arith, zero, suc}
use Rattle.std.proofs.lemmas.List.{get_or_default}
use Rattle.pass_grouping.specs.declared.operation.PassOp.{PassOp}
use Rattle.pass_grouping.specs.declared.certificate.Window.{Window}
use Rattle.pass_grouping.specs.Groupings.{IsWindow, AreApart}
use Rattle.pass_grouping.proofs.Passes.{by_order}

-- the first windows are windows and lie apart, and the last of them ends here
pub record WindowsSoFar (ops : List PassOp) (windows : List Window) (i last : ℕ) : Type 0 where
  pub hold : (k : ℕ) (d : Window) → k < i → IsWindow ops (get_or windows k d)
  pub apart : (k : ℕ) (d : Window) → k + 1 < i → (get_or windows k d).to ≤ (get_or windows (k + 1) d).from
  pub begins : i ≡ 0 → last ≡ 0
  pub ends : (k : ℕ) (d : Window) → k + 1 ≡ i → last ≡ (get_or windows k d).to

pub windows-start : (ops : List PassOp) (windows : List Window) → WindowsSoFar ops windows 0 0
windows-start ops windows = record {
  hold = λ k d below. absurd (omega arith);
  apart = λ k d below. absurd (omega arith);
  begins = λ _. refl;
  ends = λ k d is. absurd (omega arith);
}

pub windows-next : (ops : List PassOp) (windows : List Window) (i last : ℕ) (w : Window) → i < length windows → w ≡ get_or windows i w → WindowsSoFar ops windows i last
    → last ≤ w.from → IsWindow ops w → WindowsSoFar ops windows (i + 1) w.to
windows-next ops windows i last w within is so_far behind here =
    let at : (d : Window) → w ≡ get_or windows i d = λ d. is ∙ get_or_default windows i w d within in
    record {
      hold = λ k d below. by_order k i (λ before. so_far.hold k d before)
          (λ now. let same : k ≡ i = omega arith in subst (λ n. IsWindow ops (get_or windows n d)) (sym same) (subst (IsWindow ops) (at d) here));
      apart = λ k d below. by_order (k + 1) i (λ before. so_far.apart k d before)
          (λ now. let same : k + 1 ≡ i = omega arith in
          subst (λ n. (get_or windows k d).to ≤ (get_or windows n d).from) (sym same)
          (omega (arith, so_far.ends k d same, ap (λ (v : Window). v.from) (at d), behind)));
      begins = λ none. absurd (omega arith);
      ends = λ k d same. let now : k ≡ i = omega arith in subst (λ n. w.to ≡ (get_or windows n d).to) (sym now) (ap (λ (v : Window). v.to) (at d));
    }

-- a window that begins before the last of the others ends isn't apart from it
pub windows-overlap : (ops : List PassOp) (windows : List Window) (i last : ℕ) (w : Window) → i < length windows → w ≡ get_or windows i w → WindowsSoFar ops windows i last
    → w.from < last → ¬ AreApart windows
windows-overlap ops windows zero last w within is so_far before apart = absurd (omega (arith, so_far.begins refl))
windows-overlap ops windows (suc k) last w within is so_far before apart =
    let same : k + 1 ≡ suc k = omega arith in
    let low : (get_or windows k w).to ≤ (get_or windows (k + 1) w).from = apart k w (omega arith) in
    let here : w ≡ get_or windows (k + 1) w = subst (λ n. w ≡ get_or windows n w) (sym same) is in
    absurd (omega (arith, low, so_far.ends k w same, ap (λ (v : Window). v.from) here))

pub windows-broken : (ops : List PassOp) (windows : List Window) (i : ℕ) (w : Window) → i < length windows → w ≡ get_or windows i w → All (IsWindow ops) windows → IsWindow ops w
windows-broken ops windows i w within is hold = subst (IsWindow ops) (sym is) (hold i w within)
