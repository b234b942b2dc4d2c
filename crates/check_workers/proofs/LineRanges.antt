-- Lines from one place to another, and those behind them.
use Rattle.std.proofs.Common.{◌≡◌, ◌-◌, ◌≤◌, ℕ, List, ◌++◌, length, take, drop, ap, sym, ◌∙◌, arith}
use Rattle.std.specs.List.{slice_range}
use Rattle.std.proofs.Math.Seq.{take-add}
use Rattle.std.proofs.lemmas.List.{drop-drop, take_rest}

-- one range, and the one behind it
pub both_ranges : {X : Type 0} (xs : List X) (from mid to : ℕ) → from ≤ mid → mid ≤ to → slice_range xs from mid ++ slice_range xs mid to ≡ slice_range xs from to
both_ranges xs from mid to before behind =
    let behind_first : drop (mid - from) (drop from xs) ≡ drop mid xs = drop-drop (mid - from) from xs ∙ ap (λ n. drop n xs) (omega arith) in
    ap (λ ys. slice_range xs from mid ++ take (to - mid) ys) (sym behind_first)
    ∙ sym (take-add (mid - from) (to - mid) (drop from xs))
    ∙ ap (λ n. take n (drop from xs)) (omega arith)

-- up to the last one
pub range_rest : {X : Type 0} (xs : List X) (from to : ℕ) → to ≡ length xs → slice_range xs from to ≡ drop from xs
range_rest xs from to all = ap (λ n. take (n - from) (drop from xs)) all ∙ take_rest xs from
