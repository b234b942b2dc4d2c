use Rattle.std.proofs.lemmas.List.Filters.{dedup_is}
use Rattle.std.proofs.lemmas.List.Kept.{Contains-dedup, Contains-from_dedup}
use Rattle.std.proofs.lemmas.List.Sorted.{Contains-permutation, IsPermutation-sym}
use Rattle.tally_tree.proofs.Order.{rising_kept, test_equivalence, test_same}
use Rattle.tally_tree.proofs.lines.sort_needles.Goals as goal

pub returns-clause-rising : goal.returns-clause-rising
returns-clause-rising c =
    let is = dedup_is _ _ _ c.dedup.ensures.filtered in
    rw is (rising_kept _ c.sort_unstable.ensures.sorted)

pub returns-clause-same : goal.returns-clause-same
returns-clause-same c =
    let is = dedup_is _ _ _ c.dedup.ensures.filtered in
    let moved = c.sort_unstable.ensures.permutation in
    λ n. (
      λ h. Contains-permutation _ _ n (IsPermutation-sym _ _ moved) (Contains-from_dedup _ _ n (rw is at h)),
      λ h. rw is (Contains-dedup test_equivalence test_same _ n (Contains-permutation _ _ n moved h)),
    )
