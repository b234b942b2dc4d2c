-- The sum of the tallies of some parts, one part after the other.
use Rattle.std.proofs.Common.{◌≡◌, ◌∙◌, ℕ, suc, ◌+◌, ◌*◌, ◌<◌, ◌≤◌, List, [], ◌∷◌, ◌++◌, length, drop, get_or, replicate, Option, None, Some, add-one, drop-cons, ap, sym, subst, refl, arith}
use Rattle.std.specs.Prelude.{flat_map}
use Rattle.std.specs.List.{Contains}
use Rattle.std.proofs.lemmas.Grind.{flat_map-append}
use Rattle.std.proofs.lemmas.List.{append-nil, append_assoc, drop_all, length-append}
use Rattle.std.proofs.Math.Nat.{mul-le-mul_right}
use Rattle.std.proofs.lemmas.List.Elements.{Contains-append_left, Contains-append_right}
use Rattle.knit_base.specs.declared.instr.Read.{Read}
use Rattle.knit_base.specs.declared.needle.Needle.{Needle}
use Rattle.edit_book.specs.Replies.{line_limit}
use Rattle.tree_shape.specs.declared.node.Child.{Child}
use Rattle.value_tree.specs.Parts.{StandFor}
use Rattle.tally_tree.specs.Laws.{part_zip, with_each_long}
use Rattle.tally_tree.specs.Leaves.{AreTallies, TallyStandsFor, all_of}
use Rattle.tally_tree.specs.Sums.{is_tally_joined, tallies_fit}
use Rattle.tally_tree.specs.Tallies.{TallyCounts, CountsFit, IsTallyOf, cost, joined_counts, operated_on}
use Rattle.tally_tree.proofs.Counting.{zeros_from}
use Rattle.tally_tree.proofs.FewerNeedles.{costs_no_more}

no_texts : (carriers : ℕ) (texts : List (List Read)) → AreTallies carriers texts [] → texts ≡ []
no_texts carriers [] h = refl
no_texts carriers (text ∷ texts) h = absurd h

-- some parts are done, whose readings come to the sum, and the others stand for the texts that are left
pub record IsSumSoFar (carriers : ℕ) (value_of : Child → Option TallyCounts) (others : List Child) (texts : List (List Read)) (sum : TallyCounts) : Type 0 where
  pub done : List Read
  pub later : List (List Read)
  pub leaves : List TallyCounts
  pub whole : all_of texts ≡ done ++ all_of later
  pub sum_is : IsTallyOf carriers done sum
  pub stand : StandFor TallyStandsFor value_of others leaves
  pub tallies : AreTallies carriers later leaves

-- the same, and the next part has this tally
pub record IsNextPart (carriers : ℕ) (value_of : Child → Option TallyCounts) (others : List Child) (texts : List (List Read)) (sum part : TallyCounts) : Type 0 where
  pub done : List Read
  pub here : List Read
  pub later : List (List Read)
  pub leaves : List TallyCounts
  pub whole : all_of texts ≡ (done ++ here) ++ all_of later
  pub sum_is : IsTallyOf carriers done sum
  pub part_is : IsTallyOf carriers here part
  pub stand : StandFor TallyStandsFor value_of others leaves
  pub tallies : AreTallies carriers later leaves

-- the tally of no line
abbrev pub of_no_line : ℕ → TallyCounts
of_no_line carriers = record { lines = 0; with_each = replicate carriers 0; ops = 0 ∷ 0 ∷ 0 ∷ 0 ∷ []; needles = [] }

pub is_of_no_line : (carriers : ℕ) → IsTallyOf carriers [] (of_no_line carriers)
is_of_no_line carriers = record { lines = refl; with_each = zeros_from carriers 0; ops = refl; rising = tt; needles = λ n. (λ h. h, λ h. h) }

module _ (carriers : ℕ) (value_of : Child → Option TallyCounts) where
  -- no part is done
  pub sum_begins : (parts : List Child) (leaves : List TallyCounts) (texts : List (List Read)) → StandFor TallyStandsFor value_of parts leaves → AreTallies carriers texts leaves → IsSumSoFar carriers value_of parts texts (of_no_line carriers)
  sum_begins parts leaves texts stand tallies = record { done = []; later = texts; leaves = leaves; whole = refl; sum_is = is_of_no_line carriers; stand = stand; tallies = tallies }

  -- all are
  pub sum_ends : (texts : List (List Read)) (sum : TallyCounts) → IsSumSoFar carriers value_of [] texts sum → IsTallyOf carriers (all_of texts) sum
  sum_ends texts sum s =
      let none : s.later ≡ [] = no_texts carriers s.later (subst (AreTallies carriers s.later) s.stand s.tallies) in
      subst (λ rs. IsTallyOf carriers rs sum) (sym (s.whole ∙ ap (λ (t : List (List Read)). s.done ++ all_of t) none ∙ append-nil s.done)) s.sum_is

  -- the next part's texts are told apart from those behind it
  pub next_part : (part : Child) (others : List Child) (texts : List (List Read)) (sum v : TallyCounts) → IsSumSoFar carriers value_of (part ∷ others) texts sum → value_of part ≡ Some v → IsNextPart carriers value_of others texts sum v
  next_part part others texts sum v s is =
      let front = s.stand.0 in
      let back = s.stand.1 in
      let same : s.stand.2 ≡ v = cc (s.stand.4, is) in
      let p = part_zip (IsTallyOf carriers) s.later front back (subst (AreTallies carriers s.later) s.stand.3 s.tallies) in
      record {
        done = s.done;
        here = all_of p.front;
        later = p.back;
        leaves = back;
        whole = s.whole ∙ ap (λ t. s.done ++ t) (ap all_of p.whole ∙ flat_map-append (λ (t : List Read). t) p.front p.back) ∙ sym (append_assoc s.done (all_of p.front) (all_of p.back));
        sum_is = s.sum_is;
        part_is = subst (IsTallyOf carriers (all_of p.front)) same (s.stand.5 carriers p.front p.in_front);
        stand = s.stand.6;
        tallies = p.in_back;
      }

  module _ (others : List Child) (texts : List (List Read)) (sum v : TallyCounts) (next : IsNextPart carriers value_of others texts sum v) where
    -- the sum and the tally of the next part can be added
    pub next_fits : length (all_of texts) ≤ line_limit → CountsFit sum v
    next_fits few = tallies_fit next.done next.here sum v carriers next.sum_is next.part_is (omega (arith, few, ap length next.whole, length-append (next.done ++ next.here) (all_of next.later), length-append next.done next.here))

    -- and come to what is done then
    pub next_summed : IsSumSoFar carriers value_of others texts (joined_counts sum v)
    next_summed = record {
      done = next.done ++ next.here;
      later = next.later;
      leaves = next.leaves;
      whole = next.whole;
      sum_is = is_tally_joined next.done next.here sum v carriers next.sum_is next.part_is;
      stand = next.stand;
      tallies = next.tallies;
    }

    -- neither costs more than the whole
    pub next_costs : (w : TallyCounts) → IsTallyOf carriers (all_of texts) w → cost sum + cost v ≤ 2 * cost w
    next_costs w t =
        let sum_costs : cost sum ≤ cost w = costs_no_more carriers next.done (all_of texts) sum w next.sum_is t (λ n h. in_all n (Contains-append_left _ _ n h)) in
        let part_costs : cost v ≤ cost w = costs_no_more carriers next.here (all_of texts) v w next.part_is t (λ n h. in_all n (Contains-append_right _ _ n h)) in
        omega arith
      where
        operated : flat_map operated_on (all_of texts) ≡ (flat_map operated_on next.done ++ flat_map operated_on next.here) ++ flat_map operated_on (all_of next.later)
        operated =
            ap (flat_map operated_on) next.whole ∙ flat_map-append operated_on (next.done ++ next.here) (all_of next.later)
            ∙ ap (λ ns. ns ++ flat_map operated_on (all_of next.later)) (flat_map-append operated_on next.done next.here)

        in_all : (n : Needle) → Contains (flat_map operated_on next.done ++ flat_map operated_on next.here) n → Contains (flat_map operated_on (all_of texts)) n
        in_all n h = subst (λ ns. Contains ns n) (sym operated) (Contains-append_left _ _ n h)

-- So many of the parts are done, whatever leaves they stand for and whatever texts these are of, and each took no more steps than
-- the tally of all texts costs twice.
pub record HasSummed (carriers : ℕ) (value_of : Child → Option TallyCounts) (parts : List Child) (done : ℕ) (sum : TallyCounts) (start now : ℕ) : Type 0 where
  pub sums : (leaves : List TallyCounts) (texts : List (List Read)) → StandFor TallyStandsFor value_of parts leaves → AreTallies carriers texts leaves → IsSumSoFar carriers value_of (drop done parts) texts sum
  pub few : (leaves : List TallyCounts) (texts : List (List Read)) (w : TallyCounts) → StandFor TallyStandsFor value_of parts leaves → AreTallies carriers texts leaves → IsTallyOf carriers (all_of texts) w → now ≤ start + done * (2 * cost w)

-- before the first part
pub summed_none : (carriers : ℕ) (value_of : Child → Option TallyCounts) (parts : List Child) (sum : TallyCounts) (start : ℕ) → sum ≡ of_no_line carriers → HasSummed carriers value_of parts 0 sum start start
summed_none carriers value_of parts sum start is = record {
  sums = λ leaves texts stand tallies. subst (IsSumSoFar carriers value_of parts texts) (sym is) (sum_begins carriers value_of parts leaves texts stand tallies);
  few = λ leaves texts w stand tallies t. omega arith;
}

module _ (carriers : ℕ) (value_of : Child → Option TallyCounts) (parts : List Child) (i : ℕ) (sum : TallyCounts) (start now : ℕ) (summed : HasSummed carriers value_of parts i sum start now) where
  -- behind the last part
  pub summed_all : length parts ≤ i → (leaves : List TallyCounts) (texts : List (List Read)) → StandFor TallyStandsFor value_of parts leaves → AreTallies carriers texts leaves → IsTallyOf carriers (all_of texts) sum
  summed_all end leaves texts stand tallies =
      sum_ends carriers value_of texts sum (subst (λ others. IsSumSoFar carriers value_of others texts sum) (drop_all i parts end) (summed.sums leaves texts stand tallies))

  module _ (d : Child) (more : i < length parts) where
    at_next : (leaves : List TallyCounts) (texts : List (List Read)) → StandFor TallyStandsFor value_of parts leaves → AreTallies carriers texts leaves → IsSumSoFar carriers value_of (get_or parts i d ∷ drop (suc i) parts) texts sum
    at_next leaves texts stand tallies = subst (λ others. IsSumSoFar carriers value_of others texts sum) (drop-cons parts i d more) (summed.sums leaves texts stand tallies)

    -- the next part has a tally
    pub summed_there : ◌≡◌ {A = Option TallyCounts} None (value_of (get_or parts i d)) → (leaves : List TallyCounts) (texts : List (List Read)) → StandFor TallyStandsFor value_of parts leaves → AreTallies carriers texts leaves → ⊥
    summed_there none leaves texts stand tallies = let s = at_next leaves texts stand tallies in let there = s.stand.4 in cc (there, none)

  module _ (d : Child) (v : TallyCounts) (more : i < length parts) (is : Some v ≡ value_of (get_or parts i d)) where
    next_in : (leaves : List TallyCounts) (texts : List (List Read)) → StandFor TallyStandsFor value_of parts leaves → AreTallies carriers texts leaves → IsNextPart carriers value_of (drop (suc i) parts) texts sum v
    next_in leaves texts stand tallies = next_part carriers value_of (get_or parts i d) (drop (suc i) parts) texts sum v (at_next d more leaves texts stand tallies) (sym is)

    -- the next part's tally can be added, if there are few lines in all
    pub summed_fits : (leaves : List TallyCounts) (texts : List (List Read)) → StandFor TallyStandsFor value_of parts leaves → AreTallies carriers texts leaves → length (all_of texts) ≤ line_limit → CountsFit sum v
    summed_fits leaves texts stand tallies few = next_fits carriers value_of (drop (suc i) parts) texts sum v (next_in leaves texts stand tallies) few

    -- the sum is for as many carriers as the texts
    pub summed_carriers : (leaves : List TallyCounts) (texts : List (List Read)) → StandFor TallyStandsFor value_of parts leaves → AreTallies carriers texts leaves → length sum.with_each ≡ carriers
    summed_carriers leaves texts stand tallies = let next = next_in leaves texts stand tallies in with_each_long carriers next.done sum next.sum_is

    module _ (then : ℕ) (charged : then ≤ now + (cost sum + cost v)) where
      pub summed_few : (leaves : List TallyCounts) (texts : List (List Read)) (w : TallyCounts) → StandFor TallyStandsFor value_of parts leaves → AreTallies carriers texts leaves → IsTallyOf carriers (all_of texts) w → then ≤ start + (i + 1) * (2 * cost w)
      summed_few leaves texts w stand tallies t =
          omega (arith, charged, summed.few leaves texts w stand tallies t, next_costs carriers value_of (drop (suc i) parts) texts sum v (next_in leaves texts stand tallies) w t)

      -- behind the next part
      pub summed_more : (whole : TallyCounts) → whole ≡ joined_counts sum v → HasSummed carriers value_of parts (i + 1) whole start then
      summed_more whole same = record {
        sums = λ leaves texts stand tallies.
            let next = next_summed carriers value_of (drop (suc i) parts) texts sum v (next_in leaves texts stand tallies) in
            let moved = subst (λ k. IsSumSoFar carriers value_of (drop k parts) texts (joined_counts sum v)) (sym (add-one i)) next in
            subst (IsSumSoFar carriers value_of (drop (i + 1) parts) texts) (sym same) moved;
        few = summed_few;
      }

      -- where memory runs out at the next part
      pub summed_within : (leaves : List TallyCounts) (texts : List (List Read)) (w : TallyCounts) → StandFor TallyStandsFor value_of parts leaves → AreTallies carriers texts leaves → IsTallyOf carriers (all_of texts) w → then ≤ start + length parts * (2 * cost w)
      summed_within leaves texts w stand tallies t =
          let most : (i + 1) * (2 * cost w) ≤ length parts * (2 * cost w) = mul-le-mul_right (2 * cost w) (omega arith) in
          omega (arith, most, summed_few leaves texts w stand tallies t)
