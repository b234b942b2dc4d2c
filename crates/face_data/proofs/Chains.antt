-- Conditions on sizes are settled by the chain of one needle.
use Rattle.std.proofs.Common.{◌≡◌, ℕ, ◌+◌, ◌≤◌, Bool, true, false, ◌&&◌, ◌||◌, List, [], ◌∷◌, ◌++◌, length, refl, sym, ap, ◌∙◌, subst, arith, inl, inr, ◌⊎◌}
use Rattle.std.specs.Prelude.{nat_le, if◌then◌else◌}
use Rattle.std.specs.List.{Contains, list_any}
use Rattle.std.proofs.lemmas.Bool.{and_parts, and_from, leb-true, le-leb}
use Rattle.std.proofs.lemmas.List.{append-nil}
use Rattle.std.proofs.lemmas.List.Concat.{flat_map-append}
use Rattle.std.proofs.lemmas.List.Folds.{list_any-append}
use Rattle.std.proofs.lemmas.Map.Views.{Contains-from_any, list_any-from_Contains}
use Rattle.knit_base.specs.declared.needle.Needle.{Needle}
use Rattle.knit_base.specs.Needle.{same_needle, same_needle-true}
use Rattle.face_data.specs.declared.bearing.Bearing.TheVariants.{Implied}
use Rattle.face_data.specs.declared.face.Effect.{Effect}
use Rattle.face_data.specs.Answers.{ConditionAnswer}
use Rattle.face_data.specs.Answers.ConditionAnswer.{asks}
use Rattle.face_data.specs.Bearings.{bearing, if_so, all_in}
use Rattle.face_data.specs.Chains.{marks_in, chain_at, size_mark_covers, chain_bearing}
use Rattle.face_data.specs.Composition.{from_bearing, answer_of_kept}
use Rattle.face_data.specs.Conditions.{Ask}
use Rattle.face_data.specs.Conditions.Ask.{rack_is, carrier_in, carrier_out, hook_free, hook_is, hook_lacks, size_at_most, last_near}
use Rattle.face_data.specs.Goodness.{OwnsOnce, NeedlesLieIn, size_needles_in}
use Rattle.face_data.specs.Segments.{names_through}
use Rattle.face_data.specs.Sets.{IsDistinct, AreNeedlesWithin, NestedOrApart}
use Rattle.face_data.specs.Summaries.{AskedCondition, Summary}
use Rattle.face_data.proofs.Bound.{needle_laws}
use Rattle.face_data.proofs.Goodness.{names_read}
use Rattle.face_data.proofs.Items.{sum_of_ones_is_length, length_within, all_in_from}
use Rattle.face_data.proofs.Members.{Contains-head, Contains-tail, without_first_needle, sum_dropped, dropped_keeps}
use Rattle.face_data.proofs.KeptChecks.{ComesFrom}
use Rattle.face_data.proofs.Owners.{member_cases, nested_through, nested_or_apart_through}
use Rattle.face_data.proofs.Bearings.{all_in_within}

length-dropped : (n : Needle) (ys : List Needle) → Contains ys n → 1 + length (without_first_needle n ys) ≡ length ys
length-dropped n ys there = omega (arith, sum_dropped (λ m. 1) n ys there, sum_of_ones_is_length ys, sum_of_ones_is_length (without_first_needle n ys))

member_or_more : (xs ys : List Needle) (n : Needle) → IsDistinct xs → AreNeedlesWithin xs ys → length ys ≤ length xs → Contains ys n → Contains xs n ⊎ (Contains xs n → ⊥) → Contains xs n
member_or_more xs ys n distinct within few there (inl here) = here
member_or_more xs ys n distinct within few there (inr none) =
    let left = length_within xs (without_first_needle n ys) distinct (λ m h. dropped_keeps n m ys (λ same. none (subst (Contains xs) (sym same) h)) (within m h)) in
    absurd (omega (arith, left, length-dropped n ys there, few))

-- distinct needles within a list that is no longer are all of it
pub all_of_it : (xs ys : List Needle) → IsDistinct xs → AreNeedlesWithin xs ys → length ys ≤ length xs → AreNeedlesWithin ys xs
all_of_it xs ys distinct within few n there = member_or_more xs ys n distinct within few there (member_cases xs n)

same_tests : (a b : Bool) → (a ≡ true → b ≡ true) → (b ≡ true → a ≡ true) → a ≡ b
same_tests true b to from = sym (to refl)
same_tests false true to from = from refl
same_tests false false to from = refl

first_of_nested : (n : Needle) (names earlier : List Needle) → IsDistinct earlier → NestedOrApart earlier (n ∷ names) → Contains earlier n → length (n ∷ names) ≤ length earlier →
    AreNeedlesWithin (n ∷ names) earlier
first_of_nested n names earlier distinct (inl within) here few = all_of_it earlier (n ∷ names) distinct within few
first_of_nested n names earlier distinct (inr (inl within)) here few = within
first_of_nested n names earlier distinct (inr (inr apart)) here few = absurd (apart n here (Contains-head n names))

-- Of distinct lists that are nested or apart, the earlier has all of the later if it has its first needle and isn't shorter.
pub all_in-nested : (n : Needle) (names earlier : List Needle) → IsDistinct (n ∷ names) → IsDistinct earlier → NestedOrApart earlier (n ∷ names) →
    all_in (n ∷ names) earlier ≡ (list_any (same_needle n) earlier && nat_le (length (n ∷ names)) (length earlier))
all_in-nested n names earlier distinct distinct_earlier nested = same_tests _ _
    (λ all.
    let within : AreNeedlesWithin (n ∷ names) earlier = all_in_within (n ∷ names) earlier all in
    and_from (list_any (same_needle n) earlier) (nat_le (length (n ∷ names)) (length earlier))
    (list_any-from_Contains needle_laws n earlier (within n (Contains-head n names)))
    (le-leb (length (n ∷ names)) (length earlier) (length_within (n ∷ names) earlier distinct within)))
    (λ tests.
    let both = and_parts (list_any (same_needle n) earlier) (nat_le (length (n ∷ names)) (length earlier)) tests in
    all_in_from (n ∷ names) earlier
    (first_of_nested n names earlier distinct_earlier nested (Contains-from_any {eq = same_needle} same_needle-true n earlier both.0)
    (leb-true (length (n ∷ names)) (length earlier) both.1)))

mark_alone : (has : Bool) (len least count most : ℕ) →
    ((has && nat_le count len) && nat_le least most) ≡ list_any (size_mark_covers count most) (if has then (record { len = len; most = least }) ∷ [] else [])
mark_alone false len least count most = refl
mark_alone true len least count most = or_nothing (nat_le count len && nat_le least most)
  where
    or_nothing : (b : Bool) → b ≡ (b || false)
    or_nothing true = refl
    or_nothing false = refl

-- what one condition says of a later one on sizes
bearing-marks : (p : Ask) (n : Needle) (names : List Needle) (most : ℕ) → IsDistinct (n ∷ names) → IsDistinct (size_needles_in p) → NestedOrApart (size_needles_in p) (n ∷ names) →
    bearing p (size_at_most (n ∷ names) most) ≡ if_so (list_any (size_mark_covers (length (n ∷ names)) most) (marks_in n p)) Implied
unfolding bearing
bearing-marks (size_at_most earlier least) n names most distinct distinct_earlier nested =
    ap (λ b. if_so (b && nat_le least most) Implied) (all_in-nested n names earlier distinct distinct_earlier nested)
    ∙ ap (λ b. if_so b Implied) (mark_alone (list_any (same_needle n) earlier) (length earlier) least (length (n ∷ names)) most)
bearing-marks (rack_is x) n names most distinct distinct_earlier nested = refl
bearing-marks (carrier_in x) n names most distinct distinct_earlier nested = refl
bearing-marks (carrier_out x) n names most distinct distinct_earlier nested = refl
bearing-marks hook_free n names most distinct distinct_earlier nested = refl
bearing-marks (hook_is x) n names most distinct distinct_earlier nested = refl
bearing-marks (hook_lacks x) n names most distinct distinct_earlier nested = refl
bearing-marks (last_near c at float) n names most distinct distinct_earlier nested = refl

implied_either : (a b : Bool) (rest : ConditionAnswer) → from_bearing (if_so a Implied) (from_bearing (if_so b Implied) rest) ≡ from_bearing (if_so (a || b) Implied) rest
implied_either true b rest = refl
implied_either false b rest = refl

-- What kept conditions say of a condition on sizes is what the chain of its first needle says, where all lists are distinct and nested
-- or apart.
pub settled-sizes : (kept : List AskedCondition) (n : Needle) (names : List Needle) (most : ℕ) → IsDistinct (n ∷ names) →
    ((c : AskedCondition) → Contains kept c → IsDistinct (size_needles_in c.ask)) → ((c : AskedCondition) → Contains kept c → NestedOrApart (size_needles_in c.ask) (n ∷ names)) →
    answer_of_kept kept (size_at_most (n ∷ names) most) ≡ from_bearing (chain_bearing (chain_at kept) (n ∷ names) most) (asks (size_at_most (n ∷ names) most))
unfolding answer_of_kept
settled-sizes [] n names most distinct each nested = refl
settled-sizes (c ∷ cs) n names most distinct each nested =
    let later = settled-sizes cs n names most distinct (λ d there. each d (Contains-tail c cs d there)) (λ d there. nested d (Contains-tail c cs d there)) in
    let here = bearing-marks c.ask n names most distinct (each c (Contains-head c cs)) (nested c (Contains-head c cs)) in
    let test = size_mark_covers (length (n ∷ names)) most in
    ap (from_bearing (bearing c.ask (size_at_most (n ∷ names) most))) later
    ∙ ap (λ r. from_bearing r (from_bearing (chain_bearing (chain_at cs) (n ∷ names) most) (asks (size_at_most (n ∷ names) most)))) here
    ∙ implied_either (list_any test (marks_in n c.ask)) (list_any test (chain_at cs n)) (asks (size_at_most (n ∷ names) most))
    ∙ ap (λ b. from_bearing (if_so b Implied) (asks (size_at_most (n ∷ names) most))) (sym (list_any-append test (marks_in n c.ask) (chain_at cs n)))

-- a kept condition, and one of the second block read through the first
pub kept_nested : (e : Effect) (a b : Summary) → OwnsOnce a.changes → ((c : AskedCondition) → Contains a.checks c → NeedlesLieIn a.changes (size_needles_in c.ask)) →
    ((c d : AskedCondition) → Contains b.checks c → Contains b.checks d → NestedOrApart (size_needles_in c.ask) (size_needles_in d.ask)) →
    (c d : AskedCondition) → ComesFrom e a.lasts a.changes a.lines a.checks b.checks c → Contains b.checks d → NestedOrApart (size_needles_in c.ask) (names_through a.changes (size_needles_in d.ask))
kept_nested e a b owns lies nested c d (inl here) there = nested_or_apart_through a.changes (size_needles_in c.ask) (size_needles_in d.ask) owns (lies c here)
kept_nested e a b owns lies nested c d (inr from) there =
    subst (λ names. NestedOrApart names (names_through a.changes (size_needles_in d.ask))) (sym (names_read e a.lasts a.changes from.0.ask c.ask from.2))
    (nested_through a.changes (size_needles_in from.0.ask) (size_needles_in d.ask) owns (nested from.0 d from.1 there))

-- the chains with one condition more
pub chain_at-push : (kept : List AskedCondition) (c : AskedCondition) (n : Needle) → chain_at (kept ++ c ∷ []) n ≡ chain_at kept n ++ marks_in n c.ask
chain_at-push kept c n =
    flat_map-append (λ (d : AskedCondition). marks_in n d.ask) kept (c ∷ []) ∙ ap (λ marks. chain_at kept n ++ marks) (append-nil (marks_in n c.ask))
