-- Two good faces whose lists are packed and whose lines add up can be composed.
use Rattle.std.proofs.Common.{◌≡◌, ℕ, ◌+◌, ◌*◌, ◌≤◌, ◌<◌, ◌^◌, ◌⊎◌, inl, inr, List, [], ◌∷◌, ◌++◌, None, length, ap, ◌∙◌, subst, arith, get_or}
use Rattle.std.specs.Prelude.{All}
use Rattle.std.specs.List.{Contains}
use Rattle.std.proofs.Math.Nat.{mul-le-mul_right}
use Rattle.std.proofs.lemmas.List.Elements.{All-contains, All-append, Contains-append_cases, Contains-append_right}
use Rattle.std.proofs.lemmas.List.Sums.{sum_by-le}
use Rattle.knit_base.specs.declared.needle.Needle.{Needle}
use Rattle.face_data.specs.declared.face.Check.{Check}
use Rattle.face_data.specs.declared.face.Cond.{Cond}
use Rattle.face_data.specs.declared.face.Cond.TheVariants.{RackIs, CarrierIn, CarrierOut, HookFree, HookIs, HookLacks, SizeAtMost, LastNear}
use Rattle.face_data.specs.declared.face.Effect.{Effect}
use Rattle.face_data.specs.declared.face.Ending.{Ending}
use Rattle.face_data.specs.declared.face.Ending.TheVariants.{Through, Broken}
use Rattle.face_data.specs.declared.face.FaceView.{FaceView}
use Rattle.face_data.specs.Composition.{composed, composed_at, closed_at, changes_with, reads}
use Rattle.face_data.specs.Conditions.{ask_of, part_of}
use Rattle.face_data.specs.Digests.{CarrierFits}
use Rattle.face_data.specs.Goodness.{AskFits, EndingFits, IsGood, IsGoodFace}
use Rattle.face_data.specs.Segments.{segments_on, names_through, new_of, new_through}
use Rattle.face_data.specs.Sets.{IsDistinct, AreNeedlesWithin}
use Rattle.face_data.specs.Summaries.{Summary}
use Rattle.face_data.specs.View.{IsPacked, asked_of_check, size_needles_of, summary_of}
use Rattle.face_data.proofs.Goodness.{composed_good, good_within, within_known}
use Rattle.face_data.specs.Items.{items, most_items}
use Rattle.face_data.proofs.Items.{change_items_bound, items_bound, new_on_at_most}
use Rattle.face_data.proofs.Members.{Contains-head, Contains-tail, Contains-cons_cases, contains_mapped}
use Rattle.face_data.proofs.Owners.{distinct_through, member_cases}
use Rattle.face_data.proofs.FaceOffsets.{offsets_fit}
use Rattle.summary_compose.specs.Changes.{changes_in, merged_of, segs_in}
use Rattle.summary_compose.specs.Composing.{Composes, EndingRises}
use Rattle.summary_compose.specs.Known.{AreGoodFaces, IsFewThrough, checks_in}
use Rattle.face_data.specs.Spots.{IsNumbered}
use Rattle.face_data.proofs.NeedleSpots.{few_needles}

few_within : (xs known : List Needle) → IsDistinct xs → AreNeedlesWithin xs known → All IsNumbered known → length xs ≤ 2 ^ 18
few_within xs known d w numbers = few_needles xs d (λ n there. All-contains IsNumbered known n numbers (w n there))

-- the same needles, each once
record Once (known : List Needle) : Type 0 where
  needles : List Needle
  distinct : IsDistinct needles
  all : AreNeedlesWithin known needles
  none_else : AreNeedlesWithin needles known

once_more : (x : Needle) (xs : List Needle) (o : Once xs) → Contains o.needles x ⊎ (Contains o.needles x → ⊥) → Once (x ∷ xs)
once_more x xs o (inl there) = record {
  needles = o.needles;
  distinct = o.distinct;
  all = λ n h. elim (Contains-cons_cases x xs n h) [ inl same ↦ subst (Contains o.needles) same there | inr later ↦ o.all n later ];
  none_else = λ n h. Contains-tail x xs n (o.none_else n h);
}
once_more x xs o (inr absent) = record {
  needles = x ∷ o.needles;
  distinct = (absent, o.distinct);
  all = λ n h. elim (Contains-cons_cases x xs n h) [
    | inl same ↦ subst (Contains (x ∷ o.needles)) same (Contains-head x o.needles)
    | inr later ↦ Contains-tail x o.needles n (o.all n later)
  ];
  none_else = λ n h. elim (Contains-cons_cases x o.needles n h) [
    | inl same ↦ subst (Contains (x ∷ xs)) same (Contains-head x xs)
    | inr later ↦ Contains-tail x xs n (o.none_else n later)
  ];
}

once : (known : List Needle) → Once known
once [] = record { needles = []; distinct = tt; all = λ n h. h; none_else = λ n h. h }
once (x ∷ xs) = once_more x xs (once xs) (member_cases (once xs).needles x)

-- a good summary has few segments
few_segs : (carriers limit : ℕ) (known : List Needle) (f : Summary) → IsGood carriers limit known f → All IsNumbered known → limit < 2 ^ 8 → segs_in f.changes < 2 ^ 32
few_segs carriers limit known f g numbers few_loops =
    let o = once known in
    let few = few_needles o.needles o.distinct (λ n there. All-contains IsNumbered known n numbers (o.none_else n there)) in
    let bound = change_items_bound carriers limit o.needles f (good_within carriers limit known o.needles f o.all g) in
    let most : (limit + 2) * length o.needles ≤ 257 * length o.needles = mul-le-mul_right (length o.needles) (omega (arith, few_loops)) in
    omega (arith, few, bound, most)

few_read : (carriers limit : ℕ) (first second names : List Needle) (a : FaceView) (c : Cond) → IsGood carriers limit first (summary_of a) → All IsNumbered (first ++ second) → limit < 2 ^ 8 →
    AskFits carriers limit second (ask_of names c) → IsFewThrough a (size_needles_of names c)
few_read carriers limit first second names a (SizeAtMost p most) ga numbers few_loops fits =
    let xs = part_of names p in
    let own : length xs ≤ 2 ^ 18 = few_needles xs fits.distinct (λ n there. All-contains IsNumbered (first ++ second) n numbers (Contains-append_right first second n (fits.within n there))) in
    let read = few_within (names_through (changes_in a) xs) (first ++ second) (distinct_through (changes_in a) xs ga.fair.owns fits.distinct)
    (within_known (changes_in a) a.lines first second xs ga.fair.changes_fit fits.within) numbers in
    let new : new_through (changes_in a) xs ≤ length xs * limit
    = sum_by-le (λ n. new_of (segments_on (changes_in a) n)) limit xs (λ k d below. new_on_at_most carriers limit first (summary_of a) ga (get_or xs k d)) in
    let many : length xs * limit ≤ 2 ^ 18 * limit = mul-le-mul_right limit own in
    record { names = omega (arith, read); new = omega (arith, new, many, few_loops) }
few_read carriers limit first second names a (RackIs q) ga numbers few_loops fits = record { names = omega arith; new = omega arith }
few_read carriers limit first second names a (CarrierIn c) ga numbers few_loops fits = record { names = omega arith; new = omega arith }
few_read carriers limit first second names a (CarrierOut c) ga numbers few_loops fits = record { names = omega arith; new = omega arith }
few_read carriers limit first second names a HookFree ga numbers few_loops fits = record { names = omega arith; new = omega arith }
few_read carriers limit first second names a (HookIs set) ga numbers few_loops fits = record { names = omega arith; new = omega arith }
few_read carriers limit first second names a (HookLacks c) ga numbers few_loops fits = record { names = omega arith; new = omega arith }
few_read carriers limit first second names a (LastNear c at float) ga numbers few_loops fits = record { names = omega arith; new = omega arith }

few_named : (carriers limit : ℕ) (known names : List Needle) (c : Cond) → All IsNumbered known → AskFits carriers limit known (ask_of names c) → length (size_needles_of names c) < 2 ^ 32
few_named carriers limit known names (SizeAtMost p most) numbers fits = omega (arith, few_within (part_of names p) known fits.distinct fits.within numbers)
few_named carriers limit known names (RackIs q) numbers fits = omega arith
few_named carriers limit known names (CarrierIn c) numbers fits = omega arith
few_named carriers limit known names (CarrierOut c) numbers fits = omega arith
few_named carriers limit known names HookFree numbers fits = omega arith
few_named carriers limit known names (HookIs set) numbers fits = omega arith
few_named carriers limit known names (HookLacks c) numbers fits = omega arith
few_named carriers limit known names (LastNear c at float) numbers fits = omega arith

carrier_fits : (carriers limit : ℕ) (known names : List Needle) (c : Cond) → carriers ≤ 64 → AskFits carriers limit known (ask_of names c) → CarrierFits c
carrier_fits carriers limit known names (SizeAtMost p most) few fits = tt
carrier_fits carriers limit known names (RackIs q) few fits = tt
carrier_fits carriers limit known names (CarrierIn c) few fits = omega (arith, few, fits)
carrier_fits carriers limit known names (CarrierOut c) few fits = omega (arith, few, fits)
carrier_fits carriers limit known names HookFree few fits = tt
carrier_fits carriers limit known names (HookIs set) few fits = tt
carrier_fits carriers limit known names (HookLacks c) few fits = omega (arith, few, fits)
carrier_fits carriers limit known names (LastNear c at float) few fits = omega (arith, few, fits)

asked_at : (face : FaceView) (k : ℕ) (d : Check) → k < length face.checks.now → Contains (checks_in face) (asked_of_check face.names.now (get_or face.checks.now k d))
asked_at face k d within = contains_mapped (asked_of_check face.names.now) face.checks.now k d within

ending_rises : (carriers : ℕ) (a : FaceView) (b : Summary) (e : Ending) → EndingFits carriers b e → a.lines + b.lines < 2 ^ 32 → EndingRises a e
ending_rises carriers a b (Through effect) fits sum = tt
ending_rises carriers a b (Broken fault) fits sum = omega (arith, fits.within, sum)

-- where nothing stops, both faces' changes are merged
merged_changes : (a b : FaceView) (effect more : Effect) → a.ending ≡ Through effect → b.ending ≡ Through more → (reads effect a.lasts.now (changes_in a) a.lines (checks_in a) (checks_in b)).stop ≡ None →
    (composed (summary_of a) (summary_of b)).changes ≡ merged_of a b
merged_changes a b effect more first second goes_on =
    ap (λ e. (composed_at e (summary_of a) (summary_of b)).changes) first
    ∙ ap (λ o. (closed_at o (reads effect a.lasts.now (changes_in a) a.lines (checks_in a) (checks_in b)).checks effect (summary_of a) (summary_of b)).changes) goes_on
    ∙ ap (λ e. changes_with e (merged_of a b)) second

-- All that the code asks of two faces follows.
pub good_faces_compose : (a b : FaceView) → AreGoodFaces a b → IsPacked a → IsPacked b → a.lines + b.lines < 2 ^ 32 → Composes a b
good_faces_compose a b g pa pb sum =
    let numbers : All IsNumbered (g.first_known ++ g.second_known) = All-append IsNumbered g.first_known g.second_known g.first_numbers g.second_numbers in
    record {
      good = g;
      named = record { fit = pa.checks_fit; whole = pa.names };
      carriers = λ k d within. carrier_fits g.carriers g.limit g.first_known a.names.now (get_or a.checks.now k d).cond g.few (g.first.fair.asks_fit (asked_of_check a.names.now (get_or a.checks.now k d)) (asked_at a k d within));
      few_names = λ k d within. few_named g.carriers g.limit g.first_known a.names.now (get_or a.checks.now k d).cond g.first_numbers (g.first.fair.asks_fit (asked_of_check a.names.now (get_or a.checks.now k d)) (asked_at a k d within));
      readable = λ k d within.
          let fits = g.second.fair.asks_fit (asked_of_check b.names.now (get_or b.checks.now k d)) (asked_at b k d within) in
          record {
            fit = pb.checks_fit k d within;
            carrier = carrier_fits g.carriers g.limit g.second_known b.names.now (get_or b.checks.now k d).cond g.few fits;
            few = few_read g.carriers g.limit g.first_known g.second_known b.names.now a (get_or b.checks.now k d).cond g.first numbers g.few_loops fits;
          };
      raised = λ k d within. omega (arith, g.second.fair.within (asked_of_check b.names.now (get_or b.checks.now k d)) (asked_at b k d within), sum);
      fit = pa.changes_fit;
      order = g.first.fair.in_order;
      second_fit = pb.changes_fit;
      second_packed = record { fit = pb.changes_fit; whole = pb.segs };
      offsets = offsets_fit g.carriers g.limit g.second_known b a.lines g.second sum;
      few_segs = λ effect more first second goes_on.
          subst (λ cs. segs_in cs < 2 ^ 32) (merged_changes a b effect more first second goes_on)
          (few_segs g.carriers g.limit (g.first_known ++ g.second_known) (composed (summary_of a) (summary_of b))
          (composed_good g.carriers g.limit g.first_known g.second_known (summary_of a) (summary_of b) g.first g.second) numbers g.few_loops);
      lines = sum;
      made = omega (arith, g.first.fair.made, g.second.fair.made, sum);
      ending = ending_rises g.carriers a (summary_of b) b.ending g.second.fair.ending sum;
      lasts = g.first.fair.lasts_in_order;
    }

-- The composition of two good faces is a good face.
pub composed_good_face : (a b : FaceView) → AreGoodFaces a b → IsGoodFace (composed (summary_of a) (summary_of b))
composed_good_face a b g = record {
  carriers = g.carriers;
  limit = g.limit;
  known = g.first_known ++ g.second_known;
  few_loops = g.few_loops;
  numbers = All-append IsNumbered g.first_known g.second_known g.first_numbers g.second_numbers;
  good = composed_good g.carriers g.limit g.first_known g.second_known (summary_of a) (summary_of b) g.first g.second;
}

-- needles named twice are no more needles
pub twice_within : (known : List Needle) → AreNeedlesWithin (known ++ known) known
twice_within known n h = elim (Contains-append_cases known known n h) [ inl w ↦ w | inr w ↦ w ]

-- The composition of two summaries that are good for these needles has no more items than a good one can have.
pub composed_items : (carriers limit : ℕ) (known : List Needle) (a b : Summary) → IsGood carriers limit known a → IsGood carriers limit known b → items (composed a b) ≤ most_items carriers limit (length known)
composed_items carriers limit known a b ga gb =
    items_bound carriers limit known (composed a b) (good_within carriers limit (known ++ known) known (composed a b) (twice_within known) (composed_good carriers limit known known a b ga gb))
