-- The places of needles: each needle of the beds has one of its own, and places rise as needles do.
use Rattle.std.proofs.Common.{◌≡◌, ◌≢◌, ℕ, ◌+◌, ◌*◌, ◌-◌, ◌<◌, ◌≤◌, nat_lt, ℤ, pos, ◌+ℤ◌, ◌-ℤ◌, ◌≤ℤ◌, ◌<ℤ◌, Bool, true, false, cond, List, [], length, get_or, refl, sym, ap, ◌∙◌, arith}
use Rattle.std.specs.Int.RustNames.{unsigned_abs}
use Rattle.std.specs.declared.cmp.Ordering.TheVariants.{Less}
use Rattle.std.specs.Ordering.{int_cmp}
use Rattle.std.proofs.lemmas.Bool.{true≢false}
use Rattle.std.proofs.lemmas.Int.{ints}
use Rattle.std.proofs.lemmas.List.{get_or-set_same, get_or-set_other}
use Rattle.std.proofs.Math.ListN.{set}
use Rattle.knit_base.proofs.Needles.{same_needle-refl}
use Rattle.knit_base.proofs.Places.{by_test}
use Rattle.knit_base.specs.declared.needle.Bed.{Bed}
use Rattle.knit_base.specs.declared.needle.Bed.TheVariants.{Front, FrontSlider, Back, BackSlider}
use Rattle.knit_base.specs.declared.needle.Needle.{Needle}
use Rattle.knit_base.specs.Needle.{needle_cmp, same_needle, same_needle-true}
use Rattle.carriage_model.specs.Places.{Spans, is_spanned, first_of_bed, bed_at, stack_place, needle_at, stack_in}

pub distance : (low at : ℤ) → low ≤ℤ at → pos (unsigned_abs (at -ℤ low)) ≡ (at -ℤ low)
distance low at above = omega (arith, ints)

pub spans_is_spanned : (low : ℤ) (width : ℕ) (at : ℤ) → Spans low width at → is_spanned low width at ≡ true
spans_is_spanned low width at s = grind (arith, ints)

pub is_spanned_spans : (low : ℤ) (width : ℕ) (at : ℤ) → is_spanned low width at ≡ true → Spans low width at
is_spanned_spans low width at e = grind (arith, ints)

pub below-width : (low : ℤ) (width : ℕ) (at : ℤ) → Spans low width at → unsigned_abs (at -ℤ low) < width
below-width low width at s = omega (arith, ints, distance low at s.above)

bed-within : (width : ℕ) (bed : Bed) (above : ℕ) → above < width → first_of_bed width bed + above < 4 * width
bed-within width Front above less = omega arith
bed-within width FrontSlider above less = omega arith
bed-within width Back above less = omega arith
bed-within width BackSlider above less = omega arith

-- a needle's place is one of the row
pub place-within : (low : ℤ) (width : ℕ) (n : Needle) → Spans low width n.at → stack_place low width n < 4 * width
place-within low width n s = bed-within width n.bed (unsigned_abs (n.at -ℤ low)) (below-width low width n.at s)

bed_at-place : (width : ℕ) (bed : Bed) (above : ℕ) → above < width → bed_at width (first_of_bed width bed + above) ≡ bed
bed_at-place width Front above less = grind arith
bed_at-place width FrontSlider above less = grind arith
bed_at-place width Back above less = grind arith
bed_at-place width BackSlider above less = grind arith

back_up : (low at : ℤ) (first : ℕ) → low ≤ℤ at → (low +ℤ pos (first + unsigned_abs (at -ℤ low) - first)) ≡ at
back_up low at first above = omega (arith, ints, distance low at above)

-- the needle at a needle's place is that needle
pub needle_at-place : (low : ℤ) (width : ℕ) (n : Needle) → Spans low width n.at → needle_at low width (stack_place low width n) ≡ n
needle_at-place low width n s =
    let bed : bed_at width (stack_place low width n) ≡ n.bed = bed_at-place width n.bed (unsigned_abs (n.at -ℤ low)) (below-width low width n.at s) in
    let at : (low +ℤ pos (stack_place low width n - first_of_bed width (bed_at width (stack_place low width n)))) ≡ n.at =
    ap (λ b. low +ℤ pos (stack_place low width n - first_of_bed width b)) bed ∙ back_up low n.at (first_of_bed width n.bed) s.above in
    λ i. record { bed = bed i; at = at i }

pub first-reached : (width place : ℕ) → first_of_bed width (bed_at width place) ≤ place
first-reached width place =
    by_test (nat_lt place width) (λ e. grind arith) (λ e.
    by_test (nat_lt place (2 * width)) (λ f. grind arith) (λ f.
    by_test (nat_lt place (3 * width)) (λ g. grind arith) (λ g. grind arith)))

pub above-width : (width place : ℕ) → place < 4 * width → place - first_of_bed width (bed_at width place) < width
above-width width place within =
    by_test (nat_lt place width) (λ e. grind arith) (λ e.
    by_test (nat_lt place (2 * width)) (λ f. grind arith) (λ f.
    by_test (nat_lt place (3 * width)) (λ g. grind arith) (λ g. grind arith)))

-- the needle at a place has that place, and is one of the beds
pub needle_at-spans : (low : ℤ) (width place : ℕ) → place < 4 * width → Spans low width (needle_at low width place).at
needle_at-spans low width place within = record {
  above = omega (arith, ints);
  below = omega (arith, ints, above-width width place within);
}

above-again : (low : ℤ) (above : ℕ) → unsigned_abs ((low +ℤ pos above) -ℤ low) ≡ above
above-again low above = omega (arith, ints)

pub place-needle_at : (low : ℤ) (width place : ℕ) → stack_place low width (needle_at low width place) ≡ place
place-needle_at low width place =
    omega (arith, first-reached width place, above-again low (place - first_of_bed width (bed_at width place)))

-- two needles have two places
pub places-apart : (low : ℤ) (width : ℕ) (a b : Needle) → Spans low width a.at → Spans low width b.at → a ≢ b → stack_place low width a ≢ stack_place low width b
places-apart low width a b s t apart e = apart (sym (needle_at-place low width a s) ∙ ap (needle_at low width) e ∙ needle_at-place low width b t)

less-number : (i j : ℤ) → i <ℤ j → int_cmp i j ≡ Less
less-number i j less = grind (arith, ints)

-- of two needles that of the lower place comes first
rising : (low : ℤ) (width : ℕ) (x y : Bed) (a b : ℕ) → a < width → b < width → first_of_bed width x + a < first_of_bed width y + b
    → needle_cmp (record { bed = x; at = low +ℤ pos a }) (record { bed = y; at = low +ℤ pos b }) ≡ Less
rising low width Front Front a b p q less = less-number (low +ℤ pos a) (low +ℤ pos b) (omega (arith, ints))
rising low width Front FrontSlider a b p q less = refl
rising low width Front Back a b p q less = refl
rising low width Front BackSlider a b p q less = refl
rising low width FrontSlider Front a b p q less = absurd (omega arith)
rising low width FrontSlider FrontSlider a b p q less = less-number (low +ℤ pos a) (low +ℤ pos b) (omega (arith, ints))
rising low width FrontSlider Back a b p q less = refl
rising low width FrontSlider BackSlider a b p q less = refl
rising low width Back Front a b p q less = absurd (omega arith)
rising low width Back FrontSlider a b p q less = absurd (omega arith)
rising low width Back Back a b p q less = less-number (low +ℤ pos a) (low +ℤ pos b) (omega (arith, ints))
rising low width Back BackSlider a b p q less = refl
rising low width BackSlider Front a b p q less = absurd (omega arith)
rising low width BackSlider FrontSlider a b p q less = absurd (omega arith)
rising low width BackSlider Back a b p q less = absurd (omega arith)
rising low width BackSlider BackSlider a b p q less = less-number (low +ℤ pos a) (low +ℤ pos b) (omega (arith, ints))

pub needles-rise : (low : ℤ) (width p q : ℕ) → p < q → q < 4 * width → needle_cmp (needle_at low width p) (needle_at low width q) ≡ Less
needles-rise low width p q less within =
    let before : p < 4 * width = omega arith in
    let sum : first_of_bed width (bed_at width p) + (p - first_of_bed width (bed_at width p)) < first_of_bed width (bed_at width q) + (q - first_of_bed width (bed_at width q)) =
    omega (arith, first-reached width p, first-reached width q) in
    rising low width (bed_at width p) (bed_at width q) _ _ (above-width width p before) (above-width width q within) sum

distinct : (a b : Needle) → same_needle a b ≡ false → b ≢ a
distinct a b other e = true≢false (sym (same_needle-refl a) ∙ ap (same_needle a) (sym e) ∙ other)

off_not-on : (low : ℤ) (width : ℕ) (n q : Needle) → Spans low width n.at → is_spanned low width q.at ≡ false → n ≢ q
off_not-on low width n q on off e = true≢false (sym (spans_is_spanned low width n.at on) ∙ ap (λ (m : Needle). is_spanned low width m.at) e ∙ off)

set-there : (low : ℤ) (width : ℕ) (stacks : List (List ℕ)) (n q : Needle) (loops : List ℕ) → Spans low width n.at → length stacks ≡ 4 * width
    → (b : Bool) → is_spanned low width q.at ≡ b → (same : Bool) → same_needle n q ≡ same
    → cond b (get_or (set stacks (stack_place low width n) loops) (stack_place low width q) []) [] ≡ cond same loops (cond b (get_or stacks (stack_place low width q) []) [])
set-there low width stacks n q loops on full true here true same =
    let within : stack_place low width n < length stacks = omega (arith, full, place-within low width n on) in
    ap (λ m. get_or (set stacks (stack_place low width n) loops) (stack_place low width m) []) (sym (same_needle-true n q same)) ∙ get_or-set_same stacks (stack_place low width n) loops [] within
set-there low width stacks n q loops on full true here false same =
    get_or-set_other stacks (stack_place low width n) (stack_place low width q) loops []
    (places-apart low width q n (is_spanned_spans low width q.at here) on (distinct n q same))
set-there low width stacks n q loops on full false off true same = absurd (off_not-on low width n q on off (same_needle-true n q same))
set-there low width stacks n q loops on full false off false same = refl

pub set-stack : (low : ℤ) (width : ℕ) (old new : List (List ℕ)) (n : Needle) (loops : List ℕ) → Spans low width n.at → length old ≡ 4 * width → new ≡ set old (stack_place low width n) loops
    → (q : Needle) → stack_in low width new q ≡ cond (same_needle n q) loops (stack_in low width old q)
set-stack low width old new n loops on full is q =
    ap (λ stacks. stack_in low width stacks q) is ∙ set-there low width old n q loops on full (is_spanned low width q.at) refl (same_needle n q) refl

-- the stack of a needle on the beds is the one at its place
pub stack-at : (low : ℤ) (width : ℕ) (stacks : List (List ℕ)) (n : Needle) → Spans low width n.at → stack_in low width stacks n ≡ get_or stacks (stack_place low width n) []
stack-at low width stacks n on = ap (λ b. cond b (get_or stacks (stack_place low width n) []) []) (spans_is_spanned low width n.at on)

either-none : (b : Bool) (loops : List ℕ) → loops ≡ [] → cond b loops [] ≡ []
either-none true loops e = e
either-none false loops e = refl

-- no needle holds loops where all stacks are empty
pub none-held : (low : ℤ) (width : ℕ) (stacks : List (List ℕ)) (n : Needle) → ((k : ℕ) → get_or stacks k [] ≡ []) → stack_in low width stacks n ≡ []
none-held low width stacks n bare = either-none (is_spanned low width n.at) (get_or stacks (stack_place low width n) []) (bare (stack_place low width n))
