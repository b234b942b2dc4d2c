-- Numbers, needles, racks and the names of rules stand in a JSON string as they are.
use Rattle.std.proofs.Common.{◌≡◌, ◌∙◌, ℕ, zero, suc, ◌+◌, ◌/◌, ◌%◌, ◌<◌, ◌≤◌, ◌==◌, false, nat_lt, ℤ, pos, negsuc, List, [], ◌∷◌, ◌++◌, decimal, refl, ap, ap₂, arith}
use Rattle.std.specs.Fmt.{digits, digits_onto, digit_glyph, signed_decimal}
use Rattle.std.proofs.lemmas.Bool.{ltb-true, ltb-false}
use Rattle.std.proofs.lemmas.Grind.{flat_map-append}
use Rattle.json.specs.Print.{escape, escape_byte, quoted}
use Rattle.json.proofs.Printed.Strings.{escape_byte_plain}
use Rattle.knit_base.proofs.Places.{by_test}
use Rattle.knit_base.specs.Spelling.{bed_word, dir_word, needle_text, quarters_text, quarters_word, rack_text, rule_name}
use Rattle.knit_base.specs.declared.needle.Bed.{Bed}
use Rattle.knit_base.specs.declared.needle.Bed.TheVariants.{Front, FrontSlider, Back, BackSlider}
use Rattle.knit_base.specs.declared.needle.Dir.{Dir}
use Rattle.knit_base.specs.declared.needle.Dir.TheVariants.{Right, Left}
use Rattle.knit_base.specs.declared.needle.Needle.{Needle}
use Rattle.knit_base.specs.declared.rule.Rule.{Rule}
use Rattle.knit_base.specs.declared.rule.Rule.TheVariants.{Unreadable, OffBed, SliderForm, SameBed, TwoSliders, NoCarrier, CarrierTwice, RackStep, RackLimit, CarrierIsOut, CarrierIsIn, HookBusy, HookOther, CarrierHooked, NotAligned, SliderHolds, TooManyLoops, FloatTooLong}

-- no byte of the text is escaped
abbrev pub IsPlain : List ℕ → Type 0
IsPlain text = escape text ≡ text

-- a plain text stands between two quotes as it is
pub quoted-plain : (text : List ℕ) → IsPlain text → quoted text ≡ 34 ∷ (text ++ 34 ∷ [])
quoted-plain text plain = ap (λ t. 34 ∷ (t ++ 34 ∷ [])) plain

plain-append : (a b : List ℕ) → IsPlain a → IsPlain b → IsPlain (a ++ b)
plain-append a b first second = flat_map-append escape_byte a b ∙ ap₂ (λ (s t : List ℕ). s ++ t) first second

digit_plain : (d : ℕ) → escape_byte (digit_glyph false d) ≡ digit_glyph false d ∷ []
digit_plain d =
    by_test (nat_lt d 10)
    (λ small. let below : d < 10 = ltb-true d 10 small in rw small (escape_byte_plain (48 + d) (λ e. omega arith) (λ e. omega arith) (omega arith)))
    (λ large. let above : 10 ≤ d = ltb-false d 10 large in rw large (escape_byte_plain (87 + d) (λ e. omega arith) (λ e. omega arith) (omega arith)))

digits_plain : (k n : ℕ) (acc : List ℕ) → IsPlain acc → IsPlain (digits_onto k 10 false n acc)
digits_plain zero n acc plain = plain
digits_plain (suc k) n acc plain =
    let more : IsPlain (digit_glyph false (n % 10) ∷ acc) = ap₂ (λ (s t : List ℕ). s ++ t) (digit_plain (n % 10)) plain in
    by_test (n / 10 == 0)
    (λ last. rw last more)
    (λ goes_on. rw goes_on (digits_plain k (n / 10) (digit_glyph false (n % 10) ∷ acc) more))

decimal_plain : (n : ℕ) → IsPlain (decimal n)
unfolding digits
decimal_plain n = digits_plain 64 n [] refl

signed_plain : (z : ℤ) → IsPlain (signed_decimal z)
unfolding escape_byte
signed_plain (pos n) = decimal_plain n
signed_plain (negsuc n) = ap (λ t. 45 ∷ t) (decimal_plain (suc n))

bed_plain : (bed : Bed) → IsPlain (bed_word bed)
unfolding escape_byte
bed_plain Front = refl
bed_plain FrontSlider = refl
bed_plain Back = refl
bed_plain BackSlider = refl

-- the spelling of a needle is plain
pub needle_plain : (needle : Needle) → IsPlain (needle_text needle)
needle_plain needle = plain-append (bed_word needle.bed) (signed_decimal needle.at) (bed_plain needle.bed) (signed_plain needle.at)

-- so is that of a direction
pub dir_plain : (dir : Dir) → IsPlain (dir_word dir)
unfolding escape_byte
dir_plain Right = refl
dir_plain Left = refl

word_plain : (quarters : ℕ) → IsPlain (quarters_word quarters)
unfolding escape_byte
word_plain quarters =
    by_test (quarters == 0) (λ none. rw none refl)
    (λ some. by_test (quarters == 1) (λ one. rw (some, one) refl)
    (λ more. by_test (quarters == 2) (λ two. rw (some, more, two) refl) (λ three. rw (some, more, three) refl)))

quarters_plain : (quarters : ℕ) → IsPlain (quarters_text quarters)
quarters_plain quarters = plain-append (decimal (quarters / 4)) (quarters_word (quarters % 4)) (decimal_plain (quarters / 4)) (word_plain (quarters % 4))

-- and that of a rack
pub rack_plain : (quarters : ℤ) → IsPlain (rack_text quarters)
unfolding escape_byte
rack_plain (pos quarters) = quarters_plain quarters
rack_plain (negsuc quarters) = ap (λ t. 45 ∷ t) (quarters_plain (suc quarters))

-- and the name of a rule
pub rule_plain : (rule : Rule) → IsPlain (rule_name rule)
unfolding escape_byte
rule_plain Unreadable = refl
rule_plain OffBed = refl
rule_plain SliderForm = refl
rule_plain SameBed = refl
rule_plain TwoSliders = refl
rule_plain NoCarrier = refl
rule_plain CarrierTwice = refl
rule_plain RackStep = refl
rule_plain RackLimit = refl
rule_plain CarrierIsOut = refl
rule_plain CarrierIsIn = refl
rule_plain HookBusy = refl
rule_plain HookOther = refl
rule_plain CarrierHooked = refl
rule_plain NotAligned = refl
rule_plain SliderHolds = refl
rule_plain TooManyLoops = refl
rule_plain FloatTooLong = refl
