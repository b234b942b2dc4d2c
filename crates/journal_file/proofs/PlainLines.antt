-- Lines that are spelt have no line feed.
use Rattle.std.proofs.Common.{◌≡◌, ◌≢◌, ◌∙◌, ℕ, suc, ◌<◌, ◌^◌, ℤ, pos, negsuc, ◌-ℤ◌, ◌≤ℤ◌, Bool, true, ◌&&◌, not, ◌==◌, Option, None, Some, IfSome, unwrap_or, List, [], ◌∷◌, ◌++◌, All, ap, sym, subst, refl, arith, codes, decimal}
use Rattle.std.specs.Fmt.{signed_decimal}
use Rattle.std.proofs.lemmas.Bool.{false≢true}
use Rattle.std.proofs.lemmas.Bool.Decides.{Decides-eqb}
use Rattle.std.proofs.lemmas.Fmt.{digits_decimal}
use Rattle.std.proofs.lemmas.Int.{ints}
use Rattle.std.proofs.lemmas.List.Concat.{flat_map-cons}
use Rattle.std.proofs.lemmas.List.Elements.{All-append, All-cons, All-head, All-nil, All-tail, All-weaker}
use Rattle.knit_base.specs.Limits.{IsFloatLimit, IsLawfulProfile}
use Rattle.knit_base.specs.Lines.{HasNoLineEnd}
use Rattle.knit_base.specs.Names.{IsName, IsNameByte, name_behind_space, spaced_names}
use Rattle.knit_base.specs.Spelling.{labelled_number}
use Rattle.knit_base.specs.declared.profile.Profile.{Profile}
use Rattle.knitout_reader.specs.Numbers.{IsDigit}
use Rattle.knit_base.proofs.Places.{by_test}
use Rattle.journal_file.specs.Spelling.{needle_limits, other_limits, profile_text}
use Rattle.journal_file.proofs.Numbers.{own_numeral_model}

-- a test that a text has no line feed, which computes
abbrev pub has_none : List ℕ → Bool
has_none [] = true
has_none (byte ∷ bytes) = not (byte == 10) && has_none bytes

pub no_feed : (text : List ℕ) → has_none text ≡ true → HasNoLineEnd text
no_feed [] is = All-nil (λ byte. byte ≢ 10)
no_feed (byte ∷ bytes) is =
    by_test (byte == 10)
    (λ feed. absurd (false≢true (sym (ap (λ b. not b && has_none bytes) feed) ∙ is)))
    (λ other. All-cons (λ b. b ≢ 10) byte bytes (λ ten. false≢true (sym other ∙ (Decides-eqb byte 10).1 ten)) (no_feed bytes (sym (ap (λ b. not b && has_none bytes) other) ∙ is)))

pub both_plain : (a b : List ℕ) → HasNoLineEnd a → HasNoLineEnd b → HasNoLineEnd (a ++ b)
both_plain a b p q = All-append (λ byte. byte ≢ 10) a b p q

pub decimal_plain : (n : ℕ) → n < 2 ^ 64 → HasNoLineEnd (decimal n)
decimal_plain n fits = All-weaker IsDigit (λ byte. byte ≢ 10) (λ byte digit ten. omega (arith, digit.0, ten)) (decimal n) (digits_decimal own_numeral_model n fits)

pub labelled_plain : (label : List ℕ) (n : ℕ) → has_none label ≡ true → n < 2 ^ 64 → HasNoLineEnd (labelled_number label n)
labelled_plain label n none fits = both_plain label (decimal n) (no_feed label none) (decimal_plain n fits)

signed_plain : (n : ℤ) → (pos 0 -ℤ pos 4096) ≤ℤ n → n ≤ℤ pos 4096 → HasNoLineEnd (signed_decimal n)
signed_plain (pos n) least most = decimal_plain n (omega (arith, ints, most))
signed_plain (negsuc n) least most = All-cons (λ byte. byte ≢ 10) 45 (decimal (suc n)) (λ is. absurd (omega (arith, is))) (decimal_plain (suc n) (omega (arith, ints, least)))

float_fits : (float : Option ℕ) → IfSome float IsFloatLimit → unwrap_or float 0 < 2 ^ 64
float_fits None is = omega arith
float_fits (Some n) is = let most = is.most in omega (arith, most)

pub profile_plain : (p : Profile) → IsLawfulProfile p → HasNoLineEnd (profile_text p)
profile_plain p is =
    let lowest = is.lowest in
    let ordered = is.ordered in
    let highest = is.highest in
    let rack = is.rack in
    let hold = is.hold in
    both_plain (codes "profile ") (needle_limits p ++ other_limits p) (no_feed (codes "profile ") refl)
    (both_plain (needle_limits p) (other_limits p)
    (both_plain (signed_decimal p.low) (codes " " ++ signed_decimal p.high) (signed_plain p.low lowest (omega (arith, ints, ordered, highest)))
    (both_plain (codes " ") (signed_decimal p.high) (no_feed (codes " ") refl) (signed_plain p.high (omega (arith, ints, lowest, ordered)) highest)))
    (both_plain (labelled_number (codes " ") p.rack) (labelled_number (codes " ") p.hold ++ labelled_number (codes " ") (unwrap_or p.float 0)) (labelled_plain (codes " ") p.rack refl (omega (arith, rack)))
    (both_plain (labelled_number (codes " ") p.hold) (labelled_number (codes " ") (unwrap_or p.float 0)) (labelled_plain (codes " ") p.hold refl (omega (arith, hold))) (labelled_plain (codes " ") (unwrap_or p.float 0) refl (float_fits p.float is.float)))))

pub names_plain : (names : List (List ℕ)) → All IsName names → HasNoLineEnd (spaced_names names)
names_plain [] each = All-nil (λ byte. byte ≢ 10)
names_plain (name ∷ names) each =
    let first = All-head IsName name names each in
    subst HasNoLineEnd (sym (flat_map-cons name_behind_space name names))
    (both_plain (name_behind_space name) (spaced_names names) (All-cons (λ byte. byte ≢ 10) 32 name (λ is. absurd (omega (arith, is))) (All-weaker IsNameByte (λ byte. byte ≢ 10) (λ byte plain. plain.2) name first.plain)) (names_plain names (All-tail IsName name names each)))
