-- The tokens that a line is written with.
use Rattle.std.proofs.Common.{◌≡◌, ℕ, suc, ◌+◌, ◌^◌, ◌||◌, ◌<◌, Bool, true, false, ℤ, pos, negsuc, List, [], ◌∷◌, length, get_or, filter, All, Option, None, Some, is_none, position, slice_get, ap, sym, subst, ◌∙◌, refl, arith, length-append}
use Rattle.std.specs.Fmt.{decimal, signed_decimal}
use Rattle.std.specs.List.{slice_split, onto_first, position_or_len, cons_option, list_any}
use Rattle.std.specs.Option.{option_map}
use Rattle.std.specs.Str.{bytes_eq}
use Rattle.std.proofs.lemmas.Bool.{cond-true, cond-false, ltb-true, false≢true}
use Rattle.std.proofs.lemmas.Int.{ints}
use Rattle.std.proofs.lemmas.List.{length-take, get_or-take}
use Rattle.std.proofs.lemmas.List.Elements.{All-nil, All-cons, All-head, All-tail, All-append, All-weaker}
use Rattle.std.proofs.lemmas.List.Quantifiers.{position-Some}
use Rattle.std.proofs.lemmas.List.Splits.{slice_split-cons_yes, slice_split-cons_no}
use Rattle.std.proofs.lemmas.List.Sums.{fails_before_first}
use Rattle.std.proofs.lemmas.Option.{slice_get-get_or}
use Rattle.std.proofs.lemmas.Slice.Eq.{bytes_eq-Decides}
use Rattle.knit_base.specs.declared.needle.Bed.{Bed}
use Rattle.knit_base.specs.declared.needle.Bed.TheVariants.{Front, FrontSlider, Back, BackSlider}
use Rattle.knit_base.specs.declared.rule.Rule.{Rule}
use Rattle.knit_base.specs.declared.rule.Rule.TheVariants.{NoCarrier}
use Rattle.knit_base.specs.declared.rule.Reason.{Reason}
use Rattle.knit_base.specs.declared.yarns.CarrierNo.{CarrierNo}
use Rattle.knit_base.specs.Spelling.{bed_word, needle_text}
use Rattle.knit_base.proofs.Places.{by_test, list_any-none}
use Rattle.knitout_reader.specs.Carriers.{is_undeclared, carriers_of, carrier_rule}
use Rattle.knitout_reader.specs.Numbers.{IsDigit}
use Rattle.knitout_reader.specs.Tokens.{tokens_of, before_comment, is_blank, is_semicolon}
use Rattle.knitout_reader.proofs.Rules.{neither_reason}
use Rattle.knitout_reader.proofs.TokenRuns.{run_has_bytes}
use Rattle.knitout_writer.specs.Canonical.{carrier_names}
use Rattle.knitout_writer.proofs.Numerals.{Spell, decimal_spells, digit_byte, IsSmall}
use Rattle.knitout_writer.proofs.SpacedTokens.{IsWord, IsWordByte, Clear}

onto_words : (b : ℕ) (parts : List (List ℕ)) → IsWordByte b → All (All IsWordByte) parts → All (All IsWordByte) (onto_first b parts)
onto_words b [] is are = All-cons (All IsWordByte) (b ∷ []) [] (All-cons IsWordByte b [] is (All-nil IsWordByte)) (All-nil (All IsWordByte))
onto_words b (part ∷ parts) is are =
    All-cons (All IsWordByte) (b ∷ part) parts (All-cons IsWordByte b part is (All-head (All IsWordByte) part parts are)) (All-tail (All IsWordByte) part parts are)

parts_words : (text : List ℕ) → Clear text → All (All IsWordByte) (slice_split is_blank text)
parts_words [] clear = All-cons (All IsWordByte) [] [] (All-nil IsWordByte) (All-nil (All IsWordByte))
parts_words (b ∷ text) clear =
    let rest : All (All IsWordByte) (slice_split is_blank text) = parts_words text (All-tail (λ byte. is_semicolon byte ≡ false) b text clear) in
    by_test (is_blank b)
    (λ is. subst (All (All IsWordByte)) (sym (slice_split-cons_yes is_blank b text is)) (All-cons (All IsWordByte) [] (slice_split is_blank text) (All-nil IsWordByte) rest))
    (λ isnt.
    subst (All (All IsWordByte)) (sym (slice_split-cons_no is_blank b text isnt))
    (onto_words b (slice_split is_blank text) (isnt, All-head (λ byte. is_semicolon byte ≡ false) b text clear) rest))

words_kept : (parts : List (List ℕ)) → All (All IsWordByte) parts → All IsWord (filter run_has_bytes parts)
words_kept [] are = All-nil IsWord
words_kept (part ∷ parts) are =
    let rest : All IsWord (filter run_has_bytes parts) = words_kept parts (All-tail (All IsWordByte) part parts are) in
    by_test (run_has_bytes part)
    (λ is.
    let word : IsWord part = record { some = ltb-true 0 (length part) is; bytes = All-head (All IsWordByte) part parts are } in
    subst (All IsWord) (sym (cond-true (run_has_bytes part) (part ∷ filter run_has_bytes parts) (filter run_has_bytes parts) is)) (All-cons IsWord part (filter run_has_bytes parts) word rest))
    (λ isnt. subst (All IsWord) (sym (cond-false (run_has_bytes part) (part ∷ filter run_has_bytes parts) (filter run_has_bytes parts) isnt)) rest)

code_clear : (line : List ℕ) → Clear (before_comment line)
code_clear line k d below =
    let n : ℕ = position_or_len is_semicolon line in
    let before : k < n = omega (arith, length-take n line, below) in
    subst (λ b. is_semicolon b ≡ false) (sym (get_or-take n line k d before)) (fails_before_first is_semicolon line k d before)

-- the tokens of a line can stand before a comment
pub line_words : (line : List ℕ) → All IsWord (tokens_of (before_comment line))
line_words line = words_kept (slice_split is_blank (before_comment line)) (parts_words (before_comment line) (code_clear line))

digits_words : (n : ℕ) (digits : List ℕ) → Spell n digits → All IsWordByte digits
digits_words n digits spell = All-weaker IsDigit IsWordByte digit_byte digits spell.each

-- a `-` and such bytes can stand in a word
pub sign_word : (digits : List ℕ) → All IsWordByte digits → All IsWordByte (45 ∷ digits)
sign_word digits are = All-cons IsWordByte 45 digits (refl, refl) are

-- so can a number in decimal
pub decimal_bytes : (n : ℕ) → n < 2 ^ 64 → All IsWordByte (decimal n)
decimal_bytes n small = digits_words n (decimal n) (decimal_spells n small)

signed_bytes : (z : ℤ) → IsSmall z → All IsWordByte (signed_decimal z)
signed_bytes (pos n) small = decimal_bytes n (omega (arith, ints, small.high))
signed_bytes (negsuc n) small = sign_word (decimal (suc n)) (decimal_bytes (suc n) (omega (arith, ints, small.low)))

bed_bytes : (bed : Bed) → All IsWordByte (bed_word bed)
bed_bytes Front = All-cons IsWordByte 102 [] (refl, refl) (All-nil IsWordByte)
bed_bytes FrontSlider = All-cons IsWordByte 102 (115 ∷ []) (refl, refl) (All-cons IsWordByte 115 [] (refl, refl) (All-nil IsWordByte))
bed_bytes Back = All-cons IsWordByte 98 [] (refl, refl) (All-nil IsWordByte)
bed_bytes BackSlider = All-cons IsWordByte 98 (115 ∷ []) (refl, refl) (All-cons IsWordByte 115 [] (refl, refl) (All-nil IsWordByte))

bed_some : (bed : Bed) → 0 < length (bed_word bed)
bed_some Front = omega arith
bed_some FrontSlider = omega arith
bed_some Back = omega arith
bed_some BackSlider = omega arith

-- the spelling of a needle is a word
pub needle_word : (bed : Bed) (z : ℤ) → IsSmall z → IsWord (needle_text (record { bed = bed; at = z }))
needle_word bed z small = record {
  some = omega (arith, bed_some bed, length-append (bed_word bed) (signed_decimal z));
  bytes = All-append IsWordByte (bed_word bed) (signed_decimal z) (bed_bytes bed) (signed_bytes z small);
}

no_place : (place : Option ℕ) (rule : Rule) (at : ℕ) → option_map {U = Reason} (λ i. record { rule = rule; at = at + i }) place ≡ None → place ≡ None
no_place None rule at e = refl
no_place (Some i) rule at e = cc

later : (a b : Bool) → (a || b) ≡ false → b ≡ false
later true b e = absurd (false≢true (sym e))
later false b e = e

back_with : (names : List (List ℕ)) (token : List ℕ) (tokens : List (List ℕ)) (place : Option ℕ) → position (bytes_eq token) names ≡ place → list_any (is_undeclared names) (token ∷ tokens) ≡ false
    → carrier_names names (carriers_of names tokens) ≡ tokens → carrier_names names (carriers_of names (token ∷ tokens)) ≡ token ∷ tokens
back_with names token tokens None is known back =
    absurd (false≢true (sym known ∙ ap (λ o. is_none (option_map {U = CarrierNo} (λ i. record { 0 = i }) o) || list_any (is_undeclared names) tokens) is))
back_with names token tokens (Some i) is known back =
    let found = position-Some (bytes_eq token) names i [] is in
    let same : token ≡ get_or names i [] = (bytes_eq-Decides token (get_or names i [])).0 found.1 in
    let name : slice_get names i ≡ Some token = slice_get-get_or names i [] found.0 ∙ ap Some (sym same) in
    ap (λ o. carrier_names names (cons_option (option_map {U = CarrierNo} (λ i. record { 0 = i }) o) (carriers_of names tokens))) is
    ∙ ap (λ o. cons_option o (carrier_names names (carriers_of names tokens))) name
    ∙ ap (λ ts. token ∷ ts) back

all_back : (names tokens : List (List ℕ)) → list_any (is_undeclared names) tokens ≡ false → carrier_names names (carriers_of names tokens) ≡ tokens
all_back names [] known = refl
all_back names (token ∷ tokens) known = back_with names token tokens (position (bytes_eq token) names) refl known (all_back names tokens (later (is_undeclared names token) (list_any (is_undeclared names) tokens) known))

-- declared carriers are written as they were
pub carriers_back : (names tokens : List (List ℕ)) (at : ℕ) → carrier_rule names at tokens ≡ None → carrier_names names (carriers_of names tokens) ≡ tokens
carriers_back names tokens at none =
    all_back names tokens (list_any-none (is_undeclared names) tokens (no_place (position (is_undeclared names) tokens) NoCarrier at (neither_reason _ _ none).0))
