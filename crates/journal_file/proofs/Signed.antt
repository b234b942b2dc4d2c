-- A whole number at the front of a text.
use Rattle.std.proofs.Common.{◌≡◌, ◌∙◌, ℕ, suc, ℤ, pos, negsuc, ◌-ℤ◌, ◌≤ℤ◌, ◌<◌, List, [], ◌∷◌, ◌++◌, length, All, codes, ap, sym, arith, decimal}
use Rattle.std.proofs.lemmas.List.Elements.{All-head}
use Rattle.std.specs.Fmt.{signed_decimal}
use Rattle.std.proofs.lemmas.Int.{ints}
use Rattle.std.proofs.lemmas.Fmt.{decimal_nonempty, digits_decimal}
use Rattle.knitout_reader.specs.Numbers.{IsDigit}
use Rattle.knitout_reader.proofs.Signs.{first_byte}
use Rattle.journal_file.specs.Words.{EndsNumber, BeginsWithNumber, IsLabelled, BeginsWithSignedNumber}
use Rattle.journal_file.proofs.EntryLines.{labelled_is, labelled_one, labelled_spelt}
use Rattle.journal_file.proofs.Numbers.{front_one, own_numeral_model}

no_sign : (ds rest behind : List ℕ) → All IsDigit ds → 0 < length ds → ds ++ rest ≡ 45 ∷ behind → ⊥
no_sign [] rest behind digits some same = omega (arith, some)
no_sign (d ∷ ds) rest behind digits some same = let digit = All-head IsDigit d ds digits in omega (arith, digit.0, first_byte _ _ _ _ same)

-- a text begins with a number or with a sign
sign_or : (text : List ℕ) (n size : ℕ) (rest more : List ℕ) → BeginsWithNumber text n rest → IsLabelled text (codes "-") size more → ⊥
sign_or text n size rest more front it =
    no_sign (decimal n) rest it.behind (digits_decimal own_numeral_model n (omega (arith, front.fits))) (decimal_nonempty n (omega (arith, front.fits))) (sym front.spelt ∙ it.begins)

-- no whole number is spelt with a sign before 0
pub zero_none : (text rest : List ℕ) (size : ℕ) → IsLabelled text (codes "-") size rest → size ≡ 0 → (n : ℤ) (more : List ℕ) → BeginsWithSignedNumber text n more → ⊥
zero_none text rest size it zero (pos n) more front = sign_or text n size more rest front it
zero_none text rest size it zero (negsuc n) more found =
    let same = labelled_one text (codes "-") size (suc n) rest more it found in
    omega (arith, same.0, zero)

-- there is one of them
pub signed_one : (text : List ℕ) (n m : ℤ) (rest more : List ℕ) → BeginsWithSignedNumber text n rest → BeginsWithSignedNumber text m more → (n ≡ m) × (rest ≡ more)
signed_one text (pos n) (pos m) rest more p q = let w = front_one text n m rest more p q in (ap pos w.0, w.1)
signed_one text (negsuc n) (negsuc m) rest more p q = let w = labelled_one text (codes "-") (suc n) (suc m) rest more p q in (ap negsuc (omega (arith, w.0)), w.1)
signed_one text (pos n) (negsuc m) rest more p q = absurd (sign_or text n (suc m) rest more p q)
signed_one text (negsuc n) (pos m) rest more p q = absurd (sign_or text m (suc n) more rest q p)

-- it is spelt so
pub signed_spelt : (text : List ℕ) (n : ℤ) (rest : List ℕ) → BeginsWithSignedNumber text n rest → text ≡ signed_decimal n ++ rest
signed_spelt text (pos n) rest it = it.spelt
signed_spelt text (negsuc n) rest it = labelled_spelt text (codes "-") (suc n) rest it

pub signed_is : (text : List ℕ) (n : ℤ) (rest : List ℕ) → text ≡ signed_decimal n ++ rest → n ≤ℤ pos 4096 → (pos 0 -ℤ pos 4096) ≤ℤ n → EndsNumber rest → BeginsWithSignedNumber text n rest
signed_is text (pos n) rest is most least ends = record { spelt = is; fits = omega (arith, ints, most); ends = ends }
signed_is text (negsuc n) rest is most least ends = labelled_is text (codes "-") (suc n) rest is (omega (arith, ints, least)) ends
