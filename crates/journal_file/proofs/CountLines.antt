-- Lines of counts, from what is found at their front.
use Rattle.std.proofs.Common.{◌≡◌, ◌∙◌, ℕ, ◌<◌, ◌≤◌, ◌^◌, List, [], ◌∷◌, ◌++◌, length, ap, sym, subst, refl, arith, append-nil, decimal}
use Rattle.knit_base.specs.Spelling.{labelled_number}
use Rattle.std.proofs.lemmas.List.{append_cancel_left}
use Rattle.journal_file.specs.CountLines.{IsCount}
use Rattle.journal_file.specs.Words.{BeginsWithNumber, IsLabelled}
use Rattle.journal_file.proofs.Numbers.{front_one}

-- a label and a number alone
labelled_whole : (label : List ℕ) (n : ℕ) → n < 2 ^ 32 → IsLabelled (labelled_number label n) label n []
labelled_whole label n fits = record { behind = decimal n; begins = refl; front = record { spelt = sym (append-nil (decimal n)); fits = fits; ends = tt } }

-- what begins so and goes on no further is the line of the count
pub count-found : (line label rest : List ℕ) (least most n : ℕ) → IsLabelled line label n rest → length rest ≡ 0 → least ≤ n → n ≤ most → IsCount label least most n line
count-found line label [] least most n it none enough few =
    record { spelt = it.begins ∙ ap (λ t. label ++ t) (it.front.spelt ∙ append-nil (decimal n)); enough = enough; few = few }
count-found line label (b ∷ rest) least most n it none enough few = absurd (omega (arith, none))

-- a line of a count begins with that number, and with no other, and ends with it
pub count-is : (line label rest : List ℕ) (least most n m : ℕ) → most < 2 ^ 32 → IsLabelled line label n rest → IsCount label least most m line → (n ≡ m) × (length rest ≡ 0)
count-is line label rest least most n m fits it count =
    let same : decimal m ≡ it.behind = append_cancel_left label (decimal m) it.behind (sym count.spelt ∙ it.begins) in
    let whole : BeginsWithNumber (decimal m) m [] = record { spelt = sym (append-nil (decimal m)); fits = omega (arith, fits, count.few); ends = tt } in
    let w = front_one it.behind n m rest [] it.front (subst (λ t. BeginsWithNumber t m []) same whole) in
    (w.0, ap length w.1)

-- a line that doesn't begin with the label and a number is none of a count
pub count-none : (line label : List ℕ) (least most : ℕ) → most < 2 ^ 32 → ((n : ℕ) (rest : List ℕ) → IsLabelled line label n rest → ⊥) → (m : ℕ) → IsCount label least most m line → ⊥
count-none line label least most fits none m count =
    none m [] (subst (λ t. IsLabelled t label m []) (sym count.spelt) (labelled_whole label m (omega (arith, fits, count.few))))
