-- A number behind a label.
use Rattle.std.proofs.Common.{◌≡◌, ◌∙◌, ℕ, List, ◌++◌, Option, None, Some, MatchOption, sym, subst}
use Rattle.std.proofs.lemmas.List.{append_cancel_left}
use Rattle.journal_file.specs.Words.{BeginsWithNumber, IsLabelled}

-- what was found behind a label
pub labelled-found : (text label rest : List ℕ) → text ≡ label ++ rest → (n : ℕ) (more : List ℕ) → BeginsWithNumber rest n more → IsLabelled text label n more
labelled-found text label rest is n more front = record { behind = rest; begins = is; front = front }

-- no number stands behind it
pub labelled-none : (text label rest : List ℕ) → text ≡ label ++ rest → ((n : ℕ) (more : List ℕ) → BeginsWithNumber rest n more → ⊥) → (n : ℕ) (more : List ℕ) → IsLabelled text label n more → ⊥
labelled-none text label rest is none n more it =
    none n more (subst (λ t. BeginsWithNumber t n more) (append_cancel_left label it.behind rest (sym it.begins ∙ is)) it.front)

-- what is found of a number behind a label
pub labelled-answer : {X : Type 0} (number : X → ℕ) (behind : X → List ℕ) (text label rest : List ℕ) → text ≡ label ++ rest → (found : Option X)
    → MatchOption found ((n : ℕ) (more : List ℕ) → BeginsWithNumber rest n more → ⊥) (λ x. BeginsWithNumber rest (number x) (behind x))
    → MatchOption found ((n : ℕ) (more : List ℕ) → IsLabelled text label n more → ⊥) (λ x. IsLabelled text label (number x) (behind x))
labelled-answer number behind text label rest is None none = labelled-none text label rest is none
labelled-answer number behind text label rest is (Some x) front = labelled-found text label rest is (number x) (behind x) front
