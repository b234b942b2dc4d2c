-- The lines of carriers in the report of a tally, one by one.
use Rattle.std.proofs.Common.{◌≡◌, ◌∙◌, ℕ, zero, suc, ◌+◌, ◌<◌, List, [], ◌∷◌, ◌++◌, length, drop, Some, add-one, drop-cons, get_or, ap, sym}
use Rattle.std.specs.List.{slice_get}
use Rattle.std.proofs.lemmas.List.{append_assoc}
use Rattle.verdict_report.specs.VerdictText.{Text}
use Rattle.reply_report.specs.TallyText.{carrier_line_text, with_lines}

dropped : {X : Type 0} (xs : List X) (i : ℕ) (x : X) → slice_get xs i ≡ Some x → drop i xs ≡ x ∷ drop (suc i) xs
dropped [] zero x e = cc (e)
dropped [] (suc i) x e = cc (e)
dropped (y ∷ ys) zero x e = let same : y ≡ x = cc (e) in ap (λ z. z ∷ ys) same
dropped (y ∷ ys) (suc i) x e = dropped ys i x e

-- one line more
pub with_more : (names : List Text) (numbers : List ℕ) (c n d : ℕ) (name : Text) (out more whole : Text) → slice_get names c ≡ Some name → c < length numbers → n ≡ get_or numbers c d
    → more ≡ out ++ carrier_line_text name n → out ++ with_lines (drop c names) (drop c numbers) ≡ whole → more ++ with_lines (drop (c + 1) names) (drop (c + 1) numbers) ≡ whole
with_more names numbers c n d name out more whole named in_numbers n_is more_is whole_is =
    let rest : Text = with_lines (drop (suc c) names) (drop (suc c) numbers) in
    let first : drop c names ≡ name ∷ drop (suc c) names = dropped names c name named in
    let second : drop c numbers ≡ n ∷ drop (suc c) numbers = drop-cons numbers c d in_numbers ∙ ap (λ (x : ℕ). x ∷ drop (suc c) numbers) (sym n_is) in
    ap (λ (k : ℕ). more ++ with_lines (drop k names) (drop k numbers)) (add-one c)
    ∙ (ap (λ (t : Text). t ++ rest) more_is
    ∙ (append_assoc out (carrier_line_text name n) rest
    ∙ ((λ i. out ++ with_lines (sym first i) (sym second i)) ∙ whole_is)))
