-- Lines begin with one opening at most.
use Rattle.std.proofs.Common.{◌≡◌, ℕ, suc, ◌+◌, List, [], ◌∷◌, ◌++◌, length, drop, Option, Some, None, ap, ◌∙◌, append-nil, sym, refl, subst, arith, length-append}
use Rattle.opening_reader.specs.Laws.{OneOpening}
use Rattle.opening_reader.specs.Openings.{AskFor, AreOpeningLines, IsUnfinished, nothing_yet, told_in, wanted_in, wanting}
use Rattle.opening_reader.specs.declared.opening.OpeningKind.{OpeningKind}
use Rattle.opening_reader.specs.declared.opening.OpeningKind.TheVariants.{Text}
use Rattle.opening_reader.specs.declared.opening.Wanted.{Wanted}
use Rattle.opening_reader.proofs.TakenLines.{told-more, wanted_of_kind}

-- of two fronts of the same lines one begins with the other
data AreFronts (xs ys : List (List ℕ)) : Type 0 where
  same : xs ≡ ys → AreFronts xs ys
  longer : (z : List ℕ) (zs : List (List ℕ)) → xs ≡ ys ++ z ∷ zs → AreFronts xs ys
  shorter : (z : List ℕ) (zs : List (List ℕ)) → ys ≡ xs ++ z ∷ zs → AreFronts xs ys

abbrev first_of : List (List ℕ) → List ℕ
first_of [] = []
first_of (x ∷ xs) = x

abbrev number_of : Option Wanted → ℕ
number_of None = 0
number_of (Some wanted) = wanted.missing

abbrev kind_of : Option Wanted → OpeningKind
kind_of None = Text
kind_of (Some wanted) = wanted.kind

fronts-by : (x y : List ℕ) (xs ys : List (List ℕ)) → x ≡ y → AreFronts xs ys → AreFronts (x ∷ xs) (y ∷ ys)
fronts-by x y xs ys e (same is) = same (ap (λ (l : List ℕ). l ∷ xs) e ∙ ap (λ (l : List (List ℕ)). y ∷ l) is)
fronts-by x y xs ys e (longer z zs is) = longer z zs (ap (λ (l : List ℕ). l ∷ xs) e ∙ ap (λ (l : List (List ℕ)). y ∷ l) is)
fronts-by x y xs ys e (shorter z zs is) = shorter z zs (ap (λ (l : List ℕ). l ∷ ys) (sym e) ∙ ap (λ (l : List (List ℕ)). x ∷ l) is)

fronts : (xs ys more rest : List (List ℕ)) → xs ++ more ≡ ys ++ rest → AreFronts xs ys
fronts [] [] more rest e = same refl
fronts [] (y ∷ ys) more rest e = shorter y ys refl
fronts (x ∷ xs) [] more rest e = longer x xs refl
fronts (x ∷ xs) (y ∷ ys) more rest e = fronts-by x y xs ys (ap first_of e) (fronts xs ys more rest (ap (drop 1) e))

-- behind lines of which none is missing none is
none-missing : (lines more : List (List ℕ)) (kind : OpeningKind) → AskFor lines kind 0 → IsUnfinished (lines ++ more) → ⊥
none-missing lines more kind a (nothing_yet none) =
    let some : length lines ≡ suc (length a.others) = ap length a.lines_are in
    let empty : length (lines ++ more) ≡ 0 = ap length none in omega (arith, some, empty, length-append lines more)
none-missing lines more kind a (wanting other missing some b) =
    let both : a.first ∷ (a.others ++ more) ≡ b.first ∷ b.others = sym (ap (λ (l : List (List ℕ)). l ++ more) a.lines_are) ∙ b.lines_are in
    let asked : Some (wanted_of_kind kind (length (told_in kind a.others) + 0)) ≡ Some (wanted_of_kind other (length (told_in other b.others) + missing)) = sym a.asked ∙ ap wanted_in (ap first_of both) ∙ b.asked in
    let told : length (told_in other b.others) ≡ length (told_in kind a.others) + length (told_in kind more) =
    ap (λ (l : List (List ℕ)). length (told_in other (drop 1 l))) (sym both) ∙ ap (λ (k : OpeningKind). length (told_in k (a.others ++ more))) (sym (ap kind_of asked))
    ∙ ap length (told-more kind a.others more) ∙ length-append (told_in kind a.others) (told_in kind more) in
    let number : length (told_in kind a.others) + 0 ≡ length (told_in other b.others) + missing = ap number_of asked in omega (arith, some, told, number)

not-by : (lines before more : List (List ℕ)) (last line : List ℕ) (kind : OpeningKind) → AskFor lines kind 0 → IsUnfinished before → lines ++ line ∷ more ≡ before ++ last ∷ [] → AreFronts lines before → ⊥
not-by lines before more last line kind a open_before parted (same is) =
    none-missing lines [] kind a (subst IsUnfinished (sym is ∙ sym (append-nil lines)) open_before)
not-by lines before more last line kind a open_before parted (shorter z zs is) = none-missing lines (z ∷ zs) kind a (subst IsUnfinished is open_before)
not-by lines before more last line kind a open_before parted (longer z zs is) =
    let all : length (lines ++ line ∷ more) ≡ length (before ++ last ∷ []) = ap length parted in
    let many : length lines ≡ length (before ++ z ∷ zs) = ap length is in
    omega (arith, all, many, length-append lines (line ∷ more), length-append before (last ∷ []), length-append before (z ∷ zs))

-- an opening doesn't go on
not-longer : (lines more text : List (List ℕ)) (line : List ℕ) (a b : OpeningKind) → AskFor lines a 0 → AreOpeningLines (lines ++ line ∷ more) b text → ⊥
not-longer lines more text line a b asks o = not-by lines o.before more o.last line a asks o.unfinished o.parted (fronts lines o.before (line ∷ more) (o.last ∷ []) o.parted)

-- the first line of the same lines asks for one kind
one-kind : (lines others : List (List ℕ)) (a b : OpeningKind) → AskFor lines a 0 → AskFor others b 0 → lines ≡ others → a ≡ b
one-kind lines others a b asks other is = ap kind_of (sym asks.asked ∙ ap wanted_in (ap first_of (sym asks.lines_are ∙ is ∙ other.lines_are)) ∙ other.asked)

one-by : (lines text others other : List (List ℕ)) (a b : OpeningKind) → AreOpeningLines lines a text → AreOpeningLines others b other → AreFronts lines others → (lines ≡ others) × (a ≡ b) × (text ≡ other)
one-by lines text others other a b o p (same is) =
    let kinds : a ≡ b = one-kind lines others a b o.whole p.whole is in
    (is, kinds, o.text_is ∙ ap (λ (l : List (List ℕ)). told_in a (drop 1 l)) is ∙ ap (λ (k : OpeningKind). told_in k (drop 1 others)) kinds ∙ sym p.text_is)
one-by lines text others other a b o p (longer z zs is) = absurd (not-longer others zs text z b a p.whole (subst (λ (l : List (List ℕ)). AreOpeningLines l a text) is o))
one-by lines text others other a b o p (shorter z zs is) = absurd (not-longer lines zs other z a b o.whole (subst (λ (l : List (List ℕ)). AreOpeningLines l b other) is p))

pub one-opening : OneOpening
one-opening lines more text others rest other a b o p e = one-by lines text others other a b o p (fronts lines others more rest e)
