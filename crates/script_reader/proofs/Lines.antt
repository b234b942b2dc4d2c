-- What the lines of a script say, one by one.
use Rattle.std.proofs.Common.{◌≡◌, ℕ, suc, ◌+◌, ◌<◌, Bool, true, false, List, [], ◌∷◌, length, drop, get_or, Option, slice_get, unwrap_or, ap, ◌∙◌, refl}
use Rattle.std.proofs.lemmas.List.{drop_more}
use Rattle.script_reader.specs.Statements.{Statement, Nothing, Text, Session, Command, Mark, Nonsense, header_said, kind_of, names_said, text_ahead, text_or, statements_told, told_from}
use Rattle.knitout_reader.specs.Head.{names_in_line}
use Rattle.script_reader.specs.declared.line.Kind.{Kind}
use Rattle.script_reader.specs.declared.line.Kind.TheVariants as kind

-- what the first of the lines says, where its kind is known
pub told_line : (wants : Bool) (line : List ℕ) (lines : List (List ℕ)) (k : Kind) → kind_of line ≡ k → told_from wants (line ∷ lines) ≡ statements_told k wants line (text_ahead lines) (λ o. told_from o lines)
told_line wants line lines k is = ap (λ (k : Kind). statements_told k wants line (text_ahead lines) (λ o. told_from o lines)) is

-- a line says one thing, and then come the others
pub told_first : (is : Kind) (wants : Bool) (line : List ℕ) (ahead : Option (List ℕ)) (rest : Bool → List Statement) → (here : Statement) × (after : Bool) × (statements_told is wants line ahead rest ≡ here ∷ rest after)
told_first kind.Skipped wants line ahead rest = (Nothing, wants, refl)
told_first kind.Text false line ahead rest = (Text (drop 1 line), false, refl)
told_first kind.Text true line ahead rest = (names_said (names_in_line (drop 1 line)), false, refl)
told_first kind.Session wants line ahead rest = (Session, false, refl)
told_first (kind.Command command) wants line ahead rest = (Command command, false, refl)
told_first kind.Header wants line ahead rest = (header_said ahead, true, refl)
told_first (kind.Mark mark) wants line ahead rest = (Mark mark, false, refl)
told_first kind.Other wants line ahead rest = (Nonsense, false, refl)

pub length_told : (wants : Bool) (lines : List (List ℕ)) → length (told_from wants lines) ≡ length lines
length_told wants [] = refl
length_told wants (line ∷ lines) =
    let first = told_first (kind_of line) wants line (text_ahead lines) (λ w. told_from w lines) in
    ap length first.2 ∙ ap suc (length_told first.1 lines)

pub first_is : (x y : Statement) (xs ys : List Statement) → x ∷ xs ≡ y ∷ ys → x ≡ y
first_is x y xs ys is = ap (λ (l : List Statement). unwrap_or (slice_get l 0) x) is

module _ (lines : List (List ℕ)) (at : ℕ) (within : at < length lines) where
  -- what the line at this place says, and those behind it
  pub told_at : (wants : Bool) (k : Kind) → kind_of (get_or lines at []) ≡ k → told_from wants (drop at lines) ≡ statements_told k wants (get_or lines at []) (text_ahead (drop (at + 1) lines)) (λ w. told_from w (drop (at + 1) lines))
  told_at wants k is = ap (told_from wants) (drop_more lines at [] within) ∙ told_line wants (get_or lines at []) (drop (at + 1) lines) k is

  pub ahead_at : (k : Kind) → kind_of (get_or lines at []) ≡ k → text_ahead (drop at lines) ≡ text_or k (get_or lines at []) (text_ahead (drop (at + 1) lines))
  ahead_at k is = ap text_ahead (drop_more lines at [] within) ∙ ap (λ (k : Kind). text_or k (get_or lines at []) (text_ahead (drop (at + 1) lines))) is
