-- A line that begins no command can't stand where a command is to begin.
use Rattle.std.proofs.Common.{◌≡◌, ◌≢◌, ℕ, ◌+◌, ◌<◌, true, false, List, [], ◌∷◌, length, drop, get_or, Option, Some, None, unwrap_or, sym, ap, ◌∙◌, refl}
use Rattle.knitout_reader.specs.Head.{names_in_line}
use Rattle.script_reader.specs.Command.{begin_cause}
use Rattle.script_reader.specs.Statements.{Statement, Text, Session, Command, Header, Mark, Nonsense, header_said, kind_of, statements_of, text_ahead, statements_told, told_from}
use Rattle.script_reader.specs.declared.fault.Cause.{Cause}
use Rattle.script_reader.specs.declared.fault.Cause.TheVariants.{BadLine}
use Rattle.script_reader.specs.declared.line.CommandLine.{CommandLine}
use Rattle.script_reader.specs.declared.line.Kind.{Kind}
use Rattle.script_reader.specs.declared.line.Kind.TheVariants as kind
use Rattle.script_reader.specs.declared.line.Mark as marks
use Rattle.script_reader.proofs.Lines.{first_is, told_at}

-- a line of this kind is refused where commands begin, as this says
pub record AsCommand (cause : Statement → Option Cause) (adds : ℕ) (is : Kind) : Type 0 where
  pub said : is ≢ kind.Skipped
  pub text : is ≡ kind.Text → (text : List ℕ) → cause (Text text) ≡ Some BadLine
  pub session : is ≡ kind.Session → cause Session ≡ Some BadLine
  pub command : (h : CommandLine) → is ≡ kind.Command h → cause (Command h) ≡ begin_cause adds (Command h)
  pub mark : (m : marks.Mark) → is ≡ kind.Mark m → cause (Mark m) ≡ Some BadLine
  pub nonsense : cause Nonsense ≡ Some BadLine

pub refused_here : (lines : List (List ℕ)) (at : ℕ) → at < length lines → (cause : Statement → Option Cause) (adds : ℕ) → AsCommand cause adds (kind_of (get_or lines at [])) → (here : Statement) (back : List Statement) (found : Cause)
    → statements_of (drop at lines) ≡ here ∷ back → begin_cause adds here ≡ Some found → cause here ≡ Some found
refused_here lines at within cause adds like here back found told_is stops = go (kind_of (get_or lines at [])) refl (sym (told_at lines at within false (kind_of (get_or lines at [])) refl) ∙ told_is)
  where
    this : List ℕ
    this = get_or lines at []

    by : (x : Statement) (xs : List Statement) → x ∷ xs ≡ here ∷ back → cause x ≡ begin_cause adds x → cause here ≡ Some found
    by x xs is same_cause = let same : x ≡ here = first_is x here xs back is in sym (ap cause same) ∙ same_cause ∙ ap (begin_cause adds) same ∙ stops

    header : (ahead : Option (List ℕ)) (xs : List Statement) → header_said ahead ∷ xs ≡ here ∷ back → cause here ≡ Some found
    header None xs is = by Nonsense xs is like.nonsense
    header (Some text) xs is =
        let same : Header (unwrap_or (names_in_line text) []) ≡ here = first_is (Header (unwrap_or (names_in_line text) [])) here xs back is in
        let clash : None ≡ Some found = ap (begin_cause adds) same ∙ stops in
        absurd (cc)

    go : (k : Kind) → kind_of this ≡ k → statements_told k false this (text_ahead (drop (at + 1) lines)) (λ w. told_from w (drop (at + 1) lines)) ≡ here ∷ back → cause here ≡ Some found
    go kind.Skipped is r = absurd (like.said is)
    go kind.Text is r = by (Text (drop 1 this)) (told_from false (drop (at + 1) lines)) r (like.text is (drop 1 this))
    go kind.Session is r = by Session (told_from false (drop (at + 1) lines)) r (like.session is)
    go (kind.Command h) is r = by (Command h) (told_from false (drop (at + 1) lines)) r (like.command h is)
    go kind.Header is r = header (text_ahead (drop (at + 1) lines)) (told_from true (drop (at + 1) lines)) r
    go (kind.Mark m) is r = by (Mark m) (told_from false (drop (at + 1) lines)) r (like.mark m is)
    go kind.Other is r = by Nonsense (told_from false (drop (at + 1) lines)) r like.nonsense
