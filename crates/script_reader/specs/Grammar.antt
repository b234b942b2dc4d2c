-- Which line of a file is the first outside a grammar of scripts.
--
-- A grammar says what lines can say that begin a script, and why a line can't stand behind them.
use Rattle.std.specs.Prelude.{◌≡◌, ◌⊎◌, ℕ, ◌+◌, ◌<◌, List, [], ◌∷◌, ◌++◌, length, take, filter, Option, Some, None}
use Rattle.script_reader.specs.Statements.{Statement, kind_of, says_something, statements_of, text_ahead}
use Rattle.script_reader.specs.declared.fault.Cause.{Cause}
use Rattle.script_reader.specs.declared.line.Kind.TheVariants as kind

-- `SoFar` is what lines say that begin a script: `says` tells it line by line. A line that says what `cause_of` has a cause for can't stand behind them, nor can
-- the file end there where `end_cause` has one.
pub record Grammar : Type 1 where
  pub SoFar : Type 0
  pub says : SoFar → List Statement
  pub IsLawful : SoFar → Type 0
  pub cause_of : SoFar → Statement → Option Cause
  pub end_cause : SoFar → Option Cause

-- no script begins with these lines
abbrev pub BeginNone : {T : Type 0} → (List (List ℕ) → T → Type 0) → List (List ℕ) → Type 0
BeginNone {T = T} IsOf lines = (more : List (List ℕ)) (script : T) → ¬ IsOf (lines ++ more) script

-- the line is `put head`, and no text line follows, whatever may come behind these lines
pub record LacksHeader (line : List ℕ) (after : List (List ℕ)) : Type 0 where
  pub is : kind_of line ≡ kind.Header
  pub none : text_ahead after ≡ None

-- The line with this number is the first outside: the lines before it lawfully begin a script, and what it says can't stand behind them, for this cause. No script
-- begins with the lines up to it, or it is `put head` without the text that it needs.
pub record IsOutside (grammar : Grammar) {T : Type 0} (IsOf : List (List ℕ) → T → Type 0) (lines : List (List ℕ)) (number : ℕ) (cause : Cause) : Type 0 where
  pub first : List ℕ
  pub before : List (List ℕ)
  pub line : List ℕ
  pub after : List (List ℕ)
  pub lines_are : lines ≡ first ∷ before ++ line ∷ after
  pub counted : number ≡ length before + 2
  pub so_far : grammar.SoFar
  pub lawful : grammar.IsLawful so_far
  pub front : List Statement
  pub here : Statement
  pub back : List Statement
  pub told : statements_of (before ++ line ∷ after) ≡ front ++ here ∷ back
  pub placed : length front ≡ length before
  pub good_before : filter says_something front ≡ grammar.says so_far
  pub is_cause : grammar.cause_of so_far here ≡ Some cause
  pub ends : BeginNone IsOf (first ∷ before ++ line ∷ []) ⊎ LacksHeader line after

-- The lines end too early: they lawfully begin a script, which can't end there, for this cause. The number is that of the line behind the last.
pub record EndsEarly (grammar : Grammar) {T : Type 0} (IsOf : List (List ℕ) → T → Type 0) (lines : List (List ℕ)) (number : ℕ) (cause : Cause) : Type 0 where
  pub first : List ℕ
  pub rest : List (List ℕ)
  pub lines_are : lines ≡ first ∷ rest
  pub counted : number ≡ length lines + 1
  pub so_far : grammar.SoFar
  pub lawful : grammar.IsLawful so_far
  pub good_before : filter says_something (statements_of rest) ≡ grammar.says so_far
  pub is_cause : grammar.end_cause so_far ≡ Some cause
  pub none : (script : T) → ¬ IsOf lines script

-- the first line isn't that of a script of this form, or there is none: the cause is that of the form
pub record HasOtherForm {T : Type 0} (IsOf : List (List ℕ) → T → Type 0) (form : Cause) (lines : List (List ℕ)) (number : ℕ) (cause : Cause) : Type 0 where
  pub first : number ≡ 1
  pub is_cause : cause ≡ form
  pub none : (script : T) → ¬ IsOf lines script
  pub ends : 0 < length lines → BeginNone IsOf (take 1 lines)
