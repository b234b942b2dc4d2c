-- What a script of short lines holds has a spelling.
use Rattle.std.proofs.Common.{◌≡◌, ℕ, zero, suc, ◌≤◌, false, List, [], ◌∷◌, ◌++◌, length, map, Some, ap, subst, arith, append_assoc, length-append}
use Rattle.std.specs.Prelude.{slice_get}
use Rattle.std.specs.List.{AllByRecursion, flat_map}
use Rattle.std.proofs.lemmas.List.{length-map}
use Rattle.std.proofs.lemmas.List.Elements.{All-from_recursion}
use Rattle.std.proofs.lemmas.List.Sums.{count_by-le-length, length-filter}
use Rattle.edit_journal.specs.declared.edit.Edit.{Edit}
use Rattle.edit_journal.specs.declared.edit.Edit.TheVariants as edit
use Rattle.edit_book.specs.Outlines.{HasShortText}
use Rattle.edit_sessions.specs.Laws.{AsksFor, IsEditOfScript}
use Rattle.script_reader.specs.declared.command.Command as declared
use Rattle.script_reader.specs.declared.command.Command.TheVariants as command
use Rattle.script_reader.specs.declared.command.Script.{Script}
use Rattle.script_reader.specs.Script.{IsScript, command_statements, session_statements}
use Rattle.script_reader.specs.Statements.{Statement, Text, says_something, statements_of}
use Rattle.script_reader.proofs.Lines.{length_told}
use Rattle.journal_file.specs.SavedParts.{AreGivenNames, IsGivenText, IsShortLine}
use Rattle.input_answers.proofs.SaidParts.{IsFit, said_fit}

-- the texts and the names of a command
abbrev pub IsFitCommand : declared.Command → Type 0
IsFitCommand (command.Look name) = Unit {0}
IsFitCommand (command.Put name text) = AllByRecursion IsShortLine text
IsFitCommand (command.Add place text) = AllByRecursion IsShortLine text
IsFitCommand (command.Cut name) = Unit {0}
IsFitCommand (command.LoopAt line) = Unit {0}
IsFitCommand command.Verdict = Unit {0}
IsFitCommand command.LookHead = Unit {0}
IsFitCommand (command.PutHead names) = AreGivenNames names

-- the lines of the opening text, and the commands
pub record IsFitScript (script : Script) : Type 0 where
  pub text : AllByRecursion IsShortLine script.text
  pub sessions : AllByRecursion (AllByRecursion IsFitCommand) script.sessions

abbrev AreFit : List Statement → Type 0
AreFit statements = AllByRecursion IsFit statements

texts_fit : (texts : List (List ℕ)) (more : List Statement) → AreFit (map Text texts ++ more) → AllByRecursion IsShortLine texts × AreFit more
texts_fit [] more fit = (tt, fit)
texts_fit (text ∷ texts) more fit = let rest = texts_fit texts more fit.1 in ((fit.0, rest.0), rest.1)

command_fit : (c : declared.Command) (more : List Statement) → AreFit (command_statements c ++ more) → IsFitCommand c × AreFit more
command_fit (command.Look name) more fit = (tt, fit.1)
command_fit (command.Put name text) more fit = texts_fit text more fit.1
command_fit (command.Add place text) more fit = texts_fit text more fit.1
command_fit (command.Cut name) more fit = (tt, fit.1)
command_fit (command.LoopAt line) more fit = (tt, fit.1)
command_fit command.Verdict more fit = (tt, fit.1)
command_fit command.LookHead more fit = (tt, fit.1)
command_fit (command.PutHead names) more fit = fit

commands_fit : (cs : List declared.Command) (more : List Statement) → AreFit (flat_map command_statements cs ++ more) → AllByRecursion IsFitCommand cs × AreFit more
commands_fit [] more fit = (tt, fit)
commands_fit (c ∷ cs) more fit =
    let first = command_fit c (flat_map command_statements cs ++ more) (subst AreFit (append_assoc (command_statements c) (flat_map command_statements cs) more) fit) in
    let rest = commands_fit cs more first.1 in ((first.0, rest.0), rest.1)

sessions_fit : (sessions : List (List declared.Command)) → AreFit (flat_map session_statements sessions) → AllByRecursion (AllByRecursion IsFitCommand) sessions
sessions_fit [] fit = tt
sessions_fit (cs ∷ sessions) fit = let first = commands_fit cs (flat_map session_statements sessions) fit.1 in (first.0, sessions_fit sessions first.1)

-- a script of short lines
pub script_fit : (lines : List (List ℕ)) (script : Script) → AllByRecursion IsShortLine lines → IsScript lines script → IsFitScript script
script_fit [] script short spelt = absurd spelt
script_fit (first ∷ lines) script short spelt =
    let fit = texts_fit script.text (flat_map session_statements script.sessions) (subst AreFit spelt.said (said_fit lines short.1)) in
    record { text = fit.0; sessions = sessions_fit script.sessions fit.1 }

-- has no more lines of opening text than it has lines
pub text_count : (lines : List (List ℕ)) (script : Script) → IsScript lines script → length script.text ≤ length lines
text_count [] script spelt = absurd spelt
text_count (first ∷ lines) script spelt =
    omega (
      arith,
      ap length spelt.said,
      length-append (map Text script.text) (flat_map session_statements script.sessions),
      length-map script.text Text,
      length-filter says_something (statements_of lines),
      count_by-le-length says_something (statements_of lines),
      length_told false lines,
    )

-- what holds of each holds of the one at a place
pub at_place : {A : Type 0} (P : A → Type 0) (xs : List A) (place : ℕ) (x : A) → AllByRecursion P xs → slice_get xs place ≡ Some x → P x
at_place P [] place x each is = absurd (cc)
at_place P (y ∷ xs) zero x each is = let same : y ≡ x = cc in subst P same each.0
at_place P (y ∷ xs) (suc place) x each is = at_place P xs place x each.1 is

-- what an edit gives has a spelling
abbrev pub GivesFit : Edit → Type 0
GivesFit (edit.Put block seen text) = IsGivenText text
GivesFit (edit.Add anchor block text) = IsGivenText text
GivesFit (edit.Cut block seen) = Unit {0}
GivesFit (edit.Head seen names) = AreGivenNames names

given_text : (given text : List (List ℕ)) → given ≡ text → AllByRecursion IsShortLine given → length text ≤ 4096 → IsGivenText text
given_text given text same fit few = record { few = few; lines = All-from_recursion IsShortLine text (subst (AllByRecursion IsShortLine) same fit) }

edit_fit : (c : declared.Command) (e : Edit) → AsksFor c e → IsFitCommand c → HasShortText e → GivesFit e
edit_fit (command.Put name given) (edit.Put block seen text) asks fit few = given_text given text asks fit few
edit_fit (command.Add place given) (edit.Add anchor block text) asks fit few = given_text given text asks fit few
edit_fit (command.PutHead given) (edit.Head seen names) asks fit few = subst AreGivenNames asks fit
edit_fit (command.Cut name) (edit.Cut block seen) asks fit few = tt
edit_fit c e asks fit few = absurd asks

-- where a command of the script asks for it
pub asked_fit : (cs : List declared.Command) (e : Edit) → AllByRecursion IsFitCommand cs → IsEditOfScript cs e → GivesFit e
asked_fit cs e fit asked = edit_fit asked.asking e asked.asks (at_place IsFitCommand cs asked.place asked.asking fit asked.stands) asked.short
