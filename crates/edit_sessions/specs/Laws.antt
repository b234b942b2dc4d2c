-- Histories of a book, and the laws on them.
use Rattle.std.specs.Prelude.{◌≡◌, ℕ, ◌≤◌, List, [], length, slice_get, Some}
use Rattle.edit_journal.specs.declared.edit.Edit.{Edit}
use Rattle.edit_journal.specs.declared.edit.Edit.TheVariants as edit
use Rattle.edit_journal.specs.declared.edit.Entry.{Entry}
use Rattle.edit_journal.specs.declared.opening.Opening.{Opening}
use Rattle.edit_journal.specs.Documents.{body, document_opened}
use Rattle.script_reader.specs.declared.command.Command.{Command}
use Rattle.script_reader.specs.declared.command.Command.TheVariants as command
use Rattle.edit_book.specs.declared.reply.Reply.{Reply}
use Rattle.edit_book.specs.Outlines.{HasShortText, MayCome}
use Rattle.edit_book.specs.Replies.{block_limit, line_limit}
use Rattle.turn_book.specs.Legal as legal
use Rattle.edit_book.specs.Memory.{first_memory}
use Rattle.edit_sessions.specs.Core.{document_core}
use Rattle.turn_book.specs.Interleavings as play

-- the journal and the replies are one legal history of these scripts
abbrev pub IsLegal : Opening → List (List Command) → List Entry → List (List Reply) → Type 0
IsLegal opening scripts journal replies = legal.IsLegalHistory (document_core opening) (first_memory opening) scripts journal replies

-- the events answer all commands of the scripts, with this journal and these replies
abbrev pub IsPlay : Opening → List (List Command) → List play.Event → List Entry → List (List Reply) → Type 0
IsPlay opening scripts events journal replies = play.IsPlayOfEvents (document_core opening) (first_memory opening) scripts events journal replies

-- the same, in the order of the versions at which the replies were given
abbrev pub IsOrder : Opening → List (List Command) → List play.Event → List Entry → List (List Reply) → Type 0
IsOrder opening scripts events journal replies = play.IsOrderOfEvents (document_core opening) (first_memory opening) scripts events journal replies

-- whatever the order of the sessions' turns, what they give is legal
abbrev pub EachPlayIsLegal : Type 0
EachPlayIsLegal = (opening : Opening) (scripts : List (List Command)) (events : List play.Event) (journal : List Entry) (replies : List (List Reply)) → IsPlay opening scripts events journal replies → IsLegal opening scripts journal replies

-- what is legal was given in one order of the sessions' turns
abbrev pub EachLegalPairIsPlayed : Type 0
EachLegalPairIsPlayed = (opening : Opening) (scripts : List (List Command)) (journal : List Entry) (replies : List (List Reply)) → IsLegal opening scripts journal replies → (events : List play.Event) × IsOrder opening scripts events journal replies

-- the command asks for this edit: it names the same kind, and gives the same text or the same names
abbrev pub AsksFor : Command → Edit → Type 0
AsksFor (command.Put name given) (edit.Put block seen text) = given ≡ text
AsksFor (command.Add place given) (edit.Add anchor block text) = given ≡ text
AsksFor (command.Cut name) (edit.Cut block seen) = Unit {0}
AsksFor (command.PutHead given) (edit.Head seen names) = given ≡ names
AsksFor c e = ⊥

-- a command of the script asks for this edit, whose text isn't too long
pub record IsEditOfScript (script : List Command) (e : Edit) : Type 0 where
  pub place : ℕ
  pub asking : Command
  pub stands : slice_get script place ≡ Some asking
  pub asks : AsksFor asking e
  pub short : HasShortText e

-- a command of the session that made the entry asks for its edit
pub record IsAskedIn (scripts : List (List Command)) (entry : Entry) : Type 0 where
  pub script : List Command
  pub session : slice_get scripts entry.session ≡ Some script
  pub asked : IsEditOfScript script entry.edit

-- the opening has at most as many blocks and lines as a document may have
pub record KeepsLimits (opening : Opening) : Type 0 where
  pub blocks : length opening.texts ≤ block_limit
  pub lines : length (body (document_opened opening)) ≤ line_limit

-- the entry may come behind those before it, and does what a command of its session asks
pub record ComesAsked (opening : Opening) (scripts : List (List Command)) (before : List Entry) (entry : Entry) : Type 0 where
  pub comes : MayCome opening before entry.edit
  pub asked : IsAskedIn scripts entry

-- each entry of a legal history does so
abbrev pub EachEntryComes : Type 0
EachEntryComes = (opening : Opening) (scripts : List (List Command)) (journal : List Entry) (replies : List (List Reply)) → IsLegal opening scripts journal replies → KeepsLimits opening
    → legal.EachEntry (ComesAsked opening scripts) [] journal
