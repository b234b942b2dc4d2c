-- What a turn of the shared book leaves of the names that a session keeps, and of the texts that it is told.
use Rattle.std.proofs.Common.{◌≡◌, ℕ, List, ◌++◌, Option, Some, sym, ap, subst}
use Rattle.carriage_model.specs.declared.verdict.Brief.{Brief}
use Rattle.edit_journal.specs.declared.edit.BlockAt.{BlockAt}
use Rattle.edit_journal.specs.declared.edit.Entry.{Entry}
use Rattle.edit_journal.specs.declared.opening.Opening.{Opening}
use Rattle.edit_journal.specs.Documents.{names_given}
use Rattle.edit_journal.proofs.Known.{names_longer}
use Rattle.script_reader.specs.declared.command.Command.{Command}
use Rattle.script_reader.specs.declared.command.Command.TheVariants as command
use Rattle.edit_book.specs.declared.reply.Again.{Again}
use Rattle.edit_book.specs.declared.reply.BookCommand.{BookCommand}
use Rattle.edit_book.specs.declared.reply.BookCommand.TheVariants as ask
use Rattle.edit_book.specs.declared.reply.Reply.{Reply}
use Rattle.edit_book.specs.declared.reply.Reply.TheVariants as reply
use Rattle.edit_book.specs.Asking.{AsksBlocks, ShowsNames}
use Rattle.edit_book.specs.Memory.{head_told, stamp_told_by}
use Rattle.edit_book.specs.Replies.{request_of_command}
use Rattle.edit_book.specs.Turns.{AreTextsGiven, IsRightReply}
use Rattle.edit_book.proofs.GivenTexts as texts
use Rattle.edit_book.proofs.NamesKept as kept
use Rattle.turn_book.specs.declared.view.View.{View}
use Rattle.turn_book.specs.Journal.{entry_list}
use Rattle.turn_book.specs.Taken.{SeesMore}
use Rattle.turn_book.specs.Turn.{Turned}
use Rattle.edit_sessions.specs.Shared.{entry_session}

-- what was given is given behind a look at more of the journal, too
pub names_seen : (o : Opening) (v w : View Opening Entry) (head : ℕ) (names : List (List ℕ)) → SeesMore entry_session v w → names_given o v.seen head ≡ Some names → names_given o w.seen head ≡ Some names
names_seen o v w head names s given = subst (λ (j : List Entry). names_given o j head ≡ Some names) (sym s.seen) (names_longer o v.seen s.more head names given)

module _ (o : Opening) (n : ℕ) (r : Reply) (P : List Entry → Option Entry → Type 0) (v w : View Opening Entry) where
  abbrev At : BookCommand → Type 0
  At request = Turned entry_session n (λ before added. IsRightReply o before n request r added × P before added) v w

  -- what was given is given at the journal that the turn finds
  found : (request : BookCommand) (head : ℕ) (names : List (List ℕ)) (t : At request) → names_given o v.seen head ≡ Some names → names_given o t.before head ≡ Some names
  found request head names t given = subst (λ (j : List Entry). names_given o j head ≡ Some names) (sym t.catches.seen.1) (names_longer o v.seen t.catches.seen.0 head names given)

  -- what is given behind its entry is given of what is seen afterwards
  behind : (request : BookCommand) (head : ℕ) (names : List (List ℕ)) (t : At request) → names_given o (t.before ++ entry_list t.added) head ≡ Some names → names_given o w.seen head ≡ Some names
  behind request head names t given = subst (λ (j : List Entry). names_given o j head ≡ Some names) (sym (ap (λ (x : View Opening Entry). x.seen) t.after)) given

  -- what an entry gave is given after a turn, too
  pub names_later : (request : BookCommand) (head : ℕ) (names : List (List ℕ)) → At request → names_given o v.seen head ≡ Some names → names_given o w.seen head ≡ Some names
  names_later request head names t given = behind request head names t (names_longer o t.before (entry_list t.added) head names (found request head names t given))

  -- after a turn that was asked for blocks
  pub names_beside : (c : Command) (request : BookCommand) (head : ℕ) (names : List (List ℕ)) → AsksBlocks (request_of_command request) → At request → names_given o v.seen head ≡ Some names → names_given o w.seen (head_told (stamp_told_by c r) head) ≡ Some names
  names_beside c request head names asks t given =
      behind request (head_told (stamp_told_by c r) head) names t (kept.names_beside o n r t.before t.added c request head names asks t.is_right.0 (found request head names t given))

  -- after a look at the header, of the names that its line gives
  pub names_looked : (head : ℕ) (names : List (List ℕ)) → ShowsNames r names → At ask.LookHead → names_given o w.seen (head_told (stamp_told_by command.LookHead r) head) ≡ Some names
  names_looked head names shows t = behind ask.LookHead (head_told (stamp_told_by command.LookHead r) head) names t (kept.names_looked o n r t.before t.added head names shows t.is_right.0)

  -- after other names were accepted, of these
  pub names_put : (seen : ℕ) (given names : List (List ℕ)) (again : List Again) (version block : ℕ) (brief : Brief) → r ≡ reply.Accepted version block brief → At (ask.PutHead seen names again)
      → names_given o w.seen (head_told (stamp_told_by (command.PutHead given) r) seen) ≡ Some names
  names_put seen given names again version block brief is t =
      behind (ask.PutHead seen names again) (head_told (stamp_told_by (command.PutHead given) r) seen) names t (kept.names_put o n r t.before t.added seen given names again version block brief is t.is_right.0)

  -- and after they were refused, of those before
  pub names_refused : (seen : ℕ) (given names had : List (List ℕ)) (again : List Again) → ((version block : ℕ) (brief : Brief) → r ≡ reply.Accepted version block brief → ⊥) → At (ask.PutHead seen names again)
      → names_given o v.seen seen ≡ Some had → names_given o w.seen (head_told (stamp_told_by (command.PutHead given) r) seen) ≡ Some had
  names_refused seen given names had again refused t before =
      behind (ask.PutHead seen names again) (head_told (stamp_told_by (command.PutHead given) r) seen) had t
      (kept.names_refused o n r t.before t.added seen given names had again refused t.is_right.0 (found (ask.PutHead seen names again) seen had t before))

  -- the blocks that a turn tells have the texts that what is seen gave them
  pub texts_given : (version : ℕ) (blocks : List BlockAt) → r ≡ reply.Texts version blocks → At ask.Texts → AreTextsGiven o w.seen blocks
  texts_given version blocks is t =
      subst (λ (j : List Entry). AreTextsGiven o j blocks) (sym (ap (λ (x : View Opening Entry). x.seen) t.after))
      (texts.given_longer o t.before (entry_list t.added) blocks (texts.texts_given o n t.before t.added r version blocks is t.is_right.0))
