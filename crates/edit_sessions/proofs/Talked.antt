-- What a session keeps, as it goes on.
use Rattle.std.proofs.Common.{◌≡◌, ℕ, ◌+◌, ◌<◌, List, [], ◌∷◌, ◌++◌, length, take, sym, ◌∙◌, subst}
use Rattle.edit_journal.specs.declared.edit.Entry.{Entry}
use Rattle.edit_journal.specs.declared.opening.Opening.{Opening}
use Rattle.edit_journal.proofs.Known.{names_longer}
use Rattle.script_reader.specs.declared.command.Command.{Command}
use Rattle.edit_book.specs.declared.reply.Reply.{Reply}
use Rattle.turn_book.specs.declared.view.View.{View}
use Rattle.turn_book.specs.Taken.{IsCommandTaken}
use Rattle.turn_book.specs.Walk.{memory_of}
use Rattle.turn_book.proofs.Talked.{TalkSoFar, talk_begins, talk_goes_on, talk_remembers}
use Rattle.edit_book.specs.Memory.{Memory, first_memory, memory_after}
use Rattle.edit_sessions.specs.Core.{document_core}
use Rattle.edit_book.specs.Session.{HasNames, Remembers}
use Rattle.edit_book.specs.declared.sessions.session.Session.{Session}
use Rattle.edit_sessions.proofs.CoreLaws.{is_core}

-- a session after the first i commands of its script, of which it has had these replies, with what it keeps
pub record SessionSoFar (opening : Opening) (script : List Command) (i : ℕ) (began now : View Opening Entry) (session : Session) (replies : List Reply) : Type 0 where
  pub talk : TalkSoFar (document_core opening) (first_memory opening) script i began now replies
  pub number : session.number ≡ began.first
  pub remembers : Remembers session (memory_of (document_core opening) (first_memory opening) (take i script) replies)
  pub names : HasNames opening now.seen session

pub session_begins : (opening : Opening) (script : List Command) (v : View Opening Entry) (session : Session) (replies : List Reply) → v.first < v.past → session.number ≡ v.first → Remembers session (first_memory opening) → HasNames opening [] session → replies ≡ []
    → SessionSoFar opening script 0 v v session replies
session_begins opening script v session replies some number remembers names none = record {
  talk = talk_begins (document_core opening) (is_core opening) (first_memory opening) script v replies some none;
  number = number;
  remembers = subst (λ (rs : List Reply). Remembers session (memory_of (document_core opening) (first_memory opening) [] rs)) (sym none) remembers;
  names = names_longer opening [] v.seen session.learned.head session.header.declared names;
}

pub session_goes_on : (opening : Opening) (script : List Command) (i : ℕ) (began v w : View Opening Entry) (s t : Session) (replies all : List Reply) (c : Command) (r : Reply) → i < length script → began.first < began.past → SessionSoFar opening script i began v s replies
    → take (i + 1) script ≡ take i script ++ c ∷ [] → t.number ≡ s.number
    → HasNames opening w.seen t
    → ((m : Memory) → Remembers s m → IsCommandTaken (document_core opening) s.number m c r v w)
    → ((m : Memory) → Remembers s m → Remembers t (memory_after m c r))
    → all ≡ replies ++ r ∷ [] → SessionSoFar opening script (i + 1) began w t all
session_goes_on opening script i began v w s t replies all c r within some so_far one same names taken learned all_is =
    let m = memory_of (document_core opening) (first_memory opening) (take i script) replies in
    record {
      talk = talk_goes_on (document_core opening) (is_core opening) (first_memory opening) script i began v w replies all c r some so_far.talk one all_is
          (subst (λ (n : ℕ). IsCommandTaken (document_core opening) n m c r v w) so_far.number (taken m so_far.remembers));
      number = same ∙ so_far.number;
      remembers = subst (Remembers t) (sym (talk_remembers (document_core opening) (is_core opening) (first_memory opening) script i began v replies all c r within so_far.talk one all_is)) (learned m so_far.remembers);
      names = names;
    }
