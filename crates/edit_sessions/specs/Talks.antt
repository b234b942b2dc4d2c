-- A session that hasn't begun, and the replies of one.
use Rattle.std.specs.Prelude.{◌≡◌, ℕ, ◌≤◌, List, [], length, vec_capacity}
use Rattle.edit_journal.specs.declared.opening.Opening.{Opening}
use Rattle.script_reader.specs.declared.command.Command.{Command}
use Rattle.edit_book.specs.Memory.{first_memory}
use Rattle.edit_book.specs.Session.{HasNames, Remembers}
use Rattle.edit_sessions.specs.declared.talk.Talk.{Talk}
use Rattle.edit_book.specs.declared.reply.Reply.{Reply}

-- session n at its start, with no reply, and with room for one to each command of its script
pub record IsTalkReady (opening : Opening) (n : ℕ) (script : List Command) (talk : Talk) : Type 0 where
  pub number : talk.session.number ≡ n
  pub remembers : Remembers talk.session (first_memory opening)
  pub names : HasNames opening [] talk.session
  pub empty : talk.replies.items ≡ []
  pub room : length script ≤ vec_capacity talk.replies

-- the replies that it has had
abbrev pub talk_replies : Talk → List Reply
talk_replies talk = talk.replies.items
