-- A session that hasn't begun, the replies of one, and what the replies of several say of the steps that are known after them.
use Rattle.std.specs.Prelude.{◌≡◌, ℕ, ◌≤◌, true, List, [], length, map, vec_capacity}
use Rattle.std.specs.List.{list_all}
use Rattle.edit_journal.specs.declared.opening.Opening.{Opening}
use Rattle.script_reader.specs.Groups.{is_lawful_step}
use Rattle.script_reader.specs.declared.step.Step.{Step}
use Rattle.edit_book.specs.Memory.{first_memory}
use Rattle.edit_groups.specs.Alone.{IsSessionAt}
use Rattle.edit_groups.specs.Sessions.{HeardReply, group_core}
use Rattle.edit_groups.specs.declared.chunk.Chunk.{Chunk}
use Rattle.edit_groups.specs.declared.reply.GroupReply.{GroupReply}
use Rattle.edit_groups.specs.declared.talk.Talk.{Talk}
use Rattle.turn_book.specs.Histories.{AreHistories, IsHistory}

-- session n at its start, with no reply, and with room for one to each step of its script
pub record IsGroupTalkReady (opening : Opening) (n : ℕ) (script : List Step) (talk : Talk) : Type 0 where
  pub number : talk.session.session.number ≡ n
  pub stands : IsSessionAt opening [] (first_memory opening) talk.session
  pub empty : talk.replies.items ≡ []
  pub room : length script ≤ vec_capacity talk.replies
  pub lawful : list_all is_lawful_step script ≡ true

-- the replies that it has had
abbrev pub group_talk_replies : Talk → List GroupReply
group_talk_replies talk = talk.replies.items

-- the replies alone
abbrev pub replies_in : List HeardReply → List GroupReply
replies_in heard = map (λ h. h.reply) heard

-- session n has heard these replies to its steps; of the steps that are known after them just those are its own that they left
pub record IsHeardAlong (opening : Opening) (n : ℕ) (known : List Chunk) (script : List Step) (replies : List GroupReply) : Type 0 where
  pub heard : List HeardReply
  pub replies_are : replies ≡ replies_in heard
  pub history : IsHistory (group_core opening) n known (first_memory opening) script heard

-- the same of each of the sessions n, n + 1 and so on
pub record AreSessionsHeard (opening : Opening) (n : ℕ) (known : List Chunk) (scripts : List (List Step)) (replies : List (List GroupReply)) : Type 0 where
  pub heard : List (List HeardReply)
  pub replies_are : replies ≡ map replies_in heard
  pub histories : AreHistories (group_core opening) n known (first_memory opening) scripts heard
