-- What the sessions of a script did.
use Rattle.std.specs.Prelude.{List, [], Option, None, Some}
use Rattle.edit_journal.specs.declared.edit.Entry.{Entry}
use Rattle.edit_book.specs.declared.reply.Reply.{Reply}
use Rattle.script_reader.specs.declared.command.Script.{Script}
use Rattle.input_answers.specs.declared.outcome.GroupOutcome.{GroupOutcome}
use Rattle.input_answers.specs.declared.outcome.Outcome.{Outcome}

-- the script, the entries of the journal, and the replies to each session; and of a script of groups the same, with its steps
pub record Played : Type 0 where
  pub script : Script
  pub entries : List Entry
  pub replies : List (List Reply)
  pub groups : Option GroupOutcome

-- no script was read
abbrev pub nothing_played : Played
nothing_played = record { script = record { text = []; sessions = [] }; entries = []; replies = []; groups = None }

-- what a run of the program tells of its sessions
abbrev pub played_by : Outcome → Played
played_by outcome = record { script = outcome.script; entries = outcome.journal.entries; replies = outcome.replies; groups = outcome.groups }

-- a script of groups was carried out
abbrev pub groups_played : GroupOutcome → Played
groups_played g = record { script = record { text = []; sessions = [] }; entries = []; replies = []; groups = Some g }
