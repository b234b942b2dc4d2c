-- What a session asks of the header, and what it is told of it.
use Rattle.std.specs.Prelude.{◌≡◌, ◌≢◌, ℕ, List, Some, option_and_then}
use Rattle.std.specs.List.{slice_get}
use Rattle.knitout_reader.specs.Head.{names_in_line}
use Rattle.edit_journal.specs.Entries.{head_id}
use Rattle.script_reader.specs.declared.command.Command.{Command}
use Rattle.script_reader.specs.declared.command.Command.TheVariants as command
use Rattle.edit_book.specs.declared.reply.Reply.{Reply}
use Rattle.edit_book.specs.declared.reply.Reply.TheVariants as reply
use Rattle.edit_book.specs.Replies.{Request, Look, Put, Add, Cut, LoopAt, VerdictNow, LookHead, PutHead}

-- the command isn't of the header
abbrev pub IsOfBlocks : Command → Type 0
IsOfBlocks command.LookHead = ⊥
IsOfBlocks (command.PutHead names) = ⊥
IsOfBlocks c = Unit {0}

-- what is asked isn't of the header
abbrev pub AsksBlocks : Request → Type 0
AsksBlocks LookHead = ⊥
AsksBlocks (PutHead seen names) = ⊥
AsksBlocks request = Unit {0}

-- what is asked is what the command says, of whatever block and with whatever stamp
abbrev pub CommandAsks : Command → Request → Type 0
CommandAsks (command.Look name) (Look id) = Unit {0}
CommandAsks (command.Put name text) (Put id seen head lines) = Unit {0}
CommandAsks (command.Add place text) (Add anchor head lines) = Unit {0}
CommandAsks (command.Cut name) (Cut id seen) = Unit {0}
CommandAsks (command.LoopAt line) (LoopAt asked) = Unit {0}
CommandAsks command.Verdict VerdictNow = Unit {0}
CommandAsks command.LookHead LookHead = Unit {0}
CommandAsks (command.PutHead names) (PutHead seen given) = Unit {0}
CommandAsks c request = ⊥

-- the reply tells no stamp of the header
abbrev pub TellsNoHeader : Reply → Type 0
TellsNoHeader (reply.Accepted version block brief) = block ≢ head_id
TellsNoHeader (reply.Shown version block stamp first text) = block ≢ head_id
TellsNoHeader r = Unit {0}

-- the reply shows a line that gives these names
abbrev pub ShowsNames : Reply → List (List ℕ) → Type 0
ShowsNames (reply.Shown version block stamp first text) names = option_and_then names_in_line (slice_get text 0) ≡ Some names
ShowsNames r names = ⊥
