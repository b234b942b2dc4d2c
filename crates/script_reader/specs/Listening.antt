-- What the functions that read a line of a conversation tell each other. The proofs alone speak of it.
use Rattle.std.specs.Prelude.{◌≡◌, ◌<◌, true}
use Rattle.script_reader.specs.Script.{takes_text}
use Rattle.script_reader.specs.declared.talk_line.Asked.{Asked}
use Rattle.script_reader.specs.declared.talk_line.Asked.TheVariants as asked
use Rattle.script_reader.specs.declared.talk_line.TalkLine.{TalkLine}
use Rattle.script_reader.specs.declared.talk_line.TalkLine.TheVariants as talk

-- an edit is one that takes a text
abbrev pub IsFairAsked : Asked → Type 0
IsFairAsked (asked.Plain c) = Unit {0}
IsFairAsked (asked.Edit c count) = takes_text c ≡ true
IsFairAsked asked.Header = Unit {0}
IsFairAsked (asked.Tell q) = Unit {0}
IsFairAsked (asked.Mark m) = Unit {0}

-- a command is that of a session below 64
abbrev pub IsFairLine : TalkLine → Type 0
IsFairLine talk.Skipped = Unit {0}
IsFairLine talk.Text = Unit {0}
IsFairLine (talk.Command session a) = (session < 64) × IsFairAsked a
IsFairLine (talk.Bad cause) = Unit {0}
