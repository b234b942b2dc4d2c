-- The lines of the program's refusals.
use Rattle.std.specs.Prelude.{ℕ, List, ◌++◌, codes, decimal}
use Rattle.script_reader.specs.declared.fault.Cause.{Cause}
use Rattle.script_reader.specs.declared.fault.Cause.TheVariants as causes
use Rattle.verdict_report.specs.declared.refusal.Refusal.{Refusal}
use Rattle.verdict_report.specs.declared.refusal.Refusal.TheVariants.{Usage, ReadFault, TooManyBytes, TooManyLines, TooManyBlocks, NotUtf8, LineLong, BadMagic, NoCarriers, TwoCarriers, CarrierNameTwice, ManyCarriers, BadScript, BadJournal, NoFit, BadRange}

-- a line of the file that can't be read
abbrev pub bad_line : ℕ → List ℕ → List ℕ
bad_line line cause = codes "bad input: line " ++ (decimal line ++ cause)

-- a line of the head that can't be read
abbrev pub bad_head_line : ℕ → List ℕ → List ℕ
bad_head_line line cause = codes "bad input: head line " ++ (decimal line ++ cause)

-- what is wrong with a line of a script
abbrev pub cause_word : Cause → List ℕ
cause_word causes.NoLive = codes " NoLive\n"
cause_word causes.BadLine = codes " BadLine\n"
cause_word causes.ManySessions = codes " ManySessions\n"
cause_word causes.NoOwn = codes " NoOwn\n"
cause_word causes.NoGroups = codes " NoGroups\n"
cause_word causes.NoServe = codes " NoServe\n"
cause_word causes.LineLong = codes " LineLong\n"
cause_word causes.NotUtf8 = codes " NotUtf8\n"

-- a line of a script that is outside its grammar
abbrev pub bad_script_line : ℕ → List ℕ → List ℕ
bad_script_line line cause = codes "bad input: script line " ++ (decimal line ++ cause)

-- a line of a saved text that is outside its form, or whose entry doesn't fit
abbrev pub bad_journal_line : ℕ → List ℕ → List ℕ
bad_journal_line line cause = codes "bad input: journal line " ++ (decimal line ++ cause)

-- the line of a refusal
abbrev pub refusal_text : Refusal → List ℕ
refusal_text Usage = codes "usage: check_main check|text|passes|live|make N START [options]\n"
refusal_text ReadFault = codes "read fault\n"
refusal_text TooManyBytes = codes "too large: bytes\n"
refusal_text TooManyLines = codes "too large: lines\n"
refusal_text TooManyBlocks = codes "too large: blocks\n"
refusal_text (NotUtf8 line) = bad_line line (codes " NotUtf8\n")
refusal_text (LineLong line) = bad_line line (codes " LineLong\n")
refusal_text BadMagic = codes "bad input: head BadMagic\n"
refusal_text NoCarriers = codes "bad input: head NoCarriers\n"
refusal_text (TwoCarriers line) = bad_head_line line (codes " TwoCarriers\n")
refusal_text (CarrierNameTwice line) = bad_head_line line (codes " CarrierNameTwice\n")
refusal_text (ManyCarriers line) = bad_head_line line (codes " ManyCarriers\n")
refusal_text (BadScript line cause) = bad_script_line line (cause_word cause)
refusal_text (BadJournal line) = bad_journal_line line (codes " BadLine\n")
refusal_text (NoFit line) = bad_journal_line line (codes " NoFit\n")
refusal_text BadRange = codes "bad input: range\n"
