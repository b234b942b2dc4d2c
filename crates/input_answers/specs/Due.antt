-- What is due for an input that was read whole: the text and the status.
use Rattle.std.specs.Prelude.{◌≡◌, ◌⊎◌, ℕ, ◌+◌, ◌-◌, ◌/◌, ◌<◌, ◌≤◌, Bool, true, false, List, length, Option, None, Some, All}
use Rattle.knit_base.specs.Lines.{lines_of}
use Rattle.line_cutter.specs.declared.fault.CutFault.{CutFault}
use Rattle.line_cutter.specs.declared.fault.CutFault.TheVariants as cut
use Rattle.line_cutter.specs.Cut.{IsFirstBad, IsGoodLine}
use Rattle.knitout_reader.specs.declared.head.HeadFault.{HeadFault}
use Rattle.knitout_reader.specs.declared.head.HeadFault.TheVariants as head
use Rattle.knitout_reader.specs.declared.head.Head.{Head}
use Rattle.knitout_reader.specs.Head.{IsHead, IsHeadFault}
use Rattle.knitout_writer.specs.Canonical.{IsCanonicalText}
use Rattle.machine_profile.specs.declared.Chosen.{Chosen}
use Rattle.command_words.specs.declared.command.Command.{Command}
use Rattle.command_words.specs.declared.command.Command.TheVariants.{Check, Text, Passes, Live, Save, Groups, Serve, Replay, Tally, Make}
use Rattle.verdict_report.specs.declared.refusal.Refusal.{Refusal}
use Rattle.verdict_report.specs.declared.refusal.Refusal.TheVariants as refusal
use Rattle.verdict_report.specs.Refusals.{refusal_text}
use Rattle.input_answers.specs.declared.outcome.Status.{Status}
use Rattle.input_answers.specs.declared.outcome.Status.TheVariants as status
use Rattle.file_run.specs.Bodies.{body_of}
use Rattle.input_answers.specs.CheckReport.{IsCheckReport}
use Rattle.input_answers.specs.PassesReport.{IsPassesReport}

-- what is said of bytes that aren't lines; of want of memory nothing is
abbrev pub cut_refusal : CutFault → Option Refusal
cut_refusal (cut.NotUtf8 line) = Some (refusal.NotUtf8 line)
cut_refusal (cut.LineLong line) = Some (refusal.LineLong line)
cut_refusal cut.NoMemory = None

-- what is said of a head that is none; of want of memory nothing is
abbrev pub head_refusal : HeadFault → Option Refusal
head_refusal head.BadMagic = Some refusal.BadMagic
head_refusal head.NoCarriers = Some refusal.NoCarriers
head_refusal (head.TwoCarriers line) = Some (refusal.TwoCarriers line)
head_refusal (head.CarrierNameTwice line) = Some (refusal.CarrierNameTwice line)
head_refusal (head.ManyCarriers line) = Some (refusal.ManyCarriers line)
head_refusal head.NoMemory = None

-- how many blocks of this size so many lines make, the last one shorter
abbrev pub blocks_of : ℕ → ℕ → ℕ
blocks_of size count = (count + (size - 1)) / size

-- the file has good lines and this head
pub record HasHead (input : List ℕ) (head : Head) : Type 0 where
  pub good : All IsGoodLine (lines_of input)
  pub head_is : IsHead (lines_of input) head

-- so many body lines are at most 1,048,576, in at most 65,536 blocks of this size
pub record BodyFits (size count : ℕ) : Type 0 where
  pub lines : count ≤ 1048576
  pub blocks : blocks_of size count ≤ 65536

-- what is said of a body of so many lines that is too large
abbrev pub IsSizeRefusal : ℕ → ℕ → Refusal → Type 0
IsSizeRefusal size count said =
    ((said ≡ refusal.TooManyLines) × (1048576 < count))
    ⊎ ((said ≡ refusal.TooManyBlocks) × (count ≤ 1048576) × (65536 < blocks_of size count))

-- the commands that check the body of a file
abbrev pub checks_body : Command → Bool
checks_body (Check loops json) = true
checks_body Text = false
checks_body Passes = true
checks_body Live = false
checks_body Save = false
checks_body Groups = false
checks_body (Serve json) = false
checks_body Replay = false
checks_body (Tally from to) = false
checks_body (Make rows start) = false

-- the text and the status that are due for this input, where the words ask for this command with these limits
pub data Due (command : Command) (chosen : Chosen) (input : List ℕ) : List ℕ → Status → Type 0 where
  -- a line isn't text or is too long: the first such line is named
  bad_line : (fault : CutFault) (said : Refusal) → IsFirstBad (lines_of input) fault → cut_refusal fault ≡ Some said
      → Due command chosen input (refusal_text said) status.BadInput
  -- the lines are good and the head is refused, for the first reason that holds
  bad_head : (fault : HeadFault) (said : Refusal) → All IsGoodLine (lines_of input) → IsHeadFault (lines_of input) fault → head_refusal fault ≡ Some said
      → Due command chosen input (refusal_text said) status.BadInput
  -- the body that is to be checked has too many lines, or else too many blocks
  too_large : (head : Head) (said : Refusal) → checks_body command ≡ true → HasHead input head
      → IsSizeRefusal chosen.block (length (body_of (lines_of input))) said
      → Due command chosen input (refusal_text said) status.TooLarge
  -- the verdict on the program
  judged : (loops json : Bool) (head : Head) (text : List ℕ) (result : Status)
      → command ≡ Check loops json → HasHead input head → BodyFits chosen.block (length (body_of (lines_of input)))
      → IsCheckReport chosen.profile loops json head.declared (lines_of input) text result
      → Due command chosen input text result
  -- the canonical text of the file
  canonical : (head : Head) (text : List ℕ) → command ≡ Text → HasHead input head → IsCanonicalText chosen.profile head (lines_of input) text
      → Due command chosen input text status.Done
  -- the program breaks a rule and has no passes: its verdict
  broken : (head : Head) (text : List ℕ) → command ≡ Passes → HasHead input head → BodyFits chosen.block (length (body_of (lines_of input)))
      → IsCheckReport chosen.profile false false head.declared (lines_of input) text status.Broken
      → Due command chosen input text status.Broken
  -- the passes of a sound program
  grouped : (head : Head) (text : List ℕ) → command ≡ Passes → HasHead input head → BodyFits chosen.block (length (body_of (lines_of input)))
      → IsPassesReport chosen.profile head.declared (lines_of input) text
      → Due command chosen input text status.Done
