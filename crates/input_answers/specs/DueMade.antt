-- What is due for a made program: the text and the status.
use Rattle.std.specs.Prelude.{◌≡◌, ℕ, List, length}
use Rattle.carriage_model.specs.declared.verdict.Verdict.{Verdict}
use Rattle.carriage_model.specs.declared.verdict.LoopFact.{LoopFact}
use Rattle.knitout_reader.specs.declared.head.Head.{Head}
use Rattle.knitout_reader.specs.Head.{IsHead}
use Rattle.knit_base.specs.declared.profile.Profile.{Profile}
use Rattle.knit_maker.specs.Made.{made_lines}
use Rattle.machine_profile.specs.declared.Chosen.{Chosen}
use Rattle.pass_grouping.specs.declared.operation.PassOp.{PassOp}
use Rattle.pass_grouping.specs.declared.certificate.Window.{Window}
use Rattle.verdict_report.specs.declared.refusal.Refusal.{Refusal}
use Rattle.verdict_report.specs.MadeText.{made_text}
use Rattle.verdict_report.specs.Refusals.{refusal_text}
use Rattle.input_answers.specs.declared.outcome.Status.{Status}
use Rattle.input_answers.specs.declared.outcome.Status.TheVariants as status
use Rattle.file_run.specs.Bodies.{IsJudged, body_of}
use Rattle.input_answers.specs.Due.{BodyFits, IsSizeRefusal, blocks_of}
use Rattle.input_answers.specs.PassesReport.{AreFewest, AreOperations}

-- the text says how many lines and blocks there are, what one carriage makes of them, and how many passes, operations and windows there are
pub record IsMadeReport (profile : Profile) (block : ℕ) (names lines : List (List ℕ)) (text : List ℕ) : Type 0 where
  pub verdict_given : Verdict
  pub loops : List LoopFact
  pub judged : IsJudged profile names lines verdict_given loops
  pub operations : List PassOp
  pub listed : AreOperations profile names lines operations
  pub starts : List ℕ
  pub windows : List Window
  pub grouped : AreFewest operations starts windows
  pub reported : text ≡ made_text (length lines) (blocks_of block (length (body_of lines))) verdict_given (length starts) (length operations) (length windows)

-- the text and the status that are due for a made program with so many rows, with these limits
pub data DueMade (chosen : Chosen) (rows start : ℕ) : List ℕ → Status → Type 0 where
  -- its body has too many lines, or else too many blocks
  too_large : (said : Refusal) → IsSizeRefusal chosen.block (length (body_of (made_lines rows start))) said → DueMade chosen rows start (refusal_text said) status.TooLarge
  -- what is made of it
  summary : (head : Head) (text : List ℕ) → IsHead (made_lines rows start) head → BodyFits chosen.block (length (body_of (made_lines rows start)))
      → IsMadeReport chosen.profile chosen.block head.declared (made_lines rows start) text → DueMade chosen rows start text status.Done
