-- What is due for a made program, from what the parts of the program say.
use Rattle.std.proofs.Common.{◌≡◌, ℕ, List, length, sym, subst}
use Rattle.knitout_reader.specs.declared.head.Head.{Head}
use Rattle.knitout_reader.specs.Head.{IsHead}
use Rattle.knit_maker.specs.Made.{made_lines}
use Rattle.machine_profile.specs.declared.Chosen.{Chosen}
use Rattle.verdict_report.specs.declared.refusal.Refusal.{Refusal}
use Rattle.verdict_report.specs.Refusals.{refusal_text}
use Rattle.input_answers.specs.declared.outcome.Status.{Status}
use Rattle.input_answers.specs.declared.outcome.Status.TheVariants as status
use Rattle.file_run.specs.Bodies.{body_of}
use Rattle.input_answers.specs.Due.{BodyFits, IsSizeRefusal}
use Rattle.input_answers.specs.DueMade.{DueMade, IsMadeReport, summary, too_large}

-- this text and this status are those that are due
made_so : (chosen : Chosen) (rows start : ℕ) (text said : List ℕ) (result ends : Status) → DueMade chosen rows start said ends → text ≡ said → result ≡ ends → DueMade chosen rows start text result
made_so chosen rows start text said result ends due is ended =
    subst (λ (t : List ℕ). DueMade chosen rows start t result) (sym is) (subst (λ (s : Status). DueMade chosen rows start said s) (sym ended) due)

-- too many blocks
pub made-large : (chosen : Chosen) (rows start : ℕ) (text : List ℕ) (result : Status) (lines : List (List ℕ)) (said : Refusal) → lines ≡ made_lines rows start
    → IsSizeRefusal chosen.block (length (body_of lines)) said → (text ≡ refusal_text said) × (result ≡ status.TooLarge) → DueMade chosen rows start text result
made-large chosen rows start text result lines said are large reply =
    made_so chosen rows start text (refusal_text said) result status.TooLarge (too_large said (subst (λ ls. IsSizeRefusal chosen.block (length (body_of ls)) said) are large)) reply.0 reply.1

-- what is made of it
pub made-summary : (chosen : Chosen) (rows start : ℕ) (text : List ℕ) (result : Status) (lines : List (List ℕ)) (head : Head) → lines ≡ made_lines rows start
    → IsHead lines head → BodyFits chosen.block (length (body_of lines)) → IsMadeReport chosen.profile chosen.block head.declared lines text × (result ≡ status.Done)
    → DueMade chosen rows start text result
made-summary chosen rows start text result lines head are is fits reply =
    made_so chosen rows start text text result status.Done
    (summary head text (subst (λ ls. IsHead ls head) are is) (subst (λ ls. BodyFits chosen.block (length (body_of ls))) are fits)
    (subst (λ ls. IsMadeReport chosen.profile chosen.block head.declared ls text) are reply.0)) (λ i. text) reply.1
