-- What is due, from what the parts of the program say.
use Rattle.std.proofs.Common.{◌≡◌, ℕ, List, length, Bool, true, false, Some, All, refl, ap, sym, subst, ◌∙◌}
use Rattle.knit_base.specs.Lines.{lines_of}
use Rattle.line_cutter.specs.declared.fault.CutFault.{CutFault}
use Rattle.line_cutter.specs.Cut.{IsFirstBad, IsGoodLine}
use Rattle.knitout_reader.specs.declared.head.Head.{Head}
use Rattle.knitout_reader.specs.declared.head.HeadFault.{HeadFault}
use Rattle.knitout_reader.specs.Head.{IsHead, IsHeadFault}
use Rattle.machine_profile.specs.declared.Chosen.{Chosen}
use Rattle.command_words.specs.declared.command.Command.{Command}
use Rattle.command_words.specs.declared.command.Command.TheVariants.{Check, Text, Passes}
use Rattle.verdict_report.specs.declared.refusal.Refusal.{Refusal}
use Rattle.verdict_report.specs.Refusals.{refusal_text}
use Rattle.input_answers.specs.declared.outcome.Status.{Status}
use Rattle.input_answers.specs.declared.outcome.Status.TheVariants as status
use Rattle.knitout_writer.specs.Canonical.{IsCanonicalText}
use Rattle.file_run.specs.Bodies.{body_of}
use Rattle.input_answers.specs.CheckReport.{IsCheckReport}
use Rattle.input_answers.specs.PassesReport.{IsPassesReport}
use Rattle.input_answers.specs.Due.{Due, bad_line, bad_head, too_large, judged, canonical, broken, grouped, checks_body, BodyFits, HasHead, IsSizeRefusal, cut_refusal, head_refusal}

-- this text and this status are those that are due
said_so : (command : Command) (chosen : Chosen) (input text said : List ℕ) (result ends : Status) → Due command chosen input said ends → text ≡ said → result ≡ ends
    → Due command chosen input text result
said_so command chosen input text said result ends due is ended =
    subst (λ (t : List ℕ). Due command chosen input t result) (sym is) (subst (λ (s : Status). Due command chosen input said s) (sym ended) due)

-- the first bad line
pub due-bad_line : (command : Command) (chosen : Chosen) (input text : List ℕ) (result : Status) (fault : CutFault) (said : Refusal)
    → IsFirstBad (lines_of input) fault → cut_refusal fault ≡ Some said → (text ≡ refusal_text said) × (result ≡ status.BadInput)
    → Due command chosen input text result
due-bad_line command chosen input text result fault said bad tells reply =
    said_so command chosen input text (refusal_text said) result status.BadInput (bad_line fault said bad tells) reply.0 reply.1

-- the refusal of a head
pub due-bad_head : (command : Command) (chosen : Chosen) (input text : List ℕ) (result : Status) (lines : List (List ℕ)) (fault : HeadFault) (said : Refusal)
    → lines ≡ lines_of input → All IsGoodLine lines → IsHeadFault lines fault → head_refusal fault ≡ Some said
    → (text ≡ refusal_text said) × (result ≡ status.BadInput) → Due command chosen input text result
due-bad_head command chosen input text result lines fault said are good bad tells reply =
    said_so command chosen input text (refusal_text said) result status.BadInput
    (bad_head fault said (subst (All IsGoodLine) are good) (subst (λ ls. IsHeadFault ls fault) are bad) tells) reply.0 reply.1

-- a file with good lines and this head
has_head : (input : List ℕ) (lines : List (List ℕ)) (head : Head) → lines ≡ lines_of input → All IsGoodLine lines → IsHead lines head → HasHead input head
has_head input lines head are good is = record {
  good = subst (All IsGoodLine) are good;
  head_is = subst (λ ls. IsHead ls head) are is;
}

-- a body that is too large
pub due-too_large : (command : Command) (chosen : Chosen) (input text : List ℕ) (result : Status) (lines : List (List ℕ)) (head : Head) (count : ℕ) (said : Refusal)
    → checks_body command ≡ true → lines ≡ lines_of input → All IsGoodLine lines → IsHead lines head → count ≡ length (body_of lines)
    → IsSizeRefusal chosen.block count said → (text ≡ refusal_text said) × (result ≡ status.TooLarge) → Due command chosen input text result
due-too_large command chosen input text result lines head count said checks are good is counted large reply =
    let counts : count ≡ length (body_of (lines_of input)) = counted ∙ ap (λ ls. length (body_of ls)) are in
    said_so command chosen input text (refusal_text said) result status.TooLarge
    (too_large head said checks (has_head input lines head are good is) (subst (λ (n : ℕ). IsSizeRefusal chosen.block n said) counts large)) reply.0 reply.1

-- the report of a check
pub due-judged : (loops json : Bool) (chosen : Chosen) (input text : List ℕ) (result : Status) (lines : List (List ℕ)) (head : Head)
    → lines ≡ lines_of input → All IsGoodLine lines → IsHead lines head → BodyFits chosen.block (length (body_of lines))
    → IsCheckReport chosen.profile loops json head.declared lines text result → Due (Check loops json) chosen input text result
due-judged loops json chosen input text result lines head are good is fits reply =
    judged loops json head text result refl (has_head input lines head are good is)
    (subst (λ ls. BodyFits chosen.block (length (body_of ls))) are fits)
    (subst (λ ls. IsCheckReport chosen.profile loops json head.declared ls text result) are reply)

-- the verdict where passes were asked for and the program breaks a rule
pub due-broken : (chosen : Chosen) (input text : List ℕ) (result : Status) (lines : List (List ℕ)) (head : Head)
    → lines ≡ lines_of input → All IsGoodLine lines → IsHead lines head → BodyFits chosen.block (length (body_of lines))
    → IsCheckReport chosen.profile false false head.declared lines text status.Broken → result ≡ status.Broken → Due Passes chosen input text result
due-broken chosen input text result lines head are good is fits reply ends =
    said_so Passes chosen input text text result status.Broken
    (broken head text refl (has_head input lines head are good is)
    (subst (λ ls. BodyFits chosen.block (length (body_of ls))) are fits)
    (subst (λ ls. IsCheckReport chosen.profile false false head.declared ls text status.Broken) are reply))
    refl ends

-- the passes of a sound program
pub due-grouped : (chosen : Chosen) (input text : List ℕ) (result : Status) (lines : List (List ℕ)) (head : Head)
    → lines ≡ lines_of input → All IsGoodLine lines → IsHead lines head → BodyFits chosen.block (length (body_of lines))
    → IsPassesReport chosen.profile head.declared lines text → result ≡ status.Done → Due Passes chosen input text result
due-grouped chosen input text result lines head are good is fits reply ends =
    said_so Passes chosen input text text result status.Done
    (grouped head text refl (has_head input lines head are good is)
    (subst (λ ls. BodyFits chosen.block (length (body_of ls))) are fits)
    (subst (λ ls. IsPassesReport chosen.profile head.declared ls text) are reply))
    refl ends

-- the canonical text
pub due-canonical : (chosen : Chosen) (input text out : List ℕ) (lines : List (List ℕ)) (head : Head)
    → lines ≡ lines_of input → All IsGoodLine lines → IsHead lines head → IsCanonicalText chosen.profile head lines text → out ≡ text
    → Due Text chosen input out status.Done
due-canonical chosen input text out lines head are good is spelled same =
    said_so Text chosen input out text status.Done status.Done
    (canonical head text refl (has_head input lines head are good is) (subst (λ ls. IsCanonicalText chosen.profile head ls text) are spelled)) same refl

-- the reply to the command that was asked for
pub due-for : (command asked : Command) (chosen : Chosen) (input text : List ℕ) (result : Status) → command ≡ asked → Due asked chosen input text result → Due command chosen input text result
due-for command asked chosen input text result is due = subst (λ (x : Command). Due x chosen input text result) (sym is) due
