use Rattle.std.proofs.Common.{◌≡◌, ◌∙◌, ℕ, List, length, ap, subst, sym}
use Rattle.file_run.specs.Bodies.{body_of}
use Rattle.input_answers.specs.Due.{BodyFits, IsSizeRefusal}
use Rattle.knitout_reader.specs.Head.{IsHead, IsHeadFault}
use Rattle.live_talk.specs.Begins.{bad_head, too_large}
use Rattle.live_talk.proofs.Documents.{begins-anew}
use Rattle.live_talk.proofs.begin.begin_anew.Goals as goal

pub returns-in-Err : goal.returns-in-Err
returns-in-Err g c = λ told is same.
    bad_head c.in-Err.fault c.in_ok-refusal-in-Err.refusal is (subst (λ (text : List (List ℕ)). IsHeadFault text c.in-Err.fault) (c.in_ok-text.ensures ∙ sym same) c.in-Err.ensures.fault) c.in_ok-refusal-in-Err.ensures

pub returns-in-Some : goal.returns-in-Some
returns-in-Some g c = λ told is same.
    too_large c.in-Ok.head c.in-Some.refusal is (subst (λ (text : List (List ℕ)). IsHead text c.in-Ok.head) (c.in_ok-text.ensures ∙ sym same) c.in-Ok.ensures.head)
    (subst (λ (n : ℕ). IsSizeRefusal c.args.plan.now.chosen.block n c.in-Some.refusal) (c.body_len.ensures ∙ ap (λ (text : List (List ℕ)). length (body_of text)) (c.in_ok-text.ensures ∙ sym same)) c.in-Some.ensures)

pub returns : goal.returns
returns g c = λ told is same.
    let b = c.in_ok-begun-in-None.ensures in
    begins-anew c.args.plan.now told c.in_ok-text.text c.in-Ok.head b.0 c.in_ok-begun-in-None.begun is (c.in_ok-text.ensures ∙ sym same) c.in-Ok.ensures.head
    (subst (BodyFits c.args.plan.now.chosen.block) c.body_len.ensures c.in-None.ensures) b.1 b.2
