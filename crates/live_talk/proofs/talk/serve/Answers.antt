use Rattle.std.proofs.Common.{◌∙◌, ◌++◌, List, [], inr, refl, subst}
use Rattle.std.specs.Prelude.{Err}
use Rattle.knit_ports.specs.Pieces.{PiecesGoOn, Piece}
use Rattle.knit_ports.proofs.SaidPieces.{goes-trans}
use Rattle.input_answers.specs.Asked.{as_json}
use Rattle.input_answers.specs.declared.outcome.Status.TheVariants as status
use Rattle.opening_reader.specs.HeardOpenings.{EndsOpening, OpeningCause}
use Rattle.opening_reader.specs.declared.opening.OpeningFault.{OpeningFault}
use Rattle.verdict_report.specs.Refusals.{refusal_text}
use Rattle.verdict_report.specs.declared.refusal.Refusal.{Refusal}
use Rattle.live_talk.specs.Served.{IsEnded, bad_line, failed, line_refusal, stopped, too_many}
use Rattle.live_talk.proofs.Ends.{ended-cause, goes-none, lines-silent}
use Rattle.live_talk.proofs.Talks.{serve-refused}
use Rattle.live_talk.proofs.talk.serve.Goals as goal

pub returns-in_default-clause-served : goal.returns-in_default-clause-served
returns-in_default-clause-served g c = ([], goes-none (g.T.Talk.told c.args.talk.now), stopped refl)

pub answer_opening-requires-clause-opened : goal.answer_opening-requires-clause-opened
answer_opening-requires-clause-opened g c κs within =
    let h = c.in-Ok-hear_opening.ensures.heard in
    (h.2.lines, h.2.is_opening)

pub returns-in-Ok-hear_opening-clause-served : goal.returns-in-Ok-hear_opening-clause-served
returns-in-Ok-hear_opening-clause-served g c =
    let h = c.in-Ok-hear_opening.ensures.heard in
    let s = c.answer_opening.ensures.served h.0 h.2 in
    (h.0 ++ s.0, goes-trans (g.T.Talk.told c.args.talk.now) (g.T.Talk.told c.hear_opening.new.talk) (g.T.Talk.told c.answer_opening.new.talk) h.0 s.0 h.1 s.1, s.2)

pub returns-in-Err-At-clause-served : goal.returns-in-Err-At-clause-served
returns-in-Err-At-clause-served g c =
    let h = c.in-Err-At.ensures.heard in
    let said = subst (λ (r : Refusal). (more : List Piece) × PiecesGoOn (g.T.Talk.told c.hear_opening.new.talk) (g.T.Talk.told c.refuse.new.talk) more × IsEnded (refusal_text r) status.BadInput more c.refuse.result) (c.line_refusal.ensures ∙ (λ i. line_refusal (c.in-Err-At.line-is i) (c.in-Err-At.cause-is i))) c.refuse.ensures.said in
    serve-refused (as_json c.args.plan.now.command) c.args.plan.now.chosen (g.T.Talk.told c.args.talk.now) (g.T.Talk.told c.hear_opening.new.talk) (g.T.Talk.told c.refuse.new.talk) h.0 c.hear_opening.new.ear.pending _ status.BadInput c.refuse.result h.1
    (bad_line c.in-Err-At.line c.in-Err-At.cause (subst (λ (f : OpeningFault). EndsOpening h.0 c.hear_opening.new.ear.pending (Err f)) c.in-Err-At.field-0-is h.2)) said

pub returns-in-Err-TooManyBytes-clause-served : goal.returns-in-Err-TooManyBytes-clause-served
returns-in-Err-TooManyBytes-clause-served g c =
    let h = c.in-Err-TooManyBytes.ensures.heard in
    serve-refused (as_json c.args.plan.now.command) c.args.plan.now.chosen (g.T.Talk.told c.args.talk.now) (g.T.Talk.told c.hear_opening.new.talk) (g.T.Talk.told c.refuse-in-Err-TooManyBytes.new.talk) h.0 c.hear_opening.new.ear.pending _ _ c.refuse-in-Err-TooManyBytes.result h.1
    (too_many (subst (λ (f : OpeningFault). EndsOpening h.0 c.hear_opening.new.ear.pending (Err f)) c.in-Err-TooManyBytes.field-0-is h.2)) c.refuse-in-Err-TooManyBytes.ensures.said

pub returns-in-Err-Failed-clause-served : goal.returns-in-Err-Failed-clause-served
returns-in-Err-Failed-clause-served g c =
    let h = c.in-Err-Failed.ensures.heard in
    serve-refused (as_json c.args.plan.now.command) c.args.plan.now.chosen (g.T.Talk.told c.args.talk.now) (g.T.Talk.told c.hear_opening.new.talk) (g.T.Talk.told c.refuse-in-Err-Failed.new.talk) h.0 c.hear_opening.new.ear.pending _ _ c.refuse-in-Err-Failed.result h.1
    (failed (subst (λ (f : OpeningFault). EndsOpening h.0 c.hear_opening.new.ear.pending (Err f)) c.in-Err-Failed.field-0-is h.2)) c.refuse-in-Err-Failed.ensures.said

pub returns-in-Err-Failed-clause-cause : goal.returns-in-Err-Failed-clause-cause
returns-in-Err-Failed-clause-cause g c =
    let rose = subst (λ (f : OpeningFault). OpeningCause (g.T.Talk.faults c.args.talk.now) (g.T.Talk.faults c.hear_opening.new.talk) (Err f)) c.in-Err-Failed.field-0-is c.in-Err-Failed.ensures.cause in
    ended-cause status.ReadFault c.refuse-in-Err-Failed.result (g.T.Talk.faults c.args.talk.now) (g.T.Talk.faults c.hear_opening.new.talk) (g.T.Talk.faults c.refuse-in-Err-Failed.new.talk)
    (λ same. rose) (λ same. rose) (inr rose) c.refuse-in-Err-Failed.ensures.cause

pub returns-clause-served : goal.returns-clause-served
returns-clause-served g c =
    let h = c.in-Err-NoMemory.ensures.heard in
    let e = (subst (λ (f : OpeningFault). EndsOpening h.0 c.hear_opening.new.ear.pending (Err f)) c.in-Err-NoMemory.field-0-is h.2) in
    (h.0, h.1, stopped (lines-silent h.0 _ c.hear_opening.new.ear.pending e.heard))
