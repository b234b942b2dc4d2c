use Rattle.std.proofs.Common.{◌≡◌, ◌+◌, Bool, ℕ, List, [], inl, refl, ap, subst, sym, append-nil}
use Rattle.edit_groups.specs.declared.chunk.Chunk.{Chunk}
use Rattle.edit_journal.specs.declared.opening.Opening.{Opening}
use Rattle.knit_ports.specs.Pieces.{Piece, said_in}
use Rattle.talk_desk.specs.Conversation.{Ends, asking}
use Rattle.talk_desk.specs.declared.desk.Beginning.{Beginning}
use Rattle.live_talk.specs.Begins.{IsBeginning}
use Rattle.live_talk.specs.Served.{IsTalked, refused, stopped, talked}
use Rattle.live_talk.proofs.Ends.{ended-cause, goes-none, lines-silent, never-read, never-write, text-refused}
use Rattle.live_talk.proofs.talk.answer_opening.Goals as goal

pub returns-in-Ok-Begun-clause-served : goal.returns-in-Ok-Begun-clause-served
returns-in-Ok-Begun-clause-served g c = λ heard is.
    let b = subst (IsBeginning c.args.plan.now c.args.opening) c.in-Ok-Begun.field-0-is c.in-Ok-Begun.ensures in
    let has = b.begun in
    let first : ℕ = c.from-first.result + 1 in
    let text = c.in-Ok-Begun.begun.text.items in
    let t = c.talk_on.ensures.talked in
    let pending = c.args.ear.now.pending in
    let here = subst (λ (x : Beginning). IsTalked (asking x.style.json x.style.head x.opening x.earlier x.first) (Ends x.style.json x.style.head x.opening x.earlier x.first) text pending t.0 c.talk_on.result) c.new-desk.ensures.began t.2 in (
      t.0,
      t.1,
      talked heard t.0 pending b.head b.opening b.entries first text c.talk_on.result refl
          (record {
            told = c.args.opening;
            told_of = is;
            document = b.document;
            first_is = ap (λ (n : ℕ). n + 1) c.from-first.ensures;
          }) has.said
          (subst (λ (p : Bool × List (List ℕ) × Opening × List Chunk). IsTalked (asking p.0 p.1 p.2 p.3 first) (Ends p.0 p.1 p.2 p.3 first) text pending t.0 c.talk_on.result)
          (λ i. (has.json_is i, has.head_is i, has.opens i, has.known i)) here),
    )

pub returns-in-Ok-Refused-clause-served : goal.returns-in-Ok-Refused-clause-served
returns-in-Ok-Refused-clause-served g c = λ heard is.
    let r = subst (IsBeginning c.args.plan.now c.args.opening) c.in-Ok-Refused.field-0-is c.in-Ok-Refused.ensures in
    let e = c.refuse.ensures.said in
    (e.0, e.1, refused heard e.0 c.args.ear.now.pending c.in-Ok-Refused.refusal c.in-Ok-Refused.status c.refuse.result refl (text-refused c.args.plan.now heard c.args.ear.now.pending c.args.opening _ _ is r) e.2)

pub returns-in-Ok-Refused-clause-cause : goal.returns-in-Ok-Refused-clause-cause
returns-in-Ok-Refused-clause-cause g c =
    let r = subst (IsBeginning c.args.plan.now c.args.opening) c.in-Ok-Refused.field-0-is c.in-Ok-Refused.ensures in
    ended-cause c.in-Ok-Refused.status c.refuse.result (g.T.Talk.faults c.args.talk.now) (g.T.Talk.faults c.args.talk.now) (g.T.Talk.faults c.refuse.new.talk)
    (λ same. absurd (never-read c.args.plan.now c.args.opening _ _ r same)) (λ same. absurd (never-write c.args.plan.now c.args.opening _ _ r same)) (inl refl) c.refuse.ensures.cause

pub returns-in-Err-clause-served : goal.returns-in-Err-clause-served
returns-in-Err-clause-served g c = λ heard is.
    ([], goes-none (g.T.Talk.told c.args.talk.now), stopped (subst (λ (l : List Piece). said_in l ≡ []) (sym (append-nil heard)) (lines-silent heard is.lines c.args.ear.now.pending is.heard)))
