use Rattle.std.proofs.Common.{ℕ, ◌+◌, ◌∙◌, [], sym, subst, refl, arith}
use Rattle.std.specs.Prelude.{Err}
use Rattle.knit_ports.specs.Pieces.{Says, SaysFront}
use Rattle.knit_ports.specs.Ears.{IsLineHeard}
use Rattle.knit_ports.specs.Faults.{Rose}
use Rattle.talk_loop.specs.Conversed.{HasTalkCause, IsLineAnswered}
use Rattle.talk_loop.specs.declared.conversation.TalkFault.TheVariants as fault
use Rattle.talk_loop.proofs.Last.{kept-one}
use Rattle.talk_loop.proofs.Loop.{Ended, SoFar, count-over, goes-on, hearing-failed, input-over, memory-failed, saying-failed, so_far_at_start}
use Rattle.talk_loop.proofs.conversation.converse.Goals as goal

pub lines-init : goal.lines-init
lines-init g c = record {
  same = refl;
  calm = refl;
  so_far = so_far_at_start (g.D.Desk.asking (g.D.Desk.opening c.args.desk.now)) (g.D.Desk.ends (g.D.Desk.opening c.args.desk.now)) (g.D.Desk.behind c.args.desk.now) _ _ c.args.first _ refl c.requires.first c.requires.nothing c.requires.begun;
}

pub returns-in-Err : goal.returns-in-Err
returns-in-Err g c = record {
  conversed = hearing-failed (g.D.Desk.asking (g.D.Desk.opening c.args.desk.now)) (g.D.Desk.ends (g.D.Desk.opening c.args.desk.now)) (g.D.Desk.behind c.lines.desk) (g.T.Talk.told c.args.talk.now) c.args.ear.now.pending _ _ c.lines.ear c.hear.new.self c.lines.number c.lines.invariant.so_far c.in-Err.ensures.front;
  cause = subst (λ (n : ℕ). Rose n (g.T.Talk.faults c.hear.new.talk)) c.lines.invariant.calm c.in-Err.ensures.cause;
}

pub finish-requires-clause-one : goal.finish-requires-clause-one
finish-requires-clause-one g c κs within = let h = c.in-Ok.ensures.heard in kept-one h.line c.line.result.now (c.line.ensures ∙ h.kept) h.one

pub finish-requires-clause-begun : goal.finish-requires-clause-begun
finish-requires-clause-begun g c κs within =
    let s = subst (λ o. SoFar (g.D.Desk.asking o) (g.D.Desk.ends o) (g.D.Desk.behind c.lines.desk) (g.T.Talk.told c.args.talk.now) c.args.ear.now.pending (g.T.Talk.told c.lines.talk) c.lines.ear.pending c.lines.number) (sym c.lines.invariant.same) c.lines.invariant.so_far in
    (s.lines, s.answers, s.stands, s.counted)

pub finish-requires-clause-kept : goal.finish-requires-clause-kept
finish-requires-clause-kept g c κs within = let h = c.in-Ok.ensures.heard in (h.line, c.line.ensures ∙ h.kept)

pub returns-in_default : goal.returns-in_default
returns-in_default g c =
    let h = c.in-Ok.ensures.heard in
    let same = c.lines.invariant.same in
    let s = subst (λ o. SoFar (g.D.Desk.asking o) (g.D.Desk.ends o) (g.D.Desk.behind c.lines.desk) (g.T.Talk.told c.args.talk.now) c.args.ear.now.pending (g.T.Talk.told c.lines.talk) c.lines.ear.pending c.lines.number) (sym same) c.lines.invariant.so_far in
    let f = c.finish.ensures.finished s.lines s.answers h.line s.stands s.counted s.lines_heard.answers (c.line.ensures ∙ h.kept) in
    record {
      conversed = subst (λ o. Ended (g.D.Desk.asking o) (g.D.Desk.ends o) (g.D.Desk.behind c.lines.desk) (g.T.Talk.told c.args.talk.now) c.args.ear.now.pending (g.T.Talk.told c.finish.new.talk) c.finish.result) same
          (input-over (g.D.Desk.asking (g.D.Desk.opening c.lines.desk)) (g.D.Desk.ends (g.D.Desk.opening c.lines.desk)) (g.D.Desk.behind c.lines.desk) (g.T.Talk.told c.args.talk.now) c.args.ear.now.pending _ _ _ c.lines.ear c.hear.new.self c.lines.number s c.in-Ok.end h c.finish.result c.in_default.not-LineFeed f);
      cause = subst (λ (n : ℕ). HasTalkCause n (g.T.Talk.faults c.finish.new.talk) c.finish.result) (c.in-Ok.ensures.calm ∙ c.lines.invariant.calm) c.finish.ensures.cause;
    }

pub hear-requires-in-lines-clause-one : goal.hear-requires-in-lines-clause-one
hear-requires-in-lines-clause-one g c = let h = c.in-Ok.ensures.heard in kept-one h.line c.line-in-lines.result.now (c.line-in-lines.ensures ∙ h.kept) h.one

pub hear-requires-in-lines-clause-begun : goal.hear-requires-in-lines-clause-begun
hear-requires-in-lines-clause-begun g c =
    let s = subst (λ o. SoFar (g.D.Desk.asking o) (g.D.Desk.ends o) (g.D.Desk.behind c.lines.desk) (g.T.Talk.told c.args.talk.now) c.args.ear.now.pending (g.T.Talk.told c.lines.talk) c.lines.ear.pending c.lines.number) (sym c.lines.invariant.same) c.lines.invariant.so_far in
    (s.lines, s.answers, s.stands, s.counted)

pub returns-in_default-hear : goal.returns-in_default-hear
returns-in_default-hear g c = record {
  conversed = memory-failed (g.D.Desk.asking (g.D.Desk.opening c.args.desk.now)) (g.D.Desk.ends (g.D.Desk.opening c.args.desk.now)) (g.D.Desk.behind c.lines.desk) (g.T.Talk.told c.args.talk.now) c.args.ear.now.pending _ _ c.lines.ear c.hear.new.self c.lines.number c.lines.invariant.so_far
      (subst (IsLineHeard (g.T.Talk.told c.lines.talk) (g.T.Talk.told c.hear.new.talk) c.lines.ear c.hear.new.self) c.in-LineFeed.is c.in-Ok.ensures.heard);
  cause = c.in-Ok.ensures.calm ∙ c.lines.invariant.calm;
}

pub returns-in-Err-say_whole : goal.returns-in-Err-say_whole
returns-in-Err-say_whole g c =
    let h = subst (IsLineHeard (g.T.Talk.told c.lines.talk) (g.T.Talk.told c.hear.new.talk) c.lines.ear c.hear.new.self) c.in-LineFeed.is c.in-Ok.ensures.heard in
    let same = c.lines.invariant.same in
    let s = subst (λ o. SoFar (g.D.Desk.asking o) (g.D.Desk.ends o) (g.D.Desk.behind c.lines.desk) (g.T.Talk.told c.args.talk.now) c.args.ear.now.pending (g.T.Talk.told c.lines.talk) c.lines.ear.pending c.lines.number) (sym same) c.lines.invariant.so_far in
    let a = c.in-Ok-hear.ensures.answered s.lines s.answers h.line s.stands s.counted (c.line-in-lines.ensures ∙ h.kept) in
    record {
      conversed = subst (λ o. Ended (g.D.Desk.asking o) (g.D.Desk.ends o) (g.D.Desk.behind c.lines.desk) (g.T.Talk.told c.args.talk.now) c.args.ear.now.pending (g.T.Talk.told c.say_whole.new.talk) (Err fault.Saying)) same
          (saying-failed (g.D.Desk.asking (g.D.Desk.opening c.lines.desk)) (g.D.Desk.ends (g.D.Desk.opening c.lines.desk)) (g.D.Desk.behind c.lines.desk) (g.T.Talk.told c.args.talk.now) c.args.ear.now.pending _ _ _ c.lines.ear c.hear.new.self c.lines.number s h a.0 c.hear-in-lines.new.out.items
          (subst (λ l. IsLineAnswered (g.D.Desk.asking (g.D.Desk.opening c.lines.desk)) s.lines s.answers h.line l c.hear-in-lines.new.out.items a.0) c.clear.ensures.items a.2)
          (subst (SaysFront (g.T.Talk.told c.hear.new.talk) (g.T.Talk.told c.say_whole.new.talk)) c.deref.ensures.value c.in-Err-say_whole.ensures.err));
      cause = subst (λ (n : ℕ). Rose n (g.T.Talk.faults c.say_whole.new.talk)) (c.in-Ok.ensures.calm ∙ c.lines.invariant.calm) c.in-Err-say_whole.ensures.cause;
    }

pub lines-preserved : goal.lines-preserved
lines-preserved g c =
    let h = subst (IsLineHeard (g.T.Talk.told c.lines.talk) (g.T.Talk.told c.hear.new.talk) c.lines.ear c.hear.new.self) c.in-LineFeed.is c.in-Ok.ensures.heard in
    let same = c.lines.invariant.same in
    let s = subst (λ o. SoFar (g.D.Desk.asking o) (g.D.Desk.ends o) (g.D.Desk.behind c.lines.desk) (g.T.Talk.told c.args.talk.now) c.args.ear.now.pending (g.T.Talk.told c.lines.talk) c.lines.ear.pending c.lines.number) (sym same) c.lines.invariant.so_far in
    let a = c.in-Ok-hear.ensures.answered s.lines s.answers h.line s.stands s.counted (c.line-in-lines.ensures ∙ h.kept) in
    record {
      same = c.hear-in-lines.ensures.same ∙ same;
      calm = c.in-Ok-say_whole.ensures.calm ∙ (c.in-Ok.ensures.calm ∙ c.lines.invariant.calm);
      so_far = subst (λ o. SoFar (g.D.Desk.asking o) (g.D.Desk.ends o) (g.D.Desk.behind c.hear-in-lines.new.self) (g.T.Talk.told c.args.talk.now) c.args.ear.now.pending (g.T.Talk.told c.say_whole.new.talk) c.hear.new.self.pending (c.lines.number + 1)) same
          (goes-on (g.D.Desk.asking (g.D.Desk.opening c.lines.desk)) (g.D.Desk.ends (g.D.Desk.opening c.lines.desk)) (g.D.Desk.behind c.lines.desk) (g.D.Desk.behind c.hear-in-lines.new.self) (g.T.Talk.told c.args.talk.now) c.args.ear.now.pending _ _ _ c.lines.ear c.hear.new.self c.lines.number s h a.0 c.hear-in-lines.new.out.items a.1
          (subst (λ l. IsLineAnswered (g.D.Desk.asking (g.D.Desk.opening c.lines.desk)) s.lines s.answers h.line l c.hear-in-lines.new.out.items a.0) c.clear.ensures.items a.2)
          (subst (Says (g.T.Talk.told c.hear.new.talk) (g.T.Talk.told c.say_whole.new.talk)) c.deref.ensures.value c.in-Ok-say_whole.ensures.ok));
    }

pub returns : goal.returns
returns g c =
    let same = c.lines.invariant.same in
    let s = subst (λ o. SoFar (g.D.Desk.asking o) (g.D.Desk.ends o) (g.D.Desk.behind c.lines.desk) (g.T.Talk.told c.args.talk.now) c.args.ear.now.pending (g.T.Talk.told c.lines.talk) c.lines.ear.pending c.lines.number) (sym same) c.lines.invariant.so_far in
    let f = c.finish-2.ensures.finished s.lines s.answers [] s.stands (omega (arith, s.counted, c.lines-test.false, c.lines.auto.number)) s.lines_heard.answers refl in
    record {
      conversed = subst (λ o. Ended (g.D.Desk.asking o) (g.D.Desk.ends o) (g.D.Desk.behind c.lines.desk) (g.T.Talk.told c.args.talk.now) c.args.ear.now.pending (g.T.Talk.told c.finish-2.new.talk) c.finish-2.result) same
          (count-over (g.D.Desk.asking (g.D.Desk.opening c.lines.desk)) (g.D.Desk.ends (g.D.Desk.opening c.lines.desk)) (g.D.Desk.behind c.lines.desk) (g.T.Talk.told c.args.talk.now) c.args.ear.now.pending _ _ c.lines.ear.pending c.lines.number s c.finish-2.result c.lines-test.false f);
      cause = subst (λ (n : ℕ). HasTalkCause n (g.T.Talk.faults c.finish-2.new.talk) c.finish-2.result) c.lines.invariant.calm c.finish-2.ensures.cause;
    }

pub finish-requires-2-clause-begun : goal.finish-requires-2-clause-begun
finish-requires-2-clause-begun g c κs within =
    let s = subst (λ o. SoFar (g.D.Desk.asking o) (g.D.Desk.ends o) (g.D.Desk.behind c.lines.desk) (g.T.Talk.told c.args.talk.now) c.args.ear.now.pending (g.T.Talk.told c.lines.talk) c.lines.ear.pending c.lines.number) (sym c.lines.invariant.same) c.lines.invariant.so_far in
    (s.lines, s.answers, s.stands, omega (arith, s.counted, c.lines-test.false, c.lines.auto.number))

pub finish-requires-2-clause-kept : goal.finish-requires-2-clause-kept
finish-requires-2-clause-kept g c κs within = ([], refl)
