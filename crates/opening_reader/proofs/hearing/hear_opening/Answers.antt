use Rattle.std.proofs.Common.{◌∙◌, map, refl, subst}
use Rattle.knit_base.specs.Lines.{without_return}
use Rattle.knit_ports.specs.Ears.{IsLineHeard}
use Rattle.opening_reader.proofs.HeardSoFar.{calm-stopped, calm-told, ended_by_failure, few-told, goes-on, input-over, never-over, ended_by_whole_opening, short-told, nothing_heard_so_far, ended_by_refused_line, texts-told}
use Rattle.opening_reader.proofs.ReadLines.{kept-one}
use Rattle.opening_reader.proofs.TakenLines.{few-of, front-of, has-room, whole-of}
use Rattle.opening_reader.proofs.hearing.hear_opening.Goals as goal

pub hearing-init : goal.hearing-init
hearing-init g c = record { calm = refl; so_far = nothing_heard_so_far (g.T.Talk.told c.args.talk.now) _ _ _ c.requires.fresh c.new-text.ensures refl refl refl }

pub returns-in-Err-clause-heard : goal.returns-in-Err-clause-heard
returns-in-Err-clause-heard g c =
    ended_by_failure (g.T.Talk.told c.args.talk.now) (g.T.Talk.told c.hearing.talk) (g.T.Talk.told c.hear.new.talk) c.hearing.ear c.hear.new.self c.hearing.text c.hearing.front c.hearing.i c.hearing.invariant.so_far c.in-Err.ensures.front

pub finish-requires : goal.finish-requires
finish-requires g c =
    let h = c.in-Ok.ensures.heard in
    let s = c.hearing.invariant.so_far in
    record {
      one = kept-one h.line c.line.result.now (c.line.ensures ∙ h.kept) h.one;
      room = has-room c.hearing.front (map without_return s.came) c.hearing.text s.holds;
      wanted = s.wanted;
    }

pub returns-in_default : goal.returns-in_default
returns-in_default g c =
    let h = c.in-Ok.ensures.heard in
    let s = c.hearing.invariant.so_far in
    let f = c.finish.ensures (map without_return s.came) h.line s.holds (c.line.ensures ∙ h.kept) in
    record {
      heard = input-over (g.T.Talk.told c.args.talk.now) (g.T.Talk.told c.hearing.talk) (g.T.Talk.told c.hear.new.talk) c.hearing.ear c.hear.new.self c.hearing.text c.hearing.front c.hearing.i s c.in-Ok.end h c.finish.result
          c.in_default.not-LineFeed f;
      texts = texts-told c.finish.result (map without_return s.came) h.line f;
      short = short-told c.finish.result (map without_return s.came) h.line f;
      few = few-told c.finish.result (map without_return s.came) h.line f;
      cause = calm-told _ _ c.finish.result (map without_return s.came) h.line f (c.in-Ok.ensures.calm ∙ c.hearing.invariant.calm);
    }

pub take-requires-clause-one : goal.take-requires-clause-one
take-requires-clause-one g c = let h = c.in-Ok.ensures.heard in kept-one h.line c.line-in-hearing.result.now (c.line-in-hearing.ensures ∙ h.kept) h.one

pub take-requires-clause-room : goal.take-requires-clause-room
take-requires-clause-room g c = let s = c.hearing.invariant.so_far in has-room c.hearing.front (map without_return s.came) c.hearing.text s.holds

pub returns-in-Err-take-clause-heard : goal.returns-in-Err-take-clause-heard
returns-in-Err-take-clause-heard g c =
    let h = subst (IsLineHeard (g.T.Talk.told c.hearing.talk) (g.T.Talk.told c.hear.new.talk) c.hearing.ear c.hear.new.self) c.in-LineFeed.is c.in-Ok.ensures.heard in
    let s = c.hearing.invariant.so_far in
    ended_by_refused_line (g.T.Talk.told c.args.talk.now) (g.T.Talk.told c.hearing.talk) (g.T.Talk.told c.hear.new.talk) c.hearing.ear c.hear.new.self c.hearing.text c.hearing.front c.hearing.i s h c.in-Err-take.fault
    (c.in-Err-take.ensures (map without_return s.came) h.line s.holds (c.line-in-hearing.ensures ∙ h.kept))

pub returns-in-Err-take-clause-cause : goal.returns-in-Err-take-clause-cause
returns-in-Err-take-clause-cause g c =
    let h = c.in-Ok.ensures.heard in
    let s = c.hearing.invariant.so_far in
    calm-stopped _ _ c.in-Err-take.fault (map without_return s.came) (without_return h.line) (c.in-Err-take.ensures (map without_return s.came) h.line s.holds (c.line-in-hearing.ensures ∙ h.kept))
    (c.in-Ok.ensures.calm ∙ c.hearing.invariant.calm)

pub returns-in-Some-clause-heard : goal.returns-in-Some-clause-heard
returns-in-Some-clause-heard g c =
    let h = subst (IsLineHeard (g.T.Talk.told c.hearing.talk) (g.T.Talk.told c.hear.new.talk) c.hearing.ear c.hear.new.self) c.in-LineFeed.is c.in-Ok.ensures.heard in
    let s = c.hearing.invariant.so_far in
    let held = c.in-Ok-take.ensures (map without_return s.came) h.line s.holds (c.line-in-hearing.ensures ∙ h.kept) in
    ended_by_whole_opening (g.T.Talk.told c.args.talk.now) (g.T.Talk.told c.hearing.talk) (g.T.Talk.told c.hear.new.talk) c.hearing.ear c.hear.new.self c.hearing.text c.hearing.front c.hearing.i s h _
    (whole-of c.in-Ok-take.front (map without_return s.came) (without_return h.line) c.take.new.text c.in-Some.kind _ held c.in-Some.ensures
    (front-of c.hearing.front (map without_return s.came) c.hearing.text s.holds s.wanted).unfinished refl refl refl)

pub returns-in-Some-clause-short : goal.returns-in-Some-clause-short
returns-in-Some-clause-short g c =
    let h = c.in-Ok.ensures.heard in
    let s = c.hearing.invariant.so_far in (c.in-Ok-take.ensures (map without_return s.came) h.line s.holds (c.line-in-hearing.ensures ∙ h.kept)).short

pub returns-in-Some-clause-few : goal.returns-in-Some-clause-few
returns-in-Some-clause-few g c =
    let h = c.in-Ok.ensures.heard in
    let s = c.hearing.invariant.so_far in few-of c.in-Ok-take.front _ c.take.new.text (c.in-Ok-take.ensures (map without_return s.came) h.line s.holds (c.line-in-hearing.ensures ∙ h.kept))

pub hearing-preserved : goal.hearing-preserved
hearing-preserved g c =
    let h = subst (IsLineHeard (g.T.Talk.told c.hearing.talk) (g.T.Talk.told c.hear.new.talk) c.hearing.ear c.hear.new.self) c.in-LineFeed.is c.in-Ok.ensures.heard in
    let s = c.hearing.invariant.so_far in
    record {
      calm = c.in-Ok.ensures.calm ∙ c.hearing.invariant.calm;
      so_far = goes-on (g.T.Talk.told c.args.talk.now) (g.T.Talk.told c.hearing.talk) (g.T.Talk.told c.hear.new.talk) c.hearing.ear c.hear.new.self c.hearing.text c.hearing.front c.hearing.i s h c.in-Ok-take.front c.take.new.text
          (c.in-Ok-take.ensures (map without_return s.came) h.line s.holds (c.line-in-hearing.ensures ∙ h.kept)) c.in_default-whole_kind.ensures;
    }

pub unreachable-requires : goal.unreachable-requires
unreachable-requires g c = never-over _ _ _ _ _ _ c.hearing.invariant.so_far c.hearing-test.false
