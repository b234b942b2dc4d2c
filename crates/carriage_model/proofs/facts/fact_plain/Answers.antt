use Rattle.std.proofs.Common.{◌≡◌, length, None, ◌∙◌, sym, ap, subst, List, Option, is_some, true}
use Rattle.std.proofs.lemmas.Result.{IfOk-weaker}
use Rattle.knit_base.specs.declared.instr.Read.{Read}
use Rattle.carriage_model.specs.declared.verdict.LoopFact.{LoopFact}
use Rattle.carriage_model.specs.State.{empty_state}
use Rattle.carriage_model.specs.Rules.{broken}
use Rattle.carriage_model.specs.Loops.{loops_made, fact_of}
use Rattle.carriage_model.proofs.DeclaredCarriers.{found-declared}
use Rattle.carriage_model.proofs.LawfulLines.{line_has-needles, line_has-places, line_has-room, lawful-item, none_from_test}
use Rattle.carriage_model.proofs.LoopOfLine.{Seeks, seeks-start, seeks-next, seeks-here, seeks-stop, seeks-end}
use Rattle.carriage_model.proofs.facts.fact_plain.Goals as goal

pub loop-i-init : goal.loop-i-init
loop-i-init c = seeks-start _ _ _ _ _ c.in_ok-machine.ensures.empty c.in_ok-machine.ensures.needles

pub broken-requires-clause-needles : goal.broken-requires-clause-needles
broken-requires-clause-needles c =
    let here : Seeks c.args.profile.now c.as_slice-read-items.result.now c.args.first c.loop-i.i c.loop-i.machine c.args.line = c.loop-i.invariant in
    line_has-needles c.args.profile.now (length c.args.declared.now) _ _ here.needles
    (lawful-item _ _ _ _ _ c.read-item.result c.as_slice-read-items.ensures.items c.requires.lawful c.loop-i-test.true c.read-item.is)

pub broken-requires-clause-floats : goal.broken-requires-clause-floats
broken-requires-clause-floats c =
    let here : Seeks c.args.profile.now c.as_slice-read-items.result.now c.args.first c.loop-i.i c.loop-i.machine c.args.line = c.loop-i.invariant in
    here.needles.floats

pub broken-requires-clause-places : goal.broken-requires-clause-places
broken-requires-clause-places c =
    line_has-places c.args.profile.now (length c.args.declared.now) _
    (lawful-item _ _ _ _ _ c.read-item.result c.as_slice-read-items.ensures.items c.requires.lawful c.loop-i-test.true c.read-item.is)

pub returns-then-is_some : goal.returns-then-is_some
returns-then-is_some c =
    let here : Seeks c.args.profile.now c.as_slice-read-items.result.now c.args.first c.loop-i.i c.loop-i.machine c.args.line = c.loop-i.invariant in
    let broke : is_some (broken c.args.profile.now c.read-item.result here.state) ≡ true =
    sym (ap is_some (c.broken.ensures here.state here.represented)) ∙ sym c.is_some.ensures ∙ c.if-is_some.true in
    record {
      fact = subst (λ (reads : List Read). None ≡ fact_of c.args.line (loops_made c.args.profile.now empty_state c.args.first reads)) c.as_slice-read-items.ensures.items
          (sym (seeks-stop _ _ _ _ c.read-item.result _ _ c.loop-i-test.true c.read-item.is here broke));
      carriers = tt;
    }

pub fact_made-requires : goal.fact_made-requires
fact_made-requires c =
    let here : Seeks c.args.profile.now c.as_slice-read-items.result.now c.args.first c.loop-i.i c.loop-i.machine c.args.line = c.loop-i.invariant in
    line_has-needles c.args.profile.now (length c.args.declared.now) _ _ here.needles
    (lawful-item _ _ _ _ _ c.read-item.result c.as_slice-read-items.ensures.items c.requires.lawful c.loop-i-test.true c.read-item.is)

pub returns-then-at-line : goal.returns-then-at-line
returns-then-at-line c =
    let here : Seeks c.args.profile.now c.as_slice-read-items.result.now c.args.first c.loop-i.i c.loop-i.machine c.args.line = c.loop-i.invariant in
    let sound : broken c.args.profile.now c.read-item.result here.state ≡ None =
    sym (c.broken.ensures here.state here.represented) ∙ none_from_test _ (sym c.is_some.ensures ∙ c.if-is_some.false) in
    let is : (fact : Option LoopFact) → _ → fact ≡ fact_of c.args.line (loops_made c.args.profile.now empty_state c.args.first c.args.reads.now) =
    λ fact made. subst (λ (reads : List Read). fact ≡ fact_of c.args.line (loops_made c.args.profile.now empty_state c.args.first reads)) c.as_slice-read-items.ensures.items
    (seeks-here _ _ _ _ c.read-item.result _ _ fact c.loop-i-test.true c.read-item.is c.if-at-line.true here sound (made here.state here.represented)) in
    record {
      fact = IfOk-weaker c.fact_made.result _ _ is c.fact_made.ensures;
      carriers = IfOk-weaker c.fact_made.result _ _
          (λ (fact : Option LoopFact) made. found-declared c.args.profile.now (length c.args.declared.now) c.args.first c.args.line _ fact c.requires.lawful (is fact made)) c.fact_made.ensures;
    }

pub step-requires-clause-needles : goal.step-requires-clause-needles
step-requires-clause-needles c =
    let here : Seeks c.args.profile.now c.as_slice-read-items.result.now c.args.first c.loop-i.i c.loop-i.machine c.args.line = c.loop-i.invariant in
    line_has-needles c.args.profile.now (length c.args.declared.now) _ _ here.needles
    (lawful-item _ _ _ _ _ c.read-item.result c.as_slice-read-items.ensures.items c.requires.lawful c.loop-i-test.true c.read-item.is)

pub step-requires-clause-room : goal.step-requires-clause-room
step-requires-clause-room c =
    let here : Seeks c.args.profile.now c.as_slice-read-items.result.now c.args.first c.loop-i.i c.loop-i.machine c.args.line = c.loop-i.invariant in
    line_has-room c.args.profile.now (length c.args.declared.now) _ _ here.state c.requires.profile
    (lawful-item _ _ _ _ _ c.read-item.result c.as_slice-read-items.ensures.items c.requires.lawful c.loop-i-test.true c.read-item.is)
    here.represented (sym (c.broken.ensures here.state here.represented) ∙ none_from_test _ (sym c.is_some.ensures ∙ c.if-is_some.false))

pub loop-i-preserved : goal.loop-i-preserved
loop-i-preserved c =
    let here : Seeks c.args.profile.now c.as_slice-read-items.result.now c.args.first c.loop-i.i c.loop-i.machine c.args.line = c.loop-i.invariant in
    seeks-next _ _ _ _ c.read-item.result _ _ _ c.loop-i-test.true c.read-item.is c.if-at-line.false here
    (sym (c.broken.ensures here.state here.represented) ∙ none_from_test _ (sym c.is_some.ensures ∙ c.if-is_some.false))
    (c.in_ok-step.ensures.ok c.args.profile.now here.state here.needles.floats here.represented) c.in_ok-step.ensures.kept

pub returns : goal.returns
returns c =
    let here : Seeks c.args.profile.now c.as_slice-read-items.result.now c.args.first c.loop-i.i c.loop-i.machine c.args.line = c.loop-i.invariant in
    record {
      fact = subst (λ (reads : List Read). None ≡ fact_of c.args.line (loops_made c.args.profile.now empty_state c.args.first reads)) c.as_slice-read-items.ensures.items
          (sym (seeks-end _ _ _ _ _ _ c.loop-i-test.false here));
      carriers = tt;
    }
