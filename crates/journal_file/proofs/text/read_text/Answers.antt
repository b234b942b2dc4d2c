use Rattle.std.proofs.Common.{arith, ◌≡◌, ◌∙◌, ◌+◌, ◌-◌, suc, ap, sym, subst, length, length-append, append_assoc, ◌++◌, ◌∷◌, []}
use Rattle.journal_file.specs.Reading.{FormHasRead, IsFormStop}
use Rattle.journal_file.specs.Texts.{TextLinesForm}
use Rattle.journal_file.proofs.Readings.{read-more, stop-here, text_has_none}
use Rattle.journal_file.proofs.text.read_text.Goals as goal

pub push-requires-clause-one : goal.push-requires-clause-one
push-requires-clause-one c = text_has_none _ _ _ c.in-Some.ensures.text

pub push-requires-clause-few : goal.push-requires-clause-few
push-requires-clause-few c = omega (arith, c.requires.few, c.loop-i-test.true, c.loop-i.invariant.1.2, ap length c.loop-i.invariant.1.1, length-append c.args.texts.now c.loop-i.invariant.1.0)

pub returns-in-None-clause-fault : goal.returns-in-None-clause-fault
returns-in-None-clause-fault c =
    let many : c.loop-i.i + suc (c.args.many - c.loop-i.i - 1) ≡ c.args.many = omega (arith, c.loop-i-test.true) in
    subst (λ n. IsFormStop (TextLinesForm n) c.args.start.rest.now c.args.start.taken (c.loop-i.at.taken + 1)) many
    (stop-here c.loop-i.i (c.args.many - c.loop-i.i - 1) c.args.start.rest.now c.args.start.taken c.loop-i.invariant.1.0 c.loop-i.at.rest.now c.loop-i.at.taken c.loop-i.invariant.1.3 c.in-None.ensures.text)

pub loop-i-preserved : goal.loop-i-preserved
loop-i-preserved c =
    let so_far = c.loop-i.invariant.1 in (
      c.in-Some.ensures.size,
      (
        so_far.0 ++ c.in-Some.text.now ∷ [],
        c.in_ok-push-in-Some.ensures.ok ∙ ap (λ t. t ++ c.in-Some.text.now ∷ []) so_far.1 ∙ append_assoc c.args.texts.now so_far.0 (c.in-Some.text.now ∷ []),
        omega (arith, so_far.2, length-append so_far.0 (c.in-Some.text.now ∷ [])),
        subst (λ n. FormHasRead (TextLinesForm (c.loop-i.i + 1)) c.args.start.rest.now c.args.start.taken (so_far.0 ++ c.in-Some.text.now ∷ []) c.in-Some.next.rest.now n) (sym c.in-Some.ensures.count)
            (read-more c.loop-i.i c.args.start.rest.now c.args.start.taken so_far.0 c.loop-i.at.rest.now c.loop-i.at.taken c.in-Some.text.now c.in-Some.next.rest.now so_far.3 c.in-Some.ensures.text),
      ),
    )

pub returns-clause-len : goal.returns-clause-len
returns-clause-len c = omega (arith, c.loop-i.invariant.1.2, ap length c.loop-i.invariant.1.1, length-append c.args.texts.now c.loop-i.invariant.1.0)
