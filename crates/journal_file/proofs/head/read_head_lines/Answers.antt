use Rattle.std.proofs.Common.{arith, rules, ◌≡◌, ◌≤◌, ◌+◌, ◌++◌, ◌∷◌, [], ℕ, List, ap, sym, subst, length, length-append}
use Rattle.journal_file.specs.HeadForms.{AreHeadLines, IsHeadLine, head_form, no_line_yet, head_with_line}
use Rattle.journal_file.specs.Grammars.{Chain}
use Rattle.journal_file.specs.Reading.{FormHasRead, IsFault, IsFirstLineTaken, NoneTaken, byte_limit}
use Rattle.journal_file.specs.declared.head.HeadSoFar.{HeadSoFar}
use Rattle.journal_file.proofs.HeadReadings.{IsSoFar, line_more, line_stops_head, so_far_more, taken_has_none}
use Rattle.journal_file.proofs.head.read_head_lines.Goals as goal

pub push-requires-clause-one : goal.push-requires-clause-one
push-requires-clause-one c =
    let took : IsFirstLineTaken (IsHeadLine c.loop-i.so_far) c.loop-i.at.rest.now c.in-Some.text.now c.in-Some.next.rest.now = search rules in
    taken_has_none c.loop-i.so_far c.loop-i.at.rest.now c.in-Some.text.now c.in-Some.next.rest.now took

pub returns-in-None-clause-fault : goal.returns-in-None-clause-fault
returns-in-None-clause-fault c =
    let v = c.loop-i.invariant in
    let none : NoneTaken (IsHeadLine c.loop-i.so_far) c.loop-i.at.rest.now = search rules in
    subst (IsFault (AreHeadLines c.args.many) c.args.start.rest.now c.args.start.taken) (sym c.bad.ensures)
    (line_stops_head c.args.many c.loop-i.i c.args.start.rest.now c.args.start.taken c.loop-i.head c.loop-i.at.rest.now c.loop-i.at.taken c.loop-i.so_far c.loop-i-test.true c.requires.some v.2 v.3 none)

pub loop-i-preserved : goal.loop-i-preserved
loop-i-preserved c =
    let v = c.loop-i.invariant in
    let took : IsFirstLineTaken (IsHeadLine c.loop-i.so_far) c.loop-i.at.rest.now c.in-Some.text.now c.in-Some.next.rest.now = search rules in
    let count : c.in-Some.next.taken ≡ c.loop-i.at.taken + 1 = search rules in
    let size : c.in-Some.next.taken + length c.in-Some.next.rest.now ≤ byte_limit = search rules in
    let pushed : c.push.new.self ≡ c.loop-i.head ++ c.in-Some.text.now ∷ [] = search rules in (
      size,
      omega (arith, v.1, ap length pushed, length-append c.loop-i.head (c.in-Some.text.now ∷ [])),
      subst (λ (z : List (List ℕ) × HeadSoFar). IsSoFar c.args.many (c.loop-i.i + 1) z.0 z.1) (λ k. (sym pushed k, sym c.with-so_far.ensures k))
          (so_far_more c.args.many c.loop-i.i c.loop-i.head c.loop-i.so_far c.in-Some.text.now v.2),
      subst (λ (z : List (List ℕ) × ℕ). FormHasRead (Chain head_form head_with_line (c.loop-i.i + 1) (no_line_yet c.args.many)) c.args.start.rest.now c.args.start.taken z.0 c.in-Some.next.rest.now z.1) (λ k. (sym pushed k, sym count k))
          (line_more c.args.many c.loop-i.i c.args.start.rest.now c.args.start.taken c.loop-i.head c.loop-i.at.rest.now c.loop-i.at.taken c.loop-i.so_far c.in-Some.text.now c.in-Some.next.rest.now v.2 v.3 took),
    )
