use Rattle.std.proofs.Common.{◌≡◌, length, false, refl, rules, sym, subst, ◌∙◌, arith}
use Rattle.knit_base.specs.Lines.{lines_of}
use Rattle.knitout_reader.specs.Head.{IsHeadFault}
use Rattle.pass_grouping.specs.declared.tally.Tally.{Tally}
use Rattle.pass_grouping.specs.Tallies.{HasTallied}
use Rattle.file_run.specs.Runs.{IsRun}
use Rattle.input_answers.specs.Due.{BodyFits, IsSizeRefusal}
use Rattle.input_answers.proofs.BodyRuns.{body_len, head_len-le}
use Rattle.input_answers.proofs.FileDues.{all-counted, input-few, made-headed}
use Rattle.input_answers.proofs.MadeDues.{made-large, made-summary}
use Rattle.input_answers.proofs.made.made_of_reader.Goals as goal

pub finish-requires-clause-few : goal.finish-requires-clause-few
finish-requires-clause-few c = input-few c.requires.taken.input c.args.reader.lines c.requires.taken.small c.requires.taken.taken.counted

pub unreachable-requires : goal.unreachable-requires
unreachable-requires c =
    let named = made-headed c.requires.made.2 c.requires.made.3 c.in-Err.field-0
    (subst (λ ls. IsHeadFault ls c.in-Err.field-0) c.requires.made.4 (c.in-Err.ensures.fault c.requires.made.0 (lines_of c.requires.made.1) c.requires.made.5).refused) in
    search rules

pub overflow_sub-body : goal.overflow_sub-body
overflow_sub-body c =
    let read = c.in-Ok.ensures.file c.requires.taken.start (lines_of c.requires.taken.input) c.requires.taken.taken in
    omega (arith, head_len-le (lines_of c.requires.taken.input), read.head_is.len, read.counted)

pub returns-in-Some : goal.returns-in-Some
returns-in-Some c = λ begun input rows start are begins taken.
    let read = c.in-Ok.ensures.file begun (lines_of input) taken in
    made-large c.args.plan.now.chosen rows start c.in_ok-ending.ending.text.items c.in_ok-ending.ending.status (lines_of input) c.in-Some.refusal are
    (subst (λ n. IsSizeRefusal c.args.plan.now.chosen.block n c.in-Some.refusal) (body_len (lines_of input) _ _ read.counted read.head_is.len) c.in-Some.ensures) c.in_ok-ending.ensures

pub finish-requires-2 : goal.finish-requires-2
finish-requires-2 c =
    let read = c.in-Ok.ensures.file c.requires.taken.start (lines_of c.requires.taken.input) c.requires.taken.taken in
    (c.requires.taken.start.work, c.in-Ok.file.head, lines_of c.requires.taken.input, read.taken)

pub returns : goal.returns
returns c = λ begun input rows start are begins taken.
    let chosen = c.args.plan.now.chosen in
    let head = c.in-Ok.file.head in
    let read = c.in-Ok.ensures.file begun (lines_of input) taken in
    let ran : IsRun Tally HasTallied false chosen.profile head.declared (lines_of input) c.in_ok-run.run' =
    subst (λ b. IsRun Tally HasTallied b chosen.profile head.declared (lines_of input) c.in_ok-run.run') begins.way
    (subst (λ p. IsRun Tally HasTallied begun.work.with_loops p head.declared (lines_of input) c.in_ok-run.run') begins.profile
    (c.in_ok-run.ensures begun.work head (lines_of input) read.head_is read.taken)) in
    made-summary chosen rows start c.in_ok-ending-2.ending.text.items c.in_ok-ending-2.ending.status (lines_of input) head are read.head_is
    (subst (BodyFits chosen.block) (body_len (lines_of input) _ _ read.counted read.head_is.len) c.in_default.ensures) (
      c.in_ok-ending-2.ensures.report head.declared (lines_of input) ran.judgement.made read.counted (body_len (lines_of input) _ _ read.counted read.head_is.len) ran.judgement.judged
          (all-counted chosen.profile head.declared (lines_of input) c.in_ok-run.run'.taker c.counts-counts.result ran.taken c.counts-counts.ensures),
      c.in_ok-ending-2.ensures.status,
    )
