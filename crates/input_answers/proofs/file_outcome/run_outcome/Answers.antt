use Rattle.std.proofs.Common.{◌≡◌, length, refl, sym, subst, ◌∙◌, arith}
use Rattle.knit_base.specs.Lines.{lines_of}
use Rattle.file_run.specs.Runs.{IsRun}
use Rattle.input_answers.specs.Due.{BodyFits}
use Rattle.input_answers.proofs.BodyRuns.{body_len, head_len-le}
use Rattle.input_answers.proofs.Dues.{due-bad_head, due-too_large}
use Rattle.input_answers.proofs.FileDues.{input-few}
use Rattle.input_answers.proofs.file_outcome.run_outcome.Goals as goal

pub finish-requires-clause-few : goal.finish-requires-clause-few
finish-requires-clause-few g c = input-few c.requires.input c.args.reader.lines c.requires.small c.requires.taken.counted

pub returns-in-Err : goal.returns-in-Err
returns-in-Err g c = λ loops start input begins taken command checks.
    let bad = c.in-Err.ensures.fault start (lines_of input) taken in
    due-bad_head command c.args.plan.now.chosen input c.in_ok-ending-in-Err.ending.text.items c.in_ok-ending-in-Err.ending.status (lines_of input) c.in-Err.fault c.in_ok-refusal-in-Err.refusal refl
    bad.good bad.refused c.in_ok-refusal-in-Err.ensures c.in_ok-ending-in-Err.ensures

pub overflow_sub-file : goal.overflow_sub-file
overflow_sub-file g c =
    let read = c.in-Ok.ensures.file c.requires.start (lines_of c.requires.input) c.requires.taken in
    omega (arith, head_len-le (lines_of c.requires.input), read.head_is.len, read.counted)

pub returns-in-Some : goal.returns-in-Some
returns-in-Some g c = λ loops start input begins taken command checks.
    let read = c.in-Ok.ensures.file start (lines_of input) taken in
    due-too_large command c.args.plan.now.chosen input c.in_ok-ending.ending.text.items c.in_ok-ending.ending.status (lines_of input) c.in-Ok.file.head _ c.in-Some.refusal checks refl read.good
    read.head_is (body_len (lines_of input) _ _ read.counted read.head_is.len) c.in-Some.ensures c.in_ok-ending.ensures

pub finish-requires-2 : goal.finish-requires-2
finish-requires-2 g c =
    let read = c.in-Ok.ensures.file c.requires.start (lines_of c.requires.input) c.requires.taken in
    (c.requires.start.work, c.in-Ok.file.head, lines_of c.requires.input, read.taken)

pub returns : goal.returns
returns g c = λ loops start input begins taken.
    let read = c.in-Ok.ensures.file start (lines_of input) taken in
    record {
      headed = record { good = read.good; head_is = read.head_is };
      fits = subst (BodyFits c.args.plan.now.chosen.block) (body_len (lines_of input) _ _ read.counted read.head_is.len) c.in_default.ensures;
      counted = read.counted;
      ran =
          subst (λ b. IsRun _ g.T.Taker.has b c.args.plan.now.chosen.profile c.in-Ok.file.head.declared (lines_of input) c.in_ok-run.run') begins.way
          (subst (λ p. IsRun _ g.T.Taker.has start.work.with_loops p c.in-Ok.file.head.declared (lines_of input) c.in_ok-run.run') begins.profile
          (c.in_ok-run.ensures start.work c.in-Ok.file.head (lines_of input) read.head_is read.taken));
    }
