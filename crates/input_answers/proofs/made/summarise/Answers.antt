use Rattle.std.proofs.Common.{◌≡◌, ◌∙◌, ap, arith, length}
use Rattle.verdict_report.specs.MadeText.{made_text}
use Rattle.file_run.specs.Bodies.{body_of}
use Rattle.input_answers.specs.Due.{blocks_of}
use Rattle.input_answers.proofs.BlockCounts.{blocks-ceil}
use Rattle.input_answers.proofs.made.summarise.Goals as goal

pub returns-clause-report : goal.returns-clause-report
returns-clause-report c names lines loops count behind judged counted =
    let blocks : c.div_ceil-blocks.result ≡ blocks_of c.args.plan.now.chosen.block (length (body_of lines)) =
    c.div_ceil-blocks.ensures ∙ blocks-ceil c.args.plan.now.chosen.block c.args.behind (omega (arith, c.args.plan.now.lawful.block.some)) ∙ ap (blocks_of c.args.plan.now.chosen.block) behind in
    record {
      verdict_given = c.args.verdict.now;
      loops = loops;
      judged = judged;
      operations = counted.ops;
      listed = counted.listed;
      starts = counted.counted.starts;
      windows = counted.counted.windows;
      grouped = record { fewest = counted.counted.fewest; certificate = counted.counted.certificate; between = counted.counted.between };
      reported = c.in_ok-text.ensures
          ∙ (λ i. made_text (count i) (blocks i) c.args.verdict.now (counted.counted.passes_counted i) (counted.counted.operations_counted i) (counted.counted.windows_counted i));
    }
