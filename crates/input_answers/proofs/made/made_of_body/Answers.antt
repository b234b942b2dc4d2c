use Rattle.input_answers.specs.ListingRun.{AreCountedIn}
use Rattle.input_answers.proofs.made.made_of_body.Goals as goal

pub returns-clause-report : goal.returns-clause-report
returns-clause-report g c =
    let counted : AreCountedIn c.args.plan.now.chosen.profile c.args.body.now.head.declared c.args.body.now.lines
    (record { passes = c.len.result; operations = c.len-2.result; windows = c.len-3.result }) =
    record {
      ops = c.in_ok-ops.ops;
      listed = c.in_ok-ops.ensures;
      counted = record {
        starts = c.in_ok-grouping.grouping.starts;
        windows = c.in_ok-grouping.grouping.windows;
        fewest = c.in_ok-grouping.ensures.fewest;
        certificate = c.in_ok-grouping.ensures.certificate;
        between = c.in_ok-grouping.ensures.between;
        passes_counted = c.len.ensures;
        operations_counted = c.len-2.ensures;
        windows_counted = c.len-3.ensures;
      };
    } in
    c.in_ok-ending.ensures.report c.args.body.now.head.declared c.args.body.now.lines c.in_ok-judgement.ensures.made c.len-count.ensures.len c.len-4.ensures c.in_ok-judgement.ensures.judged counted
