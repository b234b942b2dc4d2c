use Rattle.std.proofs.Common.{◌<◌, length, Some, ap, sym, ◌∙◌, [], arith}
use Rattle.std.proofs.lemmas.Option.{slice_get-get_or}
use Rattle.input_answers.proofs.BodyRuns.{head_len-le}
use Rattle.input_answers.proofs.BodyListings.{body_listing-all, body_listing-more}
use Rattle.input_answers.proofs.operation_list.operations_of_body.Goals as goal

pub overflow_add-head : goal.overflow_add-head
overflow_add-head c = omega (arith, head_len-le c.args.body.now.lines, c.args.body.now.headed.len, c.len-count.ensures.len, c.len-count.ensures.few)

pub loop-i-preserved : goal.loop-i-preserved
loop-i-preserved c =
    let within : c.loop-i.i < length c.args.body.now.lines = omega (arith, c.loop-i-test.true, c.len-count.ensures.len) in
    body_listing-more c.args.plan.now.chosen.profile c.args.body.now.head.declared c.args.body.now.lines c.args.body.now.head.lines c.loop-i.i c.loop-i.listing
    c.list_line.new.listing c.nth_line-line.result.now c.loop-i.invariant within
    (slice_get-get_or c.args.body.now.lines c.loop-i.i [] within ∙ ap Some (sym c.nth_line-line.ensures.text)) c.in_ok-list_line.ensures

pub returns : goal.returns
returns c =
    body_listing-all c.args.plan.now.chosen.profile c.args.body.now.lines c.args.body.now.head c.loop-i.i c.loop-i.listing c.finish.result c.args.body.now.headed
    (omega (arith, c.loop-i-test.false, c.len-count.ensures.len)) c.loop-i.invariant c.finish.ensures
