use Rattle.input_answers.proofs.BodyListings.{HasBodyListing}
use Rattle.input_answers.proofs.operation_list.operations_of_body.Given as goal

abbrev pub invariant-loop-i : goal.invariant-loop-i
invariant-loop-i l = HasBodyListing l.plan.chosen.profile l.body.head.declared l.body.lines l.body.head.lines l.i l.listing
