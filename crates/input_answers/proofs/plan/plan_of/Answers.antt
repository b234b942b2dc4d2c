use Rattle.input_answers.specs.Asked.{out_of_bounds}
use Rattle.input_answers.proofs.plan.plan_of.Goals as goal

pub returns-in-Err-clause-usage : goal.returns-in-Err-clause-usage
returns-in-Err-clause-usage c = λ usage. out_of_bounds c.in-Ok.request c.in-Err.field-0.which c.in-Ok.ensures.ok c.in-Err.ensures.refuses
