use Rattle.script_reader.proofs.Listeners.{adds_counted}
use Rattle.script_reader.proofs.listener.counts.count_order.Goals as goal

pub returns-in-Ask : goal.returns-in-Ask
returns-in-Ask c = λ all counts session below.
    adds_counted all c.args.order.now c.in-Ask.session c.in-Ask.step c.adds_in_step.result session _ c.in-Ask.is c.adds_in_step.ensures (c.add.ensures all counts session below)
