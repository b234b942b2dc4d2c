use Rattle.script_reader.proofs.listener.counts.count.Goals as goal

pub returns-in-Some : goal.returns-in-Some
returns-in-Some c = λ all counts session below. rw c.in-Some.is (c.count_order.ensures all counts session below)
