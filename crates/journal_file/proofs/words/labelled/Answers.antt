use Rattle.journal_file.proofs.Labels.{labelled-answer}
use Rattle.journal_file.proofs.words.labelled.Goals as goal

pub returns-in-Some : goal.returns-in-Some
returns-in-Some c = labelled-answer (λ x. x.0) (λ x. x.1.now) c.args.text.now c.args.label.now c.in-Some.rest.now c.in-Some.ensures c.number.result c.number.ensures

pub returns-in-None : goal.returns-in-None
returns-in-None c = λ n rest it. c.in-None.ensures it.behind it.begins
