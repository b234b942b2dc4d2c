use Rattle.std.proofs.Common.{arith}
use Rattle.std.proofs.lemmas.Bool.{eq-eqb, eqb-true}
use Rattle.std.proofs.lemmas.List.{get_or_default}
use Rattle.std.proofs.Common.{sym, ◌∙◌}
use Rattle.journal_file.proofs.Lines.{feed_found}
use Rattle.journal_file.proofs.scan.next_line.Goals as goal

pub returns-in-Some : goal.returns-in-Some
returns-in-Some c = let h = c.in-Some.ensures in
    feed_found c.args.text.now c.in-Some.end h.0.high (λ k below is. h.0.before k (omega arith) below (eq-eqb _ 10 is)) (eqb-true _ 10 h.1)

pub returns-in-None : goal.returns-in-None
returns-in-None c = λ k d below is. c.in-None.ensures k (omega arith) below (eq-eqb _ 10 (sym (get_or_default c.args.text.now k d 0 below) ∙ is))
