use Rattle.std.proofs.Common.{◌≡◌, ◌∙◌, List, Some, ap, rules, sym, true}
use Rattle.carriage_model.specs.declared.verdict.LoopFact.{LoopFact}
use Rattle.carriage_model.specs.Loops.{loops_asked}
use Rattle.input_answers.proofs.by_book.judge_document.Goals as goal

pub returns : goal.returns
returns g c =
    let made : List LoopFact = c.in_ok-verdict.ensures.0 in
    let judged = c.in_ok-verdict.ensures.1 in
    let asked : c.args.with_loops ≡ true = search rules in
    record {
      made = made;
      judged = judged;
      loops =
          ap Some (c.in_ok-loops.ensures made (record { readings = judged.readings; read = judged.read; made = judged.made }))
          ∙ ap (λ b. loops_asked b made) (sym asked);
    }
