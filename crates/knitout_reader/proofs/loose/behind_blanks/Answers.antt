use Rattle.std.proofs.Common.{take, ap, sym, ◌∙◌, ◌++◌, List, ℕ, take-append-drop}
use Rattle.std.proofs.lemmas.List.{take_rest}
use Rattle.knitout_reader.proofs.loose.behind_blanks.Goals as goal

pub returns-clause-blanks : goal.returns-clause-blanks
returns-clause-blanks c = (
  take c.count_blanks.result c.args.text.now,
  c.count_blanks.ensures.blanks,
  sym (take-append-drop c.count_blanks.result c.args.text.now)
      ∙ ap (λ (l : List ℕ). take c.count_blanks.result c.args.text.now ++ l) (sym (take_rest c.args.text.now c.count_blanks.result)),
)
