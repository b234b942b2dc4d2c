use Rattle.std.proofs.Common.{◌==◌, get_or, sym, ◌∙◌, ap, arith}
use Rattle.std.specs.List.{list_any}
use Rattle.std.proofs.lemmas.Bool.{eq-eqb, false≢true, not-true}
use Rattle.std.proofs.lemmas.List.Folds.{list_any_at}
use Rattle.std.proofs.lemmas.Str.{is_utf8-from_IsUtf8}
use Rattle.document_examples.proofs.tests.is_short_line.Goals as goal

pub returns-then-text-lt65535 : goal.returns-then-text-lt65535
returns-then-text-lt65535 c =
    λ lacks.
    let none =
    ap (list_any (λ byte. byte == 10)) (sym c.as_bytes.ensures.value) ∙ sym c.contains.ensures.value ∙ not-true c.contains.result lacks in
    record {
      utf8 = is_utf8-from_IsUtf8 _ c.utf8.text;
      one =
          λ k d inside e.
          false≢true
          (sym none ∙ list_any_at (λ byte. byte == 10) c.args.text.now k d inside (eq-eqb (get_or c.args.text.now k d) 10 e));
      short = omega arith;
    }
