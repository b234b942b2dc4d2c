use Rattle.std.proofs.Common.{◌≡◌, ◌∙◌, ◌≤◌, ℕ, List, [], All, ap, arith, length, refl, rules, subst, sym}
use Rattle.std.proofs.lemmas.List.Elements.{All-nil}
use Rattle.std.proofs.lemmas.Result.{IfOk-weaker}
use Rattle.knit_base.specs.Lines.{lines_of}
use Rattle.line_cutter.specs.Cut.{IsGoodLine}
use Rattle.knit_maker.specs.Made.{made_lines}
use Rattle.knit_maker.proofs.MadeFiles.{made-plain}
use Rattle.knit_maker.proofs.MadeLines.{length-made}
use Rattle.input_answers.proofs.FileDues.{none-bad}
use Rattle.input_answers.proofs.MadeTexts.{length-ended, lines_of-ended, made-good}
use Rattle.input_answers.proofs.made.answer_made.Goals as goal

pub take_lines-requires-clause-size : goal.take_lines-requires-clause-size
take_lines-requires-clause-size g c =
    omega (
      arith,
      ap length (c.deref.ensures.value ∙ c.in_ok-text.ensures),
      length-ended 17 (made_lines c.args.rows c.args.start) (made-plain c.args.rows c.args.start),
      length-made c.args.rows c.args.start,
      c.requires.few,
    )

pub made_of_reader-requires-clause-taken : goal.made_of_reader-requires-clause-taken
made_of_reader-requires-clause-taken g c = record {
  start = c.runner-reader.result;
  input = c.deref.result.now;
  small =
      omega (
        arith,
        ap length (c.deref.ensures.value ∙ c.in_ok-text.ensures),
        length-ended 17 (made_lines c.args.rows c.args.start) (made-plain c.args.rows c.args.start),
        length-made c.args.rows c.args.start,
        c.requires.few,
      );
  taken = c.in-Ok.ensures.ok c.runner-reader.result [] c.runner-reader.ensures.none;
}

pub made_of_reader-requires-clause-made : goal.made_of_reader-requires-clause-made
made_of_reader-requires-clause-made g c = (
  c.runner-reader.result,
  c.deref.result.now,
  c.args.rows,
  c.args.start,
  ap lines_of (c.deref.ensures.value ∙ c.in_ok-text.ensures) ∙ lines_of-ended 17 (made_lines c.args.rows c.args.start) (made-plain c.args.rows c.args.start),
  c.in-Ok.ensures.ok c.runner-reader.result [] c.runner-reader.ensures.none,
)

pub returns-in-Ok : goal.returns-in-Ok
returns-in-Ok g c =
    IfOk-weaker c.made_of_reader.result _ _
    (λ ending due.
    due c.runner-reader.result c.deref.result.now c.args.rows c.args.start
    (ap lines_of (c.deref.ensures.value ∙ c.in_ok-text.ensures) ∙ lines_of-ended 17 (made_lines c.args.rows c.args.start) (made-plain c.args.rows c.args.start))
    c.runner-reader.ensures.begins (c.in-Ok.ensures.ok c.runner-reader.result [] c.runner-reader.ensures.none))
    c.made_of_reader.ensures

pub unreachable-requires : goal.unreachable-requires
unreachable-requires g c =
    let are : lines_of c.deref.result.now ≡ made_lines c.args.rows c.args.start =
    ap lines_of (c.deref.ensures.value ∙ c.in_ok-text.ensures) ∙ lines_of-ended 17 (made_lines c.args.rows c.args.start) (made-plain c.args.rows c.args.start) in
    let named = none-bad (lines_of c.deref.result.now) c.in-Err.field-0 (subst (All IsGoodLine) (sym are) (made-good c.args.rows c.args.start))
    (c.in-Err.ensures.err [] (sym c.runner-reader.ensures.none.counted) (All-nil IsGoodLine)) in
    search rules
