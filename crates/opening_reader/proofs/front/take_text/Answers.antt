use Rattle.std.proofs.Common.{◌∙◌, List, ℕ, [], ◌∷◌, ap, sym}
use Rattle.opening_reader.proofs.TakenLines.{hold-passed, other-refused, text-passed, text-told}
use Rattle.script_reader.specs.Statements.{is_skipped, is_text_line}
use Rattle.opening_reader.proofs.front.take_text.Goals as goal

pub returns-then-is_text_line : goal.returns-then-is_text_line
returns-then-is_text_line c = λ front lines holds is same counted.
    let told = text-told c.args.wanted.kind c.args.line.now c.requires.text (ap is_text_line (sym c.as_bytes.ensures.value) ∙ sym c.is_text_line.ensures ∙ c.if-is_text_line.true) in
    c.take_piece.ensures front lines c.args.line.now holds is counted (told.0 ∙ ap (λ (l : List ℕ). l ∷ []) (sym c.text_of.ensures.text)) told.1

pub returns-then-is_skipped : goal.returns-then-is_skipped
returns-then-is_skipped c = λ front lines holds is same counted.
    let passed = text-passed c.args.wanted.kind c.args.line.now c.requires.text (ap is_text_line (sym c.as_bytes.ensures.value) ∙ sym c.is_text_line.ensures ∙ c.if-is_text_line.false)
    (ap is_skipped (sym c.as_bytes-2.ensures.value) ∙ sym c.is_skipped.ensures ∙ c.if-is_skipped.true) in
    hold-passed front c.args.counted lines c.args.text.now c.args.line.now c.args.wanted holds is same counted passed.0 passed.1

pub returns : goal.returns
returns c = λ front lines holds is same counted.
    other-refused front c.args.counted lines c.args.text.now c.args.line.now c.args.wanted holds is c.requires.text counted
    (ap is_text_line (sym c.as_bytes.ensures.value) ∙ sym c.is_text_line.ensures ∙ c.if-is_text_line.false)
    (ap is_skipped (sym c.as_bytes-2.ensures.value) ∙ sym c.is_skipped.ensures ∙ c.if-is_skipped.false)
