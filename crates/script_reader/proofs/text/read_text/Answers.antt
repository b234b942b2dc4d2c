use Rattle.std.proofs.Common.{◌≡◌, ap, arith, sym, subst, ◌∙◌, get_or, [], true, false, drop}
use Rattle.script_reader.specs.Statements.{is_skipped, is_text_line}
use Rattle.script_reader.proofs.TextLines.{TextSoFar, text_begins, text_more, text_skipped}
use Rattle.script_reader.proofs.Texts.{not_skipped_kind, skipped_kind, text_kind, text_line_kind, text_may_lose}
use Rattle.script_reader.proofs.text.read_text.Goals as goal
use Rattle.script_reader.proofs.text.read_text.Goals.{then-is_text_line+in_ok-push, else-is_text_line+else-not-is_skipped}

pub range_without_first-requires-clause-first : goal.range_without_first-requires-clause-first
range_without_first-requires-clause-first c = λ k d below. text_may_lose _ (c.run_end-end.ensures.texts k d below)

pub loop-i-init : goal.loop-i-init
loop-i-init c =
    subst (TextSoFar c.args.lines.now c.args.start c.run_end-end.result) (sym c.in_ok-text.ensures)
    (text_begins c.args.lines.now c.args.start c.run_end-end.result c.run_end-end.ensures.within.0 c.run_end-end.ensures.within.1 c.run_end-end.ensures.texts)

pub returns-then-not-is_skipped-clause-heading : goal.returns-then-not-is_skipped-clause-heading
returns-then-not-is_skipped-clause-heading c =
    let text : c.is_text_line.result ≡ is_text_line (get_or c.args.lines.now c.loop-i.i []) = c.is_text_line.ensures ∙ ap is_text_line (c.as_bytes.ensures.value ∙ c.nth_line-line.ensures.text) in
    let skipped : c.is_skipped.result ≡ is_skipped (get_or c.args.lines.now c.loop-i.i []) = c.is_skipped.ensures ∙ ap is_skipped (c.as_bytes-else-is_text_line.ensures.value ∙ c.nth_line-line.ensures.text) in
    record {
      said = λ within. not_skipped_kind (get_or c.args.lines.now c.loop-i.i []) (sym skipped ∙ c.if-not-is_skipped.true);
      no_text = λ within is. let clash : true ≡ false = sym (text_kind (get_or c.args.lines.now c.loop-i.i []) is) ∙ (sym text ∙ c.if-is_text_line.false) in cc;
    }

pub loop-i-preserved : goal.loop-i-preserved
loop-i-preserved c =
    let text : c.is_text_line.result ≡ is_text_line (get_or c.args.lines.now c.loop-i.i []) = c.is_text_line.ensures ∙ ap is_text_line (c.as_bytes.ensures.value ∙ c.nth_line-line.ensures.text) in
    elim c.if-is_text_line.branch [
      | then-is_text_line+in_ok-push w ↦
          rw (w.text-is, w.in_ok-push.ensures.ok)
          (text_more c.args.lines.now c.args.start c.loop-i.i c.loop-i.text (omega arith) w.text_of.result.now (text_line_kind (get_or c.args.lines.now c.loop-i.i []) (sym text ∙ w.if-is_text_line.true))
          (w.text_of.ensures.text ∙ ap (drop 1) c.nth_line-line.ensures.text) c.loop-i.invariant)
      | else-is_text_line+else-not-is_skipped w ↦
          let skipped : w.is_skipped.result ≡ is_skipped (get_or c.args.lines.now c.loop-i.i []) = w.is_skipped.ensures ∙ ap is_skipped (w.as_bytes-else-is_text_line.ensures.value ∙ c.nth_line-line.ensures.text) in
          rw w.text-is
          (text_skipped c.args.lines.now c.args.start c.loop-i.i c.loop-i.text (omega arith) (skipped_kind (get_or c.args.lines.now c.loop-i.i []) (sym skipped ∙ w.if-not-is_skipped.false)) c.loop-i.invariant)
    ]
