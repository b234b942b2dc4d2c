use Rattle.std.proofs.Common.{◌∙◌, ap, sym, subst, arith}
use Rattle.knit_base.specs.Lines.{IsLine}
use Rattle.script_reader.specs.Statements.{is_text_line}
use Rattle.script_reader.proofs.TextLines.{run_more}
use Rattle.script_reader.proofs.text.run_end.Goals as goal

pub loop-i-preserved : goal.loop-i-preserved
loop-i-preserved c =
    run_more c.args.lines.now c.args.start c.loop-i.i (omega arith) (omega arith) c.loop-i.invariant
    (record {
      begins = sym (c.is_text_line.ensures ∙ ap is_text_line (c.as_bytes.ensures.value ∙ c.nth_line.ensures.text)) ∙ c.if-not-is_text_line.false;
      is_line = subst IsLine c.nth_line.ensures.text c.nth_line.ensures.line;
    })
