use Rattle.std.proofs.Common.{◌∙◌, ℕ, get_or, ap, sym, arith}
use Rattle.std.specs.Option.{option_copied}
use Rattle.reply_report.proofs.TallyLines.{with_more}
use Rattle.reply_report.proofs.tally.append_with.Goals as goal

pub loop-c-preserved : goal.loop-c-preserved
loop-c-preserved c = (
  with_more c.args.declared.now c.args.numbers.now c.loop-c.c _ 0 c.in-Some.name.now c.loop-c.out.items c.append_with_line.new.out.items _ (sym c.name.ensures ∙ ap option_copied c.in-Some.is) (omega (arith, c.requires, c.loop-c.invariant.1, c.loop-c-test.true)) (ap (λ (k : ℕ). get_or c.args.numbers.now k 0) c.from.ensures)
      c.in_ok-append_with_line.ensures c.loop-c.invariant.0,
  c.loop-c.invariant.1,
)
