use Rattle.std.proofs.Common.{ℕ, List, sym, subst, arith}
use Rattle.block_summary.specs.Prepared.{AreReadings}
use Rattle.block_summary.proofs.LinePlaces.{part_all}
use Rattle.block_summary.proofs.prepared.prepare_with.Goals as goal

pub returns-in-Ok-clause-prepared : goal.returns-in-Ok-clause-prepared
returns-in-Ok-clause-prepared g c = record {
  few = omega arith;
  made = λ lines reads. c.in-Ok.ensures.made lines
      (subst (λ (text : List (List ℕ)). AreReadings c.args.setting.now.profile c.args.setting.now.declared text lines) (sym (part_all c.args.text _ c.len-lines.ensures.len)) reads);
}
