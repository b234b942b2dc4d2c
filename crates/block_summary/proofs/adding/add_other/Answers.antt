use Rattle.std.proofs.Common.{length, sym, subst}
use Rattle.std.proofs.lemmas.Result.{IfOk-weaker}
use Rattle.knit_base.specs.declared.instr.Read.{Read}
use Rattle.block_summary.specs.Prepared.{AddsLine}
use Rattle.block_summary.proofs.adding.add_other.Goals as goal

pub returns-clause-added : goal.returns-clause-added
returns-clause-added c =
    let profile = c.args.setting.now.profile in
    let names = c.args.setting.now.declared in
    IfOk-weaker c.add_read.result _ _
    (λ stop adds r reads.
    subst (λ (x : Read). AddsLine profile (length names) x c.args.draft.now c.add_read.new.draft c.args.loops.now c.add_read.new.loops stop) (sym (c.in_ok-read.ensures.only r reads)) adds)
    c.add_read.ensures.added
