use Rattle.std.proofs.Common.{length, sym, subst}
use Rattle.std.proofs.lemmas.Result.{IfOk-weaker}
use Rattle.knit_base.specs.declared.instr.Read.{Read}
use Rattle.knitout_reader.specs.Reading.{ReadsAs}
use Rattle.block_summary.specs.Prepared.{AddsLine}
use Rattle.block_summary.proofs.adding.add_line.Goals as goal

pub returns-in-Some-clause-added : goal.returns-in-Some-clause-added
returns-in-Some-clause-added c =
    let profile = c.args.setting.now.profile in
    let names = c.args.setting.now.declared in
    IfOk-weaker c.add_usual.result _ _
    (λ stop adds r reads.
    subst (λ (x : Read). AddsLine profile (length names) x c.args.draft.now c.add_usual.new.draft c.args.loops.now c.add_usual.new.loops stop)
    (sym (c.in-Some.ensures.only r (subst (λ line. ReadsAs profile names line r) (sym c.as_bytes.ensures.value) reads))) adds)
    c.add_usual.ensures.added
