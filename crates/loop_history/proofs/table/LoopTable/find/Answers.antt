use Rattle.std.proofs.Common.{◌+◌, ◌-◌, ◌/◌, ℕ, sym, refl, arith}
use Rattle.loop_history.proofs.Search.{row_not_found, missed_all, row_found_at_place, probing-start, probing-above, probing-below}
use Rattle.loop_history.proofs.table.LoopTable.find.Goals.{then-found-offset-2, else-found-offset-2}
use Rattle.loop_history.proofs.table.LoopTable.find.Goals as goal

pub loop-probe-init : goal.loop-probe-init
loop-probe-init g c = record {
  probing = probing-start c.args.self.now c.args.offset _ c.len-high.ensures.len c.len-high.ensures.few;
  counted = omega arith;
}

pub returns-then-low-high-clause-place : goal.returns-then-low-high-clause-place
returns-then-low-high-clause-place g c =
    sym (row_not_found c.args.self.now c.args.offset c.loop-probe.low c.loop-probe.high c.loop-probe._probe c.loop-probe.invariant.probing c.if-low-high.true)

pub returns-then-found-offset-clause-place : goal.returns-then-found-offset-clause-place
returns-then-found-offset-clause-place g c =
    sym (row_found_at_place c.args.self.now c.args.offset (c.loop-probe.low + (c.loop-probe.high - c.loop-probe.low) / 2) c.row.result.now c.len-high.ensures.rising
    (omega (arith, c.loop-probe.invariant.probing.within)) c.row.ensures.row c.if-found-offset.true)

pub loop-probe-preserved : goal.loop-probe-preserved
loop-probe-preserved g c =
    let middle : ℕ = c.loop-probe.low + (c.loop-probe.high - c.loop-probe.low) / 2 in
    elim c.if-found-offset-2.branch [
      | then-found-offset-2 w ↦ record {
        probing = probing-above c.args.self.now c.args.offset c.loop-probe.low c.loop-probe.high c.loop-probe._probe middle c.if-found-offset-2.low c.if-found-offset-2.high c.row.result.now
            c.len-high.ensures.rising c.loop-probe.invariant.probing c.if-low-high.false refl c.row.ensures.row w.if-found-offset-2.true w.low-is w.high-is;
        counted = omega arith;
      }
      | else-found-offset-2 w ↦ record {
        probing = probing-below c.args.self.now c.args.offset c.loop-probe.low c.loop-probe.high c.loop-probe._probe middle c.if-found-offset-2.low c.if-found-offset-2.high c.row.result.now
            c.len-high.ensures.rising c.loop-probe.invariant.probing c.if-low-high.false refl c.row.ensures.row (omega (arith, w.if-found-offset-2.false, c.if-found-offset.false)) w.low-is w.high-is;
        counted = omega arith;
      }
    ]

pub returns-clause-place : goal.returns-clause-place
returns-clause-place g c =
    sym (missed_all c.args.self.now c.args.offset c.loop-probe.low c.loop-probe.high c.loop-probe._probe c.loop-probe.invariant.probing (omega arith))
