use Rattle.std.proofs.Common.{◌∙◌, arith}
use Rattle.tally_tree.specs.Tallies.{counts_of_tally}
use Rattle.tally_tree.proofs.Counting.{counted_more, counted_none, room_for_more}
use Rattle.tally_tree.proofs.lines.count_lines.Goals as goal

pub loop-at-init : goal.loop-at-init
loop-at-init g c = record {
  few = omega arith;
  steps = omega arith;
  so_far = counted_none c.args.setting.now.profile c.args.setting.now.declared c.from.result (counts_of_tally c.in_ok-tally.tally) (c.from.ensures ∙ c.len.ensures.len) c.in_ok-tally.ensures;
}

pub count_line-requires-clause-few : goal.count_line-requires-clause-few
count_line-requires-clause-few g c =
    (room_for_more c.args.setting.now.profile c.args.setting.now.declared c.args.text.now c.loop-at.at (counts_of_tally c.loop-at.tally) c.loop-at.invariant.few (omega arith) c.requires.few c.loop-at.invariant.so_far).0

pub count_line-requires-clause-room : goal.count_line-requires-clause-room
count_line-requires-clause-room g c =
    (room_for_more c.args.setting.now.profile c.args.setting.now.declared c.args.text.now c.loop-at.at (counts_of_tally c.loop-at.tally) c.loop-at.invariant.few (omega arith) c.requires.few c.loop-at.invariant.so_far).1

pub loop-at-preserved : goal.loop-at-preserved
loop-at-preserved g c = record {
  few = c.loop-at.invariant.few;
  steps = omega arith;
  so_far = counted_more c.args.setting.now.profile c.args.setting.now.declared c.args.text.now c.loop-at.at c.line-line.result.now (counts_of_tally c.loop-at.tally) _ c.requires.profile c.line-line.ensures.line c.loop-at.invariant.so_far c.in_ok-count_line.ensures;
}
