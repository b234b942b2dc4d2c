-- One needle more.
use Rattle.std.proofs.Common.{◌∙◌, length}
use Rattle.block_summary.proofs.ChainWalks.{added_more, counted_more}
use Rattle.block_summary.proofs.chains.Chains.add.Goals as goal

pub loop-n-preserved : goal.loop-n-preserved
loop-n-preserved c =
    let w = c.note.ensures.links in record {
      added = added_more c.args.needles.now c.loop-n.n-index _ c.args.cond c.args.self.now.links c.loop-n.self.links c.note.new.self.links w.0 c.loop-n-test.true w.1 c.loop-n.invariant.added;
      count = counted_more c.loop-n.self.links c.note.new.self.links _ (length c.args.self.now.links) c.loop-n.n-index w.1 c.loop-n.invariant.count;
      room = c.note.ensures.room ∙ c.loop-n.invariant.room;
    }
