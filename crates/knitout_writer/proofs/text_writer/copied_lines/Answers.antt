use Rattle.std.proofs.Common.{refl}
use Rattle.knitout_writer.proofs.WrittenLines.{copied-more, copied-none}
use Rattle.knitout_writer.proofs.text_writer.copied_lines.Goals as goal

pub loop-len-init : goal.loop-len-init
loop-len-init c = copied-none c.args.text.now c.args.start c.requires.within

pub loop-len-preserved : goal.loop-len-preserved
loop-len-preserved c = copied-more c.args.text.now _ c.args.start c.loop-len.end c.loop-len.count c.in-Some.len c.loop-len.invariant refl c.in-Some.ensures
