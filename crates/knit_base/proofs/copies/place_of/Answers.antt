use Rattle.knit_base.proofs.Copied.{piece-front}
use Rattle.knit_base.proofs.copies.place_of.Goals as goal

pub returns-then-wanted-reach-clause-same : goal.returns-then-wanted-reach-clause-same
returns-then-wanted-reach-clause-same c =
    piece-front c.args.bytes.now c.args.copy.now.items c.args.reach c.args.wanted c.requires.reach c.requires.wanted c.requires.front c.if-reach-wanted.true c.if-wanted-reach.true
