-- What there was is there after `NoMemory` too.
use Rattle.summary_compose.proofs.scratch.Scratch.reserve.Goals as goal

pub invariant_of-self : goal.invariant_of-self
invariant_of-self c = (c.reserve.ensures.keeps c.self.inside.room c.max-more.ensures.first c.self.invariant.0, c.self.invariant.1)
