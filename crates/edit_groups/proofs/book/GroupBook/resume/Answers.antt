use Rattle.edit_groups.proofs.Kept.{kept_earlier}
use Rattle.edit_groups.proofs.book.GroupBook.resume.Goals as goal

pub invariant_of-result : goal.invariant_of-result
invariant_of-result c = kept_earlier c.args.book c.in_ok-chunks.chunks.items c.in_ok-chunks.ensures
