use Rattle.edit_groups.proofs.Kept.{kept_none}
use Rattle.edit_groups.proofs.book.GroupBook.of.Goals as goal

pub invariant_of-result : goal.invariant_of-result
invariant_of-result c = kept_none c.args.book c.new.result.items c.requires c.new.ensures.items
