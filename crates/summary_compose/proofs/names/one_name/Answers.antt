-- The part has this needle alone.
use Rattle.summary_compose.proofs.Parts.{first_needle, part_of-one}
use Rattle.summary_compose.proofs.names.one_name.Goals as goal

pub returns : goal.returns
returns c = part_of-one c.args.names.now c.args.part first_needle c.requires c.if-part-ne1.false
