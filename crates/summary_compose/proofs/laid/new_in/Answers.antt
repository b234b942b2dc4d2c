-- The part has this segment alone.
use Rattle.std.proofs.Common.{◌∙◌, ◌∷◌, [], ap}
use Rattle.summary_compose.proofs.Parts.{part_of-one, past_end}
use Rattle.summary_compose.proofs.laid.new_in.Goals as goal

pub returns-in-New : goal.returns-in-New
returns-in-New c = part_of-one c.args.segs.now c.args.part past_end c.requires c.if-part-ne1.false ∙ ap (λ seg. seg ∷ []) c.in-New.is
