use Rattle.std.proofs.Common.{◌∙◌, ap, sym}
use Rattle.summary_compose.specs.Rooms.{kept_of}
use Rattle.summary_tree.proofs.Meets.{kept_is}
use Rattle.summary_tree.proofs.faces.kept_room.Goals as goal

pub returns : goal.returns
returns c = c.kept.ensures ∙ (ap kept_of c.of.ensures ∙ sym (kept_is c.args.face.now c.requires))
