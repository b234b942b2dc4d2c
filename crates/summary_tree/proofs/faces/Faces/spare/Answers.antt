use Rattle.std.proofs.Common.{sym, ◌∙◌, ap}
use Rattle.summary_tree.specs.Faces.{FacesView, spare_in}
use Rattle.summary_tree.proofs.FaceTables.{spare_seen}
use Rattle.summary_tree.proofs.faces.Faces.spare.Goals as goal

pub returns : goal.returns
returns c = c.spare.ensures ∙ (sym (spare_seen c.self.inside.entries.items c.self.inside.pools c.args.list c.args.class) ∙ ap (λ (v : FacesView). spare_in v c.args.list c.args.class) c.self.view_is)
