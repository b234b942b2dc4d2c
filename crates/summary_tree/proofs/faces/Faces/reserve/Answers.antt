use Rattle.std.proofs.Common.{◌≤◌, sym, subst}
use Rattle.std.specs.Prelude.{OnOk}
use Rattle.summary_tree.specs.Faces.{FacesView, KeepsSpares, table_view}
use Rattle.summary_tree.proofs.FaceTables.{keeps_spares, spare_seen}
use Rattle.summary_tree.proofs.faces.Faces.reserve.Goals as goal

pub returns-clause-ok : goal.returns-clause-ok
returns-clause-ok c = subst (λ many. OnOk c.reserve.result (c.args.n ≤ many)) (sym (spare_seen c.self.inside.entries.items c.reserve.new.self c.args.list c.args.class)) c.reserve.ensures.ok

pub returns-clause-spares : goal.returns-clause-spares
returns-clause-spares c =
    subst (λ (v : FacesView). KeepsSpares v (table_view c.self.inside.entries.items c.reserve.new.self)) c.self.view_is
    (keeps_spares c.self.inside.entries.items c.self.inside.entries.items c.self.inside.pools c.reserve.new.self c.reserve.ensures.never_lower)
