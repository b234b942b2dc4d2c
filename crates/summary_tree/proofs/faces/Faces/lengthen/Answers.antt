use Rattle.std.proofs.Common.{refl, sym, ◌∙◌, ap}
use Rattle.std.specs.Option.{option_map}
use Rattle.summary_tree.specs.Faces.{FacesView, face_in, summary_in}
use Rattle.summary_tree.proofs.FaceTables.{same_table, seen_at}
use Rattle.summary_tree.proofs.faces.Faces.lengthen.Goals as goal

pub invariant_of-self : goal.invariant_of-self
invariant_of-self c = same_table c.self.inside.entries.items c.lengthen_entries.new.entries.items c.self.inside.pools c.self.inside.pools c.self.invariant c.lengthen_entries.ensures.same c.lengthen_entries.ensures.spans (λ list class. refl)

pub returns-clause-same : goal.returns-clause-same
returns-clause-same c = λ at.
    seen_at c.lengthen_entries.new.entries.items at
    ∙ (ap (option_map summary_in) (c.lengthen_entries.ensures.same at)
    ∙ (sym (seen_at c.self.inside.entries.items at)
    ∙ ap (λ (v : FacesView). face_in v at) c.self.view_is))
