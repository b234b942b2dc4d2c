-- One link more.
use Rattle.std.proofs.Common.{arith, refl, subst, sym}
use Rattle.std.proofs.lemmas.Grind.{common_steps}
use Rattle.summary_compose.specs.Tables.{Leads, link_needles}
use Rattle.summary_compose.proofs.Tables.{tells_more, linked_more}
use Rattle.summary_compose.proofs.index.Index.note.Goals as goal

pub invariant_of-self : goal.invariant_of-self
invariant_of-self c = (
  tells_more c.self.inside.table.entries.items c.set.new.self.entries.items c.self.inside.links.items c.push_reserved.new.self.items _ c.len-place.result (grind (arith, common_steps)) c.set.ensures.written c.push_reserved.ensures.items (c.self.invariant).0,
  linked_more c.self.inside.links.items c.self.inside.links.items c.push_reserved.new.self.items _ refl c.push_reserved.ensures.items (c.self.invariant).1
      (subst (λ p. Leads (link_needles c.self.inside.links.items) c.args.needle p) (sym c.get-next.ensures) ((c.self.invariant).0 c.args.needle)),
)
