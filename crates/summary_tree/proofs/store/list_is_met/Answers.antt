use Rattle.std.proofs.Common.{refl, sym, ◌∙◌}
use Rattle.summary_tree.specs.Faces.{spare_in, length_in}
use Rattle.summary_tree.proofs.Meets.{met_beyond}
use Rattle.summary_tree.proofs.store.list_is_met.Goals as goal

pub returns-then-not-reaches : goal.returns-then-not-reaches
returns-then-not-reaches c =
    let low = c.is_short.ensures.0 (c.if-not-is_short.false) in
    let short = sym c.reaches.ensures ∙ c.if-not-reaches.true in
    let met = met_beyond (length_in c.args.list) (spare_in c.args.faces.now c.args.list) c.loop-class.class c.longest-longest.result c.args.need.now low c.longest-longest.ensures short c.loop-class.invariant.enough in
    (λ _. met, λ _. refl)
