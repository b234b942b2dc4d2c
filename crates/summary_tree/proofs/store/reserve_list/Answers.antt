use Rattle.std.proofs.Common.{sym, ◌∙◌}
use Rattle.summary_tree.specs.Faces.{spare_in, length_in}
use Rattle.summary_tree.proofs.Meets.{met_beyond}
use Rattle.summary_tree.proofs.store.reserve_list.Goals as goal

pub returns-then-not-reaches-clause-ok : goal.returns-then-not-reaches-clause-ok
returns-then-not-reaches-clause-ok c =
    let low = c.is_short.ensures.0 (c.if-not-is_short.false) in
    let short = sym c.reaches.ensures ∙ c.if-not-reaches.true in
    met_beyond (length_in c.args.list) (spare_in c.loop-class.faces c.args.list) c.loop-class.class c.longest-most.result c.args.need.now low c.longest-most.ensures short c.loop-class.invariant.enough
