-- The walk back over the links of the needle.
use Rattle.std.proofs.lemmas.Bool.{false≢true}
use Rattle.std.proofs.Common.{refl, sym, arith, subst}
use Rattle.std.specs.List.{list_any}
use Rattle.std.proofs.lemmas.Grind.{common_steps}
use Rattle.summary_compose.specs.Tables.{Leads, link_needles, note_suits, IndexView}
use Rattle.summary_compose.proofs.Tables.{Walks, walk_begins, walk_on, walk_finds, walk_ends, walk_ends_at}
use Rattle.summary_compose.proofs.index.Index.covers.Goals as goal

pub loop-place-init : goal.loop-place-init
loop-place-init c =
    let leads = subst (λ p. Leads (link_needles c.self.inside.links.items) c.args.n p) (sym c.get-place.ensures) ((c.self.invariant).0 c.args.n) in
    subst (λ (v : IndexView). Walks c.self.inside.links.items c.args.n c.args.len c.args.most c.len-limit.result c.get-place.result (list_any (note_suits c.args.n c.args.len c.args.most) v.notes))
    c.self.view_is
    (walk_begins c.self.inside.links.items c.self.inside.links.items c.args.n c.args.len c.args.most c.get-place.result c.len-limit.result refl (grind (arith, common_steps)) leads)

pub loop-place-preserved : goal.loop-place-preserved
loop-place-preserved c =
    walk_on c.self.inside.links.items c.args.n c.args.len c.args.most c.loop-place.limit c.loop-place.place _ c.index.result.now c.loop-place.invariant (c.self.invariant).1 c.loop-place-test.true c.index.ensures
    ((c.if-not-is_same.ensures).0 refl) (sym c.if-allows.ensures)

pub returns-then-allows : goal.returns-then-allows
returns-then-allows c =
    walk_finds c.self.inside.links.items c.args.n c.args.len c.args.most c.loop-place.limit c.loop-place.place _ c.index.result.now c.loop-place.invariant c.loop-place-test.true c.index.ensures
    ((c.if-not-is_same.ensures).0 refl) (sym c.if-allows.ensures)

pub returns-then-not-is_same : goal.returns-then-not-is_same
returns-then-not-is_same c =
    walk_ends_at c.self.inside.links.items c.args.n c.args.len c.args.most c.loop-place.limit c.loop-place.place _ c.index.result.now c.loop-place.invariant c.loop-place-test.true c.index.ensures
    (λ e. false≢true ((c.if-not-is_same.ensures).1 e))

pub returns : goal.returns
returns c =
    walk_ends c.self.inside.links.items c.args.n c.args.len c.args.most c.loop-place.limit c.loop-place.place _ c.loop-place.invariant (λ small. absurd (omega arith))
