use Rattle.std.proofs.Common.{◌≡◌, List, [], ◌∷◌, ◌++◌, length, length-append, sym, ◌∙◌, ap, arith}
use Rattle.tree_shape.specs.declared.insertion.Grown.{Grown}
use Rattle.tree_shape.specs.declared.dirty.DirtyRow.{DirtyRow}
use Rattle.tree_shape.specs.Plan.{Plan, plan_grown, rows, rows_below_root, IsPending, dirty_row}
use Rattle.tree_shape.proofs.Heights.{at_most_22}
use Rattle.tree_shape.proofs.InsertionBounds.{grown_listed}
use Rattle.tree_shape.proofs.Turns.{rows_pending, name_pending}
use Rattle.tree_shape.proofs.shape.plan_put.Goals as goal

pub grow-grown-requires : goal.grow-grown-requires
grow-grown-requires c =
    let h = c.requires.place in
    let low = at_most_22 h.0 h.1.balanced h.1.few in
    (h.0, h.1.named, h.1.stands, h.2, omega (arith, ap length c.requires.empty))

listed_rows : (g : Grown) (p : Plan) (d0 d1 d2 : List DirtyRow) (row : DirtyRow) → d0 ≡ [] → IsPending g p → d1 ≡ d0 ++ rows_below_root p → row ≡ dirty_row g.side g.node g.near g.far → d2 ≡ d1 ++ row ∷ [] → d2 ≡ rows p
listed_rows g p d0 d1 d2 row e0 pending e1 er e2 =
    let short : d1 ≡ rows_below_root p = e1 ∙ ap (λ v. v ++ rows_below_root p) e0 in
    e2 ∙ (cc (short, er) ∙ sym (rows_pending g p pending))

pub push-requires : goal.push-requires
push-requires c =
    let h = c.requires.place in
    let low = at_most_22 h.0 h.1.balanced h.1.few in
    let told = c.grow-grown.ensures h.0 h.1.named h.1.stands in
    omega (arith, grown_listed c.args.at c.args.new c.args.number h.0, ap length told.1, ap length c.requires.empty, length-append c.args.dirty.now (rows_below_root (plan_grown c.args.at c.args.new c.args.number h.0)))

pub returns-clause-root : goal.returns-clause-root
returns-clause-root c = λ t s. sym (name_pending _ _ (c.grow-grown.ensures t s.named s.stands).0)

pub returns-clause-listed : goal.returns-clause-listed
returns-clause-listed c = λ t s.
    let told = c.grow-grown.ensures t s.named s.stands in
    listed_rows _ _ _ _ _ _ c.requires.empty told.0 told.1 c.row_on.ensures c.push.ensures
