use Rattle.std.proofs.Common.{◌≤◌, arith, sym, ap, ◌∙◌, subst}
use Rattle.std.specs.Prelude.{slice_set}
use Rattle.span_pool.specs.Shelf.{ShelfView}
use Rattle.span_pool.specs.Pool.{SpanView, spare_of, out_of, OneFewer, OneMore}
use Rattle.span_pool.proofs.Shelves.{has_shelf, read_here, is_put, out_seen}
use Rattle.span_pool.proofs.pool.Pool.give.Goals as goal

pub index_mut-requires : goal.index_mut-requires
index_mut-requires g c =
    let class = ap (λ (s : SpanView g.row.T.Denot). s.class) c.span.view_is in
    omega (arith, has_shelf c.self.inside.shelves.items c.args.self.now c.span.inside.class c.self.view_is (subst (λ k. 1 ≤ out_of c.args.self.now k) (sym class) c.requires.out))

pub give-requires-clause-out : goal.give-requires-clause-out
give-requires-clause-out g c =
    let class = ap (λ (s : SpanView g.row.T.Denot). s.class) c.span.view_is in
    let out = subst (λ k. 1 ≤ out_of c.args.self.now k) (sym class) c.requires.out in
    let inside = has_shelf c.self.inside.shelves.items c.args.self.now c.span.inside.class c.self.view_is out in
    let here = read_here c.self.inside.shelves.items c.span.inside.class c.index_mut.result.now c.index_mut.ensures.value inside in
    subst (λ n. 1 ≤ n) (out_seen c.self.inside.shelves.items c.args.self.now c.span.inside.class c.index_mut.result.now c.self.view_is here) out

pub give-requires-clause-roomy : goal.give-requires-clause-roomy
give-requires-clause-roomy g c =
    let class = ap (λ (s : SpanView g.row.T.Denot). s.class) c.span.view_is in
    let out = subst (λ k. 1 ≤ out_of c.args.self.now k) (sym class) c.requires.out in
    let inside = has_shelf c.self.inside.shelves.items c.args.self.now c.span.inside.class c.self.view_is out in
    let here = read_here c.self.inside.shelves.items c.span.inside.class c.index_mut.result.now c.index_mut.ensures.value inside in
    let room = ap (λ (s : ShelfView). s.room) here ∙ c.self.invariant.rooms c.span.inside.class inside in
    omega (arith, room, c.span.invariant.roomy)

pub returns-clause-spare : goal.returns-clause-spare
returns-clause-spare g c =
    let class = ap (λ (s : SpanView g.row.T.Denot). s.class) c.span.view_is in
    let inside = has_shelf c.self.inside.shelves.items c.args.self.now c.span.inside.class c.self.view_is (subst (λ k. 1 ≤ out_of c.args.self.now k) (sym class) c.requires.out) in
    let here = read_here c.self.inside.shelves.items c.span.inside.class c.index_mut.result.now c.index_mut.ensures.value inside in
    let put = is_put c.self.inside.shelves.items c.args.self.now c.span.inside.class c.index_mut.result.now c.give.new.self c.self.view_is inside here in
    subst (λ k. OneMore (spare_of c.args.self.now) (spare_of (slice_set c.self.inside.shelves.items c.span.inside.class c.give.new.self)) k) class
    (record { here = omega (arith, put.has_spare, put.had_spare, c.give.ensures.spare); others = put.other_spare })

pub returns-clause-out : goal.returns-clause-out
returns-clause-out g c =
    let class = ap (λ (s : SpanView g.row.T.Denot). s.class) c.span.view_is in
    let inside = has_shelf c.self.inside.shelves.items c.args.self.now c.span.inside.class c.self.view_is (subst (λ k. 1 ≤ out_of c.args.self.now k) (sym class) c.requires.out) in
    let here = read_here c.self.inside.shelves.items c.span.inside.class c.index_mut.result.now c.index_mut.ensures.value inside in
    let put = is_put c.self.inside.shelves.items c.args.self.now c.span.inside.class c.index_mut.result.now c.give.new.self c.self.view_is inside here in
    subst (λ k. OneFewer (out_of c.args.self.now) (out_of (slice_set c.self.inside.shelves.items c.span.inside.class c.give.new.self)) k) class
    (record { here = omega (arith, put.has_out, put.had_out, c.give.ensures.out); others = put.other_out })
