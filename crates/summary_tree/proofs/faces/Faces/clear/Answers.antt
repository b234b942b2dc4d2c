use Rattle.std.proofs.Common.{◌≡◌, Some, None, sym, ◌∙◌, ap, subst, arith}
use Rattle.std.specs.Prelude.{slice_index_or, slice_set}
use Rattle.std.specs.Option.{option_map}
use Rattle.std.proofs.lemmas.List.{map-set}
use Rattle.span_pool.specs.Pool.{spare_of}
use Rattle.summary_tree.specs.Faces.{FacesView, IsEntryTable, KeepsSpares, class_in, pool_in, summary_in, table_view}
use Rattle.summary_tree.proofs.SpanCounts.{no_fewer}
use Rattle.summary_tree.proofs.FaceTables.{are_out, table_emptied, keeps_spares, read_at}
use Rattle.summary_tree.proofs.faces.Faces.clear.Goals as goal

pub give-requires : goal.give-requires
give-requires c =
    let here : slice_index_or c.self.inside.entries.items c.args.at None ≡ Some c.in-Some.entry = read_at c.self.inside.entries.items c.args.at c.index_mut.result.now (Some c.in-Some.entry) c.index_mut.ensures.value (omega arith) (sym c.take.ensures.value ∙ c.in-Some.is) in
    record { of_pools = are_out c.self.inside.entries.items c.self.inside.pools c.args.at c.in-Some.entry c.self.invariant here }

pub invariant_of-self : goal.invariant_of-self
invariant_of-self c =
    let here : slice_index_or c.self.inside.entries.items c.args.at None ≡ Some c.in-Some.entry = read_at c.self.inside.entries.items c.args.at c.index_mut.result.now (Some c.in-Some.entry) c.index_mut.ensures.value (omega arith) (sym c.take.ensures.value ∙ c.in-Some.is) in
    subst (λ o. IsEntryTable (slice_set c.self.inside.entries.items c.args.at o) c.give.new.self) (sym c.take.ensures.after)
    (table_emptied c.self.inside.entries.items c.self.inside.pools c.give.new.self c.args.at c.in-Some.entry c.self.invariant (omega arith) here c.give.ensures.out)

pub returns-in-Some-clause-faces : goal.returns-in-Some-clause-faces
returns-in-Some-clause-faces c =
    map-set (option_map summary_in) c.self.inside.entries.items c.args.at c.take.new.self
    ∙ (ap (λ (v : FacesView). slice_set v.faces c.args.at (option_map summary_in c.take.new.self)) c.self.view_is
    ∙ ap (λ o. slice_set c.args.self.now.faces c.args.at (option_map summary_in o)) c.take.ensures.after)

pub returns-in-Some-clause-spares : goal.returns-in-Some-clause-spares
returns-in-Some-clause-spares c =
    subst (λ (v : FacesView). KeepsSpares v (table_view (slice_set c.self.inside.entries.items c.args.at c.take.new.self) c.give.new.self)) c.self.view_is
    (keeps_spares c.self.inside.entries.items (slice_set c.self.inside.entries.items c.args.at c.take.new.self) c.self.inside.pools c.give.new.self
    (λ list class. no_fewer (spare_of (pool_in list c.self.inside.pools)) (spare_of (pool_in list c.give.new.self)) (class_in list c.in-Some.entry) class (c.give.ensures.spare list)))

pub returns-in_default-clause-faces : goal.returns-in_default-clause-faces
returns-in_default-clause-faces c =
    map-set (option_map summary_in) c.self.inside.entries.items c.args.at c.take.new.self
    ∙ (ap (λ (v : FacesView). slice_set v.faces c.args.at (option_map summary_in c.take.new.self)) c.self.view_is
    ∙ ap (λ o. slice_set c.args.self.now.faces c.args.at (option_map summary_in o)) c.take.ensures.after)
