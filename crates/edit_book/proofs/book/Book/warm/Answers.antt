use Rattle.std.proofs.Common.{position, refl, sym, subst, ◌∙◌, arith}
use Rattle.std.proofs.lemmas.Result.{on_ok_weaker}
use Rattle.edit_journal.specs.Documents.{document_of}
use Rattle.face_data.specs.Summaries.{Summary}
use Rattle.edit_book.specs.Books.{ids_of}
use Rattle.edit_book.specs.Orders.{is_id}
use Rattle.edit_book.proofs.Rooms.{kept_more, ready_by}
use Rattle.summary_tree.specs.Trees.{CanReplace}
use Rattle.edit_book.proofs.Made.{at_fits}
use Rattle.edit_book.proofs.Boxes.{count_of}
use Rattle.edit_book.proofs.book.Book.warm.Goals as goal

pub reserve_replace-requires-clause-place : goal.reserve_replace-requires-clause-place
reserve_replace-requires-clause-place c =
    let within = (at_fits _ _ _ _ _ c.self.invariant (sym c.place.ensures ∙ c.in-Some.is)).0 in
    omega (arith, within, count_of _ _ c.deref_mut.ensures.value)

pub returns-clause-ok : goal.returns-clause-ok
returns-clause-ok c =
    let place = (λ i. position (is_id c.args.block) (ids_of (document_of (c.in_ok-reserve_entry.ensures.opening i) (c.in_ok-reserve_entry.ensures.entries i)).blocks)) ∙ (sym c.place.ensures ∙ c.in-Some.is) in
    on_ok_weaker c.reserve_replace.result
    (λ met.
    ready_by c.reserve_entry.new.self.opening c.reserve_entry.new.self.entries c.args.block c.in-Some.at _ c.reserve_entry.new.self.journal_room c.reserve_replace.new.self
    c.args.prepared.now.face refl place c.in_ok-reserve_entry.ensures.ok
    (subst (λ (s : Summary). CanReplace c.reserve_replace.new.self c.in-Some.at s) c.view.ensures.summary met))
    c.reserve_replace.ensures.ok

pub returns-clause-keeps : goal.returns-clause-keeps
returns-clause-keeps c =
    kept_more _ _ _ _ _ _ _ _ _ _ _ c.self.view_is refl c.in_ok-reserve_entry.ensures.opening c.in_ok-reserve_entry.ensures.entries c.in_ok-reserve_entry.ensures.keeps c.deref_mut.ensures.value
    c.reserve_replace.ensures.same c.reserve_replace.ensures.keeps
