use Rattle.std.proofs.Common.{◌≡◌, ◌∙◌, ℕ, List, Some, None, refl, ap, option_map, slice_index_or, subst, sym}
use Rattle.knit_base.specs.declared.setting.Setting.{Setting}
use Rattle.block_summary.specs.Prepared.{IsPreparedFor}
use Rattle.edit_journal.specs.declared.edit.Edit.{Edit}
use Rattle.edit_journal.specs.declared.edit.Edit.TheVariants as edit
use Rattle.edit_journal.specs.declared.edit.Entry.{Entry}
use Rattle.edit_journal.specs.Entries.{entry_at}
use Rattle.edit_book.specs.declared.reply.BookCommand.TheVariants as command
use Rattle.edit_groups.specs.Answers.{request_undoing}
use Rattle.edit_groups.specs.Chunks.{entries_of_chunks, undoable_of_session}
use Rattle.edit_groups.specs.Groups.{GroupView, IsUndoing}
use Rattle.edit_groups.proofs.Undone.{cuts_again, none_after, puts_back, within_view}
use Rattle.edit_groups.proofs.book.GroupBook.undoing.Goals as goal

pub returns-in-Ok-clause-undoes : goal.returns-in-Ok-clause-undoes
returns-in-Ok-clause-undoes g c =
    let seen : ℕ = slice_index_or c.self.inside.undoable c.args.number 0 in
    let found : option_map (λ (x : Entry). x.edit) (entry_at c.self.inside.book.entries seen) ≡ Some (edit.Put c.in-Put.block c.in-Put.old c.in-Put.text) =
    ap (option_map (λ (x : Entry). x.edit)) (sym (c.in-Some.ensures ∙ ap (λ (j : List Entry). entry_at j seen) c.journal.ensures)) ∙ ap (λ (e : Edit). Some e) c.in-Put.is in
    subst (λ (v : GroupView). IsUndoing v.opening (entries_of_chunks v.chunks) (undoable_of_session c.args.number v.chunks) (Some (command.Put c.in-Put.block seen c.header_stamp.result c.in-Ok.prepared))) c.self.view_is
    (puts_back c.self.inside.book c.self.inside.chunks.items c.self.inside.undoable c.args.number c.requires.number c.self.invariant c.in-Put.block c.in-Put.old c.in-Put.text c.in-Some-text_at.text.now c.header_stamp.result c.in-Ok.prepared found c.in-Some-text_at.ensures.text
    c.header_stamp.ensures (c.in-Ok.ensures.text ∙ c.in_ok-text-in-Put.ensures) (subst (λ (s : Setting). IsPreparedFor s.profile s.declared c.in-Ok.prepared) c.setting.ensures.setting c.in-Ok.ensures.prepared))

pub returns-in-Add-clause-undoes : goal.returns-in-Add-clause-undoes
returns-in-Add-clause-undoes g c =
    let seen : ℕ = slice_index_or c.self.inside.undoable c.args.number 0 in
    let found : option_map (λ (x : Entry). x.edit) (entry_at c.self.inside.book.entries seen) ≡ Some (edit.Add c.in-Add.anchor c.in-Add.block c.in-Add.text) =
    ap (option_map (λ (x : Entry). x.edit)) (sym (c.in-Some.ensures ∙ ap (λ (j : List Entry). entry_at j seen) c.journal.ensures)) ∙ ap (λ (e : Edit). Some e) c.in-Add.is in
    subst (λ (v : GroupView). IsUndoing v.opening (entries_of_chunks v.chunks) (undoable_of_session c.args.number v.chunks) (Some (command.Cut c.in-Add.block seen))) c.self.view_is
    (cuts_again c.self.inside.book c.self.inside.chunks.items c.self.inside.undoable c.args.number c.requires.number c.self.invariant c.in-Add.anchor c.in-Add.block c.in-Add.text found)

pub returns-in-Cut-clause-undoes : goal.returns-in-Cut-clause-undoes
returns-in-Cut-clause-undoes g c =
    let seen : ℕ = slice_index_or c.self.inside.undoable c.args.number 0 in
    let found : option_map (λ (x : Entry). x.edit) (entry_at c.self.inside.book.entries seen) ≡ Some c.in-Some.entry.now.edit =
    ap (option_map (λ (x : Entry). x.edit)) (sym (c.in-Some.ensures ∙ ap (λ (j : List Entry). entry_at j seen) c.journal.ensures)) in
    subst (λ (v : GroupView). IsUndoing v.opening (entries_of_chunks v.chunks) (undoable_of_session c.args.number v.chunks) None) c.self.view_is
    (none_after c.self.inside.book c.self.inside.chunks.items c.self.inside.undoable c.args.number c.requires.number c.self.invariant c.in-Some.entry.now.edit found (ap (request_undoing c.self.inside.book.opening (entries_of_chunks c.self.inside.chunks.items) seen) c.in-Cut.is))

pub returns-in-Ok-clause-within : goal.returns-in-Ok-clause-within
returns-in-Ok-clause-within g c =
    within_view c.self.view_is c.self.inside.book c.self.inside.undoable c.args.number _ c.self.invariant refl (returns-in-Ok-clause-undoes g c)

pub returns-in-Add-clause-within : goal.returns-in-Add-clause-within
returns-in-Add-clause-within g c =
    within_view c.self.view_is c.self.inside.book c.self.inside.undoable c.args.number _ c.self.invariant refl (returns-in-Add-clause-undoes g c)

pub returns-in-Head-clause-undoes : goal.returns-in-Head-clause-undoes
returns-in-Head-clause-undoes g c =
    let seen : ℕ = slice_index_or c.self.inside.undoable c.args.number 0 in
    let found : option_map (λ (x : Entry). x.edit) (entry_at c.self.inside.book.entries seen) ≡ Some c.in-Some.entry.now.edit =
    ap (option_map (λ (x : Entry). x.edit)) (sym (c.in-Some.ensures ∙ ap (λ (j : List Entry). entry_at j seen) c.journal.ensures)) in
    subst (λ (v : GroupView). IsUndoing v.opening (entries_of_chunks v.chunks) (undoable_of_session c.args.number v.chunks) None) c.self.view_is
    (none_after c.self.inside.book c.self.inside.chunks.items c.self.inside.undoable c.args.number c.requires.number c.self.invariant c.in-Some.entry.now.edit found (ap (request_undoing c.self.inside.book.opening (entries_of_chunks c.self.inside.chunks.items) seen) c.in-Head.is))
