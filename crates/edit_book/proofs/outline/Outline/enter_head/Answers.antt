use Rattle.std.proofs.Common.{◌≡◌, ℕ, ◌+◌, ◌++◌, ◌∷◌, [], List, ap, ◌∙◌}
use Rattle.edit_journal.specs.declared.edit.Entry.{Entry}
use Rattle.edit_journal.specs.declared.edit.Edit.TheVariants as edit
use Rattle.edit_book.specs.declared.header.Header.{Header}
use Rattle.edit_book.proofs.Entering.{head_entered}
use Rattle.edit_book.proofs.HeaderPuts.{head_kept}
use Rattle.edit_book.proofs.outline.Outline.enter_head.Goals as goal

pub invariant_of-self-2 : goal.invariant_of-self-2
invariant_of-self-2 c =
    let longer = c.push.ensures ∙ ap (λ (l : List Entry). l ++ record { session = c.args.session; edit = edit.Head c.args.seen c.args.declared } ∷ []) c.reserve_one.ensures.entries in
    let had : c.deref_mut-2.result.now.entries.items ≡ c.self.inside.header.value.entries.items =
    ap (λ (h : Header). h.entries.items) c.deref_mut-2.ensures.value ∙ c.reserve.ensures.items ∙ ap (λ (h : Header). h.entries.items) c.deref_mut.ensures.value in
    let numbers : c.deref_mut-3.result.now.entries.items ≡ c.self.inside.header.value.entries.items ++ (c.version-version.result + 1) ∷ [] =
    ap (λ (h : Header). h.entries.items) c.deref_mut-3.ensures.value ∙ c.push_reserved.ensures.items ∙ ap (λ (l : List ℕ). l ++ (c.version-version.result + 1) ∷ []) had in (
      head_entered _ _ _ _ _ c.args.self.now _ c.self.invariant.0 c.self.view_is c.args.session c.args.seen c.args.declared _ c.requires c.len-carriers.ensures.few longer,
      head_kept _ _ c.args.session c.args.seen c.args.declared c.args.self.now _ _ c.version-version.result c.self.inside.header.value _ _ c.self.view_is c.self.invariant.1
          c.version-version.ensures.version longer c.in_ok-setting.ensures numbers,
    )

pub returns-clause-lawful : goal.returns-clause-lawful
returns-clause-lawful c =
    let longer = c.push.ensures ∙ ap (λ (l : List Entry). l ++ record { session = c.args.session; edit = edit.Head c.args.seen c.args.declared } ∷ []) c.reserve_one.ensures.entries in
    (head_entered _ _ _ _ _ c.args.self.now _ c.self.invariant.0 c.self.view_is c.args.session c.args.seen c.args.declared _ c.requires c.len-carriers.ensures.few longer).lawful
