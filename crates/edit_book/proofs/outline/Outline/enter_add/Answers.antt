use Rattle.std.proofs.Common.{ℕ, ◌+◌, ◌<◌, ◌++◌, ◌∷◌, [], List, ap, sym, subst, ◌∙◌, length, refl, arith}
use Rattle.std.specs.Prelude.{insert}
use Rattle.edit_journal.specs.declared.edit.Edit.TheVariants as edit
use Rattle.edit_journal.specs.declared.edit.Entry.{Entry}
use Rattle.edit_book.specs.declared.block_state.BlockState.{BlockState}
use Rattle.edit_book.specs.declared.block_state.BlockState.TheVariants.{There}
use Rattle.edit_book.specs.Books.{Each}
use Rattle.edit_book.proofs.Entering.{add_entered, add_within, few_ids, new_id}
use Rattle.edit_book.proofs.KeptHeaders.{keeps_header}
use Rattle.edit_book.proofs.outline.Outline.enter_add.Goals as goal

pub insert-requires-clause-few : goal.insert-requires-clause-few
insert-requires-clause-few c = let few = few_ids _ _ _ _ _ c.args.self.now _ c.self.invariant.0 c.self.view_is c.args.anchor c.args.id c.args.text c.requires.comes in omega (arith, few, ap length c.reserve_one-2.ensures.ids)

pub insert-requires-clause-place : goal.insert-requires-clause-place
insert-requires-clause-place c =
    let within = add_within _ _ _ _ _ c.args.self.now _ c.self.invariant.0 c.self.view_is c.args.anchor c.args.id c.args.text c.requires.comes c.place_after-at.result c.place_after-at.ensures.place in omega (arith, within, ap length c.reserve_one-2.ensures.ids)

pub insert-requires-clause-beyond : goal.insert-requires-clause-beyond
insert-requires-clause-beyond c =
    subst (Each (λ (k : ℕ). k < c.args.id)) (sym c.reserve_one-2.ensures.ids) (new_id _ _ _ _ _ c.args.self.now _ c.self.invariant.0 c.self.view_is c.args.anchor c.args.id c.args.text c.requires.comes)

pub invariant_of-self-2 : goal.invariant_of-self-2
invariant_of-self-2 c =
    let longer = c.push.ensures ∙ ap (λ (l : List Entry). l ++ record { session = c.args.session; edit = edit.Add c.args.anchor c.args.id c.args.text } ∷ []) c.reserve_one.ensures.entries in
    let later = c.push_reserved.ensures.items ∙ ap (λ (l : List BlockState). l ++ There (c.version-version.result + 1) ∷ []) c.reserve.ensures.items in
    let left = c.insert.ensures ∙ ap (λ (l : List ℕ). insert l c.place_after-at.result c.args.id) c.reserve_one-2.ensures.ids in (
      add_entered _ _ _ _ _ c.args.self.now _ c.self.invariant.0 c.self.view_is c.args.anchor c.args.id c.args.text c.requires.comes c.place_after-at.result c.place_after-at.ensures.place c.args.session c.version-version.result _ _ _ _ c.requires.short
          c.version-version.ensures.version (ap (λ (n : ℕ). c.self.inside.lines + n) c.len.ensures.len) longer later left,
      keeps_header _ _ _ refl _ _ _ longer c.self.invariant.1,
    )

pub returns-clause-lawful : goal.returns-clause-lawful
returns-clause-lawful c =
    let longer = c.push.ensures ∙ ap (λ (l : List Entry). l ++ record { session = c.args.session; edit = edit.Add c.args.anchor c.args.id c.args.text } ∷ []) c.reserve_one.ensures.entries in
    let later = c.push_reserved.ensures.items ∙ ap (λ (l : List BlockState). l ++ There (c.version-version.result + 1) ∷ []) c.reserve.ensures.items in
    let left = c.insert.ensures ∙ ap (λ (l : List ℕ). insert l c.place_after-at.result c.args.id) c.reserve_one-2.ensures.ids in
    (add_entered _ _ _ _ _ c.args.self.now _ c.self.invariant.0 c.self.view_is c.args.anchor c.args.id c.args.text c.requires.comes c.place_after-at.result c.place_after-at.ensures.place c.args.session c.version-version.result _ _ _ _ c.requires.short
    c.version-version.ensures.version (ap (λ (n : ℕ). c.self.inside.lines + n) c.len.ensures.len) longer later left).lawful
