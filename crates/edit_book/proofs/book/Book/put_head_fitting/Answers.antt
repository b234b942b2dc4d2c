use Rattle.std.proofs.Common.{◌≡◌, ◌++◌, ◌∷◌, [], List, ap, inl, sym, subst, ◌∙◌, arith, refl}
use Rattle.edit_journal.specs.declared.edit.Edit.TheVariants as edit
use Rattle.edit_journal.specs.declared.edit.Entry.{Entry}
use Rattle.edit_journal.specs.declared.opening.Opening.{Opening}
use Rattle.edit_book.specs.Books.{BookView, AreLawfulLeaves, IsLawfulOutline}
use Rattle.edit_book.proofs.Boxes.{root_of}
use Rattle.edit_book.proofs.Trees.{root_fits, root_good}
use Rattle.edit_journal.specs.Entries.{head_id}
use Rattle.edit_book.specs.Replies.{PutHead}
use Rattle.edit_book.proofs.HeaderPuts.{head_comes, head_made}
use Rattle.edit_book.proofs.Made.{turn_made}
use Rattle.edit_book.proofs.Rooms.{err_holds, kept_more, ok_holds, no_longer, same_tree}
use Rattle.edit_book.proofs.book.Book.put_head_fitting.Goals as goal
use Rattle.edit_book.proofs.book.Book.put_head_fitting.Goals.{After-first}

pub enter_head-requires : goal.enter_head-requires
enter_head-requires c = head_comes _ _ c.args.session c.args.seen c.args.declared c.args.self.now _ _ c.self.invariant c.self.view_is c.requires.free

pub invariant_of-self : goal.invariant_of-self
invariant_of-self c =
    let same = err_holds c.enter_head.result _ (sym c.is_err.ensures.value ∙ c.if-is_err.true) c.enter_head.ensures.err in
    subst (λ (p : Opening × List Entry). AreLawfulLeaves p.0 p.1 c.self.inside.tree.value.leaves) (λ i. (sym c.enter_head.ensures.opening i, sym same i)) c.self.invariant

pub returns-then-is_err-clause-turned : goal.returns-then-is_err-clause-turned
returns-then-is_err-clause-turned c =
    let same = err_holds c.enter_head.result _ (sym c.is_err.ensures.value ∙ c.if-is_err.true) c.enter_head.ensures.err in
    inl (refl, same ∙ ap (λ (w : BookView). w.entries) c.self.view_is)

-- the entry stands behind the others
longer : (c : After-first) → c.enter_head.new.self.entries ≡ c.self.inside.outline.entries ++ record { session = c.args.session; edit = edit.Head c.args.seen c.args.declared } ∷ []
longer c = (ok_holds c.enter_head.result _ (sym c.is_err.ensures.value ∙ c.if-is_err.false) c.enter_head.ensures.ok)

-- what is kept then is lawful
keeps : (c : After-first) → AreLawfulLeaves c.self.inside.outline.opening c.enter_head.new.self.entries c.args.tree.leaves
keeps c =
    head_made _ _ c.args.session c.args.seen c.args.declared c.args.self.now _ _ c.self.invariant c.self.view_is c.requires.free _ c.args.tree.leaves (longer c)
    (subst (λ (o : Opening). IsLawfulOutline o c.enter_head.new.self.entries) c.enter_head.ensures.opening c.enter_head.ensures.lawful) c.requires.leaves

first_is : (c : After-first) → c.first.result ≡ c.self.inside.outline.opening.setting.first
first_is c = c.first.ensures ∙ ap (λ (o : Opening). o.setting.first) c.enter_head.ensures.opening

pub brief_of-brief-requires-clause-good : goal.brief_of-brief-requires-clause-good
brief_of-brief-requires-clause-good c = root_good _ _ _ _ (keeps (goal.at.brief_of-brief-requires-clause-good c).After-first) (root_of _ _ c.deref.ensures _ c.root.ensures)

pub brief_of-brief-requires-clause-lines : goal.brief_of-brief-requires-clause-lines
brief_of-brief-requires-clause-lines c =
    let here = (goal.at.brief_of-brief-requires-clause-lines c).After-first in
    let fits = root_fits _ _ _ _ (keeps here) (root_of _ _ c.deref.ensures _ c.root.ensures) in
    omega (arith, fits, first_is here)

pub invariant_of-self-2 : goal.invariant_of-self-2
invariant_of-self-2 c =
    subst (λ (o : Opening). AreLawfulLeaves o c.enter_head.new.self.entries c.args.tree.leaves) (sym c.enter_head.ensures.opening) (keeps (goal.at.invariant_of-self-2 c).After-first)

pub returns-clause-turned : goal.returns-clause-turned
returns-clause-turned c =
    let here = (goal.at.returns-clause-turned c).After-first in
    turn_made _ _ c.args.session head_id c.version-version.result (PutHead c.args.seen c.args.declared) (edit.Head c.args.seen c.args.declared) c.args.self.now _ _ _ _ _ _ c.first.result c.self.view_is c.requires.free refl
    c.version-version.ensures.version (longer here) (keeps here) (root_of _ _ c.deref.ensures _ c.root.ensures) (first_is here) c.brief_of-brief.ensures (λ r h. h)

pub returns-then-is_err-clause-kept : goal.returns-then-is_err-clause-kept
returns-then-is_err-clause-kept c = λ stays.
    let err = sym c.is_err.ensures.value ∙ c.if-is_err.true in
    kept_more _ _ _ _ _ _ _ _ _ _ _ c.self.view_is refl c.enter_head.ensures.opening (err_holds c.enter_head.result _ err c.enter_head.ensures.err) (err_holds c.enter_head.result _ err c.enter_head.ensures.room) refl
    (same_tree c.self.inside.tree.value) (λ need met. met)

pub returns-clause-kept : goal.returns-clause-kept
returns-clause-kept c = λ stays. absurd (no_longer _ _ _ (longer (goal.at.returns-clause-kept c).After-first) (stays ∙ sym (ap (λ (w : BookView). w.entries) c.self.view_is)))
