use Rattle.std.proofs.Common.{◌≡◌, ◌++◌, ◌∷◌, [], ap, sym, subst, ◌∙◌, arith, length, refl}
use Rattle.edit_journal.specs.declared.edit.Edit.TheVariants as edit
use Rattle.edit_journal.specs.declared.opening.Opening.{Opening}
use Rattle.face_data.specs.Summaries.{Summary}
use Rattle.edit_book.specs.Books.{BookView, AreLawfulLeaves, IsLawfulOutline}
use Rattle.edit_book.proofs.Boxes.{count_of, leaves_again, root_of}
use Rattle.edit_book.proofs.Trees.{root_fits, root_good}
use Rattle.edit_book.specs.Replies.{Add}
use Rattle.edit_book.proofs.Added.{add_anchored, add_comes, add_fits, add_granted, add_is_short, add_made, add_sound, add_work}
use Rattle.edit_book.proofs.Made.{turn_made}
use Rattle.edit_book.proofs.Rooms.{err_holds, kept_more, ok_holds, no_longer}
use Rattle.summary_tree.specs.Trees.{CanInsert, IsSameTree, TreeView}
use Rattle.edit_book.proofs.book.Book.add_fitting.Given.{Over}
use Rattle.edit_book.proofs.book.Book.add_fitting.Goals as goal
use Rattle.edit_book.proofs.book.Book.add_fitting.Goals.{After-first}

pub place_after-at-requires : goal.place_after-at-requires
place_after-at-requires g c = add_anchored _ _ c.args.session c.args.id 0 c.args.anchor c.args.head c.args.prepared c.args.self.now _ _ c.self.invariant c.self.view_is c.requires.free c.requires.prepared c.requires.id

pub need_insert-need-requires-clause-place : goal.need_insert-need-requires-clause-place
need_insert-need-requires-clause-place g c =
    let within = (add_fits _ _ c.args.session c.args.id c.place_after-at.result c.args.anchor c.args.head c.args.prepared c.args.self.now _ _ c.self.invariant c.self.view_is c.requires.free c.requires.prepared c.requires.id c.place_after-at.ensures.place).0 in omega (arith, within, count_of _ _ c.deref.ensures)

pub need_insert-need-requires-clause-few : goal.need_insert-need-requires-clause-few
need_insert-need-requires-clause-few g c =
    let few = (add_fits _ _ c.args.session c.args.id c.place_after-at.result c.args.anchor c.args.head c.args.prepared c.args.self.now _ _ c.self.invariant c.self.view_is c.requires.free c.requires.prepared c.requires.id c.place_after-at.ensures.place).1 in omega (arith, few, count_of _ _ c.deref.ensures)

pub enter_add-requires-clause-short : goal.enter_add-requires-clause-short
enter_add-requires-clause-short g c = add_is_short _ _ c.args.session c.args.id c.place_after-at.result c.args.anchor c.args.head c.args.prepared c.args.self.now _ _ c.self.invariant c.self.view_is c.requires.free c.requires.prepared c.requires.id

pub enter_add-requires-clause-comes : goal.enter_add-requires-clause-comes
enter_add-requires-clause-comes g c = add_comes _ _ c.args.session c.args.id c.place_after-at.result c.args.anchor c.args.head c.args.prepared c.args.self.now _ _ c.self.invariant c.self.view_is c.requires.free c.requires.prepared c.requires.id

pub insert-requires-clause-place : goal.insert-requires-clause-place
insert-requires-clause-place g c =
    let within = (add_fits _ _ c.args.session c.args.id c.place_after-at.result c.args.anchor c.args.head c.args.prepared c.args.self.now _ _ c.self.invariant c.self.view_is c.requires.free c.requires.prepared c.requires.id c.place_after-at.ensures.place).0 in
    omega (arith, within, ap length (leaves_again _ _ _ _ c.deref_mut.ensures.value c.reserve.ensures.same c.deref_mut-2.ensures.value))

pub insert-requires-clause-room : goal.insert-requires-clause-room
insert-requires-clause-room g c =
    let met = ok_holds c.reserve.result _ (sym c.is_err.ensures.value ∙ c.if-is_err.false) c.reserve.ensures.ok in
    let same = subst (λ (t : TreeView). IsSameTree t c.reserve.new.self) (c.deref_mut.ensures.value ∙ sym c.deref.ensures) c.reserve.ensures.same in
    subst (λ (p : TreeView × Summary). CanInsert p.0 c.place_after-at.result p.1) (λ i. (sym c.deref_mut-2.ensures.value i, (c.view.ensures.summary ∙ sym c.view-2.ensures.summary) i))
    ((c.need_insert-need.ensures c.reserve.new.self same).0 met)

pub insert-requires-clause-sound : goal.insert-requires-clause-sound
insert-requires-clause-sound g c =
    add_sound _ _ c.args.session c.args.id c.place_after-at.result c.args.anchor c.args.head c.args.prepared c.args.self.now _ _ c.self.invariant c.self.view_is c.requires.free c.requires.prepared c.requires.id c.place_after-at.ensures.place _ (ok_holds c.enter_add.result _ (sym c.is_err-2.ensures.value ∙ c.if-is_err-2.false) c.enter_add.ensures.ok)
    (subst (λ (o : Opening). IsLawfulOutline o c.enter_add.new.self.entries) c.enter_add.ensures.opening c.enter_add.ensures.lawful) _ _ (leaves_again _ _ _ _ c.deref_mut.ensures.value c.reserve.ensures.same c.deref_mut-2.ensures.value) c.view-2.ensures.summary

-- the entry stands behind the others
longer : (g : Over) (c : After-first g) → c.enter_add.new.self.entries ≡ c.self.inside.outline.entries ++ record { session = c.args.session; edit = edit.Add c.args.anchor c.args.id c.args.prepared.text } ∷ []
longer g c = (ok_holds c.enter_add.result _ (sym c.is_err-2.ensures.value ∙ c.if-is_err-2.false) c.enter_add.ensures.ok)

-- what is kept then is lawful
keeps : (g : Over) (c : After-first g) → AreLawfulLeaves c.self.inside.outline.opening c.enter_add.new.self.entries c.insert.new.self.leaves
keeps g c =
    add_made _ _ c.args.session c.args.id c.place_after-at.result c.args.anchor c.args.head c.args.prepared c.args.self.now _ _ c.self.invariant c.self.view_is c.requires.free c.requires.prepared c.requires.id c.place_after-at.ensures.place _ (longer g c)
    (subst (λ (o : Opening). IsLawfulOutline o c.enter_add.new.self.entries) c.enter_add.ensures.opening c.enter_add.ensures.lawful) _ _ (leaves_again _ _ _ _ c.deref_mut.ensures.value c.reserve.ensures.same c.deref_mut-2.ensures.value) c.view-2.ensures.summary _ c.insert.ensures.leaves

first_is : (g : Over) (c : After-first g) → c.first.result ≡ c.self.inside.outline.opening.setting.first
first_is g c = c.first.ensures ∙ ap (λ (o : Opening). o.setting.first) c.enter_add.ensures.opening

pub brief_of-brief-requires-clause-good : goal.brief_of-brief-requires-clause-good
brief_of-brief-requires-clause-good g c = root_good _ _ _ _ (keeps g (goal.at.brief_of-brief-requires-clause-good g c).After-first) (root_of _ _ c.deref-2.ensures _ c.root.ensures)

pub brief_of-brief-requires-clause-lines : goal.brief_of-brief-requires-clause-lines
brief_of-brief-requires-clause-lines g c =
    let here = (goal.at.brief_of-brief-requires-clause-lines g c).After-first in
    let fits = root_fits _ _ _ _ (keeps g here) (root_of _ _ c.deref-2.ensures _ c.root.ensures) in
    omega (arith, fits, first_is g here)

pub invariant_of-self-2 : goal.invariant_of-self-2
invariant_of-self-2 g c =
    subst (λ (o : Opening). AreLawfulLeaves o c.enter_add.new.self.entries c.insert.new.self.leaves) (sym c.enter_add.ensures.opening) (keeps g (goal.at.invariant_of-self-2 g c).After-first)

pub returns-clause-turned : goal.returns-clause-turned
returns-clause-turned g c =
    let here = (goal.at.returns-clause-turned g c).After-first in
    turn_made _ _ c.args.session c.args.id c.version-version.result (Add c.args.anchor c.args.head c.args.prepared.text) (edit.Add c.args.anchor c.args.id c.args.prepared.text) c.args.self.now _ _ _ _ _ _ c.first.result c.self.view_is c.requires.free refl
    c.version-version.ensures.version (longer g here) (keeps g here) (root_of _ _ c.deref-2.ensures _ c.root.ensures) (first_is g here) c.brief_of-brief.ensures (add_granted _ _ c.args.session c.args.id c.place_after-at.result c.args.anchor c.args.head c.args.prepared c.args.self.now _ _ c.self.invariant c.self.view_is c.requires.free c.requires.prepared c.requires.id)

pub returns-clause-steps : goal.returns-clause-steps
returns-clause-steps g c =
    let here = (goal.at.returns-clause-steps g c).After-first in
    add_work _ _ c.args.session c.args.id c.place_after-at.result c.args.anchor c.args.head c.args.prepared c.args.self.now _ _ c.self.invariant c.self.view_is c.requires.free c.requires.prepared c.requires.id c.place_after-at.ensures.place _ (longer g here)
    (subst (λ (o : Opening). IsLawfulOutline o c.enter_add.new.self.entries) c.enter_add.ensures.opening c.enter_add.ensures.lawful) _ _ (leaves_again _ _ _ _ c.deref_mut.ensures.value c.reserve.ensures.same c.deref_mut-2.ensures.value) c.view-2.ensures.summary _ c.args.steps.now c.insert.new.steps c.insert.ensures.leaves c.insert.ensures.steps

pub returns-then-is_err-clause-kept : goal.returns-then-is_err-clause-kept
returns-then-is_err-clause-kept g c = λ stays. kept_more _ _ _ _ _ _ _ _ _ _ _ c.self.view_is refl refl refl (λ h. h) c.deref_mut.ensures.value c.reserve.ensures.same c.reserve.ensures.keeps

pub returns-then-is_err-2-clause-kept : goal.returns-then-is_err-2-clause-kept
returns-then-is_err-2-clause-kept g c = λ stays.
    let err = sym c.is_err-2.ensures.value ∙ c.if-is_err-2.true in
    kept_more _ _ _ _ _ _ _ _ _ _ _ c.self.view_is refl c.enter_add.ensures.opening (err_holds c.enter_add.result _ err c.enter_add.ensures.err) (err_holds c.enter_add.result _ err c.enter_add.ensures.room) c.deref_mut.ensures.value
    c.reserve.ensures.same c.reserve.ensures.keeps

pub returns-clause-kept : goal.returns-clause-kept
returns-clause-kept g c = λ stays. absurd (no_longer _ _ _ (longer g (goal.at.returns-clause-kept g c).After-first) (stays ∙ sym (ap (λ (w : BookView). w.entries) c.self.view_is)))
