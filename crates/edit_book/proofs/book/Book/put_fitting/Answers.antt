use Rattle.std.proofs.Common.{◌≡◌, ◌++◌, ◌∷◌, [], ap, sym, subst, ◌∙◌, arith, length, refl}
use Rattle.edit_journal.specs.declared.edit.Edit.TheVariants as edit
use Rattle.edit_journal.specs.declared.opening.Opening.{Opening}
use Rattle.face_data.specs.Summaries.{Summary}
use Rattle.edit_book.specs.Books.{BookView, AreLawfulLeaves, IsLawfulOutline}
use Rattle.edit_book.proofs.Boxes.{count_of, leaves_again, root_of}
use Rattle.edit_book.proofs.Trees.{root_fits, root_good}
use Rattle.edit_book.specs.Replies.{Put}
use Rattle.edit_book.proofs.Made.{at_fits, put_comes, put_is_short, put_made, put_sound, put_unplaced, put_work, turn_made}
use Rattle.edit_book.proofs.Rooms.{err_holds, kept_more, ok_holds, no_longer}
use Rattle.summary_tree.specs.Trees.{CanReplace, TreeView}
use Rattle.edit_book.proofs.book.Book.put_fitting.Given.{Over}
use Rattle.edit_book.proofs.book.Book.put_fitting.Goals as goal
use Rattle.edit_book.proofs.book.Book.put_fitting.Goals.{After-first}

pub unreachable-requires : goal.unreachable-requires
unreachable-requires g c = put_unplaced _ _ c.args.session c.args.id c.args.seen c.args.head c.args.prepared c.args.self.now _ _ c.self.invariant c.self.view_is c.requires.free (sym c.place.ensures ∙ c.in_default.is)

pub overflow_cast-at : goal.overflow_cast-at
overflow_cast-at g c = let small = (at_fits _ _ _ _ _ c.self.invariant (sym c.place.ensures ∙ c.in-Some.is)).1 in omega (arith, small)

pub reserve_replace-requires-clause-place : goal.reserve_replace-requires-clause-place
reserve_replace-requires-clause-place g c =
    let within = (at_fits _ _ _ _ _ c.self.invariant (sym c.place.ensures ∙ c.in-Some.is)).0 in
    omega (arith, within, count_of _ _ c.deref_mut.ensures.value)

pub enter_put-requires-clause-short : goal.enter_put-requires-clause-short
enter_put-requires-clause-short g c = put_is_short _ _ c.args.session c.args.id c.args.seen c.args.head c.args.prepared c.args.self.now _ _ c.self.invariant c.self.view_is c.requires.free c.requires.prepared

pub enter_put-requires-clause-comes : goal.enter_put-requires-clause-comes
enter_put-requires-clause-comes g c = put_comes _ _ c.args.session c.args.id c.args.seen c.args.head c.args.prepared c.args.self.now _ _ c.self.invariant c.self.view_is c.requires.free

pub replace-requires-clause-place : goal.replace-requires-clause-place
replace-requires-clause-place g c =
    let small = (at_fits _ _ _ _ _ c.self.invariant (sym c.place.ensures ∙ c.in-Some.is)).0 in
    omega (arith, small, ap length (leaves_again _ _ _ _ c.deref_mut.ensures.value c.reserve_replace.ensures.same c.deref_mut-2.ensures.value))

pub replace-requires-clause-room : goal.replace-requires-clause-room
replace-requires-clause-room g c =
    let met = ok_holds c.reserve_replace.result _ (sym c.is_err.ensures.value ∙ c.if-is_err.false) c.reserve_replace.ensures.ok in
    subst (λ (p : TreeView × Summary). CanReplace p.0 c.in-Some.at p.1) (λ i. (sym c.deref_mut-2.ensures.value i, (c.view.ensures.summary ∙ sym c.view-2.ensures.summary) i)) met

pub replace-requires-clause-sound : goal.replace-requires-clause-sound
replace-requires-clause-sound g c =
    put_sound _ _ c.args.session c.args.id c.args.seen c.args.head c.args.prepared c.args.self.now _ _ c.self.invariant c.self.view_is c.requires.free c.requires.prepared c.in-Some.at (sym c.place.ensures ∙ c.in-Some.is) _ (ok_holds c.enter_put.result _ (sym c.is_err-2.ensures.value ∙ c.if-is_err-2.false) c.enter_put.ensures.ok)
    (subst (λ (o : Opening). IsLawfulOutline o c.enter_put.new.self.entries) c.enter_put.ensures.opening c.enter_put.ensures.lawful) _ _ (leaves_again _ _ _ _ c.deref_mut.ensures.value c.reserve_replace.ensures.same c.deref_mut-2.ensures.value) c.view-2.ensures.summary

-- the entry stands behind the others
longer : (g : Over) (c : After-first g) → c.enter_put.new.self.entries ≡ c.self.inside.outline.entries ++ record { session = c.args.session; edit = edit.Put c.args.id c.args.seen c.args.prepared.text } ∷ []
longer g c = (ok_holds c.enter_put.result _ (sym c.is_err-2.ensures.value ∙ c.if-is_err-2.false) c.enter_put.ensures.ok)

-- what is kept then is lawful
keeps : (g : Over) (c : After-first g) → AreLawfulLeaves c.self.inside.outline.opening c.enter_put.new.self.entries c.replace.new.self.leaves
keeps g c =
    put_made _ _ c.args.session c.args.id c.args.seen c.args.head c.args.prepared c.args.self.now _ _ c.self.invariant c.self.view_is c.requires.free c.requires.prepared c.in-Some.at (sym c.place.ensures ∙ c.in-Some.is) _ (longer g c)
    (subst (λ (o : Opening). IsLawfulOutline o c.enter_put.new.self.entries) c.enter_put.ensures.opening c.enter_put.ensures.lawful) _ _ (leaves_again _ _ _ _ c.deref_mut.ensures.value c.reserve_replace.ensures.same c.deref_mut-2.ensures.value) c.view-2.ensures.summary _ c.replace.ensures.leaves

first_is : (g : Over) (c : After-first g) → c.first.result ≡ c.self.inside.outline.opening.setting.first
first_is g c = c.first.ensures ∙ ap (λ (o : Opening). o.setting.first) c.enter_put.ensures.opening

pub brief_of-brief-requires-clause-good : goal.brief_of-brief-requires-clause-good
brief_of-brief-requires-clause-good g c = root_good _ _ _ _ (keeps g (goal.at.brief_of-brief-requires-clause-good g c).After-first) (root_of _ _ c.deref.ensures _ c.root.ensures)

pub brief_of-brief-requires-clause-lines : goal.brief_of-brief-requires-clause-lines
brief_of-brief-requires-clause-lines g c =
    let here = (goal.at.brief_of-brief-requires-clause-lines g c).After-first in
    let fits = root_fits _ _ _ _ (keeps g here) (root_of _ _ c.deref.ensures _ c.root.ensures) in
    omega (arith, fits, first_is g here)

pub invariant_of-self-2 : goal.invariant_of-self-2
invariant_of-self-2 g c =
    subst (λ (o : Opening). AreLawfulLeaves o c.enter_put.new.self.entries c.replace.new.self.leaves) (sym c.enter_put.ensures.opening) (keeps g (goal.at.invariant_of-self-2 g c).After-first)

pub returns-clause-turned : goal.returns-clause-turned
returns-clause-turned g c =
    let here = (goal.at.returns-clause-turned g c).After-first in
    turn_made _ _ c.args.session c.args.id c.version-version.result (Put c.args.id c.args.seen c.args.head c.args.prepared.text) (edit.Put c.args.id c.args.seen c.args.prepared.text) c.args.self.now _ _ _ _ _ _ c.first.result c.self.view_is c.requires.free refl
    c.version-version.ensures.version (longer g here) (keeps g here) (root_of _ _ c.deref.ensures _ c.root.ensures) (first_is g here) c.brief_of-brief.ensures (λ r h. h)

pub returns-clause-steps : goal.returns-clause-steps
returns-clause-steps g c =
    let here = (goal.at.returns-clause-steps g c).After-first in
    put_work _ _ c.args.session c.args.id c.args.seen c.args.head c.args.prepared c.args.self.now _ _ c.self.invariant c.self.view_is c.requires.free c.requires.prepared c.in-Some.at (sym c.place.ensures ∙ c.in-Some.is) _ (longer g here)
    (subst (λ (o : Opening). IsLawfulOutline o c.enter_put.new.self.entries) c.enter_put.ensures.opening c.enter_put.ensures.lawful) _ _ (leaves_again _ _ _ _ c.deref_mut.ensures.value c.reserve_replace.ensures.same c.deref_mut-2.ensures.value) c.view-2.ensures.summary _ c.args.steps.now c.replace.new.steps c.replace.ensures.leaves c.replace.ensures.steps

pub returns-then-is_err-clause-kept : goal.returns-then-is_err-clause-kept
returns-then-is_err-clause-kept g c = λ stays. kept_more _ _ _ _ _ _ _ _ _ _ _ c.self.view_is refl refl refl (λ h. h) c.deref_mut.ensures.value c.reserve_replace.ensures.same c.reserve_replace.ensures.keeps

pub returns-then-is_err-2-clause-kept : goal.returns-then-is_err-2-clause-kept
returns-then-is_err-2-clause-kept g c = λ stays.
    let err = sym c.is_err-2.ensures.value ∙ c.if-is_err-2.true in
    kept_more _ _ _ _ _ _ _ _ _ _ _ c.self.view_is refl c.enter_put.ensures.opening (err_holds c.enter_put.result _ err c.enter_put.ensures.err) (err_holds c.enter_put.result _ err c.enter_put.ensures.room) c.deref_mut.ensures.value
    c.reserve_replace.ensures.same c.reserve_replace.ensures.keeps

pub returns-clause-kept : goal.returns-clause-kept
returns-clause-kept g c = λ stays. absurd (no_longer _ _ _ (longer g (goal.at.returns-clause-kept g c).After-first) (stays ∙ sym (ap (λ (w : BookView). w.entries) c.self.view_is)))
