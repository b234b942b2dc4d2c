use Rattle.std.proofs.Common.{◌≡◌, ◌++◌, ◌∷◌, [], ap, sym, subst, ◌∙◌, arith, length, refl}
use Rattle.edit_journal.specs.declared.edit.Edit.TheVariants as edit
use Rattle.edit_journal.specs.declared.opening.Opening.{Opening}
use Rattle.edit_book.specs.Books.{BookView, AreLawfulLeaves, IsLawfulOutline}
use Rattle.edit_book.proofs.Boxes.{count_of, leaves_again, root_of}
use Rattle.edit_book.proofs.Trees.{root_fits, root_good}
use Rattle.edit_book.specs.Replies.{Cut}
use Rattle.edit_book.proofs.Made.{at_fits, turn_made}
use Rattle.edit_book.proofs.Removed.{cut_comes, cut_made, cut_unplaced, cut_work}
use Rattle.edit_book.proofs.Rooms.{err_holds, kept_more, ok_holds, no_longer}
use Rattle.summary_tree.specs.Trees.{CanRemove, IsSameTree, TreeView}
use Rattle.edit_book.proofs.book.Book.cut_fitting.Given.{Over}
use Rattle.edit_book.proofs.book.Book.cut_fitting.Goals as goal
use Rattle.edit_book.proofs.book.Book.cut_fitting.Goals.{After-first}

pub unreachable-requires : goal.unreachable-requires
unreachable-requires g c = cut_unplaced _ _ c.args.session c.args.id c.args.seen c.args.self.now _ _ c.self.invariant c.self.view_is c.requires (sym c.place.ensures ∙ c.in_default.is)

pub overflow_cast-at : goal.overflow_cast-at
overflow_cast-at g c = let small = (at_fits _ _ _ _ _ c.self.invariant (sym c.place.ensures ∙ c.in-Some.is)).1 in omega (arith, small)

pub need_remove-need-requires : goal.need_remove-need-requires
need_remove-need-requires g c =
    let within = (at_fits _ _ _ _ _ c.self.invariant (sym c.place.ensures ∙ c.in-Some.is)).0 in
    omega (arith, within, count_of _ _ c.deref.ensures)

pub enter_cut-requires : goal.enter_cut-requires
enter_cut-requires g c = cut_comes _ _ c.args.session c.args.id c.args.seen c.args.self.now _ _ c.self.invariant c.self.view_is c.requires

pub remove-requires-clause-place : goal.remove-requires-clause-place
remove-requires-clause-place g c =
    let small = (at_fits _ _ _ _ _ c.self.invariant (sym c.place.ensures ∙ c.in-Some.is)).0 in
    omega (arith, small, ap length (leaves_again _ _ _ _ c.deref_mut.ensures.value c.reserve.ensures.same c.deref_mut-2.ensures.value))

pub remove-requires-clause-room : goal.remove-requires-clause-room
remove-requires-clause-room g c =
    let met = ok_holds c.reserve.result _ (sym c.is_err.ensures.value ∙ c.if-is_err.false) c.reserve.ensures.ok in
    let same = subst (λ (t : TreeView). IsSameTree t c.reserve.new.self) (c.deref_mut.ensures.value ∙ sym c.deref.ensures) c.reserve.ensures.same in
    subst (λ (t : TreeView). CanRemove t c.in-Some.at) (sym c.deref_mut-2.ensures.value) ((c.need_remove-need.ensures c.reserve.new.self same).0 met)

-- the entry stands behind the others
longer : (g : Over) (c : After-first g) → c.enter_cut.new.self.entries ≡ c.self.inside.outline.entries ++ record { session = c.args.session; edit = edit.Cut c.args.id c.args.seen } ∷ []
longer g c = (ok_holds c.enter_cut.result _ (sym c.is_err-2.ensures.value ∙ c.if-is_err-2.false) c.enter_cut.ensures.ok)

-- what is kept then is lawful
keeps : (g : Over) (c : After-first g) → AreLawfulLeaves c.self.inside.outline.opening c.enter_cut.new.self.entries c.remove.new.self.leaves
keeps g c =
    cut_made _ _ c.args.session c.args.id c.args.seen c.args.self.now _ _ c.self.invariant c.self.view_is c.requires c.in-Some.at (sym c.place.ensures ∙ c.in-Some.is) _ (longer g c)
    (subst (λ (o : Opening). IsLawfulOutline o c.enter_cut.new.self.entries) c.enter_cut.ensures.opening c.enter_cut.ensures.lawful) _ _ (leaves_again _ _ _ _ c.deref_mut.ensures.value c.reserve.ensures.same c.deref_mut-2.ensures.value) c.remove.ensures.leaves

first_is : (g : Over) (c : After-first g) → c.first.result ≡ c.self.inside.outline.opening.setting.first
first_is g c = c.first.ensures ∙ ap (λ (o : Opening). o.setting.first) c.enter_cut.ensures.opening

pub brief_of-brief-requires-clause-good : goal.brief_of-brief-requires-clause-good
brief_of-brief-requires-clause-good g c = root_good _ _ _ _ (keeps g (goal.at.brief_of-brief-requires-clause-good g c).After-first) (root_of _ _ c.deref-2.ensures _ c.root.ensures)

pub brief_of-brief-requires-clause-lines : goal.brief_of-brief-requires-clause-lines
brief_of-brief-requires-clause-lines g c =
    let here = (goal.at.brief_of-brief-requires-clause-lines g c).After-first in
    let fits = root_fits _ _ _ _ (keeps g here) (root_of _ _ c.deref-2.ensures _ c.root.ensures) in
    omega (arith, fits, first_is g here)

pub invariant_of-self-2 : goal.invariant_of-self-2
invariant_of-self-2 g c =
    subst (λ (o : Opening). AreLawfulLeaves o c.enter_cut.new.self.entries c.remove.new.self.leaves) (sym c.enter_cut.ensures.opening) (keeps g (goal.at.invariant_of-self-2 g c).After-first)

pub returns-clause-turned : goal.returns-clause-turned
returns-clause-turned g c =
    let here = (goal.at.returns-clause-turned g c).After-first in
    turn_made _ _ c.args.session c.args.id c.version-version.result (Cut c.args.id c.args.seen) (edit.Cut c.args.id c.args.seen) c.args.self.now _ _ _ _ _ _ c.first.result c.self.view_is c.requires refl
    c.version-version.ensures.version (longer g here) (keeps g here) (root_of _ _ c.deref-2.ensures _ c.root.ensures) (first_is g here) c.brief_of-brief.ensures (λ r h. h)

pub returns-clause-steps : goal.returns-clause-steps
returns-clause-steps g c =
    let here = (goal.at.returns-clause-steps g c).After-first in
    cut_work _ _ c.args.session c.args.id c.args.seen c.args.self.now _ _ c.self.invariant c.self.view_is c.requires c.in-Some.at (sym c.place.ensures ∙ c.in-Some.is) _ (longer g here)
    (subst (λ (o : Opening). IsLawfulOutline o c.enter_cut.new.self.entries) c.enter_cut.ensures.opening c.enter_cut.ensures.lawful) _ _ (leaves_again _ _ _ _ c.deref_mut.ensures.value c.reserve.ensures.same c.deref_mut-2.ensures.value) c.remove.ensures.leaves c.args.steps.now c.remove.new.steps c.remove.ensures.steps

pub returns-then-is_err-clause-kept : goal.returns-then-is_err-clause-kept
returns-then-is_err-clause-kept g c = λ stays. kept_more _ _ _ _ _ _ _ _ _ _ _ c.self.view_is refl refl refl (λ h. h) c.deref_mut.ensures.value c.reserve.ensures.same c.reserve.ensures.keeps

pub returns-then-is_err-2-clause-kept : goal.returns-then-is_err-2-clause-kept
returns-then-is_err-2-clause-kept g c = λ stays.
    let err = sym c.is_err-2.ensures.value ∙ c.if-is_err-2.true in
    kept_more _ _ _ _ _ _ _ _ _ _ _ c.self.view_is refl c.enter_cut.ensures.opening (err_holds c.enter_cut.result _ err c.enter_cut.ensures.err) (err_holds c.enter_cut.result _ err c.enter_cut.ensures.room) c.deref_mut.ensures.value
    c.reserve.ensures.same c.reserve.ensures.keeps

pub returns-clause-kept : goal.returns-clause-kept
returns-clause-kept g c = λ stays. absurd (no_longer _ _ _ (longer g (goal.at.returns-clause-kept g c).After-first) (stays ∙ sym (ap (λ (w : BookView). w.entries) c.self.view_is)))
