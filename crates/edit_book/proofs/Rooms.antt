-- Room that is there, or that was made.
use Rattle.std.proofs.Common.{◌≡◌, ℕ, ◌+◌, Bool, true, false, List, [], ◌∷◌, ◌++◌, length, Option, Some, None, IfSome, position, Result, Ok, Err, OnOk, OnErr, IsOk, sym, subst, refl, ◌∙◌, ap, arith, length-append}
use Rattle.std.specs.Result.{is_err}
use Rattle.edit_journal.specs.declared.edit.Entry.{Entry}
use Rattle.edit_journal.specs.declared.opening.Opening.{Opening}
use Rattle.edit_journal.specs.Documents.{document_of}
use Rattle.face_data.specs.Summaries.{Summary}
use Rattle.edit_book.specs.Books.{BookView, HasMoreRoom, IsReadyToPut, ids_of}
use Rattle.edit_book.specs.Orders.{is_id}
use Rattle.summary_tree.specs.Trees.{CanReplace, IsSameTree, Meets, NeedView, TreeView}
use Rattle.summary_tree.proofs.Needs.{replace_met}

-- what holds where a call succeeds
pub ok_holds : {A E : Type 0} (r : Result A E) (P : Type 0) → is_err r ≡ false → OnOk r P → P
ok_holds (Ok x) P is h = h
ok_holds (Err e) P is h = absurd (cc)

pub not_failed : {A E : Type 0} (r : Result A E) → is_err r ≡ true → IsOk r → ⊥
not_failed (Ok x) is h = absurd (cc)
not_failed (Err e) is h = absurd (cc)

-- and where it fails
pub err_holds : {A E : Type 0} (r : Result A E) (P : Type 0) → is_err r ≡ true → OnErr r P → P
err_holds (Ok x) P is h = absurd (cc)
err_holds (Err e) P is h = h

pub same_tree : (tree : TreeView) → IsSameTree tree tree
same_tree tree = record {
  leaves = refl;
  laid = record { shape = record { tree = refl; leaf_numbers = refl; inner_numbers = refl }; leaf = λ n. refl; node = λ n. refl };
}

-- what a book has that is ready for a put
pub ready_at : (o : Opening) (es : List Entry) (id at : ℕ) (v : BookView) (room : Bool) (tree : TreeView) (summary : Summary)
    → record { opening = o; entries = es; journal_room = room; tree = tree } ≡ v → position (is_id id) (ids_of (document_of o es).blocks) ≡ Some at → IsReadyToPut v id summary
    → (room ≡ true) × CanReplace tree at summary
ready_at o es id at v room tree summary view place ready =
    let here = subst (λ (w : BookView). IsReadyToPut w id summary) (sym view) ready in
    subst (λ (p : Option ℕ). IfSome p (λ at. (room ≡ true) × CanReplace tree at summary)) place here

-- and when it is
pub ready_by : (o : Opening) (es : List Entry) (id at : ℕ) (v : BookView) (room : Bool) (tree : TreeView) (summary : Summary)
    → record { opening = o; entries = es; journal_room = room; tree = tree } ≡ v → position (is_id id) (ids_of (document_of o es).blocks) ≡ Some at → room ≡ true → CanReplace tree at summary
    → IsReadyToPut v id summary
ready_by o es id at v room tree summary view place enough can =
    subst (λ (w : BookView). IsReadyToPut w id summary) view
    (subst (λ (p : Option ℕ). IfSome p (λ at. (room ≡ true) × CanReplace tree at summary)) (sym place) (enough, can))

-- a tree that has the room that another has, and is the same but for that, is ready for what the other is
can_replace : (old new : TreeView) (at : ℕ) (summary : Summary) → IsSameTree old new → ((need : NeedView) → Meets old need → Meets new need) → CanReplace old at summary → CanReplace new at summary
can_replace old new at summary same keeps can =
    let need : NeedView = record { rooms = can.rooms; leaf = false } in
    (replace_met old at need summary can.need refl new same).0 (keeps need (record { rooms = can.met; leaf = λ h. absurd (cc) }))

-- a book keeps all
pub kept_all : (v : BookView) → HasMoreRoom v v
kept_all v = record { tree = same_tree v.tree; ready = λ id summary h. h }

-- What a book keeps whose tree was lent and has more room now, and that has no less room for an entry.
pub kept_more : (o p : Opening) (es fs : List Entry) (room more : Bool) (tree lent other : TreeView) (v w : BookView) → record { opening = o; entries = es; journal_room = room; tree = tree } ≡ v → record { opening = p; entries = fs; journal_room = more; tree = other } ≡ w
    → p ≡ o → fs ≡ es → (room ≡ true → more ≡ true) → lent ≡ tree → IsSameTree lent other → ((need : NeedView) → Meets lent need → Meets other need) → HasMoreRoom v w
kept_more o p es fs room more tree lent other v w view now opening entries enough is same_lent keeps_lent =
    let same : IsSameTree tree other = subst (λ (t : TreeView). IsSameTree t other) is same_lent in
    let keeps : (need : NeedView) → Meets tree need → Meets other need = subst (λ (t : TreeView). (need : NeedView) → Meets t need → Meets other need) is keeps_lent in
    subst (λ (x : BookView). HasMoreRoom x w) view (subst (λ (x : BookView). HasMoreRoom (record { opening = o; entries = es; journal_room = room; tree = tree }) x) now (record {
      tree = same;
      ready = λ id summary h.
          subst (λ (p : Opening × List Entry). IfSome (position (is_id id) (ids_of (document_of p.0 p.1).blocks)) (λ at. (more ≡ true) × CanReplace other at summary)) (λ i. (sym opening i, sym entries i))
          (some_weaker (position (is_id id) (ids_of (document_of o es).blocks)) (λ at. (room ≡ true) × CanReplace tree at summary) (λ at. (more ≡ true) × CanReplace other at summary)
          (λ at k. (enough k.0, can_replace tree other at summary same keeps k.1)) h);
    }))
  where
    some_weaker : (x : Option ℕ) (P Q : ℕ → Type 0) → ((at : ℕ) → P at → Q at) → IfSome x P → IfSome x Q
    some_weaker None P Q f h = h
    some_weaker (Some at) P Q f h = f at h

-- a journal that got an entry isn't the one before
pub no_longer : (es longer : List Entry) (e : Entry) → longer ≡ es ++ e ∷ [] → longer ≡ es → ⊥
no_longer es longer e is same = let more : length (es ++ e ∷ []) ≡ length es + 1 = length-append es (e ∷ []) in absurd (omega (arith, more, ap length (sym is ∙ same)))
