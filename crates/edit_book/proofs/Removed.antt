-- A cut that nothing refuses: what the book then keeps.
use Rattle.std.proofs.Common.{◌≡◌, ℕ, ◌+◌, ◌≤◌, Bool, List, [], ◌∷◌, ◌++◌, length, position, Some, None, sym, subst, ap, ◌∙◌, refl}
use Rattle.std.specs.Prelude.{remove}
use Rattle.knit_base.specs.declared.needle.Needle.{Needle}
use Rattle.knit_base.specs.declared.setting.Setting.{Setting}
use Rattle.face_data.specs.Items.{most_items}
use Rattle.tree_shape.specs.Fewest.{list_removed}
use Rattle.edit_journal.specs.declared.edit.Edit.TheVariants as edit
use Rattle.edit_journal.specs.declared.edit.Entry.{Entry}
use Rattle.edit_journal.specs.declared.opening.Opening.{Opening}
use Rattle.edit_journal.specs.Documents.{Document, body, document_of}
use Rattle.edit_book.specs.Books.{BookView, HasLeaves, AreLawfulLeaves, IsLawfulOutline, IsLeafOf, document, ids_of}
use Rattle.edit_book.specs.Orders.{is_id}
use Rattle.edit_book.specs.Outlines.{MayCome}
use Rattle.edit_book.specs.Replies.{Cut, refusal_of}
use Rattle.edit_book.specs.Verdicts.{setting_of}
use Rattle.edit_book.specs.Work.{needles_in, work_limit}
use Rattle.edit_book.proofs.Blocks.{with_leaves}
use Rattle.edit_book.proofs.Comings.{cut_may}
use Rattle.edit_book.proofs.Cuts.{cut_free, cut_items, removed_is}
use Rattle.edit_book.proofs.Puts.{has_place, named_there}
use Rattle.edit_book.proofs.Trees.{leaf_each}
use Rattle.edit_book.proofs.Work.{KnowsLine, cut_lines, edit_work, lines_known}
use Rattle.summary_tree.specs.Leaves.{AreGoodFor, Leaf}
use Rattle.summary_tree.specs.Trees.{TreeView, change_steps}

module _ (o : Opening) (es : List Entry) (session id seen : ℕ) (v : BookView) (room : Bool) (tree : TreeView)
    (s : AreLawfulLeaves o es tree.leaves) (view : record { opening = o; entries = es; journal_room = room; tree = tree } ≡ v)
    (free : refusal_of (document v) v.entries (Cut id seen) ≡ None) where
  cut_free_here : refusal_of (document_of o es) es (Cut id seen) ≡ None
  cut_free_here = subst (λ (w : BookView). refusal_of (document w) w.entries (Cut id seen) ≡ None) (sym view) free

  pub cut_unplaced : position (is_id id) (ids_of (document_of o es).blocks) ≡ None → ⊥
  cut_unplaced none =
      let b = named_there (document_of o es) es id (cut_free (document_of o es) es id seen cut_free_here).0 in
      has_place (document_of o es).blocks id b.0 (ids_of (document_of o es).blocks) b.1 refl none

  pub cut_comes : MayCome o es (edit.Cut id seen)
  cut_comes = cut_may o es s.fits id seen cut_free_here

  module _ (at : ℕ) (place : position (is_id id) (ids_of (document_of o es).blocks) ≡ Some at) (longer : List Entry) (longer_is : longer ≡ es ++ record { session = session; edit = edit.Cut id seen } ∷ [])
      (outlined : IsLawfulOutline o longer) (leaves now : List Leaf) (leaves_are : leaves ≡ tree.leaves) (now_is : now ≡ list_removed at leaves) where
    pub cut_made : AreLawfulLeaves o longer now
    cut_made =
        let all : remove tree.leaves at ≡ now = ap (λ (l : List Leaf). remove l at) (sym leaves_are) ∙ sym (removed_is at leaves) ∙ sym now_is in
        subst (AreLawfulLeaves o longer) all
        (with_leaves o longer (remove tree.leaves at) outlined
        (subst (λ (l : List Entry). HasLeaves o (document_of o l) (remove tree.leaves at)) (sym longer_is) (cut_items IsLeafOf o es tree.leaves session id seen at s.leaves_are place)))

    pub cut_work : (before later : ℕ) → ((carriers limit : ℕ) (known : List Needle) → AreGoodFor carriers limit known now → later ≤ before + change_steps (length leaves) (most_items carriers limit (length known)))
        → later ≤ before + work_limit v.opening v.entries (Cut id seen)
    cut_work before later steps =
        let d : Document = document_of o es in
        let setting : Setting = setting_of o d in
        let P : List ℕ → Type 0 = KnowsLine setting (needles_in setting (body d)) in
        let count : length leaves ≡ length d.blocks = ap length leaves_are ∙ leaf_each o es tree.leaves s in
        edit_work o es session (length leaves) (length d.blocks) before later (Cut id seen) (edit.Cut id seen) (body d) v room tree longer now view longer_is refl cut_made refl count
        (cut_lines P d.blocks id (lines_known setting (body d))) steps
