-- The tree of a copy of a book.
use Rattle.std.proofs.Common.{◌≡◌, ℕ, ◌+◌, ◌*◌, ◌≤◌, List, length, sym, subst}
use Rattle.knit_base.specs.declared.needle.Needle.{Needle}
use Rattle.face_data.specs.Items.{most_items}
use Rattle.edit_book.specs.Books.{BookView, IsLawfulBook, document}
use Rattle.edit_book.specs.Verdicts.{setting_of}
use Rattle.edit_book.specs.Work.{copy_limit}
use Rattle.edit_book.proofs.Trees.{sound_of}
use Rattle.edit_book.proofs.Work.{leaves_work}
use Rattle.summary_tree.specs.Leaves.{AreGoodFor, AreSound, Leaf}

module _ (v : BookView) (lawful : IsLawfulBook v) (leaves : List Leaf) (same : leaves ≡ v.tree.leaves) where
  -- the same leaves may stand in one tree
  pub copied_sound : AreSound leaves
  copied_sound = subst AreSound (sym same) (sound_of v.opening v.entries v.tree.leaves lawful)

  -- which takes no more steps than a copy may
  pub copied_work : (before now : ℕ) → ((carriers limit : ℕ) (known : List Needle) → AreGoodFor carriers limit known leaves → now ≤ before + 3 * most_items carriers limit (length known) * length leaves)
      → now ≤ before + copy_limit (setting_of v.opening (document v)) (document v)
  copied_work before now steps =
      leaves_work (setting_of v.opening (document v)) v.tree.leaves (document v).blocks before now lawful.leaves_are
      (subst (λ (l : List Leaf). (carriers limit : ℕ) (known : List Needle) → AreGoodFor carriers limit known l → now ≤ before + 3 * most_items carriers limit (length known) * length l) same steps)
