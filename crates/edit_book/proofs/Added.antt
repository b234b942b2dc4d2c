-- An add that nothing refuses: what the book then keeps.
use Rattle.std.proofs.Common.{◌≡◌, ℕ, ◌+◌, ◌<◌, ◌≤◌, Bool, List, [], ◌∷◌, ◌++◌, length, position, None, sym, subst, ap, ◌∙◌, refl, arith, length-append, length-drop, take, drop}
use Rattle.std.proofs.lemmas.List.{length-take-le}
use Rattle.std.specs.Prelude.{insert}
use Rattle.edit_journal.specs.declared.edit.Anchor.{Anchor}
use Rattle.edit_journal.specs.declared.edit.Anchor.TheVariants.{After}
use Rattle.edit_journal.specs.declared.edit.Edit.TheVariants as edit
use Rattle.edit_journal.specs.declared.edit.Entry.{Entry}
use Rattle.edit_journal.specs.declared.opening.Opening.{Opening}
use Rattle.edit_journal.specs.Documents.{HasAnchor, document_of, body, Document}
use Rattle.face_data.specs.Summaries.{Summary}
use Rattle.edit_book.specs.declared.block_state.BlockState.{BlockState}
use Rattle.edit_book.specs.Books.{BookView, HasLeaves, AreLawfulLeaves, IsLawfulOutline, IsLeafOf, document, ids_of, OutlineStands}
use Rattle.edit_book.specs.Headers.{IsPreparedUnder}
use Rattle.edit_book.specs.Orders.{is_id, anchor_position}
use Rattle.edit_book.specs.Outlines.{MayCome, OutlineView, outline_document}
use Rattle.edit_book.specs.Replies.{Add, IsAccepted, IsGranted, refusal_of}
use Rattle.edit_book.specs.declared.reply.Reply.{Reply}
use Rattle.edit_book.proofs.Adds.{add_free, add_items, anchor_there, has_anchor, place_within}
use Rattle.edit_book.proofs.Blocks.{with_leaves}
use Rattle.edit_book.proofs.Comings.{add_may}
use Rattle.edit_book.proofs.PreparedTexts.{prepared_now}
use Rattle.edit_book.proofs.Puts.{has_place, count_within_limit}
use Rattle.edit_book.proofs.Trees.{leaf_each, setting_at, sound_of}
use Rattle.edit_book.proofs.Work.{KnowsLine, each_split, edit_work, lines_known, new_lines}
use Rattle.edit_book.specs.Work.{needles_in, work_limit}
use Rattle.knit_base.specs.declared.needle.Needle.{Needle}
use Rattle.face_data.specs.Items.{most_items}
use Rattle.block_summary.specs.Prepared.{IsPreparedFor}
use Rattle.block_summary.specs.declared.prepared.Prepared.{Prepared}
use Rattle.summary_tree.specs.Leaves.{AreGoodFor, AreSound, Leaf}
use Rattle.summary_tree.specs.Trees.{TreeView, change_steps}

-- an anchor that is there has a place
pub anchor_placed : (o : Opening) (es : List Entry) (states : List BlockState) (ids : List ℕ) (had id : ℕ) (anchor : Anchor) (v : OutlineView) (room : Bool)
    → OutlineStands o es states ids had → record { opening = o; entries = es; journal_room = room } ≡ v → HasAnchor (outline_document v) anchor → anchor ≡ After id → position (is_id id) ids ≡ None → ⊥
anchor_placed o es states ids had id anchor v room s view has is none =
    let b = anchor_there (document_of o es) anchor (subst (λ (w : OutlineView). HasAnchor (outline_document w) anchor) (sym view) has) id is in
    has_place (document_of o es).blocks id b.0 ids b.1 s.order none

-- one item more
inserted_count : {X : Type 0} (xs : List X) (at : ℕ) (x : X) → at ≤ length xs → length (insert xs at x) ≡ length xs + 1
inserted_count xs at x within = omega (arith, length-append (take at xs) (x ∷ drop at xs), length-take-le at xs within, length-drop at xs)

module _ (o : Opening) (es : List Entry) (session id at : ℕ) (anchor : Anchor) (head : ℕ) (prepared : Prepared) (v : BookView) (room : Bool) (tree : TreeView)
    (s : AreLawfulLeaves o es tree.leaves) (view : record { opening = o; entries = es; journal_room = room; tree = tree } ≡ v)
    (free : refusal_of (document v) v.entries (Add anchor head prepared.text) ≡ None) (fits : IsPreparedUnder v.opening v.entries head prepared) (id_is : id ≡ (document v).drawn) where
  add_free_here : refusal_of (document_of o es) es (Add anchor head prepared.text) ≡ None
  add_free_here = subst (λ (w : BookView). refusal_of (document w) w.entries (Add anchor head prepared.text) ≡ None) (sym view) free

  id_here : id ≡ (document_of o es).drawn
  id_here = id_is ∙ ap (λ (w : BookView). (document w).drawn) (sym view)

  fits_here : IsPreparedFor o.setting.profile (document_of o es).header.names prepared
  fits_here =
      prepared_now o es head prepared (add_free (document_of o es) es anchor head prepared.text add_free_here).headed (subst (λ (w : BookView). IsPreparedUnder w.opening w.entries head prepared) (sym view) fits)

  pub add_is_short : length prepared.text ≤ 4096
  add_is_short = fits_here.few

  pub add_anchored : HasAnchor (document_of o es) anchor
  add_anchored = has_anchor (document_of o es) es anchor (add_free (document_of o es) es anchor head prepared.text add_free_here).anchored

  pub add_comes : MayCome o es (edit.Add anchor id prepared.text)
  add_comes = subst (λ (n : ℕ). MayCome o es (edit.Add anchor n prepared.text)) (sym id_here) (add_may o es s.fits anchor head prepared.text add_free_here)

  pub add_granted : (r : Reply) → IsAccepted o (document_of o es) (length es) id (edit.Add anchor id prepared.text) r → IsGranted o (document_of o es) (length es) (Add anchor head prepared.text) r
  add_granted r h = subst (λ (k : ℕ). IsAccepted o (document_of o es) (length es) k (edit.Add anchor k prepared.text) r) id_here h

  module _ (at_is : at ≡ anchor_position anchor (ids_of (document_of o es).blocks)) where
    -- the place lies within the leaves, and there is place for one more
    pub add_fits : (at ≤ length tree.leaves) × (length tree.leaves < 65536)
    add_fits =
        let f = add_free (document_of o es) es anchor head prepared.text add_free_here in
        let within = place_within (document_of o es) anchor add_anchored in
        let many = leaf_each o es tree.leaves s in
        let few = count_within_limit _ _ _ _ f.blocks in
        (omega (arith, within, many, at_is), omega (arith, many, few))

    module _ (longer : List Entry) (longer_is : longer ≡ es ++ record { session = session; edit = edit.Add anchor id prepared.text } ∷ []) (outlined : IsLawfulOutline o longer) where
      add_keeps : AreLawfulLeaves o longer (insert tree.leaves at (prepared.face, prepared.loops))
      add_keeps =
          with_leaves o longer (insert tree.leaves at (prepared.face, prepared.loops)) outlined
          (subst (λ (p : List Entry × ℕ). HasLeaves o (document_of o p.0) (insert tree.leaves p.1 (prepared.face, prepared.loops))) (λ i. (sym longer_is i, sym at_is i))
          (add_items IsLeafOf o es tree.leaves session id anchor prepared.text (prepared.face, prepared.loops) s.leaves_are add_anchored fits_here))

      module _ (leaves : List Leaf) (summary : Summary) (leaves_are : leaves ≡ tree.leaves) (summary_is : summary ≡ prepared.face) where
        pub add_sound : AreSound (insert leaves at (summary, prepared.loops))
        add_sound =
            subst (λ (p : List Leaf × Summary). AreSound (insert p.0 at (p.1, prepared.loops))) (λ i. (sym leaves_are i, sym summary_is i))
            (sound_of o longer (insert tree.leaves at (prepared.face, prepared.loops)) add_keeps)

        pub add_made : (now : List Leaf) → now ≡ insert leaves at (summary, prepared.loops) → AreLawfulLeaves o longer now
        add_made now now_is =
            let all : insert tree.leaves at (prepared.face, prepared.loops) ≡ now = (λ i. insert (sym leaves_are i) at (sym summary_is i, prepared.loops)) ∙ sym now_is in
            subst (AreLawfulLeaves o longer) all add_keeps

        pub add_work : (now : List Leaf) (before behind : ℕ) → now ≡ insert leaves at (summary, prepared.loops)
            → ((carriers limit : ℕ) (known : List Needle) → AreGoodFor carriers limit known now → behind ≤ before + change_steps (length now) (most_items carriers limit (length known)))
            → behind ≤ before + work_limit v.opening v.entries (Add anchor head prepared.text)
        add_work now before behind now_is steps =
            let d : Document = document_of o es in
            let lines : List (List ℕ) = body d ++ prepared.text in
            let P : List ℕ → Type 0 = KnowsLine (setting_at o es) (needles_in (setting_at o es) lines) in
            let all = each_split P (body d) prepared.text (lines_known (setting_at o es) lines) in
            let within = add_fits.0 in
            let many = leaf_each o es tree.leaves s in
            let count : length now ≡ length d.blocks + 1 = ap length now_is ∙ ap (λ (l : List Leaf). length (insert l at (summary, prepared.loops))) leaves_are ∙ (omega (arith, inserted_count tree.leaves at (summary, prepared.loops) within, many)) in
            edit_work o es session (length now) (length d.blocks + 1) before behind (Add anchor head prepared.text) (edit.Add anchor id prepared.text) lines v room tree longer now view longer_is refl (add_made now now_is) refl count
            (new_lines P anchor d.blocks (record { id = id; stamp = length es + 1; lines = prepared.text }) all.0 all.1) steps
