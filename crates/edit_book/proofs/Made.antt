-- An edit that nothing refuses: what the book then keeps.
use Rattle.std.proofs.Common.{◌≡◌, ℕ, ◌+◌, ◌<◌, ◌≤◌, Bool, List, [], ◌∷◌, ◌++◌, length, set, position, Option, Some, None, inr, option_map, sym, subst, ap, ◌∙◌, refl, arith}
use Rattle.edit_journal.specs.declared.edit.Edit.TheVariants as edit
use Rattle.std.specs.Option.{option_to_list}
use Rattle.carriage_model.specs.declared.verdict.Brief.{Brief}
use Rattle.carriage_model.specs.Verdict.{brief_of}
use Rattle.edit_journal.specs.declared.edit.Edit.{Edit}
use Rattle.knit_base.specs.declared.needle.Needle.{Needle}
use Rattle.face_data.specs.Items.{most_items}
use Rattle.edit_journal.specs.declared.edit.Entry.{Entry}
use Rattle.edit_journal.specs.declared.opening.Opening.{Opening}
use Rattle.edit_journal.specs.Documents.{Document, after, document_of, body}
use Rattle.face_data.specs.declared.face.FaceView.{FaceView}
use Rattle.face_data.specs.Summaries.{Summary}
use Rattle.face_data.specs.Verdicts.{verdict_of}
use Rattle.face_data.specs.View.{summary_of}
use Rattle.edit_book.specs.Books.{BookView, document, HasLeaves, AreLawfulLeaves, IsLawfulOutline, IsLeafOf, ids_of}
use Rattle.edit_book.specs.Outlines.{MayCome}
use Rattle.edit_book.specs.Headers.{IsPreparedUnder}
use Rattle.edit_book.specs.Orders.{is_id}
use Rattle.edit_book.specs.Replies.{Request, Put, IsAccepted, IsDue, IsGranted, IsTurn, edit_of, entry_of, refusal_of}
use Rattle.edit_book.specs.declared.reply.Reply.{Reply}
use Rattle.edit_book.specs.declared.reply.Reply.TheVariants.{Accepted}
use Rattle.edit_book.specs.Verdicts.{IsBriefOn, setting_of}
use Rattle.edit_book.specs.Work.{needles_in, work_limit}
use Rattle.edit_book.proofs.Blocks.{with_leaves}
use Rattle.edit_book.proofs.Comings.{put_may}
use Rattle.edit_book.proofs.PreparedTexts.{prepared_now}
use Rattle.edit_book.proofs.Puts.{doc_snoc, has_place, ids_count, named_there, place_is, put_free, put_items}
use Rattle.edit_book.proofs.Trees.{leaf_each, setting_at, sound_of}
use Rattle.edit_book.proofs.Verdicts.{root_brief}
use Rattle.edit_book.proofs.Work.{KnowsLine, each_split, edit_work, lines_known, put_lines}
use Rattle.block_summary.specs.Prepared.{IsPreparedFor}
use Rattle.block_summary.specs.declared.prepared.Prepared.{Prepared}
use Rattle.summary_tree.specs.Leaves.{Leaf, AreGoodFor, AreSound, IsRootOf}
use Rattle.summary_tree.specs.Trees.{TreeView, change_steps}

-- the place of a block lies within the leaves
pub at_fits : (o : Opening) (es : List Entry) (leaves : List Leaf) (id at : ℕ) → AreLawfulLeaves o es leaves → position (is_id id) (ids_of (document_of o es).blocks) ≡ Some at → (at < length leaves) × (at < 65536)
at_fits o es leaves id at s place =
    let p = place_is (ids_of (document_of o es).blocks) id at place in
    let many = leaf_each o es leaves s in
    let same = ids_count (document_of o es).blocks in
    (omega (arith, p.1, many, same), omega (arith, p.1, same, s.fits.blocks_fit))

module _ (o : Opening) (es : List Entry) (session id seen head : ℕ) (prepared : Prepared) (v : BookView) (room : Bool) (tree : TreeView)
    (s : AreLawfulLeaves o es tree.leaves) (view : record { opening = o; entries = es; journal_room = room; tree = tree } ≡ v)
    (free : refusal_of (document v) v.entries (Put id seen head prepared.text) ≡ None) where
  free_here : refusal_of (document_of o es) es (Put id seen head prepared.text) ≡ None
  free_here = subst (λ (w : BookView). refusal_of (document w) w.entries (Put id seen head prepared.text) ≡ None) (sym view) free

  pub put_unplaced : position (is_id id) (ids_of (document_of o es).blocks) ≡ None → ⊥
  put_unplaced none =
      let b = named_there (document_of o es) es id (put_free (document_of o es) es id seen head prepared.text free_here).named in
      has_place (document_of o es).blocks id b.0 (ids_of (document_of o es).blocks) b.1 refl none

  pub put_comes : MayCome o es (edit.Put id seen prepared.text)
  put_comes = put_may o es s.fits id seen head prepared.text free_here

  module _ (fits : IsPreparedUnder v.opening v.entries head prepared) where
    fits_here : IsPreparedFor o.setting.profile (document_of o es).header.names prepared
    fits_here =
        prepared_now o es head prepared (put_free (document_of o es) es id seen head prepared.text free_here).headed (subst (λ (w : BookView). IsPreparedUnder w.opening w.entries head prepared) (sym view) fits)

    pub put_is_short : length prepared.text ≤ 4096
    put_is_short = fits_here.few

    module _ (at : ℕ) (place : position (is_id id) (ids_of (document_of o es).blocks) ≡ Some at) (longer : List Entry) (longer_is : longer ≡ es ++ record { session = session; edit = edit.Put id seen prepared.text } ∷ [])
        (outlined : IsLawfulOutline o longer) where
      put_keeps : AreLawfulLeaves o longer (set tree.leaves at (prepared.face, prepared.loops))
      put_keeps =
          with_leaves o longer (set tree.leaves at (prepared.face, prepared.loops)) outlined
          (subst (λ (l : List Entry). HasLeaves o (document_of o l) (set tree.leaves at (prepared.face, prepared.loops))) (sym longer_is)
          (put_items IsLeafOf o es tree.leaves session id seen at prepared.text (prepared.face, prepared.loops) s.leaves_are place fits_here))

      module _ (leaves : List Leaf) (summary : Summary) (leaves_are : leaves ≡ tree.leaves) (summary_is : summary ≡ prepared.face) where
        pub put_sound : AreSound (set leaves at (summary, prepared.loops))
        put_sound =
            subst (λ (p : List Leaf × Summary). AreSound (set p.0 at (p.1, prepared.loops))) (λ i. (sym leaves_are i, sym summary_is i))
            (sound_of o longer (set tree.leaves at (prepared.face, prepared.loops)) put_keeps)

        pub put_made : (now : List Leaf) → now ≡ set leaves at (summary, prepared.loops) → AreLawfulLeaves o longer now
        put_made now now_is =
            let all : set tree.leaves at (prepared.face, prepared.loops) ≡ now = (λ i. set (sym leaves_are i) at (sym summary_is i, prepared.loops)) ∙ sym now_is in
            subst (AreLawfulLeaves o longer) all put_keeps

        pub put_work : (now : List Leaf) (before after : ℕ) → now ≡ set leaves at (summary, prepared.loops)
            → ((carriers limit : ℕ) (known : List Needle) → AreGoodFor carriers limit known now → after ≤ before + change_steps (length leaves) (most_items carriers limit (length known)))
            → after ≤ before + work_limit v.opening v.entries (Put id seen head prepared.text)
        put_work now before after now_is steps =
            let d : Document = document_of o es in
            let lines : List (List ℕ) = body d ++ prepared.text in
            let P : List ℕ → Type 0 = KnowsLine (setting_at o es) (needles_in (setting_at o es) lines) in
            let all = each_split P (body d) prepared.text (lines_known (setting_at o es) lines) in
            let count : length leaves ≡ length d.blocks = ap length leaves_are ∙ leaf_each o es tree.leaves s in
            edit_work o es session (length leaves) (length d.blocks) before after (Put id seen head prepared.text) (edit.Put id seen prepared.text) lines v room tree longer now view longer_is refl (put_made now now_is) refl count
            (put_lines P d.blocks id (length es + 1) prepared.text all.0 all.1) steps

-- an accepted edit is the turn that is due
pub turn_made : (o : Opening) (es : List Entry) (session block version : ℕ) (request : Request) (change : Edit) (v : BookView) (room : Bool) (tree : TreeView) (brief : Brief) (longer : List Entry) (leaves : List Leaf) (root : FaceView) (first : ℕ)
    → record { opening = o; entries = es; journal_room = room; tree = tree } ≡ v → refusal_of (document v) v.entries request ≡ None → edit_of request block ≡ Some change → version ≡ length v.entries
    → longer ≡ es ++ record { session = session; edit = change } ∷ [] → AreLawfulLeaves o longer leaves → IsRootOf leaves root → first ≡ o.setting.first → brief ≡ brief_of (verdict_of (summary_of root) first)
    → ((r : Reply) → IsAccepted o (document_of o es) (length es) block change r → IsGranted o (document_of o es) (length es) request r)
    → IsTurn v.opening v.entries session request (Accepted (version + 1) block brief) longer
turn_made o es session block version request change v room tree brief longer leaves root first view free edit_is version_is longer_is lawful is_root first_is brief_is grant =
    let d : Document = document_of o es in
    let reply : Reply = Accepted (version + 1) block brief in
    let free_here : refusal_of d es request ≡ None = subst (λ (w : BookView). refusal_of (document w) w.entries request ≡ None) (sym view) free in
    let version_here : version ≡ length es = version_is ∙ ap (λ (w : BookView). length w.entries) (sym view) in
    let next : document_of o longer ≡ after d (length es + 1) change = ap (document_of o) longer_is ∙ doc_snoc o es (record { session = session; edit = change }) in
    let told : IsBriefOn (setting_at o longer) (body (document_of o longer)) brief = root_brief o longer leaves root brief lawful is_root (brief_is ∙ ap (λ (n : ℕ). brief_of (verdict_of (summary_of root) n)) first_is) in
    let granted : IsGranted o d (length es) request reply = grant reply (brief, ap (λ (k : ℕ). Accepted (k + 1) block brief) version_here, subst (λ (x : Document). IsBriefOn (setting_of o x) (body x) brief) next told) in
    let entries_are : es ++ record { session = session; edit = change } ∷ [] ≡ es ++ option_to_list (entry_of session request reply) =
    ap (λ (x : Option Edit). es ++ option_to_list (option_map (λ y. record { session = session; edit = y }) x)) (sym edit_is) in
    subst (λ (w : BookView). IsTurn w.opening w.entries session request reply longer) view
    (inr (subst (λ (r : Option Reply). IsDue r (IsGranted o d (length es) request reply) reply) (sym free_here) granted, longer_is ∙ entries_are))
