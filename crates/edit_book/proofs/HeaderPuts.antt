-- Other names of the header: what the book then keeps.
use Rattle.std.proofs.Common.{◌≡◌, ℕ, ◌+◌, ◌<◌, ◌≤◌, Bool, List, [], ◌∷◌, ◌++◌, length, Some, None, sym, subst, ap, ◌∙◌, length-append, arith}
use Rattle.std.specs.List.{slice_get}
use Rattle.std.specs.Option.{option_map_or}
use Rattle.edit_journal.specs.declared.edit.Edit.TheVariants as edit
use Rattle.edit_journal.specs.declared.edit.Entry.{Entry}
use Rattle.edit_journal.specs.declared.opening.Opening.{Opening}
use Rattle.edit_journal.specs.Documents.{Block, Document, after, block_of, body, document_of}
use Rattle.edit_journal.specs.Entries.{entry_limit}
use Rattle.edit_book.specs.declared.block_state.BlockState.{BlockState}
use Rattle.edit_book.specs.declared.block_state.BlockState.TheVariants.{There, CutBy}
use Rattle.edit_book.specs.Books.{BookView, Each, BookFits, HasIds, HasLeaves, HasText, AreLawfulLeaves, IsLawfulOutline, IsLawfulSetting, OutlineStands, document, ids_of, block_state_of}
use Rattle.edit_book.specs.Outlines.{MayCome, OutlineView, outline_document}
use Rattle.edit_book.specs.declared.header.Header.{Header}
use Rattle.edit_book.specs.Headers.{HasHeader}
use Rattle.edit_book.specs.HeaderTrees.{AreLeavesOf}
use Rattle.edit_book.specs.Replies.{PutHead, refusal_of}
use Rattle.edit_book.specs.Verdicts.{setting_of}
use Rattle.edit_book.specs.Work.{with_names}
use Rattle.edit_book.proofs.Blocks.{with_leaves}
use Rattle.edit_book.proofs.Comings.{head_may}
use Rattle.edit_book.proofs.KeptHeaders.{takes_header}
use Rattle.edit_book.proofs.Puts.{cut_number_snoc, doc_snoc, short_after, texts_before}
use Rattle.summary_tree.specs.Leaves.{Leaf}
use Rattle.summary_tree.specs.Trees.{TreeView}

-- the blocks stay
pub head_stands : (o : Opening) (es : List Entry) (states : List BlockState) (ids : List ℕ) (had session seen : ℕ) (names : List (List ℕ))
    → OutlineStands o es states ids had → length es < entry_limit → length names ≤ 64 → OutlineStands o (es ++ record { session = session; edit = edit.Head seen names } ∷ []) states ids had
head_stands o es states ids had session seen names s room few =
    let e : Entry = record { session = session; edit = edit.Head seen names } in
    let d : Document = document_of o es in
    let next : document_of o (es ++ e ∷ []) ≡ after d (length es + 1) (edit.Head seen names) = doc_snoc o es e in
    let long : length (es ++ e ∷ []) ≡ length es + 1 = length-append es (e ∷ []) in
    record {
      lawful = record {
        has_ids = subst HasIds (sym next) (record { differ = s.lawful.has_ids.differ; drawn = s.lawful.has_ids.drawn });
        fits = subst (λ (x : Document). BookFits x (es ++ e ∷ [])) (sym next) (record {
          entries_fit = omega (arith, long, room);
          blocks_fit = s.lawful.fits.blocks_fit;
          lines_fit = s.lawful.fits.lines_fit;
          ids_fit = omega (arith, long, s.lawful.fits.ids_fit);
        });
        texts = subst (λ (x : Document). Each (HasText o (es ++ e ∷ [])) x.blocks) (sym next) (texts_before o es e d.blocks s.lawful.texts);
        short = short_after o es e s.lawful.short (λ k. tt);
        setting = subst (λ (x : Document). IsLawfulSetting (setting_of o x)) (sym next) (record { profile = s.lawful.setting.profile; carriers = few; first = s.lawful.setting.first });
      };
      drawn = s.drawn ∙ ap (λ (x : Document). x.drawn) (sym next);
      states_are = subst (λ (x : Document). (k : ℕ) → k < x.drawn → slice_get states k ≡ Some (block_state_of x (es ++ e ∷ []) k)) (sym next)
          (λ k drawn. s.states_are k drawn ∙ ap (λ (n : ℕ). Some (option_map_or (λ (b : Block). There b.stamp) (block_of d.blocks k) (CutBy n))) (sym (cut_number_snoc es e k)));
      order = s.order ∙ ap (λ (x : Document). ids_of x.blocks) (sym next);
      lines = s.lines ∙ ap (λ (x : Document). length (body x)) (sym next);
    }

-- what an outline then keeps of its header
pub head_kept : (o : Opening) (es : List Entry) (session seen : ℕ) (names : List (List ℕ)) (v : OutlineView) (room : Bool) (head version : ℕ) (old new : Header) (longer : List Entry)
    → record { opening = o; entries = es; journal_room = room } ≡ v → HasHeader o es head old → version ≡ length v.entries → longer ≡ es ++ record { session = session; edit = edit.Head seen names } ∷ []
    → new.setting ≡ with_names names (setting_of v.opening (outline_document v)) → new.entries.items ≡ old.entries.items ++ (version + 1) ∷ [] → HasHeader o longer (version + 1) new
head_kept o es session seen names v room head version old new longer view h version_is longer_is setting_is entries_are =
    let number : version + 1 ≡ length es + 1 = ap (λ (n : ℕ). n + 1) (version_is ∙ ap (λ (w : OutlineView). length w.entries) (sym view)) in
    subst (λ (p : List Entry × ℕ). HasHeader o p.0 p.1 new) (λ i. (sym longer_is i, sym number i))
    (takes_header o es session seen names head old new h (setting_is ∙ ap (λ (w : OutlineView). with_names names (setting_of w.opening (outline_document w))) (sym view))
    (entries_are ∙ ap (λ (n : ℕ). old.entries.items ++ n ∷ []) number))

module _ (o : Opening) (es : List Entry) (session seen : ℕ) (names : List (List ℕ)) (v : BookView) (room : Bool) (tree : TreeView)
    (s : AreLawfulLeaves o es tree.leaves) (view : record { opening = o; entries = es; journal_room = room; tree = tree } ≡ v)
    (free : refusal_of (document v) v.entries (PutHead seen names) ≡ None) where
  pub head_comes : MayCome o es (edit.Head seen names)
  head_comes = head_may o es s.fits seen names (subst (λ (w : BookView). refusal_of (document w) w.entries (PutHead seen names) ≡ None) (sym view) free)

  -- the leaves are those under the new names
  pub head_made : (longer : List Entry) (now : List Leaf) → longer ≡ es ++ record { session = session; edit = edit.Head seen names } ∷ [] → IsLawfulOutline o longer
      → AreLeavesOf (with_names names (setting_of v.opening (document v))) now (document v).blocks → AreLawfulLeaves o longer now
  head_made longer now longer_is outlined now_are =
      with_leaves o longer now outlined
      (subst (λ (x : Document). HasLeaves o x now) (sym (ap (document_of o) longer_is ∙ doc_snoc o es (record { session = session; edit = edit.Head seen names })))
      (subst (λ (w : BookView). AreLeavesOf (with_names names (setting_of w.opening (document w))) now (document w).blocks) (sym view) now_are))
