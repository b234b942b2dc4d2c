-- What nothing refuses may come next.
use Rattle.std.proofs.Common.{◌≡◌, ℕ, ◌+◌, ◌<◌, ◌≤◌, nat_le, Bool, true, false, cond, ◌==◌, List, length, Some, None, option_and_then, option_map, refl, sym, ap, ◌∙◌, arith}
use Rattle.std.proofs.lemmas.Bool.{eqb-true, leb-false, leb-true}
use Rattle.edit_journal.specs.declared.edit.Anchor.{Anchor}
use Rattle.edit_journal.specs.declared.edit.Edit.TheVariants as edit
use Rattle.edit_journal.specs.declared.edit.Entry.{Entry}
use Rattle.edit_journal.specs.declared.opening.Opening.{Opening}
use Rattle.edit_journal.specs.Documents.{Block, Document, HasAnchor, after, body, document_of, stamp_at}
use Rattle.edit_journal.specs.Entries.{entry_limit}
use Rattle.edit_book.specs.declared.reply.Reply.TheVariants.{Stale}
use Rattle.edit_book.specs.Books.{BookFits, IsLawfulOutline}
use Rattle.edit_book.specs.Outlines.{MayCome, OutlineView, outline_document}
use Rattle.edit_book.specs.Replies.{block_limit, line_limit, Add, Cut, Put, PutHead, refusal_of, refused_entries, refused_head, refused_name, refused_stamp}
use Rattle.edit_book.proofs.Adds.{add_count, add_free, add_longer, has_anchor, lines_more}
use Rattle.edit_book.proofs.Counts.{cut_fewer}
use Rattle.edit_book.proofs.Cuts.{cut_count, cut_free}
use Rattle.edit_book.proofs.PreparedTexts.{head_seen}
use Rattle.edit_book.proofs.Puts.{named_there, or_else_none, put_count, put_free, count_within_limit}

-- a stamp that nothing refuses is the block's
pub seen_now : (d : Document) (es : List Entry) (id seen : ℕ) → refused_name d es id ≡ None → refused_stamp d es id seen ≡ None → stamp_at d.blocks id ≡ Some seen
seen_now d es id seen named stamped =
    let b = named_there d es id named in
    ap (option_map (λ (x : Block). x.stamp)) b.1 ∙ go b.0 (b.0.stamp == seen) refl (ap (option_and_then (λ (x : Block). cond (x.stamp == seen) None (Some (Stale (length es) id seen x.stamp)))) (sym b.1) ∙ stamped)
  where
    go : (b : Block) (t : Bool) → (b.stamp == seen) ≡ t → cond (b.stamp == seen) None (Some (Stale (length es) id seen b.stamp)) ≡ None → Some b.stamp ≡ Some seen
    go b true is none = ap Some (eqb-true b.stamp seen is)
    go b false is none = absurd (let some = ap (λ (t : Bool). cond t None (Some (Stale (length es) id seen b.stamp))) (sym is) ∙ none in cc)

module _ (o : Opening) (es : List Entry) (fits : BookFits (document_of o es) es) where
  pub put_may : (id seen head : ℕ) (text : List (List ℕ)) → refusal_of (document_of o es) es (Put id seen head text) ≡ None → MayCome o es (edit.Put id seen text)
  put_may id seen head text free =
      let f = put_free (document_of o es) es id seen head text free in
      record {
        fits = seen_now (document_of o es) es id seen f.named f.stamped;
        room = omega (arith, count_within_limit _ _ _ _ f.room);
        blocks = omega (arith, put_count (document_of o es).blocks id (length es + 1) text, fits.blocks_fit);
        lines = count_within_limit _ _ _ _ f.lines;
      }

  pub add_may : (anchor : Anchor) (head : ℕ) (text : List (List ℕ)) → refusal_of (document_of o es) es (Add anchor head text) ≡ None → MayCome o es (edit.Add anchor (document_of o es).drawn text)
  add_may anchor head text free =
      let d : Document = document_of o es in
      let f = add_free d es anchor head text free in
      record {
        fits = (refl, has_anchor d es anchor f.anchored);
        room = omega (arith, count_within_limit _ _ _ _ f.entries);
        blocks = omega (arith, add_count anchor d.blocks (record { id = d.drawn; stamp = length es + 1; lines = text }), count_within_limit _ _ _ _ f.blocks);
        lines = count_within_limit _ _ _ _ f.lines;
      }

  pub cut_may : (id seen : ℕ) → refusal_of (document_of o es) es (Cut id seen) ≡ None → MayCome o es (edit.Cut id seen)
  cut_may id seen free =
      let d : Document = document_of o es in
      let f = cut_free d es id seen free in
      record {
        fits = seen_now d es id seen f.0 f.1;
        room = omega (arith, count_within_limit _ _ _ _ f.2);
        blocks = omega (arith, cut_count d.blocks id, fits.blocks_fit);
        lines = omega (arith, cut_fewer d.blocks id, fits.lines_fit);
      }

  pub head_may : (seen : ℕ) (names : List (List ℕ)) → refusal_of (document_of o es) es (PutHead seen names) ≡ None → MayCome o es (edit.Head seen names)
  head_may seen names free =
      let d : Document = document_of o es in
      let f = or_else_none (refused_head d es seen) (refused_entries es) free in
      record {
        fits = head_seen d es seen f.0;
        room = omega (arith, count_within_limit _ _ _ _ f.1);
        blocks = fits.blocks_fit;
        lines = fits.lines_fit;
      }

-- what is asked of an outline
module _ (v : OutlineView) (lawful : IsLawfulOutline v.opening v.entries) (room : length v.entries < entry_limit) where
  pub put_yes : (id seen count : ℕ) (text : List (List ℕ)) → stamp_at (outline_document v).blocks id ≡ Some seen → count ≡ length (body (after (outline_document v) (length v.entries + 1) (edit.Put id seen text))) → nat_le count line_limit ≡ true
      → MayCome v.opening v.entries (edit.Put id seen text)
  put_yes id seen count text stamp count_is few = record {
    fits = stamp;
    room = room;
    blocks = omega (arith, put_count (outline_document v).blocks id (length v.entries + 1) text, lawful.fits.blocks_fit);
    lines = omega (arith, leb-true count line_limit few, count_is);
  }

  pub cut_yes : (id seen : ℕ) → stamp_at (outline_document v).blocks id ≡ Some seen → MayCome v.opening v.entries (edit.Cut id seen)
  cut_yes id seen stamp = record {
    fits = stamp;
    room = room;
    blocks = omega (arith, cut_count (outline_document v).blocks id, lawful.fits.blocks_fit);
    lines = omega (arith, cut_fewer (outline_document v).blocks id, lawful.fits.lines_fit);
  }

  pub head_yes : (seen : ℕ) (names : List (List ℕ)) → (outline_document v).header.stamp ≡ seen → MayCome v.opening v.entries (edit.Head seen names)
  head_yes seen names stamp = record { fits = stamp; room = room; blocks = lawful.fits.blocks_fit; lines = lawful.fits.lines_fit }

  pub add_yes : (anchor : Anchor) (id count : ℕ) (text : List (List ℕ)) → id ≡ (outline_document v).drawn → HasAnchor (outline_document v) anchor → length (outline_document v).blocks < block_limit → count ≡ length (body (outline_document v))
      → nat_le (count + length text) line_limit ≡ true → MayCome v.opening v.entries (edit.Add anchor id text)
  add_yes anchor id count text id_is has few count_is enough = record {
    fits = (id_is, has);
    room = room;
    blocks = omega (arith, add_longer (outline_document v) anchor (record { id = id; stamp = length v.entries + 1; lines = text }) has, few);
    lines = omega (arith, lines_more (outline_document v) anchor (length v.entries + 1) id text has, count_is, leb-true (count + length text) line_limit enough);
  }

-- no block comes in where there are as many as there may be
pub add_full : (v : OutlineView) (anchor : Anchor) (id : ℕ) (text : List (List ℕ)) → block_limit ≤ length (outline_document v).blocks → MayCome v.opening v.entries (edit.Add anchor id text) → ⊥
add_full v anchor id text full comes =
    let longer = add_longer (outline_document v) anchor (record { id = id; stamp = length v.entries + 1; lines = text }) comes.fits.1 in omega (arith, longer, comes.blocks, full)

-- nor where it has too many lines
pub add_over : (v : OutlineView) (anchor : Anchor) (id count : ℕ) (text : List (List ℕ)) → count ≡ length (body (outline_document v)) → nat_le (count + length text) line_limit ≡ false → MayCome v.opening v.entries (edit.Add anchor id text) → ⊥
add_over v anchor id count text count_is over comes =
    let more = lines_more (outline_document v) anchor (length v.entries + 1) id text comes.fits.1 in omega (arith, more, comes.lines, count_is, leb-false (count + length text) line_limit over)
