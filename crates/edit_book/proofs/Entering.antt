-- What an outline keeps after an edit that may come.
use Rattle.std.proofs.Common.{◌≡◌, ℕ, ◌+◌, ◌<◌, ◌≤◌, Bool, List, [], ◌∷◌, ◌++◌, length, set, position, Some, None, sym, subst, ap, ◌∙◌, arith}
use Rattle.std.specs.Prelude.{insert, remove}
use Rattle.edit_journal.specs.declared.edit.Anchor.{Anchor}
use Rattle.edit_journal.specs.declared.edit.Edit.{Edit}
use Rattle.edit_journal.specs.declared.edit.Edit.TheVariants as edit
use Rattle.edit_journal.specs.declared.edit.Entry.{Entry}
use Rattle.edit_journal.specs.declared.opening.Opening.{Opening}
use Rattle.edit_journal.specs.Documents.{Document, HasAnchor, after, body, document_of}
use Rattle.edit_book.specs.declared.block_state.BlockState.{BlockState}
use Rattle.edit_book.specs.declared.block_state.BlockState.TheVariants.{There, CutBy}
use Rattle.edit_book.specs.Books.{Each, OutlineStands, ids_of}
use Rattle.edit_book.specs.Orders.{is_id, anchor_position}
use Rattle.edit_book.specs.Outlines.{MayCome, OutlineView, outline_document}
use Rattle.edit_book.proofs.Adds.{add_longer, add_stands, lines_more, place_within}
use Rattle.edit_book.proofs.Cuts.{cut_stands}
use Rattle.edit_book.proofs.HeaderPuts.{head_stands}
use Rattle.edit_book.proofs.Puts.{has_place, ids_count, put_stands, stamped_there, there_drawn}

module _ (o : Opening) (es : List Entry) (states : List BlockState) (ids : List ℕ) (had : ℕ) (v : OutlineView) (room : Bool) (s : OutlineStands o es states ids had) (view : record { opening = o; entries = es; journal_room = room } ≡ v) where
  here : (e : Edit) → MayCome v.opening v.entries e → MayCome o es e
  here e comes = subst (λ (w : OutlineView). MayCome w.opening w.entries e) (sym view) comes

  number : (version : ℕ) → version ≡ length v.entries → length es + 1 ≡ version + 1
  number version version_is = ap (λ (w : OutlineView). length w.entries + 1) view ∙ ap (λ (k : ℕ). k + 1) (sym version_is)

  lines_here : (lines : ℕ) (e : Edit) → lines ≡ length (body (after (outline_document v) (length v.entries + 1) e)) → lines ≡ length (body (after (document_of o es) (length es + 1) e))
  lines_here lines e is = subst (λ (w : OutlineView). lines ≡ length (body (after (outline_document w) (length w.entries + 1) e))) (sym view) is

  -- there is place for one more entry
  pub room_here : (e : Edit) → MayCome v.opening v.entries e → length es < 1048576
  room_here e comes = (here e comes).room

  pub put_within : (id seen : ℕ) (text : List (List ℕ)) → MayCome v.opening v.entries (edit.Put id seen text) → id < length states
  put_within id seen text comes =
      let b = stamped_there (document_of o es).blocks id seen (here (edit.Put id seen text) comes).fits in
      omega (arith, s.drawn, there_drawn (document_of o es).blocks (document_of o es).drawn id b.0 s.lawful.has_ids.drawn b.1)

  pub put_entered : (session id seen version lines : ℕ) (text : List (List ℕ)) (longer : List Entry) → MayCome v.opening v.entries (edit.Put id seen text) → length text ≤ 4096 → version ≡ length v.entries
      → lines ≡ length (body (after (outline_document v) (length v.entries + 1) (edit.Put id seen text))) → longer ≡ es ++ record { session = session; edit = edit.Put id seen text } ∷ []
      → OutlineStands o longer (set states id (There (version + 1))) ids lines
  put_entered session id seen version lines text longer comes short version_is lines_is longer_is =
      subst (λ (p : List Entry × ℕ). OutlineStands o p.0 (set states id (There p.1)) ids lines) (λ i. (sym longer_is i, number version version_is i))
      (put_stands o es states ids had session id seen lines text s (here (edit.Put id seen text) comes) (lines_here lines (edit.Put id seen text) lines_is) short)

  pub cut_within : (id seen : ℕ) → MayCome v.opening v.entries (edit.Cut id seen) → id < length states
  cut_within id seen comes =
      let b = stamped_there (document_of o es).blocks id seen (here (edit.Cut id seen) comes).fits in
      omega (arith, s.drawn, there_drawn (document_of o es).blocks (document_of o es).drawn id b.0 s.lawful.has_ids.drawn b.1)

  pub cut_placed : (id seen : ℕ) → MayCome v.opening v.entries (edit.Cut id seen) → position (is_id id) ids ≡ None → ⊥
  cut_placed id seen comes none =
      let b = stamped_there (document_of o es).blocks id seen (here (edit.Cut id seen) comes).fits in
      has_place (document_of o es).blocks id b.0 ids b.1 s.order none

  pub cut_entered : (session id seen at version lines : ℕ) (longer : List Entry) (left : List ℕ) → MayCome v.opening v.entries (edit.Cut id seen) → position (is_id id) ids ≡ Some at → version ≡ length v.entries
      → lines ≡ length (body (after (outline_document v) (length v.entries + 1) (edit.Cut id seen))) → longer ≡ es ++ record { session = session; edit = edit.Cut id seen } ∷ [] → left ≡ remove ids at
      → OutlineStands o longer (set states id (CutBy (version + 1))) left lines
  cut_entered session id seen at version lines longer left comes place version_is lines_is longer_is left_is =
      subst (λ (p : List Entry × ℕ × List ℕ). OutlineStands o p.0 (set states id (CutBy p.1)) p.2 lines) (λ i. (sym longer_is i, number version version_is i, sym left_is i))
      (cut_stands o es states ids had session id seen at lines s (here (edit.Cut id seen) comes) place (lines_here lines (edit.Cut id seen) lines_is))

  pub head_entered : (session seen : ℕ) (names : List (List ℕ)) (longer : List Entry) → MayCome v.opening v.entries (edit.Head seen names) → length names ≤ 64
      → longer ≡ es ++ record { session = session; edit = edit.Head seen names } ∷ [] → OutlineStands o longer states ids had
  head_entered session seen names longer comes few longer_is =
      subst (λ (l : List Entry). OutlineStands o l states ids had) (sym longer_is) (head_stands o es states ids had session seen names s (here (edit.Head seen names) comes).room few)

  module _ (anchor : Anchor) (id : ℕ) (text : List (List ℕ)) (comes : MayCome v.opening v.entries (edit.Add anchor id text)) where
    comes_here : MayCome o es (edit.Add anchor id text)
    comes_here = here (edit.Add anchor id text) comes

    has : HasAnchor (document_of o es) anchor
    has = comes_here.fits.1

    same : length ids ≡ length (document_of o es).blocks
    same = ap length s.order ∙ ids_count (document_of o es).blocks

    -- the lines of the body then
    pub add_lines : length (body (after (document_of o es) (length es + 1) (edit.Add anchor id text))) ≡ had + length text
    add_lines = lines_more (document_of o es) anchor (length es + 1) id text has ∙ ap (λ (n : ℕ). n + length text) (sym s.lines)

    pub add_fit : had + length text ≤ 1048576
    add_fit = omega (arith, sym add_lines, comes_here.lines)

    -- there is place for one more id, and the new one was never drawn
    pub few_ids : length ids < 65536
    few_ids = omega (arith, same, add_longer (document_of o es) anchor (record { id = id; stamp = length es + 1; lines = text }) has, comes_here.blocks)

    pub new_id : Each (λ (k : ℕ). k < id) ids
    new_id = subst (λ (p : ℕ × List ℕ). Each (λ (k : ℕ). k < p.0) p.1) (λ i. (sym comes_here.fits.0 i, sym s.order i)) s.lawful.has_ids.drawn

    module _ (at : ℕ) (at_is : at ≡ anchor_position anchor (ids_of (outline_document v).blocks)) where
      at_here : at ≡ anchor_position anchor (ids_of (document_of o es).blocks)
      at_here = at_is ∙ ap (λ (w : OutlineView). anchor_position anchor (ids_of (outline_document w).blocks)) (sym view)

      pub add_within : at ≤ length ids
      add_within = omega (arith, at_here, place_within (document_of o es) anchor has, same)

      pub add_entered : (session version lines : ℕ) (longer : List Entry) (later : List BlockState) (left : List ℕ) → length text ≤ 4096 → version ≡ length v.entries → lines ≡ had + length text
          → longer ≡ es ++ record { session = session; edit = edit.Add anchor id text } ∷ [] → later ≡ states ++ There (version + 1) ∷ [] → left ≡ insert ids at id → OutlineStands o longer later left lines
      add_entered session version lines longer later left short version_is lines_is longer_is later_is left_is =
          let d : Document = document_of o es in
          let next : id ≡ d.drawn = comes_here.fits.0 in
          let lines_there : lines ≡ length (body (after d (length es + 1) (edit.Add anchor d.drawn text))) = lines_is ∙ sym add_lines ∙ ap (λ (n : ℕ). length (body (after d (length es + 1) (edit.Add anchor n text)))) next in
          let entries_are : es ++ record { session = session; edit = edit.Add anchor d.drawn text } ∷ [] ≡ longer = ap (λ (n : ℕ). es ++ record { session = session; edit = edit.Add anchor n text } ∷ []) (sym next) ∙ sym longer_is in
          let states_are : states ++ There (length es + 1) ∷ [] ≡ later = ap (λ (n : ℕ). states ++ There n ∷ []) (number version version_is) ∙ sym later_is in
          let ids_are : insert ids (anchor_position anchor (ids_of d.blocks)) d.drawn ≡ left = (λ i. insert ids (sym at_here i) (sym next i)) ∙ sym left_is in
          subst (λ (p : List Entry × List BlockState × List ℕ). OutlineStands o p.0 p.1 p.2 lines) (λ i. (entries_are i, states_are i, ids_are i))
          (add_stands o es states ids had session anchor lines text s (subst (λ (n : ℕ). MayCome o es (edit.Add anchor n text)) next comes_here) lines_there short)
