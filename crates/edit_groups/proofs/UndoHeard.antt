-- What a session has heard of an undo.
use Rattle.std.proofs.Common.{◌≡◌, inl, inr, ⊎_elim, ℕ, ◌<◌, ◌≤◌, Bool, true, false, cond, ne_eqb, List, length, Option, Some, None, option_map, option_and_then, sym, ap, ◌∙◌, refl, subst, arith}
use Rattle.carriage_model.specs.declared.verdict.Brief.{Brief}
use Rattle.edit_journal.specs.declared.edit.Anchor.{Anchor}
use Rattle.edit_journal.specs.declared.edit.Edit.{Edit}
use Rattle.edit_journal.specs.declared.edit.Edit.TheVariants as edit
use Rattle.edit_journal.specs.declared.edit.Entry.{Entry}
use Rattle.edit_journal.specs.declared.opening.Opening.{Opening}
use Rattle.edit_journal.specs.Documents.{document_of, text_at}
use Rattle.edit_journal.specs.Entries.{head_id}
use Rattle.script_reader.specs.declared.step.Step.TheVariants as step
use Rattle.edit_book.specs.Memory.{Memory, first_memory}
use Rattle.edit_book.specs.Replies.{Request, Put, Cut, IsReply, accepted_block, edit_of, entry_of}
use Rattle.edit_book.specs.declared.reply.Reply.{Reply}
use Rattle.edit_book.specs.declared.reply.Reply.TheVariants as reply
use Rattle.edit_book.proofs.NamesKept.{first_none, name_drawn}
use Rattle.turn_book.specs.declared.view.View.{View}
use Rattle.turn_book.specs.Taken.{IsCommandTaken}
use Rattle.turn_book.specs.Turn.{Turned}
use Rattle.turn_book.specs.Walk.{IsReplyGiven}
use Rattle.turn_book.proofs.Takes.{seen_after_turn, taken_short}
use Rattle.edit_groups.specs.Answers.{IsUndo, edits_in, nothing, undone, request_undoing}
use Rattle.edit_groups.specs.Chunks.{Undoable, chunk_of, entries_of_chunks, is_put, is_put_undo, undoable_of_session}
use Rattle.edit_groups.specs.Groups as groups
use Rattle.edit_groups.specs.Sessions.{HeardReply, group_core, short_reply, undo_memory}
use Rattle.edit_groups.specs.Shared.{session_of_chunk}
use Rattle.edit_groups.specs.Turns.{put_head, undone_head, undone_memory}
use Rattle.edit_groups.specs.declared.chunk.Chunk.{Chunk}
use Rattle.edit_groups.specs.declared.reply.GroupCommand.TheVariants as asks
use Rattle.edit_groups.specs.declared.reply.GroupReply.{GroupReply}
use Rattle.edit_groups.specs.declared.reply.GroupReply.TheVariants as group
use Rattle.edit_groups.specs.declared.reply.Told.{Told}
use Rattle.edit_groups.proofs.Accepted.{accepted_edit, cut_block, put_block}
use Rattle.edit_groups.proofs.CoreLaws.{is_core}
use Rattle.edit_groups.proofs.LastPuts.{puts_behind, taken_puts, undoable_foreign}

-- an undo was answered so; where it is known whether it was to put a text back, so is what it teaches
pub record IsUndoHeard (o : Opening) (n : ℕ) (last : Bool) (r : GroupReply) (v w : View Opening Chunk) : Type 0 where
  pub heard : HeardReply
  pub reply_is : r ≡ heard.reply
  pub taken : (m : Memory) → IsCommandTaken (group_core o) n m step.Undo heard v w
  pub head : (head : ℕ) → undone_head last r head ≡ head
  pub memory : last ≡ is_put_undo (undoable_of_session n v.seen) → (m : Memory) → undone_memory m last r ≡ undo_memory m heard.reply heard.edits
  pub after : last ≡ is_put_undo (undoable_of_session n v.seen) → last ≡ is_put_undo (undoable_of_session n w.seen)

-- what an answer to an undo teaches
record Teaches (last : Bool) (r : GroupReply) (edits : List Edit) : Type 0 where
  memory : (m : Memory) → undone_memory m last r ≡ undo_memory m r edits
  after : puts_behind edits last ≡ last

-- a text is put back
put_teaches : (n id seen head : ℕ) (text : List (List ℕ)) (told : Reply) → Teaches true (group.One told) (edits_in (entry_of n (Put id seen head text) told))
put_teaches n id seen head text (reply.Accepted version block brief) = record { memory = λ m. refl; after = refl }
put_teaches n id seen head text told = record { memory = λ m. refl; after = refl }

-- a block is cut
cut_teaches : (n : ℕ) (id seen : ℕ) (told : Reply) → Teaches false (group.One told) (edits_in (entry_of n (Cut id seen) told))
cut_teaches n id seen told = go (accepted_block told)
  where
    go : (b : Option ℕ) → Teaches false (group.One told) (edits_in (option_map (λ (e : Edit). record { session = n; edit = e }) (option_and_then (edit_of (Cut id seen)) b)))
    go None = record { memory = λ m. refl; after = refl }
    go (Some block) = record { memory = λ m. refl; after = refl }

-- what undoes the last step asks to put a text back, or to cut a block
data Undoes (last : Undoable) : Edit → Request → Type 0 where
  puts_back : (id seen head : ℕ) (text old : List (List ℕ)) → Undoes last (edit.Put id seen text) (Put id last.number head old)
  takes_out : (anchor : Anchor) (id : ℕ) (text : List (List ℕ)) → Undoes last (edit.Add anchor id text) (Cut id last.number)

undoes_it : (o : Opening) (journal : List Entry) (last : Undoable) (e : Edit) (request : Request) → request_undoing o journal last.number e ≡ Some request → Undoes last e request
undoes_it o journal last (edit.Put id seen text) request is = put (text_at o journal id seen) is
  where
    put : (old : Option (List (List ℕ))) → option_map (Put id last.number (document_of o journal).header.stamp) old ≡ Some request → Undoes last (edit.Put id seen text) request
    put None is = absurd (cc)
    put (Some old) is = let same : Put id last.number (document_of o journal).header.stamp old ≡ request = cc in
        subst (Undoes last (edit.Put id seen text)) same (puts_back id seen (document_of o journal).header.stamp text old)
undoes_it o journal last (edit.Add anchor id text) request is = let same : Cut id last.number ≡ request = cc in subst (Undoes last (edit.Add anchor id text)) same (takes_out anchor id text)
undoes_it o journal last (edit.Cut id seen) request is = absurd (cc)
undoes_it o journal last (edit.Head seen names) request is = absurd (cc)

undo_teaches : (o : Opening) (n : ℕ) (journal : List Entry) (last : Option Undoable) (r : GroupReply) (edits : List Edit) → IsUndo o n journal last r edits → Teaches (is_put_undo last) r edits
undo_teaches o n journal last r edits (nothing) = record { memory = λ m. refl; after = refl }
undo_teaches o n journal last r edits (undone some request s es undoes one) =
    subst (λ (p : GroupReply × List Edit). Teaches (is_put some.edit) p.0 p.1) (λ i. (sym one.reply_is i, sym one.edits_are i)) (go some.edit request (undoes_it o journal some some.edit request undoes))
  where
    go : (e : Edit) (request : Request) → Undoes some e request → Teaches (is_put e) (group.One one.told) (edits_in (entry_of n request one.told))
    go e request (puts_back id seen head text old) = put_teaches n id some.number head old one.told
    go e request (takes_out anchor id text) = cut_teaches n id some.number one.told

-- an accepted one tells no stamp of the header
undone_block : (o : Opening) (journal : List Entry) (last : Undoable) (e : Edit) (request : Request) (version block : ℕ) (brief : Brief) → (document_of o journal).drawn < head_id → Undoes last e request → IsReply o journal request (reply.Accepted version block brief)
    → block ≡ head_id → ⊥
undone_block o journal last e request version block brief below (puts_back id seen head text old) due same =
    let drawn = name_drawn (document_of o journal) journal id (first_none _ _ (accepted_edit o journal (Put id last.number head old) version block brief due).0) in
    let its = put_block o journal id last.number head old version block brief due in
    omega (arith, same, drawn, its, below)
undone_block o journal last e request version block brief below (takes_out anchor id text) due same =
    let drawn = name_drawn (document_of o journal) journal id (first_none _ _ (accepted_edit o journal (Cut id last.number) version block brief due).0) in
    let its = cut_block o journal id last.number version block brief due in
    omega (arith, same, drawn, its, below)

told_head : (told : Reply) (h : ℕ) → ((version block : ℕ) (brief : Brief) → told ≡ reply.Accepted version block brief → block ≡ head_id → ⊥) → put_head (group.One told) h ≡ h
told_head (reply.Accepted version block brief) h other = ap (λ (t : Bool). cond t version h) (ne_eqb block head_id (other version block brief refl))
told_head told h other = refl

undo_head : (o : Opening) (n : ℕ) (journal : List Entry) (last : Option Undoable) (r : GroupReply) (edits : List Edit) → (document_of o journal).drawn < head_id → IsUndo o n journal last r edits → (h : ℕ) → put_head r h ≡ h
undo_head o n journal last r edits below (nothing) h = refl
undo_head o n journal last r edits below (undone some request s es undoes one) h =
    ap (λ (x : GroupReply). put_head x h) one.reply_is
    ∙ told_head one.told h (λ version block brief is. undone_block o journal some some.edit request version block brief below (undoes_it o journal some some.edit request undoes) (subst (IsReply o journal request) is one.answered))

either_head : (b : Bool) (r : GroupReply) (h : ℕ) → put_head r h ≡ h → undone_head b r h ≡ h
either_head true r h same = same
either_head false r h same = refl

pub quiet_memory : (m : Memory) (b : Bool) → undone_memory m b group.NoMemory ≡ m
quiet_memory m true = refl
quiet_memory m false = refl

-- without a turn
pub undo_short : (o : Opening) (n : ℕ) (last : Bool) (v : View Opening Chunk) → IsUndoHeard o n last group.NoMemory v v
undo_short o n last v = record {
  heard = short_reply;
  reply_is = refl;
  taken = λ m. taken_short (group_core o) (is_core o) n m step.Undo v;
  head = λ h. either_head last group.NoMemory h refl;
  memory = λ known m. quiet_memory m last;
  after = λ known. known;
}

-- at a turn
pub undo_heard : (o : Opening) (n : ℕ) (last : Bool) (told : Told) (P : List Chunk → Option Chunk → Type 0) (v w : View Opening Chunk) → v.first ≤ n → n < v.past
    → Turned session_of_chunk n (λ before added. groups.IsRightGroupReply o before n asks.Undo told added × P before added) v w → IsUndoHeard o n last told.reply v w
undo_heard o n last told P v w above below t = ⊎_elim none due t.is_right.0.answer
  where
    found : last ≡ is_put_undo (undoable_of_session n v.seen) → is_put_undo (undoable_of_session n t.before) ≡ last
    found known = ap (λ (l : List Chunk). is_put_undo (undoable_of_session n l)) t.catches.seen.1 ∙ ap is_put_undo (undoable_foreign n v.first v.past v.seen t.catches.seen.0 above below t.catches.seen.2) ∙ sym known

    taken : (h : HeardReply) → t.added ≡ chunk_of n h.edits → ((m : Memory) → IsReplyGiven (group_core o) n t.before m step.Undo h) → (m : Memory) → IsCommandTaken (group_core o) n m step.Undo h v w
    taken h added given m = record {
      more = t.catches.seen.0;
      added = t.added;
      foreign = t.catches.seen.2;
      entry = sym added;
      given = subst (λ (j : List Chunk). IsReplyGiven (group_core o) n j m step.Undo h) t.catches.seen.1 (given m);
      seen = seen_after_turn t;
      first = ap (λ (x : View Opening Chunk). x.first) t.after;
      past = ap (λ (x : View Opening Chunk). x.past) t.after;
    }

    after : (h : HeardReply) → ((m : Memory) → IsCommandTaken (group_core o) n m step.Undo h v w) → puts_behind h.edits last ≡ last → last ≡ is_put_undo (undoable_of_session n v.seen) → last ≡ is_put_undo (undoable_of_session n w.seen)
    after h all behind known = sym behind ∙ ap (puts_behind h.edits) known ∙ sym (taken_puts o n (first_memory o) step.Undo h v w above below (all (first_memory o)))

    none : (told.reply ≡ group.NoMemory) × (t.added ≡ None) → IsUndoHeard o n last told.reply v w
    none is = let all = taken short_reply is.1 (λ m. inl refl) in record {
      heard = short_reply;
      reply_is = is.0;
      taken = all;
      head = λ h. either_head last told.reply h (ap (λ (x : GroupReply). put_head x h) is.0);
      memory = λ known m. ap (undone_memory m last) is.0 ∙ quiet_memory m last;
      after = after short_reply all refl;
    }

    due : (edits : List Edit) × IsUndo o n (entries_of_chunks t.before) (undoable_of_session n t.before) told.reply edits × (t.added ≡ chunk_of n edits) → IsUndoHeard o n last told.reply v w
    due d =
        let h : HeardReply = record { reply = told.reply; before = length t.before; edits = d.0 } in
        let all = taken h d.2 (λ m. inr (record { answer = d.1; given = λ yes. refl })) in
        let few : (document_of o (entries_of_chunks t.before)).drawn < head_id = let fit = t.is_right.0.ids_fit in let ids = t.is_right.0.ids in omega (arith, fit, ids) in
        let teaches : last ≡ is_put_undo (undoable_of_session n v.seen) → Teaches last told.reply d.0
        = λ known. subst (λ (b : Bool). Teaches b told.reply d.0) (found known) (undo_teaches o n (entries_of_chunks t.before) (undoable_of_session n t.before) told.reply d.0 d.1) in
        record {
          heard = h;
          reply_is = refl;
          taken = all;
          head = λ head. either_head last told.reply head (undo_head o n (entries_of_chunks t.before) (undoable_of_session n t.before) told.reply d.0 few d.1 head);
          memory = λ known. (teaches known).memory;
          after = λ known. after h all (teaches known).after known;
        }
