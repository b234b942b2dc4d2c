-- A group, done or refused.
use Rattle.std.proofs.Common.{false, ◌≡◌, inl, inr, ⊎_elim, ℕ, ◌+◌, ◌<◌, List, [], ◌∷◌, ◌++◌, length, map, Option, Some, None, Result, IfSome, sym, ap, ◌∙◌, refl, subst, append-nil, length-append, arith}
use Rattle.carriage_model.specs.declared.verdict.Brief.{Brief}
use Rattle.edit_journal.specs.declared.edit.Edit.{Edit}
use Rattle.edit_journal.specs.declared.edit.Entry.{Entry}
use Rattle.edit_journal.specs.declared.opening.Opening.{Opening}
use Rattle.edit_book.specs.Memory.{IsRequestAnswered}
use Rattle.edit_book.specs.Replies.{Request}
use Rattle.edit_book.specs.declared.reply.Reply.{Reply}
use Rattle.turn_book.specs.Journal.{entry_list}
use Rattle.edit_groups.specs.Answers.{AreAccepted, Group, IsBriefAt, IsGroupAnswered, done, refused}
use Rattle.edit_groups.specs.Carried.{IsCarriedOut, IsFirstRefused, IsStopOf, IsStopped, IsTakenOver, stop_reply}
use Rattle.edit_groups.specs.Chunks.{chunk_of, entries_by, entries_of_chunks, undoable_in}
use Rattle.edit_groups.specs.Groups.{IsStepTaken, IsUndoable}
use Rattle.edit_groups.specs.declared.chunk.Chunk.{Chunk}
use Rattle.edit_groups.specs.declared.group.Stop.{Stop}
use Rattle.edit_groups.specs.declared.group.Stop.TheVariants as stops
use Rattle.edit_groups.specs.declared.reply.GroupReply.{GroupReply}
use Rattle.edit_groups.specs.declared.reply.GroupReply.TheVariants as group
use Rattle.edit_groups.proofs.Entered.{all_undone}
use Rattle.edit_groups.proofs.Undoable.{length_by}

-- the edits of the entries that edits leave
edits_by : (session : ℕ) (edits : List Edit) → map (λ (e : Entry). e.edit) (entries_by session edits) ≡ edits
edits_by session [] = refl
edits_by session (e ∷ es) = ap (λ (l : List Edit). e ∷ l) (edits_by session es)

-- each that is accepted leaves one entry
as_many : (o : Opening) (session : ℕ) (journal : List Entry) (asked : List (Result Request Reply)) (entries : List Entry) → AreAccepted o session journal asked entries → length entries ≡ length asked
as_many o session journal [] entries none = ap length none
as_many o session journal (a ∷ asked) entries h = let more = as_many o session (journal ++ h.1 ∷ []) asked h.2 h.6 in let all = ap length h.5 in omega (arith, more, all)

-- a refused group leaves the steps as they were
stays : (o : Opening) (chunks : List Chunk) (session : ℕ) (asked : List (Result Request Reply)) (r : GroupReply) → IsGroupAnswered o session (entries_of_chunks chunks) asked r [] → IsStepTaken o chunks session (Group asked) r chunks
stays o chunks session asked r is = inr ([], is, sym (append-nil chunks))

module _ (o : Opening) (chunks : List Chunk) (session : ℕ) (journal : List Entry) (same : journal ≡ entries_of_chunks chunks) (asked : List (Result Request Reply)) where
  -- the first edit is refused
  pub taken_first : (base : ℕ) (told : Reply) → base ≡ length journal → IsFirstRefused o journal asked told → IsStepTaken o chunks session (Group asked) (group.Refused base 1 told) chunks
  taken_first base told base_is f = stays o chunks session asked (group.Refused base 1 told)
      (subst (λ (j : List Entry). IsGroupAnswered o session j asked (group.Refused base 1 told) []) same
      (subst (λ (n : ℕ). IsGroupAnswered o session journal asked (group.Refused n 1 told) []) (sym base_is)
      (refused [] f.here f.back [] told f.asked_are refl (subst (λ (j : List Entry). IsRequestAnswered o j f.here told) (sym (append-nil journal)) (f.refused session).answered) (f.refused session).none)))

  -- one of the edits is
  taken_stop : (base at : ℕ) (told : Reply) → base ≡ length journal → IsStopped o session journal asked at told → IsStepTaken o chunks session (Group asked) (group.Refused base at told) chunks
  taken_stop base at told base_is s = stays o chunks session asked (group.Refused base at told)
      (subst (λ (j : List Entry). IsGroupAnswered o session j asked (group.Refused base at told) []) same
      (subst (λ (p : ℕ × ℕ). IsGroupAnswered o session journal asked (group.Refused p.0 p.1 told) []) (λ i. (sym base_is i, sym s.number i))
      (refused s.front s.here s.back s.entries told s.asked_are s.accepted s.refused.answered s.refused.none)))

  -- or there was no memory
  pub taken_stopped : (base : ℕ) (stop : Stop) → base ≡ length journal → IsStopOf o session journal asked stop → IsStepTaken o chunks session (Group asked) (stop_reply base stop) chunks
  taken_stopped base (stops.Refused at told) base_is s = taken_stop base at told base_is s
  taken_stopped base stops.NoMemory base_is s = inl (refl, refl)

  module _ (edits : List Edit) (after : List Entry) (c : IsCarriedOut o session journal asked edits after) (some : 0 < length asked) where
    -- it has edits
    pub has_edits : 0 < length edits
    has_edits = let many = as_many o session journal asked (entries_by session edits) c.accepted in let by = length_by session edits in omega (arith, some, many, by)

    -- and what undoes it is known
    pub group_undone : IfSome (undoable_in (length journal + 1) edits) (IsUndoable o (journal ++ entries_by session edits))
    group_undone = subst (λ (es : List Edit). IfSome (undoable_in (length journal + 1) es) (IsUndoable o (journal ++ entries_by session edits))) (edits_by session edits)
        (all_undone o session journal asked (entries_by session edits) c.accepted)

    -- all are accepted
    pub taken_done : (r : GroupReply) (behind : List Chunk) → IsTakenOver o chunks session after edits r behind → IsStepTaken o chunks session (Group asked) r behind
    taken_done r behind t = ⊎_elim
        (λ short. inl short)
        (λ over.
        let last : length journal + length (entries_by session edits) ≡ length after = sym (ap length c.journal_is ∙ length-append journal (entries_by session edits)) in
        let first : length journal ≡ length (entries_of_chunks chunks) = ap length same in
        let reply : group.Done (length journal + length (entries_by session edits)) (length journal + 1) over.0 ≡ r = ap (λ (p : ℕ × ℕ). group.Done p.0 (p.1 + 1) over.0) (λ i. (last i, first i)) ∙ sym over.1 in
        inr (
          edits,
          subst (λ (j : List Entry). IsGroupAnswered o session j asked r edits) same
              (subst (λ (p : GroupReply × List Edit). IsGroupAnswered o session journal asked p.0 p.1) (λ i. (reply i, edits_by session edits i))
              (done (entries_by session edits) over.0 c.accepted (subst (λ (j : List Entry). IsBriefAt o j over.0) c.journal_is over.2))),
          over.3 ∙ ap (λ (l : List Chunk). chunks ++ l) (sym (whole edits has_edits)),
        ))
        t
      where
        whole : (es : List Edit) → 0 < length es → entry_list (chunk_of session es) ≡ record { session = session; edits = es; earlier = false } ∷ []
        whole [] none = absurd (omega (arith, none))
        whole (e ∷ es) some = refl
