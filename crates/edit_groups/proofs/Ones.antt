-- One command of the book, accepted.
use Rattle.std.proofs.Common.{false, ◌≡◌, ◌⊎◌, inl, inr, ⊎_elim, ℕ, ◌+◌, ◌<◌, List, [], ◌∷◌, ◌++◌, length, length-append, set, slice_get, unwrap_or, Option, Some, None, IfSome, Ok, sym, ap, ◌∙◌, refl, subst, arith}
use Rattle.std.specs.Option.{option_map, option_to_list}
use Rattle.carriage_model.specs.declared.verdict.Brief.{Brief}
use Rattle.edit_journal.specs.declared.edit.Edit.{Edit}
use Rattle.edit_journal.specs.declared.edit.Entry.{Entry}
use Rattle.edit_journal.specs.declared.opening.Opening.{Opening}
use Rattle.edit_journal.specs.Documents.{document_of}
use Rattle.edit_book.specs.Books.{BookView}
use Rattle.edit_book.specs.Replies.{IsReply, edit_of, entry_of, request_of_command}
use Rattle.edit_book.specs.Turns.{IsRightReply}
use Rattle.edit_book.specs.declared.reply.BookCommand.{BookCommand}
use Rattle.edit_book.specs.declared.reply.Reply.TheVariants as reply
use Rattle.turn_book.specs.Journal.{Appends, entry_list}
use Rattle.edit_groups.specs.Answers.{IsCommandAnswered, One, edits_in}
use Rattle.edit_groups.specs.Carried.{IsEditDone}
use Rattle.edit_groups.specs.Chunks.{chunk_of, entries_by, entries_of_chunks, undoable_in}
use Rattle.edit_groups.specs.Groups.{IsGroupBookKept, IsStepTaken, IsUndoable, number_kept}
use Rattle.edit_groups.specs.declared.chunk.Chunk.{Chunk}
use Rattle.edit_groups.specs.declared.reply.GroupReply.TheVariants as group
use Rattle.edit_groups.proofs.Accepted.{IsEditAsked, accepted_edit}
use Rattle.edit_groups.proofs.Entered.{one_undone}
use Rattle.edit_groups.proofs.Kept.{kept_more}

-- the last of one
last_is : (front : List Edit) (e last : Edit) → e ∷ [] ≡ front ++ last ∷ [] → e ≡ last
last_is [] e last is = ap (λ (l : List Edit). unwrap_or (slice_get l 0) e) is
last_is (x ∷ front) e last is = absurd (let n = ap length is in let m = length-append front (last ∷ []) in omega (arith, n, m))

module _ (held now : BookView) (number : ℕ) (command : BookCommand) (version block : ℕ) (brief : Brief) (edits : List Edit)
    (turn : Appends (λ (e : Entry). e.session) number (IsRightReply held.opening held.entries number command (reply.Accepted version block brief)) held.entries now.entries)
    (edits_are : edits ≡ option_to_list (edit_of (request_of_command command) (document_of held.opening held.entries).drawn)) where
  -- the edit that the command asks for is the one that is entered
  pub record IsOneEdit : Type 0 where
    pub e : Edit
    pub due : IsReply held.opening held.entries (request_of_command command) (reply.Accepted version block brief)
    pub edits_is : edits ≡ e ∷ []
    pub entered : entry_of number (request_of_command command) (reply.Accepted version block brief) ≡ Some (record { session = number; edit = e })
    pub journal : now.entries ≡ held.entries ++ record { session = number; edit = e } ∷ []
    pub numbered : version ≡ length held.entries + 1

  pub one_edit : IsOneEdit
  one_edit = ⊎_elim
      (λ short. absurd (let is = short.0 in cc))
      (λ right.
      let asks : IsEditAsked (document_of held.opening held.entries) (length held.entries) (request_of_command command) version block =
      (accepted_edit held.opening held.entries (request_of_command command) version block brief right.0).1 in
      let here : entry_of number (request_of_command command) (reply.Accepted version block brief) ≡ Some (record { session = number; edit = asks.e }) =
      ap (option_map (λ (x : Edit). record { session = number; edit = x })) asks.here in
      record {
        e = asks.e;
        due = right.0;
        edits_is = edits_are ∙ ap option_to_list asks.next;
        entered = here;
        journal = turn.1 ∙ ap (λ (o : Option Entry). held.entries ++ entry_list o) (right.1 ∙ here);
        numbered = asks.number;
      })
      turn.3

  -- the only edit is the last one
  pub only_edit : (front : List Edit) (last : Edit) → edits ≡ front ++ last ∷ [] → IsEditDone held.opening number held.entries (Ok (request_of_command command)) last now.entries
  only_edit front last are = let x = one_edit in
      let same : x.e ≡ last = last_is front x.e last (sym x.edits_is ∙ are) in
      subst (λ (e : Edit). IsEditDone held.opening number held.entries (Ok (request_of_command command)) e now.entries) same
      (record { told = reply.Accepted version block brief; answered = x.due; entered = x.entered; journal_is = x.journal })

module _ (held now : BookView) (chunks : List Chunk) (kept : List ℕ) (number : ℕ) (command : BookCommand) (version block : ℕ) (brief : Brief) (edits : List Edit) (k : IsGroupBookKept held chunks kept)
    (turn : Appends (λ (e : Entry). e.session) number (IsRightReply held.opening held.entries number command (reply.Accepted version block brief)) held.entries now.entries)
    (edits_are : edits ≡ option_to_list (edit_of (request_of_command command) (document_of held.opening held.entries).drawn)) where
  abbrev steps : List Chunk
  steps = chunks ++ record { session = number; edits = edits; earlier = false } ∷ []

  pub one_kept : number < 64 → now.opening ≡ held.opening → IsGroupBookKept now steps (set kept number (number_kept (undoable_in version edits)))
  one_kept few opening = let x = one_edit held now number command version block brief edits turn edits_are in
      let asked : undoable_in version edits ≡ undoable_in (length held.entries + 1) (x.e ∷ []) = ap (λ (p : ℕ × List Edit). undoable_in p.0 p.1) (λ i. (x.numbered i, x.edits_is i)) in
      let undone : undoable_in (length held.entries + 1) edits ≡ undoable_in (length held.entries + 1) (x.e ∷ []) = ap (undoable_in (length held.entries + 1)) x.edits_is in
      let entered : Entry = record { session = number; edit = x.e } in
      kept_more held now chunks kept (set kept number (number_kept (undoable_in version edits))) number edits k opening
      (x.journal ∙ ap (λ (es : List Edit). held.entries ++ entries_by number es) (sym x.edits_is))
      (let many : length edits ≡ 1 = ap length x.edits_is in omega (arith, many))
      few
      (ap (λ o. set kept number (number_kept o)) (asked ∙ sym undone))
      (subst (λ (es : List Edit). IfSome (undoable_in (length held.entries + 1) es) (IsUndoable held.opening (held.entries ++ entries_by number es))) (sym x.edits_is)
      (one_undone held.opening held.entries number (Ok (request_of_command command)) (reply.Accepted version block brief) entered x.due x.entered))

  pub one_taken : IsStepTaken held.opening chunks number (One (Ok (request_of_command command))) (group.One (reply.Accepted version block brief)) steps
  one_taken = let x = one_edit held now number command version block brief edits turn edits_are in
      let chunk : entry_list (chunk_of number edits) ≡ record { session = number; edits = edits; earlier = false } ∷ [] =
      ap (λ (es : List Edit). entry_list (chunk_of number es)) x.edits_is ∙ ap (λ (es : List Edit). record { session = number; edits = es; earlier = false } ∷ []) (sym x.edits_is) in
      inr (
        edits,
        record {
          told = reply.Accepted version block brief;
          answered = subst (λ (j : List Entry). IsReply held.opening j (request_of_command command) (reply.Accepted version block brief)) k.entries x.due;
          reply_is = refl;
          edits_are = x.edits_is ∙ ap edits_in (sym x.entered);
        },
        ap (λ (l : List Chunk). chunks ++ l) (sym chunk),
      )
