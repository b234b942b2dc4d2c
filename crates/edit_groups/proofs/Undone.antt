-- What an undo asks of the book, and how many steps it takes.
use Rattle.std.proofs.Common.{◌≡◌, ◌⊎◌, inl, inr, ⊎_elim, ℕ, zero, suc, ◌+◌, ◌<◌, ◌≤◌, List, [], ◌∷◌, ◌++◌, length, slice_get, slice_index_or, unwrap_or, Option, Some, None, Ok, IfSome, IsSome, option_map, sym, ap, ◌∙◌, refl, subst, append-nil, arith}
use Rattle.std.specs.Option.{option_map_or}
use Rattle.block_summary.specs.Prepared.{IsPreparedFor}
use Rattle.block_summary.specs.declared.prepared.Prepared.{Prepared}
use Rattle.edit_journal.specs.declared.edit.Anchor.{Anchor}
use Rattle.edit_journal.specs.declared.edit.Edit.{Edit}
use Rattle.edit_journal.specs.declared.edit.Edit.TheVariants as edit
use Rattle.edit_journal.specs.declared.edit.Entry.{Entry}
use Rattle.edit_journal.specs.declared.opening.Opening.{Opening}
use Rattle.edit_journal.specs.Documents.{document_of, names_given, text_at}
use Rattle.edit_journal.specs.Entries.{entry_at}
use Rattle.edit_journal.proofs.Known.{all_known}
use Rattle.edit_book.specs.Books.{BookView}
use Rattle.edit_book.specs.Replies.{Request, Put, Cut, PutHead, request_of_command}
use Rattle.edit_book.specs.Work.{command_limit, work_limit}
use Rattle.edit_book.specs.declared.reply.BookCommand.{BookCommand}
use Rattle.edit_book.specs.declared.reply.BookCommand.TheVariants as command
use Rattle.edit_groups.specs.Answers.{IsCommandAnswered, IsUndo, One, Undo, nothing, undone, request_undoing}
use Rattle.edit_groups.specs.Chunks.{Undoable, entries_of_chunks, undoable_of_session}
use Rattle.edit_groups.specs.Groups.{GroupView, IsGroupBookKept, IsStepTaken, IsUndoable, IsUndoing, number_kept, undo_limit}
use Rattle.edit_groups.specs.declared.chunk.Chunk.{Chunk}
use Rattle.edit_groups.specs.declared.reply.GroupReply.{GroupReply}
use Rattle.edit_groups.specs.declared.reply.GroupReply.TheVariants as group

got_or : (xs : List ℕ) (i x : ℕ) → slice_get xs i ≡ Some x → slice_index_or xs i 0 ≡ x
got_or [] i x is = absurd (cc)
got_or (y ∷ xs) zero x is = ap (λ o. unwrap_or o 0) is
got_or (y ∷ xs) (suc i) x is = got_or xs i x is

-- what can be undone is the edit of the entry that was found by the number that is kept
record IsLast (last : Option Undoable) (number : ℕ) (e : Edit) : Type 0 where
  is : last ≡ Some (record { number = number; edit = e })

module _ (held : BookView) (chunks : List Chunk) (kept : List ℕ) (session : ℕ) (few : session < 64) (k : IsGroupBookKept held chunks kept) where
  abbrev number : ℕ
  number = slice_index_or kept session 0

  at_last : number ≡ number_kept (undoable_of_session session chunks)
  at_last = got_or kept session (number_kept (undoable_of_session session chunks)) (k.known session few)

  last_is : (e : Edit) → option_map (λ (x : Entry). x.edit) (entry_at held.entries number) ≡ Some e → IsLast (undoable_of_session session chunks) number e
  last_is e found = go (undoable_of_session session chunks) refl (k.undoes session)
    where
      go : (last : Option Undoable) → undoable_of_session session chunks ≡ last → IfSome last (IsUndoable held.opening (entries_of_chunks chunks)) → IsLast last number e
      go None none u = let zeroth : number ≡ 0 = at_last ∙ ap number_kept none in
          let here : option_map (λ (x : Entry). x.edit) (entry_at held.entries 0) ≡ Some e = ap (λ n. option_map (λ (x : Entry). x.edit) (entry_at held.entries n)) (sym zeroth) ∙ found in
          absurd (cc)
      go (Some last) some u = let there : number ≡ last.number = at_last ∙ ap number_kept some in
          let same : Some last.edit ≡ Some e = sym u.stands ∙ (ap (λ (p : List Entry × ℕ). option_map (λ (x : Entry). x.edit) (entry_at p.0 p.1)) (λ i. (sym k.entries i, sym there i)) ∙ found) in
          let edits : last.edit ≡ e = ap (λ (o : Option Edit). unwrap_or o e) same in
          record { is = ap (λ (p : ℕ × Edit). Some (record { number = p.0; edit = p.1 })) (λ i. (sym there i, edits i)) }

  -- putting back the text that a put replaced
  pub puts_back : (block seen : ℕ) (text old : List (List ℕ)) (head : ℕ) (prepared : Prepared) → option_map (λ (x : Entry). x.edit) (entry_at held.entries number) ≡ Some (edit.Put block seen text) → Some old ≡ text_at held.opening held.entries block seen
      → head ≡ (document_of held.opening held.entries).header.stamp → prepared.text ≡ old → IsPreparedFor held.opening.setting.profile (document_of held.opening held.entries).header.names prepared
      → IsUndoing held.opening (entries_of_chunks chunks) (undoable_of_session session chunks) (Some (command.Put block number head prepared))
  puts_back block seen text old head prepared found had head_is text_is for = let l = last_is (edit.Put block seen text) found in
      subst (λ (o : Option Undoable). IsUndoing held.opening (entries_of_chunks chunks) o (Some (command.Put block number head prepared))) (sym l.is)
      (subst (λ (j : List Entry). IsUndoing held.opening j (Some (record { number = number; edit = edit.Put block seen text })) (Some (command.Put block number head prepared))) k.entries (
        command.Put block number head prepared,
        refl,
        ap (λ (t : Option (List (List ℕ))). option_map (Put block number (document_of held.opening held.entries).header.stamp) t) (sym had)
            ∙ ap (λ (p : ℕ × List (List ℕ)). Some (Put block number p.0 p.1)) (λ i. (sym head_is i, sym text_is i)),
        record {
          names = (document_of held.opening held.entries).header.names;
          given = ap (names_given held.opening held.entries) head_is ∙ (all_known held.opening held.entries).header;
          prepared_for = for;
        },
      ))

  -- cutting the block that an add made
  pub cuts_again : (anchor : Anchor) (block : ℕ) (text : List (List ℕ)) → option_map (λ (x : Entry). x.edit) (entry_at held.entries number) ≡ Some (edit.Add anchor block text)
      → IsUndoing held.opening (entries_of_chunks chunks) (undoable_of_session session chunks) (Some (command.Cut block number))
  cuts_again anchor block text found = let l = last_is (edit.Add anchor block text) found in
      subst (λ (o : Option Undoable). IsUndoing held.opening (entries_of_chunks chunks) o (Some (command.Cut block number))) (sym l.is) (command.Cut block number, refl, refl, tt)

  -- nothing can be undone where the entry that is kept isn't there, or has nothing that undoes it
  pub none_undone : ((last : Undoable) → undoable_of_session session chunks ≡ Some last → IsUndoable held.opening (entries_of_chunks chunks) last → ⊥) → IsUndoing held.opening (entries_of_chunks chunks) (undoable_of_session session chunks) None
  none_undone never = go (undoable_of_session session chunks) refl (k.undoes session)
    where
      go : (last : Option Undoable) → undoable_of_session session chunks ≡ last → IfSome last (IsUndoable held.opening (entries_of_chunks chunks)) → IsUndoing held.opening (entries_of_chunks chunks) last None
      go None none u = refl
      go (Some last) some u = absurd (never last some u)

  pub none_kept : None ≡ entry_at held.entries number → IsUndoing held.opening (entries_of_chunks chunks) (undoable_of_session session chunks) None
  none_kept none = none_undone (λ last some u.
      let there : number ≡ last.number = at_last ∙ ap number_kept some in
      let found : None ≡ entry_at (entries_of_chunks chunks) last.number = none ∙ ap (λ (p : List Entry × ℕ). entry_at p.0 p.1) (λ i. (k.entries i, there i)) in
      let stands : option_map (λ (x : Entry). x.edit) (entry_at (entries_of_chunks chunks) last.number) ≡ Some last.edit = u.stands in
      let clash : None ≡ Some last.edit = ap (option_map (λ (x : Entry). x.edit)) found ∙ stands in
      cc)

  pub none_after : (e : Edit) → option_map (λ (x : Entry). x.edit) (entry_at held.entries number) ≡ Some e → request_undoing held.opening (entries_of_chunks chunks) number e ≡ None → IsUndoing held.opening (entries_of_chunks chunks) (undoable_of_session session chunks) None
  none_after e found none = let l = last_is e found in none_undone (λ last some u.
      let same : record { number = number; edit = e } ≡ last = let both = sym l.is ∙ some in cc in
      let clash : IsSome (request_undoing held.opening (entries_of_chunks chunks) number e) = subst (λ (x : Undoable). IsSome (request_undoing held.opening (entries_of_chunks chunks) x.number x.edit)) (sym same) u.undone in
      let never : IsSome {T = Request} None = subst (λ (o : Option Request). IsSome o) none clash in
      cc)

-- the undo of what was found, as one command
pub taken_undo : (o : Opening) (chunks after : List Chunk) (session : ℕ) (c : BookCommand) (r : GroupReply) → IsUndoing o (entries_of_chunks chunks) (undoable_of_session session chunks) (Some c) → IsStepTaken o chunks session (One (Ok (request_of_command c))) r after → IsStepTaken o chunks session Undo r after
taken_undo o chunks after session c r u t = ⊎_elim
    (λ short. inl short)
    (λ due. inr (due.0, go (undoable_of_session session chunks) u due.1, due.2))
    t
  where
    go : {edits : List Edit} (last : Option Undoable) → IsUndoing o (entries_of_chunks chunks) last (Some c) → IsCommandAnswered o session (entries_of_chunks chunks) (Ok (request_of_command c)) r edits → IsUndo o session (entries_of_chunks chunks) last r edits
    go None u one = absurd (cc)
    go {edits} (Some last) u one =
        let same : u.0 ≡ c = let is = u.1 in cc in
        undone last (request_of_command c) r edits (u.2 ∙ ap (λ (x : BookCommand). Some (request_of_command x)) same) one

pub taken_nothing : (o : Opening) (chunks : List Chunk) (session : ℕ) → IsUndoing o (entries_of_chunks chunks) (undoable_of_session session chunks) None → IsStepTaken o chunks session Undo group.NoUndo chunks
taken_nothing o chunks session u = inr ([], go (undoable_of_session session chunks) u, sym (append-nil chunks))
  where
    go : (last : Option Undoable) → IsUndoing o (entries_of_chunks chunks) last None → IsUndo o session (entries_of_chunks chunks) last group.NoUndo []
    go None u = nothing
    go (Some last) u = absurd (let is = u.1 in cc)

-- what undoes one of these entries is within the limit of all of them
within : (o : Opening) (journal : List Entry) (number i : ℕ) (entries : List Entry) (e : Edit) (request : Request) → option_map (λ (x : Entry). x.edit) (slice_get entries i) ≡ Some e → request_undoing o journal (number + i) e ≡ Some request
    → work_limit o journal request ≤ undo_limit o journal number entries
within o journal number i [] e request is asks = absurd (cc)
within o journal number zero (x ∷ entries) e request is asks =
    let same : x.edit ≡ e = ap (λ (f : Option Edit). unwrap_or f e) is in
    let here : request_undoing o journal number x.edit ≡ Some request = ap (λ (p : ℕ × Edit). request_undoing o journal p.0 p.1) (λ j. (place j, same j)) ∙ asks in
    let first : option_map_or (work_limit o journal) (request_undoing o journal number x.edit) 0 ≡ work_limit o journal request = ap (λ (q : Option Request). option_map_or (work_limit o journal) q 0) here in
    omega (arith, first)
  where
    place : number ≡ number + 0
    place = omega arith
within o journal number (suc i) (x ∷ entries) e request is asks =
    let rest = within o journal (number + 1) i entries e request is (ap (λ n. request_undoing o journal n e) place ∙ asks) in
    omega (arith, rest)
  where
    place : number + 1 + i ≡ number + suc i
    place = omega arith

-- the command that undoes takes as many steps as what it asks
asked_limit : (o : Opening) (journal : List Entry) (number : ℕ) (e : Edit) (c : BookCommand) → request_undoing o journal number e ≡ Some (request_of_command c) → command_limit o journal c ≡ work_limit o journal (request_of_command c)
asked_limit o journal number e (command.Look block) is = refl
asked_limit o journal number e (command.Put block seen head prepared) is = refl
asked_limit o journal number e (command.Add anchor head prepared) is = refl
asked_limit o journal number e (command.Cut block seen) is = refl
asked_limit o journal number e (command.LoopAt line) is = refl
asked_limit o journal number e command.Verdict is = refl
asked_limit o journal number e command.LookHead is = refl
asked_limit o journal number e command.Texts is = refl
asked_limit o journal number e (command.PutHead seen names again) is = absurd (other e is)
  where
    other : (e : Edit) → request_undoing o journal number e ≡ Some (PutHead seen names) → ⊥
    other (edit.Put block old text) is = go (text_at o journal block old) is
      where
        go : (t : Option (List (List ℕ))) → option_map (Put block number (document_of o journal).header.stamp) t ≡ Some (PutHead seen names) → ⊥
        go None is = cc
        go (Some t) is = cc
    other (edit.Add anchor block text) is = cc
    other (edit.Cut block old) is = cc
    other (edit.Head old given) is = cc

pub undo_within : (held : BookView) (chunks : List Chunk) (kept : List ℕ) (session : ℕ) (c : BookCommand) → IsGroupBookKept held chunks kept → IsUndoing held.opening (entries_of_chunks chunks) (undoable_of_session session chunks) (Some c)
    → command_limit held.opening (entries_of_chunks chunks) c ≤ undo_limit held.opening (entries_of_chunks chunks) 1 (entries_of_chunks chunks)
undo_within held chunks kept session c k u = go (undoable_of_session session chunks) u (k.undoes session)
  where
    go : (last : Option Undoable) → IsUndoing held.opening (entries_of_chunks chunks) last (Some c) → IfSome last (IsUndoable held.opening (entries_of_chunks chunks)) → command_limit held.opening (entries_of_chunks chunks) c ≤ undo_limit held.opening (entries_of_chunks chunks) 1 (entries_of_chunks chunks)
    go None u v = absurd (cc)
    go (Some last) u v =
        let same : u.0 ≡ c = let is = u.1 in cc in
        let asks : request_undoing held.opening (entries_of_chunks chunks) last.number last.edit ≡ Some (request_of_command c) = u.2 ∙ ap (λ (x : BookCommand). Some (request_of_command x)) same in
        let limits = asked_limit held.opening (entries_of_chunks chunks) last.number last.edit c asks in
        let most = place last.number v.stands asks in
        omega (arith, limits, most)
      where
        place : (n : ℕ) → option_map (λ (x : Entry). x.edit) (entry_at (entries_of_chunks chunks) n) ≡ Some last.edit → request_undoing held.opening (entries_of_chunks chunks) n last.edit ≡ Some (request_of_command c) → work_limit held.opening (entries_of_chunks chunks) (request_of_command c) ≤ undo_limit held.opening (entries_of_chunks chunks) 1 (entries_of_chunks chunks)
        place zero stands asks = absurd (cc)
        place (suc i) stands asks = within held.opening (entries_of_chunks chunks) 1 i (entries_of_chunks chunks) last.edit (request_of_command c) stands (ap (λ n. request_undoing held.opening (entries_of_chunks chunks) n last.edit) number_is ∙ asks)
          where
            number_is : 1 + i ≡ suc i
            number_is = omega arith

pub within_view : {held v : GroupView} → held ≡ v → (book : BookView) (kept : List ℕ) (session : ℕ) (c : BookCommand) → IsGroupBookKept book held.chunks kept → book.opening ≡ held.opening → IsUndoing v.opening (entries_of_chunks v.chunks) (undoable_of_session session v.chunks) (Some c)
    → command_limit v.opening (entries_of_chunks v.chunks) c ≤ undo_limit v.opening (entries_of_chunks v.chunks) 1 (entries_of_chunks v.chunks)
within_view {held} {v} is book kept session c k opening u =
    subst (λ (w : GroupView). command_limit w.opening (entries_of_chunks w.chunks) c ≤ undo_limit w.opening (entries_of_chunks w.chunks) 1 (entries_of_chunks w.chunks)) is
    (subst (λ (o : Opening). command_limit o (entries_of_chunks held.chunks) c ≤ undo_limit o (entries_of_chunks held.chunks) 1 (entries_of_chunks held.chunks)) opening
    (undo_within book held.chunks kept session c k
    (subst (λ (o : Opening). IsUndoing o (entries_of_chunks held.chunks) (undoable_of_session session held.chunks) (Some c)) (sym opening)
    (subst (λ (w : GroupView). IsUndoing w.opening (entries_of_chunks w.chunks) (undoable_of_session session w.chunks) (Some c)) (sym is) u))))
