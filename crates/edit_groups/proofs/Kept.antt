-- What a book of groups keeps, behind one more step.
use Rattle.std.proofs.Common.{◌≡◌, ◌≢◌, ℕ, ◌+◌, ◌<◌, ◌≤◌, Bool, true, false, eqb, List, [], ◌∷◌, ◌++◌, length, replicate, set, slice_get, Option, Some, None, IfSome, sym, ap, ◌∙◌, refl, subst, arith, length-append}
use Rattle.std.proofs.lemmas.Bool.{eqb-true, eqb-false}
use Rattle.std.proofs.lemmas.List.{length-map}
use Rattle.edit_journal.specs.declared.edit.Edit.{Edit}
use Rattle.edit_journal.specs.declared.edit.Entry.{Entry}
use Rattle.edit_book.specs.Books.{BookView}
use Rattle.edit_book.proofs.Puts.{set_there, set_other}
use Rattle.edit_groups.specs.Chunks.{Undoable, earlier_step, earlier_steps, entries_by, entries_of_chunks, undoable_of_session, undoable_in}
use Rattle.edit_groups.specs.Groups.{IsGroupBookKept, IsUndoable, number_kept}
use Rattle.edit_groups.specs.declared.chunk.Chunk.{Chunk}
use Rattle.edit_groups.proofs.Entered.{undoable_longer}
use Rattle.edit_groups.proofs.Undoable.{entries_earlier, entries_push, length_by, none_earlier, undoable_other, undoable_own}

got_zeros : (n k : ℕ) → k < n → slice_get {X = ℕ} (replicate n 0) k ≡ Some 0
got_zeros ℕ.zero k less = absurd (omega arith)
got_zeros (ℕ.suc n) ℕ.zero less = refl
got_zeros (ℕ.suc n) (ℕ.suc k) less = got_zeros n k (omega arith)

-- before the first step
pub kept_none : (held : BookView) (chunks : List Chunk) → held.entries ≡ [] → chunks ≡ [] → IsGroupBookKept held chunks (replicate 64 0)
kept_none held chunks unedited none = subst (λ (cs : List Chunk). IsGroupBookKept held cs (replicate 64 0)) (sym none) (record {
  entries = unedited;
  sizes = omega arith;
  known = λ session less. got_zeros 64 session less;
  undoes = λ session. tt;
})

-- before the first step of those who find a journal
pub kept_earlier : (held : BookView) (chunks : List Chunk) → chunks ≡ earlier_steps held.entries → IsGroupBookKept held chunks (replicate 64 0)
kept_earlier held chunks are = subst (λ (cs : List Chunk). IsGroupBookKept held cs (replicate 64 0)) (sym are) (record {
  entries = sym (entries_earlier held.entries);
  sizes = omega (arith, length-map held.entries (λ (e : Entry). earlier_step e));
  known = λ session less. got_zeros 64 session less ∙ ap (λ (o : Option Undoable). Some (number_kept o)) (sym (none_earlier session held.entries));
  undoes = λ session. subst (λ (o : Option Undoable). IfSome o (IsUndoable held.opening (entries_of_chunks (earlier_steps held.entries)))) (sym (none_earlier session held.entries)) tt;
})

within : {X : Type 0} (xs : List X) (i : ℕ) (x : X) → slice_get xs i ≡ Some x → i < length xs
within [] i x is = absurd (cc)
within (y ∷ xs) ℕ.zero x is = omega arith
within (y ∷ xs) (ℕ.suc i) x is = let less = within xs i x is in omega (arith, less)

pub kept_more : (held now : BookView) (chunks : List Chunk) (kept new : List ℕ) (session : ℕ) (edits : List Edit) → IsGroupBookKept held chunks kept → now.opening ≡ held.opening → now.entries ≡ held.entries ++ entries_by session edits → 0 < length edits
    → session < 64 → new ≡ set kept session (number_kept (undoable_in (length held.entries + 1) edits))
    → IfSome (undoable_in (length held.entries + 1) edits) (IsUndoable held.opening (held.entries ++ entries_by session edits))
    → IsGroupBookKept now (chunks ++ record { session = session; edits = edits; earlier = false } ∷ []) new
kept_more held now chunks kept new session edits k opening entries some few new_is undone =
    let c : Chunk = record { session = session; edits = edits; earlier = false } in
    let steps : List Chunk = chunks ++ c ∷ [] in
    let last : Option Undoable = undoable_in (length held.entries + 1) edits in
    let journal : held.entries ++ entries_by session edits ≡ entries_of_chunks steps = ap (λ (l : List Entry). l ++ entries_by session edits) k.entries ∙ sym (entries_push chunks c) in
    let counted : undoable_in (length (entries_of_chunks chunks) + 1) edits ≡ last = ap (λ (l : List Entry). undoable_in (length l + 1) edits) (sym k.entries) in
    let own : undoable_of_session session steps ≡ last = undoable_own session chunks c refl ∙ counted in
    record {
      entries = entries ∙ journal;
      sizes = let sizes = k.sizes in omega (arith, length-append chunks (c ∷ []), ap length entries, length-append held.entries (entries_by session edits), length_by session edits);
      known = λ s less. known s less (eqb s session) refl own;
      undoes = λ s. undoes s (eqb s session) refl own journal;
    }
  where
    known : (s : ℕ) → s < 64 → (t : Bool) → eqb s session ≡ t → undoable_of_session session (chunks ++ record { session = session; edits = edits; earlier = false } ∷ []) ≡ undoable_in (length held.entries + 1) edits
        → slice_get new s ≡ Some (number_kept (undoable_of_session s (chunks ++ record { session = session; edits = edits; earlier = false } ∷ [])))
    known s less true is own = let same : s ≡ session = eqb-true s session is in
        ap (λ (p : List ℕ × ℕ). slice_get p.0 p.1) (λ i. (new_is i, same i))
        ∙ set_there kept session (number_kept (undoable_in (length held.entries + 1) edits)) (within kept session (number_kept (undoable_of_session session chunks)) (k.known session few))
        ∙ ap (λ (o : Option Undoable). Some (number_kept o)) (sym own)
        ∙ ap (λ (n : ℕ). Some (number_kept (undoable_of_session n (chunks ++ record { session = session; edits = edits; earlier = false } ∷ [])))) (sym same)
    known s less false is own = let differ : s ≢ session = eqb-false s session is in
        ap (λ (l : List ℕ). slice_get l s) new_is
        ∙ set_other kept session (number_kept (undoable_in (length held.entries + 1) edits)) s differ
        ∙ k.known s less
        ∙ ap (λ (o : Option Undoable). Some (number_kept o)) (sym (undoable_other s chunks (record { session = session; edits = edits; earlier = false }) (λ e. differ (sym e))))

    undoes : (s : ℕ) → (t : Bool) → eqb s session ≡ t → undoable_of_session session (chunks ++ record { session = session; edits = edits; earlier = false } ∷ []) ≡ undoable_in (length held.entries + 1) edits
        → held.entries ++ entries_by session edits ≡ entries_of_chunks (chunks ++ record { session = session; edits = edits; earlier = false } ∷ [])
        → IfSome (undoable_of_session s (chunks ++ record { session = session; edits = edits; earlier = false } ∷ [])) (IsUndoable now.opening (entries_of_chunks (chunks ++ record { session = session; edits = edits; earlier = false } ∷ [])))
    undoes s true is own journal = let same : s ≡ session = eqb-true s session is in
        subst (λ (n : ℕ). IfSome (undoable_of_session n (chunks ++ record { session = session; edits = edits; earlier = false } ∷ [])) (IsUndoable now.opening (entries_of_chunks (chunks ++ record { session = session; edits = edits; earlier = false } ∷ [])))) (sym same)
        (subst (λ (o : Option Undoable). IfSome o (IsUndoable now.opening (entries_of_chunks (chunks ++ record { session = session; edits = edits; earlier = false } ∷ [])))) (sym own)
        (subst (λ (j : List Entry). IfSome (undoable_in (length held.entries + 1) edits) (IsUndoable now.opening j)) journal
        (subst (λ o. IfSome (undoable_in (length held.entries + 1) edits) (IsUndoable o (held.entries ++ entries_by session edits))) (sym opening) undone)))
    undoes s false is own journal = let differ : s ≢ session = eqb-false s session is in
        subst (λ (o : Option Undoable). IfSome o (IsUndoable now.opening (entries_of_chunks (chunks ++ record { session = session; edits = edits; earlier = false } ∷ [])))) (sym (undoable_other s chunks (record { session = session; edits = edits; earlier = false }) (λ e. differ (sym e))))
        (subst (λ (j : List Entry). IfSome (undoable_of_session s chunks) (IsUndoable now.opening j)) journal
        (subst (λ o. IfSome (undoable_of_session s chunks) (IsUndoable o (held.entries ++ entries_by session edits))) (sym opening)
        (subst (λ (l : List Entry). IfSome (undoable_of_session s chunks) (IsUndoable held.opening (l ++ entries_by session edits))) (sym k.entries)
        (undoable_longer held.opening (entries_of_chunks chunks) (entries_by session edits) (undoable_of_session s chunks) (k.undoes s)))))
