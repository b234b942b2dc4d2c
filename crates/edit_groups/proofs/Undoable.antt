-- What can be undone, as steps are accepted.
use Rattle.std.proofs.Common.{◌≡◌, ◌≢◌, ℕ, ◌+◌, ◌-◌, ◌<◌, ◌≤◌, Bool, true, false, cond, eqb, eq-eqb, ne_eqb, List, [], ◌∷◌, ◌++◌, length, map, Option, Some, None, sym, ap, ◌∙◌, refl, subst, arith, append-nil, length-append}
use Rattle.std.proofs.lemmas.Grind.{flat_map-append}
use Rattle.std.proofs.lemmas.List.{length-map}
use Rattle.edit_journal.specs.declared.edit.Edit.{Edit}
use Rattle.edit_journal.specs.declared.edit.Entry.{Entry}
use Rattle.edit_groups.specs.Chunks.{Undoable, entries_by, entries_of_chunks, earlier_steps, undoable_of_session, undoable_from, undoable_of}
use Rattle.edit_groups.specs.declared.chunk.Chunk.{Chunk}

-- the journal of steps and more steps
pub entries_append : (xs ys : List Chunk) → entries_of_chunks (xs ++ ys) ≡ entries_of_chunks xs ++ entries_of_chunks ys
entries_append xs ys = flat_map-append (λ (c : Chunk). entries_by c.session c.edits) xs ys

pub entries_push : (xs : List Chunk) (c : Chunk) → entries_of_chunks (xs ++ c ∷ []) ≡ entries_of_chunks xs ++ entries_by c.session c.edits
entries_push xs c = entries_append xs (c ∷ []) ∙ ap (λ (l : List Entry). entries_of_chunks xs ++ l) (append-nil (entries_by c.session c.edits))

pub length_by : (session : ℕ) (edits : List Edit) → length (entries_by session edits) ≡ length edits
length_by session edits = let entry : Edit → Entry = λ e. record { session = session; edit = e } in length-map edits entry

-- what can be undone behind one more step
undoable_behind : (session number : ℕ) (found : Option Undoable) (xs : List Chunk) (c : Chunk)
    → undoable_from session number found (xs ++ c ∷ []) ≡ cond (eqb c.session session) (undoable_of (number + length (entries_of_chunks xs)) c) (undoable_from session number found xs)
undoable_behind session number found [] c = ap (λ (n : ℕ). cond (eqb c.session session) (undoable_of n c) found) (omega arith)
undoable_behind session number found (x ∷ xs) c =
    undoable_behind session (number + length x.edits) (cond (eqb x.session session) (undoable_of number x) found) xs c
    ∙ ap (λ (n : ℕ). cond (eqb c.session session) (undoable_of n c) (undoable_from session number found (x ∷ xs)))
    (omega (arith, length-append (entries_by x.session x.edits) (entries_of_chunks xs), length_by x.session x.edits))

pub undoable_push : (session : ℕ) (xs : List Chunk) (c : Chunk) → undoable_of_session session (xs ++ c ∷ []) ≡ cond (eqb c.session session) (undoable_of (length (entries_of_chunks xs) + 1) c) (undoable_of_session session xs)
undoable_push session xs c = undoable_behind session 1 None xs c ∙ ap (λ (n : ℕ). cond (eqb c.session session) (undoable_of n c) (undoable_of_session session xs)) (omega arith)

pub undoable_own : (session : ℕ) (xs : List Chunk) (c : Chunk) → c.session ≡ session → undoable_of_session session (xs ++ c ∷ []) ≡ undoable_of (length (entries_of_chunks xs) + 1) c
undoable_own session xs c is = undoable_push session xs c ∙ ap (λ (b : Bool). cond b (undoable_of (length (entries_of_chunks xs) + 1) c) (undoable_of_session session xs)) (eq-eqb c.session session is)

pub undoable_other : (session : ℕ) (xs : List Chunk) (c : Chunk) → c.session ≢ session → undoable_of_session session (xs ++ c ∷ []) ≡ undoable_of_session session xs
undoable_other session xs c isnt = undoable_push session xs c ∙ ap (λ (b : Bool). cond b (undoable_of (length (entries_of_chunks xs) + 1) c) (undoable_of_session session xs)) (ne_eqb c.session session isnt)

-- nothing is undone of earlier steps
either-way : (own : Bool) (found : Option Undoable) → cond own found found ≡ found
either-way true found = refl
either-way false found = refl

earlier_from : (session number : ℕ) (es : List Entry) → undoable_from session number None (earlier_steps es) ≡ None
earlier_from session number [] = refl
earlier_from session number (e ∷ es) =
    ap (λ (o : Option Undoable). undoable_from session (number + 1) o (earlier_steps es)) (either-way (eqb e.session session) None)
    ∙ earlier_from session (number + 1) es

pub none_earlier : (session : ℕ) (es : List Entry) → undoable_of_session session (earlier_steps es) ≡ None
none_earlier session es = earlier_from session 1 es

-- and their journal is the one that was there
pub entries_earlier : (es : List Entry) → entries_of_chunks (earlier_steps es) ≡ es
entries_earlier [] = refl
entries_earlier (e ∷ es) = ap (λ (l : List Entry). e ∷ l) (entries_earlier es)
