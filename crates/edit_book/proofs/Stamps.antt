-- One more stamp that a reply tells.
use Rattle.std.proofs.Common.{◌≡◌, ℕ, Bool, true, false, cond, ◌==◌, eqb, eq-eqb, ne_eqb, Option, Some, None, unwrap_or, sym, ap, ◌∙◌, refl}
use Rattle.std.specs.Option.{option_or}
use Rattle.std.proofs.lemmas.Bool.{eqb-true, eqb-false}
use Rattle.edit_journal.specs.Entries.{head_id}
use Rattle.edit_book.specs.Memory.{head_told, opening_stamp, with_told}
use Rattle.edit_book.specs.Session.{stamp_of}

told_over : (blocks : ℕ) (t : Option (ℕ × ℕ)) (learned : ℕ → Option ℕ) (id : ℕ) → stamp_of blocks (with_told t learned) id ≡ with_told t (stamp_of blocks learned) id
told_over blocks None learned id = refl
told_over blocks (Some told) learned id = go (id == told.0)
  where
    go : (t : Bool) → option_or (cond t (Some told.1) (learned id)) (opening_stamp blocks id) ≡ cond t (Some told.1) (option_or (learned id) (opening_stamp blocks id))
    go true = refl
    go false = refl

told_same : (t : Option (ℕ × ℕ)) (f g : ℕ → Option ℕ) (id : ℕ) → f id ≡ g id → with_told t f id ≡ with_told t g id
told_same None f g id e = e
told_same (Some told) f g id e = ap (cond (id == told.0) (Some told.1)) e

-- what was told over what was learned is what is remembered then
pub stamp_more : (blocks : ℕ) (t : Option (ℕ × ℕ)) (old new stamps : ℕ → Option ℕ) (id : ℕ) → new id ≡ with_told t old id → stamp_of blocks old id ≡ stamps id → stamp_of blocks new id ≡ with_told t stamps id
stamp_more blocks t old new stamps id is had = ap (λ s. option_or s (opening_stamp blocks id)) is ∙ (told_over blocks t old id ∙ told_same t (stamp_of blocks old) stamps id had)

-- the header's stamp is the one that is told of its id
pub head_more : (t : Option (ℕ × ℕ)) (stamps : ℕ → Option ℕ) (head new : ℕ) → new ≡ head_told t head → head ≡ unwrap_or (stamps head_id) 0 → new ≡ unwrap_or (with_told t stamps head_id) 0
head_more None stamps head new is had = is ∙ had
head_more (Some told) stamps head new is had = is ∙ go (eqb told.0 head_id) refl
  where
    go : (b : Bool) → eqb told.0 head_id ≡ b → cond b told.1 head ≡ unwrap_or (cond (head_id == told.0) (Some told.1) (stamps head_id)) 0
    go true same = ap (λ (c : Bool). unwrap_or (cond c (Some told.1) (stamps head_id)) 0) (sym (eq-eqb head_id told.0 (sym (eqb-true told.0 head_id same))))
    go false other = had ∙ ap (λ (c : Bool). unwrap_or (cond c (Some told.1) (stamps head_id)) 0) (sym (ne_eqb head_id told.0 (λ e. eqb-false told.0 head_id other (sym e))))

pub ruleset stamps = (stamp_more, head_more)
