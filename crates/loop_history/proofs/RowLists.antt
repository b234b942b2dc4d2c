-- Lists that are made row by row from another one's.
use Rattle.std.proofs.Common.{◌≡◌, ℕ, ◌+◌, List, [], ◌∷◌, ◌++◌, take, map, Some, ap, sym, ◌∙◌}
use Rattle.std.specs.Prelude.{slice_get}
use Rattle.std.proofs.lemmas.List.{map-append, take_more}
use Rattle.std.proofs.lemmas.Option.{get_or_from_slice_get, slice_get_within}
use Rattle.loop_history.specs.declared.row.LoopRow.{LoopRow}

-- the first rows and the next one
taken_more : (rows : List LoopRow) (i : ℕ) (row : LoopRow) → slice_get rows i ≡ Some row → take (i + 1) rows ≡ take i rows ++ row ∷ []
taken_more rows i row is =
    take_more rows i row (slice_get_within rows i row is) ∙ ap (λ (next : LoopRow). take i rows ++ next ∷ []) (get_or_from_slice_get rows i row row is)

-- one more row was copied
pub copied-more : (rows copy newer : List LoopRow) (i : ℕ) (row same : LoopRow) → copy ≡ take i rows → slice_get rows i ≡ Some row → same ≡ row → newer ≡ copy ++ same ∷ [] → newer ≡ take (i + 1) rows
copied-more rows copy newer i row same before is copied behind =
    behind ∙ ap (λ (first : List LoopRow). first ++ same ∷ []) before ∙ ap (λ (next : LoopRow). take i rows ++ next ∷ []) copied ∙ sym (taken_more rows i row is)

-- one more row was read through something
pub mapped-more : (f : LoopRow → LoopRow) (rows more newer : List LoopRow) (i : ℕ) (row next : LoopRow) → more ≡ map f (take i rows) → slice_get rows i ≡ Some row → next ≡ f row → newer ≡ more ++ next ∷ []
    → newer ≡ map f (take (i + 1) rows)
mapped-more f rows more newer i row next before is read behind =
    behind ∙ ap (λ (first : List LoopRow). first ++ next ∷ []) before ∙ ap (λ (last : LoopRow). map f (take i rows) ++ last ∷ []) read
    ∙ sym (map-append f (take i rows) (row ∷ [])) ∙ ap (map f) (sym (taken_more rows i row is))
