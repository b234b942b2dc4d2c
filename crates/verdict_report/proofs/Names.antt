-- The names of the carriers one by one.
use Rattle.std.proofs.Common.{◌≡◌, ◌∙◌, ℕ, ◌+◌, ◌<◌, List, [], ◌∷◌, ◌++◌, length, take, get_or, map, unwrap_or, ap, sym}
use Rattle.std.specs.List.{slice_get}
use Rattle.std.proofs.lemmas.List.{map-append, take_more}
use Rattle.std.proofs.lemmas.Option.{slice_get-get_or}
use Rattle.json.specs.Print.{quoted}

-- one more name as a JSON string
pub quoted_more : (names : List (List ℕ)) (n : ℕ) → n < length names
    → map quoted (take n names) ++ quoted (unwrap_or (slice_get names n) []) ∷ [] ≡ map quoted (take (n + 1) names)
quoted_more names n within =
    ap (λ name. map quoted (take n names) ++ quoted (unwrap_or name []) ∷ []) (slice_get-get_or names n [] within)
    ∙ sym (map-append quoted (take n names) (get_or names n [] ∷ []))
    ∙ ap (map quoted) (sym (take_more names n [] within))
