-- The lines of passes as they are appended.
use Rattle.std.proofs.Common.{◌≡◌, ℕ, suc, ◌+◌, ◌-◌, ◌<◌, ◌≤◌, List, [], ◌∷◌, ◌++◌, length, take, get_or, flat_map, ap, sym, ◌∙◌, refl, arith}
use Rattle.std.proofs.lemmas.List.{flat_map_more, take_all, take_more}
use Rattle.pass_grouping.specs.declared.operation.PassOp.{PassOp}
use Rattle.pass_grouping.specs.Groupings.{passes_from}
use Rattle.pass_grouping.proofs.Groupings.{length-passes}
use Rattle.pass_grouping.specs.Facts.{last_of}
use Rattle.verdict_report.specs.PassesText.{pass_text}

-- the last of some operations by its place
pub last-at : (first : PassOp) (more : List PassOp) (d : PassOp) → 0 < length more → get_or more (length more - 1) d ≡ last_of first more
last-at first [] d some = absurd (omega arith)
last-at first (next ∷ []) d some = refl
last-at first (next ∷ op ∷ more) d some =
    ap (λ k. get_or (next ∷ op ∷ more) k d) {x = length (next ∷ op ∷ more) - 1} {y = suc (length (op ∷ more) - 1)} (omega arith) ∙ last-at next (op ∷ more) d (omega arith)

-- the line of one pass more
pub passes-more : (names : List (List ℕ)) (ops : List PassOp) (starts : List ℕ) (k : ℕ) (start out next : List ℕ) (pass : List PassOp) → k < length starts
    → pass ≡ get_or (passes_from ops starts) k [] → out ≡ start ++ flat_map (pass_text names) (take k (passes_from ops starts)) → next ≡ out ++ pass_text names pass
    → next ≡ start ++ flat_map (pass_text names) (take (k + 1) (passes_from ops starts))
passes-more names ops starts k start out next pass within is so_far appended =
    let passes : List (List PassOp) = passes_from ops starts in
    appended
    ∙ ap (λ t. t ++ pass_text names pass) so_far
    ∙ flat_map_more (pass_text names) start (take k passes) pass
    ∙ ap (λ p. start ++ flat_map (pass_text names) (take k passes ++ p ∷ [])) is
    ∙ ap (λ ps. start ++ flat_map (pass_text names) ps) (sym (take_more passes k [] (omega (arith, length-passes ops starts))))

-- the lines of all passes
pub passes-all : (names : List (List ℕ)) (ops : List PassOp) (starts : List ℕ) (k : ℕ) (start out : List ℕ) → length starts ≤ k
    → out ≡ start ++ flat_map (pass_text names) (take k (passes_from ops starts)) → out ≡ start ++ flat_map (pass_text names) (passes_from ops starts)
passes-all names ops starts k start out past so_far =
    so_far ∙ ap (λ ps. start ++ flat_map (pass_text names) ps) (take_all k (passes_from ops starts) (omega (arith, length-passes ops starts)))
