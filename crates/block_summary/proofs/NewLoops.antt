-- Needles that hold none but new loops.
use Rattle.std.proofs.Common.{◌≡◌, ℕ, ◌+◌, ◌≤◌, List, [], ◌∷◌, ◌++◌, false, ap, ◌∙◌, arith}
use Rattle.std.specs.Prelude.{◌-◌, nat_lt, if◌then◌else◌}
use Rattle.std.proofs.Math.Path.{ap₂}
use Rattle.std.proofs.lemmas.List.Sums.{sum_by-cons}
use Rattle.knit_base.specs.declared.needle.Needle.{Needle}
use Rattle.face_data.specs.declared.face.Effect.{Effect}
use Rattle.face_data.specs.declared.face.Last.{Last}
use Rattle.face_data.specs.Answers.{read_answer, size_answer, size_left}
use Rattle.face_data.specs.Answers.ConditionAnswer.{yes_it_does, no_it_does_not}
use Rattle.face_data.specs.Composition.{against_kept}
use Rattle.face_data.specs.Conditions.Ask.{size_at_most}
use Rattle.face_data.specs.Segments.{Changed, entry_needles_of, names_through, new_of, new_through, segments_on}
use Rattle.face_data.specs.Summaries.{AskedCondition}
use Rattle.block_summary.specs.DraftKnowledge.{IsConditionKnown}

none_left : (kept : List AskedCondition) (names : List Needle) (new most : ℕ) → names ≡ [] → new ≤ most → against_kept kept (size_answer names new most) ≡ yes_it_does
unfolding size_answer
none_left kept names new most none few =
    let low : nat_lt most new ≡ false = grind arith in
    ap (λ b. against_kept kept (if b then no_it_does_not else size_left names (most - new))) low ∙ ap (λ ns. against_kept kept (size_left ns (most - new))) none

-- two needles that hold so few new loops and no others have room
pub new_loops_hold : (kept : List AskedCondition) (effect : Effect) (lasts : List Last) (changes : List Changed) (n n2 : Needle) (first second most : ℕ) → entry_needles_of (segments_on changes n) ≡ [] → new_of (segments_on changes n) ≡ first →
    entry_needles_of (segments_on changes n2) ≡ [] → new_of (segments_on changes n2) ≡ second → first + second ≤ most → IsConditionKnown kept effect lasts changes (size_at_most (n ∷ n2 ∷ []) most)
unfolding read_answer
new_loops_hold kept effect lasts changes n n2 first second most none one none2 two few =
    let size : Needle → ℕ = λ m. new_of (segments_on changes m) in
    let both = sum_by-cons size n (n2 ∷ []) in
    let last = sum_by-cons size n2 [] in
    let total : new_through changes (n ∷ n2 ∷ []) ≤ most = omega (arith, both, last, one, two, few) in
    none_left kept (names_through changes (n ∷ n2 ∷ [])) (new_through changes (n ∷ n2 ∷ [])) most
    (ap₂ (λ (xs ys : List Needle). xs ++ (ys ++ [])) none none2) total
