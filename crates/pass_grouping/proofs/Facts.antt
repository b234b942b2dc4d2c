-- What is told of a pass, by the places of its operations.
use Rattle.std.proofs.Common.{◌≡◌, ℕ, ◌+◌, ◌-◌, ◌<◌, ◌≤◌, List, [], ◌∷◌, ◌++◌, length, take, drop, get_or, map, flat_map, ap, sym, ◌∙◌, refl, arith, zero, suc, append-nil}
use Rattle.std.proofs.lemmas.Grind.{flat_map-append}
use Rattle.std.proofs.lemmas.List.{map-append}
use Rattle.pass_grouping.specs.declared.fact.PassFact.{PassFact}
use Rattle.pass_grouping.specs.declared.operation.PassOp.{PassOp}
use Rattle.pass_grouping.specs.Facts.{fact_between, last_of, told_of}
use Rattle.pass_grouping.specs.Groupings.{PassRange, operations_in, ranges_from_starts}
use Rattle.pass_grouping.proofs.PartialGroupings.{parts-push}

-- the last of the first operations, by its place
last-taken : (op : PassOp) (ops : List PassOp) (n : ℕ) (d : PassOp) → n ≤ length ops → last_of op (take n ops) ≡ get_or (op ∷ ops) n d
last-taken op ops zero d within = refl
last-taken op [] (suc n) d within = absurd (omega arith)
last-taken op (next ∷ ops) (suc n) d within = last-taken next ops n d (omega arith)

length-taken : (ops : List PassOp) (n : ℕ) → n ≤ length ops → length (take n ops) ≡ n
length-taken ops zero within = refl
length-taken [] (suc n) within = absurd (omega arith)
length-taken (op ∷ ops) (suc n) within = ap suc (length-taken ops n (omega arith))

-- what is told of the operations from this place on, up to so many behind the first
told-from : (ops : List PassOp) (start n : ℕ) (d : PassOp) → start + n < length ops
    → told_of (take (suc n) (drop start ops)) ≡ fact_between (get_or ops start d) (get_or ops (start + n) d) (suc n) ∷ []
told-from [] start n d within = absurd (omega arith)
told-from (op ∷ ops) zero n d within =
    ap (λ last. fact_between op last (suc (length (take n ops))) ∷ []) (last-taken op ops n d (omega arith))
    ∙ ap (λ m. fact_between op (get_or (op ∷ ops) n d) (suc m) ∷ []) (length-taken ops n (omega arith))
    ∙ ap (λ i. fact_between op (get_or (op ∷ ops) i d) (suc n) ∷ []) {x = n} {y = 0 + n} (omega arith)
told-from (op ∷ ops) (suc start) n d within =
    told-from ops start n d (omega arith)
    ∙ ap (λ i. fact_between (get_or ops start d) (get_or (op ∷ ops) i d) (suc n) ∷ []) {x = suc (start + n)} {y = suc start + n} (omega arith)

-- what is told of a part
pub told-part : (ops : List PassOp) (start behind : ℕ) (d : PassOp) → start < behind → behind ≤ length ops
    → told_of (operations_in ops (record { start = start; behind = behind })) ≡ fact_between (get_or ops start d) (get_or ops (behind - 1) d) (behind - start) ∷ []
told-part ops start behind d some within =
    let n : ℕ = behind - start - 1 in
    let count : suc n ≡ behind - start = omega arith in
    let last : start + n ≡ behind - 1 = omega arith in
    ap (λ m. told_of (take m (drop start ops))) (sym count)
    ∙ told-from ops start n d (omega arith)
    ∙ ap (λ i. fact_between (get_or ops start d) (get_or ops i d) (suc n) ∷ []) last
    ∙ ap (λ m. fact_between (get_or ops start d) (get_or ops (behind - 1) d) m ∷ []) count

-- one part more is told
pub told-push : (ops : List PassOp) (earlier : List ℕ) (start behind : ℕ) (facts all : List PassFact) (fact : PassFact)
    → facts ≡ flat_map told_of (map (operations_in ops) (ranges_from_starts earlier start))
    → told_of (operations_in ops (record { start = start; behind = behind })) ≡ fact ∷ [] → all ≡ facts ++ fact ∷ []
    → all ≡ flat_map told_of (map (operations_in ops) (ranges_from_starts (earlier ++ start ∷ []) behind))
told-push ops earlier start behind facts all fact told one pushed =
    let part : PassRange = record { start = start; behind = behind } in
    let passes : List (List PassOp) = map (operations_in ops) (ranges_from_starts earlier start) in
    pushed
    ∙ ap (λ fs. fs ++ fact ∷ []) told
    ∙ ap (λ fs. flat_map told_of passes ++ fs) (sym one)
    ∙ ap (λ fs. flat_map told_of passes ++ fs) (sym (append-nil (told_of (operations_in ops part))))
    ∙ sym (flat_map-append told_of passes (operations_in ops part ∷ []))
    ∙ ap (flat_map told_of) (sym (map-append (operations_in ops) (ranges_from_starts earlier start) (part ∷ [])))
    ∙ ap (λ ps. flat_map told_of (map (operations_in ops) ps)) (sym (parts-push earlier start behind))
