-- A range is one pass exactly where each operation follows its neighbour, and so is each range within it.
use Rattle.std.proofs.Common.{◌≡◌, inl, inr, ℕ, ◌+◌, ◌-◌, ◌<◌, ◌≤◌, ℤ, List, length, get_or, ap, sym, subst, ◌∙◌, arith}
use Rattle.std.proofs.lemmas.Bool.{cases_lt}
use Rattle.std.proofs.lemmas.Int.{ints}
use Rattle.std.proofs.lemmas.List.{get_or_default}
use Rattle.knit_base.specs.declared.needle.Dir.{Dir}
use Rattle.knit_base.specs.declared.needle.Dir.TheVariants.{Right, Left}
use Rattle.pass_grouping.specs.declared.operation.PassOp.{PassOp}
use Rattle.pass_grouping.specs.Passes.{IsBeyond, Follows, GoesOneWay, IsOnePass}

pub by_order : {P : Type 0} (m n : ℕ) → (m < n → P) → (n ≤ m → P) → P
by_order m n below above = elim (cases_lt m n) [ inl h ↦ below h | inr h ↦ above h ]

beyond-trans : (way : Dir) (a b c : ℤ) → IsBeyond way a b → IsBeyond way b c → IsBeyond way a c
beyond-trans Right a b c first second = omega (arith, ints, first, second)
beyond-trans Left a b c first second = omega (arith, ints, first, second)

pub follows-trans : (way : Dir) (a b c : PassOp) → Follows way a b → Follows way b c → Follows way a c
follows-trans way a b c first second = record {
  alike = record {
    stretch = first.alike.stretch ∙ second.alike.stretch;
    class = first.alike.class ∙ second.alike.class;
    dir = first.alike.dir ∙ second.alike.dir;
    yarns = first.alike.yarns ∙ second.alike.yarns;
  };
  free = first.free;
  place = beyond-trans way a.place b.place c.place first.place second.place;
}

-- a range of one operation, or none
pub goes-one : (way : Dir) (ops : List PassOp) (from to : ℕ) → to ≤ from → GoesOneWay way ops from to
goes-one way ops from to short = record { pairs = λ i j d above below within. absurd (omega arith) }

-- a range within
pub goes-shrink : (way : Dir) (ops : List PassOp) (from to from' to' : ℕ) → from ≤ from' → to' ≤ to → GoesOneWay way ops from to → GoesOneWay way ops from' to'
goes-shrink way ops from to from' to' above below goes = record { pairs = λ i j d low less high. goes.pairs i j d (omega arith) less (omega arith) }

-- one operation more, which follows the last
pub goes-more : (way : Dir) (ops : List PassOp) (from to : ℕ) → from ≤ to → GoesOneWay way ops from to
    → ((d : PassOp) → Follows way (get_or ops to d) (get_or ops (to + 1) d)) → GoesOneWay way ops from (to + 1)
goes-more way ops from to some goes next = record {
  pairs = λ i j d low less high.
      by_order j (to + 1) (λ inside. goes.pairs i j d low less (omega arith))
      (λ last. let same : j ≡ to + 1 = omega arith in
      subst (λ n. Follows way (get_or ops i d) (get_or ops n d)) (sym same)
      (by_order i to
      (λ before. follows-trans way (get_or ops i d) (get_or ops to d) (get_or ops (to + 1) d) (goes.pairs i to d low before (omega arith)) (next d))
      (λ here. let at : i ≡ to = omega arith in subst (λ n. Follows way (get_or ops n d) (get_or ops (to + 1) d)) (sym at) (next d))));
}

pub one_pass-shrink : (ops : List PassOp) (from to from' to' : ℕ) → from ≤ from' → to' ≤ to → IsOnePass ops from to → IsOnePass ops from' to'
one_pass-shrink ops from to from' to' above below pass =
    elim pass [
      | inl right ↦ inl (goes-shrink Right ops from to from' to' above below right)
      | inr left ↦ inr (goes-shrink Left ops from to from' to' above below left)
    ]

-- an operation of the range and its neighbour, as they were read
pub goes-pair : (way : Dir) (ops : List PassOp) (from to i : ℕ) (a b : PassOp) → from ≤ i → i < to → to < length ops → a ≡ get_or ops i a → b ≡ get_or ops (i + 1) b
    → GoesOneWay way ops from to → Follows way a b
goes-pair way ops from to i a b above below within first second goes =
    let here : Follows way (get_or ops i a) (get_or ops (i + 1) a) = goes.pairs i (i + 1) a above (omega arith) (omega arith) in
    let later : get_or ops (i + 1) a ≡ b = get_or_default ops (i + 1) a b (omega arith) ∙ sym second in
    subst (λ x. Follows way x b) (sym first) (subst (λ y. Follows way (get_or ops i a) y) later here)

-- of the last two operations the second follows the first
pub goes-last : (way : Dir) (ops : List PassOp) (from to : ℕ) (a b : PassOp) → from < to → to < length ops → a ≡ get_or ops (to - 1) a → b ≡ get_or ops to b → GoesOneWay way ops from to → Follows way a b
goes-last way ops from to a b some within first second goes =
    let back : to ≡ to - 1 + 1 = omega arith in
    goes-pair way ops from to (to - 1) a b (omega arith) (omega arith) within first (second ∙ ap (λ n. get_or ops n b) back) goes

-- all but the last, which follows the one before it
pub goes-end : (way : Dir) (ops : List PassOp) (from to : ℕ) → from < to → GoesOneWay way ops from (to - 1)
    → ((d : PassOp) → Follows way (get_or ops (to - 1) d) (get_or ops to d)) → GoesOneWay way ops from to
goes-end way ops from to some goes last =
    let back : to - 1 + 1 ≡ to = omega arith in
    subst (GoesOneWay way ops from) back
    (goes-more way ops from (to - 1) (omega arith) goes (λ d. subst (λ n. Follows way (get_or ops (to - 1) d) (get_or ops n d)) (sym back) (last d)))

-- what goes one way is one pass
pub one_pass : (way : Dir) (ops : List PassOp) (from to : ℕ) → GoesOneWay way ops from to → IsOnePass ops from to
one_pass Right ops from to goes = inl goes
one_pass Left ops from to goes = inr goes

-- one pass goes the way that its first two operations tell
pub goes-told : (told : Dir) (ops : List PassOp) (from to : ℕ) (a b : PassOp) → from < to → to < length ops → a ≡ get_or ops from a → b ≡ get_or ops (from + 1) b
    → ((way : Dir) → IsBeyond way a.place b.place → way ≡ told) → IsOnePass ops from to → GoesOneWay told ops from to
goes-told told ops from to a b some within first second tells pass =
    elim pass [
      | inl right ↦ subst (λ w. GoesOneWay w ops from to) (tells Right (goes-pair Right ops from to from a b (omega arith) some within first second right).place) right
      | inr left ↦ subst (λ w. GoesOneWay w ops from to) (tells Left (goes-pair Left ops from to from a b (omega arith) some within first second left).place) left
    ]
