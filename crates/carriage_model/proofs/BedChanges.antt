-- Changes of the stacks in the row, as changes of what the needles hold.
use Rattle.std.proofs.Common.{◌≡◌, ◌≢◌, ℕ, ◌*◌, ◌<◌, ℤ, Bool, true, false, cond, List, [], ◌∷◌, ◌++◌, length, get_or, refl, sym, ap, subst, ◌∙◌, arith, length-set}
use Rattle.std.specs.List.{swap}
use Rattle.std.proofs.lemmas.List.{get_or_default}
use Rattle.std.proofs.lemmas.List.Edits.{swap_is}
use Rattle.std.proofs.Math.ListN.{set}
use Rattle.knit_base.specs.declared.needle.Needle.{Needle}
use Rattle.knit_base.specs.Needle.{same_needle, same_needle-true, is_front}
use Rattle.carriage_model.specs.declared.beds.Beds.{Beds}
use Rattle.carriage_model.specs.State.{with_stack, stacks_transferred}
use Rattle.carriage_model.specs.Places.{Spans, stack_place, stack_in}
use Rattle.carriage_model.specs.Beds.{IsOn, SameBeds, BedsHold, HoldsAsBefore, loops_at}
use Rattle.knit_base.proofs.Needles.{same_needle-false}
use Rattle.carriage_model.proofs.Places.{set-stack, stack-at, place-within}

-- what the code reads at the needle's place are the needle's loops
pub read-stack : (beds : Beds) (n : Needle) (place : ℕ) (found : List ℕ) → IsOn beds n.at → place ≡ stack_place beds.low beds.width n → found ≡ get_or beds.stacks.items place found → found ≡ loops_at beds n
read-stack beds n place found on is read =
    let within : place < length beds.stacks.items = omega (arith, is, beds.full, place-within beds.low beds.width n on) in
    read ∙ get_or_default beds.stacks.items place found [] within ∙ ap (λ p. get_or beds.stacks.items p []) is ∙ sym (stack-at beds.low beds.width beds.stacks.items n on)

same-loops : (old new : Beds) → new.low ≡ old.low → new.width ≡ old.width → (q : Needle) → loops_at new q ≡ stack_in old.low old.width new.stacks.items q
same-loops old new low width q = ap (λ l. stack_in l new.width new.stacks.items q) low ∙ ap (λ w. stack_in old.low w new.stacks.items q) width

-- the stack at the needle's place was replaced by what is wanted there
pub set-holds : (old new : Beds) (n : Needle) (place : ℕ) (loops wanted : List ℕ) → IsOn old n.at → place ≡ stack_place old.low old.width n
    → new.low ≡ old.low → new.width ≡ old.width → new.stacks.items ≡ set old.stacks.items place loops → loops ≡ wanted
    → BedsHold old new (with_stack (loops_at old) n wanted)
set-holds old new n place loops wanted on is low width items wants = record {
  same = record { low = low; width = width };
  stacks_are = λ q. same-loops old new low width q
      ∙ set-stack old.low old.width old.stacks.items new.stacks.items n loops on old.full (items ∙ ap (λ p. set old.stacks.items p loops) is) q
      ∙ ap (λ l. cond (same_needle n q) l (loops_at old q)) wants;
}

-- the stacks at two needles' places were exchanged
pub stacks_exchanged : (old new : Beds) (n n2 : Needle) (from to : ℕ) → IsOn old n.at → IsOn old n2.at → from ≡ stack_place old.low old.width n → to ≡ stack_place old.low old.width n2
    → new.low ≡ old.low → new.width ≡ old.width → new.stacks.items ≡ swap old.stacks.items from to
    → BedsHold old new (with_stack (with_stack (loops_at old) n (loops_at old n2)) n2 (loops_at old n))
stacks_exchanged old new n n2 from to on on2 is is2 low width items =
    let old-items : List (List ℕ) = old.stacks.items in
    let within : from < length old-items = omega (arith, is, old.full, place-within old.low old.width n on) in
    let within2 : to < length old-items = omega (arith, is2, old.full, place-within old.low old.width n2 on2) in
    let first : List ℕ = get_or old-items to [] in
    let second : List ℕ = get_or old-items from [] in
    let middle : List (List ℕ) = set old-items from first in
    let full : length middle ≡ 4 * old.width = length-set old-items from first ∙ old.full in
    let first-is : first ≡ loops_at old n2 = ap (λ p. get_or old-items p []) is2 ∙ sym (stack-at old.low old.width old-items n2 on2) in
    let second-is : second ≡ loops_at old n = ap (λ p. get_or old-items p []) is ∙ sym (stack-at old.low old.width old-items n on) in
    record {
      same = record { low = low; width = width };
      stacks_are = λ q. same-loops old new low width q
          ∙ set-stack old.low old.width middle new.stacks.items n2 second on2 full (items ∙ sym (swap_is old-items from to [] within within2) ∙ ap (λ p. set middle p second) is2) q
          ∙ ap (cond (same_needle n2 q) second) (set-stack old.low old.width old-items middle n first on old.full (ap (λ p. set old-items p first) is) q)
          ∙ ap (λ l. cond (same_needle n2 q) l (cond (same_needle n q) first (loops_at old q))) second-is
          ∙ ap (λ l. cond (same_needle n2 q) (loops_at old n) (cond (same_needle n q) l (loops_at old q))) first-is;
    }

-- needles of different sides are two
apart : (a b : Needle) → is_front a.bed ≢ is_front b.bed → same_needle a b ≡ false
apart a b sides = same_needle-false a b (λ e. sides (ap (λ (n : Needle). is_front n.bed) e))

pub nil_from_test : (loops : List ℕ) (count : ℕ) → count ≡ length loops → count ≡ 0 → loops ≡ []
nil_from_test [] count is none = refl
nil_from_test (loop ∷ loops) count is none = absurd (omega arith)

-- two needles' loops change, and no needle is both
swapped : (b b2 : Bool) (x y : List ℕ) → (b ≡ true → b2 ≡ true → ⊥) → cond b2 x (cond b [] y) ≡ cond b [] (cond b2 x y)
swapped true true x y both = absurd (both refl refl)
swapped true false x y both = refl
swapped false true x y both = refl
swapped false false x y both = refl

not-both : (n n2 q : Needle) → is_front n.bed ≢ is_front n2.bed → same_needle n q ≡ true → same_needle n2 q ≡ true → ⊥
not-both n n2 q sides one other = sides (ap (λ (m : Needle). is_front m.bed) (same_needle-true n q one ∙ sym (same_needle-true n2 q other)))

-- two needles exchanged their loops, of which the second had none
pub exchange-transfers : (old new : Beds) (n n2 : Needle) → is_front n.bed ≢ is_front n2.bed → loops_at old n2 ≡ []
    → BedsHold old new (with_stack (with_stack (loops_at old) n (loops_at old n2)) n2 (loops_at old n))
    → BedsHold old new (stacks_transferred n n2 [] (loops_at old))
exchange-transfers old new n n2 sides none holds = record {
  same = holds.same;
  stacks_are = λ q. holds.stacks_are q
      ∙ ap (λ l. cond (same_needle n2 q) (loops_at old n) (cond (same_needle n q) l (loops_at old q))) none
      ∙ swapped (same_needle n q) (same_needle n2 q) (loops_at old n) (loops_at old q) (not-both n n2 q sides)
      ∙ ap (λ l. cond (same_needle n q) [] (cond (same_needle n2 q) (l ++ loops_at old n) (loops_at old q))) (sym none);
}

-- taking one needle's loops leaves those of a needle on the other side
pub other_stack : (old mid : Beds) (n n2 : Needle) → is_front n.bed ≢ is_front n2.bed → BedsHold old mid (with_stack (loops_at old) n []) → loops_at mid n2 ≡ loops_at old n2
other_stack old mid n n2 sides taken = taken.stacks_are n2 ∙ ap (λ b. cond b [] (loops_at old n2)) (apart n n2 sides)

left-behind : (b b2 : Bool) (x y : List ℕ) → cond b [] (cond b2 x (cond b [] y)) ≡ cond b [] (cond b2 x y)
left-behind true b2 x y = refl
left-behind false b2 x y = refl

-- the loops of the first needle were taken and came behind those of the second
pub moved-transfers : (old mid later new : Beds) (n n2 : Needle) (moved : List ℕ) → is_front n.bed ≢ is_front n2.bed
    → BedsHold old mid (with_stack (loops_at old) n []) → moved ≡ loops_at old n
    → BedsHold mid later (with_stack (loops_at mid) n2 (loops_at mid n2 ++ moved))
    → BedsHold later new (with_stack (loops_at later) n [])
    → BedsHold old new (stacks_transferred n n2 [] (loops_at old))
moved-transfers old mid later new n n2 moved sides taken is received emptied = record {
  same = record {
    low = emptied.same.low ∙ received.same.low ∙ taken.same.low;
    width = emptied.same.width ∙ received.same.width ∙ taken.same.width;
  };
  stacks_are = λ q. emptied.stacks_are q
      ∙ ap (cond (same_needle n q) []) (received.stacks_are q
      ∙ ap (cond (same_needle n2 q) (loops_at mid n2 ++ moved)) (taken.stacks_are q)
      ∙ ap (λ l. cond (same_needle n2 q) (l ++ moved) (cond (same_needle n q) [] (loops_at old q))) (other_stack old mid n n2 sides taken)
      ∙ ap (λ l. cond (same_needle n2 q) (loops_at old n2 ++ l) (cond (same_needle n q) [] (loops_at old q))) is)
      ∙ left-behind (same_needle n q) (same_needle n2 q) (loops_at old n2 ++ loops_at old n) (loops_at old q);
}

-- beds with the same needles have a needle with the same numbers
pub still-on : (old mid : Beds) (at : ℤ) → SameBeds old mid → IsOn old at → IsOn mid at
still-on old mid at same on =
    subst (λ l. Spans l mid.width at) (sym same.low) (subst (λ w. Spans old.low w at) (sym same.width) on)

same-anyway : (stacks : Needle → List ℕ) (n q : Needle) (b : Bool) → same_needle n q ≡ b → cond b (stacks n) (stacks q) ≡ stacks q
same-anyway stacks n q true same = ap stacks (same_needle-true n q same)
same-anyway stacks n q false other = refl

-- the stack at the needle's place was replaced by itself
pub same-holds : (old new : Beds) (n : Needle) (place : ℕ) (loops found : List ℕ) → IsOn old n.at → place ≡ stack_place old.low old.width n
    → new.low ≡ old.low → new.width ≡ old.width → new.stacks.items ≡ set old.stacks.items place loops → loops ≡ found → found ≡ get_or old.stacks.items place found
    → HoldsAsBefore old new
same-holds old new n place loops found on is low width items unchanged read =
    let holds : BedsHold old new (with_stack (loops_at old) n (loops_at old n)) =
    set-holds old new n place loops (loops_at old n) on is low width items (unchanged ∙ read-stack old n place found on is read) in
    record { same = holds.same; stacks_are = λ q. holds.stacks_are q ∙ same-anyway (loops_at old) n q (same_needle n q) refl }

cond_twice : (b : Bool) (x y z : List ℕ) → cond b x (cond b y z) ≡ cond b x z
cond_twice true x y z = refl
cond_twice false x y z = refl

-- a needle's loops were taken, and put back
pub returned-holds : (old mid later new : Beds) (n : Needle) (moved : List ℕ)
    → BedsHold old mid (with_stack (loops_at old) n []) → moved ≡ loops_at old n → HoldsAsBefore mid later → BedsHold later new (with_stack (loops_at later) n moved)
    → HoldsAsBefore old new
returned-holds old mid later new n moved taken is unchanged back = record {
  same = record {
    low = back.same.low ∙ unchanged.same.low ∙ taken.same.low;
    width = back.same.width ∙ unchanged.same.width ∙ taken.same.width;
  };
  stacks_are = λ q. back.stacks_are q
      ∙ ap (cond (same_needle n q) moved) (unchanged.stacks_are q ∙ taken.stacks_are q)
      ∙ cond_twice (same_needle n q) moved [] (loops_at old q)
      ∙ ap (λ l. cond (same_needle n q) l (loops_at old q)) is
      ∙ same-anyway (loops_at old) n q (same_needle n q) refl;
}

-- all loops went over, and others were put in their place
pub left-holds : (old mid new : Beds) (n n2 : Needle) (left wanted : List ℕ)
    → BedsHold old mid (stacks_transferred n n2 [] (loops_at old)) → BedsHold mid new (with_stack (loops_at mid) n left) → left ≡ wanted
    → BedsHold old new (stacks_transferred n n2 wanted (loops_at old))
left-holds old mid new n n2 left wanted moved put is = record {
  same = record { low = put.same.low ∙ moved.same.low; width = put.same.width ∙ moved.same.width };
  stacks_are = λ q. put.stacks_are q
      ∙ ap (cond (same_needle n q) left) (moved.stacks_are q)
      ∙ cond_twice (same_needle n q) left [] _
      ∙ ap (λ l. cond (same_needle n q) l (cond (same_needle n2 q) (loops_at old n2 ++ loops_at old n) (loops_at old q))) is;
}
