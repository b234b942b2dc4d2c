-- Lists of last needles: what is said of a carrier after one more, and after those of a second list.
use Rattle.std.proofs.Common.{◌≡◌, ℕ, zero, suc, ◌<◌, ◌++◌, take, drop, get_or, Bool, true, false, List, [], ◌∷◌, length, ◌+◌, ◌≤◌, Option, Some, None, refl, sym, ap, ◌∙◌, subst, arith, inl, inr}
use Rattle.std.specs.Prelude.{ℤ, nat_eq, nat_lt, fold, if◌then◌else◌, is_some, unwrap_or}
use Rattle.std.proofs.lemmas.Bool.{true≢false, eq-eqb, ltb-true, ltb-false}
use Rattle.std.proofs.lemmas.Bool.Decides.{nat_tests}
use Rattle.std.proofs.lemmas.List.{drop_all, drop_more}
use Rattle.std.proofs.Math.ListN.{set}
use Rattle.std.specs.List.{Contains}
use Rattle.face_data.proofs.Members.{Contains-none, Contains-head, Contains-tail, Contains-cons_cases}
use Rattle.knit_base.proofs.Places.{by_test}
use Rattle.knit_base.specs.declared.yarns.CarrierNo.{CarrierNo}
use Rattle.carriage_model.specs.State.{same_carrier}
use Rattle.face_data.specs.declared.face.Last.{Last}
use Rattle.face_data.specs.Lasts.{AreAbove, AreInOrder, last_at, lasts_after, lasts_of_both, put_last}

-- carriers with one number are one carrier
pub one_carrier : (c d : CarrierNo) → same_carrier c d ≡ true → c ≡ d
one_carrier c d e = let n : c.0 ≡ d.0 = grind (arith, nat_tests, e) in λ i. record { 0 = n i }

-- the first, or else the second
abbrev pub or_last : Option (Option ℤ) → Option (Option ℤ) → Option (Option ℤ)
or_last None other = other
or_last (Some last) other = Some last

-- one more last needle is that of its carrier
pub last_at-put : (hs : List Last) (l : Last) (c : CarrierNo) → last_at (put_last hs l) c ≡ (if same_carrier l.carrier c then Some l.at else last_at hs c)
last_at-put [] l c = refl
last_at-put (h ∷ hs) l c = by_test (same_carrier l.carrier h.carrier)
    (λ same. rw same (by_test (same_carrier l.carrier c)
    (λ here. rw here refl)
    (λ other. let too : same_carrier h.carrier c ≡ false = grind (arith, nat_tests, same, other) in rw (other, too) refl)))
    (λ apart. rw apart (by_test (nat_lt l.carrier.0 h.carrier.0)
    (λ less. rw less refl)
    (λ more. rw more (by_test (same_carrier h.carrier c)
    (λ here. let not_new : same_carrier l.carrier c ≡ false = grind (arith, nat_tests, apart, here) in rw (here, not_new) refl)
    (λ other. rw other (last_at-put hs l c))))))

-- a carrier below all others isn't there
pub absent_last : (c : CarrierNo) (ls : List Last) → AreAbove c.0 ls → last_at ls c ≡ None
absent_last c [] above = refl
absent_last c (l ∷ ls) above = let apart : same_carrier l.carrier c ≡ false = grind (arith, nat_tests, above.0) in rw apart (absent_last c ls above.1)

-- what both lists say of a carrier: the second, or else the first
pub last_at-both : (first second : List Last) (c : CarrierNo) → AreInOrder second → last_at (lasts_of_both first second) c ≡ or_last (last_at second c) (last_at first c)
last_at-both first [] c order = refl
last_at-both first (l ∷ ls) c order =
    last_at-both (put_last first l) ls c order.1
    ∙ ap (or_last (last_at ls c)) (last_at-put first l c)
    ∙ by_test (same_carrier l.carrier c)
    (λ here.
    let none : last_at ls c ≡ None = subst (λ d. last_at ls d ≡ None) (one_carrier l.carrier c here) (absent_last l.carrier ls order.0) in
    rw (here, none) refl)
    (λ other. rw other refl)

or_last-after : (o p : Option (Option ℤ)) (old : Option ℤ) → unwrap_or (or_last o p) old ≡ unwrap_or o (unwrap_or p old)
or_last-after None p old = refl
or_last-after (Some last) p old = refl

-- the last needles after both lists are those after the one and then the other
pub after-both_lasts : (first second : List Last) (old : CarrierNo → Option ℤ) (c : CarrierNo) → AreInOrder second
    → lasts_after (lasts_of_both first second) old c ≡ lasts_after second (lasts_after first old) c
after-both_lasts first second old c order =
    ap (λ o. unwrap_or o (old c)) (last_at-both first second c order) ∙ or_last-after (last_at second c) (last_at first c) (old c)

above_put : (n : ℕ) (hs : List Last) (l : Last) → AreAbove n hs → n < l.carrier.0 → AreAbove n (put_last hs l)
above_put n [] l above less = (less, tt)
above_put n (h ∷ hs) l above less = by_test (same_carrier l.carrier h.carrier)
    (λ same. rw same (less, above.1))
    (λ apart. rw apart (by_test (nat_lt l.carrier.0 h.carrier.0)
    (λ before. rw before (less, above))
    (λ behind. rw behind (above.0, above_put n hs l above.1 less))))

above_lower : (n m : ℕ) (ls : List Last) → n < m → AreAbove m ls → AreAbove n ls
above_lower n m [] less above = tt
above_lower n m (l ∷ ls) less above = (omega (arith, less, above.0), above_lower n m ls less above.1)

-- the order stays
pub order_put : (hs : List Last) (l : Last) → AreInOrder hs → AreInOrder (put_last hs l)
order_put [] l order = (tt, tt)
order_put (h ∷ hs) l order = by_test (same_carrier l.carrier h.carrier)
    (λ same.
    let one : h.carrier.0 ≡ l.carrier.0 = grind (arith, nat_tests, same) in
    rw same (subst (λ n. AreAbove n hs) one order.0, order.1))
    (λ apart. rw apart (by_test (nat_lt l.carrier.0 h.carrier.0)
    (λ before. rw before ((ltb-true l.carrier.0 h.carrier.0 before, above_lower l.carrier.0 h.carrier.0 hs (ltb-true l.carrier.0 h.carrier.0 before) order.0), order))
    (λ behind.
    let more : h.carrier.0 < l.carrier.0 = grind (arith, nat_tests, apart, behind) in
    rw behind (above_put h.carrier.0 hs l order.0 more, order_put hs l order.1))))

pub order_both : (first second : List Last) → AreInOrder first → AreInOrder (lasts_of_both first second)
order_both first [] order = order
order_both first (l ∷ ls) order = order_both (put_last first l) ls (order_put first l order)

members_put : (P : Last → Type 0) (hs : List Last) (l : Last) → ((x : Last) → Contains hs x → P x) → P l → (x : Last) → Contains (put_last hs l) x → P x
members_put P [] l each new x there = elim (Contains-cons_cases l [] x there) [ inl same ↦ subst P same new | inr none ↦ absurd (Contains-none x none) ]
members_put P (h ∷ hs) l each new x there = by_test (same_carrier l.carrier h.carrier)
    (λ same. elim (Contains-cons_cases l hs x (rw same at there)) [ inl one ↦ subst P one new | inr later ↦ each x (Contains-tail h hs x later) ])
    (λ apart. by_test (nat_lt l.carrier.0 h.carrier.0)
    (λ before. elim (Contains-cons_cases l (h ∷ hs) x (rw before at (rw apart at there))) [ inl one ↦ subst P one new | inr later ↦ each x later ])
    (λ behind. elim (Contains-cons_cases h (put_last hs l) x (rw behind at (rw apart at there))) [
      | inl one ↦ subst P one (each h (Contains-head h hs))
      | inr later ↦ members_put P hs l (λ y k. each y (Contains-tail h hs y k)) new x later
    ]))

-- what holds of each last needle of both lists holds of those after both
pub members_both : (P : Last → Type 0) (first second : List Last) → ((x : Last) → Contains first x → P x) → ((x : Last) → Contains second x → P x)
    → (x : Last) → Contains (lasts_of_both first second) x → P x
members_both P first [] each other x there = each x there
members_both P first (l ∷ ls) each other x there =
    members_both P (put_last first l) ls (λ y k. members_put P first l each (other l (Contains-head l ls)) y k) (λ y k. other y (Contains-tail l ls y k)) x there

count_above : (carriers n : ℕ) (ls : List Last) → AreAbove n ls → AreInOrder ls → ((l : Last) → Contains ls l → l.carrier.0 < carriers) → n < carriers → length ls + n + 1 ≤ carriers
count_above carriers n [] above order fit less = omega (arith, less)
count_above carriers n (l ∷ ls) above order fit less =
    omega (arith, above.0, count_above carriers l.carrier.0 ls order.0 order.1 (λ x there. fit x (Contains-tail l ls x there)) (fit l (Contains-head l ls)))

-- there are no more last needles than carriers
pub lasts_bound : (carriers : ℕ) (ls : List Last) → AreInOrder ls → ((l : Last) → Contains ls l → l.carrier.0 < carriers) → length ls ≤ carriers
lasts_bound carriers [] order fit = omega arith
lasts_bound carriers (l ∷ ls) order fit =
    omega (arith, count_above carriers l.carrier.0 ls order.0 order.1 (λ x there. fit x (Contains-tail l ls x there)) (fit l (Contains-head l ls)))

-- the last needle put behind the first of them, so many
abbrev pub put_from : ℕ → List Last → Last → List Last
put_from zero hs l = put_last hs l
put_from (suc i) [] l = l ∷ []
put_from (suc i) (h ∷ hs) l = h ∷ put_from i hs l

put_over : (h : Last) (hs : List Last) (l : Last) → h.carrier.0 < l.carrier.0 → put_last (h ∷ hs) l ≡ h ∷ put_last hs l
put_over h hs l less =
    let apart : same_carrier l.carrier h.carrier ≡ false = grind (arith, nat_tests, less) in
    let behind : nat_lt l.carrier.0 h.carrier.0 ≡ false = grind (arith, nat_tests, less) in
    rw (apart, behind) refl

put_under : (h : Last) (hs : List Last) (l : Last) → same_carrier l.carrier h.carrier ≡ false → nat_lt l.carrier.0 h.carrier.0 ≡ true → put_last (h ∷ hs) l ≡ l ∷ h ∷ hs
put_under h hs l apart before = rw (apart, before) refl

-- one with a lower number stays where it is
pub put_from-step : (i : ℕ) (hs : List Last) (l d : Last) → i < length hs → (get_or hs i d).carrier.0 < l.carrier.0 → put_from (suc i) hs l ≡ put_from i hs l
put_from-step i [] l d within less = absurd (omega (arith, within))
put_from-step zero (h ∷ hs) l d within less = sym (put_over h hs l less)
put_from-step (suc i) (h ∷ hs) l d within less = ap (λ rest. h ∷ rest) (put_from-step i hs l d (omega (arith, within)) less)

above_at : (n i : ℕ) (ls : List Last) (d : Last) → AreAbove n ls → i < length ls → n < (get_or ls i d).carrier.0
above_at n i [] d above within = absurd (omega (arith, within))
above_at n zero (l ∷ ls) d above within = above.0
above_at n (suc i) (l ∷ ls) d above within = above_at n i ls d above.1 (omega (arith, within))

put_here : (i : ℕ) (hs : List Last) (l d : Last) → AreInOrder hs → i < length hs → (get_or hs i d).carrier.0 ≡ l.carrier.0 → set hs i l ≡ put_last hs l
put_here i [] l d order within same = absurd (omega (arith, within))
put_here zero (h ∷ hs) l d order within same =
    let one : same_carrier l.carrier h.carrier ≡ true = grind (arith, nat_tests, same) in
    let put : put_last (h ∷ hs) l ≡ l ∷ hs = rw one refl in
    sym put
put_here (suc i) (h ∷ hs) l d order within same =
    let less : h.carrier.0 < l.carrier.0 = omega (arith, above_at h.carrier.0 i hs d order.0 (omega (arith, within)), same) in
    ap (λ rest. h ∷ rest) (put_here i hs l d order.1 (omega (arith, within)) same) ∙ sym (put_over h hs l less)

-- the carrier's own place gets the new last needle
pub set-same : (hs : List Last) (i : ℕ) (l d found : Last) → AreInOrder hs → i < length hs → found ≡ get_or hs i d → found.carrier.0 ≡ l.carrier.0
    → set hs i (record { carrier = found.carrier; at = l.at }) ≡ put_last hs l
set-same hs i l d found order within is same =
    let one : record { carrier = found.carrier; at = l.at } ≡ l = λ j. record { carrier = record { 0 = same j }; at = l.at } in
    ap (λ (x : Last). set hs i x) one ∙ put_here i hs l d order within (sym (ap (λ (x : Last). x.carrier.0) is) ∙ same)

-- a new carrier goes before the first that is above it
pub put_from-before : (i : ℕ) (hs : List Last) (l d : Last) → i < length hs → l.carrier.0 < (get_or hs i d).carrier.0 → put_from i hs l ≡ take i hs ++ l ∷ drop i hs
put_from-before i [] l d within less = absurd (omega (arith, within))
put_from-before zero (h ∷ hs) l d within less =
    let apart : same_carrier l.carrier h.carrier ≡ false = grind (arith, nat_tests, less) in
    let before : nat_lt l.carrier.0 h.carrier.0 ≡ true = grind (arith, nat_tests, less) in
    put_under h hs l apart before
put_from-before (suc i) (h ∷ hs) l d within less = ap (λ rest. h ∷ rest) (put_from-before i hs l d (omega (arith, within)) less)

-- or to the end
pub put_from-end : (i : ℕ) (hs : List Last) (l : Last) → i ≡ length hs → put_from i hs l ≡ take i hs ++ l ∷ drop i hs
put_from-end zero [] l all = refl
put_from-end zero (h ∷ hs) l all = absurd (omega (arith, all))
put_from-end (suc i) [] l all = refl
put_from-end (suc i) (h ∷ hs) l all = ap (λ rest. h ∷ rest) (put_from-end i hs l (omega (arith, all)))

-- what the rest says of a carrier that the first of them isn't
pub last_at-later : (hs : List Last) (i : ℕ) (c : CarrierNo) (d : Last) → i < length hs → same_carrier (get_or hs i d).carrier c ≡ false → last_at (drop (i + 1) hs) c ≡ last_at (drop i hs) c
last_at-later hs i c d within other =
    let first : last_at (get_or hs i d ∷ drop (i + 1) hs) c ≡ last_at (drop (i + 1) hs) c = rw other refl in
    sym first ∙ ap (λ xs. last_at xs c) (sym (drop_more hs i d within))

pub last_at-here : (hs : List Last) (i : ℕ) (c : CarrierNo) (d : Last) → i < length hs → same_carrier (get_or hs i d).carrier c ≡ true → last_at (drop i hs) c ≡ Some (get_or hs i d).at
last_at-here hs i c d within here =
    let first : last_at (get_or hs i d ∷ drop (i + 1) hs) c ≡ Some (get_or hs i d).at = rw here refl in
    ap (λ xs. last_at xs c) (drop_more hs i d within) ∙ first

pub last_at-end : (hs : List Last) (i : ℕ) (c : CarrierNo) → length hs ≤ i → last_at (drop i hs) c ≡ None
last_at-end hs i c all = ap (λ (xs : List Last). last_at xs c) (drop_all i hs all)
