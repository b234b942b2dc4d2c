-- The last needles of a line, put together from none, and put behind those of the lines before it.
use Rattle.std.proofs.Common.{◌≡◌, ℕ, ◌<◌, Bool, true, false, ◌||◌, List, [], ◌∷◌, map, Option, Some, None, refl, sym, ap, ◌∙◌, subst, arith, inl, inr, All}
use Rattle.std.specs.Prelude.{ℤ, nat_lt, if◌then◌else◌, is_some, unwrap_or}
use Rattle.std.specs.List.{Contains, list_any}
use Rattle.std.proofs.lemmas.Bool.{ltb-true}
use Rattle.std.proofs.lemmas.Bool.Decides.{nat_tests}
use Rattle.std.proofs.lemmas.List.Elements.{All-head, All-tail}
use Rattle.knit_base.proofs.Places.{by_test}
use Rattle.knit_base.specs.declared.instr.Instr.{Instr}
use Rattle.knit_base.specs.declared.instr.Instr.TheVariants.{CarryIn, CarryOut, HookIn, HookOut, Knit, Tuck, Split}
use Rattle.knit_base.specs.declared.profile.Profile.{Profile}
use Rattle.knit_base.specs.declared.yarns.CarrierNo.{CarrierNo}
use Rattle.knit_base.specs.Lawful.{IsLawfulInstr}
use Rattle.carriage_model.specs.State.{same_carrier, with_lasts}
use Rattle.carriage_model.specs.Steps.{given_lasts, kept_lasts}
use Rattle.face_data.specs.declared.face.Last.{Last}
use Rattle.face_data.specs.Lasts.{AreAbove, AreInOrder, last_at, lasts_after, lasts_of_both, put_last}
use Rattle.face_data.proofs.LastLists.{last_at-put, members_both, order_put}
use Rattle.face_data.proofs.Members.{Contains-none, Contains-cons_cases}
use Rattle.carrier_rules.specs.Carriers.{carrier_last, lasts_given, lasts_of}

-- of two last needles of one carrier the second counts
put_same : (hs : List Last) (l m : Last) → same_carrier l.carrier m.carrier ≡ true → put_last (put_last hs l) m ≡ put_last hs m
put_same [] l m same =
    let back : same_carrier m.carrier l.carrier ≡ true = grind (arith, nat_tests, same) in
    rw back refl
put_same (h ∷ hs) l m same =
    let back : same_carrier m.carrier l.carrier ≡ true = grind (arith, nat_tests, same) in
    by_test (same_carrier l.carrier h.carrier)
    (λ here. let too : same_carrier m.carrier h.carrier ≡ true = grind (arith, nat_tests, same, here) in rw here (rw back (rw too refl)))
    (λ apart.
    let other : same_carrier m.carrier h.carrier ≡ false = grind (arith, nat_tests, same, apart) in
    by_test (nat_lt l.carrier.0 h.carrier.0)
    (λ before. let less : nat_lt m.carrier.0 h.carrier.0 ≡ true = grind (arith, nat_tests, same, before) in rw apart (rw before (rw back (rw other (rw less refl)))))
    (λ behind.
    let more : nat_lt m.carrier.0 h.carrier.0 ≡ false = grind (arith, nat_tests, same, behind) in
    rw apart (rw behind (rw other (rw more (ap (λ rest. h ∷ rest) (put_same hs l m same)))))))

-- those of two carriers can be put in either order
put_apart : (hs : List Last) (l m : Last) → l.carrier.0 < m.carrier.0 → put_last (put_last hs l) m ≡ put_last (put_last hs m) l
put_apart [] l m less =
    let one : same_carrier m.carrier l.carrier ≡ false = grind (arith, nat_tests, less) in
    let two : nat_lt m.carrier.0 l.carrier.0 ≡ false = grind (arith, nat_tests, less) in
    let three : same_carrier l.carrier m.carrier ≡ false = grind (arith, nat_tests, less) in
    let four : nat_lt l.carrier.0 m.carrier.0 ≡ true = grind (arith, nat_tests, less) in
    rw one (rw two (rw three (rw four refl)))
put_apart (h ∷ hs) l m less =
    let one : same_carrier m.carrier l.carrier ≡ false = grind (arith, nat_tests, less) in
    let two : nat_lt m.carrier.0 l.carrier.0 ≡ false = grind (arith, nat_tests, less) in
    let three : same_carrier l.carrier m.carrier ≡ false = grind (arith, nat_tests, less) in
    let four : nat_lt l.carrier.0 m.carrier.0 ≡ true = grind (arith, nat_tests, less) in
    by_test (same_carrier l.carrier h.carrier)
    (λ here.
    let other : same_carrier m.carrier h.carrier ≡ false = grind (arith, nat_tests, less, here) in
    let more : nat_lt m.carrier.0 h.carrier.0 ≡ false = grind (arith, nat_tests, less, here) in
    rw here (rw one (rw two (rw other (rw more (rw here refl))))))
    (λ apart. by_test (nat_lt l.carrier.0 h.carrier.0)
    (λ before. rw apart (rw before (rw one (rw two (by_test (same_carrier m.carrier h.carrier)
    (λ there. rw there (rw three (rw four refl)))
    (λ other. by_test (nat_lt m.carrier.0 h.carrier.0)
    (λ first. rw other (rw first (rw three (rw four refl))))
    (λ last. rw other (rw last (rw apart (rw before refl))))))))))
    (λ behind.
    let other : same_carrier m.carrier h.carrier ≡ false = grind (arith, nat_tests, less, apart, behind) in
    let more : nat_lt m.carrier.0 h.carrier.0 ≡ false = grind (arith, nat_tests, less, apart, behind) in
    rw apart (rw behind (rw other (rw more (rw apart (rw behind (ap (λ rest. h ∷ rest) (put_apart hs l m less)))))))))

-- one below all others can be put last
put_after : (first hs : List Last) (l : Last) → AreAbove l.carrier.0 hs → lasts_of_both (put_last first l) hs ≡ put_last (lasts_of_both first hs) l
put_after first [] l above = refl
put_after first (h ∷ hs) l above = ap (λ xs. lasts_of_both xs hs) (put_apart first l h above.0) ∙ put_after (put_last first h) hs l above.1

above_lower : (n m : ℕ) (ls : List Last) → n < m → AreAbove m ls → AreAbove n ls
above_lower n m [] less above = tt
above_lower n m (l ∷ ls) less above = (omega (arith, less, above.0), above_lower n m ls less above.1)

put_behind : (first hs : List Last) (l : Last) → AreInOrder hs → lasts_of_both first (put_last hs l) ≡ put_last (lasts_of_both first hs) l
put_behind first [] l order = refl
put_behind first (h ∷ hs) l order = by_test (same_carrier l.carrier h.carrier)
    (λ same.
    let one : h.carrier.0 ≡ l.carrier.0 = grind (arith, nat_tests, same) in
    let back : same_carrier h.carrier l.carrier ≡ true = grind (arith, nat_tests, same) in
    rw same (ap (λ xs. lasts_of_both xs hs) (sym (put_same first h l back)) ∙ put_after (put_last first h) hs l (subst (λ n. AreAbove n hs) one order.0)))
    (λ apart. by_test (nat_lt l.carrier.0 h.carrier.0)
    (λ before.
    let less : l.carrier.0 < h.carrier.0 = ltb-true l.carrier.0 h.carrier.0 before in
    rw apart (rw before (put_after first (h ∷ hs) l (less, above_lower l.carrier.0 h.carrier.0 hs less order.0))))
    (λ behind. rw apart (rw behind (put_behind (put_last first h) hs l order.1))))

both_joined : (first mid ls : List Last) → AreInOrder mid → lasts_of_both first (lasts_of_both mid ls) ≡ lasts_of_both (lasts_of_both first mid) ls
both_joined first mid [] order = refl
both_joined first mid (l ∷ ls) order =
    both_joined first (put_last mid l) ls (order_put mid l order) ∙ ap (λ xs. lasts_of_both xs ls) (put_behind first mid l order)

-- last needles that are put together first leave the same
pub both_put : (first ls : List Last) → lasts_of_both first (lasts_of_both [] ls) ≡ lasts_of_both first ls
both_put first ls = both_joined first [] ls tt

same_either_way : (c d : CarrierNo) → same_carrier d c ≡ same_carrier c d
same_either_way c d = grind (arith, nat_tests)

last_or : (any here : Bool) (at old : Option ℤ) (o : Option (Option ℤ)) →
    (if any then at else unwrap_or (if here then Some at else o) old) ≡ (if here || any then at else unwrap_or o old)
last_or true true at old o = refl
last_or true false at old o = refl
last_or false true at old o = refl
last_or false false at old o = refl

-- the same last needle for each carrier of a list
each_put : (at : Option ℤ) (hs : List Last) (cs : List CarrierNo) (old : CarrierNo → Option ℤ) (c : CarrierNo) →
    lasts_after (lasts_of_both hs (map (carrier_last at) cs)) old c ≡ with_lasts (lasts_after hs old) cs at c
each_put at hs [] old c = refl
each_put at hs (d ∷ ds) old c =
    each_put at (put_last hs (carrier_last at d)) ds old c
    ∙ ap (λ o. if list_any (same_carrier c) ds then at else unwrap_or o (old c)) (last_at-put hs (carrier_last at d) c)
    ∙ ap (λ b. if list_any (same_carrier c) ds then at else unwrap_or (if b then Some at else last_at hs c) (old c)) (same_either_way c d)
    ∙ last_or (list_any (same_carrier c) ds) (same_carrier c d) at (old c) (last_at hs c)

given_put : (instr : Instr) (old : CarrierNo → Option ℤ) (c : CarrierNo) → lasts_after (lasts_of_both [] (lasts_given instr)) old c ≡ given_lasts instr old c
given_put (CarryIn cs) old c = each_put None [] cs old c
given_put (CarryOut cs) old c = each_put None [] cs old c
given_put (HookIn cs) old c = each_put None [] cs old c
given_put (HookOut cs) old c = each_put None [] cs old c
given_put (Knit dir n cs) old c = each_put (Some n.at) [] cs old c
given_put (Tuck dir n cs) old c = each_put (Some n.at) [] cs old c
given_put (Split dir n n2 cs) old c = each_put (Some n.at) [] cs old c
given_put instr old c = refl

-- the last needles of a line's summary are those that its instruction gives
pub lasts_put : (limit : Option ℕ) (instr : Instr) (old : CarrierNo → Option ℤ) (c : CarrierNo) → lasts_after (lasts_of_both [] (lasts_of limit instr)) old c ≡ kept_lasts limit instr old c
lasts_put None instr old c = refl
lasts_put (Some float) instr old c = given_put instr old c

set_more : (hs ls : List Last) (c : CarrierNo) → is_some (last_at hs c) ≡ true → is_some (last_at (lasts_of_both hs ls) c) ≡ true
set_more hs [] c set = set
set_more hs (l ∷ ls) c set = set_more (put_last hs l) ls c (ap is_some (last_at-put hs l c) ∙ by_test (same_carrier l.carrier c) (λ here. rw here refl) (λ other. rw other set))

set_each : (at : Option ℤ) (hs : List Last) (cs : List CarrierNo) (c : CarrierNo) → Contains cs c → is_some (last_at (lasts_of_both hs (map (carrier_last at) cs)) c) ≡ true
set_each at hs [] c there = absurd (Contains-none c there)
set_each at hs (d ∷ ds) c there = elim (Contains-cons_cases d ds c there) [
  | inl same ↦ (let here : same_carrier d c ≡ true = subst (λ x. same_carrier d x ≡ true) same (let own : same_carrier d d ≡ true = grind (arith, nat_tests) in own) in
      set_more (put_last hs (carrier_last at d)) (map (carrier_last at) ds) c (ap is_some (last_at-put hs (carrier_last at d) c) ∙ ap (λ b. is_some (if b then Some at else last_at hs c)) here))
  | inr later ↦ set_each at (put_last hs (carrier_last at d)) ds c later
]

-- each carrier of a list that is put together has its last needle set
pub set_put : (at : Option ℤ) (cs : List CarrierNo) (c : CarrierNo) → Contains cs c → is_some (last_at (lasts_of_both [] (map (carrier_last at) cs)) c) ≡ true
set_put at cs c there = set_each at [] cs c there

each_below : (carriers : ℕ) (at : Option ℤ) (cs : List CarrierNo) → All (λ (c : CarrierNo). c.0 < carriers) cs → (l : Last) → Contains (map (carrier_last at) cs) l → l.carrier.0 < carriers
each_below carriers at [] all l there = absurd (Contains-none l there)
each_below carriers at (c ∷ cs) all l there = elim (Contains-cons_cases (carrier_last at c) (map (carrier_last at) cs) l there) [
  | inl same ↦ subst (λ (x : Last). x.carrier.0 < carriers) same (All-head (λ (d : CarrierNo). d.0 < carriers) c cs all)
  | inr later ↦ each_below carriers at cs (All-tail (λ (d : CarrierNo). d.0 < carriers) c cs all) l later
]

none_given : (carriers : ℕ) (l : Last) → Contains [] l → l.carrier.0 < carriers
none_given carriers l there = absurd (Contains-none l there)

given_below : (profile : Profile) (carriers : ℕ) (instr : Instr) → IsLawfulInstr profile carriers instr → (l : Last) → Contains (lasts_given instr) l → l.carrier.0 < carriers
given_below profile carriers (CarryIn cs) lawful = each_below carriers None cs lawful.carriers.each
given_below profile carriers (CarryOut cs) lawful = each_below carriers None cs lawful.carriers.each
given_below profile carriers (HookIn cs) lawful = each_below carriers None cs lawful.carriers.each
given_below profile carriers (HookOut cs) lawful = each_below carriers None cs lawful.carriers.each
given_below profile carriers (Knit dir n cs) lawful = each_below carriers (Some n.at) cs lawful.carriers.each
given_below profile carriers (Tuck dir n cs) lawful = each_below carriers (Some n.at) cs lawful.carriers.each
given_below profile carriers (Split dir n n2 cs) lawful = each_below carriers (Some n.at) cs lawful.carriers.each
given_below profile carriers instr lawful = none_given carriers

lasts_below : (profile : Profile) (carriers : ℕ) (limit : Option ℕ) (instr : Instr) → IsLawfulInstr profile carriers instr → (l : Last) → Contains (lasts_of limit instr) l → l.carrier.0 < carriers
lasts_below profile carriers None instr lawful = none_given carriers
lasts_below profile carriers (Some float) instr lawful = given_below profile carriers instr lawful

-- the carriers of a lawful line's last needles are declared
pub lasts_declared : (profile : Profile) (carriers : ℕ) (limit : Option ℕ) (instr : Instr) → IsLawfulInstr profile carriers instr →
    (l : Last) → Contains (lasts_of_both [] (lasts_of limit instr)) l → l.carrier.0 < carriers
lasts_declared profile carriers limit instr lawful =
    members_both (λ (l : Last). l.carrier.0 < carriers) [] (lasts_of limit instr) (none_given carriers) (lasts_below profile carriers limit instr lawful)
