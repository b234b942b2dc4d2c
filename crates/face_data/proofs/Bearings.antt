-- The second block's conditions, read through the first block and held against the conditions kept so far.
use Rattle.std.proofs.Common.{◌≡◌, ℕ, Bool, true, false, not, ◌&&◌, List, [], ◌∷◌, refl, sym, ap, ◌∙◌, subst, arith, inl, inr}
use Rattle.std.specs.Prelude.{nat_eq, nat_le, ℤ}
use Rattle.std.specs.List.{Contains, list_any}
use Rattle.std.specs.Int.{bit_at}
use Rattle.knit_base.specs.declared.yarns.CarrierNo.{CarrierNo}
use Rattle.std.specs.Ordering.{int_eq}
use Rattle.std.proofs.lemmas.Bool.{and_parts, leb-true, le-leb, eqb-true, not-true}
use Rattle.std.proofs.lemmas.Bool.Decides.{Decides-int_eq}
use Rattle.std.proofs.lemmas.Nat.Bits.{bit_at-zero}
use Rattle.std.proofs.Math.ListN.{length}
use Rattle.std.proofs.lemmas.Map.Views.{Contains-from_any}
use Rattle.carriage_model.specs.State.{State, is_near}
use Rattle.knit_base.specs.Yarns.{contains_carrier}
use Rattle.knit_base.specs.Needle.{same_needle, same_needle-true}
use Rattle.face_data.specs.Conditions.{Ask, holds, size_of}
use Rattle.face_data.specs.Conditions.Ask.{rack_is, carrier_in, carrier_out, hook_free, hook_is, hook_lacks, size_at_most, last_near}
use Rattle.face_data.specs.declared.bearing.Bearing.{Bearing}
use Rattle.face_data.specs.Bearings.{bearing, if_so, same_or_not, all_in}
use Rattle.face_data.specs.declared.bearing.Bearing.TheVariants.{Implied, Refuted, Silent}
use Rattle.face_data.proofs.Members.{sum_within, Contains-none, Contains-cons_cases}
use Rattle.knit_base.specs.declared.needle.Needle.{Needle}
use Rattle.face_data.specs.Sets.{IsDistinct, AreNeedlesWithin}

-- a size condition names each needle once
abbrev pub NamesOnce : Ask → Type 0
NamesOnce (size_at_most names most) = IsDistinct names
NamesOnce q = Unit {0}

-- what a bearing says of a test
abbrev pub Tells : Bearing → Bool → Type 0
Tells Implied b = b ≡ true
Tells Refuted b = b ≡ false
Tells Silent b = Unit {0}

-- a list that passes the test lies within the other
pub all_in_within : (later earlier : List Needle) → all_in later earlier ≡ true → AreNeedlesWithin later earlier
all_in_within [] earlier e n h = absurd (Contains-none n h)
all_in_within (x ∷ later) earlier e n h =
    let both = and_parts (list_any (same_needle x) earlier) (all_in later earlier) e in
    elim (Contains-cons_cases x later n h) [
      | inl same ↦ subst (Contains earlier) same (Contains-from_any {eq = same_needle} same_needle-true x earlier both.0)
      | inr h ↦ all_in_within later earlier both.1 n h
    ]

tells_same : (b t : Bool) → (b ≡ true → t ≡ true) → (b ≡ false → t ≡ false) → Tells (same_or_not b) t
tells_same true t so not_so = so refl
tells_same false t so not_so = not_so refl

tells_if_so : (b : Bool) (r : Bearing) (t : Bool) → (b ≡ true → Tells r t) → Tells (if_so b r) t
tells_if_so true r t h = h refl
tells_if_so false r t h = tt

nat_same : (a b c : ℕ) → a ≡ b → nat_eq a c ≡ nat_eq b c
nat_same a b c e = ap (λ x. nat_eq x c) e

eqb_sym_false : (a b c : ℕ) → nat_eq a b ≡ true → nat_eq b c ≡ false → nat_eq a c ≡ false
eqb_sym_false a b c e f = nat_same a b c (eqb-true a b e) ∙ f

eqb_chain : (a b c : ℕ) → nat_eq a b ≡ true → nat_eq b c ≡ true → nat_eq a c ≡ true
eqb_chain a b c e f = nat_same a b c (eqb-true a b e) ∙ f

int_chain : (a b c : ℤ) (t : Bool) → int_eq a b ≡ true → int_eq b c ≡ t → int_eq a c ≡ t
int_chain a b c t e f = ap (λ x. int_eq x c) ((Decides-int_eq a b).0 e) ∙ f

not_same : (b : Bool) → not b ≡ true → b ≡ false
not_same b = not-true b

nothing : (c : CarrierNo) → not (contains_carrier 0 c) ≡ true
nothing c = ap (λ b. not (nat_eq b 1)) (bit_at-zero c.0)

same_test : (s : State) (c e : CarrierNo) (n m : ℤ) (f g : ℕ) → c.0 ≡ e.0 → n ≡ m → f ≡ g → is_near f (s.lasts c) n ≡ is_near g (s.lasts e) m
same_test s c e n m f g same number float = λ i. is_near (float i) (s.lasts (record { 0 = same i })) (number i)

-- What a condition that holds says of another is so.
pub bearing_tells : (p q : Ask) (s : State) → NamesOnce q → holds p s ≡ true → Tells (bearing p q) (holds q s)
unfolding bearing
bearing_tells (rack_is p) (rack_is q) s d h = tells_same (int_eq p q) (int_eq s.rack q) (int_chain s.rack p q true h) (int_chain s.rack p q false h)
bearing_tells (carrier_in c) (carrier_in e) s d h = tells_if_so (nat_eq c.0 e.0) Implied (contains_carrier s.ins e) (λ k. subst (λ x. nat_eq (bit_at s.ins x) 1 ≡ true) (eqb-true c.0 e.0 k) h)
bearing_tells (carrier_in c) (carrier_out e) s d h = tells_if_so (nat_eq c.0 e.0) Refuted (not (contains_carrier s.ins e)) (λ k. ap not (subst (λ x. nat_eq (bit_at s.ins x) 1 ≡ true) (eqb-true c.0 e.0 k) h))
bearing_tells (carrier_out c) (carrier_out e) s d h = tells_if_so (nat_eq c.0 e.0) Implied (not (contains_carrier s.ins e)) (λ k. subst (λ x. not (nat_eq (bit_at s.ins x) 1) ≡ true) (eqb-true c.0 e.0 k) h)
bearing_tells (carrier_out c) (carrier_in e) s d h = tells_if_so (nat_eq c.0 e.0) Refuted (contains_carrier s.ins e) (λ k. subst (λ x. nat_eq (bit_at s.ins x) 1 ≡ false) (eqb-true c.0 e.0 k) (not_same (contains_carrier s.ins c) h))
bearing_tells hook_free hook_free s d h = h
bearing_tells hook_free (hook_is set) s d h = tells_same (nat_eq 0 set) (nat_eq s.hook set) (eqb_chain s.hook 0 set h) (eqb_sym_false s.hook 0 set h)
bearing_tells hook_free (hook_lacks c) s d h = ap (λ x. not (contains_carrier x c)) (eqb-true s.hook 0 h) ∙ nothing c
bearing_tells (hook_is set) hook_free s d h = tells_same (nat_eq set 0) (nat_eq s.hook 0) (eqb_chain s.hook set 0 h) (eqb_sym_false s.hook set 0 h)
bearing_tells (hook_is set) (hook_is other) s d h = tells_same (nat_eq set other) (nat_eq s.hook other) (eqb_chain s.hook set other h) (eqb_sym_false s.hook set other h)
bearing_tells (hook_is set) (hook_lacks c) s d h =
    tells_if_so (not (contains_carrier set c)) Implied (not (contains_carrier s.hook c)) (λ k. ap (λ x. not (contains_carrier x c)) (eqb-true s.hook set h) ∙ k)
bearing_tells (hook_lacks c) (hook_lacks e) s d h = tells_if_so (nat_eq c.0 e.0) Implied (not (contains_carrier s.hook e)) (λ k. subst (λ x. not (nat_eq (bit_at s.hook x) 1) ≡ true) (eqb-true c.0 e.0 k) h)
bearing_tells (size_at_most earlier least) (size_at_most later most) s d h =
    tells_if_so (all_in later earlier && nat_le least most) Implied (nat_le (size_of later s) most)
    (λ k. let both = and_parts (all_in later earlier) (nat_le least most) k in
    le-leb (size_of later s) most (omega (arith, sum_within (λ n. length (s.stacks n)) later earlier d (all_in_within later earlier both.0), leb-true (size_of earlier s) least h, leb-true least most both.1)))
bearing_tells (last_near c n f) (last_near e m g) s d h =
    tells_if_so (nat_eq c.0 e.0 && (int_eq n m && nat_eq f g)) Implied (is_near g (s.lasts e) m)
    (λ k.
    let one = and_parts (nat_eq c.0 e.0) (int_eq n m && nat_eq f g) k in
    let two = and_parts (int_eq n m) (nat_eq f g) one.1 in
    sym (same_test s c e n m f g (eqb-true c.0 e.0 one.0) ((Decides-int_eq n m).0 two.0) (eqb-true f g two.1)) ∙ h)
bearing_tells p q s d h = tt
