-- Conditions whose needles stand one after the other in one list.
use Rattle.std.proofs.Common.{◌≡◌, ℕ, ◌+◌, List, [], ◌∷◌, ◌++◌, length, map, refl, sym, ap, ◌∙◌, subst, arith, length-append}
use Rattle.std.specs.List.{flat_map}
use Rattle.std.proofs.Math.Path.{ap₂}
use Rattle.std.proofs.lemmas.Grind.{flat_map-append}
use Rattle.std.proofs.lemmas.List.{map-append, append-nil}
use Rattle.std.proofs.lemmas.List.Elements.{All-push}
use Rattle.std.proofs.lemmas.List.Sums.{sum_by-cons}
use Rattle.knit_base.specs.declared.needle.Needle.{Needle}
use Rattle.face_data.specs.declared.face.Check.{Check}
use Rattle.face_data.specs.declared.face.Cond.{Cond}
use Rattle.face_data.specs.declared.face.Cond.TheVariants.{RackIs, CarrierIn, CarrierOut, HookFree, HookIs, HookLacks, SizeAtMost, LastNear}
use Rattle.face_data.specs.declared.face.Part.{Part}
use Rattle.face_data.specs.Conditions.{ask_of}
use Rattle.face_data.specs.Digests.{IsUnsized}
use Rattle.face_data.specs.Conditions.Ask.{size_at_most}
use Rattle.face_data.specs.Goodness.{size_needles_in}
use Rattle.face_data.specs.Summaries.{AskedCondition}
use Rattle.face_data.specs.View.{asked_of_check, size_needles_of, AreNamed, CondFits}
use Rattle.summary_compose.specs.Known.{names_count}
use Rattle.summary_compose.specs.declared.sizes.SizeWord.TheVariants.{Asks}
use Rattle.summary_compose.proofs.Parts.{part_of-end}
use Rattle.face_data.proofs.Parts.{checks-more, checks_fit-more, names-more}

-- one condition on sizes more, with its needles behind the others
pub size_kept : (cs now : List Check) (old more all : List Needle) (c : Check) (p : Part) (most : ℕ) → AreNamed old cs → all ≡ old ++ more →
    c.cond ≡ SizeAtMost p most → p.start ≡ length old → p.len ≡ length more → now ≡ cs ++ c ∷ [] →
    map (asked_of_check all) now ≡ map (asked_of_check old) cs ++ record { fault = c.fault; ask = size_at_most more most } ∷ []
size_kept cs now old more all c p most named e is s l n =
    let part = part_of-end old more p s l in
    ap₂ (λ (names : List Needle) (list : List Check). map (asked_of_check names) list) e n
    ∙ map-append (asked_of_check (old ++ more)) cs (c ∷ [])
    ∙ ap₂ (λ (xs ys : List AskedCondition). xs ++ ys) (checks-more cs old more named.fit)
    ((λ i. record { fault = c.fault; ask = ask_of (old ++ more) (is i) } ∷ []) ∙ (λ i. record { fault = c.fault; ask = size_at_most (part i) most } ∷ []))

-- and the parts still make up the list of names
pub size_named : (cs now : List Check) (old more all : List Needle) (c : Check) (p : Part) (most : ℕ) → AreNamed old cs → all ≡ old ++ more →
    c.cond ≡ SizeAtMost p most → p.start ≡ length old → p.len ≡ length more → now ≡ cs ++ c ∷ [] → AreNamed all now
size_named cs now old more all c p most named e is s l n =
    let size = length-append old more in
    let here : CondFits (old ++ more) (SizeAtMost p most) = omega arith in
    let known : AreNamed (old ++ more) (cs ++ c ∷ []) = record {
      fit = All-push (λ (c : Check). CondFits (old ++ more) c.cond) cs c (checks_fit-more cs old more named.fit) (subst (CondFits (old ++ more)) (sym is) here);
      whole = flat_map-append (λ (c : Check). size_needles_of (old ++ more) c.cond) cs (c ∷ [])
          ∙ ap₂ (λ (xs ys : List Needle). xs ++ ys) (names-more cs old more named.fit ∙ named.whole)
          (append-nil (size_needles_of (old ++ more) c.cond) ∙ ap (size_needles_of (old ++ more)) is ∙ part_of-end old more p s l);
    } in
    subst (λ names. AreNamed names now) (sym e) (subst (λ list. AreNamed (old ++ more) list) (sym n) known)

-- the needles of a condition
pub names_in_ask : (names : List Needle) (c : Cond) → size_needles_in (ask_of names c) ≡ size_needles_of names c
names_in_ask names (SizeAtMost p most) = refl
names_in_ask names (RackIs q) = refl
names_in_ask names (CarrierIn c) = refl
names_in_ask names (CarrierOut c) = refl
names_in_ask names HookFree = refl
names_in_ask names (HookIs set) = refl
names_in_ask names (HookLacks c) = refl
names_in_ask names (LastNear c at float) = refl

names_sum : (names : List Needle) (cs : List Check) → length (flat_map (λ (c : Check). size_needles_of names c.cond) cs) ≡ names_count (map (asked_of_check names) cs)
names_sum names [] = refl
names_sum names (c ∷ cs) =
    length-append (size_needles_of names c.cond) (flat_map (λ (c : Check). size_needles_of names c.cond) cs)
    ∙ ap₂ (λ (n m : ℕ). n + m) (ap length (sym (names_in_ask names c.cond))) (names_sum names cs)
    ∙ sym (sum_by-cons (λ (c : AskedCondition). length (size_needles_in c.ask)) (asked_of_check names c) (map (asked_of_check names) cs))

-- how many names there are
pub named_size : (names : List Needle) (cs : List Check) → AreNamed names cs → length names ≡ names_count (map (asked_of_check names) cs)
named_size names cs named = sym (ap length named.whole) ∙ names_sum names cs

-- one condition, one limit
pub asks_same : (most left : ℕ) → Asks most ≡ Asks left → most ≡ left
asks_same most left e = cc

-- a condition that isn't on sizes names no needle
unsized_ask : (names : List Needle) (c : Cond) → IsUnsized (ask_of [] c) → ask_of names c ≡ ask_of [] c
unsized_ask names (SizeAtMost p most) plain = absurd plain
unsized_ask names (RackIs q) plain = refl
unsized_ask names (CarrierIn c) plain = refl
unsized_ask names (CarrierOut c) plain = refl
unsized_ask names HookFree plain = refl
unsized_ask names (HookIs set) plain = refl
unsized_ask names (HookLacks c) plain = refl
unsized_ask names (LastNear c at float) plain = refl

unsized_names : (names : List Needle) (c : Cond) → IsUnsized (ask_of [] c) → size_needles_of names c ≡ []
unsized_names names (SizeAtMost p most) plain = absurd plain
unsized_names names (RackIs q) plain = refl
unsized_names names (CarrierIn c) plain = refl
unsized_names names (CarrierOut c) plain = refl
unsized_names names HookFree plain = refl
unsized_names names (HookIs set) plain = refl
unsized_names names (HookLacks c) plain = refl
unsized_names names (LastNear c at float) plain = refl

unsized_fits : (names : List Needle) (c : Cond) → IsUnsized (ask_of [] c) → CondFits names c
unsized_fits names (SizeAtMost p most) plain = absurd plain
unsized_fits names (RackIs q) plain = tt
unsized_fits names (CarrierIn c) plain = tt
unsized_fits names (CarrierOut c) plain = tt
unsized_fits names HookFree plain = tt
unsized_fits names (HookIs set) plain = tt
unsized_fits names (HookLacks c) plain = tt
unsized_fits names (LastNear c at float) plain = tt

-- one such condition more
pub one_kept : (cs now : List Check) (names : List Needle) (c : Check) → now ≡ cs ++ c ∷ [] → IsUnsized (ask_of [] c.cond)
    → map (asked_of_check names) now ≡ map (asked_of_check names) cs ++ record { fault = c.fault; ask = ask_of [] c.cond } ∷ []
one_kept cs now names c e plain =
    ap (map (asked_of_check names)) e ∙ map-append (asked_of_check names) cs (c ∷ [])
    ∙ ap (λ q. map (asked_of_check names) cs ++ record { fault = c.fault; ask = q } ∷ []) (unsized_ask names c.cond plain)

pub one_named : (cs now : List Check) (names : List Needle) (c : Check) → AreNamed names cs → now ≡ cs ++ c ∷ [] → IsUnsized (ask_of [] c.cond) → AreNamed names now
one_named cs now names c named e plain =
    let known : AreNamed names (cs ++ c ∷ []) = record {
      fit = All-push (λ (c : Check). CondFits names c.cond) cs c named.fit (unsized_fits names c.cond plain);
      whole = flat_map-append (λ (c : Check). size_needles_of names c.cond) cs (c ∷ [])
          ∙ ap₂ (λ (xs ys : List Needle). xs ++ ys) named.whole (append-nil (size_needles_of names c.cond) ∙ unsized_names names c.cond plain)
          ∙ append-nil names;
    } in
    subst (λ list. AreNamed names list) (sym e) known
