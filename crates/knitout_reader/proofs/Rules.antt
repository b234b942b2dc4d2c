-- What holds of a shape that breaks no rule.
use Rattle.std.proofs.Common.{◌≡◌, ◌≢◌, ◌⊎◌, ⊎_elim, inl, inr, ℕ, ◌+◌, ◌*◌, ◌<◌, ◌≤◌, ◌^◌, ℤ, ◌≤ℤ◌, int_lt, nat_lt, Bool, true, false, not, ◌||◌, ◌&&◌, List, [], ◌∷◌, length, All, Option, None, Some, position, ap, sym, subst, refl, arith, if◌then◌else◌}
use Rattle.std.proofs.lemmas.Bool.{false≢true}
use Rattle.std.proofs.lemmas.Int.{ints}
use Rattle.std.proofs.lemmas.List.Elements.{All-cons, All-nil}
use Rattle.std.proofs.lemmas.List.Quantifiers.{position-Some}
use Rattle.std.specs.List.{cons_option}
use Rattle.std.specs.Option.{option_map}
use Rattle.std.specs.Str.{bytes_eq}
use Rattle.knit_base.specs.declared.instr.Instr.{Instr}
use Rattle.knit_base.specs.declared.instr.Read.{Read}
use Rattle.knit_base.specs.declared.profile.Profile.{Profile}
use Rattle.knit_base.specs.declared.needle.Bed.{Bed}
use Rattle.knit_base.specs.declared.rule.Rule.{Rule}
use Rattle.knit_base.specs.declared.rule.Reason.{Reason}
use Rattle.knit_base.specs.declared.yarns.CarrierNo.{CarrierNo}
use Rattle.knit_base.specs.Instr.{formed_on}
use Rattle.knit_base.specs.Lawful.{AreDeclared, AreOpposite, IsFormedOnHook, IsLawfulInstr, IsLawfulRead, IsOnBed, IsWithinLimit}
use Rattle.knit_base.specs.Names.{carrier_of}
use Rattle.knit_base.specs.Needle.{is_front, is_slider}
use Rattle.knit_base.specs.Reasons.{broken_if, or_else}
use Rattle.knitout_reader.specs.Carriers.{carriers_of}
use Rattle.knitout_reader.specs.Numbers.{value_of_digits}
use Rattle.knitout_reader.specs.Reading.{TokensReadAs, are_one_side, are_sliders, instr_of, needle_on, not_opposite, off_bed, quarters_of, rack_rule, reading_or, slider_form, static_rule}
use Rattle.knitout_reader.specs.Shapes.{Shape, TokensSpell, shape_carriers, CarryInShape, CarryOutShape, HookInShape, HookOutShape, ReleaseHookShape, RackShape, KnitShape, TuckShape, MissShape, SplitShape, XferShape, DropShape, AmissShape}
use Rattle.knitout_reader.proofs.OneShape.{Fits, FitsNone}

-- of two reasons neither holds
pub neither_reason : (first second : Option Reason) → or_else first second ≡ None → (first ≡ None) × (second ≡ None)
neither_reason None second e = (refl, e)
neither_reason (Some reason) second e = cc

-- a rule that isn't broken: its test says no
pub unbroken_test_fails : (test : Bool) (rule : Rule) (at : ℕ) → broken_if test rule at ≡ None → test ≡ false
unbroken_test_fails true rule at e = cc
unbroken_test_fails false rule at e = refl

or_false : (a b : Bool) → (a || b) ≡ false → (a ≡ false) × (b ≡ false)
or_false true b e = absurd (false≢true (sym e))
or_false false b e = (refl, e)

and_false : (a b : Bool) → (a && b) ≡ false → (a ≡ false) ⊎ (b ≡ false)
and_false true b e = inr e
and_false false b e = inl refl

sides_differ : (a b : Bool) → (if a then b else not b) ≡ false → a ≢ b
sides_differ true true e = λ same. false≢true (sym e)
sides_differ true false e = λ same. false≢true (sym same)
sides_differ false true e = λ same. false≢true same
sides_differ false false e = λ same. false≢true (sym e)

not_below : (a b : ℤ) → int_lt a b ≡ false → b ≤ℤ a
not_below a b e = grind (arith, ints)

on_bed : (profile : Profile) (place : ℕ) (bed : Bed) (at : ℤ) → off_bed profile place at ≡ None → IsOnBed profile (needle_on bed at)
on_bed profile place bed at e =
    let within : (int_lt at profile.low ≡ false) × (int_lt profile.high at ≡ false) = or_false _ _ (unbroken_test_fails _ _ _ e) in
    record { above = not_below _ _ within.0; below = not_below _ _ within.1 }

opposite : (bed bed2 : Bed) (at at2 : ℤ) (place : ℕ) → not_opposite bed bed2 place ≡ None → AreOpposite (needle_on bed at) (needle_on bed2 at2)
opposite bed bed2 at at2 place e =
    let both : (broken_if (are_one_side bed bed2) _ place ≡ None) × (broken_if (are_sliders bed bed2) _ place ≡ None) = neither_reason _ _ e in
    record {
      sides = sides_differ (is_front bed) (is_front bed2) (unbroken_test_fails _ _ _ both.0);
      hook = and_false (is_slider bed) (is_slider bed2) (unbroken_test_fails _ _ _ both.1);
    }

hook_formed : (bed : Bed) (at : ℤ) (cs : List CarrierNo) → is_slider bed ≡ false → IsFormedOnHook (formed_on (needle_on bed at) cs)
hook_formed bed at [] e = tt
hook_formed bed at (c ∷ cs) e = e

formed_on_hook : (bed : Bed) (at : ℤ) (names carriers : List (List ℕ)) → slider_form bed carriers ≡ None → IsFormedOnHook (formed_on (needle_on bed at) (carriers_of names carriers))
formed_on_hook bed at names [] e = tt
formed_on_hook bed at names (carrier ∷ carriers) e = hook_formed bed at (carriers_of names (carrier ∷ carriers)) (unbroken_test_fails _ _ _ e)

not_more : (a b : ℕ) → nat_lt a b ≡ false → b ≤ a
not_more a b e = grind arith

quarters_within : (profile : Profile) (negative : Bool) (whole : List ℕ) (q : ℕ) → 4 * value_of_digits whole + q ≤ 4 * profile.rack
    → IsWithinLimit profile (quarters_of negative whole (Some q))
quarters_within profile false whole q few = record { left = omega (arith, ints, few); right = omega (arith, ints, few) }
quarters_within profile true whole q few = record { left = omega (arith, ints, few); right = omega (arith, ints, few) }

-- a rack that breaks no rule lies within the limit
within_limit : (profile : Profile) (negative : Bool) (whole : List ℕ) (quarters : Option ℕ) → rack_rule profile whole quarters ≡ None
    → IsWithinLimit profile (quarters_of negative whole quarters)
within_limit profile negative whole None e = cc
within_limit profile negative whole (Some q) e = quarters_within profile negative whole q (not_more _ _ (unbroken_test_fails _ _ _ e))

-- a carrier has the place of its name
placed : (names : List (List ℕ)) (name : List ℕ) (place : Option ℕ) → position (bytes_eq name) names ≡ place → (c : CarrierNo) → option_map (λ i. record { 0 = i }) place ≡ Some c → c.0 < length names
placed names name None found c e = cc
placed names name (Some i) found c e =
    let here : i ≡ c.0 = cc in
    subst (λ n. n < length names) here (position-Some (bytes_eq name) names i [] found).0

each_one : (names : List (List ℕ)) (found : Option CarrierNo) (cs : List CarrierNo) → ((c : CarrierNo) → found ≡ Some c → c.0 < length names)
    → All (λ c. c.0 < length names) cs → All (λ c. c.0 < length names) (cons_option found cs)
each_one names None cs here each = each
each_one names (Some c) cs here each = All-cons (λ c. c.0 < length names) c cs (here c refl) each

each_declared : (names tokens : List (List ℕ)) → All (λ c. c.0 < length names) (carriers_of names tokens)
each_declared names [] = λ i d within. absurd (omega arith)
each_declared names (token ∷ tokens) =
    each_one names (carrier_of names token) (carriers_of names tokens) (placed names token (position (bytes_eq token) names) refl) (each_declared names tokens)

one_more : (found : Option CarrierNo) (cs : List CarrierNo) → length (cons_option found cs) ≤ length cs + 1
one_more None cs = omega arith
one_more (Some c) cs = omega arith

no_more : (names tokens : List (List ℕ)) → length (carriers_of names tokens) ≤ length tokens
no_more names [] = omega arith
no_more names (token ∷ tokens) = omega (arith, one_more (carrier_of names token) (carriers_of names tokens), no_more names tokens)

declared : (names tokens : List (List ℕ)) (at : ℕ) → at ≤ 4 → 4 + length tokens < 2 ^ 16 → AreDeclared (length names) at (carriers_of names tokens)
declared names tokens at first few = record { each = each_declared names tokens; places = omega (arith, no_more names tokens) }

no_longer : (word : List ℕ) (rest : List (List ℕ)) (shape : Shape) → TokensSpell (word ∷ rest) shape → length (shape_carriers shape) ≤ length rest
no_longer word rest (CarryInShape carriers) spelled = omega (arith, ap length spelled.spelled)
no_longer word rest (CarryOutShape carriers) spelled = omega (arith, ap length spelled.spelled)
no_longer word rest (HookInShape carriers) spelled = omega (arith, ap length spelled.spelled)
no_longer word rest (HookOutShape carriers) spelled = omega (arith, ap length spelled.spelled)
no_longer word rest (ReleaseHookShape carriers) spelled = omega (arith, ap length spelled.spelled)
no_longer word rest (KnitShape dir bed at carriers) spelled = omega (arith, ap length spelled.spelled, ap length spelled.first.spelled)
no_longer word rest (TuckShape dir bed at carriers) spelled = omega (arith, ap length spelled.spelled, ap length spelled.first.spelled)
no_longer word rest (MissShape dir bed at carriers) spelled = omega (arith, ap length spelled.spelled, ap length spelled.first.spelled)
no_longer word rest (SplitShape dir bed at bed2 at2 carriers) spelled = omega (arith, ap length spelled.spelled, ap length spelled.first.spelled, ap length spelled.second.spelled)
no_longer word rest shape spelled = omega arith

none_declared : (declared : ℕ) → AreDeclared declared 1 []
none_declared declared = record { each = All-nil (λ c. c.0 < declared); places = omega arith }

-- the instruction of a shape that breaks no rule is lawful
lawful : (profile : Profile) (names : List (List ℕ)) (shape : Shape) → 4 + length (shape_carriers shape) < 2 ^ 16 → static_rule profile names shape ≡ None
    → IsLawfulInstr profile (length names) (instr_of names shape)
lawful profile names (CarryInShape carriers) few e = record { carriers = declared names carriers 1 (omega arith) few; needles = tt; formed = tt; moved = tt; rack = tt }
lawful profile names (CarryOutShape carriers) few e = record { carriers = declared names carriers 1 (omega arith) few; needles = tt; formed = tt; moved = tt; rack = tt }
lawful profile names (HookInShape carriers) few e = record { carriers = declared names carriers 1 (omega arith) few; needles = tt; formed = tt; moved = tt; rack = tt }
lawful profile names (HookOutShape carriers) few e = record { carriers = declared names carriers 1 (omega arith) few; needles = tt; formed = tt; moved = tt; rack = tt }
lawful profile names (ReleaseHookShape carriers) few e = record { carriers = declared names carriers 1 (omega arith) few; needles = tt; formed = tt; moved = tt; rack = tt }
lawful profile names (RackShape negative whole quarters) few e = record {
  carriers = none_declared (length names);
  needles = tt;
  formed = tt;
  moved = tt;
  rack = within_limit profile negative whole quarters e;
}
lawful profile names (KnitShape dir bed at carriers) few e =
    let first = neither_reason (off_bed profile 2 at) _ e in
    let second = neither_reason (slider_form bed carriers) _ first.1 in
    record {
      carriers = declared names carriers 3 (omega arith) few;
      needles = (on_bed profile 2 bed at first.0, tt);
      formed = formed_on_hook bed at names carriers second.0;
      moved = tt;
      rack = tt;
    }
lawful profile names (TuckShape dir bed at carriers) few e =
    let first = neither_reason (off_bed profile 2 at) _ e in
    let second = neither_reason (slider_form bed carriers) _ first.1 in
    record {
      carriers = declared names carriers 3 (omega arith) few;
      needles = (on_bed profile 2 bed at first.0, tt);
      formed = formed_on_hook bed at names carriers second.0;
      moved = tt;
      rack = tt;
    }
lawful profile names (MissShape dir bed at carriers) few e =
    let first = neither_reason (off_bed profile 2 at) _ e in
    record {
      carriers = declared names carriers 3 (omega arith) few;
      needles = (on_bed profile 2 bed at first.0, tt);
      formed = tt;
      moved = tt;
      rack = tt;
    }
lawful profile names (SplitShape dir bed at bed2 at2 carriers) few e =
    let first = neither_reason (off_bed profile 2 at) _ e in
    let second = neither_reason (off_bed profile 3 at2) _ first.1 in
    let third = neither_reason (slider_form bed carriers) _ second.1 in
    let fourth = neither_reason (not_opposite bed bed2 3) _ third.1 in
    record {
      carriers = declared names carriers 4 (omega arith) few;
      needles = (on_bed profile 2 bed at first.0, (on_bed profile 3 bed2 at2 second.0, tt));
      formed = formed_on_hook bed at names carriers third.0;
      moved = opposite bed bed2 at at2 3 fourth.0;
      rack = tt;
    }
lawful profile names (XferShape bed at bed2 at2) few e =
    let first = neither_reason (off_bed profile 1 at) _ e in
    let second = neither_reason (off_bed profile 2 at2) _ first.1 in
    record {
      carriers = none_declared (length names);
      needles = (on_bed profile 1 bed at first.0, (on_bed profile 2 bed2 at2 second.0, tt));
      formed = tt;
      moved = opposite bed bed2 at at2 2 second.1;
      rack = tt;
    }
lawful profile names (DropShape bed at) few e = record { carriers = none_declared (length names); needles = (on_bed profile 1 bed at e, tt); formed = tt; moved = tt; rack = tt }
lawful profile names (AmissShape bed at) few e = record { carriers = none_declared (length names); needles = (on_bed profile 1 bed at e, tt); formed = tt; moved = tt; rack = tt }
lawful profile names shape few e = record { carriers = none_declared (length names); needles = tt; formed = tt; moved = tt; rack = tt }

reading_lawful : (profile : Profile) (declared : ℕ) (reason : Option Reason) (i : Instr) → (reason ≡ None → IsLawfulInstr profile declared i) → IsLawfulRead profile declared (reading_or reason i)
reading_lawful profile declared None i holds = holds refl
reading_lawful profile declared (Some reason) i holds = tt

-- what tokens read as is lawful
pub tokens-lawful : (profile : Profile) (names : List (List ℕ)) (word : List ℕ) (rest : List (List ℕ)) (r : Read) → 4 + length rest < 2 ^ 16
    → TokensReadAs profile names (word ∷ rest) r → IsLawfulRead profile (length names) r
tokens-lawful profile names word rest r few reads =
    ⊎_elim
    (λ (here : Fits profile names (word ∷ rest) r).
    let fits : 4 + length (shape_carriers here.0) < 2 ^ 16 = omega (arith, few, no_longer word rest here.0 here.1) in
    subst (IsLawfulRead profile (length names)) (sym here.2)
    (reading_lawful profile (length names) (static_rule profile names here.0) (instr_of names here.0) (lawful profile names here.0 fits)))
    (λ (none : FitsNone (word ∷ rest) r). subst (IsLawfulRead profile (length names)) (sym none.1) tt)
    reads
