-- A canonical line reads as the same instruction.
use Rattle.std.proofs.Common.{◌≡◌, ◌==◌, ⊎_elim, inl, inr, ℕ, zero, suc, ◌+◌, ◌*◌, ◌/◌, ◌%◌, ◌^◌, ◌<◌, ◌≤◌, nat_lt, if◌then◌else◌, append-nil, length-append, ℤ, pos, negsuc, ◌-ℤ◌, ◌≤ℤ◌, int_lt, Bool, true, false, ◌||◌, List, [], ◌∷◌, ◌++◌, length, All, Option, None, Some, codes, ap, sym, subst, ◌∙◌, refl, arith}
use Rattle.std.specs.Fmt.{decimal}
use Rattle.std.proofs.lemmas.Bool.{cases_lt, eqb-false, eqb-true, false≢true, lt-ltb, ltb-true}
use Rattle.std.proofs.lemmas.Int.{ints}
use Rattle.std.proofs.lemmas.List.Elements.{All-append, All-cons, All-head, All-nil, All-tail, All-weaker}
use Rattle.knit_base.specs.declared.instr.Instr.{Instr}
use Rattle.knit_base.specs.declared.instr.Instr.TheVariants as instr
use Rattle.knit_base.specs.declared.instr.Read.TheVariants as read
use Rattle.knit_base.specs.declared.needle.Bed.{Bed}
use Rattle.knit_base.specs.declared.needle.Dir.{Dir}
use Rattle.knit_base.specs.declared.profile.Profile.{Profile}
use Rattle.knit_base.specs.Limits.{IsLawfulProfile}
use Rattle.knit_base.specs.Spelling.{dir_word, needle_text, quarters_text, quarters_word}
use Rattle.knitout_reader.specs.Reading.{ReadsAs, CodeReadsAs, TokensReadAs, instr_of, needle_on, off_bed, reading_of, reading_or, static_rule, unreadable}
use Rattle.knitout_reader.specs.Carriers.{carriers_of}
use Rattle.knit_base.specs.declared.rule.Reason.{Reason}
use Rattle.knit_base.specs.declared.rule.Rule.TheVariants.{RackLimit}
use Rattle.knit_base.specs.Reasons.{broken_if}
use Rattle.knit_base.proofs.Places.{by_test}
use Rattle.knitout_reader.specs.Numbers.{IsDecimal, IsDigit, IsQuarter, value_of_digits}
use Rattle.knitout_reader.specs.Shapes.{Shape, TokensSpell, BeginsWithNeedle, IsFormed, CarryInShape, CarryOutShape, HookInShape, HookOutShape, ReleaseHookShape, StitchShape, PauseShape, ExtensionShape, RackShape, KnitShape, TuckShape, MissShape, SplitShape, XferShape, DropShape, AmissShape}
use Rattle.knitout_reader.specs.Tokens.{tokens_of, before_comment, has_comment}
use Rattle.knitout_writer.specs.Canonical.{canonical, canonical_tokens, carrier_names, IsStableSpelling, comment_behind, comment_of, tokens_spaced}
use Rattle.knitout_writer.proofs.Numerals.{IsSmall, Spell, decimal_spells, digit_byte, needle_spells}
use Rattle.knitout_writer.proofs.SpacedTokens.{IsWord, IsWordByte, IsRespaced, spaced_words_canonical}
use Rattle.knitout_reader.proofs.Rules.{neither_reason, unbroken_test_fails}
use Rattle.knitout_writer.proofs.Words.{carriers_back, decimal_bytes, line_words, needle_word, sign_word}

-- the canonical tokens of an instruction read as the instruction, and are their own canonical tokens
pub record Settled (profile : Profile) (names tokens : List (List ℕ)) (i : Instr) : Type 0 where
  pub first : List ℕ
  pub others : List (List ℕ)
  pub canon : canonical_tokens names i tokens ≡ first ∷ others
  pub words : All IsWord (first ∷ others)
  pub reads : TokensReadAs profile names (first ∷ others) (read.Instr i)
  pub again : canonical_tokens names i (first ∷ others) ≡ first ∷ others

reading_is : (profile : Profile) (names : List (List ℕ)) (shape : Shape) → static_rule profile names shape ≡ None → read.Instr (instr_of names shape) ≡ reading_of profile names shape
reading_is profile names shape none = sym (ap (λ o. reading_or o (instr_of names shape)) none)

or_false : (a b : Bool) → (a || b) ≡ false → (a ≡ false) × (b ≡ false)
or_false true b e = absurd (false≢true (sym e))
or_false false b e = (refl, e)

not_below : (a b : ℤ) → int_lt a b ≡ false → b ≤ℤ a
not_below a b e = grind (arith, ints)

small_at : (profile : Profile) (place : ℕ) (at : ℤ) → IsLawfulProfile profile → off_bed profile place at ≡ None → IsSmall at
small_at profile place at lawful none =
    let within : (int_lt at profile.low ≡ false) × (int_lt profile.high at ≡ false) = or_false _ _ (unbroken_test_fails _ _ _ none) in
    let low : profile.low ≤ℤ at = not_below _ _ within.0 in
    let high : at ≤ℤ profile.high = not_below _ _ within.1 in
    record { low = omega (arith, ints, lawful.lowest); high = omega (arith, ints, lawful.highest) }

begins : (bed : Bed) (at : ℤ) (others : List (List ℕ)) → IsSmall at → BeginsWithNeedle (needle_text (needle_on bed at) ∷ others) bed at others
begins bed at others small = record { needle = needle_text (needle_on bed at); spelled = refl; named = needle_spells bed at small }

behind : (tokens : List (List ℕ)) (bed : Bed) (at : ℤ) (others : List (List ℕ)) → BeginsWithNeedle tokens bed at others → All IsWord tokens → All IsWord others
behind tokens bed at others first words = All-tail IsWord first.needle others (subst (All IsWord) first.spelled words)

with_needle : (bed : Bed) (at : ℤ) (others : List (List ℕ)) → IsSmall at → All IsWord others → All IsWord (needle_text (needle_on bed at) ∷ others)
with_needle bed at others small words = All-cons IsWord (needle_text (needle_on bed at)) others (needle_word bed at small) words

formed_words : (word : List ℕ) (tokens : List (List ℕ)) (dir : Dir) (bed : Bed) (at : ℤ) (carriers : List (List ℕ)) → IsFormed word tokens dir bed at carriers → IsSmall at → All IsWord tokens
    → All IsWord (word ∷ dir_word dir ∷ needle_text (needle_on bed at) ∷ carriers)
formed_words word tokens dir bed at carriers formed small are =
    let all : All IsWord (word ∷ dir_word dir ∷ formed.operands) = subst (All IsWord) formed.spelled are in
    let operands : All IsWord (dir_word dir ∷ formed.operands) = All-tail IsWord word (dir_word dir ∷ formed.operands) all in
    let rest : All IsWord carriers = behind formed.operands bed at carriers formed.first (All-tail IsWord (dir_word dir) formed.operands operands) in
    All-cons IsWord word (dir_word dir ∷ needle_text (needle_on bed at) ∷ carriers) (All-head IsWord word (dir_word dir ∷ formed.operands) all)
    (All-cons IsWord (dir_word dir) (needle_text (needle_on bed at) ∷ carriers) (All-head IsWord (dir_word dir) formed.operands operands) (with_needle bed at carriers small rest))

formed_again : (word : List ℕ) (dir : Dir) (bed : Bed) (at : ℤ) (carriers : List (List ℕ)) → IsSmall at → IsFormed word (word ∷ dir_word dir ∷ needle_text (needle_on bed at) ∷ carriers) dir bed at carriers
formed_again word dir bed at carriers small = record { operands = needle_text (needle_on bed at) ∷ carriers; spelled = refl; first = begins bed at carriers small }

first_word : (word : List ℕ) (tokens operands : List (List ℕ)) → tokens ≡ word ∷ operands → All IsWord tokens → IsWord word
first_word word tokens operands is are = All-head IsWord word operands (subst (All IsWord) is are)

-- the digits behind the point of so many quarters
abbrev pub fraction_of : ℕ → List ℕ
fraction_of quarters =
    if quarters == 0 then []
    else (if quarters == 1 then codes "25"
    else (if quarters == 2 then codes "5" else codes "75"))

-- a rack of so many quarters behind its whole needles
pub record IsQuartered (whole : List ℕ) (quarters : ℕ) : Type 0 where
  pub spelled : IsDecimal (whole ++ quarters_word quarters) whole (fraction_of quarters)
  pub value : IsQuarter (fraction_of quarters) quarters
  pub bytes : All IsWordByte (quarters_word quarters)

digit_25 : All IsDigit (codes "25")
digit_25 = All-cons IsDigit 50 (53 ∷ []) (omega arith, omega arith) (All-cons IsDigit 53 [] (omega arith, omega arith) (All-nil IsDigit))

digit_5 : All IsDigit (codes "5")
digit_5 = All-cons IsDigit 53 [] (omega arith, omega arith) (All-nil IsDigit)

digit_75 : All IsDigit (codes "75")
digit_75 = All-cons IsDigit 55 (53 ∷ []) (omega arith, omega arith) (All-cons IsDigit 53 [] (omega arith, omega arith) (All-nil IsDigit))

pointed : (whole fraction : List ℕ) → 0 < length whole → All IsDigit whole → All IsDigit fraction → IsDecimal (whole ++ 46 ∷ fraction) whole fraction
pointed whole fraction some each digits = (each, digits, inr (refl, omega arith))

point_bytes : (fraction : List ℕ) → All IsDigit fraction → All IsWordByte (46 ∷ fraction)
point_bytes fraction digits = All-cons IsWordByte 46 fraction (refl, refl) (All-weaker IsDigit IsWordByte digit_byte fraction digits)

quartered : (whole : List ℕ) (quarters : ℕ) → quarters < 4 → 0 < length whole → All IsDigit whole → IsQuartered whole quarters
quartered whole quarters few some each =
    by_test (quarters == 0)
    (λ zero. subst (IsQuartered whole) (sym (eqb-true quarters 0 zero)) (record { spelled = (each, All-nil IsDigit, inl (append-nil whole, refl, some)); value = refl; bytes = All-nil IsWordByte }))
    (λ not_zero.
    by_test (quarters == 1)
    (λ one. subst (IsQuartered whole) (sym (eqb-true quarters 1 one)) (record { spelled = pointed whole (codes "25") some each digit_25; value = refl; bytes = point_bytes (codes "25") digit_25 }))
    (λ not_one.
    by_test (quarters == 2)
    (λ two. subst (IsQuartered whole) (sym (eqb-true quarters 2 two)) (record { spelled = pointed whole (codes "5") some each digit_5; value = refl; bytes = point_bytes (codes "5") digit_5 }))
    (λ not_two.
    let three : quarters ≡ 3 = omega (arith, eqb-false quarters 0 not_zero, eqb-false quarters 1 not_one, eqb-false quarters 2 not_two) in
    subst (IsQuartered whole) (sym three) (record { spelled = pointed whole (codes "75") some each digit_75; value = refl; bytes = point_bytes (codes "75") digit_75 }))))

not_less : (a b : ℕ) → nat_lt a b ≡ false → b ≤ a
not_less a b e = ⊎_elim (λ (lt : a < b). absurd (false≢true (sym e ∙ lt-ltb a b lt))) (λ (le : b ≤ a). le) (cases_lt a b)

less_false : (a b : ℕ) → b ≤ a → nat_lt a b ≡ false
less_false a b le = by_test (nat_lt a b) (λ is. absurd (omega (arith, ltb-true a b is))) (λ isnt. isnt)

rack_reading : (profile : Profile) (m n : ℕ) (f : ℕ → ℤ) → m ≤ 4 * profile.rack → n ≡ m → read.Instr (instr.Rack (record { 0 = f m })) ≡ reading_or (broken_if (nat_lt (4 * profile.rack) n) RackLimit 1) (instr.Rack (record { 0 = f n }))
rack_reading profile m n f within is =
    sym (ap (λ b. reading_or (broken_if b RackLimit 1) (instr.Rack (record { 0 = f m }))) (less_false (4 * profile.rack) m within))
    ∙ ap (λ k. reading_or (broken_if (nat_lt (4 * profile.rack) k) RackLimit 1) (instr.Rack (record { 0 = f k }))) (sym is)

quarters_bytes : (m : ℕ) → m < 2 ^ 32 → All IsWordByte (quarters_word (m % 4)) → IsWord (quarters_text m)
quarters_bytes m small bytes =
    let spell : Spell (m / 4) (decimal (m / 4)) = decimal_spells (m / 4) (omega arith) in
    record {
      some = omega (arith, spell.some, length-append (decimal (m / 4)) (quarters_word (m % 4)));
      bytes = All-append IsWordByte (decimal (m / 4)) (quarters_word (m % 4)) (decimal_bytes (m / 4) (omega arith)) bytes;
    }

rack_word : IsWord (codes "rack")
rack_word = record {
  some = omega arith;
  bytes =
      All-cons IsWordByte 114 (97 ∷ 99 ∷ 107 ∷ []) (refl, refl)
      (All-cons IsWordByte 97 (99 ∷ 107 ∷ []) (refl, refl) (All-cons IsWordByte 99 (107 ∷ []) (refl, refl) (All-cons IsWordByte 107 [] (refl, refl) (All-nil IsWordByte))));
}

rack_words : (token : List ℕ) → IsWord token → All IsWord (codes "rack" ∷ token ∷ [])
rack_words token is = All-cons IsWord (codes "rack") (token ∷ []) rack_word (All-cons IsWord token [] is (All-nil IsWord))

settled_up : (profile : Profile) (names tokens : List (List ℕ)) (m : ℕ) → m ≤ 4 * profile.rack → profile.rack ≤ 64 → Settled profile names tokens (instr.Rack (record { 0 = pos m }))
settled_up profile names tokens m within few =
    let spell : Spell (m / 4) (decimal (m / 4)) = decimal_spells (m / 4) (omega arith) in
    let left : IsQuartered (decimal (m / 4)) (m % 4) = quartered (decimal (m / 4)) (m % 4) (omega arith) spell.some spell.each in
    let value : 4 * value_of_digits (decimal (m / 4)) + m % 4 ≡ m = omega (arith, spell.value) in
    record {
      first = codes "rack";
      others = quarters_text m ∷ [];
      canon = refl;
      words = rack_words (quarters_text m) (quarters_bytes m (omega arith) left.bytes);
      reads =
          inl (
            RackShape false (decimal (m / 4)) (Some (m % 4)),
            record { token = quarters_text m; fraction = fraction_of (m % 4); spelled = refl; named = ([], quarters_text m, refl, inl refl, left.spelled); left = left.value },
            rack_reading profile m (4 * value_of_digits (decimal (m / 4)) + m % 4) pos within value,
          );
      again = refl;
    }

settled_down : (profile : Profile) (names tokens : List (List ℕ)) (k : ℕ) → suc k ≤ 4 * profile.rack → profile.rack ≤ 64 → Settled profile names tokens (instr.Rack (record { 0 = negsuc k }))
settled_down profile names tokens k within few =
    let spell : Spell (suc k / 4) (decimal (suc k / 4)) = decimal_spells (suc k / 4) (omega arith) in
    let left : IsQuartered (decimal (suc k / 4)) (suc k % 4) = quartered (decimal (suc k / 4)) (suc k % 4) (omega arith) spell.some spell.each in
    let value : 4 * value_of_digits (decimal (suc k / 4)) + suc k % 4 ≡ suc k = omega (arith, spell.value) in
    let minus : negsuc k ≡ pos 0 -ℤ pos (suc k) = omega (arith, ints) in
    let text : IsWord (quarters_text (suc k)) = quarters_bytes (suc k) (omega arith) left.bytes in
    let whole : IsWord (45 ∷ quarters_text (suc k)) = record { some = omega arith; bytes = sign_word (quarters_text (suc k)) text.bytes } in
    record {
      first = codes "rack";
      others = (45 ∷ quarters_text (suc k)) ∷ [];
      canon = refl;
      words = rack_words (45 ∷ quarters_text (suc k)) whole;
      reads =
          inl (
            RackShape true (decimal (suc k / 4)) (Some (suc k % 4)),
            record { token = 45 ∷ quarters_text (suc k); fraction = fraction_of (suc k % 4); spelled = refl; named = (codes "-", quarters_text (suc k), refl, refl, left.spelled); left = left.value },
            ap (λ z. read.Instr (instr.Rack (record { 0 = z }))) minus
                ∙ rack_reading profile (suc k) (4 * value_of_digits (decimal (suc k / 4)) + suc k % 4) (λ n. pos 0 -ℤ pos n) within value,
          );
      again = refl;
    }

settled_minus : (profile : Profile) (names tokens : List (List ℕ)) (m : ℕ) → m ≤ 4 * profile.rack → profile.rack ≤ 64 → Settled profile names tokens (instr.Rack (record { 0 = pos 0 -ℤ pos m }))
settled_minus profile names tokens zero within few =
    let none : pos 0 ≡ pos 0 -ℤ pos 0 = omega (arith, ints) in
    subst (λ z. Settled profile names tokens (instr.Rack (record { 0 = z }))) none (settled_up profile names tokens 0 (omega arith) few)
settled_minus profile names tokens (suc k) within few =
    let minus : negsuc k ≡ pos 0 -ℤ pos (suc k) = omega (arith, ints) in
    subst (λ z. Settled profile names tokens (instr.Rack (record { 0 = z }))) minus (settled_down profile names tokens k within few)

settled_rack : (profile : Profile) (names tokens : List (List ℕ)) (negative : Bool) (whole : List ℕ) (quarters : Option ℕ) → IsLawfulProfile profile
    → static_rule profile names (RackShape negative whole quarters) ≡ None → Settled profile names tokens (instr_of names (RackShape negative whole quarters))
settled_rack profile names tokens negative whole None lawful none = cc
settled_rack profile names tokens false whole (Some q) lawful none =
    settled_up profile names tokens (4 * value_of_digits whole + q) (not_less _ _ (unbroken_test_fails _ _ _ none)) lawful.rack
settled_rack profile names tokens true whole (Some q) lawful none =
    settled_minus profile names tokens (4 * value_of_digits whole + q) (not_less _ _ (unbroken_test_fails _ _ _ none)) lawful.rack

-- each instruction settles
settled : (profile : Profile) (names tokens : List (List ℕ)) (shape : Shape) → IsLawfulProfile profile → TokensSpell tokens shape → static_rule profile names shape ≡ None → All IsWord tokens
    → Settled profile names tokens (instr_of names shape)
settled profile names tokens (CarryInShape carriers) lawful spelt none are =
    let back : carrier_names names (carriers_of names carriers) ≡ carriers = carriers_back names carriers 1 none in
    record {
      first = codes "in";
      others = carriers;
      canon = ap (λ cs. codes "in" ∷ cs) back;
      words = subst (All IsWord) spelt.spelled are;
      reads = inl (CarryInShape carriers, record { spelled = refl; some = spelt.some }, reading_is profile names (CarryInShape carriers) none);
      again = ap (λ cs. codes "in" ∷ cs) back;
    }
settled profile names tokens (CarryOutShape carriers) lawful spelt none are =
    let back : carrier_names names (carriers_of names carriers) ≡ carriers = carriers_back names carriers 1 none in
    record {
      first = codes "out";
      others = carriers;
      canon = ap (λ cs. codes "out" ∷ cs) back;
      words = subst (All IsWord) spelt.spelled are;
      reads = inl (CarryOutShape carriers, record { spelled = refl; some = spelt.some }, reading_is profile names (CarryOutShape carriers) none);
      again = ap (λ cs. codes "out" ∷ cs) back;
    }
settled profile names tokens (HookInShape carriers) lawful spelt none are =
    let back : carrier_names names (carriers_of names carriers) ≡ carriers = carriers_back names carriers 1 none in
    record {
      first = codes "inhook";
      others = carriers;
      canon = ap (λ cs. codes "inhook" ∷ cs) back;
      words = subst (All IsWord) spelt.spelled are;
      reads = inl (HookInShape carriers, record { spelled = refl; some = spelt.some }, reading_is profile names (HookInShape carriers) none);
      again = ap (λ cs. codes "inhook" ∷ cs) back;
    }
settled profile names tokens (HookOutShape carriers) lawful spelt none are =
    let back : carrier_names names (carriers_of names carriers) ≡ carriers = carriers_back names carriers 1 none in
    record {
      first = codes "outhook";
      others = carriers;
      canon = ap (λ cs. codes "outhook" ∷ cs) back;
      words = subst (All IsWord) spelt.spelled are;
      reads = inl (HookOutShape carriers, record { spelled = refl; some = spelt.some }, reading_is profile names (HookOutShape carriers) none);
      again = ap (λ cs. codes "outhook" ∷ cs) back;
    }
settled profile names tokens (ReleaseHookShape carriers) lawful spelt none are =
    let back : carrier_names names (carriers_of names carriers) ≡ carriers = carriers_back names carriers 1 none in
    record {
      first = codes "releasehook";
      others = carriers;
      canon = ap (λ cs. codes "releasehook" ∷ cs) back;
      words = subst (All IsWord) spelt.spelled are;
      reads = inl (ReleaseHookShape carriers, record { spelled = refl; some = spelt.some }, reading_is profile names (ReleaseHookShape carriers) none);
      again = ap (λ cs. codes "releasehook" ∷ cs) back;
    }
settled profile names tokens (StitchShape free) lawful spelt none are = record {
  first = codes "stitch";
  others = free;
  canon = spelt;
  words = subst (All IsWord) spelt are;
  reads = inl (StitchShape free, refl, reading_is profile names (StitchShape free) none);
  again = refl;
}
settled profile names tokens (PauseShape free) lawful spelt none are = record {
  first = codes "pause";
  others = free;
  canon = spelt;
  words = subst (All IsWord) spelt are;
  reads = inl (PauseShape free, refl, reading_is profile names (PauseShape free) none);
  again = refl;
}
settled profile names tokens (ExtensionShape name free) lawful spelt none are = record {
  first = codes "x-" ++ name;
  others = free;
  canon = spelt;
  words = subst (All IsWord) spelt are;
  reads = inl (ExtensionShape name free, refl, reading_is profile names (ExtensionShape name free) none);
  again = refl;
}
settled profile names tokens (RackShape negative whole quarters) lawful spelt none are = settled_rack profile names tokens negative whole quarters lawful none
settled profile names tokens (KnitShape dir bed at carriers) lawful spelt none are =
    let both = neither_reason (off_bed profile 2 at) _ none in
    let small : IsSmall at = small_at profile 2 at lawful both.0 in
    let back : carrier_names names (carriers_of names carriers) ≡ carriers = carriers_back names carriers 3 (neither_reason _ _ both.1).1 in
    record {
      first = codes "knit";
      others = dir_word dir ∷ needle_text (needle_on bed at) ∷ carriers;
      canon = ap (λ cs. codes "knit" ∷ dir_word dir ∷ needle_text (needle_on bed at) ∷ cs) back;
      words = formed_words (codes "knit") tokens dir bed at carriers spelt small are;
      reads = inl (KnitShape dir bed at carriers, formed_again (codes "knit") dir bed at carriers small, reading_is profile names (KnitShape dir bed at carriers) none);
      again = ap (λ cs. codes "knit" ∷ dir_word dir ∷ needle_text (needle_on bed at) ∷ cs) back;
    }
settled profile names tokens (TuckShape dir bed at carriers) lawful spelt none are =
    let both = neither_reason (off_bed profile 2 at) _ none in
    let small : IsSmall at = small_at profile 2 at lawful both.0 in
    let back : carrier_names names (carriers_of names carriers) ≡ carriers = carriers_back names carriers 3 (neither_reason _ _ both.1).1 in
    record {
      first = codes "tuck";
      others = dir_word dir ∷ needle_text (needle_on bed at) ∷ carriers;
      canon = ap (λ cs. codes "tuck" ∷ dir_word dir ∷ needle_text (needle_on bed at) ∷ cs) back;
      words = formed_words (codes "tuck") tokens dir bed at carriers spelt small are;
      reads = inl (TuckShape dir bed at carriers, formed_again (codes "tuck") dir bed at carriers small, reading_is profile names (TuckShape dir bed at carriers) none);
      again = ap (λ cs. codes "tuck" ∷ dir_word dir ∷ needle_text (needle_on bed at) ∷ cs) back;
    }
settled profile names tokens (MissShape dir bed at carriers) lawful spelt none are =
    let both = neither_reason (off_bed profile 2 at) _ none in
    let small : IsSmall at = small_at profile 2 at lawful both.0 in
    let back : carrier_names names (carriers_of names carriers) ≡ carriers = carriers_back names carriers 3 both.1 in
    record {
      first = codes "miss";
      others = dir_word dir ∷ needle_text (needle_on bed at) ∷ carriers;
      canon = ap (λ cs. codes "miss" ∷ dir_word dir ∷ needle_text (needle_on bed at) ∷ cs) back;
      words = formed_words (codes "miss") tokens dir bed at carriers spelt small are;
      reads = inl (MissShape dir bed at carriers, formed_again (codes "miss") dir bed at carriers small, reading_is profile names (MissShape dir bed at carriers) none);
      again = ap (λ cs. codes "miss" ∷ dir_word dir ∷ needle_text (needle_on bed at) ∷ cs) back;
    }
settled profile names tokens (SplitShape dir bed at bed2 at2 carriers) lawful spelt none are =
    let both = neither_reason (off_bed profile 2 at) _ none in
    let second = neither_reason (off_bed profile 3 at2) _ both.1 in
    let small : IsSmall at = small_at profile 2 at lawful both.0 in
    let small2 : IsSmall at2 = small_at profile 3 at2 lawful second.0 in
    let back : carrier_names names (carriers_of names carriers) ≡ carriers = carriers_back names carriers 4 (neither_reason _ _ (neither_reason _ _ second.1).1).1 in
    let all : All IsWord (codes "split" ∷ dir_word dir ∷ spelt.operands) = subst (All IsWord) spelt.spelled are in
    let operands : All IsWord (dir_word dir ∷ spelt.operands) = All-tail IsWord (codes "split") (dir_word dir ∷ spelt.operands) all in
    let others_are : All IsWord spelt.others = behind spelt.operands bed at spelt.others spelt.first (All-tail IsWord (dir_word dir) spelt.operands operands) in
    let carriers_are : All IsWord carriers = behind spelt.others bed2 at2 carriers spelt.second others_are in
    let rest : List (List ℕ) = needle_text (needle_on bed at) ∷ needle_text (needle_on bed2 at2) ∷ carriers in
    record {
      first = codes "split";
      others = dir_word dir ∷ needle_text (needle_on bed at) ∷ needle_text (needle_on bed2 at2) ∷ carriers;
      canon = ap (λ cs. codes "split" ∷ dir_word dir ∷ needle_text (needle_on bed at) ∷ needle_text (needle_on bed2 at2) ∷ cs) back;
      words =
          All-cons IsWord (codes "split") (dir_word dir ∷ rest) (All-head IsWord (codes "split") (dir_word dir ∷ spelt.operands) all)
          (All-cons IsWord (dir_word dir) rest (All-head IsWord (dir_word dir) spelt.operands operands) (with_needle bed at (needle_text (needle_on bed2 at2) ∷ carriers) small (with_needle bed2 at2 carriers small2 carriers_are)));
      reads =
          inl (
            SplitShape dir bed at bed2 at2 carriers,
            record {
              operands = needle_text (needle_on bed at) ∷ needle_text (needle_on bed2 at2) ∷ carriers;
              others = needle_text (needle_on bed2 at2) ∷ carriers;
              spelled = refl;
              first = begins bed at (needle_text (needle_on bed2 at2) ∷ carriers) small;
              second = begins bed2 at2 carriers small2;
            },
            reading_is profile names (SplitShape dir bed at bed2 at2 carriers) none,
          );
      again = ap (λ cs. codes "split" ∷ dir_word dir ∷ needle_text (needle_on bed at) ∷ needle_text (needle_on bed2 at2) ∷ cs) back;
    }
settled profile names tokens (XferShape bed at bed2 at2) lawful spelt none are =
    let both = neither_reason (off_bed profile 1 at) _ none in
    let second = neither_reason (off_bed profile 2 at2) _ both.1 in
    let small : IsSmall at = small_at profile 1 at lawful both.0 in
    let small2 : IsSmall at2 = small_at profile 2 at2 lawful second.0 in
    record {
      first = codes "xfer";
      others = needle_text (needle_on bed at) ∷ needle_text (needle_on bed2 at2) ∷ [];
      canon = refl;
      words =
          All-cons IsWord (codes "xfer") (needle_text (needle_on bed at) ∷ needle_text (needle_on bed2 at2) ∷ []) (first_word (codes "xfer") tokens spelt.operands spelt.spelled are)
          (with_needle bed at (needle_text (needle_on bed2 at2) ∷ []) small (with_needle bed2 at2 [] small2 (All-nil IsWord)));
      reads =
          inl (
            XferShape bed at bed2 at2,
            record {
              operands = needle_text (needle_on bed at) ∷ needle_text (needle_on bed2 at2) ∷ [];
              others = needle_text (needle_on bed2 at2) ∷ [];
              spelled = refl;
              first = begins bed at (needle_text (needle_on bed2 at2) ∷ []) small;
              second = begins bed2 at2 [] small2;
            },
            reading_is profile names (XferShape bed at bed2 at2) none,
          );
      again = refl;
    }
settled profile names tokens (DropShape bed at) lawful spelt none are =
    let small : IsSmall at = small_at profile 1 at lawful none in
    record {
      first = codes "drop";
      others = needle_text (needle_on bed at) ∷ [];
      canon = refl;
      words = All-cons IsWord (codes "drop") (needle_text (needle_on bed at) ∷ []) (first_word (codes "drop") tokens spelt.operands spelt.spelled are) (with_needle bed at [] small (All-nil IsWord));
      reads = inl (DropShape bed at, record { operands = needle_text (needle_on bed at) ∷ []; spelled = refl; first = begins bed at [] small }, reading_is profile names (DropShape bed at) none);
      again = refl;
    }
settled profile names tokens (AmissShape bed at) lawful spelt none are =
    let small : IsSmall at = small_at profile 1 at lawful none in
    record {
      first = codes "amiss";
      others = needle_text (needle_on bed at) ∷ [];
      canon = refl;
      words = All-cons IsWord (codes "amiss") (needle_text (needle_on bed at) ∷ []) (first_word (codes "amiss") tokens spelt.operands spelt.spelled are) (with_needle bed at [] small (All-nil IsWord));
      reads = inl (AmissShape bed at, record { operands = needle_text (needle_on bed at) ∷ []; spelled = refl; first = begins bed at [] small }, reading_is profile names (AmissShape bed at) none);
      again = refl;
    }

found : (profile : Profile) (names tokens : List (List ℕ)) (i : Instr) (shape : Shape) (reason : Option Reason) → static_rule profile names shape ≡ reason → read.Instr i ≡ reading_or reason (instr_of names shape)
    → IsLawfulProfile profile → TokensSpell tokens shape → All IsWord tokens → Settled profile names tokens i
found profile names tokens i shape None none is lawful spelt are =
    let same : instr_of names shape ≡ i = cc in
    subst (Settled profile names tokens) same (settled profile names tokens shape lawful spelt none are)
found profile names tokens i shape (Some reason) broken is lawful spelt are = cc

settled_tokens : (profile : Profile) (names tokens : List (List ℕ)) (i : Instr) → IsLawfulProfile profile → All IsWord tokens → TokensReadAs profile names tokens (read.Instr i) → Settled profile names tokens i
settled_tokens profile names tokens i lawful are reads =
    ⊎_elim
    (λ (shaped : (shape : Shape) × TokensSpell tokens shape × (read.Instr i ≡ reading_of profile names shape)).
    found profile names tokens i shaped.0 (static_rule profile names shaped.0) refl shaped.2 lawful shaped.1 are)
    (λ (none : ((shape : Shape) → TokensSpell tokens shape → ⊥) × (read.Instr i ≡ unreadable)). let other : read.Instr i ≡ unreadable = none.1 in cc)
    reads

settled_code : (profile : Profile) (names tokens : List (List ℕ)) (comment : Bool) (i : Instr) → IsLawfulProfile profile → All IsWord tokens → CodeReadsAs profile names tokens comment (read.Instr i) → Settled profile names tokens i
settled_code profile names [] false i lawful are reads = let other : read.Instr i ≡ read.Blank = reads in cc
settled_code profile names [] true i lawful are reads = let other : read.Instr i ≡ read.Comment = reads in cc
settled_code profile names (token ∷ tokens) comment i lawful are reads = settled_tokens profile names (token ∷ tokens) i lawful are reads

-- a line whose tokens and comment are these reads as the instruction, and is written as it is
rewritten : (profile : Profile) (names : List (List ℕ)) (line new first : List ℕ) (others : List (List ℕ)) (i : Instr) → IsRespaced line new (first ∷ others)
    → TokensReadAs profile names (first ∷ others) (read.Instr i) → canonical_tokens names i (first ∷ others) ≡ first ∷ others → new ≡ tokens_spaced (first ∷ others) ++ comment_behind (comment_of line)
    → ReadsAs profile names new (read.Instr i) × (canonical names (read.Instr i) new ≡ new)
rewritten profile names line new first others i new_is reads again is = (
  subst (λ ts. CodeReadsAs profile names ts (has_comment new) (read.Instr i)) (sym new_is.spelled) reads,
  ap (λ ts. tokens_spaced (canonical_tokens names i ts) ++ comment_behind (comment_of new)) new_is.spelled
      ∙ ap (λ ts. tokens_spaced ts ++ comment_behind (comment_of new)) again
      ∙ ap (λ c. tokens_spaced (first ∷ others) ++ comment_behind c) new_is.comment
      ∙ sym is,
)

-- the canonical spelling of a line reads as its instruction, and is its own
pub canonical_spelling_settles : (profile : Profile) (names : List (List ℕ)) (line : List ℕ) → IsLawfulProfile profile → IsStableSpelling profile names line
canonical_spelling_settles profile names line lawful i reads =
    let s : Settled profile names (tokens_of (before_comment line)) i = settled_code profile names (tokens_of (before_comment line)) (has_comment line) i lawful (line_words line) reads in
    let is : canonical names (read.Instr i) line ≡ tokens_spaced (s.first ∷ s.others) ++ comment_behind (comment_of line) = ap (λ ts. tokens_spaced ts ++ comment_behind (comment_of line)) s.canon in
    let new : IsRespaced line (canonical names (read.Instr i) line) (s.first ∷ s.others) = subst (λ l. IsRespaced line l (s.first ∷ s.others)) (sym is) (spaced_words_canonical line s.first s.others s.words) in
    rewritten profile names line (canonical names (read.Instr i) line) s.first s.others i new s.reads s.again is
