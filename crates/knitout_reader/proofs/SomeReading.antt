-- Each line has a reading.
use Rattle.std.proofs.Common.{◌≡◌, ◌≢◌, ◌⊎◌, ⊎_elim, inl, inr, ℕ, ◌+◌, ◌-◌, ◌*◌, ◌/◌, ◌^◌, ◌<◌, ◌≤◌, ℤ, pos, ◌-ℤ◌, Bool, true, false, nat_eq, List, [], ◌∷◌, ◌++◌, length, get_or, All, Option, None, Some, codes, ap, sym, subst, ◌∙◌, refl, arith}
use Rattle.std.specs.List.{AllZip, after_first, before_first, position_or_len}
use Rattle.std.specs.Str.{bytes_eq}
use Rattle.std.proofs.Math.Nat.{mul-div_cancel, one-le-pow}
use Rattle.std.proofs.lemmas.Bool.{cases_lt, eqb-true, false≢true}
use Rattle.std.proofs.lemmas.List.Elements.{All-cons, All-head, All-nil, All-tail}
use Rattle.std.proofs.lemmas.List.Sums.{fails_before_first, passes_at_first, split_at_first}
use Rattle.std.proofs.lemmas.List.{get_or-take, length-take}
use Rattle.std.proofs.lemmas.Slice.Eq.{bytes_eq-Decides}
use Rattle.knit_base.specs.declared.instr.Read.{Read}
use Rattle.knit_base.specs.declared.instr.Read.TheVariants as read
use Rattle.knit_base.specs.declared.needle.Bed.{Bed}
use Rattle.knit_base.specs.declared.needle.Bed.TheVariants.{Front, FrontSlider, Back, BackSlider}
use Rattle.knit_base.specs.declared.needle.Dir.{Dir}
use Rattle.knit_base.specs.declared.needle.Dir.TheVariants.{Right, Left}
use Rattle.knit_base.specs.declared.profile.Profile.{Profile}
use Rattle.knit_base.specs.Spelling.{bed_word, dir_word}
use Rattle.knit_base.proofs.Places.{by_test}
use Rattle.knitout_reader.specs.declared.words.CarrierOperation.{CarrierOperation}
use Rattle.knitout_reader.specs.declared.words.CarrierOperation.TheVariants as carrier_operation
use Rattle.knitout_reader.specs.declared.words.LoopOperation.{LoopOperation}
use Rattle.knitout_reader.specs.declared.words.LoopOperation.TheVariants as loop_operation
use Rattle.knitout_reader.specs.declared.words.NeedleOperation.{NeedleOperation}
use Rattle.knitout_reader.specs.declared.words.NeedleOperation.TheVariants as needle_operation
use Rattle.knitout_reader.specs.declared.words.FreeOperation.TheVariants as free_operation
use Rattle.knitout_reader.specs.declared.words.Operation.{Operation}
use Rattle.knitout_reader.specs.declared.words.Operation.TheVariants as operation
use Rattle.knitout_reader.specs.Numbers.{AreDigits, IsDecimal, IsDigit, IsNeedle, IsNoPoint, IsRack, IsSign, IsSigned, value_of_digits}
use Rattle.knitout_reader.specs.Operations.{IsWordOf, carrier_shape, carrier_word, loop_shape, loop_word, needle_operation_shape, needle_operation_word}
use Rattle.knitout_reader.specs.Reading.{ReadsAs, CodeReadsAs, reading_of, unreadable}
use Rattle.knitout_reader.specs.Shapes.{AreQuarters, BeginsWithNeedle, IsFormed, IsNamed, Shape, TokensSpell, CarryInShape, CarryOutShape, HookInShape, HookOutShape, ReleaseHookShape, ExtensionShape, PauseShape, RackShape, SplitShape, StitchShape, XferShape}
use Rattle.knitout_reader.specs.Tokens.{before_comment, has_comment, tokens_of}
use Rattle.knitout_reader.proofs.Decimals.{OneSign, at_point, bad-behind, bad-front, minus-first, no_point, plus-first, sign-absent}
use Rattle.knitout_reader.proofs.Marks.{first_word, marks-agree, no_operation, not_divided, not_formed, not_racked, other_words}
use Rattle.knitout_reader.proofs.Signs.{first_byte, is_hook, needle-on_bed, other_bytes}
use Rattle.knitout_reader.proofs.OperandShapes.{NoNeedle, behind_needle, no_needle, no_needle_no_split_shape, undivided-2, no_needle_no_loop_shape, no_needle_no_xfer_shape, unmoved-2, more_tokens_no_needle_shape, no_rack_no_shape}

same_word : (a b : List ℕ) → (a ≡ b) ⊎ (a ≢ b)
same_word a b = by_test (bytes_eq a b) (λ is. inl ((bytes_eq-Decides a b).0 is)) (λ isnt. inr (λ e. false≢true (sym isnt ∙ (bytes_eq-Decides a b).1 e)))

same_byte : (a b : ℕ) → (a ≡ b) ⊎ (a ≢ b)
same_byte a b =
    ⊎_elim
    (λ (low : a < b). inr (λ e. omega (arith, low, e)))
    (λ (high : b ≤ a). ⊎_elim (λ (above : b < a). inr (λ e. omega (arith, above, e))) (λ (at : a ≤ b). inl (omega arith)) (cases_lt b a))
    (cases_lt a b)

is_digit : (byte : ℕ) → IsDigit byte ⊎ (IsDigit byte → ⊥)
is_digit byte =
    ⊎_elim
    (λ (low : byte < 48). inr (λ is. omega (arith, low, is.0)))
    (λ (above : 48 ≤ byte). ⊎_elim (λ (high : 57 < byte). inr (λ is. omega (arith, high, is.1))) (λ (below : byte ≤ 57). inl (above, below)) (cases_lt 57 byte))
    (cases_lt byte 48)

all_digits : (text : List ℕ) → All IsDigit text ⊎ (All IsDigit text → ⊥)
all_digits [] = inl (All-nil IsDigit)
all_digits (byte ∷ text) =
    ⊎_elim
    (λ (is : IsDigit byte).
    ⊎_elim
    (λ (are : All IsDigit text). inl (All-cons IsDigit byte text is are))
    (λ (arent : All IsDigit text → ⊥). inr (λ are. arent (All-tail IsDigit byte text are)))
    (all_digits text))
    (λ (isnt : IsDigit byte → ⊥). inr (λ are. isnt (All-head IsDigit byte text are)))
    (is_digit byte)

are_digits : (text : List ℕ) → AreDigits text ⊎ (AreDigits text → ⊥)
are_digits [] = inr (λ are. absurd (omega (arith, are.0)))
are_digits (byte ∷ text) =
    ⊎_elim
    (λ (are : All IsDigit (byte ∷ text)). inl (omega arith, are))
    (λ (arent : All IsDigit (byte ∷ text) → ⊥). inr (λ are. arent are.1))
    (all_digits (byte ∷ text))

abbrev Signed : List ℕ → Type 0
Signed text = ((z : ℤ) × IsSigned text z) ⊎ ((z : ℤ) → IsSigned text z → ⊥)

-- what isn't digits, with or without a sign, is no number
no_number : (byte : ℕ) (rest : List ℕ) → (AreDigits (byte ∷ rest) → ⊥) → (byte ≡ 43 → AreDigits rest → ⊥) → (byte ≡ 45 → AreDigits rest → ⊥) → (z : ℤ) → IsSigned (byte ∷ rest) z → ⊥
no_number byte rest plain plus minus z signed =
    ⊎_elim
    (λ (p : (byte ∷ rest ≡ signed.0) × (z ≡ pos (value_of_digits signed.0))). plain (subst AreDigits (sym p.0) signed.1))
    (λ (signs : ((byte ∷ rest ≡ 43 ∷ signed.0) × (z ≡ pos (value_of_digits signed.0))) ⊎ ((byte ∷ rest ≡ 45 ∷ signed.0) × (z ≡ pos 0 -ℤ pos (value_of_digits signed.0)))).
    ⊎_elim
    (λ (p : (byte ∷ rest ≡ 43 ∷ signed.0) × (z ≡ pos (value_of_digits signed.0))). plus (first_byte byte 43 rest signed.0 p.0) (subst AreDigits (sym (other_bytes byte 43 rest signed.0 p.0)) signed.1))
    (λ (m : (byte ∷ rest ≡ 45 ∷ signed.0) × (z ≡ pos 0 -ℤ pos (value_of_digits signed.0))). minus (first_byte byte 45 rest signed.0 m.0) (subst AreDigits (sym (other_bytes byte 45 rest signed.0 m.0)) signed.1))
    signs)
    signed.2

no_empty_number : (z : ℤ) → IsSigned [] z → ⊥
no_empty_number z signed =
    ⊎_elim
    (λ (p : ([] ≡ signed.0) × (z ≡ pos (value_of_digits signed.0))). absurd (omega (arith, signed.1.0, ap length p.0)))
    (λ (signs : (([] ≡ 43 ∷ signed.0) × (z ≡ pos (value_of_digits signed.0))) ⊎ (([] ≡ 45 ∷ signed.0) × (z ≡ pos 0 -ℤ pos (value_of_digits signed.0)))).
    ⊎_elim
    (λ (p : ([] ≡ 43 ∷ signed.0) × (z ≡ pos (value_of_digits signed.0))). absurd (omega (arith, ap length p.0)))
    (λ (m : ([] ≡ 45 ∷ signed.0) × (z ≡ pos 0 -ℤ pos (value_of_digits signed.0))). absurd (omega (arith, ap length m.0)))
    signs)
    signed.2

-- a number behind a sign, or none
signed_rest : (byte : ℕ) (rest : List ℕ) → (AreDigits (byte ∷ rest) → ⊥) → AreDigits rest ⊎ (AreDigits rest → ⊥) → (byte ≡ 43) ⊎ (byte ≢ 43) → (byte ≡ 45) ⊎ (byte ≢ 45) → Signed (byte ∷ rest)
signed_rest byte rest plain (inr arent) plus minus = inr (no_number byte rest plain (λ e are. arent are) (λ e are. arent are))
signed_rest byte rest plain (inl are) (inl plus) minus = inl (pos (value_of_digits rest), (rest, are, inr (inl (ap (λ b. b ∷ rest) plus, refl))))
signed_rest byte rest plain (inl are) (inr plus) (inl minus) = inl (pos 0 -ℤ pos (value_of_digits rest), (rest, are, inr (inr (ap (λ b. b ∷ rest) minus, refl))))
signed_rest byte rest plain (inl are) (inr plus) (inr minus) = inr (no_number byte rest plain (λ e are. plus e) (λ e are. minus e))

signed : (text : List ℕ) → Signed text
signed [] = inr no_empty_number
signed (byte ∷ rest) =
    ⊎_elim
    (λ (are : AreDigits (byte ∷ rest)). inl (pos (value_of_digits (byte ∷ rest)), (byte ∷ rest, are, inl (refl, refl))))
    (λ (arent : AreDigits (byte ∷ rest) → ⊥). signed_rest byte rest arent (are_digits rest) (same_byte byte 43) (same_byte byte 45))
    (are_digits (byte ∷ rest))

abbrev Needled : List ℕ → Type 0
Needled token = ((bed : Bed) × (z : ℤ) × IsNeedle token bed z) ⊎ ((bed : Bed) (z : ℤ) → IsNeedle token bed z → ⊥)

needle_of : (token number : List ℕ) (bed : Bed) → token ≡ bed_word bed ++ number → (is_hook bed ≡ true → (tail : List ℕ) → number ≡ 115 ∷ tail → ⊥) → Needled token
needle_of token number bed is longest =
    ⊎_elim
    (λ (found : (z : ℤ) × IsSigned number z). inl (bed, found.0, (number, is, found.1)))
    (λ (none : (z : ℤ) → IsSigned number z → ⊥). inr (needle-on_bed token number bed None is longest none))
    (signed number)

bed_first : (bed : Bed) (number : List ℕ) → (get_or (bed_word bed ++ number) 0 0 ≡ 102) ⊎ (get_or (bed_word bed ++ number) 0 0 ≡ 98)
bed_first Front number = inl refl
bed_first FrontSlider number = inl refl
bed_first Back number = inr refl
bed_first BackSlider number = inr refl

no_bed : (token : List ℕ) → get_or token 0 0 ≢ 102 → get_or token 0 0 ≢ 98 → Needled token
no_bed token front back =
    inr (λ bed z named.
    ⊎_elim
    (λ (is : get_or (bed_word bed ++ named.0) 0 0 ≡ 102). front (ap (λ (l : List ℕ). get_or l 0 0) named.1 ∙ is))
    (λ (is : get_or (bed_word bed ++ named.0) 0 0 ≡ 98). back (ap (λ (l : List ℕ). get_or l 0 0) named.1 ∙ is))
    (bed_first bed named.0))

front_needle : (number : List ℕ) → Needled (102 ∷ number)
front_needle [] = needle_of (102 ∷ []) [] Front refl (λ _ tail e. absurd (omega (arith, ap length e)))
front_needle (byte ∷ number) =
    ⊎_elim
    (λ (slider : byte ≡ 115). needle_of (102 ∷ byte ∷ number) number FrontSlider (ap (λ b. 102 ∷ b ∷ number) slider) (λ e. absurd (false≢true e)))
    (λ (hook : byte ≢ 115). needle_of (102 ∷ byte ∷ number) (byte ∷ number) Front refl (λ _ tail e. hook (first_byte byte 115 number tail e)))
    (same_byte byte 115)

back_needle : (number : List ℕ) → Needled (98 ∷ number)
back_needle [] = needle_of (98 ∷ []) [] Back refl (λ _ tail e. absurd (omega (arith, ap length e)))
back_needle (byte ∷ number) =
    ⊎_elim
    (λ (slider : byte ≡ 115). needle_of (98 ∷ byte ∷ number) number BackSlider (ap (λ b. 98 ∷ b ∷ number) slider) (λ e. absurd (false≢true e)))
    (λ (hook : byte ≢ 115). needle_of (98 ∷ byte ∷ number) (byte ∷ number) Back refl (λ _ tail e. hook (first_byte byte 115 number tail e)))
    (same_byte byte 115)

needle : (token : List ℕ) → Needled token
needle [] = no_bed [] (λ e. absurd (omega (arith, e))) (λ e. absurd (omega (arith, e)))
needle (byte ∷ number) =
    ⊎_elim
    (λ (front : byte ≡ 102). subst (λ b. Needled (b ∷ number)) (sym front) (front_needle number))
    (λ (no_front : byte ≢ 102).
    ⊎_elim
    (λ (back : byte ≡ 98). subst (λ b. Needled (b ∷ number)) (sym back) (back_needle number))
    (λ (no_back : byte ≢ 98). no_bed (byte ∷ number) no_front no_back)
    (same_byte byte 98))
    (same_byte byte 102)

neither_way : (token : List ℕ) → token ≢ dir_word Right → token ≢ dir_word Left → (dir : Dir) → token ≢ dir_word dir
neither_way token no_right no_left Right = no_right
neither_way token no_right no_left Left = no_left

direction : (token : List ℕ) → ((dir : Dir) × (token ≡ dir_word dir)) ⊎ ((dir : Dir) → token ≢ dir_word dir)
direction token =
    ⊎_elim
    (λ (right : token ≡ dir_word Right). inl (Right, right))
    (λ (no_right : token ≢ dir_word Right).
    ⊎_elim
    (λ (left : token ≡ dir_word Left). inl (Left, left))
    (λ (no_left : token ≢ dir_word Left). inr (neither_way token no_right no_left))
    (same_word token (dir_word Left)))
    (same_word token (dir_word Right))

abbrev Decimal : List ℕ → Type 0
Decimal text = ((whole : List ℕ) × (fraction : List ℕ) × IsDecimal text whole fraction) ⊎ ((whole fraction : List ℕ) → IsDecimal text whole fraction → ⊥)

is_no_point : (byte : ℕ) → nat_eq byte 46 ≡ false → IsNoPoint byte
is_no_point byte fails e = grind arith

-- a text without a point
undivided_decimal : (text : List ℕ) → All IsNoPoint text → Decimal text
undivided_decimal text none =
    ⊎_elim
    (λ (are : AreDigits text). inl (text, [], (are.1, All-nil IsDigit, inl (refl, refl, are.0))))
    (λ (arent : AreDigits text → ⊥).
    inr (λ whole fraction decimal.
    let alone = no_point text whole fraction none decimal in
    arent (subst AreDigits (sym alone.0) (alone.2, decimal.0))))
    (are_digits text)

-- a text with a point
pointed_decimal : (text front behind : List ℕ) → text ≡ front ++ 46 ∷ behind → All IsNoPoint front → Decimal text
pointed_decimal text front behind is none =
    ⊎_elim
    (λ (are : All IsDigit front).
    ⊎_elim
    (λ (are2 : All IsDigit behind).
    ⊎_elim
    (λ (some : 0 < length front + length behind). inl (front, behind, (are, are2, inr (is, some))))
    (λ (short : length front + length behind ≤ 0).
    inr (λ whole fraction decimal.
    let same = at_point text front behind whole fraction is none decimal in
    absurd (omega (arith, short, same.2, ap length same.0, ap length same.1))))
    (cases_lt 0 (length front + length behind)))
    (λ (arent : All IsDigit behind → ⊥). inr (bad-behind text front behind is none arent))
    (all_digits behind))
    (λ (arent : All IsDigit front → ⊥). inr (bad-front text front behind is none arent))
    (all_digits front)

abbrev is_point : ℕ → Bool
is_point byte = nat_eq byte 46

before_point : (text : List ℕ) → All IsNoPoint (before_first is_point text)
before_point text = λ k d below.
    let within : k < position_or_len is_point text = omega (arith, below, length-take (position_or_len is_point text) text) in
    is_no_point _ (ap is_point (get_or-take (position_or_len is_point text) text k d within) ∙ fails_before_first is_point text k d within)

decimal : (text : List ℕ) → Decimal text
decimal text =
    ⊎_elim
    (λ (found : position_or_len is_point text < length text).
    let point : get_or text (position_or_len is_point text) 0 ≡ 46 = eqb-true (get_or text (position_or_len is_point text) 0) 46 (passes_at_first is_point text 0 found) in
    pointed_decimal text (before_first is_point text) (after_first is_point text)
    (split_at_first is_point text 0 found ∙ ap (λ byte. before_first is_point text ++ byte ∷ after_first is_point text) point) (before_point text))
    (λ (past : length text ≤ position_or_len is_point text).
    undivided_decimal text (λ k d below. is_no_point _ (fails_before_first is_point text k d (omega arith))))
    (cases_lt (position_or_len is_point text) (length text))

abbrev Racked : List ℕ → Type 0
Racked token = ((negative : Bool) × (whole : List ℕ) × (fraction : List ℕ) × IsRack token negative whole fraction)
    ⊎ ((negative : Bool) (whole fraction : List ℕ) → IsRack token negative whole fraction → ⊥)

-- a rack by its sign
signed_rack : (token sign text : List ℕ) (negative : Bool) → token ≡ sign ++ text → IsSign sign negative → OneSign token negative text → Racked token
signed_rack token sign text negative is signed one =
    ⊎_elim
    (λ (found : (whole : List ℕ) × (fraction : List ℕ) × IsDecimal text whole fraction). inl (negative, found.0, found.1, (sign, text, is, signed, found.2)))
    (λ (none : (whole fraction : List ℕ) → IsDecimal text whole fraction → ⊥). inr (λ n whole fraction rack. none whole fraction (one n whole fraction rack).1))
    (decimal text)

rack : (token : List ℕ) → Racked token
rack [] = signed_rack [] [] [] false refl (inl refl) (sign-absent [] (λ more e. absurd (omega (arith, ap length e))) (λ more e. absurd (omega (arith, ap length e))))
rack (byte ∷ text) =
    ⊎_elim
    (λ (minus : byte ≡ 45).
    signed_rack (byte ∷ text) (45 ∷ []) text true (ap (λ b. b ∷ text) minus) refl (minus-first (byte ∷ text) text (ap (λ b. b ∷ text) minus)))
    (λ (no_minus : byte ≢ 45).
    ⊎_elim
    (λ (plus : byte ≡ 43).
    signed_rack (byte ∷ text) (43 ∷ []) text false (ap (λ b. b ∷ text) plus) (inr refl) (plus-first (byte ∷ text) text (ap (λ b. b ∷ text) plus)))
    (λ (no_plus : byte ≢ 43).
    signed_rack (byte ∷ text) [] (byte ∷ text) false refl (inl refl)
    (sign-absent (byte ∷ text) (λ more e. no_minus (first_byte byte 45 text more e)) (λ more e. no_plus (first_byte byte 43 text more e))))
    (same_byte byte 43))
    (same_byte byte 45)

-- how many quarters a fraction is, if it is some
quarters : (fraction : List ℕ) → (count : Option ℕ) × AreQuarters fraction count
quarters fraction =
    let some : 0 < 10 ^ length fraction = omega (arith, one-le-pow (length fraction) 10 (omega arith)) in
    let count : ℕ = 4 * value_of_digits fraction / 10 ^ length fraction in
    ⊎_elim
    (λ (are : 4 * value_of_digits fraction ≡ count * 10 ^ length fraction). (Some count, are))
    (λ (arent : 4 * value_of_digits fraction ≢ count * 10 ^ length fraction).
    (None, λ q is. arent (is ∙ ap (λ n. n * 10 ^ length fraction) (sym (ap (λ n. n / 10 ^ length fraction) is ∙ mul-div_cancel q some)))))
    (same_byte (4 * value_of_digits fraction) (count * 10 ^ length fraction))

abbrev Shaped : List (List ℕ) → Type 0
Shaped tokens = ((shape : Shape) × TokensSpell tokens shape) ⊎ ((shape : Shape) → TokensSpell tokens shape → ⊥)

abbrev NeedleFirst : List (List ℕ) → Type 0
NeedleFirst tokens = ((bed : Bed) × (at : ℤ) × (others : List (List ℕ)) × BeginsWithNeedle tokens bed at others) ⊎ NoNeedle tokens

needle_first : (tokens : List (List ℕ)) → NeedleFirst tokens
needle_first [] = inr (λ bed at others begins. absurd (omega (arith, ap length begins.spelled)))
needle_first (token ∷ tokens) =
    ⊎_elim
    (λ (found : (bed : Bed) × (z : ℤ) × IsNeedle token bed z). inl (found.0, found.1, tokens, record { needle = token; spelled = refl; named = found.2 }))
    (λ (none : (bed : Bed) (z : ℤ) → IsNeedle token bed z → ⊥). inr (no_needle (token ∷ tokens) tokens token refl none))
    (needle token)

abbrev DirFirst : List (List ℕ) → Type 0
DirFirst tokens = ((dir : Dir) × (operands : List (List ℕ)) × (tokens ≡ dir_word dir ∷ operands)) ⊎ ((dir : Dir) (operands : List (List ℕ)) → tokens ≡ dir_word dir ∷ operands → ⊥)

dir_first : (tokens : List (List ℕ)) → DirFirst tokens
dir_first [] = inr (λ dir operands e. absurd (omega (arith, ap length e)))
dir_first (token ∷ tokens) =
    ⊎_elim
    (λ (found : (dir : Dir) × (token ≡ dir_word dir)). inl (found.0, tokens, ap (λ t. t ∷ tokens) found.1))
    (λ (none : (dir : Dir) → token ≢ dir_word dir). inr (λ dir operands e. none dir (first_word _ _ _ _ e)))
    (direction token)

formed_spells : (which : LoopOperation) (tokens : List (List ℕ)) (dir : Dir) (bed : Bed) (at : ℤ) (carriers : List (List ℕ))
    → IsFormed (loop_word which) (loop_word which ∷ tokens) dir bed at carriers → TokensSpell (loop_word which ∷ tokens) (loop_shape which dir bed at carriers)
formed_spells loop_operation.Knit tokens dir bed at carriers formed = formed
formed_spells loop_operation.Tuck tokens dir bed at carriers formed = formed
formed_spells loop_operation.Miss tokens dir bed at carriers formed = formed

formed_shape : (which : LoopOperation) (tokens : List (List ℕ)) → Shaped (loop_word which ∷ tokens)
formed_shape which tokens =
    ⊎_elim
    (λ (front : (dir : Dir) × (operands : List (List ℕ)) × (tokens ≡ dir_word dir ∷ operands)).
    ⊎_elim
    (λ (found : (bed : Bed) × (at : ℤ) × (others : List (List ℕ)) × BeginsWithNeedle front.1 bed at others).
    inl (
      loop_shape which front.0 found.0 found.1 found.2,
      formed_spells which tokens front.0 found.0 found.1 found.2 (record { operands = front.1; spelled = ap (λ ts. loop_word which ∷ ts) front.2; first = found.3 }),
    ))
    (λ (none : NoNeedle front.1). inr (no_needle_no_loop_shape which tokens front.1 front.0 front.2 none))
    (needle_first front.1))
    (λ (none : (dir : Dir) (operands : List (List ℕ)) → tokens ≡ dir_word dir ∷ operands → ⊥).
    inr (not_formed which tokens (λ dir bed at cs formed. none dir formed.operands (other_words _ _ _ _ formed.spelled))))
    (dir_first tokens)

split_shape : (tokens : List (List ℕ)) → Shaped (codes "split" ∷ tokens)
split_shape tokens =
    ⊎_elim
    (λ (front : (dir : Dir) × (operands : List (List ℕ)) × (tokens ≡ dir_word dir ∷ operands)).
    ⊎_elim
    (λ (found : (bed : Bed) × (at : ℤ) × (others : List (List ℕ)) × BeginsWithNeedle front.1 bed at others).
    ⊎_elim
    (λ (found2 : (bed : Bed) × (at : ℤ) × (others : List (List ℕ)) × BeginsWithNeedle found.2 bed at others).
    inl (
      SplitShape front.0 found.0 found.1 found2.0 found2.1 found2.2,
      record { operands = front.1; others = found.2; spelled = ap (λ ts. codes "split" ∷ ts) front.2; first = found.3; second = found2.3 },
    ))
    (λ (none : NoNeedle found.2). inr (undivided-2 tokens front.1 found.2 front.0 found.0 found.1 front.2 found.3 none))
    (needle_first found.2))
    (λ (none : NoNeedle front.1). inr (no_needle_no_split_shape tokens front.1 front.0 front.2 none))
    (needle_first front.1))
    (λ (none : (dir : Dir) (operands : List (List ℕ)) → tokens ≡ dir_word dir ∷ operands → ⊥).
    inr (not_divided tokens (λ dir bed at bed2 at2 cs divided. none dir divided.operands (other_words _ _ _ _ divided.spelled))))
    (dir_first tokens)

abbrev OneNeedle : List (List ℕ) → Type 0
OneNeedle tokens = ((bed : Bed) × (at : ℤ) × BeginsWithNeedle tokens bed at []) ⊎ ((bed : Bed) (at : ℤ) → BeginsWithNeedle tokens bed at [] → ⊥)

ends_there : (tokens others : List (List ℕ)) (bed : Bed) (at : ℤ) → BeginsWithNeedle tokens bed at others → OneNeedle tokens
ends_there tokens [] bed at begins = inl (bed, at, begins)
ends_there tokens (token ∷ others) bed at begins =
    inr (λ bed2 at2 begins2. absurd (omega (arith, ap length (behind_needle tokens (token ∷ others) [] bed bed2 at at2 begins begins2))))

one_needle : (tokens : List (List ℕ)) → OneNeedle tokens
one_needle tokens =
    ⊎_elim
    (λ (found : (bed : Bed) × (at : ℤ) × (others : List (List ℕ)) × BeginsWithNeedle tokens bed at others). ends_there tokens found.2 found.0 found.1 found.3)
    (λ (none : NoNeedle tokens). inr (λ bed at. none bed at []))
    (needle_first tokens)

moved_shape : (tokens : List (List ℕ)) → Shaped (codes "xfer" ∷ tokens)
moved_shape tokens =
    ⊎_elim
    (λ (found : (bed : Bed) × (at : ℤ) × (others : List (List ℕ)) × BeginsWithNeedle tokens bed at others).
    ⊎_elim
    (λ (found2 : (bed : Bed) × (at : ℤ) × BeginsWithNeedle found.2 bed at []).
    inl (XferShape found.0 found.1 found2.0 found2.1, record { operands = tokens; others = found.2; spelled = refl; first = found.3; second = found2.2 }))
    (λ (none : (bed : Bed) (at : ℤ) → BeginsWithNeedle found.2 bed at [] → ⊥). inr (unmoved-2 tokens found.2 found.0 found.1 found.3 none))
    (one_needle found.2))
    (λ (none : NoNeedle tokens). inr (no_needle_no_xfer_shape tokens none))
    (needle_first tokens)

named_spells : (which : NeedleOperation) (tokens : List (List ℕ)) (bed : Bed) (at : ℤ) → IsNamed (needle_operation_word which) (needle_operation_word which ∷ tokens) bed at → TokensSpell (needle_operation_word which ∷ tokens) (needle_operation_shape which bed at)
named_spells needle_operation.Drop tokens bed at named = named
named_spells needle_operation.Amiss tokens bed at named = named

named_shape : (which : NeedleOperation) (tokens : List (List ℕ)) → Shaped (needle_operation_word which ∷ tokens)
named_shape which tokens =
    ⊎_elim
    (λ (found : (bed : Bed) × (at : ℤ) × BeginsWithNeedle tokens bed at []).
    inl (needle_operation_shape which found.0 found.1, named_spells which tokens found.0 found.1 (record { operands = tokens; spelled = refl; first = found.2 })))
    (λ (none : (bed : Bed) (at : ℤ) → BeginsWithNeedle tokens bed at [] → ⊥). inr (more_tokens_no_needle_shape which tokens none))
    (one_needle tokens)

racked_shape : (tokens : List (List ℕ)) → Shaped (codes "rack" ∷ tokens)
racked_shape [] = inr (not_racked [] (λ negative whole quarters rack_reading. absurd (omega (arith, ap length rack_reading.spelled))))
racked_shape (token ∷ []) =
    ⊎_elim
    (λ (found : (negative : Bool) × (whole : List ℕ) × (fraction : List ℕ) × IsRack token negative whole fraction).
    let left = quarters found.2 in
    inl (RackShape found.0 found.1 left.0, record { token = token; fraction = found.2; spelled = refl; named = found.3; left = left.1 }))
    (λ (none : (negative : Bool) (whole fraction : List ℕ) → IsRack token negative whole fraction → ⊥). inr (no_rack_no_shape (token ∷ []) [] token refl none))
    (rack token)
racked_shape (token ∷ next ∷ tokens) = inr (not_racked (token ∷ next ∷ tokens) (λ negative whole quarters rack_reading. absurd (omega (arith, ap length rack_reading.spelled))))

carried_spells : (which : CarrierOperation) (tokens : List (List ℕ)) → 0 < length tokens → TokensSpell (carrier_word which ∷ tokens) (carrier_shape which tokens)
carried_spells carrier_operation.In tokens some = record { spelled = refl; some = some }
carried_spells carrier_operation.Out tokens some = record { spelled = refl; some = some }
carried_spells carrier_operation.HookIn tokens some = record { spelled = refl; some = some }
carried_spells carrier_operation.HookOut tokens some = record { spelled = refl; some = some }
carried_spells carrier_operation.ReleaseHook tokens some = record { spelled = refl; some = some }

uncarried_shape : (which : CarrierOperation) (shape : Shape) → TokensSpell (carrier_word which ∷ []) shape → ⊥
uncarried_shape carrier_operation.In (CarryInShape carriers) spelled = absurd (omega (arith, spelled.some, ap length spelled.spelled))
uncarried_shape carrier_operation.In shape spelled = absurd (false≢true (marks-agree (codes "in") [] shape spelled))
uncarried_shape carrier_operation.Out (CarryOutShape carriers) spelled = absurd (omega (arith, spelled.some, ap length spelled.spelled))
uncarried_shape carrier_operation.Out shape spelled = absurd (false≢true (marks-agree (codes "out") [] shape spelled))
uncarried_shape carrier_operation.HookIn (HookInShape carriers) spelled = absurd (omega (arith, spelled.some, ap length spelled.spelled))
uncarried_shape carrier_operation.HookIn shape spelled = absurd (false≢true (marks-agree (codes "inhook") [] shape spelled))
uncarried_shape carrier_operation.HookOut (HookOutShape carriers) spelled = absurd (omega (arith, spelled.some, ap length spelled.spelled))
uncarried_shape carrier_operation.HookOut shape spelled = absurd (false≢true (marks-agree (codes "outhook") [] shape spelled))
uncarried_shape carrier_operation.ReleaseHook (ReleaseHookShape carriers) spelled = absurd (omega (arith, spelled.some, ap length spelled.spelled))
uncarried_shape carrier_operation.ReleaseHook shape spelled = absurd (false≢true (marks-agree (codes "releasehook") [] shape spelled))

carried_shape : (which : CarrierOperation) (tokens : List (List ℕ)) → Shaped (carrier_word which ∷ tokens)
carried_shape which [] = inr (uncarried_shape which)
carried_shape which (token ∷ tokens) = inl (carrier_shape which (token ∷ tokens), carried_spells which (token ∷ tokens) (omega arith))

-- the shape of a line whose word is that of an operation
shape_of : (which : Operation) (word : List ℕ) (tokens : List (List ℕ)) → IsWordOf which word → Shaped (word ∷ tokens)
shape_of (operation.Loop which) word tokens is = subst (λ w. Shaped (w ∷ tokens)) (sym is) (formed_shape which tokens)
shape_of operation.Xfer word tokens is = subst (λ w. Shaped (w ∷ tokens)) (sym is) (moved_shape tokens)
shape_of operation.Split word tokens is = subst (λ w. Shaped (w ∷ tokens)) (sym is) (split_shape tokens)
shape_of (operation.Needle which) word tokens is = subst (λ w. Shaped (w ∷ tokens)) (sym is) (named_shape which tokens)
shape_of operation.Rack word tokens is = subst (λ w. Shaped (w ∷ tokens)) (sym is) (racked_shape tokens)
shape_of (operation.Carrier which) word tokens is = subst (λ w. Shaped (w ∷ tokens)) (sym is) (carried_shape which tokens)
shape_of (operation.Free free_operation.Stitch) word tokens is = inl (StitchShape tokens, ap (λ w. w ∷ tokens) is)
shape_of (operation.Free free_operation.Pause) word tokens is = inl (PauseShape tokens, ap (λ w. w ∷ tokens) is)
shape_of (operation.Free free_operation.Extension) word tokens is = inl (ExtensionShape is.0 tokens, ap (λ w. w ∷ tokens) is.1)

extension : (word : List ℕ) → ((name : List ℕ) × (word ≡ codes "x-" ++ name)) ⊎ ((name : List ℕ) → word ≡ codes "x-" ++ name → ⊥)
extension [] = inr (λ name e. absurd (omega (arith, ap length e)))
extension (a ∷ []) = inr (λ name e. absurd (omega (arith, ap length e)))
extension (a ∷ b ∷ name) =
    ⊎_elim
    (λ (x : a ≡ 120).
    ⊎_elim
    (λ (dash : b ≡ 45). inl (name, ap (λ c. c ∷ b ∷ name) x ∙ ap (λ c. 120 ∷ c ∷ name) dash))
    (λ (other : b ≢ 45). inr (λ rest e. other (first_byte b 45 name rest (other_bytes a 120 (b ∷ name) (45 ∷ rest) e))))
    (same_byte b 45))
    (λ (other : a ≢ 120). inr (λ rest e. other (first_byte a 120 (b ∷ name) (45 ∷ rest) e)))
    (same_byte a 120)

-- the operation that has one of these words, or none
abbrev WordIs : List ℕ → Type 0
WordIs word = ((which : Operation) × IsWordOf which word) ⊎ ((which : Operation) → IsWordOf which word → ⊥)

-- the word is none of these
pub record IsOther (word : List ℕ) : Type 0 where
  pub knit : word ≢ codes "knit"
  pub tuck : word ≢ codes "tuck"
  pub miss : word ≢ codes "miss"
  pub xfer : word ≢ codes "xfer"
  pub split : word ≢ codes "split"
  pub dropped : word ≢ codes "drop"
  pub amiss : word ≢ codes "amiss"
  pub rack : word ≢ codes "rack"
  pub carry_in : word ≢ codes "in"
  pub carry_out : word ≢ codes "out"
  pub hook_in : word ≢ codes "inhook"
  pub hook_out : word ≢ codes "outhook"
  pub release : word ≢ codes "releasehook"
  pub stitch : word ≢ codes "stitch"
  pub pause : word ≢ codes "pause"
  pub extends : (name : List ℕ) → word ≡ codes "x-" ++ name → ⊥

no_word : (word : List ℕ) → IsOther word → (which : Operation) → IsWordOf which word → ⊥
no_word word other (operation.Loop loop_operation.Knit) is = other.knit is
no_word word other (operation.Loop loop_operation.Tuck) is = other.tuck is
no_word word other (operation.Loop loop_operation.Miss) is = other.miss is
no_word word other operation.Xfer is = other.xfer is
no_word word other operation.Split is = other.split is
no_word word other (operation.Needle needle_operation.Drop) is = other.dropped is
no_word word other (operation.Needle needle_operation.Amiss) is = other.amiss is
no_word word other operation.Rack is = other.rack is
no_word word other (operation.Carrier carrier_operation.In) is = other.carry_in is
no_word word other (operation.Carrier carrier_operation.Out) is = other.carry_out is
no_word word other (operation.Carrier carrier_operation.HookIn) is = other.hook_in is
no_word word other (operation.Carrier carrier_operation.HookOut) is = other.hook_out is
no_word word other (operation.Carrier carrier_operation.ReleaseHook) is = other.release is
no_word word other (operation.Free free_operation.Stitch) is = other.stitch is
no_word word other (operation.Free free_operation.Pause) is = other.pause is
no_word word other (operation.Free free_operation.Extension) is = other.extends is.0 is.1

-- a word tried, and what holds where it is another
tried : (word this : List ℕ) (which : Operation) → (word ≡ this → IsWordOf which word) → (word ≢ this → WordIs word) → WordIs word
tried word this which is isnt = ⊎_elim (λ (e : word ≡ this). inl (which, is e)) (λ (other : word ≢ this). isnt other) (same_word word this)

operation_of : (word : List ℕ) → WordIs word
operation_of word =
    tried word (codes "knit") (operation.Loop loop_operation.Knit) (λ e. e) (λ knit.
    tried word (codes "tuck") (operation.Loop loop_operation.Tuck) (λ e. e) (λ tuck.
    tried word (codes "miss") (operation.Loop loop_operation.Miss) (λ e. e) (λ miss.
    tried word (codes "xfer") operation.Xfer (λ e. e) (λ xfer.
    tried word (codes "split") operation.Split (λ e. e) (λ split.
    tried word (codes "drop") (operation.Needle needle_operation.Drop) (λ e. e) (λ dropped.
    tried word (codes "amiss") (operation.Needle needle_operation.Amiss) (λ e. e) (λ amiss.
    tried word (codes "rack") operation.Rack (λ e. e) (λ rack.
    tried word (codes "in") (operation.Carrier carrier_operation.In) (λ e. e) (λ carry_in.
    tried word (codes "out") (operation.Carrier carrier_operation.Out) (λ e. e) (λ carry_out.
    tried word (codes "inhook") (operation.Carrier carrier_operation.HookIn) (λ e. e) (λ hook_in.
    tried word (codes "outhook") (operation.Carrier carrier_operation.HookOut) (λ e. e) (λ hook_out.
    tried word (codes "releasehook") (operation.Carrier carrier_operation.ReleaseHook) (λ e. e) (λ release.
    tried word (codes "stitch") (operation.Free free_operation.Stitch) (λ e. e) (λ stitch.
    tried word (codes "pause") (operation.Free free_operation.Pause) (λ e. e) (λ pause.
    ⊎_elim
    (λ (is : (name : List ℕ) × (word ≡ codes "x-" ++ name)). inl (operation.Free free_operation.Extension, is))
    (λ (extends : (name : List ℕ) → word ≡ codes "x-" ++ name → ⊥).
    inr (no_word word (record {
      knit = knit;
      tuck = tuck;
      miss = miss;
      xfer = xfer;
      split = split;
      dropped = dropped;
      amiss = amiss;
      rack = rack;
      carry_in = carry_in;
      carry_out = carry_out;
      hook_in = hook_in;
      hook_out = hook_out;
      release = release;
      stitch = stitch;
      pause = pause;
      extends = extends;
    })))
    (extension word))))))))))))))))

shaped : (word : List ℕ) (tokens : List (List ℕ)) → Shaped (word ∷ tokens)
shaped word tokens =
    ⊎_elim
    (λ (found : (which : Operation) × IsWordOf which word). shape_of found.0 word tokens found.1)
    (λ (none : (which : Operation) → IsWordOf which word → ⊥). inr (no_operation word tokens none))
    (operation_of word)

reading : (profile : Profile) (names tokens : List (List ℕ)) (comment : Bool) → (r : Read) × CodeReadsAs profile names tokens comment r
reading profile names [] false = (read.Blank, refl)
reading profile names [] true = (read.Comment, refl)
reading profile names (word ∷ tokens) comment =
    ⊎_elim
    (λ (found : (shape : Shape) × TokensSpell (word ∷ tokens) shape). (reading_of profile names found.0, inl (found.0, found.1, refl)))
    (λ (none : (shape : Shape) → TokensSpell (word ∷ tokens) shape → ⊥). (unreadable, inr (none, refl)))
    (shaped word tokens)

-- each line has a reading
pub reads-total : (profile : Profile) (names : List (List ℕ)) (line : List ℕ) → (r : Read) × ReadsAs profile names line r
reads-total profile names line = reading profile names (tokens_of (before_comment line)) (has_comment line)

-- each of some lines has a reading
pub each-reads : (profile : Profile) (names lines : List (List ℕ)) → (readings : List Read) × AllZip (ReadsAs profile names) lines readings
each-reads profile names [] = ([], tt)
each-reads profile names (line ∷ lines) =
    let here = reads-total profile names line in
    let later = each-reads profile names lines in
    (here.0 ∷ later.0, (here.1, later.1))
