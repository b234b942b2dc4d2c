-- Lines whose tokens are told where they stand.
use Rattle.std.proofs.Common.{◌≡◌, ◌≢◌, ◌⊎◌, inl, inr, ⊎_elim, ℕ, ◌+◌, ◌-◌, ◌*◌, ◌<◌, ◌≤◌, min, ℤ, pos, ◌-ℤ◌, ◌≤ℤ◌, true, false, not, List, [], ◌∷◌, ◌++◌, length, take, drop, get_or, All, Option, None, Some, codes, ap, sym, subst, ◌∙◌, refl, arith, lit<, w32, to_z, of_z, append_assoc, length-append, slice_index, ◌^◌, take-append-drop, suc, is_some}
use Rattle.std.specs.List.{position_or_len}
use Rattle.std.proofs.lemmas.Int.{ints}
use Rattle.std.proofs.lemmas.Bool.{cond-true, cond-false, false≢true}
use Rattle.std.proofs.lemmas.List.{drop_more, take_rest}
use Rattle.std.proofs.lemmas.List.Elements.{All-append, All-cons, All-head, All-more, All-nil, All-tail}
use Rattle.knit_base.specs.declared.needle.Bed.{Bed}
use Rattle.knit_base.specs.declared.needle.Dir.{Dir}
use Rattle.knit_base.specs.declared.needle.Needle.{Needle}
use Rattle.knit_base.specs.declared.profile.Profile.{Profile}
use Rattle.knit_base.specs.declared.usual.Usual.{Usual}
use Rattle.knit_base.specs.declared.usual.Usual.TheVariants.{Knit, Tuck, Xfer}
use Rattle.knit_base.specs.declared.yarns.CarrierNo.{CarrierNo}
use Rattle.knit_base.specs.Lawful.{IsOnBed}
use Rattle.knit_base.specs.Needle.{is_slider}
use Rattle.knit_base.specs.Spelling.{bed_word, dir_word}
use Rattle.knit_base.specs.Usual.{usual_read}
use Rattle.knit_base.proofs.Places.{by_test}
use Rattle.knitout_reader.specs.declared.byte_names.ByteNames.{ByteNames}
use Rattle.knitout_reader.specs.declared.words.LoopOperation.TheVariants as loop_operation
use Rattle.knitout_reader.specs.Loose.{BeginsAtEnd, BeginsWithBytes, BeginsWithBytesOf, BeginsWithDigits, BeginsWithNameOf, BeginsWithNeedleToken, BeginsWithSigned, EndsLine, GoesOnTo, HasFirstLine, HasNeedles, HasOperands, LeadsTo, Says, StaysInLine}
use Rattle.knitout_reader.specs.Numbers.{AreDigits, IsDigit, IsNear, value_of_digits}
use Rattle.knitout_reader.specs.Reading.{is_off_bed, needle_on, not_opposite}
use Rattle.knitout_reader.specs.Tokens.{before_comment, is_blank, is_semicolon, tokens_of}
use Rattle.knitout_reader.specs.Usual.{AreByteNames, BeginsWithLine, IsByteName, IsTokenByte}
use Rattle.knitout_reader.proofs.Rules.{tokens-lawful}
use Rattle.knitout_reader.proofs.Signs.{near_down, near_up}
use Rattle.knitout_reader.proofs.TokenRuns.{Blank, tokens_of-blanks, tokens_of-token}
use Rattle.knitout_reader.proofs.UsualLines.{IsPlainToken, bed_bytes, dir_token, formed-reads, knit_token, line-begins, moved-reads, no_slider, pair_named, reads_line, tuck_token, xfer_token}

suc_is : (n : ℕ) → 1 + n ≡ suc n
suc_is n = omega arith

one_more : (byte : ℕ) (n : ℕ) (xs : List ℕ) → take (1 + n) (byte ∷ xs) ≡ byte ∷ take n xs
one_more byte n xs = ap (λ k. take k (byte ∷ xs)) (suc_is n)

-- bytes without a `;` in front are before the comment
code-append : (front line : List ℕ) → All (λ byte. is_semicolon byte ≡ false) front → before_comment (front ++ line) ≡ front ++ before_comment line
code-append [] line are = refl
code-append (byte ∷ front) line are =
    let here : is_semicolon byte ≡ false = All-head (λ b. is_semicolon b ≡ false) byte front are in
    ap (λ n. take n (byte ∷ (front ++ line))) (cond-true (not (is_semicolon byte)) (1 + position_or_len is_semicolon (front ++ line)) 0 (ap not here))
    ∙ one_more byte (position_or_len is_semicolon (front ++ line)) (front ++ line)
    ∙ ap (λ l. byte ∷ l) (code-append front line (All-tail (λ b. is_semicolon b ≡ false) byte front are))

-- a blank is 32 or 9
blank_stays : (byte : ℕ) → Blank byte → StaysInLine byte
blank_stays byte is = record { ascii = grind arith; feed = λ e. absurd (false≢true (sym (ap is_blank e) ∙ is)); back = λ e. absurd (false≢true (sym (ap is_blank e) ∙ is)) }

blank_codes : (byte : ℕ) → Blank byte → is_semicolon byte ≡ false
blank_codes byte is = grind arith

token_codes : (byte : ℕ) → IsTokenByte byte → is_semicolon byte ≡ false
token_codes byte is = let other : byte ≢ 59 = is.comment in grind arith

-- blanks in front change nothing
pub blanks-line : (blanks text tokens-text : List ℕ) (tokens : List (List ℕ)) (rest : List ℕ) → All Blank blanks → text ≡ blanks ++ tokens-text
    → HasFirstLine tokens-text tokens rest → HasFirstLine text tokens rest
blanks-line blanks text behind tokens rest are is h = record {
  line = blanks ++ h.line;
  bytes = All-append StaysInLine blanks h.line (λ k d below. blank_stays _ (are k d below)) h.bytes;
  tokens_are = ap tokens_of (code-append blanks h.line (λ k d below. blank_codes _ (are k d below))) ∙ tokens_of-blanks blanks (before_comment h.line) are ∙ h.tokens_are;
  text_is = is ∙ ap (λ (l : List ℕ). blanks ++ l) h.text_is ∙ sym (append_assoc blanks h.line (10 ∷ rest));
}

first_of : (a b : ℕ) (xs ys : List ℕ) → a ∷ xs ≡ b ∷ ys → a ≡ b
first_of a b xs ys e = ap (λ l. get_or l 0 0) e

-- what stands before the comment begins with a blank, if a token ends there
ends_blank : (text line rest : List ℕ) → text ≡ line ++ 10 ∷ rest → All StaysInLine line → BeginsAtEnd text → 0 < length (before_comment line) → Blank (get_or (before_comment line) 0 0)
ends_blank text [] rest is stay at some = absurd (omega arith)
ends_blank text (b ∷ line) rest is stay at some =
    let same : b ≡ at.byte = first_of b at.byte (line ++ 10 ∷ rest) at.others (sym is ∙ at.text_is) in
    by_test (is_semicolon b)
    (λ comment. absurd (omega (arith, some, ap (λ n. length (take n (b ∷ line))) (cond-false (not (is_semicolon b)) (1 + position_or_len is_semicolon line) 0 (ap not comment)))))
    (λ code.
    let front : get_or (before_comment (b ∷ line)) 0 0 ≡ b =
    ap (λ n. get_or (take n (b ∷ line)) 0 0) (cond-true (not (is_semicolon b)) (1 + position_or_len is_semicolon line) 0 (ap not code))
    ∙ ap (λ l. get_or l 0 0) (one_more b (position_or_len is_semicolon line) line) in
    ⊎_elim
    (λ (blank : is_blank at.byte ≡ true). ap is_blank (front ∙ same) ∙ blank)
    (λ (others : (at.byte ≡ 59) ⊎ (at.byte ≡ 10)).
    ⊎_elim
    (λ (semicolon : at.byte ≡ 59). absurd (false≢true (sym code ∙ ap is_semicolon (same ∙ semicolon))))
    (λ (feed : at.byte ≡ 10). absurd ((All-head StaysInLine b line stay).feed (same ∙ feed)))
    others)
    at.ends)

-- a token that stands in front
pub token-line : (text token behind : List ℕ) (tokens : List (List ℕ)) (rest : List ℕ) → BeginsWithBytes text token behind → BeginsAtEnd behind → HasFirstLine behind tokens rest
    → HasFirstLine text (token ∷ tokens) rest
token-line text token behind tokens rest front at h = record {
  line = token ++ h.line;
  bytes = All-append StaysInLine token h.line (λ k d below. let here = front.bytes k d below in record { ascii = here.ascii; feed = here.feed; back = here.back }) h.bytes;
  tokens_are =
      ap tokens_of (code-append token h.line (λ k d below. token_codes _ (front.bytes k d below)))
      ∙ tokens_of-token token (before_comment h.line) front.some (λ k d below. (front.bytes k d below).plain) (ends_blank behind h.line rest h.text_is h.bytes at)
      ∙ ap (λ ts. token ∷ ts) h.tokens_are;
  text_is = front.text_is ∙ ap (λ (l : List ℕ). token ++ l) h.text_is ∙ sym (append_assoc token h.line (10 ∷ rest));
}

-- a blank, and what stands behind more of them
pub blank-leads : (text behind rest : List ℕ) (byte : ℕ) → Blank byte → text ≡ byte ∷ behind
    → ((tokens : List (List ℕ)) (end : List ℕ) → HasFirstLine rest tokens end → HasFirstLine behind tokens end) → LeadsTo text [] rest
blank-leads text behind rest byte blank is further = record {
  ends = record { byte = byte; others = behind; text_is = is; ends = inl blank };
  line = λ tokens end h. blanks-line (byte ∷ []) text behind tokens end (All-cons Blank byte [] blank (All-nil Blank)) is (further tokens end h);
}

-- a token between blanks
pub token-leads : (text token front behind rest : List ℕ) → LeadsTo text [] front → BeginsWithBytes front token behind → LeadsTo behind [] rest → LeadsTo text (token ∷ []) rest
token-leads text token front behind rest first is second = record {
  ends = first.ends;
  line = λ tokens end h. first.line (token ∷ tokens) end (token-line front token behind tokens end is second.ends (second.line tokens end h));
}

-- the line feed behind blanks
pub feed-ends : (blanks text behind rest : List ℕ) → All Blank blanks → text ≡ blanks ++ behind → behind ≡ 10 ∷ rest → EndsLine text rest
feed-ends [] text behind rest are is feed =
    let here : HasFirstLine behind [] rest = record { line = []; bytes = All-nil StaysInLine; tokens_are = refl; text_is = feed } in
    record {
      ends = record { byte = 10; others = rest; text_is = is ∙ feed; ends = inr (inr refl) };
      line = blanks-line [] text behind [] rest are is here;
    }
feed-ends (b ∷ blanks) text behind rest are is feed =
    let here : HasFirstLine behind [] rest = record { line = []; bytes = All-nil StaysInLine; tokens_are = refl; text_is = feed } in
    record {
      ends = record { byte = b; others = blanks ++ behind; text_is = is; ends = inl (All-head Blank b blanks are) };
      line = blanks-line (b ∷ blanks) text behind [] rest are is here;
    }

in_comment : (comment : List ℕ) → All StaysInLine comment → All StaysInLine (59 ∷ comment)
in_comment comment are = All-cons StaysInLine 59 comment (record { ascii = lit< tt; feed = λ e. omega arith; back = λ e. omega arith }) are

comment-line : (behind comment rest : List ℕ) → behind ≡ 59 ∷ comment → GoesOnTo comment rest → HasFirstLine behind [] rest
comment-line behind comment rest is goes = record {
  line = 59 ∷ goes.bytes;
  bytes = in_comment goes.bytes goes.stay;
  tokens_are = refl;
  text_is = is ∙ ap (λ (l : List ℕ). 59 ∷ l) goes.text_is;
}

-- a comment behind blanks
pub comment-ends : (blanks text behind comment rest : List ℕ) → All Blank blanks → text ≡ blanks ++ behind → behind ≡ 59 ∷ comment → GoesOnTo comment rest → EndsLine text rest
comment-ends [] text behind comment rest are is semicolon goes = record {
  ends = record { byte = 59; others = comment; text_is = is ∙ semicolon; ends = inr (inl refl) };
  line = blanks-line [] text behind [] rest are is (comment-line behind comment rest semicolon goes);
}
comment-ends (b ∷ blanks) text behind comment rest are is semicolon goes = record {
  ends = record { byte = b; others = blanks ++ behind; text_is = is; ends = inl (All-head Blank b blanks are) };
  line = blanks-line (b ∷ blanks) text behind [] rest are is (comment-line behind comment rest semicolon goes);
}

-- a number in front: its digits are bytes of a token
digit_byte : (byte : ℕ) → IsDigit byte → IsTokenByte byte
digit_byte byte is = record { ascii = omega (arith, is.1); plain = grind (arith, is); comment = λ e. omega (arith, is.1); feed = λ e. omega (arith, is.0); back = λ e. omega (arith, is.0) }

sign_byte : (byte : ℕ) → (byte ≡ 43) ⊎ (byte ≡ 45) → IsTokenByte byte
sign_byte byte is =
    ⊎_elim
    (λ (e : byte ≡ 43). subst IsTokenByte (sym e) (record { ascii = lit< tt; plain = refl; comment = λ e. omega arith; feed = λ e. omega arith; back = λ e. omega arith }))
    (λ (e : byte ≡ 45). subst IsTokenByte (sym e) (record { ascii = lit< tt; plain = refl; comment = λ e. omega arith; feed = λ e. omega arith; back = λ e. omega arith }))
    is

within_up : (far n number : ℕ) → far < 2 ^ 31 → n ≡ min number far → ((pos 0 -ℤ pos far) ≤ℤ to_z w32 n) × (to_z w32 n ≤ℤ pos far)
within_up far n number small is = let low : n ≤ far = omega arith in (omega (arith, ints), omega (arith, ints))

within_down : (far n number : ℕ) → far < 2 ^ 31 → n ≡ min number far
    → ((pos 0 -ℤ pos far) ≤ℤ to_z w32 (of_z w32 (pos 0 -ℤ to_z w32 n))) × (to_z w32 (of_z w32 (pos 0 -ℤ to_z w32 n)) ≤ℤ pos far)
within_down far n number small is = let low : n ≤ far = omega arith in (omega (arith, ints), omega (arith, ints))

-- such a number is kept in 32 bits
kept : (far : ℕ) (n : ℤ) → far < 2 ^ 31 → (pos 0 -ℤ pos far) ≤ℤ n → n ≤ℤ pos far → n ≡ to_z w32 (of_z w32 n)
kept far n small low high = omega (arith, ints)

-- digits
pub plain-number : (far : ℕ) (text : List ℕ) (n : ℕ) (behind : List ℕ) → far < 2 ^ 31 → BeginsWithDigits far text n behind → BeginsWithSigned far text (to_z w32 n) behind
plain-number far text n behind small h = record {
  number = h.digits;
  z = pos (value_of_digits h.digits);
  signed = (h.digits, h.are, inl (refl, refl));
  near = near_up far n (value_of_digits h.digits) small h.value;
  within = within_up far n (value_of_digits h.digits) small h.value;
  front = record { some = h.are.0; bytes = λ k d below. digit_byte _ (h.are.1 k d below); text_is = h.text_is };
}

signed_front : (text digits-text digits behind : List ℕ) (sign : ℕ) → (sign ≡ 43) ⊎ (sign ≡ 45) → text ≡ sign ∷ digits-text → digits-text ≡ digits ++ behind → AreDigits digits
    → BeginsWithBytes text (sign ∷ digits) behind
signed_front text digits-text digits behind sign is text_is digits_is are = record {
  some = omega arith;
  bytes = All-cons IsTokenByte sign digits (sign_byte sign is) (λ k d below. digit_byte _ (are.1 k d below));
  text_is = text_is ∙ ap (λ (l : List ℕ). sign ∷ l) digits_is;
}

-- digits behind a `+`
pub plus-number : (far : ℕ) (text digits-text : List ℕ) (n : ℕ) (behind : List ℕ) → far < 2 ^ 31 → text ≡ 43 ∷ digits-text → BeginsWithDigits far digits-text n behind
    → BeginsWithSigned far text (to_z w32 n) behind
plus-number far text digits-text n behind small is h = record {
  number = 43 ∷ h.digits;
  z = pos (value_of_digits h.digits);
  signed = (h.digits, h.are, inr (inl (refl, refl)));
  near = near_up far n (value_of_digits h.digits) small h.value;
  within = within_up far n (value_of_digits h.digits) small h.value;
  front = signed_front text digits-text h.digits behind 43 (inl refl) is h.text_is h.are;
}

-- digits behind a `-`
pub minus-number : (far : ℕ) (text digits-text : List ℕ) (n : ℕ) (behind : List ℕ) → far < 2 ^ 31 → text ≡ 45 ∷ digits-text → BeginsWithDigits far digits-text n behind
    → BeginsWithSigned far text (to_z w32 (of_z w32 (pos 0 -ℤ to_z w32 n))) behind
minus-number far text digits-text n behind small is h = record {
  number = 45 ∷ h.digits;
  z = pos 0 -ℤ pos (value_of_digits h.digits);
  signed = (h.digits, h.are, inr (inr (refl, refl)));
  near = near_down far n (value_of_digits h.digits) small h.value;
  within = within_down far n (value_of_digits h.digits) small h.value;
  front = signed_front text digits-text h.digits behind 45 (inr refl) is h.text_is h.are;
}

is_on_bed : (profile : Profile) (bed : Bed) (z : ℤ) → is_off_bed profile z ≡ false → IsOnBed profile (needle_on bed z)
is_on_bed profile bed z is = record { above = grind (arith, ints); below = grind (arith, ints) }

-- a needle as it is written
pub needle-token : (far : ℕ) (text number behind : List ℕ) (bed : Bed) (at : ℤ) → far < 2 ^ 31 → text ≡ bed_word bed ++ number → BeginsWithSigned far number at behind
    → BeginsWithNeedleToken far text bed (to_z w32 (of_z w32 at)) behind
needle-token far text number behind bed at small is h = record {
  token = bed_word bed ++ h.number;
  z = h.z;
  front = record {
    some = omega (arith, h.front.some, length-append (bed_word bed) h.number);
    bytes = All-append IsTokenByte (bed_word bed) h.number (bed_bytes bed) h.front.bytes;
    text_is = is ∙ ap (λ (l : List ℕ). bed_word bed ++ l) h.front.text_is ∙ sym (append_assoc (bed_word bed) h.number behind);
  };
  named = (h.number, refl, h.signed);
  near = subst (λ m. IsNear far m h.z) (kept far at small h.within.0 h.within.1) h.near;
}

-- a needle of the bed
pub needle-front : (far : ℕ) (profile : Profile) (text behind : List ℕ) (bed : Bed) (at : ℤ) (n : Needle) → BeginsWithNeedleToken far text bed at behind
    → ((z : ℤ) → IsNear far at z → (is_off_bed profile z ≡ false) × (n ≡ needle_on bed z))
    → BeginsWithBytesOf profile text n behind
needle-front far profile text behind bed at n h on =
    let here = on h.z h.near in
    subst (λ m. BeginsWithBytesOf profile text m behind) (sym here.1) (record { token = h.token; front = h.front; named = h.named; on = is_on_bed profile bed h.z here.0 })

-- nothing was found
pub none-found : {A : Type 0} (found : Option A) → is_some found ≡ false → found ≡ None
none-found None none = refl
none-found (Some x) none = absurd (false≢true (sym none))

-- a name of one byte
pub byte-front : (names : List (List ℕ)) (table : ByteNames) (text behind : List ℕ) (name : ℕ) (c : CarrierNo) → AreByteNames names table → text ≡ name ∷ behind → name < 256
    → slice_index table.numbers name ≢ 255 → c.0 ≡ slice_index table.numbers name → BeginsWithNameOf names text c behind
byte-front names table text behind name c are is byte some number =
    let here : IsByteName names name (slice_index table.numbers name) = are.each name some byte in
    record {
      token = name ∷ [];
      front = record { some = omega arith; bytes = All-cons IsTokenByte name [] here.token (All-nil IsTokenByte); text_is = is };
      named = here.named ∙ ap (λ k. Some (record { 0 = k })) (sym number);
    }

-- a name of two digits
pub pair-front : (names : List (List ℕ)) (table : ByteNames) (text behind : List ℕ) (tens ones : ℕ) (c : CarrierNo) → AreByteNames names table → IsDigit tens → IsDigit ones
    → text ≡ tens ∷ ones ∷ behind → slice_index table.pairs (10 * (tens - 48) + (ones - 48)) ≢ 255 → c.0 ≡ slice_index table.pairs (10 * (tens - 48) + (ones - 48))
    → BeginsWithNameOf names text c behind
pair-front names table text behind tens ones c are is_tens is_ones is some number = record {
  token = tens ∷ ones ∷ [];
  front = record {
    some = omega arith;
    bytes = All-cons IsTokenByte tens (ones ∷ []) (digit_byte tens is_tens) (All-cons IsTokenByte ones [] (digit_byte ones is_ones) (All-nil IsTokenByte));
    text_is = is;
  };
  named = pair_named names table tens ones c are is_tens is_ones some number;
}

-- the sign of a direction
pub dir-front : (text behind : List ℕ) (dir : Dir) → text ≡ dir_word dir ++ behind → BeginsWithBytes text (dir_word dir) behind
dir-front text behind dir is = record { some = (dir_token dir).some; bytes = (dir_token dir).bytes; text_is = is }

-- a direction, a needle and a name
pub operands-line : (profile : Profile) (names : List (List ℕ)) (text token behind name last rest : List ℕ) (dir : Dir) (n : Needle) (c : CarrierNo)
    → LeadsTo text (dir_word dir ∷ []) token → BeginsWithBytesOf profile token n behind → is_slider n.bed ≡ false → LeadsTo behind [] name → BeginsWithNameOf names name c last
    → EndsLine last rest → HasOperands profile names text dir n c rest
operands-line profile names text token behind name last rest dir n c first needle hook second named end =
    let last-line : HasFirstLine name (named.token ∷ []) rest = token-line name named.token last [] rest named.front end.ends end.line in
    let needle-line : HasFirstLine token (needle.token ∷ named.token ∷ []) rest =
    token-line token needle.token behind (named.token ∷ []) rest needle.front second.ends (second.line (named.token ∷ []) rest last-line) in
    record {
      needle = needle.token;
      name = named.token;
      ends = first.ends;
      line = first.line (needle.token ∷ named.token ∷ []) rest needle-line;
      needle_is = needle.named;
      on = needle.on;
      hook = hook;
      named = named.named;
    }

-- two needles
pub needles-line : (profile : Profile) (text first behind second last rest : List ℕ) (n n2 : Needle) → LeadsTo text [] first → BeginsWithBytesOf profile first n behind
    → LeadsTo behind [] second → BeginsWithBytesOf profile second n2 last → EndsLine last rest → not_opposite n.bed n2.bed 2 ≡ None → HasNeedles profile text n n2 rest
needles-line profile text first behind second last rest n n2 leads one leads2 two end opposite =
    let last-line : HasFirstLine second (two.token ∷ []) rest = token-line second two.token last [] rest two.front end.ends end.line in
    let first-line : HasFirstLine first (one.token ∷ two.token ∷ []) rest =
    token-line first one.token behind (two.token ∷ []) rest one.front leads2.ends (leads2.line (two.token ∷ []) rest last-line) in
    record {
      needle = one.token;
      needle2 = two.token;
      ends = leads.ends;
      line = leads.line (one.token ∷ two.token ∷ []) rest first-line;
      needle_is = one.named;
      needle2_is = two.named;
      on = one.on;
      on2 = two.on;
      opposite = opposite;
    }

word_front : (text word operands : List ℕ) → IsPlainToken word → text ≡ word ++ operands → BeginsWithBytes text word operands
word_front text word operands plain is = record { some = plain.some; bytes = plain.bytes; text_is = is }

pub knit-says : (profile : Profile) (names : List (List ℕ)) (text operands rest : List ℕ) (dir : Dir) (n : Needle) (c : CarrierNo)
    → text ≡ codes "knit" ++ operands → HasOperands profile names operands dir n c rest → Says profile names text (Knit dir n c) rest
knit-says profile names text operands rest dir n c is h = record {
  word = codes "knit";
  tokens = dir_word dir ∷ h.needle ∷ h.name ∷ [];
  line = token-line text (codes "knit") operands (dir_word dir ∷ h.needle ∷ h.name ∷ []) rest (word_front text (codes "knit") operands knit_token is) h.ends h.line;
  few = omega arith;
  reads = formed-reads profile names loop_operation.Knit dir n c (Knit dir n c) h.needle h.name refl h.needle_is h.on (no_slider n.bed h.name h.hook) h.named;
}

pub tuck-says : (profile : Profile) (names : List (List ℕ)) (text operands rest : List ℕ) (dir : Dir) (n : Needle) (c : CarrierNo)
    → text ≡ codes "tuck" ++ operands → HasOperands profile names operands dir n c rest → Says profile names text (Tuck dir n c) rest
tuck-says profile names text operands rest dir n c is h = record {
  word = codes "tuck";
  tokens = dir_word dir ∷ h.needle ∷ h.name ∷ [];
  line = token-line text (codes "tuck") operands (dir_word dir ∷ h.needle ∷ h.name ∷ []) rest (word_front text (codes "tuck") operands tuck_token is) h.ends h.line;
  few = omega arith;
  reads = formed-reads profile names loop_operation.Tuck dir n c (Tuck dir n c) h.needle h.name refl h.needle_is h.on (no_slider n.bed h.name h.hook) h.named;
}

pub xfer-says : (profile : Profile) (names : List (List ℕ)) (text operands rest : List ℕ) (n n2 : Needle)
    → text ≡ codes "xfer" ++ operands → HasNeedles profile operands n n2 rest → Says profile names text (Xfer n n2) rest
xfer-says profile names text operands rest n n2 is h = record {
  word = codes "xfer";
  tokens = h.needle ∷ h.needle2 ∷ [];
  line = token-line text (codes "xfer") operands (h.needle ∷ h.needle2 ∷ []) rest (word_front text (codes "xfer") operands xfer_token is) h.ends h.line;
  few = omega arith;
  reads = moved-reads profile names n n2 h.needle h.needle2 h.needle_is h.needle2_is h.on h.on2 h.opposite;
}

-- the line that says so begins the text
pub says-begins : (profile : Profile) (names : List (List ℕ)) (text blanks front rest : List ℕ) (usual : Usual) (most : ℕ) → length names ≤ 64 → All Blank blanks → text ≡ blanks ++ front
    → length text - length rest ≤ most → Says profile names front usual rest → BeginsWithLine most profile names text usual (length text - length rest)
says-begins profile names text blanks front rest usual most carriers are is short h =
    let line : HasFirstLine text (h.word ∷ h.tokens) rest = blanks-line blanks text front (h.word ∷ h.tokens) rest are is h.line in
    line-begins most profile names text line.line rest usual line.text_is (λ k d below. line.bytes k d below)
    (omega (arith, short, ap length line.text_is, length-append line.line (10 ∷ rest))) carriers
    (reads_line profile names line.line h.word h.tokens (usual_read usual) line.tokens_are h.reads)
    (tokens-lawful profile names h.word h.tokens (usual_read usual) (omega (arith, h.few)) h.reads)

-- where a comment's line feed stands
pub comment-goes : (text : List ℕ) (at : ℕ) → at < length text → All StaysInLine (take at text) → get_or text at 0 ≡ 10
    → GoesOnTo text (take (length text - (at + 1)) (drop (at + 1) text))
comment-goes text at within stay feed = record {
  bytes = take at text;
  stay = stay;
  text_is =
      sym (take-append-drop at text)
      ∙ ap (λ (l : List ℕ). take at text ++ l) (drop_more text at 0 within)
      ∙ ap (λ b. take at text ++ b ∷ drop (at + 1) text) feed
      ∙ ap (λ (l : List ℕ). take at text ++ 10 ∷ l) (sym (take_rest text (at + 1)));
}

-- one more byte of the line
pub stays-more : (text : List ℕ) (at : ℕ) → at < length text → All StaysInLine (take at text) → get_or text at 0 < 128 → get_or text at 0 ≢ 10 → get_or text at 0 ≢ 13
    → All StaysInLine (take (at + 1) text)
stays-more text at within stay ascii feed back = All-more StaysInLine _ _ 0 within stay (record { ascii = ascii; feed = feed; back = back })
