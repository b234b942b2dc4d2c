-- Lines whose tokens have one space between two, and what they read as.
use Rattle.std.proofs.Common.{◌≡◌, ◌≢◌, ℕ, ◌+◌, ◌-◌, ◌*◌, ◌/◌, ◌%◌, ◌<◌, ◌≤◌, ℤ, pos, ◌≤ℤ◌, int_lt, Bool, true, false, not, ◌||◌, ◌&&◌, is_none, List, [], ◌∷◌, ◌++◌, length, take, drop, slice_index, All, Option, None, Some, position, codes, ap, sym, subst, ◌∙◌, refl, inl, arith, lit<, append_assoc, append-nil, length-append, if◌then◌else◌}
use Rattle.std.specs.List.{cons_option, position_or_len}
use Rattle.std.specs.Option.{option_map}
use Rattle.std.proofs.lemmas.Int.{ints}
use Rattle.std.proofs.lemmas.List.{append_cancel_right, take_all}
use Rattle.std.proofs.lemmas.List.Elements.{All-append, All-cons, All-head, All-nil, All-tail}
use Rattle.std.proofs.lemmas.List.Sums.{position_or_len_is}
use Rattle.std.proofs.lemmas.Str.{IsUtf8-from_ascii, is_utf8-from_IsUtf8}
use Rattle.std.proofs.lemmas.Str.Ascii.{IsAscii-from_all}
use Rattle.std.proofs.Math.Seq.{drop-append-add}
use Rattle.knit_base.specs.declared.instr.Instr.TheVariants as instr
use Rattle.knit_base.specs.declared.instr.Read.{Read}
use Rattle.knit_base.specs.declared.instr.Read.TheVariants as read
use Rattle.knit_base.specs.declared.needle.Bed.{Bed}
use Rattle.knit_base.specs.declared.needle.Bed.TheVariants.{Front, FrontSlider, Back, BackSlider}
use Rattle.knit_base.specs.declared.needle.Dir.{Dir}
use Rattle.knit_base.specs.declared.needle.Dir.TheVariants.{Right, Left}
use Rattle.knit_base.specs.declared.needle.Needle.{Needle}
use Rattle.knit_base.specs.declared.profile.Profile.{Profile}
use Rattle.knit_base.specs.declared.rule.Reason.{Reason}
use Rattle.knit_base.specs.declared.rule.Rule.TheVariants.{NoCarrier, OffBed, SameBed, SliderForm, TwoSliders}
use Rattle.knit_base.specs.declared.usual.Usual.{Usual}
use Rattle.knit_base.specs.declared.usual.Usual.TheVariants.{Knit, Tuck, Xfer}
use Rattle.knit_base.specs.declared.yarns.CarrierNo.{CarrierNo}
use Rattle.knit_base.specs.Lawful.{IsLawfulRead, IsOnBed}
use Rattle.knit_base.specs.Lines.{lines_of}
use Rattle.knit_base.specs.Names.{carrier_of}
use Rattle.knit_base.specs.Needle.{is_front, is_slider}
use Rattle.knit_base.specs.Reasons.{broken_if, or_else}
use Rattle.knit_base.specs.Spelling.{bed_word, dir_word}
use Rattle.knit_base.specs.Usual.{usual_read}
use Rattle.knit_base.proofs.FirstLine.{lines_of-line}
use Rattle.knitout_reader.specs.declared.byte_names.ByteNames.{ByteNames}
use Rattle.knitout_reader.specs.declared.words.LoopOperation.{LoopOperation}
use Rattle.knitout_reader.specs.declared.words.LoopOperation.TheVariants as loop_operation
use Rattle.knitout_reader.specs.Carriers.{carrier_rule, carrier_twice, carriers_of}
use Rattle.knitout_reader.specs.Numbers.{AreDigits, IsDigit, IsNeedle, value_of_digits}
use Rattle.knitout_reader.specs.Operations.{loop_instr, loop_slider, loop_word}
use Rattle.knitout_reader.specs.Reading.{ReadsAs, CodeReadsAs, TokensReadAs, needle_on, not_opposite, off_bed, reading_or, slider_form}
use Rattle.knitout_reader.specs.Shapes.{IsFormed, XferShape}
use Rattle.knitout_reader.specs.Tokens.{before_comment, has_comment, is_blank, is_semicolon, tokens_of}
use Rattle.knitout_reader.specs.Loose.{StaysInLine}
use Rattle.knitout_reader.specs.Usual.{AreByteNames, BeginsWithLine, BeginsWithUsual, BeginsWithUsualName, BeginsWithUsualNeedles, BeginsWithUsualNumber, BeginsWithUsualOperands, IsByteName, IsPairName, IsTokenByte, pair_text}
use Rattle.knitout_reader.proofs.Marks.{loop-reading}
use Rattle.knitout_reader.proofs.OneShape.{one-reading, reads-tokens}
use Rattle.knitout_reader.proofs.Rules.{tokens-lawful}
use Rattle.knitout_reader.proofs.TokenRuns.{tokens_of-spaced, tokens_of-token}

-- numbers of one to three digits
pub one_digit : (text rest : List ℕ) (a end : ℕ) (at : ℤ) → IsDigit a → text ≡ a ∷ end ∷ rest → at ≡ pos (a - 48) → BeginsWithUsualNumber text at end rest
one_digit text rest a end at is text_is at_is = record {
  digits = a ∷ [];
  are = (omega arith, All-cons IsDigit a [] is (All-nil IsDigit));
  few = omega arith;
  at_is = at_is ∙ ap pos (omega arith);
  text_is = text_is;
}

-- of two digits
pub two_digits : (text rest : List ℕ) (a b end : ℕ) (at : ℤ) → IsDigit a → IsDigit b → text ≡ a ∷ b ∷ end ∷ rest → at ≡ pos (10 * (a - 48) + (b - 48))
    → BeginsWithUsualNumber text at end rest
two_digits text rest a b end at is is_b text_is at_is = record {
  digits = a ∷ b ∷ [];
  are = (omega arith, All-cons IsDigit a (b ∷ []) is (All-cons IsDigit b [] is_b (All-nil IsDigit)));
  few = omega arith;
  at_is = at_is ∙ ap pos (omega arith);
  text_is = text_is;
}

-- of three digits
pub three_digits : (text rest : List ℕ) (a b c end : ℕ) (at : ℤ) → IsDigit a → IsDigit b → IsDigit c → text ≡ a ∷ b ∷ c ∷ end ∷ rest
    → at ≡ pos (100 * (a - 48) + 10 * (b - 48) + (c - 48)) → BeginsWithUsualNumber text at end rest
three_digits text rest a b c end at is is_b is_c text_is at_is = record {
  digits = a ∷ b ∷ c ∷ [];
  are = (omega arith, All-cons IsDigit a (b ∷ c ∷ []) is (All-cons IsDigit b (c ∷ []) is_b (All-cons IsDigit c [] is_c (All-nil IsDigit))));
  few = omega arith;
  at_is = at_is ∙ ap pos (omega arith);
  text_is = text_is;
}

letter : (byte : ℕ) → 59 < byte → byte < 128 → IsTokenByte byte
letter byte low high = record {
  ascii = high;
  plain = grind arith;
  comment = λ e. omega arith;
  feed = λ e. omega arith;
  back = λ e. omega arith;
}

sign : (byte : ℕ) → 32 < byte → byte < 59 → IsTokenByte byte
sign byte low high = record {
  ascii = omega arith;
  plain = grind arith;
  comment = λ e. omega arith;
  feed = λ e. omega arith;
  back = λ e. omega arith;
}

-- a token that can stand in a line that is read at once
pub record IsPlainToken (token : List ℕ) : Type 0 where
  pub some : 0 < length token
  pub bytes : All IsTokenByte token

-- the tokens, with one space between two
abbrev pub spaced : List (List ℕ) → List ℕ
spaced [] = []
spaced (token ∷ []) = token
spaced (token ∷ next ∷ tokens) = token ++ 32 ∷ spaced (next ∷ tokens)

plain_bytes : (token : List ℕ) → All IsTokenByte token → All (λ byte. is_blank byte ≡ false) token
plain_bytes token are = λ k d below. (are k d below).plain

tokens-spaced : (tokens : List (List ℕ)) → All IsPlainToken tokens → tokens_of (spaced tokens) ≡ tokens
tokens-spaced [] are = refl
tokens-spaced (token ∷ []) are =
    let here : IsPlainToken token = All-head IsPlainToken token [] are in
    ap tokens_of (sym (append-nil token)) ∙ tokens_of-token token [] here.some (plain_bytes token here.bytes) (λ more. absurd (omega arith))
tokens-spaced (token ∷ next ∷ tokens) are =
    let here : IsPlainToken token = All-head IsPlainToken token (next ∷ tokens) are in
    tokens_of-spaced token (spaced (next ∷ tokens)) here.some (plain_bytes token here.bytes)
    ∙ ap (λ ts. token ∷ ts) (tokens-spaced (next ∷ tokens) (All-tail IsPlainToken token (next ∷ tokens) are))

-- a byte of such a line
pub record IsLineByte (byte : ℕ) : Type 0 where
  pub ascii : byte < 128
  pub comment : byte ≢ 59
  pub feed : byte ≢ 10
  pub back : byte ≢ 13

in_line : (token : List ℕ) → All IsTokenByte token → All IsLineByte token
in_line token are = λ k d below. let here = are k d below in record { ascii = here.ascii; comment = here.comment; feed = here.feed; back = here.back }

space : IsLineByte 32
space = record { ascii = lit< tt; comment = λ e. omega arith; feed = λ e. omega arith; back = λ e. omega arith }

bytes-spaced : (tokens : List (List ℕ)) → All IsPlainToken tokens → All IsLineByte (spaced tokens)
bytes-spaced [] are = All-nil IsLineByte
bytes-spaced (token ∷ []) are = in_line token (All-head IsPlainToken token [] are).bytes
bytes-spaced (token ∷ next ∷ tokens) are =
    All-append IsLineByte token (32 ∷ spaced (next ∷ tokens)) (in_line token (All-head IsPlainToken token (next ∷ tokens) are).bytes)
    (All-cons IsLineByte 32 (spaced (next ∷ tokens)) space (bytes-spaced (next ∷ tokens) (All-tail IsPlainToken token (next ∷ tokens) are)))

no_semicolon : (byte : ℕ) → byte ≢ 59 → is_semicolon byte ≡ false
no_semicolon byte other = grind arith

no_comment : (line : List ℕ) → All IsLineByte line → before_comment line ≡ line
no_comment line are =
    let none : position_or_len is_semicolon line ≡ length line =
    position_or_len_is is_semicolon line (length line) 0 (omega arith) (λ k below. no_semicolon _ (are k 0 below).comment) (λ within. absurd (omega arith)) in
    ap (λ n. take n line) none ∙ take_all (length line) line (omega arith)

pub reads_line : (profile : Profile) (names : List (List ℕ)) (line word : List ℕ) (rest : List (List ℕ)) (r : Read) → tokens_of (before_comment line) ≡ word ∷ rest
    → TokensReadAs profile names (word ∷ rest) r → ReadsAs profile names line r
reads_line profile names line word rest r is reads = subst (λ ts. CodeReadsAs profile names ts (has_comment line) r) (sym is) reads

-- a line that stays in one line begins the text
pub line-begins : (most : ℕ) (profile : Profile) (names : List (List ℕ)) (text line rest : List ℕ) (usual : Usual) → text ≡ line ++ 10 ∷ rest → All StaysInLine line → length line ≤ most
    → length names ≤ 64 → ReadsAs profile names line (usual_read usual) → IsLawfulRead profile (length names) (usual_read usual)
    → BeginsWithLine most profile names text usual (length text - length rest)
line-begins most profile names text line rest usual is bytes short carriers reads lawful =
    let all : length text ≡ length line + (length rest + 1) = ap length is ∙ length-append line (10 ∷ rest) ∙ omega arith in
    let behind : drop (length text - length rest) text ≡ rest =
    ap (λ n. drop n text) (omega arith) ∙ ap (drop (length line + 1)) is ∙ drop-append-add line (10 ∷ rest) 1 in
    record {
      line = line;
      some = omega arith;
      within = omega arith;
      lines = ap lines_of is
          ∙ lines_of-line line rest (λ k d below. record { feed = (bytes k d below).feed; back = (bytes k d below).back })
          ∙ ap (λ l. line ∷ lines_of l) (sym behind);
      utf8 = is_utf8-from_IsUtf8 line (IsUtf8-from_ascii line (IsAscii-from_all line (λ k d below. (bytes k d below).ascii)));
      short = short;
      read = reads;
      lawful = lawful;
      few = carriers;
    }

-- a line of such tokens begins the text
begins : (profile : Profile) (names : List (List ℕ)) (text rest word : List ℕ) (tokens : List (List ℕ)) (usual : Usual)
    → text ≡ spaced (word ∷ tokens) ++ 10 ∷ rest → All IsPlainToken (word ∷ tokens) → length (spaced (word ∷ tokens)) ≤ 32 → length tokens ≤ 3 → length names ≤ 64
    → TokensReadAs profile names (word ∷ tokens) (usual_read usual)
    → BeginsWithUsual profile names text usual (length text - length rest)
begins profile names text rest word tokens usual is are short few carriers reads =
    let line : List ℕ = spaced (word ∷ tokens) in
    let bytes : All IsLineByte (spaced (word ∷ tokens)) = bytes-spaced (word ∷ tokens) are in
    line-begins 32 profile names text line rest usual is
    (λ k d below. let here = bytes k d below in record { ascii = here.ascii; feed = here.feed; back = here.back }) short carriers
    (reads_line profile names line word tokens (usual_read usual) (ap tokens_of (no_comment line bytes) ∙ tokens-spaced (word ∷ tokens) are) reads)
    (tokens-lawful profile names word tokens (usual_read usual) (omega arith) reads)

-- The text begins with such a line, whose tokens say this.
pub record IsSpaced (profile : Profile) (names : List (List ℕ)) (text rest : List ℕ) (usual : Usual) : Type 0 where
  pub word : List ℕ
  pub tokens : List (List ℕ)
  pub text_is : text ≡ spaced (word ∷ tokens) ++ 10 ∷ rest
  pub plain : All IsPlainToken (word ∷ tokens)
  pub short : length (spaced (word ∷ tokens)) ≤ 32
  pub few : length tokens ≤ 3
  pub reads : TokensReadAs profile names (word ∷ tokens) (usual_read usual)

begins_spaced : (profile : Profile) (names : List (List ℕ)) (text rest : List ℕ) (usual : Usual) → length names ≤ 64 → IsSpaced profile names text rest usual
    → BeginsWithUsual profile names text usual (length text - length rest)
begins_spaced profile names text rest usual carriers h = begins profile names text rest h.word h.tokens usual h.text_is h.plain h.short h.few carriers h.reads

-- a line alone reads so, lawfully, and no other way
abbrev pub IsReadingOf : Profile → List (List ℕ) → List ℕ → Usual → Type 0
IsReadingOf profile names line usual =
    ReadsAs profile names line (usual_read usual)
    × IsLawfulRead profile (length names) (usual_read usual)
    × ((other : Read) → ReadsAs profile names line other → other ≡ usual_read usual)

-- what a line alone says that is so spelt
pub usual_line_reading : (profile : Profile) (names : List (List ℕ)) (line : List ℕ) (usual : Usual) → IsSpaced profile names (line ++ 10 ∷ []) [] usual → IsReadingOf profile names line usual
usual_line_reading profile names line usual h =
    let bytes : All IsLineByte (spaced (h.word ∷ h.tokens)) = bytes-spaced (h.word ∷ h.tokens) h.plain in
    let same : line ≡ spaced (h.word ∷ h.tokens) = append_cancel_right line (spaced (h.word ∷ h.tokens)) (10 ∷ []) h.text_is in
    let few : length h.tokens ≤ 3 = h.few in
    let tokens : tokens_of (before_comment line) ≡ h.word ∷ h.tokens =
    ap (λ l. tokens_of (before_comment l)) same ∙ ap tokens_of (no_comment (spaced (h.word ∷ h.tokens)) bytes) ∙ tokens-spaced (h.word ∷ h.tokens) h.plain in (
      reads_line profile names line h.word h.tokens (usual_read usual) tokens h.reads,
      tokens-lawful profile names h.word h.tokens (usual_read usual) (omega (arith, few)) h.reads,
      λ other two. one-reading profile names h.word h.tokens (usual_read usual) other h.reads
          (reads-tokens profile names (tokens_of (before_comment line)) h.tokens h.word (has_comment line) other tokens two),
    )

digit_bytes : (digits : List ℕ) → All IsDigit digits → All IsTokenByte digits
digit_bytes digits are = λ k d below. let here = are k d below in sign _ (omega (arith, here.0)) (omega (arith, here.1))

pub bed_bytes : (bed : Bed) → All IsTokenByte (bed_word bed)
bed_bytes Front = All-cons IsTokenByte 102 [] (letter 102 (lit< tt) (lit< tt)) (All-nil IsTokenByte)
bed_bytes FrontSlider = All-cons IsTokenByte 102 (115 ∷ []) (letter 102 (lit< tt) (lit< tt)) (All-cons IsTokenByte 115 [] (letter 115 (lit< tt) (lit< tt)) (All-nil IsTokenByte))
bed_bytes Back = All-cons IsTokenByte 98 [] (letter 98 (lit< tt) (lit< tt)) (All-nil IsTokenByte)
bed_bytes BackSlider = All-cons IsTokenByte 98 (115 ∷ []) (letter 98 (lit< tt) (lit< tt)) (All-cons IsTokenByte 115 [] (letter 115 (lit< tt) (lit< tt)) (All-nil IsTokenByte))

bed_len : (bed : Bed) → length (bed_word bed) ≤ 2
bed_len Front = omega arith
bed_len FrontSlider = omega arith
bed_len Back = omega arith
bed_len BackSlider = omega arith

pub dir_token : (dir : Dir) → IsPlainToken (dir_word dir)
dir_token Right = record { some = omega arith; bytes = All-cons IsTokenByte 43 [] (sign 43 (lit< tt) (lit< tt)) (All-nil IsTokenByte) }
dir_token Left = record { some = omega arith; bytes = All-cons IsTokenByte 45 [] (sign 45 (lit< tt) (lit< tt)) (All-nil IsTokenByte) }

dir_len : (dir : Dir) → length (dir_word dir) ≡ 1
dir_len Right = refl
dir_len Left = refl

word_token : (a b c d : ℕ) → IsTokenByte a → IsTokenByte b → IsTokenByte c → IsTokenByte d → IsPlainToken (a ∷ b ∷ c ∷ d ∷ [])
word_token a b c d is_a is_b is_c is_d = record {
  some = omega arith;
  bytes = All-cons IsTokenByte a (b ∷ c ∷ d ∷ []) is_a (All-cons IsTokenByte b (c ∷ d ∷ []) is_b (All-cons IsTokenByte c (d ∷ []) is_c (All-cons IsTokenByte d [] is_d (All-nil IsTokenByte))));
}

needle_token : (bed : Bed) (digits : List ℕ) → AreDigits digits → IsPlainToken (bed_word bed ++ digits)
needle_token bed digits are = record {
  some = omega (arith, are.0, length-append (bed_word bed) digits);
  bytes = All-append IsTokenByte (bed_word bed) digits (bed_bytes bed) (digit_bytes digits are.1);
}

not_off : (a b : ℤ) → b ≤ℤ a → int_lt a b ≡ false
not_off a b h = grind (arith, ints)

on_bed : (profile : Profile) (n : Needle) (place : ℕ) → IsOnBed profile n → off_bed profile place n.at ≡ None
on_bed profile n place on =
    let low : int_lt n.at profile.low ≡ false = not_off _ _ on.above in
    let high : int_lt profile.high n.at ≡ false = not_off _ _ on.below in
    ap (λ b. broken_if (b || int_lt profile.high n.at) OffBed place) low ∙ ap (λ b. broken_if b OffBed place) high

is_needle : (bed : Bed) (digits : List ℕ) (at : ℤ) → AreDigits digits → at ≡ pos (value_of_digits digits) → IsNeedle (bed_word bed ++ digits) bed at
is_needle bed digits at are is = (digits, refl, (digits, are, inl (refl, is)))

-- the rule of one carrier, by what its name finds
abbrev rule_on : ℕ → Option CarrierNo → Option Reason
rule_on at found = or_else (option_map (λ i. record { rule = NoCarrier; at = at + i }) (position (λ (t : List ℕ). is_none found) ([] ∷ []))) (carrier_twice at (cons_option found []))

one_carrier : (names : List (List ℕ)) (token : List ℕ) (c : CarrierNo) → carrier_of names token ≡ Some c → carrier_rule names 3 (token ∷ []) ≡ None
one_carrier names token c named = ap (rule_on 3) named

one_named : (names : List (List ℕ)) (token : List ℕ) (c : CarrierNo) → carrier_of names token ≡ Some c → carriers_of names (token ∷ []) ≡ c ∷ []
one_named names token c named = ap (λ found. cons_option found []) named

-- a name of one byte
pub byte-name : (names : List (List ℕ)) (table : ByteNames) (text rest : List ℕ) (name : ℕ) (c : CarrierNo) → AreByteNames names table → text ≡ name ∷ 10 ∷ rest → name < 256
    → slice_index table.numbers name ≢ 255 → c.0 ≡ slice_index table.numbers name → BeginsWithUsualName names text c rest
byte-name names table text rest name c are text_is byte some is =
    let here : IsByteName names name (slice_index table.numbers name) = are.each name some byte in
    record {
      name = name ∷ [];
      some = omega arith;
      short = omega arith;
      bytes = All-cons IsTokenByte name [] here.token (All-nil IsTokenByte);
      named = here.named ∙ ap (λ k. Some (record { 0 = k })) (sym is);
      text_is = text_is;
    }

-- two digits that the table has
pub pair_named : (names : List (List ℕ)) (table : ByteNames) (tens ones : ℕ) (c : CarrierNo) → AreByteNames names table → IsDigit tens → IsDigit ones
    → slice_index table.pairs (10 * (tens - 48) + (ones - 48)) ≢ 255 → c.0 ≡ slice_index table.pairs (10 * (tens - 48) + (ones - 48))
    → carrier_of names (tens ∷ ones ∷ []) ≡ Some c
pair_named names table tens ones c are is_tens is_ones some is =
    let pair : ℕ = 10 * (tens - 48) + (ones - 48) in
    let here : IsPairName names pair (slice_index table.pairs pair) = are.pairs pair some (omega (arith, is_tens, is_ones)) in
    let first : 48 + (10 * (tens - 48) + (ones - 48)) / 10 ≡ tens = omega (arith, is_tens, is_ones) in
    let second : 48 + (10 * (tens - 48) + (ones - 48)) % 10 ≡ ones = omega (arith, is_tens, is_ones) in
    let spelled : pair_text pair ≡ tens ∷ ones ∷ [] = λ i. first i ∷ second i ∷ [] in
    ap (carrier_of names) (sym spelled) ∙ here.named ∙ ap (λ k. Some (record { 0 = k })) (sym is)

-- a name of two digits
pub pair-name : (names : List (List ℕ)) (table : ByteNames) (text rest : List ℕ) (tens ones : ℕ) (c : CarrierNo) → AreByteNames names table → IsDigit tens → IsDigit ones
    → text ≡ tens ∷ ones ∷ 10 ∷ rest → slice_index table.pairs (10 * (tens - 48) + (ones - 48)) ≢ 255 → c.0 ≡ slice_index table.pairs (10 * (tens - 48) + (ones - 48))
    → BeginsWithUsualName names text c rest
pair-name names table text rest tens ones c are is_tens is_ones text_is some is = record {
  name = tens ∷ ones ∷ [];
  some = omega arith;
  short = omega arith;
  bytes = digit_bytes (tens ∷ ones ∷ []) (All-cons IsDigit tens (ones ∷ []) is_tens (All-cons IsDigit ones [] is_ones (All-nil IsDigit)));
  named = pair_named names table tens ones c are is_tens is_ones some is;
  text_is = text_is;
}

three_plain : (a b c : List ℕ) → IsPlainToken a → IsPlainToken b → IsPlainToken c → All IsPlainToken (a ∷ b ∷ c ∷ [])
three_plain a b c is_a is_b is_c =
    All-cons IsPlainToken a (b ∷ c ∷ []) is_a (All-cons IsPlainToken b (c ∷ []) is_b (All-cons IsPlainToken c [] is_c (All-nil IsPlainToken)))

-- what tokens say that form a loop of one carrier
pub formed-reads : (profile : Profile) (names : List (List ℕ)) (which : LoopOperation) (dir : Dir) (n : Needle) (c : CarrierNo) (usual : Usual) (token name : List ℕ)
    → usual_read usual ≡ read.Instr (loop_instr which dir n (c ∷ [])) → IsNeedle token n.bed n.at → IsOnBed profile n → loop_slider which n.bed (name ∷ []) ≡ None
    → carrier_of names name ≡ Some c → TokensReadAs profile names (loop_word which ∷ dir_word dir ∷ token ∷ name ∷ []) (usual_read usual)
formed-reads profile names which dir n c usual token name said needle on hook named =
    let shape : IsFormed (loop_word which) (loop_word which ∷ dir_word dir ∷ token ∷ name ∷ []) dir n.bed n.at (name ∷ []) = record {
      operands = token ∷ name ∷ [];
      spelled = refl;
      first = record { needle = token; spelled = refl; named = needle };
    } in
    let unbroken : or_else (off_bed profile 2 n.at) (or_else (loop_slider which n.bed (name ∷ [])) (carrier_rule names 3 (name ∷ []))) ≡ None =
    ap (λ o. or_else o (or_else (loop_slider which n.bed (name ∷ [])) (carrier_rule names 3 (name ∷ [])))) (on_bed profile n 2 on)
    ∙ ap (λ o. or_else o (carrier_rule names 3 (name ∷ []))) hook
    ∙ one_carrier names name c named in
    let is : usual_read usual
    ≡ reading_or (or_else (off_bed profile 2 n.at) (or_else (loop_slider which n.bed (name ∷ [])) (carrier_rule names 3 (name ∷ []))))
    (loop_instr which dir (needle_on n.bed n.at) (carriers_of names (name ∷ []))) =
    said
    ∙ ap (λ cs. read.Instr (loop_instr which dir n cs)) (sym (one_named names name c named))
    ∙ ap (λ o. reading_or o (loop_instr which dir n (carriers_of names (name ∷ [])))) (sym unbroken) in
    loop-reading profile names which (dir_word dir ∷ token ∷ name ∷ []) dir n.bed n.at (name ∷ []) (usual_read usual) shape is

-- a line that forms a loop of one carrier
formed : (profile : Profile) (names : List (List ℕ)) (text operands rest : List ℕ) (which : LoopOperation) (dir : Dir) (n : Needle) (c : CarrierNo) (usual : Usual)
    → IsPlainToken (loop_word which) → length (loop_word which) ≡ 4
    → ((bed : Bed) (token : List ℕ) → is_slider bed ≡ false → loop_slider which bed (token ∷ []) ≡ None)
    → usual_read usual ≡ read.Instr (loop_instr which dir n (c ∷ []))
    → text ≡ loop_word which ++ operands → BeginsWithUsualOperands profile names operands dir n c rest
    → IsSpaced profile names text rest usual
formed profile names text operands rest which dir n c usual word long hook said text_is front =
    let name : List ℕ = front.name.name in
    let digits : List ℕ = front.needle.number.digits in
    let token : List ℕ = bed_word n.bed ++ digits in
    let named : carrier_of names name ≡ Some c = front.name.named in
    let tokens : List (List ℕ) = dir_word dir ∷ token ∷ name ∷ [] in
    let plain : All IsPlainToken (loop_word which ∷ tokens) =
    All-cons IsPlainToken (loop_word which) tokens word
    (three_plain (dir_word dir) token name (dir_token dir) (needle_token n.bed digits front.needle.number.are) (record { some = front.name.some; bytes = front.name.bytes })) in
    let last : (token ++ 32 ∷ name) ++ 10 ∷ rest ≡ front.behind =
    append_assoc token (32 ∷ name) (10 ∷ rest) ∙ append_assoc (bed_word n.bed) digits (32 ∷ (name ++ 10 ∷ rest))
    ∙ ap (λ (l : List ℕ). bed_word n.bed ++ (digits ++ 32 ∷ l)) (sym front.name.text_is)
    ∙ ap (λ (l : List ℕ). bed_word n.bed ++ l) (sym front.needle.number.text_is) ∙ sym front.needle.text_is in
    let line : text ≡ spaced (loop_word which ∷ tokens) ++ 10 ∷ rest =
    text_is ∙ ap (λ (l : List ℕ). loop_word which ++ l) (front.text_is ∙ ap (λ (l : List ℕ). 32 ∷ (dir_word dir ++ 32 ∷ l)) (sym last)
    ∙ ap (λ (l : List ℕ). 32 ∷ l) (sym (append_assoc (dir_word dir) (32 ∷ (token ++ 32 ∷ name)) (10 ∷ rest))))
    ∙ sym (append_assoc (loop_word which) (32 ∷ (dir_word dir ++ 32 ∷ (token ++ 32 ∷ name))) (10 ∷ rest)) in
    let short : length (spaced (loop_word which ∷ tokens)) ≤ 32 =
    omega (
      arith,
      long,
      dir_len dir,
      bed_len n.bed,
      front.needle.number.few,
      front.name.short,
      length-append (loop_word which) (32 ∷ (dir_word dir ++ 32 ∷ (token ++ 32 ∷ name))),
      length-append (dir_word dir) (32 ∷ (token ++ 32 ∷ name)),
      length-append token (32 ∷ name),
      length-append (bed_word n.bed) digits,
    ) in
    record {
      word = loop_word which;
      tokens = tokens;
      text_is = line;
      plain = plain;
      short = short;
      few = omega arith;
      reads =
          formed-reads profile names which dir n c usual token name said (is_needle n.bed digits n.at front.needle.number.are front.needle.number.at_is) front.needle.on
          (hook n.bed name front.needle.hook) named;
    }

pub knit_token : IsPlainToken (codes "knit")
knit_token = word_token 107 110 105 116 (letter 107 (lit< tt) (lit< tt)) (letter 110 (lit< tt) (lit< tt)) (letter 105 (lit< tt) (lit< tt)) (letter 116 (lit< tt) (lit< tt))

pub tuck_token : IsPlainToken (codes "tuck")
tuck_token = word_token 116 117 99 107 (letter 116 (lit< tt) (lit< tt)) (letter 117 (lit< tt) (lit< tt)) (letter 99 (lit< tt) (lit< tt)) (letter 107 (lit< tt) (lit< tt))

pub xfer_token : IsPlainToken (codes "xfer")
xfer_token = word_token 120 102 101 114 (letter 120 (lit< tt) (lit< tt)) (letter 102 (lit< tt) (lit< tt)) (letter 101 (lit< tt) (lit< tt)) (letter 114 (lit< tt) (lit< tt))

pub no_slider : (bed : Bed) (token : List ℕ) → is_slider bed ≡ false → slider_form bed (token ∷ []) ≡ None
no_slider bed token hook = ap (λ b. broken_if b SliderForm 2) hook

-- a usual line with `knit` begins the text
pub knit_spaced : (profile : Profile) (names : List (List ℕ)) (text operands rest : List ℕ) (dir : Dir) (n : Needle) (c : CarrierNo)
    → text ≡ codes "knit" ++ operands → BeginsWithUsualOperands profile names operands dir n c rest → IsSpaced profile names text rest (Knit dir n c)
knit_spaced profile names text operands rest dir n c is front = formed profile names text operands rest loop_operation.Knit dir n c (Knit dir n c) knit_token refl no_slider refl is front

pub knit-begins : (profile : Profile) (names : List (List ℕ)) (table : ByteNames) (text operands rest : List ℕ) (dir : Dir) (n : Needle) (c : CarrierNo)
    → AreByteNames names table → text ≡ codes "knit" ++ operands → BeginsWithUsualOperands profile names operands dir n c rest
    → BeginsWithUsual profile names text (Knit dir n c) (length text - length rest)
knit-begins profile names table text operands rest dir n c are is front =
    begins_spaced profile names text rest (Knit dir n c) are.few (knit_spaced profile names text operands rest dir n c is front)

-- a usual line with `tuck` begins the text
pub tuck_spaced : (profile : Profile) (names : List (List ℕ)) (text operands rest : List ℕ) (dir : Dir) (n : Needle) (c : CarrierNo)
    → text ≡ codes "tuck" ++ operands → BeginsWithUsualOperands profile names operands dir n c rest → IsSpaced profile names text rest (Tuck dir n c)
tuck_spaced profile names text operands rest dir n c is front = formed profile names text operands rest loop_operation.Tuck dir n c (Tuck dir n c) tuck_token refl no_slider refl is front

pub tuck-begins : (profile : Profile) (names : List (List ℕ)) (table : ByteNames) (text operands rest : List ℕ) (dir : Dir) (n : Needle) (c : CarrierNo)
    → AreByteNames names table → text ≡ codes "tuck" ++ operands → BeginsWithUsualOperands profile names operands dir n c rest
    → BeginsWithUsual profile names text (Tuck dir n c) (length text - length rest)
tuck-begins profile names table text operands rest dir n c are is front =
    begins_spaced profile names text rest (Tuck dir n c) are.few (tuck_spaced profile names text operands rest dir n c is front)

sides_apart : (a b : Bool) → a ≢ b → (if a then b else not b) ≡ false
sides_apart true true differ = absurd (differ refl)
sides_apart true false differ = refl
sides_apart false true differ = refl
sides_apart false false differ = absurd (differ refl)

opposite : (bed bed2 : Bed) → is_slider bed ≡ false → is_front bed ≢ is_front bed2 → not_opposite bed bed2 2 ≡ None
opposite bed bed2 hook differ =
    ap (λ b. or_else (broken_if b SameBed 2) (broken_if (is_slider bed && is_slider bed2) TwoSliders 2)) (sides_apart (is_front bed) (is_front bed2) differ)
    ∙ ap (λ b. broken_if (b && is_slider bed2) TwoSliders 2) hook

-- what tokens say that move loops
pub moved-reads : (profile : Profile) (names : List (List ℕ)) (n n2 : Needle) (token token2 : List ℕ) → IsNeedle token n.bed n.at → IsNeedle token2 n2.bed n2.at → IsOnBed profile n → IsOnBed profile n2
    → not_opposite n.bed n2.bed 2 ≡ None → TokensReadAs profile names (codes "xfer" ∷ token ∷ token2 ∷ []) (usual_read (Xfer n n2))
moved-reads profile names n n2 token token2 needle needle2 on on2 sides =
    let unbroken : or_else (off_bed profile 1 n.at) (or_else (off_bed profile 2 n2.at) (not_opposite n.bed n2.bed 2)) ≡ None =
    ap (λ o. or_else o (or_else (off_bed profile 2 n2.at) (not_opposite n.bed n2.bed 2))) (on_bed profile n 1 on)
    ∙ ap (λ o. or_else o (not_opposite n.bed n2.bed 2)) (on_bed profile n2 2 on2)
    ∙ sides in
    inl (
      XferShape n.bed n.at n2.bed n2.at,
      record {
        operands = token ∷ token2 ∷ [];
        others = token2 ∷ [];
        spelled = refl;
        first = record { needle = token; spelled = refl; named = needle };
        second = record { needle = token2; spelled = refl; named = needle2 };
      },
      ap (λ o. reading_or o (instr.Xfer n n2)) (sym unbroken),
    )

-- a line that transfers loops
pub xfer_spaced : (profile : Profile) (names : List (List ℕ)) (text operands rest : List ℕ) (n n2 : Needle)
    → text ≡ codes "xfer" ++ operands → BeginsWithUsualNeedles profile operands n n2 rest → IsSpaced profile names text rest (Xfer n n2)
xfer_spaced profile names text operands rest n n2 text_is front =
    let digits : List ℕ = front.needle.number.digits in
    let digits2 : List ℕ = front.needle2.number.digits in
    let token : List ℕ = bed_word n.bed ++ digits in
    let token2 : List ℕ = bed_word n2.bed ++ digits2 in
    let tokens : List (List ℕ) = token ∷ token2 ∷ [] in
    let plain : All IsPlainToken (codes "xfer" ∷ tokens) =
    three_plain (codes "xfer") token token2 xfer_token (needle_token n.bed digits front.needle.number.are) (needle_token n2.bed digits2 front.needle2.number.are) in
    let second : token2 ++ 10 ∷ rest ≡ front.behind2 =
    append_assoc (bed_word n2.bed) digits2 (10 ∷ rest) ∙ ap (λ (l : List ℕ). bed_word n2.bed ++ l) (sym front.needle2.number.text_is) ∙ sym front.needle2.text_is in
    let first : token ++ 32 ∷ front.behind2 ≡ front.behind =
    append_assoc (bed_word n.bed) digits (32 ∷ front.behind2) ∙ ap (λ (l : List ℕ). bed_word n.bed ++ l) (sym front.needle.number.text_is) ∙ sym front.needle.text_is in
    let line : text ≡ spaced (codes "xfer" ∷ tokens) ++ 10 ∷ rest =
    text_is
    ∙ ap (λ (l : List ℕ). codes "xfer" ++ l) (front.text_is ∙ ap (λ (l : List ℕ). 32 ∷ l) (sym first) ∙ ap (λ (l : List ℕ). 32 ∷ (token ++ 32 ∷ l)) (sym second)
    ∙ ap (λ (l : List ℕ). 32 ∷ l) (sym (append_assoc token (32 ∷ token2) (10 ∷ rest)))) in
    let short : length (spaced (codes "xfer" ∷ tokens)) ≤ 32 =
    omega (
      arith,
      bed_len n.bed,
      bed_len n2.bed,
      front.needle.number.few,
      front.needle2.number.few,
      length-append (codes "xfer") (32 ∷ (token ++ 32 ∷ token2)),
      length-append token (32 ∷ token2),
      length-append (bed_word n.bed) digits,
      length-append (bed_word n2.bed) digits2,
    ) in
    record {
      word = codes "xfer";
      tokens = tokens;
      text_is = line;
      plain = plain;
      short = short;
      few = omega arith;
      reads =
          moved-reads profile names n n2 token token2 (is_needle n.bed digits n.at front.needle.number.are front.needle.number.at_is)
          (is_needle n2.bed digits2 n2.at front.needle2.number.are front.needle2.number.at_is) front.needle.on front.needle2.on
          (opposite n.bed n2.bed front.needle.hook front.sides);
    }

pub xfer-begins : (profile : Profile) (names : List (List ℕ)) (text operands rest : List ℕ) (n n2 : Needle) → length names ≤ 64
    → text ≡ codes "xfer" ++ operands → BeginsWithUsualNeedles profile operands n n2 rest
    → BeginsWithUsual profile names text (Xfer n n2) (length text - length rest)
xfer-begins profile names text operands rest n n2 few is front =
    begins_spaced profile names text rest (Xfer n n2) few (xfer_spaced profile names text operands rest n n2 is front)
