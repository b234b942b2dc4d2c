-- Lines that are their own canonical spelling, whatever they read as.
use Rattle.std.proofs.Common.{◌≡◌, ◌⊎◌, ⊎_elim, ℕ, ◌<◌, ◌≤◌, ℤ, pos, false, List, length, [], ◌∷◌, ◌++◌, All, Option, None, Some, codes, ap, sym, subst, ◌∙◌, refl, inl, arith, append_assoc, append-nil}
use Rattle.std.specs.Fmt.{decimal}
use Rattle.std.proofs.lemmas.Int.{ints}
use Rattle.std.proofs.lemmas.List.Elements.{All-cons, All-nil}
use Rattle.knit_base.specs.declared.needle.Dir.{Dir}
use Rattle.knit_base.specs.declared.needle.Dir.TheVariants.{Right, Left}
use Rattle.knit_base.specs.declared.profile.Profile.{Profile}
use Rattle.knit_base.specs.declared.rule.Reason.{Reason}
use Rattle.knit_base.specs.Reasons.{or_else}
use Rattle.knit_base.specs.Spelling.{bed_word, dir_word, needle_text}
use Rattle.knitout_reader.specs.Carriers.{carrier_rule}
use Rattle.knitout_reader.specs.Reading.{CodeReadsAs, TokensReadAs, instr_of, off_bed, reading_of, reading_or, slider_form, static_rule}
use Rattle.knitout_reader.specs.Shapes.{Shape, TokensSpell, KnitShape, TuckShape, XferShape}
use Rattle.knitout_reader.specs.Shortest.{AreShortestNeedles, AreShortestOperands, BeginsWithShortestNeedle, IsShortestSpelling}
use Rattle.knitout_reader.specs.Tokens.{before_comment, has_comment, is_blank, is_semicolon, tokens_of}
use Rattle.knitout_writer.specs.Canonical.{IsCanonicalLine, canonical, canonical_tokens, comment_behind, comment_of, each_spaced, tokens_spaced}
use Rattle.knitout_writer.proofs.Numerals.{IsSmall, needle_spells}
use Rattle.knitout_writer.proofs.SpacedTokens.{Commented, IsWord, IsWordByte, clear-spaced, tokens-spaced, no_semicolon_all_code}
use Rattle.knitout_reader.proofs.Rules.{neither_reason}
use Rattle.knitout_writer.proofs.Words.{carriers_back, needle_word}

-- what the canonical spelling is, by the rule that the line breaks
by_rule : (profile : Profile) (names : List (List ℕ)) (line first : List ℕ) (others : List (List ℕ)) (shape : Shape) (broken : Option Reason)
    → line ≡ tokens_spaced (first ∷ others) → tokens_of (before_comment line) ≡ first ∷ others → comment_of line ≡ [] → static_rule profile names shape ≡ broken
    → (static_rule profile names shape ≡ None → canonical_tokens names (instr_of names shape) (first ∷ others) ≡ first ∷ others)
    → line ≡ canonical names (reading_or broken (instr_of names shape)) line
by_rule profile names line first others shape (Some reason) is tokens bare rule back = refl
by_rule profile names line first others shape None is tokens bare rule back =
    is
    ∙ ap tokens_spaced (sym (ap (canonical_tokens names (instr_of names shape)) tokens ∙ back rule))
    ∙ sym (append-nil (tokens_spaced (canonical_tokens names (instr_of names shape) (tokens_of (before_comment line)))))
    ∙ ap (λ c. tokens_spaced (canonical_tokens names (instr_of names shape) (tokens_of (before_comment line))) ++ comment_behind c) (sym bare)

-- a line of words with one space between two that spell a shape
spelt : (profile : Profile) (names : List (List ℕ)) (line first : List ℕ) (others : List (List ℕ)) (shape : Shape)
    → line ≡ tokens_spaced (first ∷ others) → All IsWord (first ∷ others) → TokensSpell (first ∷ others) shape
    → (static_rule profile names shape ≡ None → canonical_tokens names (instr_of names shape) (first ∷ others) ≡ first ∷ others)
    → IsCanonicalLine profile names line line
spelt profile names line first others shape is are spells back =
    let here : Commented line line [] false = subst (λ l. Commented l l [] false) (sym is) (no_semicolon_all_code (tokens_spaced (first ∷ others)) (clear-spaced first others are)) in
    let tokens : tokens_of (before_comment line) ≡ first ∷ others =
    ap tokens_of (here.before ∙ is ∙ sym (append-nil (tokens_spaced (first ∷ others))))
    ∙ tokens-spaced first others [] are (λ some. absurd (omega arith)) ∙ ap (λ ts. first ∷ ts) (append-nil others) in
    let reads : TokensReadAs profile names (first ∷ others) (reading_of profile names shape) = inl (shape, spells, refl) in (
      reading_of profile names shape,
      subst (λ ts. CodeReadsAs profile names ts (has_comment line) (reading_of profile names shape)) (sym tokens) reads,
      by_rule profile names line first others shape (static_rule profile names shape) is tokens here.behind refl back,
    )

small_number : (n : ℕ) → n ≤ 999 → IsSmall (pos n)
small_number n small = record { low = omega (arith, ints); high = omega (arith, ints) }

dir_words : (dir : Dir) → IsWord (dir_word dir)
dir_words Right = record { some = omega arith; bytes = All-cons IsWordByte 43 [] (refl, refl) (All-nil IsWordByte) }
dir_words Left = record { some = omega arith; bytes = All-cons IsWordByte 45 [] (refl, refl) (All-nil IsWordByte) }

four_bytes : (a b c d : ℕ) → IsWordByte a → IsWordByte b → IsWordByte c → IsWordByte d → IsWord (a ∷ b ∷ c ∷ d ∷ [])
four_bytes a b c d is_a is_b is_c is_d = record {
  some = omega arith;
  bytes = All-cons IsWordByte a (b ∷ c ∷ d ∷ []) is_a (All-cons IsWordByte b (c ∷ d ∷ []) is_b (All-cons IsWordByte c (d ∷ []) is_c (All-cons IsWordByte d [] is_d (All-nil IsWordByte))));
}

knit_word : IsWord (codes "knit")
knit_word = four_bytes 107 110 105 116 (refl, refl) (refl, refl) (refl, refl) (refl, refl)

tuck_word : IsWord (codes "tuck")
tuck_word = four_bytes 116 117 99 107 (refl, refl) (refl, refl) (refl, refl) (refl, refl)

xfer_word : IsWord (codes "xfer")
xfer_word = four_bytes 120 102 101 114 (refl, refl) (refl, refl) (refl, refl) (refl, refl)

three_words : (a b c : List ℕ) → IsWord a → IsWord b → IsWord c → All IsWord (a ∷ b ∷ c ∷ [])
three_words a b c is_a is_b is_c = All-cons IsWord a (b ∷ c ∷ []) is_a (All-cons IsWord b (c ∷ []) is_b (All-cons IsWord c [] is_c (All-nil IsWord)))

name_word : (name : ℕ) → is_blank name ≡ false → is_semicolon name ≡ false → IsWord (name ∷ [])
name_word name plain comment = record { some = omega arith; bytes = All-cons IsWordByte name [] (plain, comment) (All-nil IsWordByte) }

-- what stands behind a needle
needle_front : (text rest : List ℕ) (begins : BeginsWithShortestNeedle text rest) → text ≡ needle_text (record { bed = begins.bed; at = pos begins.number.number }) ++ rest
needle_front text rest begins =
    begins.text_is ∙ ap (λ (l : List ℕ). bed_word begins.bed ++ l) begins.number.text_is
    ∙ sym (append_assoc (bed_word begins.bed) (decimal begins.number.number) rest)

-- the carriers' rule is the last that is tried
last_rule : (first second third : Option Reason) → or_else first (or_else second third) ≡ None → third ≡ None
last_rule first second third e = (neither_reason second third (neither_reason first (or_else second third) e).1).1

-- two words behind a first one, with their spaces
spaced_three : (a b c : List ℕ) → tokens_spaced (a ∷ b ∷ c ∷ []) ≡ a ++ 32 ∷ (b ++ 32 ∷ c)
spaced_three a b c = ap (λ (l : List ℕ). a ++ 32 ∷ (b ++ 32 ∷ l)) (append-nil c)

-- and the names of carriers behind three words
names_spaced : (names : List (List ℕ)) → 0 < length names → each_spaced names ≡ 32 ∷ tokens_spaced names
names_spaced [] some = absurd (omega arith)
names_spaced (name ∷ names) some = refl

-- The words of a line that forms loops. Behind its front, which ends with the first byte of the carriers' names, stands the rest
-- of these.
formed_spaced : (word text operands more : List ℕ) (carriers : List (List ℕ)) (spelled : AreShortestOperands operands) → text ≡ word ++ (operands ++ more)
    → spelled.last.name ∷ more ≡ tokens_spaced carriers → 0 < length carriers
    → text ≡ tokens_spaced (word ∷ dir_word spelled.dir ∷ needle_text (record { bed = spelled.needle.bed; at = pos spelled.needle.number.number }) ∷ carriers)
formed_spaced word text operands more carriers spelled is named some =
    let needle : List ℕ = needle_text (record { bed = spelled.needle.bed; at = pos spelled.needle.number.number }) in
    let behind : spelled.behind ++ more ≡ needle ++ each_spaced carriers =
    ap (λ (l : List ℕ). l ++ more) (needle_front spelled.behind spelled.rest spelled.needle ∙ ap (λ (l : List ℕ). needle ++ l) spelled.last.text_is)
    ∙ append_assoc needle (32 ∷ spelled.last.name ∷ []) more
    ∙ ap (λ (l : List ℕ). needle ++ 32 ∷ l) named ∙ ap (λ (l : List ℕ). needle ++ l) (sym (names_spaced carriers some)) in
    is
    ∙ ap (λ (l : List ℕ). word ++ (l ++ more)) spelled.text_is
    ∙ ap (λ (l : List ℕ). word ++ 32 ∷ l) (append_assoc (dir_word spelled.dir) (32 ∷ spelled.behind) more)
    ∙ ap (λ (l : List ℕ). word ++ 32 ∷ (dir_word spelled.dir ++ 32 ∷ l)) behind

-- a `knit` whose front is in its shortest spelling, with the rest of its carriers' names behind that
pub knit-canonical : (profile : Profile) (names : List (List ℕ)) (line operands more : List ℕ) (carriers : List (List ℕ)) → line ≡ codes "knit" ++ (operands ++ more)
    → (spelled : AreShortestOperands operands) → spelled.last.name ∷ more ≡ tokens_spaced carriers → 0 < length carriers → All IsWord carriers → IsCanonicalLine profile names line line
knit-canonical profile names line operands more carriers is spelled named some words =
    let at : ℤ = pos spelled.needle.number.number in
    let small : IsSmall at = small_number spelled.needle.number.number spelled.needle.number.small in
    let needle : List ℕ = needle_text (record { bed = spelled.needle.bed; at = at }) in
    spelt profile names line (codes "knit") (dir_word spelled.dir ∷ needle ∷ carriers) (KnitShape spelled.dir spelled.needle.bed at carriers)
    (formed_spaced (codes "knit") line operands more carriers spelled is named some)
    (All-cons IsWord (codes "knit") (dir_word spelled.dir ∷ needle ∷ carriers) knit_word
    (All-cons IsWord (dir_word spelled.dir) (needle ∷ carriers) (dir_words spelled.dir)
    (All-cons IsWord needle carriers (needle_word spelled.needle.bed at small) words)))
    (record {
      operands = needle ∷ carriers;
      spelled = refl;
      first = record { needle = needle; spelled = refl; named = needle_spells spelled.needle.bed at small };
    })
    (λ none. ap (λ cs. codes "knit" ∷ dir_word spelled.dir ∷ needle ∷ cs)
    (carriers_back names carriers 3 (last_rule (off_bed profile 2 at) (slider_form spelled.needle.bed carriers) (carrier_rule names 3 carriers) none)))

-- a `tuck` whose front is in its shortest spelling, with the rest of its carriers' names behind that
pub tuck-canonical : (profile : Profile) (names : List (List ℕ)) (line operands more : List ℕ) (carriers : List (List ℕ)) → line ≡ codes "tuck" ++ (operands ++ more)
    → (spelled : AreShortestOperands operands) → spelled.last.name ∷ more ≡ tokens_spaced carriers → 0 < length carriers → All IsWord carriers → IsCanonicalLine profile names line line
tuck-canonical profile names line operands more carriers is spelled named some words =
    let at : ℤ = pos spelled.needle.number.number in
    let small : IsSmall at = small_number spelled.needle.number.number spelled.needle.number.small in
    let needle : List ℕ = needle_text (record { bed = spelled.needle.bed; at = at }) in
    spelt profile names line (codes "tuck") (dir_word spelled.dir ∷ needle ∷ carriers) (TuckShape spelled.dir spelled.needle.bed at carriers)
    (formed_spaced (codes "tuck") line operands more carriers spelled is named some)
    (All-cons IsWord (codes "tuck") (dir_word spelled.dir ∷ needle ∷ carriers) tuck_word
    (All-cons IsWord (dir_word spelled.dir) (needle ∷ carriers) (dir_words spelled.dir)
    (All-cons IsWord needle carriers (needle_word spelled.needle.bed at small) words)))
    (record {
      operands = needle ∷ carriers;
      spelled = refl;
      first = record { needle = needle; spelled = refl; named = needle_spells spelled.needle.bed at small };
    })
    (λ none. ap (λ cs. codes "tuck" ∷ dir_word spelled.dir ∷ needle ∷ cs)
    (carriers_back names carriers 3 (last_rule (off_bed profile 2 at) (slider_form spelled.needle.bed carriers) (carrier_rule names 3 carriers) none)))

-- with one carrier whose name is one byte
name_alone : (operands : List ℕ) (spelled : AreShortestOperands operands) → All IsWord ((spelled.last.name ∷ []) ∷ [])
name_alone operands spelled =
    All-cons IsWord (spelled.last.name ∷ []) [] (name_word spelled.last.name spelled.last.plain spelled.last.comment) (All-nil IsWord)

knit_line : (profile : Profile) (names : List (List ℕ)) (line operands : List ℕ) → line ≡ codes "knit" ++ operands → AreShortestOperands operands → IsCanonicalLine profile names line line
knit_line profile names line operands is spelled =
    knit-canonical profile names line operands [] ((spelled.last.name ∷ []) ∷ []) (is ∙ ap (λ (l : List ℕ). codes "knit" ++ l) (sym (append-nil operands)))
    spelled refl (omega arith) (name_alone operands spelled)

tuck_line : (profile : Profile) (names : List (List ℕ)) (line operands : List ℕ) → line ≡ codes "tuck" ++ operands → AreShortestOperands operands → IsCanonicalLine profile names line line
tuck_line profile names line operands is spelled =
    tuck-canonical profile names line operands [] ((spelled.last.name ∷ []) ∷ []) (is ∙ ap (λ (l : List ℕ). codes "tuck" ++ l) (sym (append-nil operands)))
    spelled refl (omega arith) (name_alone operands spelled)

xfer_line : (profile : Profile) (names : List (List ℕ)) (line operands : List ℕ) → line ≡ codes "xfer" ++ operands → AreShortestNeedles operands → IsCanonicalLine profile names line line
xfer_line profile names line operands is spelled =
    let at : ℤ = pos spelled.needle.number.number in
    let at2 : ℤ = pos spelled.needle2.number.number in
    let small : IsSmall at = small_number spelled.needle.number.number spelled.needle.number.small in
    let small2 : IsSmall at2 = small_number spelled.needle2.number.number spelled.needle2.number.small in
    let needle : List ℕ = needle_text (record { bed = spelled.needle.bed; at = at }) in
    let needle2 : List ℕ = needle_text (record { bed = spelled.needle2.bed; at = at2 }) in
    let last : spelled.behind2 ≡ needle2 = needle_front spelled.behind2 [] spelled.needle2 ∙ append-nil needle2 in
    let behind : spelled.behind ≡ needle ++ 32 ∷ needle2 = needle_front spelled.behind (32 ∷ spelled.behind2) spelled.needle ∙ ap (λ (l : List ℕ). needle ++ 32 ∷ l) last in
    spelt profile names line (codes "xfer") (needle ∷ needle2 ∷ []) (XferShape spelled.needle.bed at spelled.needle2.bed at2)
    (is ∙ ap (λ (l : List ℕ). codes "xfer" ++ l) (spelled.text_is ∙ ap (λ (l : List ℕ). 32 ∷ l) behind) ∙ sym (spaced_three (codes "xfer") needle needle2))
    (three_words (codes "xfer") needle needle2 xfer_word (needle_word spelled.needle.bed at small) (needle_word spelled.needle2.bed at2 small2))
    (record {
      operands = needle ∷ needle2 ∷ [];
      others = needle2 ∷ [];
      spelled = refl;
      first = record { needle = needle; spelled = refl; named = needle_spells spelled.needle.bed at small };
      second = record { needle = needle2; spelled = refl; named = needle_spells spelled.needle2.bed at2 small2 };
    })
    (λ none. refl)

-- such a line is its own canonical spelling
pub shortest-canonical : (profile : Profile) (names : List (List ℕ)) (line : List ℕ) → IsShortestSpelling line → IsCanonicalLine profile names line line
shortest-canonical profile names line is =
    ⊎_elim
    (λ (knit : (operands : List ℕ) × (line ≡ codes "knit" ++ operands) × AreShortestOperands operands). knit_line profile names line knit.0 knit.1 knit.2)
    (λ (others : ((operands : List ℕ) × (line ≡ codes "tuck" ++ operands) × AreShortestOperands operands)
    ⊎ ((operands : List ℕ) × (line ≡ codes "xfer" ++ operands) × AreShortestNeedles operands)).
    ⊎_elim
    (λ (tuck : (operands : List ℕ) × (line ≡ codes "tuck" ++ operands) × AreShortestOperands operands). tuck_line profile names line tuck.0 tuck.1 tuck.2)
    (λ (xfer : (operands : List ℕ) × (line ≡ codes "xfer" ++ operands) × AreShortestNeedles operands). xfer_line profile names line xfer.0 xfer.1 xfer.2)
    others)
    is
