-- The bytes of lines in their shortest spelling: only a carrier's name may be a byte that isn't plain.
use Rattle.std.proofs.Common.{◌≡◌, ◌⊎◌, ⊎_elim, ℕ, ◌-◌, ◌<◌, ◌≤◌, List, [], ◌∷◌, ◌++◌, length, get_or, All, codes, ap, sym, subst, ◌∙◌, refl, arith, lit<, length-append, append-nil}
use Rattle.std.specs.Fmt.{decimal}
use Rattle.std.proofs.lemmas.List.Elements.{All-append, All-cons, All-nil}
use Rattle.std.proofs.lemmas.List.{get_or-append_right}
use Rattle.knit_base.specs.declared.needle.Bed.{Bed}
use Rattle.knit_base.specs.declared.needle.Bed.TheVariants.{Front, FrontSlider, Back, BackSlider}
use Rattle.knit_base.specs.declared.needle.Dir.{Dir}
use Rattle.knit_base.specs.declared.needle.Dir.TheVariants.{Right, Left}
use Rattle.knit_base.specs.Spelling.{bed_word, dir_word}
use Rattle.knitout_reader.specs.Shortest.{AreShortestNeedles, AreShortestOperands, BeginsWithShortestNeedle, IsLastName, IsShortestSpelling}
use Rattle.knitout_writer.specs.Written.{IsPlainByte}
use Rattle.knitout_writer.proofs.Numerals.{decimal_spells}

printable : (byte : ℕ) → 31 < byte → byte < 128 → IsPlainByte byte
printable byte low high = record { ascii = high; feed = λ e. omega arith; back = λ e. omega arith }

-- the last byte of the text is this one, and all are plain if it is
pub record IsPlainBefore (last : ℕ) (text : List ℕ) : Type 0 where
  pub some : 0 < length text
  pub is_last : get_or text (length text - 1) 0 ≡ last
  pub bytes : IsPlainByte last → All IsPlainByte text

last_behind : (front text : List ℕ) → 0 < length text → get_or (front ++ text) (length (front ++ text) - 1) 0 ≡ get_or text (length text - 1) 0
last_behind front text some =
    get_or-append_right front text (length front) (length (front ++ text) - 1) 0 refl (omega (arith, some, length-append front text))
    ∙ ap (λ k. get_or text k 0) {x = length (front ++ text) - 1 - length front} (omega (arith, some, length-append front text))

-- plain bytes stand before it
plain_behind : (last : ℕ) (front text : List ℕ) → All IsPlainByte front → IsPlainBefore last text → IsPlainBefore last (front ++ text)
plain_behind last front text are ends = record {
  some = omega (arith, ends.some, length-append front text);
  is_last = last_behind front text ends.some ∙ ends.is_last;
  bytes = λ plain. All-append IsPlainByte front text are (ends.bytes plain);
}

space_behind : (last : ℕ) (text : List ℕ) → IsPlainBefore last text → IsPlainBefore last (32 ∷ text)
space_behind last text ends = plain_behind last (32 ∷ []) text (All-cons IsPlainByte 32 [] (printable 32 (lit< tt) (lit< tt)) (All-nil IsPlainByte)) ends

word_bytes : (a b c d : ℕ) → IsPlainByte a → IsPlainByte b → IsPlainByte c → IsPlainByte d → All IsPlainByte (a ∷ b ∷ c ∷ d ∷ [])
word_bytes a b c d is_a is_b is_c is_d =
    All-cons IsPlainByte a (b ∷ c ∷ d ∷ []) is_a (All-cons IsPlainByte b (c ∷ d ∷ []) is_b (All-cons IsPlainByte c (d ∷ []) is_c (All-cons IsPlainByte d [] is_d (All-nil IsPlainByte))))

knit_bytes : All IsPlainByte (codes "knit")
knit_bytes = word_bytes 107 110 105 116 (printable 107 (lit< tt) (lit< tt)) (printable 110 (lit< tt) (lit< tt)) (printable 105 (lit< tt) (lit< tt)) (printable 116 (lit< tt) (lit< tt))

tuck_bytes : All IsPlainByte (codes "tuck")
tuck_bytes = word_bytes 116 117 99 107 (printable 116 (lit< tt) (lit< tt)) (printable 117 (lit< tt) (lit< tt)) (printable 99 (lit< tt) (lit< tt)) (printable 107 (lit< tt) (lit< tt))

xfer_bytes : All IsPlainByte (codes "xfer")
xfer_bytes = word_bytes 120 102 101 114 (printable 120 (lit< tt) (lit< tt)) (printable 102 (lit< tt) (lit< tt)) (printable 101 (lit< tt) (lit< tt)) (printable 114 (lit< tt) (lit< tt))

dir_bytes : (dir : Dir) → All IsPlainByte (dir_word dir)
dir_bytes Right = All-cons IsPlainByte 43 [] (printable 43 (lit< tt) (lit< tt)) (All-nil IsPlainByte)
dir_bytes Left = All-cons IsPlainByte 45 [] (printable 45 (lit< tt) (lit< tt)) (All-nil IsPlainByte)

bed_bytes : (bed : Bed) → All IsPlainByte (bed_word bed)
bed_bytes Front = All-cons IsPlainByte 102 [] (printable 102 (lit< tt) (lit< tt)) (All-nil IsPlainByte)
bed_bytes FrontSlider = All-cons IsPlainByte 102 (115 ∷ []) (printable 102 (lit< tt) (lit< tt)) (All-cons IsPlainByte 115 [] (printable 115 (lit< tt) (lit< tt)) (All-nil IsPlainByte))
bed_bytes Back = All-cons IsPlainByte 98 [] (printable 98 (lit< tt) (lit< tt)) (All-nil IsPlainByte)
bed_bytes BackSlider = All-cons IsPlainByte 98 (115 ∷ []) (printable 98 (lit< tt) (lit< tt)) (All-cons IsPlainByte 115 [] (printable 115 (lit< tt) (lit< tt)) (All-nil IsPlainByte))

number_bytes : (n : ℕ) → n ≤ 999 → All IsPlainByte (decimal n)
number_bytes n small =
    let spelled = decimal_spells n (omega arith) in
    λ k d below. let digit = spelled.each k d below in printable _ (omega (arith, digit.0)) (omega (arith, digit.1))

needle_before : (last : ℕ) (text rest : List ℕ) → BeginsWithShortestNeedle text rest → IsPlainBefore last rest → IsPlainBefore last text
needle_before last text rest begins ends =
    subst (IsPlainBefore last) (sym begins.text_is)
    (plain_behind last (bed_word begins.bed) begins.behind (bed_bytes begins.bed)
    (subst (IsPlainBefore last) (sym begins.number.text_is)
    (plain_behind last (decimal begins.number.number) rest (number_bytes begins.number.number begins.number.small) ends)))

-- the last byte of a text
abbrev last_of : List ℕ → ℕ
last_of text = get_or text (length text - 1) 0

-- a needle with nothing behind it
needle_alone : (text : List ℕ) → BeginsWithShortestNeedle text [] → IsPlainBefore (last_of text) text
needle_alone text begins =
    let spelled = decimal_spells begins.number.number (omega (arith, begins.number.small)) in
    let digits : begins.behind ≡ decimal begins.number.number = begins.number.text_is ∙ append-nil (decimal begins.number.number) in
    let is : text ≡ bed_word begins.bed ++ decimal begins.number.number = begins.text_is ∙ ap (λ l. bed_word begins.bed ++ l) digits in
    record {
      some = omega (arith, ap length is, length-append (bed_word begins.bed) (decimal begins.number.number), spelled.some);
      is_last = refl;
      bytes = λ plain. subst (All IsPlainByte) (sym is)
          (All-append IsPlainByte (bed_word begins.bed) (decimal begins.number.number) (bed_bytes begins.bed) (number_bytes begins.number.number begins.number.small));
    }

name_last : (text : List ℕ) (last : IsLastName text) → IsPlainBefore last.name text
name_last text last =
    subst (IsPlainBefore last.name) (sym last.text_is)
    (space_behind last.name (last.name ∷ []) (record { some = omega arith; is_last = refl; bytes = λ plain. All-cons IsPlainByte last.name [] plain (All-nil IsPlainByte) }))

operands_before : (text : List ℕ) (spelled : AreShortestOperands text) → IsPlainBefore spelled.last.name text
operands_before text spelled =
    let name : ℕ = spelled.last.name in
    subst (IsPlainBefore name) (sym spelled.text_is)
    (space_behind name (dir_word spelled.dir ++ 32 ∷ spelled.behind) (plain_behind name (dir_word spelled.dir) (32 ∷ spelled.behind) (dir_bytes spelled.dir)
    (space_behind name spelled.behind (needle_before name spelled.behind spelled.rest spelled.needle (name_last spelled.rest spelled.last)))))

-- a `knit` has plain bytes if the carrier's name is one
pub knit-plain : (line operands : List ℕ) → line ≡ codes "knit" ++ operands → (spelled : AreShortestOperands operands) → IsPlainBefore spelled.last.name line
knit-plain line operands is spelled =
    subst (IsPlainBefore spelled.last.name) (sym is) (plain_behind spelled.last.name (codes "knit") operands knit_bytes (operands_before operands spelled))

-- so has a `tuck`
pub tuck-plain : (line operands : List ℕ) → line ≡ codes "tuck" ++ operands → (spelled : AreShortestOperands operands) → IsPlainBefore spelled.last.name line
tuck-plain line operands is spelled =
    subst (IsPlainBefore spelled.last.name) (sym is) (plain_behind spelled.last.name (codes "tuck") operands tuck_bytes (operands_before operands spelled))

xfer_plain : (line operands : List ℕ) → line ≡ codes "xfer" ++ operands → (spelled : AreShortestNeedles operands) → IsPlainBefore (last_of spelled.behind2) line
xfer_plain line operands is spelled =
    let last : ℕ = last_of spelled.behind2 in
    let here : IsPlainBefore (last_of spelled.behind2) operands =
    subst (IsPlainBefore last) (sym spelled.text_is)
    (space_behind last spelled.behind
    (needle_before last spelled.behind (32 ∷ spelled.behind2) spelled.needle (space_behind last spelled.behind2 (needle_alone spelled.behind2 spelled.needle2)))) in
    subst (IsPlainBefore last) (sym is) (plain_behind last (codes "xfer") operands xfer_bytes here)

all_plain : (last : ℕ) (line : List ℕ) → IsPlainBefore last line → IsPlainByte (last_of line) → All IsPlainByte line
all_plain last line ends plain = ends.bytes (subst IsPlainByte ends.is_last plain)

-- a line in its shortest spelling has plain bytes if its last one is plain
pub shortest-plain : (line : List ℕ) → IsShortestSpelling line → IsPlainByte (get_or line (length line - 1) 0) → All IsPlainByte line
shortest-plain line is plain =
    ⊎_elim
    (λ (knit : (operands : List ℕ) × (line ≡ codes "knit" ++ operands) × AreShortestOperands operands).
    all_plain knit.2.last.name line (knit-plain line knit.0 knit.1 knit.2) plain)
    (λ (others : ((operands : List ℕ) × (line ≡ codes "tuck" ++ operands) × AreShortestOperands operands)
    ⊎ ((operands : List ℕ) × (line ≡ codes "xfer" ++ operands) × AreShortestNeedles operands)).
    ⊎_elim
    (λ (tuck : (operands : List ℕ) × (line ≡ codes "tuck" ++ operands) × AreShortestOperands operands).
    all_plain tuck.2.last.name line (tuck-plain line tuck.0 tuck.1 tuck.2) plain)
    (λ (xfer : (operands : List ℕ) × (line ≡ codes "xfer" ++ operands) × AreShortestNeedles operands).
    all_plain (last_of xfer.2.behind2) line (xfer_plain line xfer.0 xfer.1 xfer.2) plain)
    others)
    is
