-- The bytes of made lines.
use Rattle.std.proofs.Common.{◌≡◌, ◌≢◌, ℕ, ◌+◌, ◌%◌, ◌<◌, ◌≤◌, Bool, true, false, ◌&&◌, nat_lt, List, [], ◌∷◌, ◌++◌, length, All, codes, refl, arith, length-append}
use Rattle.std.specs.Fmt.{decimal}
use Rattle.std.proofs.lemmas.Fmt.{decimal_by_steps, length-decimal-le}
use Rattle.std.proofs.lemmas.List.Elements.{All-nil, All-cons, All-push, All-append, All-weaker}
use Rattle.std.specs.Str.{IsUtf8}
use Rattle.std.specs.List.{list_all}
use Rattle.std.proofs.lemmas.Bool.{false≢true, ltb-true}
use Rattle.std.proofs.lemmas.Str.{IsUtf8-from_ascii}
use Rattle.std.proofs.lemmas.Str.Ascii.{IsAscii-from_all}
use Rattle.knit_base.specs.Lines.{HasNoLineEnd}
use Rattle.knit_base.specs.Spelling.{bed_word, dir_word, needle_text}
use Rattle.knit_base.specs.declared.needle.Bed.{Bed}
use Rattle.knit_base.specs.declared.needle.Bed.TheVariants.{Front, FrontSlider, Back, BackSlider}
use Rattle.knit_base.specs.declared.needle.Dir.{Dir}
use Rattle.knit_base.specs.declared.needle.Dir.TheVariants.{Right, Left}
use Rattle.knit_maker.specs.Plain.{IsPlain, IsPrinted}
use Rattle.knit_maker.specs.Made.{hook, stitch_line, stitch_word, transfer_line}
use Rattle.knit_maker.specs.declared.stitch.Stitch.{Stitch}
use Rattle.knit_maker.specs.declared.stitch.Stitch.TheVariants.{Knit, Tuck}

-- two plain texts, one behind the other
plain-append : (m n : ℕ) (a b : List ℕ) → IsPlain m a → IsPlain n b → IsPlain (m + n) (a ++ b)
plain-append m n a b first second = record {
  bytes = All-append IsPrinted a b first.bytes second.bytes;
  short = omega (arith, first.short, second.short, length-append a b);
}

-- the byte is so
abbrev pub is_printed : ℕ → Bool
is_printed byte = nat_lt 31 byte && nat_lt byte 128

both : (a b : Bool) → (a && b) ≡ true → (a ≡ true) × (b ≡ true)
both true b e = (refl, e)
both false b e = absurd (false≢true e)

printed : (text : List ℕ) → list_all is_printed text ≡ true → All IsPrinted text
printed [] are = All-nil IsPrinted
printed (byte ∷ bytes) are =
    let parts = both (is_printed byte) (list_all is_printed bytes) are in
    let ends = both (nat_lt 31 byte) (nat_lt byte 128) parts.0 in
    All-cons IsPrinted byte bytes (record { low = ltb-true 31 byte ends.0; high = ltb-true byte 128 ends.1 }) (printed bytes parts.1)

-- a text of which each byte passes
pub plain-text : (len : ℕ) (text : List ℕ) → list_all is_printed text ≡ true → length text ≤ len → IsPlain len text
plain-text len text are short = record { bytes = printed text are; short = short }

-- a shorter text
pub plain-shorter : (m n : ℕ) (text : List ℕ) → m ≤ n → IsPlain m text → IsPlain n text
plain-shorter m n text less is = record { bytes = is.bytes; short = omega (arith, is.short) }

word_plain : (stitch : Stitch) → IsPlain 4 (stitch_word stitch)
word_plain Knit = plain-text _ (codes "knit") refl (omega arith)
word_plain Tuck = plain-text _ (codes "tuck") refl (omega arith)

dir_plain : (dir : Dir) → IsPlain 1 (dir_word dir)
dir_plain Right = plain-text _ (codes "+") refl (omega arith)
dir_plain Left = plain-text _ (codes "-") refl (omega arith)

bed_plain : (bed : Bed) → IsPlain 2 (bed_word bed)
bed_plain Front = plain-text _ (codes "f") refl (omega arith)
bed_plain FrontSlider = plain-text _ (codes "fs") refl (omega arith)
bed_plain Back = plain-text _ (codes "b") refl (omega arith)
bed_plain BackSlider = plain-text _ (codes "bs") refl (omega arith)

digits_plain : (n : ℕ) → n < 100 → IsPlain 2 (decimal n)
digits_plain n small = record {
  bytes = decimal_by_steps (λ n ds. All IsPrinted ds)
      (λ n low. All-cons IsPrinted (48 + n) [] (record { low = omega arith; high = omega arith }) (All-nil IsPrinted))
      (λ n ds high front. All-push IsPrinted ds (48 + n % 10) front (record { low = omega arith; high = omega arith }))
      n (omega arith);
  short = length-decimal-le 2 n (omega arith) (omega arith) (omega arith);
}

needle_plain : (bed : Bed) (at : ℕ) → at < 100 → IsPlain 4 (needle_text (hook bed at))
needle_plain bed at small = plain-append 2 2 (bed_word bed) (decimal at) (bed_plain bed) (digits_plain at small)

space_plain : IsPlain 1 (codes " ")
space_plain = plain-text _ (codes " ") refl (omega arith)

-- the line of a stitch
pub stitch-plain : (stitch : Stitch) (dir : Dir) (bed : Bed) (at : ℕ) → at < 100 → IsPlain 14 (stitch_line stitch dir bed at)
stitch-plain stitch dir bed at small =
    plain-append 4 10 (stitch_word stitch) (codes " " ++ (dir_word dir ++ (codes " " ++ (needle_text (hook bed at) ++ codes " 1")))) (word_plain stitch)
    (plain-append 1 9 (codes " ") (dir_word dir ++ (codes " " ++ (needle_text (hook bed at) ++ codes " 1"))) space_plain
    (plain-append 1 8 (dir_word dir) (codes " " ++ (needle_text (hook bed at) ++ codes " 1")) (dir_plain dir)
    (plain-append 1 7 (codes " ") (needle_text (hook bed at) ++ codes " 1") space_plain
    (plain-append 4 3 (needle_text (hook bed at)) (codes " 1") (needle_plain bed at small) (plain-text _ (codes " 1") refl (omega arith))))))

-- the line of a transfer
pub transfer-plain : (at : ℕ) → at < 100 → IsPlain 14 (transfer_line at)
transfer-plain at small =
    plain-append 5 9 (codes "xfer ") (needle_text (hook Front at) ++ (codes " " ++ needle_text (hook Back at))) (plain-text _ (codes "xfer ") refl (omega arith))
    (plain-append 4 5 (needle_text (hook Front at)) (codes " " ++ needle_text (hook Back at)) (needle_plain Front at small)
    (plain-append 1 4 (codes " ") (needle_text (hook Back at)) space_plain (needle_plain Back at small)))

-- a plain text is UTF-8
pub plain-utf8 : (len : ℕ) (text : List ℕ) → IsPlain len text → IsUtf8 text
plain-utf8 len text is = IsUtf8-from_ascii text (IsAscii-from_all text (All-weaker IsPrinted (λ byte. byte < 128) (λ byte is. is.high) text is.bytes))

-- a plain text has no line feed
pub plain-one : (len : ℕ) (text : List ℕ) → IsPlain len text → HasNoLineEnd text
plain-one len text is = All-weaker IsPrinted (λ byte. byte ≢ 10) (λ byte is e. omega (arith, is.low)) text is.bytes
