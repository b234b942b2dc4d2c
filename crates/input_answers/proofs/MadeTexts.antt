-- The text of a made program: its lines are good, and its bytes have just these lines.
use Rattle.std.proofs.Common.{◌≡◌, ℕ, ◌+◌, ◌*◌, ◌≤◌, List, [], ◌∷◌, length, All, ap, ◌∙◌, refl, arith, append_assoc, length-append}
use Rattle.std.proofs.lemmas.List.Elements.{All-head, All-tail, All-weaker}
use Rattle.std.proofs.lemmas.Str.{is_utf8-from_IsUtf8}
use Rattle.knit_base.specs.Lines.{lines_of}
use Rattle.knit_base.proofs.FirstLine.{IsInLine, lines_of-line}
use Rattle.knit_maker.specs.Plain.{IsPlain, IsPrinted}
use Rattle.knit_maker.specs.Made.{line_with_end, file_of, made_lines}
use Rattle.knit_maker.proofs.MadeFiles.{made-plain}
use Rattle.knit_maker.proofs.PlainLines.{plain-utf8}
use Rattle.line_cutter.specs.Cut.{IsGoodLine}

in_line : (len : ℕ) (line : List ℕ) → IsPlain len line → All IsInLine line
in_line len line is = All-weaker IsPrinted IsInLine (λ byte printed. record { feed = λ e. omega (arith, printed.low); back = λ e. omega (arith, printed.low) }) line is.bytes

-- a text of plain lines has just these
pub lines_of-ended : (len : ℕ) (lines : List (List ℕ)) → All (IsPlain len) lines → lines_of (file_of lines) ≡ lines
lines_of-ended len [] are = refl
lines_of-ended len (line ∷ lines) are =
    ap lines_of (append_assoc line (10 ∷ []) (file_of lines))
    ∙ lines_of-line line (file_of lines) (in_line len line (All-head (IsPlain len) line lines are))
    ∙ ap (λ ls. line ∷ ls) (lines_of-ended len lines (All-tail (IsPlain len) line lines are))

-- the length of such a text
pub length-ended : (len : ℕ) (lines : List (List ℕ)) → All (IsPlain len) lines → length (file_of lines) ≤ (len + 1) * length lines
length-ended len [] are = omega arith
length-ended len (line ∷ lines) are =
    let first : IsPlain len line = All-head (IsPlain len) line lines are in
    let rest : length (file_of lines) ≤ (len + 1) * length lines = length-ended len lines (All-tail (IsPlain len) line lines are) in
    omega (arith, first.short, rest, length-append (line_with_end line) (file_of lines), length-append line (10 ∷ []))

good_line : (len : ℕ) (line : List ℕ) → len ≤ 4096 → IsPlain len line → IsGoodLine line
good_line len line small is = record { utf8 = is_utf8-from_IsUtf8 line (plain-utf8 len line is); short = omega (arith, small, is.short) }

-- the lines of a made program are good
pub made-good : (rows start : ℕ) → All IsGoodLine (made_lines rows start)
made-good rows start = All-weaker (IsPlain 17) IsGoodLine (λ line is. good_line 17 line (omega arith) is) (made_lines rows start) (made-plain rows start)
