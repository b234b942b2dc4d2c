-- The bytes of made lines as they are appended.
use Rattle.std.proofs.Common.{◌≡◌, ℕ, zero, suc, ◌+◌, ◌-◌, ◌<◌, List, [], ◌∷◌, ◌++◌, length, take, get_or, codes, ap, sym, ◌∙◌, refl, arith, append_assoc}
use Rattle.std.proofs.lemmas.Grind.{flat_map-append}
use Rattle.std.proofs.lemmas.List.{take_more}
use Rattle.knit_maker.specs.Made.{Line, course, drawn_after, line_with_end, file_of, made_lines, opening, hook_picked, rows_after, transfer_line, width_of}
use Rattle.knit_maker.specs.declared.stitch.Stitch.TheVariants.{Knit, Tuck}

no_more : (t : List ℕ) → t ++ [] ≡ t
no_more [] = refl
no_more (b ∷ t) = ap (λ s. b ∷ s) (no_more t)

-- a line more
pub line_ended : (lines : List Line) (i : ℕ) (text next : List ℕ) (line : Line) → i < length lines → line ≡ get_or lines i [] → text ≡ file_of (take i lines)
    → next ≡ text ++ line_with_end line → next ≡ file_of (take (i + 1) lines)
line_ended lines i text next line within is so_far appended =
    appended
    ∙ ap (λ t. t ++ line_with_end line) so_far
    ∙ ap (λ t. file_of (take i lines) ++ t) (sym (no_more (line_with_end line)) ∙ ap (λ l. line_with_end l ++ []) is)
    ∙ sym (flat_map-append line_with_end (take i lines) (get_or lines i [] ∷ []))
    ∙ ap file_of (sym (take_more lines i [] within))

-- the bytes of a row more
pub row_appended : (width drawn next_drawn left : ℕ) (text round mid next whole : List ℕ) (line : Line) → 0 < left → next_drawn ≡ drawn_after drawn
    → round ≡ file_of (course Knit width) → mid ≡ text ++ round → line ≡ transfer_line (hook_picked width next_drawn) → next ≡ mid ++ line_with_end line
    → text ++ file_of (rows_after width drawn left) ≡ whole → next ++ file_of (rows_after width next_drawn (left - 1)) ≡ whole
row_appended width drawn next_drawn zero text round mid next whole line some is_drawn is_round appended is_line pushed all = absurd (omega arith)
row_appended width drawn next_drawn (suc left) text round mid next whole line some is_drawn is_round appended is_line pushed all =
    let after = file_of (rows_after width next_drawn left) in
    ap (λ n. next ++ file_of (rows_after width next_drawn n)) {x = suc left - 1} (omega arith)
    ∙ ap (λ t. t ++ after) (pushed ∙ ap (λ t. t ++ line_with_end line) (appended ∙ ap (λ t. text ++ t) is_round))
    ∙ append_assoc (text ++ file_of (course Knit width)) (line_with_end line) after
    ∙ append_assoc text (file_of (course Knit width)) (line_with_end line ++ after)
    ∙ ap (λ l. text ++ (file_of (course Knit width) ++ (line_with_end l ++ after))) is_line
    ∙ ap (λ n. text ++ (file_of (course Knit width) ++ (line_with_end (transfer_line (hook_picked width n)) ++ file_of (rows_after width n left)))) is_drawn
    ∙ ap (λ t. text ++ t) (sym (flat_map-append line_with_end (course Knit width) (transfer_line (hook_picked width (drawn_after drawn)) ∷ rows_after width (drawn_after drawn) left)))
    ∙ all

-- the bytes of the whole program
pub program_appended : (rows start : ℕ) (head lines : List Line) (text mid next : List ℕ) → head ≡ opening → lines ≡ head ++ course Tuck (width_of start) → text ≡ file_of lines
    → mid ≡ text ++ file_of (rows_after (width_of start) start rows) → next ≡ mid ++ codes "out 1\n" → next ≡ file_of (made_lines rows start)
program_appended rows start head lines text mid next is_head is_front is_text appended last =
    let round = course Tuck (width_of start) in
    let more = rows_after (width_of start) start rows in
    let end = codes "out 1" ∷ [] in
    last
    ∙ ap (λ t. t ++ codes "out 1\n") (appended ∙ ap (λ t. t ++ file_of more) (is_text ∙ ap file_of (is_front ∙ ap (λ ls. ls ++ round) is_head) ∙ flat_map-append line_with_end opening round))
    ∙ append_assoc (file_of opening ++ file_of round) (file_of more) (codes "out 1\n")
    ∙ append_assoc (file_of opening) (file_of round) (file_of more ++ codes "out 1\n")
    ∙ ap (λ t. file_of opening ++ (file_of round ++ t)) (sym (flat_map-append line_with_end more end))
    ∙ ap (λ t. file_of opening ++ t) (sym (flat_map-append line_with_end round (more ++ end)))
    ∙ sym (flat_map-append line_with_end opening (round ++ (more ++ end)))
