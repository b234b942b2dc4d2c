-- What a made program is as a file: each line is short and plain, and the head declares three carriers.
use Rattle.std.proofs.Common.{ℕ, zero, suc, ◌+◌, ◌/◌, ◌<◌, ◌≤◌, [], ◌∷◌, ◌++◌, map, All, codes, refl, sym, subst, arith}
use Rattle.std.specs.List.{range_with_len}
use Rattle.std.proofs.lemmas.Nat.{mod_below}
use Rattle.std.proofs.lemmas.List.Elements.{All-nil, All-cons, All-append, All-from_get_or}
use Rattle.std.proofs.lemmas.List.FromFn.{get_or-map-range_with_len, length-map-range_with_len}
use Rattle.knit_base.specs.declared.needle.Bed.TheVariants.{Front, Back}
use Rattle.knit_base.specs.declared.needle.Dir.TheVariants.{Right, Left}
use Rattle.knit_maker.specs.Plain.{IsPlain}
use Rattle.knit_maker.specs.Made.{Line, course, drawn_after, leftward, made_lines, opening, hook_picked, rightward, rows_after, stitch_line, transfer_line, width_of}
use Rattle.knit_maker.specs.declared.stitch.Stitch.{Stitch}
use Rattle.knit_maker.specs.declared.stitch.Stitch.TheVariants.{Knit, Tuck}
use Rattle.knit_maker.proofs.PlainLines.{plain-shorter, plain-text, stitch-plain, transfer-plain}

-- a line of a made program
abbrev IsMade : Line → Type 0
IsMade line = IsPlain 17 line

leftward-made : (stitch : Stitch) (width : ℕ) → width < 100 → All IsMade (leftward stitch width)
leftward-made stitch zero small = All-nil IsMade
leftward-made stitch (suc at) small =
    All-cons IsMade (stitch_line stitch Left Front (suc at)) (leftward stitch at) (plain-shorter 14 17 _ (omega arith) (stitch-plain stitch Left Front (suc at) small))
    (leftward-made stitch at (omega arith))

rightward-made : (stitch : Stitch) (width : ℕ) → width < 100 → All IsMade (rightward stitch width)
rightward-made stitch width small =
    let line : ℕ → Line = stitch_line stitch Right Back in
    All-from_get_or IsMade (map line (range_with_len 1 width)) [] (λ i below.
    let within : i < width = omega (arith, length-map-range_with_len line 1 width) in
    subst IsMade (sym (get_or-map-range_with_len line 1 width i (1 + i) [] within refl))
    (plain-shorter 14 17 (line (1 + i)) (omega arith) (stitch-plain stitch Right Back (1 + i) (omega arith))))

course-made : (stitch : Stitch) (width : ℕ) → width < 100 → All IsMade (course stitch width)
course-made stitch width small = All-append IsMade (leftward stitch width) (rightward stitch width) (leftward-made stitch width small) (rightward-made stitch width small)

picked-within : (width drawn : ℕ) → 0 < width → hook_picked width drawn ≤ width
picked-within width drawn some = omega (arith, mod_below (drawn / 65536) width some)

rows-made : (width drawn rows : ℕ) → 0 < width → width < 100 → All IsMade (rows_after width drawn rows)
rows-made width drawn zero some small = All-nil IsMade
rows-made width drawn (suc rows) some small =
    let at : ℕ = hook_picked width (drawn_after drawn) in
    All-append IsMade (course Knit width) (transfer_line at ∷ rows_after width (drawn_after drawn) rows) (course-made Knit width small)
    (All-cons IsMade (transfer_line at) (rows_after width (drawn_after drawn) rows)
    (plain-shorter 14 17 (transfer_line at) (omega arith) (transfer-plain at (omega (arith, picked-within width (drawn_after drawn) some))))
    (rows-made width (drawn_after drawn) rows some small))

opening-made : All IsMade opening
opening-made =
    All-cons IsMade (codes ";!knitout-2") (codes ";;Carriers: 1 2 3" ∷ codes "in 1" ∷ []) (plain-text 17 (codes ";!knitout-2") refl (omega arith))
    (All-cons IsMade (codes ";;Carriers: 1 2 3") (codes "in 1" ∷ []) (plain-text 17 (codes ";;Carriers: 1 2 3") refl (omega arith))
    (All-cons IsMade (codes "in 1") [] (plain-text 17 (codes "in 1") refl (omega arith)) (All-nil IsMade)))

-- each line of a made program has at most 17 bytes, all of them printed ASCII characters
pub made-plain : (rows start : ℕ) → All (IsPlain 17) (made_lines rows start)
made-plain rows start =
    let width : ℕ = width_of start in
    All-append IsMade opening (course Tuck width ++ (rows_after width start rows ++ codes "out 1" ∷ [])) opening-made
    (All-append IsMade (course Tuck width) (rows_after width start rows ++ codes "out 1" ∷ []) (course-made Tuck width (omega arith))
    (All-append IsMade (rows_after width start rows) (codes "out 1" ∷ []) (rows-made width start rows (omega arith) (omega arith))
    (All-cons IsMade (codes "out 1") [] (plain-text 17 (codes "out 1") refl (omega arith)) (All-nil IsMade))))
