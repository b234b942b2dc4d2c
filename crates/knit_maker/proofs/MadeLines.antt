-- Made lines as they are appended.
use Rattle.std.proofs.Common.{◌≡◌, ℕ, zero, suc, ◌+◌, ◌*◌, ◌-◌, ◌<◌, ◌≤◌, List, [], ◌∷◌, ◌++◌, length, take, get_or, map, ap, sym, ◌∙◌, codes, refl, arith, append_assoc, length-append}
use Rattle.std.specs.List.{range_with_len}
use Rattle.std.proofs.lemmas.List.{take_more}
use Rattle.std.proofs.lemmas.Nat.{mod_below}
use Rattle.std.proofs.lemmas.List.FromFn.{get_or-map-range_with_len, length-map-range_with_len, map-range_with_len_more}
use Rattle.knit_base.specs.declared.needle.Bed.TheVariants.{Front, Back}
use Rattle.knit_base.specs.declared.needle.Dir.TheVariants.{Right, Left}
use Rattle.knit_maker.specs.Made.{Line, course, drawn_after, leftward, made_lines, hook_picked, rightward, rows_after, stitch_line, transfer_line, width_of}
use Rattle.knit_maker.specs.declared.stitch.Stitch.{Stitch}
use Rattle.knit_maker.specs.declared.stitch.Stitch.TheVariants.{Knit, Tuck}

-- one line more, and those that follow it
pushed_before : (lines next rest whole : List Line) (line : Line) → next ≡ lines ++ line ∷ [] → lines ++ line ∷ rest ≡ whole → next ++ rest ≡ whole
pushed_before lines next rest whole line pushed all = ap (λ ls. ls ++ rest) pushed ∙ append_assoc lines (line ∷ []) rest ∙ all

-- three lines, one after the other
pub three-pushed : (lines one two three : List Line) (a b c : Line) → one ≡ lines ++ a ∷ [] → two ≡ one ++ b ∷ [] → three ≡ two ++ c ∷ []
    → three ≡ lines ++ a ∷ b ∷ c ∷ []
three-pushed lines one two three a b c first second third =
    third ∙ pushed_before one two (c ∷ []) (lines ++ a ∷ b ∷ c ∷ []) b second (pushed_before lines one (b ∷ c ∷ []) (lines ++ a ∷ b ∷ c ∷ []) a first refl)

-- the next stitch on the way left
pub leftward-next : (stitch : Stitch) (at : ℕ) (lines next whole : List Line) → 0 < at → next ≡ lines ++ stitch_line stitch Left Front at ∷ []
    → lines ++ leftward stitch at ≡ whole → next ++ leftward stitch (at - 1) ≡ whole
leftward-next stitch zero lines next whole some pushed all = absurd (omega arith)
leftward-next stitch (suc at) lines next whole some pushed all =
    ap (λ n. next ++ leftward stitch n) {x = suc at - 1} (omega arith) ∙ pushed_before lines next (leftward stitch at) whole (stitch_line stitch Left Front (suc at)) pushed all

-- the next line of those that the numbers from 1 on give
pub mapped-next : (f : ℕ → Line) (i : ℕ) (start lines next : List Line) → lines ≡ start ++ map f (range_with_len 1 i) → next ≡ lines ++ f (i + 1) ∷ []
    → next ≡ start ++ map f (range_with_len 1 (i + 1))
mapped-next f i start lines next so_far pushed =
    pushed
    ∙ ap (λ ls. ls ++ f (i + 1) ∷ []) so_far
    ∙ append_assoc start (map f (range_with_len 1 i)) (f (i + 1) ∷ [])
    ∙ ap (λ ls. start ++ ls) (sym (map-range_with_len_more f 1 i (i + 1) (omega arith)))

-- the next line of a list that is appended
pub appended-next : (more : List Line) (i : ℕ) (start lines next : List Line) (line : Line) → i < length more → line ≡ get_or more i [] → lines ≡ start ++ take i more
    → next ≡ lines ++ line ∷ [] → next ≡ start ++ take (i + 1) more
appended-next more i start lines next line within is so_far pushed =
    pushed
    ∙ ap (λ ls. ls ++ line ∷ []) so_far
    ∙ append_assoc start (take i more) (line ∷ [])
    ∙ ap (λ ls. start ++ ls) (ap (λ l. take i more ++ l ∷ []) is ∙ sym (take_more more i [] within))

-- the transfer of a hook among those of all hooks
pub transfer-at : (width at : ℕ) → 1 ≤ at → at ≤ width → get_or (map transfer_line (range_with_len 1 width)) (at - 1) [] ≡ transfer_line at
transfer-at width at some within = get_or-map-range_with_len transfer_line 1 width (at - 1) at [] (omega arith) (omega arith)

-- how many stitches lead leftward
pub length-leftward : (stitch : Stitch) (width : ℕ) → length (leftward stitch width) ≡ width
length-leftward stitch zero = refl
length-leftward stitch (suc width) = ap suc (length-leftward stitch width)

-- how many lines a course has
pub length-course : (stitch : Stitch) (width : ℕ) → length (course stitch width) ≡ width + width
length-course stitch width =
    omega (arith, length-append (leftward stitch width) (rightward stitch width), length-leftward stitch width, length-map-range_with_len (stitch_line stitch Right Back) 1 width)

-- how many lines rows have at most
length-rows : (width drawn rows : ℕ) → width ≤ 16 → length (rows_after width drawn rows) ≤ 33 * rows
length-rows width drawn zero few = omega arith
length-rows width drawn (suc rows) few =
    let next : ℕ = drawn_after drawn in
    let rest : length (rows_after width next rows) ≤ 33 * rows = length-rows width next rows few in
    omega (arith, few, rest, length-append (course Knit width) (transfer_line (hook_picked width next) ∷ rows_after width next rows), length-course Knit width)

-- and the whole program
pub length-made : (rows start : ℕ) → length (made_lines rows start) ≤ 36 + 33 * rows
length-made rows start =
    let width : ℕ = width_of start in
    let end : List Line = codes "out 1" ∷ [] in
    omega (
      arith,
      mod_below start 13 (omega arith),
      length-append (course Tuck width) (rows_after width start rows ++ end),
      length-append (rows_after width start rows) end,
      length-course Tuck width,
      length-rows width start rows (omega (arith, mod_below start 13 (omega arith))),
    )

-- the next row
pub rows-next : (width drawn next_drawn left : ℕ) (lines round mid next whole : List Line) (line : Line) → 0 < left → next_drawn ≡ drawn_after drawn
    → round ≡ course Knit width → mid ≡ lines ++ round → line ≡ transfer_line (hook_picked width next_drawn) → next ≡ mid ++ line ∷ []
    → lines ++ rows_after width drawn left ≡ whole → next ++ rows_after width next_drawn (left - 1) ≡ whole
rows-next width drawn next_drawn zero lines round mid next whole line some is_drawn is_round appended is_line pushed all = absurd (omega arith)
rows-next width drawn next_drawn (suc left) lines round mid next whole line some is_drawn is_round appended is_line pushed all =
    ap (λ n. next ++ rows_after width next_drawn n) {x = suc left - 1} (omega arith)
    ∙ pushed_before mid next (rows_after width next_drawn left) whole line pushed
    (ap (λ ls. ls ++ line ∷ rows_after width next_drawn left) (appended ∙ ap (λ ls. lines ++ ls) is_round)
    ∙ append_assoc lines (course Knit width) (line ∷ rows_after width next_drawn left)
    ∙ ap (λ l. lines ++ (course Knit width ++ l ∷ rows_after width next_drawn left)) is_line
    ∙ ap (λ n. lines ++ (course Knit width ++ transfer_line (hook_picked width n) ∷ rows_after width n left)) is_drawn
    ∙ all)
