-- The lines of a made program: a tube that is cast on and knitted round and round, and in each round one transfer to the back bed.
use Rattle.std.specs.Prelude.{ℕ, zero, suc, ◌+◌, ◌*◌, ◌/◌, ◌%◌, pos, List, [], ◌∷◌, ◌++◌, flat_map, map, codes}
use Rattle.std.specs.List.{range_with_len}
use Rattle.knit_base.specs.Spelling.{dir_word, needle_text}
use Rattle.knit_base.specs.declared.needle.Bed.{Bed}
use Rattle.knit_base.specs.declared.needle.Bed.TheVariants.{Front, Back}
use Rattle.knit_base.specs.declared.needle.Dir.{Dir}
use Rattle.knit_base.specs.declared.needle.Dir.TheVariants.{Right, Left}
use Rattle.knit_base.specs.declared.needle.Needle.{Needle}
use Rattle.knit_maker.specs.declared.stitch.Stitch.{Stitch}
use Rattle.knit_maker.specs.declared.stitch.Stitch.TheVariants.{Knit, Tuck}

-- a line, as its bytes
abbrev pub Line : Type 0
Line = List ℕ

-- the word of a stitch
abbrev pub stitch_word : Stitch → Line
stitch_word Knit = codes "knit"
stitch_word Tuck = codes "tuck"

-- the hook with this number on the bed
abbrev pub hook : Bed → ℕ → Needle
hook bed at = record { bed = bed; at = pos at }

-- the line that forms a loop of the one carrier on a hook
abbrev pub stitch_line : Stitch → Dir → Bed → ℕ → Line
stitch_line stitch dir bed at = stitch_word stitch ++ (codes " " ++ (dir_word dir ++ (codes " " ++ (needle_text (hook bed at) ++ codes " 1"))))

-- the stitches on the front bed from the hook with this number down to hook 1, leftward
abbrev pub leftward : Stitch → ℕ → List Line
leftward stitch zero = []
leftward stitch (suc at) = stitch_line stitch Left Front (suc at) ∷ leftward stitch at

-- the stitches on the back bed from hook 1 up to the hook with this number, rightward
abbrev pub rightward : Stitch → ℕ → List Line
rightward stitch width = map (stitch_line stitch Right Back) (range_with_len 1 width)

-- once round a tube that is so many hooks wide
abbrev pub course : Stitch → ℕ → List Line
course stitch width = leftward stitch width ++ rightward stitch width

-- the line that moves the loops of a hook of the front bed to the hook that faces it
abbrev pub transfer_line : ℕ → Line
transfer_line at = codes "xfer " ++ (needle_text (hook Front at) ++ (codes " " ++ needle_text (hook Back at)))

-- how many hooks wide the tube is
abbrev pub width_of : ℕ → ℕ
width_of start = 4 + start % 13

-- the number that is drawn after this one
abbrev pub drawn_after : ℕ → ℕ
drawn_after drawn = (drawn * 1103515245 + 12345) % 2147483648

-- the hook that a number picks, of so many
abbrev pub hook_picked : ℕ → ℕ → ℕ
hook_picked width drawn = 1 + (drawn / 65536) % width

-- so many rows, each a course and a transfer, where this number was the last drawn before them
abbrev pub rows_after : ℕ → ℕ → ℕ → List Line
rows_after width drawn zero = []
rows_after width drawn (suc rows) = course Knit width ++ transfer_line (hook_picked width (drawn_after drawn)) ∷ rows_after width (drawn_after drawn) rows

-- what stands before the cast-on: the head, and the carrier comes in
abbrev pub opening : List Line
opening = codes ";!knitout-2" ∷ codes ";;Carriers: 1 2 3" ∷ codes "in 1" ∷ []

-- the whole program with so many rows, whose width and transfers follow from the number at the start
abbrev pub made_lines : ℕ → ℕ → List Line
made_lines rows start = opening ++ (course Tuck (width_of start) ++ (rows_after (width_of start) start rows ++ codes "out 1" ∷ []))

-- a line and its line feed
abbrev pub line_with_end : Line → Line
line_with_end line = line ++ 10 ∷ []

-- the bytes of a file with these lines
abbrev pub file_of : List Line → List ℕ
file_of lines = flat_map line_with_end lines
