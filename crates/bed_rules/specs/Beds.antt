-- What an instruction asks of the loops on needles, and what it makes of their segments.
use Rattle.std.specs.Prelude.{◌≡◌, ℕ, ◌-◌, List, [], ◌∷◌, ◌++◌, Option, None, Some, unwrap_or, if◌then◌else◌}
use Rattle.knit_base.specs.declared.instr.Instr.{Instr}
use Rattle.knit_base.specs.declared.instr.Instr.TheVariants.{Knit, Tuck, Split, Xfer, Drop}
use Rattle.knit_base.specs.declared.needle.Needle.{Needle}
use Rattle.knit_base.specs.declared.rule.Rule.TheVariants.{TooManyLoops}
use Rattle.knit_base.specs.declared.yarns.CarrierNo.{CarrierNo}
use Rattle.knit_base.specs.Needle.{same_needle}
use Rattle.carriage_model.specs.State.{State}
use Rattle.face_data.specs.declared.face.Seg.{Seg}
use Rattle.face_data.specs.declared.face.Seg.TheVariants.{New}
use Rattle.face_data.specs.Segments.{Changed, change_at, segments_on, read_segs}
use Rattle.face_data.specs.Sizes.{SizeRule}

-- the segments of needle n, with the loop that the line with this offset forms on another needle or on this one
abbrev pub segs_with_loop : Option Needle → ℕ → Needle → List Seg → List Seg
segs_with_loop None offset n segs = segs
segs_with_loop (Some m) offset n segs = if same_needle n m then segs ++ New offset ∷ [] else segs

-- what the needle holds after these changes, and after a loop is formed
abbrev pub segments_after : List Changed → List Changed → Option Needle → ℕ → Needle → List Seg
segments_after segments changed makes offset n = segs_with_loop makes offset n (unwrap_or (change_at changed n) (segments_on segments n))

-- the stacks are what the needles hold after the changes, in a block that was entered in state s at line `first`
abbrev pub AreReadAfter : List Changed → List Changed → Option Needle → State → ℕ → ℕ → (Needle → List ℕ) → Type 0
AreReadAfter segments changed makes s first offset stacks = (n : Needle) → stacks n ≡ read_segs s first (segments_after segments changed makes offset n)

-- all segments of the first needle go over behind those of the second
abbrev pub changes_with_move : List Changed → Needle → Needle → List Changed
changes_with_move segments n n2 = (n, []) ∷ (n2, segments_on segments n2 ++ segments_on segments n) ∷ []

-- the needles that change their segments, but for the loop that is formed
abbrev pub changes_of : Instr → List Changed → List Changed
changes_of (Knit dir n cs) segments = (n, []) ∷ []
changes_of (Split dir n n2 cs) segments = changes_with_move segments n n2
changes_of (Xfer n n2) segments = changes_with_move segments n n2
changes_of (Drop n) segments = (n, []) ∷ []
changes_of instr segments = []

-- these needles hold too many loops together; the token that is named
abbrev pub crowded_needles : ℕ → List Needle → ℕ → SizeRule
crowded_needles at needles most = record { reason = record { rule = TooManyLoops; at = at }; needles = needles; most = most }

-- a tuck with carriers puts one more loop on the needle
abbrev pub tuck_rules : ℕ → Needle → List CarrierNo → List SizeRule
tuck_rules hold n [] = []
tuck_rules hold n (c ∷ cs) = crowded_needles 2 (n ∷ []) (hold - 1) ∷ []

-- what the instruction asks of sizes, where a needle may hold so many loops: loops that go over come together on the second needle
abbrev pub size_rules : ℕ → Instr → List SizeRule
size_rules hold (Tuck dir n cs) = tuck_rules hold n cs
size_rules hold (Split dir n n2 cs) = crowded_needles 3 (n2 ∷ n ∷ []) hold ∷ []
size_rules hold (Xfer n n2) = crowded_needles 2 (n2 ∷ n ∷ []) hold ∷ []
size_rules hold instr = []
