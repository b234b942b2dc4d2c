-- What a line says: a relation between its tokens and a reading.
--
-- From the knitout specification: a line has one of the shapes, loops go to the other bed, and carriers are declared. The other
-- rules are this project's own. Each is tried on the whole line before the next one, and of two needles the first is tried
-- first. The place of a token is its number in the line, where the word of the operation has place 0.
use Rattle.std.specs.Prelude.{◌≡◌, ◌⊎◌, ℕ, ◌+◌, ◌*◌, ℤ, pos, Bool, true, false, not, ◌||◌, ◌&&◌, nat_lt, int_lt, List, [], ◌∷◌, Option, None, Some, if◌then◌else◌}
use Rattle.knit_base.specs.declared.instr.Instr.{Instr}
use Rattle.knit_base.specs.declared.instr.Instr.TheVariants as instr
use Rattle.knit_base.specs.declared.instr.Quarter.{Quarter}
use Rattle.knit_base.specs.declared.instr.Read.{Read}
use Rattle.knit_base.specs.declared.instr.Read.TheVariants as read
use Rattle.knit_base.specs.declared.rule.Rule.{Rule}
use Rattle.knit_base.specs.declared.rule.Rule.TheVariants.{Unreadable, OffBed, SliderForm, SameBed, TwoSliders, RackStep, RackLimit}
use Rattle.knit_base.specs.declared.rule.Reason.{Reason}
use Rattle.knit_base.specs.declared.profile.Profile.{Profile}
use Rattle.knit_base.specs.declared.needle.Bed.{Bed}
use Rattle.knit_base.specs.declared.needle.Needle.{Needle}
use Rattle.knit_base.specs.Needle.{is_front, is_slider}
use Rattle.knit_base.specs.Reasons.{broken_if, or_else}
use Rattle.knitout_reader.specs.Carriers.{carrier_rule, carriers_of}
use Rattle.knitout_reader.specs.Numbers.{value_of_digits, rack_quarters}
use Rattle.knitout_reader.specs.Shapes.{Shape, TokensSpell, CarryInShape, CarryOutShape, HookInShape, HookOutShape, ReleaseHookShape, StitchShape, PauseShape, ExtensionShape, RackShape, KnitShape, TuckShape, MissShape, SplitShape, XferShape, DropShape, AmissShape}
use Rattle.knitout_reader.specs.Tokens.{tokens_of, before_comment, has_comment}

-- below the lowest needle or above the highest
abbrev pub is_off_bed : Profile → ℤ → Bool
is_off_bed profile at = int_lt at profile.low || int_lt profile.high at

-- the needle at this place has a number outside the bed
abbrev pub off_bed : Profile → ℕ → ℤ → Option Reason
off_bed profile place at = broken_if (is_off_bed profile at) OffBed place

-- a loop is formed on a slider: the needle at place 2. Without carriers no loop is formed
abbrev pub slider_form : Bed → List (List ℕ) → Option Reason
slider_form bed [] = None
slider_form bed (carrier ∷ carriers) = broken_if (is_slider bed) SliderForm 2

-- both on the front, or both on the back
abbrev pub are_one_side : Bed → Bed → Bool
are_one_side bed bed2 = if is_front bed then is_front bed2 else not (is_front bed2)

-- both are sliders
abbrev pub are_sliders : Bed → Bed → Bool
are_sliders bed bed2 = is_slider bed && is_slider bed2

-- loops are moved to a needle at this place on the same side, or else from a slider to a slider
abbrev pub not_opposite : Bed → Bed → ℕ → Option Reason
not_opposite bed bed2 place = or_else (broken_if (are_one_side bed bed2) SameBed place) (broken_if (are_sliders bed bed2) TwoSliders place)

-- the rack is no multiple of a quarter, or it is beyond the limit, on either side
abbrev pub rack_rule : Profile → List ℕ → Option ℕ → Option Reason
rack_rule profile whole None = Some (record { rule = RackStep; at = 1 })
rack_rule profile whole (Some q) = broken_if (nat_lt (4 * profile.rack) (4 * value_of_digits whole + q)) RackLimit 1

-- a needle, direction and carriers are at places 2, 1 and from 3 on, and a loop is formed
abbrev pub loop_rule : Profile → List (List ℕ) → Bed → ℤ → List (List ℕ) → Option Reason
loop_rule profile names bed at carriers = or_else (off_bed profile 2 at) (or_else (slider_form bed carriers) (carrier_rule names 3 carriers))

-- The first rule that the shape breaks without a state: the needles are on the bed, no loop is formed on a slider, loops are
-- moved to the other side and not from slider to slider, the carriers are declared and none is named twice, and the rack is in
-- quarters and within the limit.
abbrev pub static_rule : Profile → List (List ℕ) → Shape → Option Reason
static_rule profile names (CarryInShape carriers) = carrier_rule names 1 carriers
static_rule profile names (CarryOutShape carriers) = carrier_rule names 1 carriers
static_rule profile names (HookInShape carriers) = carrier_rule names 1 carriers
static_rule profile names (HookOutShape carriers) = carrier_rule names 1 carriers
static_rule profile names (ReleaseHookShape carriers) = carrier_rule names 1 carriers
static_rule profile names (StitchShape free) = None
static_rule profile names (PauseShape free) = None
static_rule profile names (ExtensionShape name free) = None
static_rule profile names (RackShape negative whole quarters) = rack_rule profile whole quarters
static_rule profile names (KnitShape dir bed at carriers) = loop_rule profile names bed at carriers
static_rule profile names (TuckShape dir bed at carriers) = loop_rule profile names bed at carriers
static_rule profile names (MissShape dir bed at carriers) = or_else (off_bed profile 2 at) (carrier_rule names 3 carriers)
static_rule profile names (SplitShape dir bed at bed2 at2 carriers) =
    or_else (off_bed profile 2 at) (or_else (off_bed profile 3 at2) (or_else (slider_form bed carriers) (or_else (not_opposite bed bed2 3) (carrier_rule names 4 carriers))))
static_rule profile names (XferShape bed at bed2 at2) = or_else (off_bed profile 1 at) (or_else (off_bed profile 2 at2) (not_opposite bed bed2 2))
static_rule profile names (DropShape bed at) = off_bed profile 1 at
static_rule profile names (AmissShape bed at) = off_bed profile 1 at

-- the needle of this bed with this number
abbrev pub needle_on : Bed → ℤ → Needle
needle_on bed at = record { bed = bed; at = at }

-- the rack of this sign, so many whole needles and so many quarters. Without a number of quarters there is none, and rack 0
-- stands in its place
abbrev pub quarters_of : Bool → List ℕ → Option ℕ → Quarter
quarters_of negative whole None = record { 0 = pos 0 }
quarters_of negative whole (Some q) = record { 0 = rack_quarters negative whole q }

-- the instruction of a shape that breaks none of these rules
abbrev pub instr_of : List (List ℕ) → Shape → Instr
instr_of names (CarryInShape carriers) = instr.CarryIn (carriers_of names carriers)
instr_of names (CarryOutShape carriers) = instr.CarryOut (carriers_of names carriers)
instr_of names (HookInShape carriers) = instr.HookIn (carriers_of names carriers)
instr_of names (HookOutShape carriers) = instr.HookOut (carriers_of names carriers)
instr_of names (ReleaseHookShape carriers) = instr.ReleaseHook (carriers_of names carriers)
instr_of names (StitchShape free) = instr.Stitch
instr_of names (PauseShape free) = instr.Pause
instr_of names (ExtensionShape name free) = instr.Extension
instr_of names (RackShape negative whole quarters) = instr.Rack (quarters_of negative whole quarters)
instr_of names (KnitShape dir bed at carriers) = instr.Knit dir (needle_on bed at) (carriers_of names carriers)
instr_of names (TuckShape dir bed at carriers) = instr.Tuck dir (needle_on bed at) (carriers_of names carriers)
instr_of names (MissShape dir bed at carriers) = instr.Miss dir (needle_on bed at) (carriers_of names carriers)
instr_of names (SplitShape dir bed at bed2 at2 carriers) = instr.Split dir (needle_on bed at) (needle_on bed2 at2) (carriers_of names carriers)
instr_of names (XferShape bed at bed2 at2) = instr.Xfer (needle_on bed at) (needle_on bed2 at2)
instr_of names (DropShape bed at) = instr.Drop (needle_on bed at)
instr_of names (AmissShape bed at) = instr.Amiss (needle_on bed at)

-- broken, where there is a reason, or else this instruction
abbrev pub reading_or : Option Reason → Instr → Read
reading_or None i = read.Instr i
reading_or (Some reason) i = read.Broken reason

-- the reading of a line that has this shape
abbrev pub reading_of : Profile → List (List ℕ) → Shape → Read
reading_of profile names shape = reading_or (static_rule profile names shape) (instr_of names shape)

-- the line breaks this rule at this token
abbrev pub broken_at : Rule → ℕ → Read
broken_at rule at = read.Broken (record { rule = rule; at = at })

-- the reading of a line that has no shape
abbrev pub unreadable : Read
unreadable = broken_at Unreadable 0

-- the tokens have a shape, and this is its reading, or they have none
abbrev pub TokensReadAs : Profile → List (List ℕ) → List (List ℕ) → Read → Type 0
TokensReadAs profile names tokens r =
    ((shape : Shape) × TokensSpell tokens shape × (r ≡ reading_of profile names shape))
    ⊎ (((shape : Shape) → TokensSpell tokens shape → ⊥) × (r ≡ unreadable))

-- a line without tokens is a comment where it has one, and else it is blank
abbrev pub CodeReadsAs : Profile → List (List ℕ) → List (List ℕ) → Bool → Read → Type 0
CodeReadsAs profile names [] false r = r ≡ read.Blank
CodeReadsAs profile names [] true r = r ≡ read.Comment
CodeReadsAs profile names (token ∷ tokens) comment r = TokensReadAs profile names (token ∷ tokens) r

-- the line reads so: its tokens are those of what stands before its comment
abbrev pub ReadsAs : Profile → List (List ℕ) → List ℕ → Read → Type 0
ReadsAs profile names line r = CodeReadsAs profile names (tokens_of (before_comment line)) (has_comment line) r
