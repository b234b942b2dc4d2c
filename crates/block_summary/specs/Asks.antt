-- What lines ask and change, told of the states in which they come.
use Rattle.std.specs.Prelude.{ℕ, List, [], ◌∷◌, Option, None, Some}
use Rattle.std.specs.Option.{option_map}
use Rattle.knit_base.specs.declared.instr.Instr.{Instr}
use Rattle.knit_base.specs.declared.instr.Instr.TheVariants.{Knit, Tuck, Split}
use Rattle.knit_base.specs.declared.instr.Read.{Read}
use Rattle.knit_base.specs.declared.instr.Read.TheVariants as read
use Rattle.knit_base.specs.declared.needle.Dir.{Dir}
use Rattle.knit_base.specs.declared.needle.Needle.{Needle}
use Rattle.knit_base.specs.declared.profile.Profile.{Profile}
use Rattle.knit_base.specs.declared.rule.Reason.{Reason}
use Rattle.knit_base.specs.declared.yarns.CarrierNo.{CarrierNo}
use Rattle.knit_base.specs.Reasons.{or_else}
use Rattle.carriage_model.specs.declared.verdict.LoopFact.{LoopFact}
use Rattle.carriage_model.specs.State.{State}
use Rattle.face_data.specs.declared.face.Seg.{Seg}
use Rattle.face_data.specs.Conditions.{first_unmet, unmet_rack, unmet_size_if_any, first_unmet_size}
use Rattle.face_data.specs.Lasts.{lasts_after}
use Rattle.face_data.specs.Segments.{Changed, segments_on, read_segs}
use Rattle.face_data.specs.Sizes.{size_ask, size_asks}
use Rattle.face_data.specs.Summaries.{rack_after_effect, ins_after, hook_after}
use Rattle.bed_rules.specs.Beds.{changes_of, segments_after, size_rules}
use Rattle.carrier_rules.specs.Carriers.{conds_of, early_in, effect_of, floats_in, lasts_of}
use Rattle.rack_align.specs.Moves.{rack_ask}
use Rattle.slider_rules.specs.Sliders.{slider_rule}
use Rattle.block_summary.specs.declared.formed.FormedLoop.{FormedLoop}
use Rattle.block_summary.specs.declared.instr_ask.InstrAsk.{InstrAsk}
use Rattle.block_summary.specs.declared.line_ask.LineAsk.{LineAsk}
use Rattle.block_summary.specs.declared.line_ask.LineAsk.TheVariants.{Nothing, Ends, Asks}

-- the loop of these carriers, drawn through what these segments stand for. Without carriers there is none
abbrev pub formed_of : Dir → Needle → List CarrierNo → List Seg → Option FormedLoop
formed_of dir n [] through = None
formed_of dir n (c ∷ cs) through = Some (record { needle = n; dir = dir; yarns = c ∷ cs; through = through })

-- The loop that the instruction forms where the needles hold these segments: `tuck` draws it through nothing, `knit` and `split`
-- through all that the needle holds.
abbrev pub formed_loop : Instr → List Changed → Option FormedLoop
formed_loop (Knit dir n cs) segments = formed_of dir n cs (segments_on segments n)
formed_loop (Tuck dir n cs) segments = formed_of dir n cs []
formed_loop (Split dir n n2 cs) segments = formed_of dir n cs (segments_on segments n)
formed_loop instr segments = None

-- all that the instruction asks and changes on a machine with these limits where the needles hold these segments
abbrev pub instr_ask : Profile → Instr → List Changed → InstrAsk
instr_ask profile instr segments = record {
  carriers = conds_of profile.float instr;
  rack = rack_ask instr;
  slider = option_map (size_ask segments) (slider_rule instr);
  sizes = size_asks segments (size_rules profile.hold instr);
  effect = effect_of instr;
  lasts = lasts_of profile.float instr;
  changed = changes_of instr segments;
  formed = formed_loop instr segments;
}

-- the same of a line
abbrev pub line_ask : Profile → Read → List Changed → LineAsk
line_ask profile (read.Instr instr) segments = Asks (instr_ask profile instr segments)
line_ask profile (read.Broken reason) segments = Ends reason
line_ask profile read.Blank segments = Nothing
line_ask profile read.Comment segments = Nothing

-- The reason of the first condition that isn't met, in the order of the rules: first those on carriers and the hook, then the
-- rack, both in state t in which the instruction comes, then the slider and then the sizes, both in state s at the block's entry, and
-- then the floats, in state t.
abbrev pub first_unmet_of : InstrAsk → State → State → Option Reason
first_unmet_of ask s t =
    or_else (first_unmet (early_in ask.carriers) t)
    (or_else (unmet_rack ask.rack t)
    (or_else (unmet_size_if_any ask.slider s)
    (or_else (first_unmet_size ask.sizes s) (first_unmet (floats_in ask.carriers) t))))

-- the needle of a loop
abbrev pub needle_of_formed : Option FormedLoop → Option Needle
needle_of_formed formed = option_map (λ (l : FormedLoop). l.needle) formed

-- The state t as the changes leave it, in a block that was entered in state s at line `first` and in which the needles held
-- these segments so far: rack, carriers and hook as the effect says, the last needles that are given, and on each needle what its
-- segments stand for, the loop of the line with this offset among them.
abbrev pub state_after : InstrAsk → List Changed → State → State → ℕ → ℕ → State
state_after ask segments s t first offset = record {
  rack = rack_after_effect ask.effect.rack t.rack;
  ins = ins_after ask.effect t.ins;
  hook = hook_after ask.effect t.hook;
  lasts = lasts_after ask.lasts t.lasts;
  stacks = λ n. read_segs s first (segments_after segments ask.changed (needle_of_formed ask.formed) offset n);
}

-- the loop that is formed by this line, in a block that was entered in state s at line `first`
abbrev pub fact_of_formed : Option FormedLoop → State → ℕ → ℕ → Option LoopFact
fact_of_formed None s first line = None
fact_of_formed (Some l) s first line = Some (record { line = line; needle = l.needle; dir = l.dir; yarns = l.yarns; through = read_segs s first l.through })

-- the reason for which a line's conditions aren't met
abbrev pub first_unmet_in_line : LineAsk → State → State → Option Reason
first_unmet_in_line Nothing s t = None
first_unmet_in_line (Ends reason) s t = Some reason
first_unmet_in_line (Asks ask) s t = first_unmet_of ask s t

-- the state t as a line's changes leave it
abbrev pub state_after_line : LineAsk → List Changed → State → State → ℕ → ℕ → State
state_after_line Nothing segments s t first offset = t
state_after_line (Ends reason) segments s t first offset = t
state_after_line (Asks ask) segments s t first offset = state_after ask segments s t first offset

-- the loop that a line forms
abbrev pub fact_of_line : LineAsk → State → ℕ → ℕ → Option LoopFact
fact_of_line (Asks ask) s first line = fact_of_formed ask.formed s first line
fact_of_line ask s first line = None
