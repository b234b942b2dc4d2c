-- The summary of one line, taken by itself.
use Rattle.std.specs.Prelude.{ℕ, List, [], ◌∷◌, ◌++◌, map, Option, None, Some}
use Rattle.std.specs.List.{Contains}
use Rattle.std.specs.Option.{option_map, option_to_list}
use Rattle.knit_base.specs.declared.instr.Instr.{Instr}
use Rattle.knit_base.specs.declared.instr.Instr.TheVariants.{Knit, Tuck, Split, Xfer, Drop}
use Rattle.knit_base.specs.declared.instr.Read.{Read}
use Rattle.knit_base.specs.declared.instr.Read.TheVariants as read
use Rattle.knit_base.specs.declared.needle.Needle.{Needle}
use Rattle.knit_base.specs.declared.profile.Profile.{Profile}
use Rattle.knit_base.specs.declared.rule.Reason.{Reason}
use Rattle.knit_base.specs.declared.yarns.CarrierNo.{CarrierNo}
use Rattle.face_data.specs.declared.face.Cond.{Cond}
use Rattle.face_data.specs.declared.face.Ending.{Ending}
use Rattle.face_data.specs.declared.face.Ending.TheVariants.{Through, Broken}
use Rattle.face_data.specs.declared.face.Seg.{Seg}
use Rattle.face_data.specs.declared.face.Seg.TheVariants.{Entry, New}
use Rattle.face_data.specs.Composition.{changes_merged}
use Rattle.face_data.specs.Conditions.{Ask, ask_of}
use Rattle.face_data.specs.Conditions.Ask.{rack_is, size_at_most}
use Rattle.face_data.specs.Drafts.{no_effect, drafted_summary}
use Rattle.face_data.specs.Items.{set_items}
use Rattle.knit_base.specs.Instr.{forming_needle, needles_of}
use Rattle.knit_base.specs.Needle.{own_slider}
use Rattle.knit_base.specs.declared.instr.Quarter.{Quarter}
use Rattle.face_data.specs.Lasts.{lasts_of_both}
use Rattle.face_data.specs.Segments.{Changed}
use Rattle.face_data.specs.Sets.{AreNeedlesWithin}
use Rattle.face_data.specs.Sizes.{SizeRule}
use Rattle.face_data.specs.Summaries.{AskedCondition, Summary}
use Rattle.bed_rules.specs.Beds.{size_rules}
use Rattle.carrier_rules.specs.Carriers.{early_of, effect_of, float_conditions, lasts_of}
use Rattle.rack_align.specs.Moves.{rack_ask}
use Rattle.slider_rules.specs.Sliders.{bare_slider}

-- a condition of the line
abbrev pub asked_for : Reason → Ask → AskedCondition
asked_for reason ask = record { fault = record { line = 0; reason = reason }; ask = ask }

-- a condition on carriers or the hook
abbrev pub plainly_asked : Reason × Cond → AskedCondition
plainly_asked c = asked_for c.0 (ask_of [] c.1)

-- a condition on the rack
abbrev pub asked_of_rack : Reason × Quarter → AskedCondition
asked_of_rack c = asked_for c.0 (rack_is c.1.0)

-- a condition on sizes
abbrev pub asked_of_sizes : SizeRule → AskedCondition
asked_of_sizes rule = asked_for rule.reason (size_at_most rule.needles rule.most)

-- loops go over to the needle that faces theirs
abbrev pub rack_asked : Instr → List AskedCondition
rack_asked instr = map asked_of_rack (option_to_list (rack_ask instr))

-- the own slider of a needle on which a loop is formed is empty
abbrev pub slider_asked : Option Needle → List AskedCondition
slider_asked on = map asked_of_sizes (option_to_list (option_map bare_slider on))

-- no needle comes to hold too many loops
abbrev pub sizes_asked : ℕ → Instr → List AskedCondition
sizes_asked hold instr = map asked_of_sizes (size_rules hold instr)

-- no float is too long
abbrev pub near_asked : Option ℕ → Instr → List AskedCondition
near_asked limit instr = map plainly_asked (float_conditions limit instr)

-- all conditions of the instruction, in the order of the rules
abbrev pub conditions_of_instr : Profile → Instr → List AskedCondition
conditions_of_instr profile instr =
    map plainly_asked (early_of instr)
    ++ (rack_asked instr ++ (slider_asked (forming_needle instr) ++ (sizes_asked profile.hold instr ++ near_asked profile.float instr)))

-- all loops of the first needle go over behind those of the second, and the first is left with these segments
abbrev pub gone_over : Needle → Needle → List Seg → List Changed
gone_over n n2 left = changes_merged ((n2, Entry n2 ∷ Entry n ∷ []) ∷ []) ((n, left) ∷ [])

-- the loop that the line forms of the carriers
abbrev pub new_loop : List CarrierNo → List Seg
new_loop [] = []
new_loop (c ∷ cs) = New 0 ∷ []

-- the needle gets one more loop, where there are carriers
abbrev pub tucked_loop : Needle → List CarrierNo → List Changed
tucked_loop n [] = []
tucked_loop n (c ∷ cs) = (n, Entry n ∷ New 0 ∷ []) ∷ []

-- the needles that the instruction changes, in their order
abbrev pub line_changes : Instr → List Changed
line_changes (Knit dir n cs) = (n, new_loop cs) ∷ []
line_changes (Tuck dir n cs) = tucked_loop n cs
line_changes (Split dir n n2 cs) = gone_over n n2 (new_loop cs)
line_changes (Xfer n n2) = gone_over n n2 []
line_changes (Drop n) = (n, []) ∷ []
line_changes instr = []

-- a line that asks and changes nothing, whichever way it ends
abbrev pub summary_asking_nothing : Ending → Summary
summary_asking_nothing ending = record { lines = 1; made = 0; checks = []; changes = []; lasts = []; ending = ending }

-- the summary of a line. It may ask for a thing twice, as where a carrier is named twice
abbrev pub line_summary : Profile → Read → Summary
line_summary profile read.Blank = summary_asking_nothing (Through no_effect)
line_summary profile read.Comment = summary_asking_nothing (Through no_effect)
line_summary profile (read.Broken reason) = summary_asking_nothing (Broken (record { line = 0; reason = reason }))
line_summary profile (read.Instr i) = record {
  lines = 1;
  made = set_items (forming_needle i);
  checks = conditions_of_instr profile i;
  changes = line_changes i;
  lasts = lasts_of_both [] (lasts_of profile.float i);
  ending = Through (effect_of i);
}

-- the summary of a block of lines: each line's, read through those before it and held against what they ask
abbrev pub block_summary_of : Profile → List Read → Summary
block_summary_of profile lines = drafted_summary (line_summary profile) lines

-- the own slider of a needle on which a loop is formed is known
abbrev pub SliderKnown : List Needle → Option Needle → Type 0
SliderKnown known None = Unit {0}
SliderKnown known (Some n) = Contains known (own_slider n)

-- the needles that the instruction names are known, and the own slider of one on which it forms a loop
pub record NeedlesKnown (known : List Needle) (instr : Instr) : Type 0 where
  pub needles : AreNeedlesWithin (needles_of instr) known
  pub slider : SliderKnown known (forming_needle instr)

-- the same of a line
abbrev pub NeedlesKnownInLine : List Needle → Read → Type 0
NeedlesKnownInLine known (read.Instr i) = NeedlesKnown known i
NeedlesKnownInLine known r = Unit {0}
