-- How numbers behind a label, needles, racks, directions and rules are spelt.
use Rattle.std.specs.Prelude.{ℕ, suc, ◌/◌, ◌%◌, ◌==◌, if◌then◌else◌, ℤ, pos, negsuc, List, [], ◌++◌, codes, decimal}
use Rattle.std.specs.Fmt.{signed_decimal}
use Rattle.knit_base.specs.declared.needle.Bed.{Bed}
use Rattle.knit_base.specs.declared.needle.Bed.TheVariants.{Front, FrontSlider, Back, BackSlider}
use Rattle.knit_base.specs.declared.needle.Dir.{Dir}
use Rattle.knit_base.specs.declared.needle.Dir.TheVariants.{Right, Left}
use Rattle.knit_base.specs.declared.needle.Needle.{Needle}
use Rattle.knit_base.specs.declared.rule.Rule.{Rule}
use Rattle.knit_base.specs.declared.rule.Rule.TheVariants.{Unreadable, OffBed, SliderForm, SameBed, TwoSliders, NoCarrier, CarrierTwice, RackStep, RackLimit, CarrierIsOut, CarrierIsIn, HookBusy, HookOther, CarrierHooked, NotAligned, SliderHolds, TooManyLoops, FloatTooLong}

-- a label and a number behind it
abbrev pub labelled_number : List ℕ → ℕ → List ℕ
labelled_number label number = label ++ decimal number

abbrev pub bed_word : Bed → List ℕ
bed_word Front = codes "f"
bed_word FrontSlider = codes "fs"
bed_word Back = codes "b"
bed_word BackSlider = codes "bs"

abbrev pub dir_word : Dir → List ℕ
dir_word Right = codes "+"
dir_word Left = codes "-"

-- a needle's one spelling: the bed, and the number with a `-` where it is negative
abbrev pub needle_text : Needle → List ℕ
needle_text n = bed_word n.bed ++ signed_decimal n.at

-- what follows the whole needles of a rack, where so many quarters are left
abbrev pub quarters_word : ℕ → List ℕ
quarters_word quarters =
    if quarters == 0 then []
    else (if quarters == 1 then codes ".25"
    else (if quarters == 2 then codes ".5" else codes ".75"))

-- so many quarters of a needle, in needles
abbrev pub quarters_text : ℕ → List ℕ
quarters_text quarters = decimal (quarters / 4) ++ quarters_word (quarters % 4)

-- the one spelling of a rack, which is given in quarters: in needles, with a `-` where it is negative
abbrev pub rack_text : ℤ → List ℕ
rack_text (pos quarters) = quarters_text quarters
rack_text (negsuc quarters) = codes "-" ++ quarters_text (suc quarters)

-- the name by which a report calls a rule
abbrev pub rule_name : Rule → List ℕ
rule_name Unreadable = codes "Unreadable"
rule_name OffBed = codes "OffBed"
rule_name SliderForm = codes "SliderForm"
rule_name SameBed = codes "SameBed"
rule_name TwoSliders = codes "TwoSliders"
rule_name NoCarrier = codes "NoCarrier"
rule_name CarrierTwice = codes "CarrierTwice"
rule_name RackStep = codes "RackStep"
rule_name RackLimit = codes "RackLimit"
rule_name CarrierIsOut = codes "CarrierIsOut"
rule_name CarrierIsIn = codes "CarrierIsIn"
rule_name HookBusy = codes "HookBusy"
rule_name HookOther = codes "HookOther"
rule_name CarrierHooked = codes "CarrierHooked"
rule_name NotAligned = codes "NotAligned"
rule_name SliderHolds = codes "SliderHolds"
rule_name TooManyLoops = codes "TooManyLoops"
rule_name FloatTooLong = codes "FloatTooLong"
