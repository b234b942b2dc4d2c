-- The tally of some blocks, as JSON.
use Rattle.std.specs.Prelude.{ℕ, Some, List, [], ◌∷◌, codes, slice_index}
use Rattle.json.specs.Print.{quoted}
use Rattle.serde_json.specs.Data.{Data, Members, array, member, no_members, object, string}
use Rattle.serde_json.specs.View.{items_of}
use Rattle.knit_base.specs.Spelling.{needle_text}
use Rattle.knit_base.specs.declared.needle.Needle.{Needle}
use Rattle.pass_grouping.specs.declared.operation.Class.{Class}
use Rattle.pass_grouping.specs.declared.operation.Class.TheVariants as class
use Rattle.tally_tree.specs.Tallies.{TallyCounts, class_place}
use Rattle.verdict_report.specs.VerdictJson.{list_value}
use Rattle.verdict_report.specs.VerdictText.{Text}
use Rattle.reply_report.specs.declared.frame.Frame.{Frame}
use Rattle.reply_report.specs.TalkJson.{count_member, frame_members}

-- how many operations of this class there are
abbrev pub class_count : TallyCounts → Class → ℕ
class_count v kind = slice_index v.ops (class_place kind)

-- the carrier of this name, and how many lines form loops with it
abbrev pub carrier_value : Text → ℕ → Data
carrier_value name n = object (member (codes "carrier") (string name) (count_member (codes "lines") n no_members))

-- the same of each carrier
abbrev pub carrier_values : List Text → List ℕ → List Data
carrier_values [] numbers = []
carrier_values (name ∷ names) [] = []
carrier_values (name ∷ names) (n ∷ numbers) = carrier_value name n ∷ carrier_values names numbers

-- a needle
abbrev pub needle_value : Needle → Data
needle_value n = string (needle_text n)

-- a needle as JSON has it, for private clauses
abbrev pub needle_string : Needle → Text
needle_string n = quoted (needle_text n)

-- what the blocks from one place to another come to, for carriers of these names
abbrev pub tally_members : Frame → ℕ → ℕ → List Text → TallyCounts → Members
tally_members f from to names v =
    count_member (codes "drop") (class_count v class.Drop)
    (count_member (codes "form") (class_count v class.Form)
    (count_member (codes "from") from
    (count_member (codes "lines") v.lines
    (count_member (codes "move") (class_count v class.Move)
    (member (codes "needles") (list_value needle_value v.needles)
    (frame_members (Some f) (codes "tally")
    (count_member (codes "split") (class_count v class.Split)
    (count_member (codes "to") to
    (member (codes "with") (array (items_of (carrier_values names v.with_each))) no_members)))))))))
