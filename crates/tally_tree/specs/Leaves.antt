-- The tallies at the leaves of a tree, and those at its inner nodes.
use Rattle.std.specs.Prelude.{ℕ, ◌+◌, ◌≤◌, pos, ◌-ℤ◌, ◌≤ℤ◌, min, List, Option, None, Some, length, flat_map, option_map, All}
use Rattle.std.specs.List.{AllZip, Contains, slice_get}
use Rattle.knit_base.specs.declared.instr.Read.{Read}
use Rattle.knit_base.specs.declared.needle.Needle.{Needle}
use Rattle.edit_book.specs.Replies.{line_limit}
use Rattle.tally_tree.specs.declared.tally.Tally.{Tally}
use Rattle.tally_tree.specs.Needles.{AreNeedlesRising}
use Rattle.tally_tree.specs.Tallies.{TallyCounts, CountsFit, IsTallyOf, counts_of_tally}

-- no more needles than this can differ: on each of four beds 4,096 to either side, and the one between them
abbrev pub needle_limit : ℕ
needle_limit = 32772

-- the needle is one of some machine
pub record IsOnSomeBed (n : Needle) : Type 0 where
  pub above : (pos 0 -ℤ pos 4096) ≤ℤ n.at
  pub below : n.at ≤ℤ pos 4096

-- so is each of the tally's needles
abbrev pub IsOnBeds : TallyCounts → Type 0
IsOnBeds v = (n : Needle) → Contains v.needles n → IsOnSomeBed n

-- each tally is what the readings at its place come to
abbrev pub AreTallies : ℕ → List (List Read) → List TallyCounts → Type 0
AreTallies carriers texts leaves = AllZip (IsTallyOf carriers) texts leaves

-- the readings of all texts, one text after the other
abbrev pub all_of : List (List Read) → List Read
all_of texts = flat_map (λ (text : List Read). text) texts

-- these tallies may be the leaves of one tree: they are those of some texts with few carriers, and with few lines in all
pub record AreLeaves (leaves : List TallyCounts) : Type 0 where
  pub carriers : ℕ
  pub texts : List (List Read)
  pub few : carriers ≤ 64
  pub tallies : AreTallies carriers texts leaves
  pub lines : length (all_of texts) ≤ line_limit
  pub on_beds : All IsOnBeds leaves

-- the tally stands for these leaves: it is what all their readings come to, one text after the other
abbrev pub TallyStandsFor : List TallyCounts → TallyCounts → Type 0
TallyStandsFor leaves v = (carriers : ℕ) (texts : List (List Read)) → AreTallies carriers texts leaves → IsTallyOf carriers (all_of texts) v

-- both can be joined in a tree: their numbers add up, there are few carriers, and their needles rise on the beds of some machine
pub record MayJoin (a b : TallyCounts) : Type 0 where
  pub fit : CountsFit a b
  pub few : length a.with_each ≤ 64
  pub rising : AreNeedlesRising a.needles × AreNeedlesRising b.needles
  pub on_beds : IsOnBeds a × IsOnBeds b

-- the room of a tally: how many needles it has
abbrev pub room_of_tally : TallyCounts → ℕ
room_of_tally v = length v.needles

-- room for the needles of both, of which no more than the limit differ
abbrev pub room_of_both_tallies : ℕ → ℕ → ℕ
room_of_both_tallies a b = min (a + b) needle_limit

-- the tally with this number among those kept
abbrev pub slot_of : Option (Option Tally) → Option TallyCounts
slot_of None = None
slot_of (Some slot) = option_map counts_of_tally slot

abbrev pub tally_at : List (Option Tally) → ℕ → Option TallyCounts
tally_at kept number = slot_of (slice_get kept number)

-- so many numbers of leaves and of inner nodes have a place
abbrev pub tallies_place_count : List (Option Tally) → List (Option Tally) → ℕ
tallies_place_count leaves nodes = min (length leaves) (length nodes)
