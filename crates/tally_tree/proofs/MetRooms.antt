-- The greatest of some rooms, and which rooms are met by empty tallies.
use Rattle.std.proofs.Common.{◌≡◌, ◌∙◌, ◌+◌, ◌≤◌, ◌<◌, ℕ, suc, List, [], ◌∷◌, ◌++◌, length, take, ap, subst, sym, arith}
use Rattle.std.specs.Prelude.{max, All, slice_set}
use Rattle.std.proofs.Math.Seq.{take-suc-set}
use Rattle.std.proofs.lemmas.List.Elements.{All-head, All-tail, All-cons, All-nil}
use Rattle.tally_tree.specs.Laws.{joined_room}
use Rattle.tally_tree.specs.Leaves.{MayJoin, room_of_tally, room_of_both_tallies}
use Rattle.tally_tree.specs.Needles.{merged_needles}
use Rattle.tally_tree.specs.Rooms.{AreTalliesReserved, SparesView, most_of}
use Rattle.tally_tree.specs.Tallies.{TallyCounts}

-- one room more
pub most-push : (rooms : List ℕ) (room : ℕ) → most_of (rooms ++ room ∷ []) ≡ max (most_of rooms) room
most-push [] room = omega arith
most-push (first ∷ rooms) room = omega (arith, most-push rooms room)

-- one room more, written behind those that count
pub room_written : (rooms : List ℕ) (at room : ℕ) → at < length rooms → take (at + 1) (slice_set rooms at room) ≡ take at rooms ++ room ∷ []
room_written rooms at room within = let next : at + 1 ≡ suc at = omega arith in ap (λ n. take n (slice_set rooms at room)) next ∙ take-suc-set rooms at room within

-- none is greater than the greatest
pub all_below : (limit : ℕ) (rooms : List ℕ) → most_of rooms ≤ limit → All (λ (room : ℕ). room ≤ limit) rooms
all_below limit [] h = All-nil (λ (room : ℕ). room ≤ limit)
all_below limit (room ∷ rooms) h = All-cons (λ (room : ℕ). room ≤ limit) room rooms (omega arith) (all_below limit rooms (omega arith))

-- a limit of all is one of the greatest
pub most_below : (limit : ℕ) (rooms : List ℕ) → All (λ (room : ℕ). room ≤ limit) rooms → most_of rooms ≤ limit
most_below limit [] h = omega arith
most_below limit (room ∷ rooms) h =
    let rest = most_below limit rooms (All-tail (λ (room : ℕ). room ≤ limit) room rooms h) in
    let here : room ≤ limit = All-head (λ (room : ℕ). room ≤ limit) room rooms h in
    omega (arith, rest, here)

-- what is left, where one empty tally was taken, meets the other rooms
pub rest_met : (spares left : SparesView) (room : ℕ) (rest : List ℕ) → left.many + 1 ≡ spares.many → left.room ≡ spares.room → AreTalliesReserved spares (room ∷ rest) → AreTalliesReserved left rest
rest_met spares left room rest many same m = record {
  enough = omega (arith, m.enough, many);
  large = subst (λ (limit : ℕ). All (λ (r : ℕ). r ≤ limit) rest) (sym same) (All-tail (λ (r : ℕ). r ≤ spares.room) room rest m.large);
}

-- as many empty tallies, each with room for the greatest, meet all rooms
pub all_met : (spares : SparesView) (rooms : List ℕ) → length rooms ≤ spares.many → most_of rooms ≤ spares.room → AreTalliesReserved spares rooms
all_met spares rooms enough large = record { enough = enough; large = all_below spares.room rooms large }

-- what meets some rooms meets those behind the first
pub fewer_met : (spares : SparesView) (room : ℕ) (rest : List ℕ) → AreTalliesReserved spares (room ∷ rest) → AreTalliesReserved spares rest
fewer_met spares room rest m = record { enough = omega (arith, m.enough); large = All-tail (λ (r : ℕ). r ≤ spares.room) room rest m.large }

-- an empty tally has room for the needles of a sum
pub sum_has_room : (spares : SparesView) (a b : TallyCounts) (room : ℕ) (rest : List ℕ) → MayJoin a b → room_of_both_tallies (room_of_tally a) (room_of_tally b) ≤ room → AreTalliesReserved spares (room ∷ rest) → length (merged_needles a.needles b.needles) ≤ spares.room
sum_has_room spares a b room rest f within m =
    let large : room ≤ spares.room = All-head (λ (r : ℕ). r ≤ spares.room) room rest m.large in
    omega (arith, joined_room a b f, within, large)
