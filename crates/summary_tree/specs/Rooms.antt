-- The room that a face takes in a tree, and rooms for several.
use Rattle.std.specs.Prelude.{◌≡◌, ℕ, ◌≤◌, List, [], ◌∷◌, length, take}
use Rattle.std.specs.List.{flat_map}
use Rattle.face_data.specs.Segments.{Changed, entry_needles_of}
use Rattle.face_data.specs.Summaries.{Summary}
use Rattle.summary_compose.specs.Changes.{segs_in}
use Rattle.summary_compose.specs.Known.{names_count}
use Rattle.summary_compose.specs.Rooms.{capped_room, greater_room, no_room, widest_of}
use Rattle.summary_compose.specs.declared.room.Room.{Room}

-- the items of its lists, and the entries of all needles and of one; a number for which there can't be room stands as one past all room
abbrev pub kept_room : Summary → Room
kept_room s = record {
  checks = capped_room (length s.checks);
  names = capped_room (names_count s.checks);
  changes = capped_room (length s.changes);
  segs = capped_room (segs_in s.changes);
  entries = capped_room (length (flat_map (λ (c : Changed). entry_needles_of c.1) s.changes));
  widest = capped_room (widest_of s.changes);
  lasts = capped_room (length s.lasts);
}

-- the greatest of all in each field
abbrev pub greatest_of : List Room → Room
greatest_of [] = no_room
greatest_of (room ∷ rooms) = greater_room room (greatest_of rooms)

-- the first `len` of 73 places have rooms, and the greatest of these is kept
pub record AreRooms (places : List Room) (len : ℕ) (most : Room) : Type 0 where
  pub few : len ≤ 73
  pub long : length places ≡ 73
  pub greatest : most ≡ greatest_of (take len places)
