-- Room for faces, and for one of two texts.
use Rattle.std.specs.Prelude.{ℕ, ◌+◌, ◌*◌, ◌^◌, ◌≤◌, List, [], ◌∷◌, max, min, nat_lt, length, if◌then◌else◌}
use Rattle.face_data.specs.declared.face.FaceView.{FaceView}
use Rattle.face_data.specs.Segments.{Changed, entry_needles_of}
use Rattle.summary_compose.specs.Changes.{changes_in}
use Rattle.summary_compose.specs.declared.room.Room.{Room}

-- the number, where there can be so much room, and one past all room where there can't
abbrev pub capped_room : ℕ → ℕ
capped_room n = if nat_lt (2 ^ 62) n then 2 ^ 62 + 1 else n

-- the most entries that one needle holds behind the changes: one that isn't changed holds its own
abbrev pub widest_of : List Changed → ℕ
widest_of [] = 1
widest_of (c ∷ changes) = max (length (entry_needles_of c.1)) (widest_of changes)

-- no room, not even for the face of no line
abbrev pub no_room : Room
no_room = record { checks = 0; names = 0; changes = 0; segs = 0; entries = 0; widest = 0; lasts = 0 }

-- the same room, its numbers capped
abbrev pub kept_of : Room → Room
kept_of room = record {
  checks = capped_room room.checks;
  names = capped_room room.names;
  changes = capped_room room.changes;
  segs = capped_room room.segs;
  entries = capped_room room.entries;
  widest = capped_room room.widest;
  lasts = capped_room room.lasts;
}

-- the greater of both in each field
abbrev pub greater_room : Room → Room → Room
greater_room a b = record {
  checks = max a.checks b.checks;
  names = max a.names b.names;
  changes = max a.changes b.changes;
  segs = max a.segs b.segs;
  entries = max a.entries b.entries;
  widest = max a.widest b.widest;
  lasts = max a.lasts b.lasts;
}

-- the items of a face's lists, and the entries of the needle that holds most of them
abbrev pub room_of_face : FaceView → Room
room_of_face face = record {
  checks = length face.checks.now;
  names = length face.names.now;
  changes = length face.changes.now;
  segs = length face.segs.now;
  entries = length (entry_needles_of face.segs.now);
  widest = widest_of (changes_in face);
  lasts = length face.lasts.now;
}

-- How many needles the conditions of a second face may name when they are read through the first: each needle may hold as many entries
-- as any does, and each condition may name, beside its own needles, each entry that stands in the first one's segments.
abbrev pub names_after : Room → Room → ℕ
names_after room next = min (capped_room (next.names * room.widest)) (capped_room (next.names + capped_room (next.checks * room.entries)))

-- room for the composition of a face with this room and one with the next
abbrev pub room_after : Room → Room → Room
room_after room next = record {
  checks = capped_room (room.checks + next.checks);
  names = capped_room (room.names + names_after room next);
  changes = capped_room (room.changes + next.changes);
  segs = capped_room (room.segs + next.segs);
  entries = capped_room (room.entries + next.entries);
  widest = min (capped_room (room.widest * next.widest)) (max 1 (capped_room (room.entries + next.entries)));
  lasts = capped_room (room.lasts + next.lasts);
}

-- room for the composition of both faces
abbrev pub room_of_both_faces : FaceView → FaceView → Room
room_of_both_faces a b = room_after (room_of_face a) (room_of_face b)

-- there can be so much room
pub record CanBeMade (room : Room) : Type 0 where
  pub checks : room.checks ≤ 2 ^ 62
  pub names : room.names ≤ 2 ^ 62
  pub changes : room.changes ≤ 2 ^ 62
  pub segs : room.segs ≤ 2 ^ 62
  pub lasts : room.lasts ≤ 2 ^ 62
