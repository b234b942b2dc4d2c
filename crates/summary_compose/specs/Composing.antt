-- When two faces can be composed, where there is room, and what is made of them.
use Rattle.std.specs.Prelude.{◌≡◌, ◌<◌, ◌≤◌, ◌+◌, ◌^◌, All, None, length}
use Rattle.face_data.specs.declared.face.Check.{Check}
use Rattle.face_data.specs.declared.face.Effect.{Effect}
use Rattle.face_data.specs.declared.face.Ending.{Ending}
use Rattle.face_data.specs.declared.face.Ending.TheVariants.{Through, Broken}
use Rattle.face_data.specs.declared.face.FaceView.{FaceView}
use Rattle.face_data.specs.Composition.{reads}
use Rattle.face_data.specs.Digests.{CarrierFits}
use Rattle.face_data.specs.Goodness.{IsInOrder}
use Rattle.face_data.specs.Lasts.{AreInOrder}
use Rattle.face_data.specs.Summaries.{Summary}
use Rattle.face_data.specs.View.{size_needles_of, AreNamed, ArePacked, PartsFit}
use Rattle.summary_compose.specs.Changes.{changes_in, merged_of, segs_in, HaveOffsets}
use Rattle.summary_compose.specs.Known.{AreGoodFaces, IsReadable, checks_in, names_count, names_read_count}
use Rattle.summary_compose.specs.Tables.{HasNeedlePlaces}
use Rattle.summary_compose.specs.declared.making.Making.{Making}
use Rattle.summary_compose.specs.declared.room.Room.{Room}

-- the line of a broken ending can be raised
abbrev pub EndingRises : FaceView → Ending → Type 0
EndingRises a (Through effect) = Unit {0}
EndingRises a (Broken fault) = a.lines + fault.line < 2 ^ 32

-- What the code asks of the two faces: good ones whose lists are packed and whose lines add up have all of it.
pub record Composes (a b : FaceView) : Type 0 where
  pub good : AreGoodFaces a b
  pub named : AreNamed a.names.now a.checks.now
  pub carriers : All (λ (c : Check). CarrierFits c.cond) a.checks.now
  pub few_names : All (λ (c : Check). length (size_needles_of a.names.now c.cond) < 2 ^ 32) a.checks.now
  pub readable : All (λ (c : Check). IsReadable a b.names.now c.cond) b.checks.now
  pub raised : All (λ (c : Check). a.lines + c.fault.line < 2 ^ 32) b.checks.now
  pub fit : PartsFit a.segs.now a.changes.now
  pub order : IsInOrder (changes_in a)
  pub second_fit : PartsFit b.segs.now b.changes.now
  pub second_packed : ArePacked b.segs.now b.changes.now
  pub offsets : HaveOffsets a.lines b.segs.now b.changes.now
  pub few_segs : (effect more : Effect) → a.ending ≡ Through effect → b.ending ≡ Through more →
      (reads effect a.lasts.now (changes_in a) a.lines (checks_in a) (checks_in b)).stop ≡ None → segs_in (merged_of a b) < 2 ^ 32
  pub lines : a.lines + b.lines < 2 ^ 32
  pub made : a.made + b.made < 2 ^ 32
  pub ending : EndingRises a b.ending
  pub lasts : AreInOrder a.lasts.now

-- there is room for what is made on the way
pub record FindsRoom (a b : FaceView) (room : Room) : Type 0 where
  pub checks : length a.checks.now + length b.checks.now ≤ room.checks
  pub names : names_count (checks_in a) + names_read_count (changes_in a) (checks_in b) ≤ room.names
  pub changes : length (merged_of a b) ≤ room.changes
  pub segs : segs_in (merged_of a b) ≤ room.segs
  pub some : 1 ≤ room.widest
  pub lasts : length a.lasts.now + length b.lasts.now ≤ room.lasts

-- so many items find room, and, unless the room is none, each needle has a place
pub record MakingHasRoom (making : Making) (room : Room) : Type 0 where
  pub checks : room.checks ≤ making.kept.check_room
  pub names : room.names ≤ making.kept.name_room
  pub index : room.names ≤ making.index.room
  pub places : 1 ≤ room.widest → HasNeedlePlaces making.places
  pub changes : room.changes ≤ making.laid.change_room
  pub segs : room.segs ≤ making.laid.seg_room
  pub lasts : room.lasts ≤ making.lasts.room

-- each room that there was is there
abbrev pub KeepsRooms : Making → Making → Type 0
KeepsRooms old new = (room : Room) → MakingHasRoom old room → MakingHasRoom new room

-- the room is in each field no greater than the other
pub record IsNoGreater (room other : Room) : Type 0 where
  pub checks : room.checks ≤ other.checks
  pub names : room.names ≤ other.names
  pub changes : room.changes ≤ other.changes
  pub segs : room.segs ≤ other.segs
  pub entries : room.entries ≤ other.entries
  pub widest : room.widest ≤ other.widest
  pub lasts : room.lasts ≤ other.lasts

-- the summary that was made
abbrev pub made_in : Making → Summary
made_in making = record { lines = making.lines; made = making.made; checks = making.kept.checks; changes = making.laid.changes; lasts = making.lasts.lasts; ending = making.ending }

-- what contracts see of a scratch: the summary that was made last, and the room that there is
pub record ScratchView : Type 0 where
  pub summary : Summary
  pub room : Room
