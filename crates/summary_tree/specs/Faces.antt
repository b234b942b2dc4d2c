-- A table of faces, each list in a span of its pool.
use Rattle.std.specs.Prelude.{◌≡◌, ◌≢◌, ℕ, ◌+◌, ◌≤◌, ◌==◌, cond, List, Option, Some, None, map, slice_index_or}
use Rattle.std.specs.List.{sum_by}
use Rattle.std.specs.Option.{option_map}
use Rattle.face_data.specs.Summaries.{Summary}
use Rattle.face_data.specs.View.{asked_of_check, changed_of, AreNamed, ArePacked}
use Rattle.span_pool.specs.Class.{IsClassOf}
use Rattle.span_pool.specs.Pool.{PoolView, out_of}
use Rattle.span_pool.specs.Shelf.{ShelfView}
use Rattle.summary_compose.specs.declared.room.Room.{Room}
use Rattle.summary_tree.specs.declared.faces.Entry.{Entry}
use Rattle.summary_tree.specs.declared.faces.Pools.{Pools}
use Rattle.summary_tree.specs.declared.faces.FaceList.{FaceList}
use Rattle.summary_tree.specs.declared.faces.FaceList.TheVariants.{Checks, Names, Changes, Segs, Lasts}
use Rattle.summary_tree.specs.Meeting.{IsMet}
use Rattle.summary_tree.specs.Rooms.{kept_room}

-- the summary that an entry shows
abbrev pub summary_in : Entry → Summary
summary_in e = record {
  lines = e.head.lines;
  made = e.head.made;
  checks = map (asked_of_check e.names.items) e.checks.items;
  changes = map (changed_of e.segs.items) e.changes.items;
  lasts = e.lasts.items;
  ending = e.head.ending;
}

-- its names and segments are made up of the parts of its checks and changes, and its room is noted
pub record IsPackedEntry (e : Entry) : Type 0 where
  pub named : AreNamed e.names.items e.checks.items
  pub packed : ArePacked e.segs.items e.changes.items
  pub noted : e.head.room ≡ kept_room (summary_in e)

-- the class of the span of one of the lists
abbrev pub class_in : FaceList → Entry → ℕ
class_in Checks e = e.checks.class
class_in Names e = e.names.class
class_in Changes e = e.changes.class
class_in Segs e = e.segs.class
class_in Lasts e = e.lasts.class

-- the pool of one of the lists
abbrev pub pool_in : FaceList → Pools → PoolView
pool_in Checks pools = pools.checks
pool_in Names pools = pools.names
pool_in Changes pools = pools.changes
pool_in Segs pools = pools.segs
pool_in Lasts pools = pools.lasts

-- how many spans of a class are at a place for one of the lists
abbrev pub spans_at : FaceList → ℕ → Option Entry → ℕ
spans_at list class None = 0
spans_at list class (Some e) = cond (class == class_in list e) 1 0

-- each entry is packed, and the spans that are out are those in the table
pub record IsEntryTable (entries : List (Option Entry)) (pools : Pools) : Type 0 where
  pub packed : (at : ℕ) (e : Entry) → slice_index_or entries at None ≡ Some e → IsPackedEntry e
  pub out : (list : FaceList) (class : ℕ) → sum_by (spans_at list class) entries ≡ out_of (pool_in list pools) class

-- the spare spans of each class of a pool
abbrev pub spares_of : PoolView → List ℕ
spares_of pool = map (λ (shelf : ShelfView). shelf.spare) pool

-- what contracts see of a table: the summary at each place, and the spare spans of the five pools
pub record FacesView : Type 0 where
  pub faces : List (Option Summary)
  pub check_spares : List ℕ
  pub name_spares : List ℕ
  pub change_spares : List ℕ
  pub seg_spares : List ℕ
  pub last_spares : List ℕ

-- those of a table with these entries and pools
abbrev pub table_view : List (Option Entry) → Pools → FacesView
table_view entries pools = record {
  faces = map (option_map summary_in) entries;
  check_spares = spares_of pools.checks;
  name_spares = spares_of pools.names;
  change_spares = spares_of pools.changes;
  seg_spares = spares_of pools.segs;
  last_spares = spares_of pools.lasts;
}

-- the spare spans for one of the lists
abbrev pub spares_in : FacesView → FaceList → List ℕ
spares_in v Checks = v.check_spares
spares_in v Names = v.name_spares
spares_in v Changes = v.change_spares
spares_in v Segs = v.seg_spares
spares_in v Lasts = v.last_spares

-- those of a class
abbrev pub spare_in : FacesView → FaceList → ℕ → ℕ
spare_in v list class = slice_index_or (spares_in v list) class 0

-- the length of one of the lists in a room
abbrev pub length_in : FaceList → Room → ℕ
length_in Checks room = room.checks
length_in Names room = room.names
length_in Changes room = room.changes
length_in Segs room = room.segs
length_in Lasts room = room.lasts

-- the summary at a place
abbrev pub face_in : FacesView → ℕ → Option Summary
face_in v at = slice_index_or v.faces at None

-- there is a span for each of the lists of these rooms, one after the other
abbrev pub AreSpansReserved : FacesView → List Room → Type 0
AreSpansReserved v rooms = (list : FaceList) → IsMet (spare_in v list) (length_in list) rooms

-- each list of a face with this room took one span of its class
pub record TookSpans (old new : FacesView) (room : Room) : Type 0 where
  pub of_class : (list : FaceList) (class : ℕ) → IsClassOf (length_in list room) class → spare_in old list class ≤ spare_in new list class + 1
  pub of_others : (list : FaceList) (class other : ℕ) → IsClassOf (length_in list room) class → other ≢ class → spare_in old list other ≤ spare_in new list other

-- no class has fewer spare spans than before
abbrev pub KeepsSpares : FacesView → FacesView → Type 0
KeepsSpares old new = (list : FaceList) (class : ℕ) → spare_in old list class ≤ spare_in new list class
