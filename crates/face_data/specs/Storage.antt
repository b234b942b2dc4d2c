-- Where the items of a short list lie.
use Rattle.std.specs.Prelude.{◌≤◌, List, [], length}
use Rattle.face_data.specs.declared.storage.Storage.{Storage}
use Rattle.face_data.specs.declared.storage.Storage.TheVariants.{Nothing, One, Two, Many}

module _ {T : Type 0} where
  -- the items, wherever they lie
  abbrev pub items_in : Storage T → List T
  items_in Nothing = []
  items_in (One items) = items
  items_in (Two items) = items
  items_in (Many items) = items.value.items

  -- only a list of two or more lies in a vector
  abbrev pub IsCompactStorage : Storage T → Type 0
  IsCompactStorage (Many items) = 2 ≤ length items.value.items
  IsCompactStorage storage = Unit {0}

  -- the items don't lie in a vector
  abbrev pub IsFew : Storage T → Type 0
  IsFew (Many items) = ⊥
  IsFew storage = Unit {0}
