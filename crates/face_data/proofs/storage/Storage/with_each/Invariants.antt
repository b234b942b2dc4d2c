use Rattle.std.proofs.Common.{◌≡◌, ◌++◌, take}
use Rattle.face_data.specs.Storage.{items_in, IsFew}
use Rattle.face_data.proofs.storage.Storage.with_each.Given as goal

abbrev pub invariant-loop-item : goal.invariant-loop-item
invariant-loop-item g l = record {
  items : items_in l.storage ≡ items_in l.fn.self ++ take l.item-index l.more;
  few : IsFew l.storage;
}
