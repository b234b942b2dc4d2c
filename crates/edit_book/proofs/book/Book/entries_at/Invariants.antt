use Rattle.std.proofs.Common.{◌≡◌, take}
use Rattle.carriage_model.specs.State.{State}
use Rattle.face_data.specs.Segments.{entry_needles_of}
use Rattle.edit_book.specs.Entered.{IsStateBehind, entries_held}
use Rattle.edit_book.proofs.book.Book.entries_at.Given as goal

abbrev pub invariant-loop-seg : goal.invariant-loop-seg
invariant-loop-seg l = (s : State) → IsStateBehind l.self l.at s → l.entries ≡ entries_held s (entry_needles_of (take l.seg-index l.through))
