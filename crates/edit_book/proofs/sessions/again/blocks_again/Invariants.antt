use Rattle.std.proofs.Common.{◌≡◌, ◌++◌, ℕ, List, All, map, drop, length}
use Rattle.std.specs.Vec.Iter.{into_iter_items, into_iter_len}
use Rattle.knit_base.specs.declared.profile.Profile.{Profile}
use Rattle.block_summary.specs.Prepared.{IsPreparedFor}
use Rattle.block_summary.specs.declared.prepared.Prepared.{Prepared}
use Rattle.edit_journal.specs.declared.edit.Entry.{Entry}
use Rattle.edit_journal.specs.declared.opening.Opening.{Opening}
use Rattle.edit_book.specs.Turns.{AreFitAgain, AreTextsGiven}
use Rattle.edit_book.specs.declared.reply.Again.{Again}
use Rattle.edit_book.proofs.sessions.again.blocks_again.Given as goal

abbrev pub invariant-loop-prepared : goal.invariant-loop-prepared
invariant-loop-prepared l = record {
  count : length l.again ≡ l.at;
  summaries : map (λ (a : Again). a.prepared) l.again ++ into_iter_items l.prepared-iterator ≡ into_iter_items l.initial.prepared-iterator;
  left : into_iter_len l.prepared-iterator ≡ length (into_iter_items l.prepared-iterator);
  texts : map (λ (prepared : Prepared). prepared.text) (into_iter_items l.prepared-iterator) ≡ map (λ block. block.text) (drop l.at l.blocks);
  prepared : (profile : Profile) (names : List (List ℕ)) → All (IsPreparedFor profile names) (into_iter_items l.initial.prepared-iterator) → All (IsPreparedFor profile names) (into_iter_items l.prepared-iterator);
  fits : (opening : Opening) (journal : List Entry) (names : List (List ℕ)) → All (IsPreparedFor opening.setting.profile names) (into_iter_items l.initial.prepared-iterator) → AreTextsGiven opening journal l.blocks → AreFitAgain opening journal names l.again;
}
