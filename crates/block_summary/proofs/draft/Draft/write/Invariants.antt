use Rattle.std.proofs.Common.{◌≡◌, drop}
use Rattle.block_summary.specs.DraftKnowledge.{changes_written}
use Rattle.block_summary.proofs.draft.Draft.write.Given as goal

abbrev pub invariant-loop-change : goal.invariant-loop-change
invariant-loop-change l = record {
  rest_stays : l.self ≡ record l.initial.self { changes = l.self.changes };
  so_far : changes_written l.self.changes (drop l.change-index l.changed) ≡ changes_written l.initial.self.changes l.changed;
}
