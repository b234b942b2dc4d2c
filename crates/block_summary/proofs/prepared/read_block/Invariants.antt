use Rattle.std.proofs.Common.{◌≡◌, ◌+◌, ◌-◌, ◌≤◌, List, length}
use Rattle.std.specs.List.{slice_range}
use Rattle.knit_base.specs.declared.instr.Read.{Read}
use Rattle.knitout_reader.specs.Usual.{KnowsLastCarrier}
use Rattle.block_summary.specs.Prepared.{AreReadings, AreRowsOf, DraftHasRead}
use Rattle.block_summary.proofs.prepared.read_block.Given as goal

abbrev pub invariant-loop-i : goal.invariant-loop-i
invariant-loop-i g l = record {
  begun : l.start ≤ l.i;
  inside : l.i ≤ l.end;
  last : KnowsLastCarrier l.setting.declared l.last;
  lines : l.draft.lines ≡ l.i - l.start;
  rows : AreRowsOf (l.i - l.start) l.loops;
  steps : l.steps ≡ l.initial.steps + (l.i - l.start);
  read : (lines : List Read) → AreReadings l.setting.profile l.setting.declared (slice_range l.text l.start l.end) lines → DraftHasRead l.setting.profile (length l.setting.declared) lines (l.i - l.start) l.draft l.loops;
}
