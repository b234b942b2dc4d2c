use Rattle.std.proofs.Common.{◌≤◌, length, vec_capacity}
use Rattle.knit_base.proofs.Copied.{CopiedSoFar}
use Rattle.knit_base.proofs.copies.copy_pieces.Given as goal

abbrev pub invariant-loop-span : goal.invariant-loop-span
invariant-loop-span l = record {
  so_far : CopiedSoFar l.bytes l.skipped l.spans l.reach l.span-index l.copy.items l.places.items;
  room : length l.spans ≤ vec_capacity l.places;
}
