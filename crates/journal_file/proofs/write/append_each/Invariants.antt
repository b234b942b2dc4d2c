use Rattle.std.proofs.Common.{◌≡◌, ◌++◌, flat_map, take}
use Rattle.journal_file.specs.Spelling.{block_lines}
use Rattle.journal_file.proofs.write.append_each.Given as goal

abbrev pub invariant-each : goal.invariant-each
invariant-each g l = l.out.items ≡ l.fn.out.items ++ flat_map block_lines (take l.block-index l.blocks)
