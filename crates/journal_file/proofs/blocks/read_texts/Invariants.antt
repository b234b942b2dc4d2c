use Rattle.std.proofs.Common.{◌≡◌, ◌+◌, ◌-◌, ◌≤◌, length, map}
use Rattle.journal_file.specs.BlockForms.{block_form, no_block_yet, with_block}
use Rattle.journal_file.specs.Grammars.{Chain}
use Rattle.journal_file.specs.Reading.{FormHasRead, byte_limit}
use Rattle.journal_file.specs.SavedForms.{block_words}
use Rattle.journal_file.proofs.BlocksReadings.{AreSoFar}
use Rattle.journal_file.proofs.blocks.read_texts.Given as goal

abbrev pub invariant-loop-i : goal.invariant-loop-i
invariant-loop-i l = (l.at.taken + length l.at.rest.now ≤ byte_limit) × (l.lines + (l.many - l.i) ≤ 1048576) × (length l.texts ≡ l.i) × AreSoFar l.many l.i l.lines (map block_words l.texts)
    × FormHasRead (Chain block_form with_block l.i (no_block_yet l.many)) l.fn.start.rest.now l.fn.start.taken (map block_words l.texts) l.at.rest.now l.at.taken
