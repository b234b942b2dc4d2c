use Rattle.std.proofs.Common.{◌≡◌, ◌+◌, ◌≤◌, length}
use Rattle.journal_file.specs.Grammars.{Chain}
use Rattle.journal_file.specs.HeadForms.{head_form, no_line_yet, head_with_line}
use Rattle.journal_file.specs.Reading.{FormHasRead, byte_limit}
use Rattle.journal_file.proofs.HeadReadings.{IsSoFar}
use Rattle.journal_file.proofs.head.read_head_lines.Given as goal

abbrev pub invariant-loop-i : goal.invariant-loop-i
invariant-loop-i l = (l.at.taken + length l.at.rest.now ≤ byte_limit) × (length l.head ≡ l.i) × IsSoFar l.many l.i l.head l.so_far
    × FormHasRead (Chain head_form head_with_line l.i (no_line_yet l.many)) l.fn.start.rest.now l.fn.start.taken l.head l.at.rest.now l.at.taken
