use Rattle.script_reader.proofs.TextLines.{TextSoFar}
use Rattle.script_reader.proofs.text.read_text.Given as goal

abbrev pub invariant-loop-i : goal.invariant-loop-i
invariant-loop-i l = TextSoFar l.lines l.start l.i l.text
