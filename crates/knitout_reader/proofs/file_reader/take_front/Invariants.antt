use Rattle.std.proofs.Common.{◌-◌, length}
use Rattle.knitout_reader.specs.FileLines.{ReadsFront}
use Rattle.knitout_reader.proofs.file_reader.take_front.Given as goal

abbrev pub invariant-reading : goal.invariant-reading
invariant-reading g l = ReadsFront _ g.W.FileWork.saw l.text l.count l.start l.fn.reader l.reader l.fn.work l.work

abbrev pub decreases-reading : goal.decreases-reading
decreases-reading g l = length l.text - l.start
