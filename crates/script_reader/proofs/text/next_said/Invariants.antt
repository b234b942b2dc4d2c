use Rattle.std.proofs.Common.{◌≡◌, ◌<◌, get_or, []}
use Rattle.script_reader.specs.Reading.{IsPassed}
use Rattle.script_reader.specs.Statements.{kind_of}
use Rattle.script_reader.specs.declared.line.Kind.TheVariants as kind
use Rattle.script_reader.proofs.text.next_said.Given as goal

abbrev pub invariant-loop-i : goal.invariant-loop-i
invariant-loop-i l = record { passed : IsPassed l.lines l.start l.i; first : l.start < l.i → kind_of (get_or l.lines l.start []) ≡ kind.Skipped }
