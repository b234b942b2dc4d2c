use Rattle.std.proofs.Common.{rules}
use Rattle.journal_file.specs.declared.entry_line.EntryLine.{EntryLine}
use Rattle.journal_file.specs.EntryForms.{IsEntryLine}
use Rattle.journal_file.proofs.Readings.{taken-bad, taken-none}
use Rattle.journal_file.proofs.entry.take_line.Goals as goal

pub returns-in-None-2-clause-line : goal.returns-in-None-2-clause-line
returns-in-None-2-clause-line c =
    let none : (said : EntryLine) → IsEntryLine said c.in-Some.line.now → ⊥ = search rules in
    taken-bad IsEntryLine c.args.at.rest.now c.in-Some.line.now c.in-Some.rest.now c.in-Some.ensures.0 c.in-Some.ensures.1 none

pub returns-in-None-clause-line : goal.returns-in-None-clause-line
returns-in-None-clause-line c = taken-none IsEntryLine c.args.at.rest.now c.in-None.ensures
