use Rattle.std.proofs.Common.{rules, ◌≡◌, ◌+◌, ℕ, sym, subst}
use Rattle.journal_file.specs.EntryForms.{IsEntryLine}
use Rattle.journal_file.specs.Faults.{IsEntryFault}
use Rattle.journal_file.specs.Reading.{FormHasRead, IsFault, IsFirstLineTaken, NoneTaken}
use Rattle.journal_file.specs.Texts.{TextLinesForm}
use Rattle.journal_file.proofs.EntryReadings.{entry_read, line_refused, text_refused}
use Rattle.journal_file.proofs.entry.read_entry.Goals as goal

pub returns-in-Ok-clause-read : goal.returns-in-Ok-clause-read
returns-in-Ok-clause-read c =
    let took : IsFirstLineTaken IsEntryLine c.args.start.rest.now c.in-Some.line c.in-Some.at.rest.now = search rules in
    let count : c.in-Some.at.taken ≡ c.args.start.taken + 1 = search rules in (
      (c.in-Some.line, c.in-Ok.text),
      c.with_text.ensures,
      entry_read c.args.start.rest.now c.args.start.taken c.in-Some.line c.in-Some.at.rest.now c.in-Ok.text c.in-Ok.behind.rest.now c.in-Ok.behind.taken took
          (subst (λ (z : ℕ × ℕ). FormHasRead (TextLinesForm z.0) c.in-Some.at.rest.now z.1 c.in-Ok.text c.in-Ok.behind.rest.now c.in-Ok.behind.taken) (λ k. (c.text_lines.ensures k, count k)) c.in-Ok.ensures.read),
    )

pub returns-in-Some-clause-fault : goal.returns-in-Some-clause-fault
returns-in-Some-clause-fault c =
    let took : IsFirstLineTaken IsEntryLine c.args.start.rest.now c.in-Some.line c.in-Some.at.rest.now = search rules in
    let count : c.in-Some.at.taken ≡ c.args.start.taken + 1 = search rules in
    text_refused c.args.outline.now.opening c.args.outline.now.entries c.args.start.rest.now c.args.start.taken c.in-Some.at.taken c.in-Some.line c.in-Some.at.rest.now count took (λ text many. c.may_come.ensures.yes text many (search rules)) c.in-Err.fault
    (subst (λ n. IsFault (TextLinesForm n) c.in-Some.at.rest.now c.in-Some.at.taken c.in-Err.fault) c.text_lines.ensures c.in-Err.ensures.fault)

pub returns-clause-fault : goal.returns-clause-fault
returns-clause-fault c =
    let none : NoneTaken IsEntryLine c.args.start.rest.now = search rules in
    subst (IsEntryFault c.args.outline.now.opening c.args.outline.now.entries c.args.start.rest.now c.args.start.taken) (sym c.bad.ensures)
    (line_refused c.args.outline.now.opening c.args.outline.now.entries c.args.start.rest.now c.args.start.taken none)
