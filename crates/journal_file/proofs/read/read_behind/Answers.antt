use Rattle.std.proofs.Common.{◌≡◌, ◌∙◌, [], List, map, sym, subst, arith}
use Rattle.edit_journal.specs.declared.edit.Entry.{Entry}
use Rattle.edit_journal.specs.declared.opening.Opening.{Opening}
use Rattle.journal_file.specs.EntryForms.{AreEntries}
use Rattle.journal_file.specs.Faults.{AreEntriesFault}
use Rattle.journal_file.specs.Reading.{FormHasRead}
use Rattle.journal_file.specs.SavedForms.{entry_said}
use Rattle.journal_file.specs.SavedParts.{MayAllCome, opening_with}
use Rattle.journal_file.proofs.EntriesReadings.{entries_past}
use Rattle.journal_file.proofs.Grammars.{no_items}
use Rattle.journal_file.proofs.read.read_behind.Goals as goal

pub returns-then-at-gt0-clause-fault : goal.returns-then-at-gt0-clause-fault
returns-then-at-gt0-clause-fault c =
    let o = opening_with c.args.opening.head c.args.opening.profile c.args.opening.texts in
    let said = c.in-Ok.ensures.read in
    let come : MayAllCome o [] (map entry_said said.0) = subst (λ (z : Opening × List Entry). MayAllCome z.0 [] z.1) (λ i. (c.in_ok-outline.ensures.opening i, said.1 i)) c.in-Ok.ensures.come in
    subst (AreEntriesFault o c.args.opening.entries c.args.start.rest.now c.args.start.taken) (sym c.bad.ensures)
    (entries_past o c.args.opening.entries c.args.start.rest.now c.args.start.taken said.0 c.in-Ok.at.rest.now c.in-Ok.at.taken said.2 come c.if-at-gt0.true)

pub returns-in_ok-saved-in-Ok-clause-read : goal.returns-in_ok-saved-in-Ok-clause-read
returns-in_ok-saved-in-Ok-clause-read c =
    let said = c.in-Ok.ensures.read in
    let none : c.in-Ok.at.rest.now ≡ [] = no_items c.in-Ok.at.rest.now (omega (arith, c.if-at-gt0.false)) in (
      said.0,
      c.in_ok-saved-in-Ok.ensures.entries ∙ said.1,
      c.in-Ok.at.taken,
      subst (λ r. FormHasRead (AreEntries c.args.opening.entries) c.args.start.rest.now c.args.start.taken said.0 r c.in-Ok.at.taken) none said.2,
    )
