use Rattle.std.proofs.Common.{◌∙◌, ◌++◌, ◌∷◌, [], List, map, sym, subst, refl}
use Rattle.std.proofs.lemmas.List.{map-append}
use Rattle.edit_journal.specs.declared.edit.Entry.{Entry}
use Rattle.edit_journal.specs.declared.opening.Opening.{Opening}
use Rattle.edit_book.specs.Outlines.{MayCome}
use Rattle.journal_file.specs.Faults.{IsEntryFault}
use Rattle.journal_file.specs.SavedForms.{entry_said}
use Rattle.journal_file.specs.SavedParts.{MayAllCome}
use Rattle.journal_file.proofs.EntriesReadings.{come_more, entries_fault, entries_more, entries_none}
use Rattle.journal_file.proofs.entries.read_entries.Goals as goal

pub loop-i-init : goal.loop-i-init
loop-i-init c = record {
  size = c.requires.size;
  opening = refl;
  read = ([], c.requires.none, entries_none c.args.start.rest.now c.args.start.taken);
  come = subst (MayAllCome c.args.outline.now.opening []) (sym c.requires.none) tt;
}

pub loop-i-preserved : goal.loop-i-preserved
loop-i-preserved c =
    let v = c.loop-i.invariant in
    let said = v.read in
    let next = c.in-Ok.ensures.read in
    let more = c.in_ok-follow-in-Ok.ensures.ok in
    let comes : MayCome c.args.outline.now.opening c.loop-i.outline.entries c.in-Ok.entry.edit = subst (λ o. MayCome o c.loop-i.outline.entries c.in-Ok.entry.edit) v.opening c.in-Ok.ensures.comes in
    record {
      size = c.in-Ok.ensures.size;
      opening = c.in_ok-follow-in-Ok.ensures.opening ∙ v.opening;
      read = (
        said.0 ++ next.0 ∷ [],
        more ∙ (λ i. said.1 i ++ next.1 i ∷ []) ∙ sym (map-append entry_said said.0 (next.0 ∷ [])),
        entries_more c.loop-i.i c.args.start.rest.now c.args.start.taken said.0 c.loop-i.at.rest.now c.loop-i.at.taken next.0 c.in-Ok.next.rest.now c.in-Ok.next.taken said.2 next.2,
      );
      come = subst (MayAllCome c.args.outline.now.opening []) (sym more) (come_more c.args.outline.now.opening [] c.loop-i.outline.entries c.in-Ok.entry v.come comes);
    }

pub returns-in-Err-clause-fault : goal.returns-in-Err-clause-fault
returns-in-Err-clause-fault c =
    let v = c.loop-i.invariant in
    let said = v.read in
    let stops : IsEntryFault c.args.outline.now.opening (map entry_said said.0) c.loop-i.at.rest.now c.loop-i.at.taken c.in-Err.fault =
    subst (λ (z : Opening × List Entry). IsEntryFault z.0 z.1 c.loop-i.at.rest.now c.loop-i.at.taken c.in-Err.fault) (λ i. (v.opening i, said.1 i)) c.in-Err.ensures.fault in
    entries_fault c.args.outline.now.opening c.args.many c.args.start.rest.now c.args.start.taken said.0 c.loop-i.at.rest.now c.loop-i.at.taken c.loop-i.i c.loop-i-test.true said.2
    (subst (MayAllCome c.args.outline.now.opening []) said.1 v.come) c.in-Err.fault stops
