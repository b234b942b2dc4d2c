use Rattle.std.proofs.Common.{◌∙◌, ap, sym}
use Rattle.std.specs.Option.{option_copied}
use Rattle.std.proofs.lemmas.Result.{on_ok_weaker}
use Rattle.journal_file.specs.Spelling.{entry_lines}
use Rattle.journal_file.proofs.EntryPlaces.{entry-behind}
use Rattle.knit_base.proofs.Rests.{written-none, written-one}
use Rattle.journal_file.proofs.write.append_entry_behind.Goals as goal

pub returns-in-Some : goal.returns-in-Some
returns-in-Some g c =
    on_ok_weaker c.append_entry.result
    (λ written. written-one entry_lines c.args.journal.now.entries c.args.before _ _ _ (sym (entry-behind c.args.journal.now.entries c.args.before) ∙ sym c.get.ensures ∙ ap option_copied c.in-Some.is) written) c.append_entry.ensures

pub returns-in-None : goal.returns-in-None
returns-in-None g c =
    written-none entry_lines c.args.journal.now.entries c.args.before _ (sym (entry-behind c.args.journal.now.entries c.args.before) ∙ sym c.get.ensures ∙ ap option_copied c.in-None.is)
