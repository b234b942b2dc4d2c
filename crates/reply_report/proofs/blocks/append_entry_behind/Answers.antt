use Rattle.std.proofs.Common.{◌∙◌, refl, ap, sym}
use Rattle.std.specs.Option.{option_copied}
use Rattle.std.proofs.lemmas.Result.{on_ok_weaker}
use Rattle.knit_base.proofs.Rests.{item-there, numbered-one}
use Rattle.verdict_report.specs.LiveText.{entries_text, entry_text}
use Rattle.verdict_report.proofs.EntryPlaces.{entry-behind}
use Rattle.reply_report.proofs.blocks.append_entry_behind.Goals as goal

pub unreachable-requires : goal.unreachable-requires
unreachable-requires c =
    item-there c.args.journal.now.entries c.args.before c.requires
    (sym (entry-behind c.args.journal.now.entries c.args.before) ∙ sym c.get.ensures ∙ ap option_copied c.in_default.is)

pub returns : goal.returns
returns c =
    on_ok_weaker c.append_entry.result
    (λ written. numbered-one entries_text entry_text (λ n e es. refl) c.args.journal.now.entries c.args.before _ _ _ _
    (sym (entry-behind c.args.journal.now.entries c.args.before) ∙ sym c.get.ensures ∙ ap option_copied c.in-Some.is) written) c.append_entry.ensures
