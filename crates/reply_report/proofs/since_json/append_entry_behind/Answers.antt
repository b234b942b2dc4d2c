use Rattle.std.proofs.Common.{◌∙◌, ◌+◌, ap, sym}
use Rattle.std.specs.Option.{option_copied}
use Rattle.std.proofs.lemmas.Result.{on_ok_weaker}
use Rattle.knit_base.proofs.Rests.{item-there}
use Rattle.verdict_report.proofs.EntryPlaces.{entry-behind}
use Rattle.reply_report.proofs.JsonEntries.{entry-written}
use Rattle.reply_report.proofs.since_json.append_entry_behind.Goals as goal

pub unreachable-requires : goal.unreachable-requires
unreachable-requires c =
    item-there c.args.journal.now.entries c.args.at c.requires (sym (entry-behind c.args.journal.now.entries c.args.at) ∙ sym c.get.ensures ∙ ap option_copied c.in_default.is)

pub returns : goal.returns
returns c =
    on_ok_weaker c.append_entry.result
    (λ written. entry-written c.args.journal.now.entries c.args.at (c.args.at + 1) _ c.args.later c.args.out.now.items c.append_comma.new.out.items c.append_entry.new.out.items
    (sym (entry-behind c.args.journal.now.entries c.args.at) ∙ sym c.get.ensures ∙ ap option_copied c.in-Some.is) c.in_ok-append_comma.ensures written) c.append_entry.ensures
