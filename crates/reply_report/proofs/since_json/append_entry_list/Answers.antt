use Rattle.std.proofs.Common.{◌+◌, drop}
use Rattle.serde_json.specs.View.{items_of}
use Rattle.reply_report.specs.TalkJson.{numbered_values}
use Rattle.reply_report.proofs.JsonMembers.{list-written}
use Rattle.reply_report.proofs.since_json.append_entry_list.Goals as goal

pub returns : goal.returns
returns c =
    list-written c.args.out.now.items c.extend_from_slice.new.self.items c.append_entry_items.new.out.items c.extend_from_slice-2.new.self.items (items_of (numbered_values (c.args.from + 1) (drop c.args.from c.args.journal.now.entries)))
    c.in_ok-extend_from_slice.ensures.items c.in_ok-append_entry_items.ensures c.in_ok-extend_from_slice-2.ensures.items
