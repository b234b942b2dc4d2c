use Rattle.std.proofs.Common.{map}
use Rattle.serde_json.specs.View.{items_of}
use Rattle.serde_json.specs.Data.{string}
use Rattle.reply_report.proofs.JsonMembers.{list-written}
use Rattle.reply_report.proofs.since_json.append_name_list.Goals as goal

pub returns : goal.returns
returns c =
    list-written c.args.out.now.items c.extend_from_slice.new.self.items c.append_name_items.new.out.items c.extend_from_slice-2.new.self.items (items_of (map string c.args.declared.now))
    c.in_ok-extend_from_slice.ensures.items c.in_ok-append_name_items.ensures c.in_ok-extend_from_slice-2.ensures.items
