use Rattle.std.proofs.Common.{false, codes}
use Rattle.std.proofs.lemmas.Result.{on_ok_weaker}
use Rattle.serde_json.specs.Written.{compact_text}
use Rattle.std.proofs.Common.{◌+◌, drop}
use Rattle.serde_json.specs.View.{items_of}
use Rattle.serde_json.specs.Data.{array}
use Rattle.reply_report.specs.TalkJson.{numbered_values}
use Rattle.reply_report.proofs.JsonMembers.{member-written}
use Rattle.reply_report.proofs.since_json.append_entries.Goals as goal

pub returns : goal.returns
returns c =
    on_ok_weaker c.append_entry_list.result
    (λ written. member-written false (codes "entries") (compact_text (array (items_of (numbered_values (c.args.from + 1) (drop c.args.from c.args.journal.now.entries))))) c.args.out.now.items c.append_key.new.out.items c.append_entry_list.new.out.items c.in_ok-append_key.ensures written) c.append_entry_list.ensures
