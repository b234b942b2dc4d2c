use Rattle.std.proofs.lemmas.Result.{on_ok_weaker}
use Rattle.std.proofs.Common.{decimal}
use Rattle.reply_report.proofs.JsonMembers.{member-written}
use Rattle.reply_report.proofs.members.append_wide.Goals as goal

pub returns : goal.returns
returns c =
    on_ok_weaker c.append_number.result
    (λ written. member-written c.args.later (c.args.key.now) (decimal c.args.number) c.args.out.now.items c.append_key.new.out.items c.append_number.new.out.items c.in_ok-append_key.ensures written) c.append_number.ensures.ok
