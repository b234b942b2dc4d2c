use Rattle.std.proofs.lemmas.Result.{on_ok_weaker}
use Rattle.json.specs.Print.{quoted}
use Rattle.reply_report.proofs.JsonMembers.{member-written}
use Rattle.reply_report.proofs.members.append_word.Goals as goal

pub returns : goal.returns
returns c =
    on_ok_weaker c.append_string.result
    (λ written. member-written c.args.later (c.args.key.now) (quoted (c.args.word.now)) c.args.out.now.items c.append_key.new.out.items c.append_string.new.out.items c.in_ok-append_key.ensures written) c.append_string.ensures
