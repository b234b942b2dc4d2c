use Rattle.std.proofs.Common.{◌≡◌, ◌++◌, ℕ, OnOk, true, subst}
use Rattle.serde_json.specs.Data.{Members}
use Rattle.serde_json.specs.Written.{members_text}
use Rattle.reply_report.specs.TalkJson.{count_member}
use Rattle.reply_report.proofs.members.append_count.Goals as goal

pub returns : goal.returns
returns c =
    subst (λ (n : ℕ). OnOk c.append_wide.result ((rest : Members) → c.append_wide.new.out.items ++ members_text true rest ≡ c.args.out.now.items ++ members_text c.args.later (count_member c.args.key.now n rest)))
    c.from.ensures c.append_wide.ensures
