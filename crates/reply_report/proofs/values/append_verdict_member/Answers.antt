use Rattle.std.proofs.Common.{◌∙◌, ◌++◌, None, ap, codes, true}
use Rattle.serde_json.specs.Written.{compact_text}
use Rattle.verdict_report.specs.VerdictJson.{verdict_value}
use Rattle.reply_report.proofs.JsonMembers.{member-written}
use Rattle.reply_report.proofs.values.append_verdict_member.Goals as goal

pub returns : goal.returns
returns c =
    member-written true (codes "verdict") (compact_text (verdict_value c.args.declared.now c.args.broken.now c.args.verdict.now None)) c.args.out.now.items c.append_key.new.out.items c.extend_from_slice.new.self.items
    c.in_ok-append_key.ensures (c.in_ok-extend_from_slice.ensures.items ∙ ap (λ t. c.append_key.new.out.items ++ t) (c.deref.ensures.value ∙ c.in_ok-text.ensures))
