use Rattle.std.proofs.Common.{None, arith}
use Rattle.std.proofs.lemmas.Grind.{common_steps}
use Rattle.serde_json.specs.Written.{compact_text}
use Rattle.verdict_report.specs.VerdictJson.{verdict_value}
use Rattle.reply_report.proofs.JsonMembers.{without-end}
use Rattle.reply_report.proofs.values.verdict_value_of.Goals as goal

pub returns : goal.returns
returns c =
    without-end (compact_text (verdict_value c.args.declared.now c.args.broken.now c.args.verdict.now None)) c.in_ok-text.text.items c.pop.new.self.items _ (grind (arith, common_steps)) c.in_ok-text.ensures c.pop.ensures.rest
