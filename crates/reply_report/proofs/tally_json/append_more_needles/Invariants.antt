use Rattle.std.proofs.Common.{◌≡◌, ◌++◌, take}
use Rattle.verdict_report.specs.JsonText.{more_text}
use Rattle.reply_report.specs.TallyJson.{needle_string}
use Rattle.reply_report.proofs.tally_json.append_more_needles.Given as goal

abbrev pub invariant-needles : goal.invariant-needles
invariant-needles l = l.out.items ≡ l.fn.out.items ++ more_text needle_string (take l.needle-index l.needles)
