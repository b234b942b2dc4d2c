use Rattle.std.proofs.Common.{◌≡◌, ◌++◌, take}
use Rattle.verdict_report.specs.JsonText.{more_text}
use Rattle.reply_report.specs.TalkJson.{carrier_string}
use Rattle.reply_report.proofs.loops.append_more_names.Given as goal

abbrev pub invariant-yarns : goal.invariant-yarns
invariant-yarns l = l.out.items ≡ l.fn.out.items ++ more_text (carrier_string l.declared) (take l.c-index l.yarns)
