use Rattle.std.proofs.Common.{◌∙◌, sym}
use Rattle.reply_report.proofs.SavedLines.{line-found, line-left}
use Rattle.reply_report.proofs.saved_json.first_line.Goals as goal

pub returns-in-Some-clause-first : goal.returns-in-Some-clause-first
returns-in-Some-clause-first c = line-found c.args.text.now c.in-Some.end (sym c.line_end.ensures ∙ c.in-Some.is)

pub returns-in-None-clause-first : goal.returns-in-None-clause-first
returns-in-None-clause-first c = line-left c.args.text.now c.requires (sym c.line_end.ensures ∙ c.in-None.is)
