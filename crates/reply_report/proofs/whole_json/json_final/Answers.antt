use Rattle.std.proofs.lemmas.Result.{on_ok_weaker}
use Rattle.reply_report.proofs.JsonAlone.{final_json}
use Rattle.reply_report.proofs.whole_json.json_final.Goals as goal

pub returns-clause-ok : goal.returns-clause-ok
returns-clause-ok g c =
    on_ok_weaker c.end.result
    (final_json c.args.book.now.opening c.args.book.now.entries c.in_ok-ending.ending.verdict c.in_ok-ending.ending.broken c.in_ok-text.text.items c.args.out.now.items c.end.new.out.items
    c.in_ok-ending.ensures.ending.0 c.in_ok-ending.ensures.ending.1 c.in_ok-text.ensures) c.end.ensures.ok
