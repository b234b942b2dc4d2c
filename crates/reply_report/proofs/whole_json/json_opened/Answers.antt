use Rattle.std.proofs.Common.{◌∙◌, ap}
use Rattle.std.proofs.lemmas.Result.{on_ok_weaker}
use Rattle.reply_report.specs.TalkText.{broken_place}
use Rattle.reply_report.proofs.JsonAlone.{opened_json}
use Rattle.reply_report.proofs.whole_json.json_opened.Goals as goal

pub returns-clause-ok : goal.returns-clause-ok
returns-clause-ok c =
    on_ok_weaker c.end.result
    (opened_json c.args.book.now.opening c.args.book.now.entries c.verdict-brief.result c.version.result c.block_count.result c.broken_place-broken.result c.in_ok-text.text.items c.append_opened.new.out.items c.args.out.now.items c.end.new.out.items
    c.verdict-brief.ensures c.version.ensures.version c.block_count.ensures (c.broken_place-broken.ensures ∙ ap (broken_place c.args.book.now.opening c.args.book.now.entries) c.line_of_brief.ensures)
    c.in_ok-text.ensures c.in_ok-append_opened.ensures) c.end.ensures.ok
