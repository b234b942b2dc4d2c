use Rattle.std.proofs.Common.{◌++◌, ◌∙◌, ap}
use Rattle.reply_report.proofs.SaidAlone.{opened_alone}
use Rattle.reply_report.proofs.whole.say_opened.Goals as goal

pub returns-clause-ok : goal.returns-clause-ok
returns-clause-ok c =
    opened_alone c.args.book.now.opening c.args.book.now.entries c.verdict-brief.result c.new-text.result.items c.append_opened.new.out.items c.args.out.now.items c.extend_from_slice.new.self.items
    c.new-text.ensures.items c.verdict-brief.ensures c.in_ok-append_opened.ensures (c.in_ok-extend_from_slice.ensures.items ∙ ap (λ t. c.args.out.now.items ++ t) c.deref.ensures.value)
