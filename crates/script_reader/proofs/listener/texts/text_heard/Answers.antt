use Rattle.script_reader.proofs.TextsHeard.{group_line, long_line, names_heard, part_line}
use Rattle.script_reader.proofs.listener.texts.text_heard.Goals as goal

pub returns-in-Header : goal.returns-in-Header
returns-in-Header c = λ h stands. names_heard c.header_heard.result h c.args.number c.in-Header.session c.args.state c.args.text.now c.in-Header.is stands (c.header_heard.ensures h)

pub returns-in-Long : goal.returns-in-Long
returns-in-Long c = λ h stands.
    long_line c.long_heard.result h c.args.number c.in-Long.long c.args.state c.args.text.now c.in-Long.is stands (λ before. c.long_heard.ensures h c.args.number before c.args.text.now)

pub returns-in-Text : goal.returns-in-Text
returns-in-Text c = λ h stands.
    let more = c.with_line.ensures in
    part_line c.part_heard.result h c.args.number c.in-Text.part c.with_line.result c.args.state c.args.text.now c.in-Text.is stands more.session more.edit more.missing more.keeps
    (c.part_heard.ensures h c.args.number)

pub returns : goal.returns
returns c = λ h stands.
    let more = c.with_line-in-GroupText.ensures in
    group_line c.group_text_heard.result h c.args.number c.in-GroupText.group c.in-GroupText.part c.with_line-in-GroupText.result c.args.state c.args.text.now c.in-GroupText.is stands
    more.edit more.missing more.keeps (c.group_text_heard.ensures h c.args.number)
