use Rattle.std.proofs.Common.{sym, ◌∙◌, arith}
use Rattle.edit_book.proofs.Comings.{put_yes}
use Rattle.edit_book.proofs.HandedOver.{same_stamp}
use Rattle.edit_book.proofs.outline.Outline.may_put.Goals as goal

pub returns-clause-yes : goal.returns-clause-yes
returns-clause-yes c = λ text long few.
    put_yes c.args.self.now c.ids-ids.ensures.lawful (let early = c.if-version-ge1048576.false in omega (arith, early, c.version.ensures.version)) c.args.block c.args.seen c.lines_with.result text
    (sym c.stamp.ensures ∙ same_stamp c.stamp.result c.args.seen c.if-ne.ensures) (c.lines_with.ensures c.args.seen text long) few
