use Rattle.std.proofs.Common.{sym, ◌∙◌, arith}
use Rattle.std.proofs.lemmas.Bool.{ltb-true}
use Rattle.edit_book.proofs.Comings.{cut_yes}
use Rattle.edit_book.proofs.HandedOver.{same_stamp}
use Rattle.edit_book.proofs.outline.Outline.may_cut.Goals as goal

pub returns-clause-yes : goal.returns-clause-yes
returns-clause-yes c = λ early.
    cut_yes c.args.self.now c.ids-ids.ensures.lawful (let few = ltb-true c.version.result 1048576 early in omega (arith, few, c.version.ensures.version)) c.args.block c.args.seen
    (sym c.stamp.ensures ∙ same_stamp c.stamp.result c.args.seen c.if-ne.ensures)
