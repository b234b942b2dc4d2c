use Rattle.std.proofs.Common.{All, subst, sym}
use Rattle.line_cutter.specs.Cut.{IsGoodLine}
use Rattle.input_answers.proofs.MadeTexts.{made-good}
use Rattle.input_answers.proofs.made.body_of.Goals as goal

pub of-requires : goal.of-requires
of-requires c = subst (All IsGoodLine) (sym c.requires) (made-good c.args.rows c.args.start)
