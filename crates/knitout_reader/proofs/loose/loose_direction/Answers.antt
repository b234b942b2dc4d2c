use Rattle.knitout_reader.proofs.LooseLines.{dir-front, token-leads}
use Rattle.knitout_reader.proofs.loose.loose_direction.Goals as goal

pub returns-clause-line : goal.returns-clause-line
returns-clause-line c =
    token-leads c.args.text.now _ _ _ _ c.in_ok-behind_some_blanks.ensures.line (dir-front _ _ c.in_ok-dir.dir c.in_ok-dir.ensures) c.in_ok-token.ensures.line
