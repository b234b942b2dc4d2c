use Rattle.knitout_reader.proofs.LooseLines.{comment-ends, feed-ends}
use Rattle.knitout_reader.proofs.loose.line_end.Goals as goal

pub returns-in-Some-clause-line : goal.returns-in-Some-clause-line
returns-in-Some-clause-line c =
    let blanks = c.behind_blanks-last.ensures.blanks in
    feed-ends blanks.0 c.args.text.now _ _ blanks.1 blanks.2 c.in-Some.ensures

pub returns-clause-line : goal.returns-clause-line
returns-clause-line c =
    let blanks = c.behind_blanks-last.ensures.blanks in
    comment-ends blanks.0 c.args.text.now _ _ _ blanks.1 blanks.2 c.in_ok-comment.ensures c.in_ok-rest.ensures.line
