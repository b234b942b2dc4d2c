use Rattle.journal_file.proofs.HeadReadings.{head_none, head_taken, head_text_is_line}
use Rattle.journal_file.proofs.head.take_line.Goals as goal

pub may_stand-requires-clause-line : goal.may_stand-requires-clause-line
may_stand-requires-clause-line c = head_text_is_line c.args.at.rest.now c.in-Some.text.now c.in-Some.next.rest.now c.in-Some.ensures.text

pub returns-then-branch-clause-text : goal.returns-then-branch-clause-text
returns-then-branch-clause-text c = head_taken c.args.so_far c.args.at.rest.now c.in-Some.text.now c.in-Some.next.rest.now c.in-Some.ensures.text (c.in_ok-may_stand-in-Some.ensures.yes c.if-branch.true)

pub returns-else-branch-clause-text : goal.returns-else-branch-clause-text
returns-else-branch-clause-text c = head_none c.args.so_far c.args.at.rest.now c.in-Some.text.now c.in-Some.next.rest.now c.in-Some.ensures.text (c.in_ok-may_stand-in-Some.ensures.no c.if-branch.false)
