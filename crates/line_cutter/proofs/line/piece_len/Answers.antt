use Rattle.std.proofs.Common.{None, Some}
use Rattle.line_cutter.proofs.Pieces.{first_feed, first_step}
use Rattle.line_cutter.proofs.line.piece_len.Goals as goal

pub returns-in-Some : goal.returns-in-Some
returns-in-Some c =
    let found = first_feed c.args.rest.now (Some c.in-Some.len) (first_step _ _ _ (Some c.in-Some.len) c.memchr_iter.ensures.value c.in-Some.ensures.steps) in
    record { within = found.0; first = found.1 }

pub returns-in-None-clause-first : goal.returns-in-None-clause-first
returns-in-None-clause-first c = first_feed c.args.rest.now None (first_step _ _ _ None c.memchr_iter.ensures.value c.in-None.ensures.steps)
