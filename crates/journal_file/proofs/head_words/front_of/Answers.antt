use Rattle.journal_file.proofs.HeaderLines.{no_carriers, no_seen, no_session}
use Rattle.journal_file.proofs.head_words.front_of.Goals as goal

pub returns-then-session-ge-SESSIONS : goal.returns-then-session-ge-SESSIONS
returns-then-session-ge-SESSIONS c = no_session c.args.line.now c.in-Some.rest.now c.in-Some.session c.in-Some.ensures c.if-session-ge-SESSIONS.true

pub returns-in-None-behind : goal.returns-in-None-behind
returns-in-None-behind c = no_carriers c.args.line.now c.in-Some.rest.now c.in-Some-labelled.rest.now c.in-Some.session c.in-Some-labelled.seen c.in-Some.ensures c.in-Some-labelled.ensures c.in-None-behind.ensures

pub returns-in-None-labelled : goal.returns-in-None-labelled
returns-in-None-labelled c = no_seen c.args.line.now c.in-Some.rest.now c.in-Some.session c.in-Some.ensures c.in-None-labelled.ensures

pub returns-in-None : goal.returns-in-None
returns-in-None c = λ session seen text front. c.in-None.ensures session front.behind front.session_is
