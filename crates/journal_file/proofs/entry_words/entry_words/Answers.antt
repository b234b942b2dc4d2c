use Rattle.journal_file.proofs.EntryLines.{entry_no_edit, entry_no_session, entry_none}
use Rattle.journal_file.proofs.entry_words.entry_words.Goals as goal

pub returns-then-session-ge-SESSIONS : goal.returns-then-session-ge-SESSIONS
returns-then-session-ge-SESSIONS c = entry_no_session c.args.line.now c.in-Some.rest.now c.in-Some.session c.in-Some.ensures c.if-session-ge-SESSIONS.true

pub returns-in-None-edit_words : goal.returns-in-None-edit_words
returns-in-None-edit_words c = entry_no_edit c.args.line.now c.in-Some.rest.now c.in-Some.session c.in-Some.ensures c.in-None-edit_words.ensures

pub returns-in-None : goal.returns-in-None
returns-in-None c = entry_none c.args.line.now c.in-None.ensures
