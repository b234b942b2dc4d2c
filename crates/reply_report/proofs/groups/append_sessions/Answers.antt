use Rattle.std.proofs.Common.{◌∙◌, ◌++◌, refl, length, map, ap}
use Rattle.std.specs.Option.{option_map}
use Rattle.std.proofs.lemmas.Option.{slice_get-map, slice_get_read}
use Rattle.edit_journal.specs.Documents.{names_at}
use Rattle.reply_report.specs.GroupsText.{steps_session, steps_sessions}
use Rattle.knit_base.proofs.Rests.{numbered-one}
use Rattle.reply_report.proofs.groups.append_sessions.Goals as goal

pub loop-session-preserved : goal.loop-session-preserved
loop-session-preserved c =
    numbered-one (steps_sessions (names_at c.args.book.now.opening c.args.book.now.entries)) (steps_session (names_at c.args.book.now.opening c.args.book.now.entries)) (λ n rs more. refl) (map (λ list. list.items) c.args.sessions.now) c.loop-session.session
    c.loop-session.session c.index-sessions-session.result.items c.loop-session.out.items c.append_session.new.out.items
    (slice_get-map (λ list. list.items) c.args.sessions.now c.loop-session.session
    ∙ ap (option_map (λ list. list.items)) (slice_get_read c.args.sessions.now (length c.args.sessions.now) c.loop-session.session c.index-sessions-session.result refl c.loop-session-test.true c.index-sessions-session.is))
    (c.in_ok-append_session.ensures ∙ ap (λ rs. c.loop-session.out.items ++ steps_session (names_at c.args.book.now.opening c.args.book.now.entries) c.loop-session.session rs) c.deref.ensures.value)
    ∙ c.loop-session.invariant
