use Rattle.std.proofs.Common.{rules, ap, sym, ◌∙◌, ◌≡◌, [], length, map}
use Rattle.edit_sessions.specs.Shared.{shared_opening, entry_session}
use Rattle.edit_sessions.specs.Talks.{talk_replies}
use Rattle.turn_book.specs.Passes.{view_of}
use Rattle.turn_book.proofs.Talked.{legal_last, none_legal, seen_last, unseen_fresh, written_back}
use Rattle.edit_book.specs.Memory.{first_memory}
use Rattle.edit_sessions.specs.Core.{document_core}
use Rattle.edit_sessions.proofs.CoreLaws.{is_core}
use Rattle.edit_sessions.proofs.run.run_all.Goals as goal

pub returns-then-is_empty-clause-legal : goal.returns-then-is_empty-clause-legal
returns-then-is_empty-clause-legal g c = λ first past unseen.
    let few : length c.args.scripts.now ≡ 0 = search rules in
    let unheard : c.of.result ≡ [] = search rules in
    let o = shared_opening c.args.shared.now in
    none_legal (document_core o) (first_memory o) (view_of c.args.pass).seen c.args.scripts.now c.of.result few unseen unheard

pub returns-clause-histories : goal.returns-clause-histories
returns-clause-histories g c = λ fresh.
    let same : c.in-Ok.talks.len ≡ length c.run.new.talks = c.in-Ok.talks.ok.0 ∙ sym (ap length c.as_mut_slice.ensures.value) ∙ sym c.run.auto.talks in
    let told : c.of-2.result ≡ map talk_replies c.run.new.talks = c.of-2.ensures ∙ c.into_replies.ensures ∙ ap (map talk_replies) (written_back c.run.new.talks c.in-Ok.talks.items c.in-Ok.talks.len same) in
    let o = shared_opening c.args.shared.now in
    seen_last (document_core o) (is_core o) (first_memory o) (view_of c.args.pass) (view_of c.run.new.pass) (view_of c.newest.new.pass).seen c.args.scripts.now (map talk_replies c.run.new.talks) c.of-2.result c.run.ensures.range.0
    c.run.ensures.range.1 c.requires.range c.newest.ensures.catches told (c.run.ensures.histories fresh)

pub returns-clause-legal : goal.returns-clause-legal
returns-clause-legal g c = λ first past unseen.
    let same : c.in-Ok.talks.len ≡ length c.run.new.talks = c.in-Ok.talks.ok.0 ∙ sym (ap length c.as_mut_slice.ensures.value) ∙ sym c.run.auto.talks in
    let told : c.of-2.result ≡ map talk_replies c.run.new.talks = c.of-2.ensures ∙ c.into_replies.ensures ∙ ap (map talk_replies) (written_back c.run.new.talks c.in-Ok.talks.items c.in-Ok.talks.len same) in
    let count = c.run.ensures.of_this.2 ∙ sym c.requires.of_this.2 in
    let o = shared_opening c.args.shared.now in
    let v = view_of c.args.pass in
    legal_last (document_core o) (is_core o) (first_memory o) (view_of c.args.pass) (view_of c.run.new.pass) (view_of c.newest.new.pass).seen c.args.scripts.now (map talk_replies c.run.new.talks) c.of-2.result c.run.ensures.range.0
    c.run.ensures.range.1 count c.requires.range c.newest.ensures.catches told (c.run.ensures.histories (unseen_fresh entry_session v.first v.past v.seen unseen)) first past
