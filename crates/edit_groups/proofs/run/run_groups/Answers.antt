use Rattle.std.proofs.Common.{rules, ap, sym, ◌∙◌, ◌≡◌, [], length, map}
use Rattle.edit_groups.specs.Shared.{group_book_opening, session_of_chunk}
use Rattle.edit_groups.specs.Talks.{group_talk_replies}
use Rattle.edit_groups.proofs.SessionRuns.{heard_last, legal_run, none_heard, none_run}
use Rattle.turn_book.specs.Passes.{view_of}
use Rattle.turn_book.proofs.Talked.{unseen_fresh, written_back}
use Rattle.edit_groups.proofs.run.run_groups.Goals as goal

pub returns-then-is_empty-clause-heard : goal.returns-then-is_empty-clause-heard
returns-then-is_empty-clause-heard g c = λ fresh.
    let few : length c.args.scripts.now ≡ 0 = search rules in
    let unheard : c.of.result ≡ [] = search rules in
    none_heard (group_book_opening c.args.shared.now) (view_of c.args.pass).first (view_of c.args.pass).seen c.args.scripts.now c.of.result few unheard

pub returns-then-is_empty-clause-legal : goal.returns-then-is_empty-clause-legal
returns-then-is_empty-clause-legal g c = λ first past unseen.
    let few : length c.args.scripts.now ≡ 0 = search rules in
    let unheard : c.of.result ≡ [] = search rules in
    none_run (group_book_opening c.args.shared.now) (view_of c.args.pass).seen c.args.scripts.now c.of.result few unseen unheard

pub returns-clause-heard : goal.returns-clause-heard
returns-clause-heard g c = λ fresh.
    let same : c.in-Ok.talks.len ≡ length c.run.new.talks = c.in-Ok.talks.ok.0 ∙ sym (ap length c.as_mut_slice.ensures.value) ∙ sym c.run.auto.talks in
    let told : c.of-2.result ≡ map group_talk_replies c.run.new.talks = c.of-2.ensures ∙ c.into_replies.ensures ∙ ap (map group_talk_replies) (written_back c.run.new.talks c.in-Ok.talks.items c.in-Ok.talks.len same) in
    heard_last (group_book_opening c.args.shared.now) (view_of c.args.pass) (view_of c.run.new.pass) (view_of c.newest.new.pass).seen c.args.scripts.now (map group_talk_replies c.run.new.talks) c.of-2.result c.run.ensures.range.0
    c.run.ensures.range.1 c.requires.range c.newest.ensures.catches told (c.run.ensures.heard fresh)

pub returns-clause-legal : goal.returns-clause-legal
returns-clause-legal g c = λ first past unseen.
    let same : c.in-Ok.talks.len ≡ length c.run.new.talks = c.in-Ok.talks.ok.0 ∙ sym (ap length c.as_mut_slice.ensures.value) ∙ sym c.run.auto.talks in
    let told : c.of-2.result ≡ map group_talk_replies c.run.new.talks = c.of-2.ensures ∙ c.into_replies.ensures ∙ ap (map group_talk_replies) (written_back c.run.new.talks c.in-Ok.talks.items c.in-Ok.talks.len same) in
    let count = c.run.ensures.of_this.2 ∙ sym c.requires.of_this.2 in
    let v = view_of c.args.pass in
    legal_run (group_book_opening c.args.shared.now) (view_of c.args.pass) (view_of c.run.new.pass) (view_of c.newest.new.pass).seen c.args.scripts.now (map group_talk_replies c.run.new.talks) c.of-2.result c.run.ensures.range.0
    c.run.ensures.range.1 count c.requires.range c.newest.ensures.catches told (c.run.ensures.heard (unseen_fresh session_of_chunk v.first v.past v.seen unseen)) first past
