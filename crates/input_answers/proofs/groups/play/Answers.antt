use Rattle.std.proofs.Common.{◌≡◌, [], rules, length}
use Rattle.edit_groups.proofs.SessionRuns.{none_run}
use Rattle.input_answers.proofs.groups.play.Goals as goal

pub returns-then-numbers-eq0-clause-legal : goal.returns-then-numbers-eq0-clause-legal
returns-then-numbers-eq0-clause-legal g c =
    let few : length c.args.sessions.now ≡ 0 = search rules in
    let unheard : c.of.result ≡ [] = search rules in
    none_run c.args.opened.book.opening c.new.result c.args.sessions.now c.of.result few c.new.ensures unheard
