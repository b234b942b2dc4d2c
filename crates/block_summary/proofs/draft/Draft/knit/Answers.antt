use Rattle.std.proofs.Common.{◌+◌, arith}
use Rattle.block_summary.proofs.DraftSteps.{where_ok, put_on_hook, knit_more}
use Rattle.block_summary.proofs.draft.Draft.knit.Goals as goal

pub invariant_of-self-2 : goal.invariant_of-self-2
invariant_of-self-2 c =
    let inside = c.self.inside in
    put_on_hook (inside.lines + 1) (inside.made + 1) inside.kept inside.effect inside.lasts.lasts inside.symbols c.swap.new.self inside.bare c.args.n c.one-segs.result c.requires.hook
    (omega (arith, c.self.invariant.few)) c.swap.ensures.rising c.in_ok-was.ensures.ok c.self.invariant.bare_are

pub returns-clause-summary : goal.returns-clause-summary
returns-clause-summary c =
    let inside = c.self.inside in
    where_ok _ _ c.match-was.result _ (λ profile dir x xs free carriers.
    knit_more profile dir c.args.n x xs c.args.self.now inside.lines inside.made inside.kept inside.symbols c.swap.new.self inside.lasts.lasts inside.effect c.one-segs.result
    c.self.view_is c.one-segs.ensures c.in_ok-was.ensures.ok free carriers c.requires.slider)
