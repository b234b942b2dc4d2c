use Rattle.std.proofs.Common.{sym, ◌∙◌}
use Rattle.block_summary.proofs.DraftSteps.{put_on_hook}
use Rattle.block_summary.proofs.draft.Draft.put.Goals as goal

pub invariant_of-self-2 : goal.invariant_of-self-2
invariant_of-self-2 c =
    let inside = c.self.inside in
    put_on_hook inside.lines inside.made inside.kept inside.effect inside.lasts.lasts inside.symbols c.swap.new.self inside.bare c.args.n c.args.segs (sym c.is_slider.ensures ∙ c.if-is_slider.false)
    c.self.invariant.few c.swap.ensures.rising c.in_ok-swap.ensures.ok c.self.invariant.bare_are
