use Rattle.std.proofs.Common.{ap, ◌∙◌}
use Rattle.block_summary.proofs.NearSteps.{lasts_next, lasts_put}
use Rattle.block_summary.specs.declared.draft.Draft.TheInside.{Inside}
use Rattle.block_summary.proofs.draft.Draft.put_lasts.Goals as goal

pub loop-last-preserved : goal.loop-last-preserved
loop-last-preserved c =
    let inside = c.loop-last.self-inside in
    record {
      rest_stays = ap (λ (i : Inside). record i { lasts = c.put.new.self }) c.loop-last.invariant.rest_stays;
      so_far = lasts_next c.args.lasts.now c.loop-last.last-index _ inside.lasts.lasts c.put.new.self.lasts c.loop-last-test.true c.in_ok-put.ensures.ok ∙ c.loop-last.invariant.so_far;
      draft = lasts_put inside.lines inside.made inside.kept inside.effect inside.lasts.lasts c.put.new.self.lasts inside.symbols inside.bare c.loop-last.invariant.draft;
    }
