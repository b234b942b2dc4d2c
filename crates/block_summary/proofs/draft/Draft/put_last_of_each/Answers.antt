use Rattle.std.proofs.Common.{ap, ◌∙◌}
use Rattle.block_summary.proofs.NearSteps.{each_next, lasts_put}
use Rattle.block_summary.specs.declared.draft.Draft.TheInside.{Inside}
use Rattle.block_summary.proofs.draft.Draft.put_last_of_each.Goals as goal

pub loop-c-preserved : goal.loop-c-preserved
loop-c-preserved c =
    let inside = c.loop-c.self-inside in
    record {
      rest_stays = ap (λ (i : Inside). record i { lasts = c.put.new.self }) c.loop-c.invariant.rest_stays;
      so_far = each_next c.args.at c.args.carriers.now c.loop-c.c-index _ inside.lasts.lasts c.put.new.self.lasts c.loop-c-test.true c.in_ok-put.ensures.ok ∙ c.loop-c.invariant.so_far;
      draft = lasts_put inside.lines inside.made inside.kept inside.effect inside.lasts.lasts c.put.new.self.lasts inside.symbols inside.bare c.loop-c.invariant.draft;
    }
