use Rattle.std.proofs.Common.{◌+◌, Option, sym, ap, ◌∙◌}
use Rattle.knit_base.specs.Reasons.{or_else}
use Rattle.block_summary.specs.Asks.{fact_of_formed}
use Rattle.block_summary.specs.declared.formed.FormedLoop.{FormedLoop}
use Rattle.block_summary.proofs.FormedLoops.{loop-formed, stacks-read}
use Rattle.block_summary.proofs.instr_ask.ask_instr.Goals as goal

pub returns-clause-broken : goal.returns-clause-broken
returns-clause-broken c s t first read =
    let carriers = c.in_ok-carriers.ensures.broken t in
    let rack = c.ask-rack.ensures.broken t in
    let slider = c.in_ok-slider.ensures.broken s t first read in
    let sizes = c.in_ok-beds.ensures.broken s t first read in
    let floats = c.in_ok-carriers.ensures.floats t in
    λ i. or_else (carriers i) (or_else (rack i) (or_else (slider i) (or_else (sizes i) (floats i))))

pub returns-clause-step : goal.returns-clause-step
returns-clause-step c s t first offset read =
    let effect = c.in_ok-carriers.ensures.changes in
    let line = first + offset in
    let segments = c.args.segments.now in
    let rack = sym (effect.rack line t) in
    let ins = sym (effect.ins line t) in
    let hook = sym (effect.hook line t) in
    let lasts = sym (c.in_ok-carriers.ensures.lasts_after t) in
    λ i. record {
      rack = rack i;
      ins = ins i;
      hook = hook i;
      lasts = lasts i;
      stacks = λ n. stacks-read segments c.args.instr.now s t first offset read _ _ c.in_ok-beds.ensures.changes c.in_ok-formed_loop.ensures n i;
    }

pub returns-clause-formed : goal.returns-clause-formed
returns-clause-formed c s t first offset read =
    loop-formed c.args.segments.now c.args.instr.now s t first (first + offset) read
    ∙ ap (λ (formed : Option FormedLoop). fact_of_formed formed s first (first + offset)) (sym c.in_ok-formed_loop.ensures)
