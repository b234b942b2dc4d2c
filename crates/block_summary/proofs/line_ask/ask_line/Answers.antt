use Rattle.std.proofs.Common.{◌+◌, sym, ap, ◌∙◌}
use Rattle.carriage_model.specs.Loops.{fact_made}
use Rattle.carriage_model.specs.Rules.{broken}
use Rattle.carriage_model.specs.Steps.{step}
use Rattle.block_summary.specs.Asks.{line_ask}
use Rattle.block_summary.specs.declared.line_ask.LineAsk.TheVariants.{Asks}
use Rattle.block_summary.proofs.line_ask.ask_line.Goals as goal

pub returns-in_ok-ask_instr-in-Instr-clause-broken :
    goal.returns-in_ok-ask_instr-in-Instr-clause-broken
returns-in_ok-ask_instr-in-Instr-clause-broken c s t first read =
    ap (λ line. broken c.args.profile.now line t) c.in-Instr.is
    ∙ c.in_ok-ask_instr-in-Instr.ensures.broken s t first read

pub returns-in_ok-ask_instr-in-Instr-clause-step :
    goal.returns-in_ok-ask_instr-in-Instr-clause-step
returns-in_ok-ask_instr-in-Instr-clause-step c s t first offset read =
    ap (λ line. step c.args.profile.now (first + offset) line t) c.in-Instr.is
    ∙ c.in_ok-ask_instr-in-Instr.ensures.step s t first offset read

pub returns-in_ok-ask_instr-in-Instr-clause-formed :
    goal.returns-in_ok-ask_instr-in-Instr-clause-formed
returns-in_ok-ask_instr-in-Instr-clause-formed c s t first offset read =
    ap (λ line. fact_made (first + offset) line t) c.in-Instr.is
    ∙ c.in_ok-ask_instr-in-Instr.ensures.formed s t first offset read

pub returns-in_ok-ask_instr-in-Instr-clause-is :
    goal.returns-in_ok-ask_instr-in-Instr-clause-is
returns-in_ok-ask_instr-in-Instr-clause-is c =
    ap Asks c.in_ok-ask_instr-in-Instr.ensures.is
    ∙ ap (λ line. line_ask c.args.profile.now line c.args.segments.now) (sym c.in-Instr.is)
