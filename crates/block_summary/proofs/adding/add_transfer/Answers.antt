-- A line that forms no loop adds no row.
use Rattle.std.proofs.Common.{subst}
use Rattle.knit_base.specs.declared.instr.Instr.TheVariants.{Xfer}
use Rattle.knit_base.specs.declared.instr.Read.TheVariants as read
use Rattle.block_summary.specs.declared.line.DraftedLineEnd.{DraftedLineEnd}
use Rattle.block_summary.specs.LineEnds.{EndsAs}
use Rattle.block_summary.proofs.Blocks.{goes_lines, stops_lines, rows_wider}
use Rattle.block_summary.proofs.adding.add_transfer.Goals as goal

pub returns-in-Stops-clause-lines : goal.returns-in-Stops-clause-lines
returns-in-Stops-clause-lines c =
    let profile = c.args.setting.now.profile in
    let xfer = read.Instr (Xfer c.args.n c.args.n2) in
    let old = c.args.draft.now in
    let new = c.transfer.new.self in
    stops_lines profile xfer old new c.in-Stops.fault (subst (λ (end : DraftedLineEnd). EndsAs profile xfer old new end) c.in-Stops.is c.in_ok-fault.ensures)

pub returns-in-Stops-clause-rows : goal.returns-in-Stops-clause-rows
returns-in-Stops-clause-rows c =
    let profile = c.args.setting.now.profile in
    let xfer = read.Instr (Xfer c.args.n c.args.n2) in
    let old = c.args.draft.now in
    let new = c.transfer.new.self in
    rows_wider old.lines new.lines c.args.loops.now
    (stops_lines profile xfer old new c.in-Stops.fault (subst (λ (end : DraftedLineEnd). EndsAs profile xfer old new end) c.in-Stops.is c.in_ok-fault.ensures)) c.requires.rows

pub returns-clause-lines : goal.returns-clause-lines
returns-clause-lines c =
    let profile = c.args.setting.now.profile in
    let xfer = read.Instr (Xfer c.args.n c.args.n2) in
    let old = c.args.draft.now in
    let new = c.transfer.new.self in
    goes_lines profile xfer old new c.in-GoesOn.field-0 (subst (λ (end : DraftedLineEnd). EndsAs profile xfer old new end) c.in-GoesOn.is c.in_ok-fault.ensures)

pub returns-clause-rows : goal.returns-clause-rows
returns-clause-rows c =
    let profile = c.args.setting.now.profile in
    let xfer = read.Instr (Xfer c.args.n c.args.n2) in
    let old = c.args.draft.now in
    let new = c.transfer.new.self in
    rows_wider old.lines new.lines c.args.loops.now
    (goes_lines profile xfer old new c.in-GoesOn.field-0 (subst (λ (end : DraftedLineEnd). EndsAs profile xfer old new end) c.in-GoesOn.is c.in_ok-fault.ensures)) c.requires.rows
