use Rattle.std.proofs.Common.{subst}
use Rattle.block_summary.specs.declared.line.DraftedLineEnd.{DraftedLineEnd}
use Rattle.block_summary.specs.LineEnds.{EndsAs}
use Rattle.block_summary.proofs.Blocks.{goes_lines, stops_lines, rows_more, rows_wider}
use Rattle.block_summary.proofs.adding.add_read.Goals as goal

pub returns-in-Stops-clause-lines : goal.returns-in-Stops-clause-lines
returns-in-Stops-clause-lines c =
    let profile = c.args.setting.now.profile in
    let read = c.args.read.now in
    let old = c.args.draft.now in
    let new = c.line.new.self in
    stops_lines profile read old new c.in-Stops.fault (subst (λ (end : DraftedLineEnd). EndsAs profile read old new end) c.in-Stops.is c.in_ok-fault.ensures)

pub returns-in-Stops-clause-rows : goal.returns-in-Stops-clause-rows
returns-in-Stops-clause-rows c =
    let profile = c.args.setting.now.profile in
    let read = c.args.read.now in
    let old = c.args.draft.now in
    let new = c.line.new.self in
    rows_wider old.lines new.lines c.args.loops.now
    (stops_lines profile read old new c.in-Stops.fault (subst (λ (end : DraftedLineEnd). EndsAs profile read old new end) c.in-Stops.is c.in_ok-fault.ensures)) c.requires.rows

pub returns-in_ok-add_row-in-GoesOn-clause-lines : goal.returns-in_ok-add_row-in-GoesOn-clause-lines
returns-in_ok-add_row-in-GoesOn-clause-lines c =
    let profile = c.args.setting.now.profile in
    let read = c.args.read.now in
    let old = c.args.draft.now in
    let new = c.line.new.self in
    goes_lines profile read old new c.in-GoesOn.formed (subst (λ (end : DraftedLineEnd). EndsAs profile read old new end) c.in-GoesOn.is c.in_ok-fault.ensures)

pub returns-in_ok-add_row-in-GoesOn-clause-rows : goal.returns-in_ok-add_row-in-GoesOn-clause-rows
returns-in_ok-add_row-in-GoesOn-clause-rows c =
    let profile = c.args.setting.now.profile in
    let read = c.args.read.now in
    let old = c.args.draft.now in
    let new = c.line.new.self in
    rows_more old.lines new.lines c.args.loops.now c.add_row.new.loops c.lines-offset.result c.in-GoesOn.formed
    (goes_lines profile read old new c.in-GoesOn.formed (subst (λ (end : DraftedLineEnd). EndsAs profile read old new end) c.in-GoesOn.is c.in_ok-fault.ensures))
    c.lines-offset.ensures c.in_ok-add_row-in-GoesOn.ensures c.requires.rows
