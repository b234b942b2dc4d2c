use Rattle.std.proofs.Common.{◌<◌, ◌++◌, List, All, map, length, sym, subst, ap, ◌∙◌, arith}
use Rattle.face_data.specs.View.{changed_of}
use Rattle.loop_history.specs.Rows.{IsLoopTable}
use Rattle.loop_history.specs.declared.row.LoopRow.{LoopRow}
use Rattle.loop_history.proofs.TextTables.{is_table_both}
use Rattle.loop_history.proofs.table.LoopTable.append_through.Goals as goal

pub invariant_of-self-2 : goal.invariant_of-self-2
invariant_of-self-2 c =
    let rows : List LoopRow = c.self.inside.rows in
    let later : List LoopRow = c.later.inside.rows in
    let lines = c.args.first.now.lines in
    let appended = c.in_ok-append.ensures.ok ∙ ap (λ (more : List LoopRow). rows ++ more) c.in_ok-more.ensures in
    subst IsLoopTable (sym appended)
    (is_table_both (map (changed_of c.args.first.now.segs.now) c.args.first.now.changes.now) lines rows later c.self.invariant c.later.invariant
    (subst (All (λ (row : LoopRow). row.offset < lines)) (sym c.self.view_is) c.requires.before)
    (omega (arith, c.requires.few, ap length c.self.view_is, ap length c.later.view_is)))

pub rows_through-requires-clause-order : goal.rows_through-requires-clause-order
rows_through-requires-clause-order c = c.requires.good.good.fair.in_order

pub rows_through-requires-clause-parts : goal.rows_through-requires-clause-parts
rows_through-requires-clause-parts c = c.requires.packed.changes_fit
