use Rattle.std.proofs.Common.{◌≡◌, ◌+◌, ◌-◌, suc, take, Some, None, sym, ◌∙◌, ap, arith}
use Rattle.tree_shape.specs.Composing.{latest_room}
use Rattle.tree_shape.proofs.Rows.{some_row}
use Rattle.tree_shape.proofs.Rooms.{cond_same, cond_other, latest-none}
use Rattle.value_tree.proofs.Needs.{latest_last}
use Rattle.value_tree.proofs.need.found.Goals as goal
use Rattle.value_tree.proofs.need.found.Goals.{in-Some+else-row-node, in_default}

pub returns-then-row-node : goal.returns-then-row-node
returns-then-row-node g c =
    let n = c.args.node in
    let rows = c.args.dirty.now in
    let rs = g.S.Values.rooms c.args.need.now in
    let at = c.args.rows - 1 - c.loop-behind.behind in
    let next : c.args.rows - c.loop-behind.behind ≡ suc at = omega (arith, c.loop-behind-test.true) in
    sym (c.loop-behind.invariant
    ∙ (ap (λ k. latest_room n rows (take k rs) None) next
    ∙ (latest_last n at rows rs c.in-Some.row c.nth.result None (sym c.get.ensures ∙ c.in-Some.is) c.nth.ensures
    ∙ cond_same n c.in-Some.row.node (Some c.nth.result) (latest_room n rows (take at rs) None) (sym c.if-row-node.true))))

pub loop-behind-preserved : goal.loop-behind-preserved
loop-behind-preserved g c =
    let n = c.args.node in
    let rows = c.args.dirty.now in
    let rs = g.S.Values.rooms c.args.need.now in
    let at = c.args.rows - 1 - c.loop-behind.behind in
    let next : c.args.rows - c.loop-behind.behind ≡ suc at = omega (arith, c.loop-behind-test.true) in
    let rest : at ≡ c.args.rows - (c.loop-behind.behind + 1) = omega (arith, c.loop-behind-test.true) in
    elim c.match-get.branch [
      | in-Some+else-row-node w ↦
          let s = some_row rs at (omega (arith, c.loop-behind-test.true, c.requires.rows)) in
          c.loop-behind.invariant
          ∙ (ap (λ k. latest_room n rows (take k rs) None) next
          ∙ (latest_last n at rows rs w.in-Some.row s.0 None (sym c.get.ensures ∙ w.in-Some.is) s.1
          ∙ (cond_other n w.in-Some.row.node (Some s.0) (latest_room n rows (take at rs) None) (λ e. w.if-row-node.false (sym e))
          ∙ ap (λ k. latest_room n rows (take k rs) None) rest)))
      | in_default w ↦ let s = some_row rows at (omega (arith, c.loop-behind-test.true, c.requires.few)) in absurd (w.in_default.not-Some s.0 (c.get.ensures ∙ s.1))
    ]

pub returns : goal.returns
returns g c =
    let rs = g.S.Values.rooms c.args.need.now in
    let last : c.args.rows - c.loop-behind.behind ≡ 0 = omega (arith, c.loop-behind-test.false, c.loop-behind.auto.behind-end) in
    sym (c.loop-behind.invariant ∙ (ap (λ k. latest_room c.args.node c.args.dirty.now (take k rs) None) last ∙ latest-none c.args.node c.args.dirty.now None))
