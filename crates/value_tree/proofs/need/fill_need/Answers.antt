use Rattle.std.proofs.Common.{◌≡◌, ℕ, List, [], ◌∷◌, ◌++◌, Option, Some, refl, sym, ◌∙◌, ap, arith}
use Rattle.tree_shape.specs.declared.node.Child.{Child}
use Rattle.tree_shape.specs.declared.node.Child.TheVariants.{Leaf, Inner}
use Rattle.tree_shape.specs.declared.dirty.DirtyRow.{DirtyRow}
use Rattle.tree_shape.specs.Values.{part}
use Rattle.tree_shape.specs.Composing.{IsFinding}
use Rattle.tree_shape.proofs.Rows.{some_row}
use Rattle.tree_shape.proofs.Rooms.{latest-none, finding_next, next_there}
use Rattle.value_tree.specs.Need.{leaf_rooms, node_rooms, found_at}
use Rattle.value_tree.proofs.need.fill_need.Goals as goal
use Rattle.value_tree.proofs.need.fill_need.Goals.{in-Some, in_default}

pub loop-i-init : goal.loop-i-init
loop-i-init g c =
    let before = node_rooms g.S.Values.room (g.S.Values.node_at c.args.store.now) in
    rw c.clear.ensures (record { now = before; found = λ n. sym (latest-none n c.args.dirty.now (before n)); rest = refl; long = refl })

-- the room of a child, as the walk has it
found_is : {V R : Type 0} (room : V → R) (after : R → R → R) (leaf_at node_at : ℕ → Option V) (new : _) (rows : List DirtyRow) (rs : List R) (at : ℕ) (f : IsFinding after (leaf_rooms room leaf_at new) (node_rooms room node_at) rows rs at) (child : Child) → part (leaf_rooms room leaf_at new) f.now child ≡ found_at room leaf_at node_at new rows rs child
found_is room after leaf_at node_at new rows rs at f (Leaf n) = refl
found_is room after leaf_at node_at new rows rs at f (Inner n) = f.found n

pub room_at-left-requires-clause-there : goal.room_at-left-requires-clause-there
room_at-left-requires-clause-there g c =
    let there = next_there g.S.Values.after _ _ _ _ c.requires.there.0 c.loop-i.i c.in-Some.row c.loop-i.invariant (sym c.get.ensures ∙ c.in-Some.is) c.requires.there.1 in
    (there.0.0, sym (found_is g.S.Values.room g.S.Values.after (g.S.Values.leaf_at c.args.store.now) (g.S.Values.node_at c.args.store.now) c.args.new c.args.dirty.now _ _ c.loop-i.invariant c.in-Some.row.left) ∙ there.0.1)

pub room_at-right-requires-clause-there : goal.room_at-right-requires-clause-there
room_at-right-requires-clause-there g c =
    let there = next_there g.S.Values.after _ _ _ _ c.requires.there.0 c.loop-i.i c.in-Some.row c.loop-i.invariant (sym c.get.ensures ∙ c.in-Some.is) c.requires.there.1 in
    (there.1.0, sym (found_is g.S.Values.room g.S.Values.after (g.S.Values.leaf_at c.args.store.now) (g.S.Values.node_at c.args.store.now) c.args.new c.args.dirty.now _ _ c.loop-i.invariant c.in-Some.row.right) ∙ there.1.1)

same_some : {R : Type 0} (a b : R) (o : Option R) → Some a ≡ o → o ≡ Some b → a ≡ b
same_some a b o e q = let s : Some a ≡ Some b = e ∙ q in cc

pub loop-i-preserved : goal.loop-i-preserved
loop-i-preserved g c =
    let leaf_at = g.S.Values.leaf_at c.args.store.now in
    let node_at = g.S.Values.node_at c.args.store.now in
    let room = g.S.Values.room in
    let after = g.S.Values.after in
    elim c.match-get.branch [
      | in-Some w ↦
          let rs = g.S.Values.rooms c.loop-i.need in
          let listed = sym c.get.ensures ∙ w.in-Some.is in
          let left = found_is room after leaf_at node_at c.args.new c.args.dirty.now rs c.loop-i.i c.loop-i.invariant w.in-Some.row.left ∙ sym w.room_at-left.ensures in
          let right = found_is room after leaf_at node_at c.args.new c.args.dirty.now rs c.loop-i.i c.loop-i.invariant w.in-Some.row.right ∙ sym w.room_at-right.ensures in
          let next = finding_next after (leaf_rooms room leaf_at c.args.new) (node_rooms room node_at) c.args.dirty.now rs c.loop-i.i w.in-Some.row w.room_at-left.result w.room_at-right.result c.loop-i.invariant listed left right in
          let pushed : g.S.Values.rooms c.match-get.need ≡ rs ++ after w.room_at-left.result w.room_at-right.result ∷ [] = ap g.S.Values.rooms w.need-is ∙ (w.push.ensures ∙ ap (λ v. rs ++ v ∷ []) w.both.ensures) in
          rw pushed next
      | in_default w ↦ let s = some_row c.args.dirty.now c.loop-i.i (omega (arith, c.loop-i-test.true, c.len-i-end.ensures.len)) in absurd (w.in_default.not-Some s.0 (c.get.ensures ∙ s.1))
    ]
