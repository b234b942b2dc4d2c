use Rattle.std.proofs.Common.{◌≡◌, ℕ, List, Option, Some, None, refl, sym, ◌∙◌, ap}
use Rattle.std.specs.Option.{option_map}
use Rattle.tree_shape.specs.declared.node.Child.{Child}
use Rattle.tree_shape.specs.declared.node.Child.TheVariants.{Inner}
use Rattle.tree_shape.specs.declared.dirty.DirtyRow.{DirtyRow}
use Rattle.tree_shape.specs.Composing.{latest_room, found_or}
use Rattle.tree_shape.proofs.Rooms.{latest-or}
use Rattle.value_tree.specs.declared.need.NewLeaf.{NewLeaf}
use Rattle.value_tree.specs.Need.{node_rooms, found_at}
use Rattle.value_tree.proofs.need.room_at.Goals as goal

module _ {V R : Type 0} (room : V → R) (leaf_at node_at : ℕ → Option V) (new : Option (NewLeaf R)) (rows : List DirtyRow) (rs : List R) where
  inner_found : (child : Child) (n : ℕ) (r : R) → child ≡ Inner n → latest_room n rows rs None ≡ Some r → Some r ≡ found_at room leaf_at node_at new rows rs child
  inner_found child n r e q = rw e (sym (latest-or n rows rs None (node_rooms room node_at n) ∙ ap (λ o. found_or o (node_rooms room node_at n)) q))

  kept_room : (o : Option V) (r result : R) → option_map room o ≡ Some r → ((v : V) → o ≡ Some v → result ≡ room v) → Some result ≡ option_map room o
  kept_room None r result e h = cc
  kept_room (Some v) r result e h = ap (λ x. Some x) (h v refl)

  none_found : (child : Child) (n : ℕ) (r result : R) → child ≡ Inner n → latest_room n rows rs None ≡ None → found_at room leaf_at node_at new rows rs child ≡ Some r → ((v : V) → node_at n ≡ Some v → result ≡ room v) → Some result ≡ found_at room leaf_at node_at new rows rs child
  none_found child n r result e q there h =
      let here : found_at room leaf_at node_at new rows rs child ≡ node_rooms room node_at n = ap (found_at room leaf_at node_at new rows rs) e ∙ (latest-or n rows rs None (node_rooms room node_at n) ∙ ap (λ o. found_or o (node_rooms room node_at n)) q) in
      kept_room (node_at n) r result (sym here ∙ there) h ∙ sym here

pub returns-in-Some-found : goal.returns-in-Some-found
returns-in-Some-found g c = inner_found g.S.Values.room (g.S.Values.leaf_at c.args.store.now) (g.S.Values.node_at c.args.store.now) c.args.new.now c.args.dirty.now (g.S.Values.rooms c.args.need.now) c.args.child c.in-Inner.node c.in-Some-found.room c.in-Inner.is (sym c.found.ensures ∙ c.in-Some-found.is)

pub returns-in-None : goal.returns-in-None
returns-in-None g c = none_found g.S.Values.room (g.S.Values.leaf_at c.args.store.now) (g.S.Values.node_at c.args.store.now) c.args.new.now c.args.dirty.now (g.S.Values.rooms c.args.need.now) c.args.child c.in-Inner.node c.requires.there.0 c.room_of-in-None.result c.in-Inner.is (sym c.found.ensures ∙ c.in-None.is) c.requires.there.1 c.room_of-in-None.ensures
