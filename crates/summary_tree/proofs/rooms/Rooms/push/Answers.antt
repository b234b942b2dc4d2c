use Rattle.std.proofs.Common.{◌≡◌, ◌+◌, ◌<◌, List, ◌++◌, ◌∷◌, [], length, take, sym, ◌∙◌, ap, arith, rules, add-one}
use Rattle.std.specs.Prelude.{slice_set}
use Rattle.std.proofs.Math.Seq.{take-suc-set, length-take-le}
use Rattle.summary_compose.specs.declared.room.Room.{Room}
use Rattle.summary_compose.specs.Rooms.{greater_room}
use Rattle.summary_tree.specs.Rooms.{greatest_of}
use Rattle.summary_tree.proofs.RoomBounds.{greatest_push}
use Rattle.summary_tree.proofs.rooms.Rooms.push.Goals as goal

pub invariant_of-self : goal.invariant_of-self
invariant_of-self c =
    let places = c.self.inside.rooms in
    let len = c.self.inside.len in
    let before = take len places in
    let counted : length before ≡ len = length-take-le len places (omega (arith, c.self.invariant.few, c.self.invariant.long)) in
    let below : len < 73 = omega (arith, c.requires, counted, ap (λ (v : List Room). length v) c.self.view_is) in
    let list : take (len + 1) (slice_set places len c.args.room) ≡ before ++ c.args.room ∷ [] = ap (λ n. take n (slice_set places len c.args.room)) (add-one len) ∙ take-suc-set places len c.args.room (omega (arith, below, c.self.invariant.long)) in
    record {
      few = omega (arith, below);
      long = search rules;
      greatest = c.max-self-inside.ensures.exact ∙ (ap (λ m. greater_room m c.args.room) c.self.invariant.greatest ∙ (sym (greatest_push before c.args.room) ∙ ap greatest_of (sym list)));
    }
