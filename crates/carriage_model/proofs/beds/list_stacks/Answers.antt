use Rattle.std.proofs.Common.{length, ◌∙◌, sym, ap, arith, w16, to_z, of_z, zero-add}
use Rattle.std.proofs.lemmas.Int.{to_z-of_z, ints}
use Rattle.std.proofs.lemmas.Iterator.Adapters.{YieldsList-from_vec}
use Rattle.std.proofs.lemmas.Iterator.Consumers.{YieldsList-from_enumerate, YieldsList-turn, YieldsList-end}
use Rattle.carriage_model.proofs.StackLists.{stacks_listed, stacks_of, stacks_listed_few, list-grows, list-stays, listed-stacks, all-stacks, stack_number_is_place, enumerate-length, stacks_of-length, some_from_test, none_from_test}
use Rattle.carriage_model.proofs.beds.list_stacks.Goals as goal

pub push-requires : goal.push-requires
push-requires c =
    let t = YieldsList-turn (YieldsList-from_enumerate {s = c.into_iter-place-iterator.result} (YieldsList-from_vec {s = c.into_iter-place-iterator.result.iter} c.args.stacks.items (cc) (cc)) (cc)) c.loop-place.yielded c.loop-place.place-iterator c.loop-place.yielded_by _ c.next.new.self (c.in-Some.place, c.in-Some.loops) c.in-Some.is c.next.ensures.steps in
    omega (
      arith,
      ints,
      t.0,
      enumerate-length 0 c.args.stacks.items,
      stacks_of-length c.loop-place.yielded,
      ap length c.loop-place.invariant,
      stacks_listed_few (to_z w16 (of_z w16 c.args.low)) c.args.width 0 (stacks_of c.loop-place.yielded),
      c.requires.full,
      c.requires.reach,
      c.ranges.low,
    )

pub loop-place-preserved-in-Continue-1 : goal.loop-place-preserved-in-Continue-1
loop-place-preserved-in-Continue-1 c =
    let t = YieldsList-turn (YieldsList-from_enumerate {s = c.into_iter-place-iterator.result} (YieldsList-from_vec {s = c.into_iter-place-iterator.result.iter} c.args.stacks.items (cc) (cc)) (cc)) c.loop-place.yielded c.loop-place.place-iterator c.loop-place.yielded_by _ c.next.new.self (c.in-Some.place, c.in-Some.loops) c.in-Some.is c.next.ensures.steps in
    list-grows (to_z w16 (of_z w16 c.args.low)) c.args.width c.in-Some.place c.loop-place.yielded c.in-Some.loops c.needle_at-needle.result c.loop-place.list c.push.new.self
    c.loop-place.invariant c.needle_at-needle.ensures (stack_number_is_place 0 (length c.loop-place.yielded) c.args.stacks.items (c.in-Some.place, c.in-Some.loops) t.0 t.1 ∙ zero-add _)
    (some_from_test c.in-Some.loops (sym c.is_empty.ensures ∙ c.if-not-is_empty.true)) c.in_ok-push.ensures.ok

pub loop-place-preserved : goal.loop-place-preserved
loop-place-preserved c =
    list-stays (to_z w16 (of_z w16 c.args.low)) c.args.width c.in-Some.place c.loop-place.yielded c.in-Some.loops c.loop-place.list c.loop-place.invariant
    (none_from_test c.in-Some.loops (sym c.is_empty.ensures ∙ c.if-not-is_empty.false))

pub returns-clause-listed : goal.returns-clause-listed
returns-clause-listed c =
    let t = YieldsList-end (YieldsList-from_enumerate {s = c.into_iter-place-iterator.result} (YieldsList-from_vec {s = c.into_iter-place-iterator.result.iter} c.args.stacks.items (cc) (cc)) (cc)) c.loop-place.yielded c.loop-place.place-iterator c.loop-place.yielded_by _ c.next.new.self c.in-None.is c.next.ensures.steps in
    listed-stacks c.args.low c.args.width c.args.stacks.items c.loop-place.list c.requires.full
    (c.loop-place.invariant ∙ ap (λ low. stacks_listed low c.args.width 0 (stacks_of c.loop-place.yielded)) (to_z-of_z w16 c.args.low c.ranges.low) ∙ ap (stacks_listed c.args.low c.args.width 0) (all-stacks c.loop-place.yielded c.args.stacks.items t.0))

pub returns-clause-few : goal.returns-clause-few
returns-clause-few c =
    let t = YieldsList-end (YieldsList-from_enumerate {s = c.into_iter-place-iterator.result} (YieldsList-from_vec {s = c.into_iter-place-iterator.result.iter} c.args.stacks.items (cc) (cc)) (cc)) c.loop-place.yielded c.loop-place.place-iterator c.loop-place.yielded_by _ c.next.new.self c.in-None.is c.next.ensures.steps in
    omega (
      arith,
      ints,
      t.1,
      enumerate-length 0 c.args.stacks.items,
      stacks_of-length c.loop-place.yielded,
      ap length c.loop-place.invariant,
      stacks_listed_few (to_z w16 (of_z w16 c.args.low)) c.args.width 0 (stacks_of c.loop-place.yielded),
      c.requires.full,
      c.requires.reach,
      c.ranges.low,
    )
