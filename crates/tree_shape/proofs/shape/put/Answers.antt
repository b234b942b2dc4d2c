use Rattle.std.proofs.Common.{◌≡◌, ℕ, List, ◌++◌, length, sym, subst, refl, arith, take, drop}
use Rattle.std.proofs.lemmas.List.{take_at}
use Rattle.tree_shape.specs.declared.node.Node.{Node}
use Rattle.tree_shape.specs.View.{IsSoundTree}
use Rattle.tree_shape.proofs.Roots.{sound_in, fits_grown, sound_grown}
use Rattle.tree_shape.proofs.shape.put.Goals as goal

-- what a slice of a whole vector writes back
whole : (after items : List Node) (n : ℕ) → length after ≡ n → take n (after ++ drop (length after) items) ≡ after
whole after items n e = rw (← e) (take_at after (drop (length after) items) _ refl)

pub apply-requires : goal.apply-requires
apply-requires c =
    let h = c.requires.place in
    let s = sound_in _ _ _ h.0 h.1 (c.add_row.ensures.stands h.0 h.1.stands) in
    let listed = c.plan_put-root.ensures.listed h.0 (subst (λ v. IsSoundTree v c.args.child h.0) (sym c.as_slice.ensures.value) s) in
    rw (c.as_mut_slice.ensures.value, listed) (fits_grown _ c.args.child h.0 c.args.at c.args.new c.args.number s h.2 h.4 c.add_row.ensures.place)

pub returns-clause-sound : goal.returns-clause-sound
returns-clause-sound c = λ t s0 place few free.
    let s = sound_in _ _ _ t s0 (c.add_row.ensures.stands t s0.stands) in
    let here = subst (λ v. IsSoundTree v c.args.child t) (sym c.as_slice.ensures.value) s in
    let listed = c.plan_put-root.ensures.listed t here in
    let root = c.plan_put-root.ensures.root t here in
    rw (whole c.apply.new.nodes c.add_row.new.nodes.items c.add_row.new.nodes.len (omega (arith, c.as_mut_slice.ensures.len)), c.apply.ensures, c.as_mut_slice.ensures.value, listed, root)
    (sound_grown _ c.args.child t c.args.at c.args.new c.args.number s place few free c.add_row.ensures.place)

pub returns-clause-listed : goal.returns-clause-listed
returns-clause-listed c = λ t s0.
    let s = sound_in _ _ _ t s0 (c.add_row.ensures.stands t s0.stands) in
    c.plan_put-root.ensures.listed t (subst (λ v. IsSoundTree v c.args.child t) (sym c.as_slice.ensures.value) s)
