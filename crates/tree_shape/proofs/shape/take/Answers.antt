use Rattle.std.proofs.Common.{◌≡◌, ℕ, List, ◌++◌, length, sym, subst, refl, arith, take, drop}
use Rattle.std.proofs.lemmas.List.{take_at}
use Rattle.tree_shape.specs.declared.node.Child.TheVariants.{Inner}
use Rattle.tree_shape.specs.declared.node.Node.{Node}
use Rattle.tree_shape.specs.Tree.{Tree, name, leaf, inner}
use Rattle.tree_shape.specs.View.{IsSoundTree}
use Rattle.tree_shape.proofs.Roots.{fits_shrunk, sound_shrunk}
use Rattle.tree_shape.proofs.Removals.{IsInner}
use Rattle.tree_shape.proofs.shape.take.Goals as goal

-- what a slice of a whole vector writes back
whole : (after items : List Node) (n : ℕ) → length after ≡ n → take n (after ++ drop (length after) items) ≡ after
whole after items n e = rw (← e) (take_at after (drop (length after) items) _ refl)

inside : (n : ℕ) (t : Tree) → Inner n ≡ name t → IsInner t
inside n (leaf m) e = cc
inside n (inner m l r) e = tt

pub apply-requires : goal.apply-requires
apply-requires c =
    let h = c.requires.place in
    let listed = c.plan_take-root.ensures.listed h.0 (subst (λ v. IsSoundTree v (Inner c.args.top) h.0) (sym c.as_slice.ensures.value) h.1) in
    rw (c.as_mut_slice.ensures.value, listed) (fits_shrunk _ (Inner c.args.top) h.0 c.args.at h.1 h.2 (inside c.args.top h.0 h.1.named))

pub returns-clause-sound : goal.returns-clause-sound
returns-clause-sound c = λ t s place.
    let here = subst (λ v. IsSoundTree v (Inner c.args.top) t) (sym c.as_slice.ensures.value) s in
    let listed = c.plan_take-root.ensures.listed t here in
    let root = c.plan_take-root.ensures.root t here in
    rw (whole c.apply.new.nodes c.args.nodes.now.items c.args.nodes.now.len (omega (arith, c.as_mut_slice.ensures.len)), c.apply.ensures, c.as_mut_slice.ensures.value, listed, root)
    (sound_shrunk _ (Inner c.args.top) t c.args.at s place (inside c.args.top t s.named))
