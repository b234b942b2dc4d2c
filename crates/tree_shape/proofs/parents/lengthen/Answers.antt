use Rattle.std.proofs.Common.{◌≡◌, ℕ, zero, suc, List, [], ◌∷◌, ◌++◌, Some, sym, subst, arith}
use Rattle.std.proofs.lemmas.Grind.{common_steps}
use Rattle.std.specs.List.{slice_get}
use Rattle.tree_shape.proofs.parents.lengthen.Goals as goal

before : (xs ys : List ℕ) (k n : ℕ) → slice_get xs k ≡ Some n → slice_get (xs ++ ys) k ≡ Some n
before [] ys k n e = cc
before (x ∷ xs) ys zero n e = e
before (x ∷ xs) ys (suc k) n e = before xs ys k n e

pub loop-i-init : goal.loop-i-init
loop-i-init c = record { many = grind (arith, common_steps); more = grind (arith, common_steps); same = λ k n e. e }

pub loop-i-preserved : goal.loop-i-preserved
loop-i-preserved c = record {
  many = grind (arith, common_steps);
  more = grind (arith, common_steps);
  same = λ k n e. subst (λ xs. slice_get xs k ≡ Some n) (sym c.in_ok-push.ensures.items) (before c.loop-i.list.items (0 ∷ []) k n (c.loop-i.invariant.same k n e));
}
