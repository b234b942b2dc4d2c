use Rattle.std.proofs.Common.{◌≡◌, ℕ, ◌+◌, List, take}
use Rattle.edit_book.proofs.look.copied.Given as goal

-- the lines so far are copied, a step for each
pub record IsCopied (text lines : List (List ℕ)) (i before now : ℕ) : Type 0 where
  pub copied_are : lines ≡ take i text
  pub steps_are : now ≡ before + i

abbrev pub invariant-loop-i : goal.invariant-loop-i
invariant-loop-i g l = IsCopied l.text l.lines l.i l.fn.steps l.steps
