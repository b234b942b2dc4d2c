use Rattle.std.proofs.Common.{◌≡◌, ℕ, ◌+◌, List, flat_map, length, drop}
use Rattle.edit_book.proofs.open.lines_of.Given as goal

abbrev pub invariant-loop-text : goal.invariant-loop-text
invariant-loop-text l = l.lines + length (flat_map (λ (text : List (List ℕ)). text) (drop l.text-index l.texts)) ≡ length (flat_map (λ (text : List (List ℕ)). text) l.texts)
