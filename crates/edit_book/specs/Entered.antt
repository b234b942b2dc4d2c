-- Where a block begins: the state behind the blocks before it. No public contract speaks of it.
use Rattle.std.specs.Prelude.{◌≡◌, ℕ, nat_le, Bool, false, List, map, take}
use Rattle.knit_base.specs.declared.needle.Needle.{Needle}
use Rattle.carriage_model.specs.State.{State, empty_state}
use Rattle.face_data.specs.Summaries.{Outcome}
use Rattle.face_data.specs.Summaries.Outcome.{went_on, faulted}
use Rattle.summary_tree.specs.Leaves.{applied_each}
use Rattle.edit_book.specs.Books.{BookView}

-- the leaves before this position are carried out from empty beds, and this is the state behind them
abbrev pub IsStateBehind : BookView → ℕ → State → Type 0
IsStateBehind book at s = applied_each (take at book.tree.leaves) empty_state book.opening.setting.first ≡ went_on s

-- each of the needles with the loops that it holds
abbrev pub entries_held : State → List Needle → List (Needle × List ℕ)
entries_held s needles = map (λ n. (n, s.stacks n)) needles

-- whether lines that do this stop at this line or before it
abbrev pub stops_by : ℕ → Outcome → Bool
stops_by line (went_on s) = false
stops_by line (faulted fault) = nat_le fault.line line
