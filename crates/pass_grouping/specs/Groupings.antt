-- Groupings of operations into passes, and what shows that none has fewer.
use Rattle.std.specs.Prelude.{◌≡◌, ℕ, ◌+◌, ◌-◌, ◌<◌, ◌≤◌, List, [], ◌∷◌, length, take, drop, map, All}
use Rattle.std.proofs.Common.{get_or}
use Rattle.pass_grouping.specs.declared.operation.PassOp.{PassOp}
use Rattle.pass_grouping.specs.declared.certificate.Window.{Window}
use Rattle.pass_grouping.specs.Passes.{IsOnePass}

-- a part of the operations: from its start up to the start behind it, which isn't counted
pub record PassRange : Type 0 where
  pub start : ℕ
  pub behind : ℕ

-- the first of these starts, or this number behind them where there is none
abbrev pub first_or : List ℕ → ℕ → ℕ
first_or [] behind = behind
first_or (start ∷ starts) behind = start

-- the parts that begin at these starts, with this number behind the last of them
abbrev pub ranges_from_starts : List ℕ → ℕ → List PassRange
ranges_from_starts [] behind = []
ranges_from_starts (start ∷ starts) behind = record { start = start; behind = first_or starts behind } ∷ ranges_from_starts starts behind

-- the operations of a part
abbrev pub operations_in : List PassOp → PassRange → List PassOp
operations_in ops part = take (part.behind - part.start) (drop part.start ops)

-- the operations of each pass, where the passes begin with these operations
abbrev pub passes_from : List PassOp → List ℕ → List (List PassOp)
passes_from ops starts = map (operations_in ops) (ranges_from_starts starts (length ops))

-- a part that holds an operation and is one pass
pub record IsPass (ops : List PassOp) (part : PassRange) : Type 0 where
  pub some : part.start < part.behind
  pub within : part.behind ≤ length ops
  pub pass : IsOnePass ops part.start (part.behind - 1)

-- The starts of parts that are each one pass. They rise, as no part is empty, and begin with the first operation; where there is
-- no operation there is no start.
pub record IsGrouping (ops : List PassOp) (starts : List ℕ) : Type 0 where
  pub first : first_or starts (length ops) ≡ 0
  pub passes : All (IsPass ops) (ranges_from_starts starts (length ops))

-- a grouping, and every other grouping of the same operations has as many parts or more
pub record IsFewest (ops : List PassOp) (starts : List ℕ) : Type 0 where
  pub grouping : IsGrouping ops starts
  pub fewest : (others : List ℕ) → IsGrouping ops others → length starts ≤ length others

-- a range of the operations, both ends counted, that isn't one pass
pub record IsWindow (ops : List PassOp) (window : Window) : Type 0 where
  pub ordered : window.from ≤ window.to
  pub within : window.to < length ops
  pub broken : ¬ IsOnePass ops window.from window.to

-- no two neighbouring windows share a cut place: those of a window are the starts behind its first operation, up to its last
abbrev pub AreApart : List Window → Type 0
AreApart windows = (k : ℕ) (d : Window) → k + 1 < length windows → (get_or windows k d).to ≤ (get_or windows (k + 1) d).from

-- a grouping with windows, which show that no grouping has fewer parts
pub record IsCertificate (ops : List PassOp) (starts : List ℕ) (windows : List Window) : Type 0 where
  pub grouping : IsGrouping ops starts
  pub hold : All (IsWindow ops) windows
  pub apart : AreApart windows
  pub counts : 0 < length ops → length starts ≡ length windows + 1

-- for each start but the first, the window from the start before it to this one
abbrev pub between_starts : List ℕ → List Window
between_starts [] = []
between_starts (s ∷ []) = []
between_starts (s ∷ t ∷ ts) = record { from = s; to = t } ∷ between_starts (t ∷ ts)
