-- What each step on a word tells the thread that makes it: of the seat before, m, what the word held, r, and the seat afterwards, n.
use Rattle.std.specs.Prelude.{◌≡◌, ℕ, ◌≢◌, true, List, ◌∷◌, length, Option, Some}
use mathlib.Core.Option.{some}
use Rattle.atomic_table.specs.Table.{Me, Step, rest}
use Rattle.turn_book.specs.declared.view.View.{View}
use Rattle.turn_book.specs.Turn.{Catches}
use Rattle.turn_book.specs.Views.{view_after_look, view_with_turn, view_without_turn}

module _ {B O E : Type 0} where
  -- a step on a word of which the rule says nothing: the seat stays as it is
  abbrev pub StepsElsewhere : Step (Option B) → Me (Option B) (View O E) → ℕ → Me (Option B) (View O E) → Type 0
  StepsElsewhere st m r n = n ≡ m

module _ {B O E : Type 0} (opening_of : B → O) (journal_of : B → List E) (number_of : E → ℕ) where
  -- the turn is taken, and the book with it, which has the opening of the start
  abbrev pub TakesTurn : Me (Option B) (View O E) → Me (Option B) (View O E) → Type 0
  TakesTurn m n = (b : B) × (n.1 ≡ (0, Some b) ∷ m.1) × (m.0.opening ≡ Some (opening_of b)) × (n.0 ≡ view_with_turn m.0 (journal_of b))

  -- take the turn: where it was free it is taken, and else nothing changes
  abbrev pub TakesFreeTurn : Step (Option B) → Me (Option B) (View O E) → ℕ → Me (Option B) (View O E) → Type 0
  TakesFreeTurn st m r n = (r ≡ 0 → TakesTurn m n) × (r ≢ 0 → n ≡ m)

  -- load the count: it is the length of the whole journal, which the seat has then seen; and that is the journal of the book that was taken, if one was
  abbrev pub LoadsCount : Step (Option B) → Me (Option B) (View O E) → ℕ → Me (Option B) (View O E) → Type 0
  LoadsCount st m r n = (all : List E) × (r ≡ length all) × Catches number_of m.0 all × (m.0.holds ≡ true → m.0.took ≡ all) × (n ≡ (view_after_look m.0 all m.0.holds m.0.took, m.1))

  -- count an entry: the seat has seen the journal of the book that is said
  abbrev pub CountsEntry : Step (Option B) → Me (Option B) (View O E) → ℕ → Me (Option B) (View O E) → Type 0
  CountsEntry st m r n = (b : B) → st.said ≡ some (Some b) → n ≡ (view_after_look m.0 (journal_of b) true (journal_of b), m.1)

  -- release the turn: the seat holds neither the turn nor the book
  abbrev pub ReleasesTurn : Step (Option B) → Me (Option B) (View O E) → ℕ → Me (Option B) (View O E) → Type 0
  ReleasesTurn st m r n = n ≡ (view_without_turn m.0, rest m.1)
