-- The rule of the lock: what holds between any two steps, whichever threads make them.
--
-- Word 0 is the turn, word 1 is the length of the journal, and the slot is the book's. H is the longest journal that a view
-- which isn't spent has seen, so the views determine it. Then:
--
-- - word 0 is 1 where exactly one view holds the turn, and 0 where none does; and where it is 0, the slot holds the book,
--   with the opening of the start and the journal H;
-- - word 1 is the length of H, and each journal that was seen, a joined one too, is a beginning of H;
-- - of the views that aren't spent, each has at least one number, no two have a number in common, and H goes on from what a
--   view has seen with no entry of its numbers;
-- - a joined journal stands with numbers of the view that keeps it, and H goes on from it with no entry of these;
-- - a view that holds the turn has taken a book with the journal H, and once it knows the count it has seen H and keeps no
--   joined journal;
-- - a view that is spent has no opening and doesn't hold the turn;
-- - all other views have the opening of the start and the same count of numbers, and the numbers of their ranges and of the
--   entries are below that count.
--
-- While the turn is held, only the seat that holds it knows what became of the book.
use Rattle.std.specs.Prelude.{◌≡◌, ℕ, ◌^◌, ◌<◌, ◌≤◌, ◌⊎◌, true, false, List, [], length, slice_index, Option, Some, None}
use mathlib.Core.Option.{some}
use lib.ListN.{get_elem?}
use Rattle.atomic_table.specs.Table.{State}
use Rattle.turn_book.specs.declared.view.View.{View}
use Rattle.turn_book.specs.declared.view.Joined.{Joined}
use Rattle.turn_book.specs.Journal.{Each, JournalGoesOn}

module _ {O E : Type 0} where
  -- the view isn't spent, and has the number
  abbrev pub Has : O → View O E → ℕ → Type 0
  Has o v n = (v.opening ≡ Some o) × (v.first ≤ n) × (n < v.past)

  -- the joined journal is a beginning of all, its numbers are the view's, and all goes on from it with no entry of these
  abbrev pub KeepsJoined : (E → ℕ) → List E → View O E → Joined E → Type 0
  KeepsJoined number_of all v j = JournalGoesOn number_of j.first j.past j.seen all × ((n : ℕ) → j.first ≤ n → n < j.past → (v.first ≤ n) × (n < v.past))

  -- what a view knows that isn't spent, where H is all
  pub record Sees (number_of : E → ℕ) (opening : O) (count : ℕ) (all : List E) (v : View O E) : Type 0 where
    pub opened : v.opening ≡ Some opening
    pub counted : v.count ≡ count
    pub ranged : v.first < v.past
    pub below : v.past ≤ count
    pub seen : JournalGoesOn number_of v.first v.past v.seen all
    pub joined : Each (KeepsJoined number_of all v) v.joined
    pub found : v.holds ≡ true → v.took ≡ all
    pub knows_holds : v.knows ≡ true → v.holds ≡ true
    pub knowing : v.knows ≡ true → (v.seen ≡ all) × (v.joined ≡ [])

  -- a view that was spent by a join
  abbrev pub Spent : View O E → Type 0
  Spent v = (v.opening ≡ None) × (v.holds ≡ false)

module _ {B O E : Type 0} where
  -- the turn is taken, and one view holds it
  abbrev pub Taken : State (Option B) (View O E) → Type 0
  Taken s = (slice_index s.words 0 ≡ 1) × (i : ℕ) × (v : View O E) × (get_elem? s.views i ≡ some v) × (v.holds ≡ true) × ((j : ℕ) (w : View O E) → get_elem? s.views j ≡ some w → w.holds ≡ true → j ≡ i)

module _ {B O E : Type 0} (opening_of : B → O) (journal_of : B → List E) where
  -- the slot holds the book, with this opening and this journal
  abbrev pub AtHome : O → List E → State (Option B) (View O E) → Type 0
  AtHome opening all s = (b : B) × (get_elem? s.homes 0 ≡ some (some (Some b))) × (opening_of b ≡ opening) × (journal_of b ≡ all)

  -- the turn is free: no view holds it, and the book is at home
  abbrev pub Free : O → List E → State (Option B) (View O E) → Type 0
  Free opening all s = (slice_index s.words 0 ≡ 0) × ((i : ℕ) (v : View O E) → get_elem? s.views i ≡ some v → v.holds ≡ false) × AtHome opening all s

  -- the rule: all is H, which some view that isn't spent has seen (shown), and no number is of two views (apart)
  pub record Kept (number_of : E → ℕ) (opening : O) (count : ℕ) (s : State (Option B) (View O E)) : Type 0 where
    pub all : List E
    pub four : length s.words ≡ 4
    pub long : slice_index s.words 1 ≡ length all
    pub few : length all < 2 ^ 32
    pub numbers : Each (λ e. number_of e < count) all
    pub views : (i : ℕ) (v : View O E) → get_elem? s.views i ≡ some v → Sees number_of opening count all v ⊎ Spent v
    pub apart : (i j n : ℕ) (v w : View O E) → get_elem? s.views i ≡ some v → get_elem? s.views j ≡ some w → Has opening v n → Has opening w n → i ≡ j
    pub shown : (i : ℕ) × (v : View O E) × (get_elem? s.views i ≡ some v) × (v.opening ≡ Some opening) × (v.seen ≡ all)
    pub turn : Free opening all s ⊎ Taken s
