-- What a seat knows, and how the steps of its thread change that.
--
-- A view has the opening of the book and the count of all numbers, the range of numbers of its pass, the journal that the
-- pass has seen, the journals that were joined into it since it last looked at the count, and whether it holds the turn, and
-- then, whether it knows the count and which journal the book had that it took.
use Rattle.std.specs.Prelude.{ℕ, cond, ltb, min, max, map, Bool, true, false, List, [], ◌∷◌, ◌++◌, length, Option, Some, None}
use Rattle.turn_book.specs.declared.view.View.{View}
use Rattle.turn_book.specs.declared.view.Joined.{Joined}

module _ {O E : Type 0} where
  -- a view by its parts
  abbrev pub view : Option O → ℕ → ℕ → ℕ → List E → List (Joined E) → Bool → Bool → List E → View O E
  view o n a b seen joined holds knows took = record { opening = o; count = n; first = a; past = b; seen = seen; joined = joined; holds = holds; knows = knows; took = took }

  -- at the start: all numbers below n, and the journal that the book has
  abbrev pub view_at_start : O → ℕ → List E → View O E
  view_at_start o n journal = view (Some o) n 0 n journal [] false false []

  -- after a look at the whole journal, which forgets the joined journals
  abbrev pub view_after_look : View O E → List E → Bool → List E → View O E
  view_after_look v all holds took = view v.opening v.count v.first v.past all [] holds holds took

  -- with the turn, which was taken with a book of this journal
  abbrev pub view_with_turn : View O E → List E → View O E
  view_with_turn v took = view v.opening v.count v.first v.past v.seen v.joined true false took

  -- without the turn
  abbrev pub view_without_turn : View O E → View O E
  view_without_turn v = view v.opening v.count v.first v.past v.seen v.joined false false []

module _ {E : Type 0} where
  -- of a joined journal, with those of its numbers that are below at
  abbrev pub clipped_below : ℕ → Joined E → Joined E
  clipped_below at j = record { first = j.first; past = min j.past at; seen = j.seen }

  -- of a joined journal, with those of its numbers that are at or above
  abbrev pub clipped_from : ℕ → Joined E → Joined E
  clipped_from at j = record { first = max j.first at; past = j.past; seen = j.seen }

  -- the longer of two journals, and the first where they are of one length
  abbrev pub longer_journal : List E → List E → List E
  longer_journal xs ys = cond (ltb (length xs) (length ys)) ys xs

module _ {O E : Type 0} where
  -- a split leaves the numbers below at
  abbrev pub lower : ℕ → View O E → View O E
  lower at v = view v.opening v.count v.first at v.seen (map (clipped_below at) v.joined) v.holds v.knows v.took

  -- and makes a view with the others, which has seen the same
  abbrev pub upper : ℕ → View O E → View O E
  upper at v = view v.opening v.count at v.past v.seen (map (clipped_from at) v.joined) false false []

  -- what a pass has seen, with its numbers, as it is kept by the view that it is joined into
  abbrev pub own_journal : View O E → Joined E
  own_journal v = record { first = v.first; past = v.past; seen = v.seen }

  -- a join gives the numbers of both and the longer journal, and keeps both journals beside those that either kept
  abbrev pub view_united : View O E → View O E → View O E
  view_united v w = view v.opening v.count v.first w.past (longer_journal v.seen w.seen) ((v.joined ++ w.joined) ++ own_journal v ∷ own_journal w ∷ []) v.holds v.knows v.took

  -- and the other view is spent: it has no opening, no numbers and no journal
  abbrev pub spent : View O E
  spent = view None 0 0 0 [] [] false false []
