-- One command of a session, and what its pass has seen of the journal.
use Rattle.std.specs.Prelude.{◌≡◌, ℕ, List, ◌++◌, Option}
use Rattle.turn_book.specs.declared.view.View.{View}
use Rattle.turn_book.specs.Core.{Core}
use Rattle.turn_book.specs.Journal.{Foreign, entry_list}
use Rattle.turn_book.specs.Walk.{IsReplyGiven}

module _ {Opening Entry : Type 0} where
  -- What the pass had seen goes on with entries of others, and nothing was entered.
  pub record SeesMore (number_of : Entry → ℕ) (before after : View Opening Entry) : Type 0 where
    pub more : List Entry
    pub foreign : Foreign number_of before.first before.past more
    pub seen : after.seen ≡ before.seen ++ more
    pub first : after.first ≡ before.first
    pub past : after.past ≡ before.past

module _ {Opening Entry Command Reply Memory : Type 0} where
  -- Session n has had this reply to its command. What its pass had seen goes on with entries of others; the reply is the answer
  -- at that journal, or want of memory; and its entry, if it was accepted, is the last that the pass has seen afterwards.
  pub record IsCommandTaken (core : Core Entry Command Reply Memory) (n : ℕ) (m : Memory) (c : Command) (r : Reply) (before after : View Opening Entry) : Type 0 where
    pub more : List Entry
    pub added : Option Entry
    pub foreign : Foreign core.number_of before.first before.past more
    pub entry : core.entry_of n m c r ≡ added
    pub given : IsReplyGiven core n (before.seen ++ more) m c r
    pub seen : after.seen ≡ (before.seen ++ more) ++ entry_list added
    pub first : after.first ≡ before.first
    pub past : after.past ≡ before.past
