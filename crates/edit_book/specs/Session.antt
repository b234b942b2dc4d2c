-- What a session keeps stands for what it remembers.
use Rattle.std.specs.Prelude.{◌≡◌, ℕ, ◌<◌, ◌≤◌, ◌-◌, ◌^◌, List, Option, Some, min, length, nat_eq}
use Rattle.std.specs.HashMap.{get, spare}
use Rattle.std.specs.Option.{option_or}
use Rattle.edit_book.specs.declared.reply.Reply.{Reply}
use Rattle.edit_book.specs.declared.reply.Reply.TheVariants.{Accepted, Shown}
use Rattle.edit_book.specs.declared.sessions.learned.Learned.{Learned}
use Rattle.edit_book.specs.declared.sessions.session.Session.{Session}
use Rattle.edit_book.specs.Memory.{Memory, known_header_stamp, opening_stamp, own_block}
use Rattle.edit_journal.specs.declared.edit.Entry.{Entry}
use Rattle.edit_journal.specs.declared.opening.Opening.{Opening}
use Rattle.edit_journal.specs.Documents.{names_given}

-- the stamp of a block: the one that was learned since the opening, and else that of the opening
abbrev pub stamp_of : ℕ → (ℕ → Option ℕ) → ℕ → Option ℕ
stamp_of blocks learned id = option_or (learned id) (opening_stamp blocks id)

-- the names that a session keeps are those of the entry whose number is its stamp of the header
abbrev pub HasNames : Opening → List Entry → Session → Type 0
HasNames opening seen s = names_given opening seen s.learned.head ≡ Some s.header.declared

-- What was learned is what is remembered. The count of adds stops at its last value, which no name reaches.
pub record HasLearned (l : Learned) (m : Memory) : Type 0 where
  pub stamps : (id : ℕ) → stamp_of l.opening (get nat_eq l.stamps) id ≡ m.stamps id
  pub head : l.head ≡ known_header_stamp m
  pub made : (n : ℕ) → n < 2 ^ 32 → get nat_eq l.made n ≡ own_block m.adds n
  pub adds : l.adds ≡ min (length m.adds) (2 ^ 64 - 1)

-- what a session keeps; its draft is room alone, and says nothing
abbrev pub Remembers : Session → Memory → Type 0
Remembers s m = HasLearned s.learned m

-- room for so many more stamps, and as many blocks of its own
pub record HasStampRoom (count : ℕ) (l : Learned) : Type 0 where
  pub stamps : count ≤ spare l.stamps
  pub made : count ≤ spare l.made

-- the reply tells a stamp
abbrev pub Teaches : Reply → Type 0
Teaches (Accepted version block brief) = Unit {0}
Teaches (Shown version block stamp first text) = Unit {0}
Teaches reply = ⊥
