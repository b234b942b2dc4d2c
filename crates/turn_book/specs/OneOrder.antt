-- Commands of several sessions, each answered before the next is taken.
use Rattle.std.specs.Prelude.{ℕ, zero, suc, ◌+◌, ◌==◌, if◌then◌else◌, List, [], ◌∷◌, ◌++◌, Option}
use Rattle.turn_book.specs.Core.{Core}
use Rattle.turn_book.specs.Journal.{entry_list}
use Rattle.turn_book.specs.Walk.{IsReplyGiven}

-- a command of a session, and the reply that it gets
pub record Exchange (Command Reply : Type 0) : Type 0 where
  pub session : ℕ
  pub command : Command
  pub reply : Reply

-- the journal, and what each session remembers
pub record Point (Entry Memory : Type 0) : Type 0 where
  pub entries : List Entry
  pub memories : ℕ → Memory

-- the commands of session n, in order
abbrev pub session_commands : {Command Reply : Type 0} → ℕ → List (Exchange Command Reply) → List Command
session_commands n [] = []
session_commands n (t ∷ ts) = if t.session == n then t.command ∷ session_commands n ts else session_commands n ts

-- and its replies
abbrev pub session_replies : {Command Reply : Type 0} → ℕ → List (Exchange Command Reply) → List Reply
session_replies n [] = []
session_replies n (t ∷ ts) = if t.session == n then t.reply ∷ session_replies n ts else session_replies n ts

-- the commands of each of so many sessions, from session n on
abbrev pub scripts_of : {Command Reply : Type 0} → ℕ → ℕ → List (Exchange Command Reply) → List (List Command)
scripts_of n zero ts = []
scripts_of n (suc k) ts = session_commands n ts ∷ scripts_of (n + 1) k ts

abbrev pub all_replies_of : {Command Reply : Type 0} → ℕ → ℕ → List (Exchange Command Reply) → List (List Reply)
all_replies_of n zero ts = []
all_replies_of n (suc k) ts = session_replies n ts ∷ all_replies_of (n + 1) k ts

module _ {Entry Command Reply Memory : Type 0} (core : Core Entry Command Reply Memory) where
  -- the entry of a reply, if it was accepted
  abbrev pub entry_in : Point Entry Memory → Exchange Command Reply → Option Entry
  entry_in p t = core.entry_of t.session (p.memories t.session) t.command t.reply

  -- what session n remembers behind an exchange
  abbrev pub memory_behind : Point Entry Memory → Exchange Command Reply → ℕ → Memory
  memory_behind p t n = if t.session == n then core.memory_after (p.memories n) t.command t.reply else p.memories n

  abbrev pub point_behind : Point Entry Memory → Exchange Command Reply → Point Entry Memory
  point_behind p t = record { entries = p.entries ++ entry_list (entry_in p t); memories = memory_behind p t }

  -- each reply is what is due at the journal that the exchanges before it left, or want of memory
  abbrev pub AreExchangesDue : Point Entry Memory → List (Exchange Command Reply) → Type 0
  AreExchangesDue p [] = Unit {0}
  AreExchangesDue p (t ∷ ts) = IsReplyGiven core t.session p.entries (p.memories t.session) t.command t.reply × AreExchangesDue (point_behind p t) ts

  -- where they lead
  abbrev pub point_after : Point Entry Memory → List (Exchange Command Reply) → Point Entry Memory
  point_after p [] = p
  point_after p (t ∷ ts) = point_after (point_behind p t) ts

  -- the entries that they append
  abbrev pub appended_entries : Point Entry Memory → List (Exchange Command Reply) → List Entry
  appended_entries p [] = []
  appended_entries p (t ∷ ts) = entry_list (entry_in p t) ++ appended_entries (point_behind p t) ts

  -- before the first
  abbrev pub first_point : Memory → Point Entry Memory
  first_point start = record { entries = []; memories = λ n. start }
