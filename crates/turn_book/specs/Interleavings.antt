-- The core over interleavings.
use Rattle.std.specs.Prelude.{◌≡◌, ◌⊎◌, ℕ, Bool, true, false, List, [], ◌∷◌, ◌++◌, length, slice_get, Some, unwrap_or, ⊤}
use Rattle.turn_book.specs.Core.{Core}
use Rattle.turn_book.specs.Legal.{seen_after}
use Rattle.turn_book.specs.Journal.{Each, entry_list}

-- a session's next command is answered, with want of memory where it is short
pub record Event : Type 0 where
  pub session : ℕ
  pub is_short : Bool

-- the version that a session has seen, what it remembers, its commands that are still to come, and the replies that they get
pub record Waiting (Command Reply Memory : Type 0) : Type 0 where
  pub seen : ℕ
  pub memory : Memory
  pub commands : List Command
  pub replies : List Reply

-- A rule says at which version a reply may be given to a session that has seen another.
module _ {Entry Command Reply Memory : Type 0} (core : Core Entry Command Reply Memory) (rule : ℕ → ℕ → Reply → Type 0) where
  -- at this journal session n takes its next command and its next reply, and the others wait
  pub record TakesNextCommand (event : Event) (before : List Entry) (sessions : List (Waiting Command Reply Memory)) : Type 0 where
    pub front : List (Waiting Command Reply Memory)
    pub seen : ℕ
    pub memory : Memory
    pub command : Command
    pub commands : List Command
    pub reply : Reply
    pub replies : List Reply
    pub back : List (Waiting Command Reply Memory)
    pub number : length front ≡ event.session
    pub found : sessions ≡ front ++ record { seen = seen; memory = memory; commands = command ∷ commands; replies = reply ∷ replies } ∷ back
    pub is_short : event.is_short ≡ true → reply ≡ core.short
    pub placed : rule (length before) seen reply
    pub is_answer : event.is_short ≡ false → core.answers event.session before memory command reply

  -- the sessions and the journal after it
  abbrev pub sessions_after : {event : Event} {before : List Entry} {sessions : List (Waiting Command Reply Memory)} → TakesNextCommand event before sessions → List (Waiting Command Reply Memory)
  sessions_after t = t.front ++ record { seen = seen_after core t.seen t.reply; memory = core.memory_after t.memory t.command t.reply; commands = t.commands; replies = t.replies } ∷ t.back

  abbrev pub journal_after : {event : Event} {before : List Entry} {sessions : List (Waiting Command Reply Memory)} → TakesNextCommand event before sessions → List Entry
  journal_after {event} {before} t = before ++ entry_list (core.entry_of event.session t.memory t.command t.reply)

  abbrev pub IsSessionDone : Waiting Command Reply Memory → Type 0
  IsSessionDone w = (w.commands ≡ []) × (w.replies ≡ [])

  -- session n has no command left
  abbrev pub IsIdle : ℕ → List (Waiting Command Reply Memory) → Type 0
  IsIdle n sessions = (w : Waiting Command Reply Memory) → slice_get sessions n ≡ Some w → w.commands ≡ []

  -- played from this journal, the events answer all commands with these replies, and leave that journal
  abbrev pub Plays : List Event → List Entry → List (Waiting Command Reply Memory) → List Entry → Type 0
  Plays [] before sessions after = (after ≡ before) × Each IsSessionDone sessions
  Plays (event ∷ events) before sessions after = ((t : TakesNextCommand event before sessions) × Plays events (journal_after t) (sessions_after t) after)
      ⊎ (IsIdle event.session sessions × Plays events before sessions after)

  -- each session at its start, with its script and the replies that it will get
  abbrev pub sessions_at_start : Memory → List (List Command) → List (List Reply) → List (Waiting Command Reply Memory)
  sessions_at_start start [] rs = []
  sessions_at_start start (c ∷ cs) [] = []
  sessions_at_start start (c ∷ cs) (r ∷ rs) = record { seen = 0; memory = start; commands = c; replies = r } ∷ sessions_at_start start cs rs

  abbrev pub PlaysBy : Memory → List (List Command) → List Event → List Entry → List (List Reply) → Type 0
  PlaysBy start scripts events journal replies = (length replies ≡ length scripts) × Plays events [] (sessions_at_start start scripts replies) journal

module _ {Entry Command Reply Memory : Type 0} (core : Core Entry Command Reply Memory) where
  -- the events answer all commands of the scripts, with this journal and these replies
  abbrev pub IsPlayOfEvents : Memory → List (List Command) → List Event → List Entry → List (List Reply) → Type 0
  IsPlayOfEvents start scripts events journal replies = PlaysBy core (λ version seen r. ⊤) start scripts events journal replies

  -- each reply at its base or, where it has none, at the version that its session has seen
  abbrev pub IsInPlace : ℕ → ℕ → Reply → Type 0
  IsInPlace version seen r = version ≡ unwrap_or (core.base_of r) seen

  -- the same, in the order of the versions at which the replies were given
  abbrev pub IsOrderOfEvents : Memory → List (List Command) → List Event → List Entry → List (List Reply) → Type 0
  IsOrderOfEvents start scripts events journal replies = PlaysBy core IsInPlace start scripts events journal replies
