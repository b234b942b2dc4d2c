-- What the laws on histories ask of a book: its entries, its replies and what a session remembers.
use Rattle.std.specs.Prelude.{◌≡◌, ◌⊎◌, ℕ, ◌+◌, List, Option, Some, None, length}

pub record Core (Entry Command Reply Memory : Type 0) : Type 1 where
  -- the session that made the entry
  pub number_of : Entry → ℕ
  -- the reply is the answer at this journal to this session, with this memory, to this command
  pub answers : ℕ → List Entry → Memory → Command → Reply → Type 0
  -- the entry that this session's accepted reply appends
  pub entry_of : ℕ → Memory → Command → Reply → Option Entry
  pub memory_after : Memory → Command → Reply → Memory
  -- want of memory
  pub short : Reply
  -- the version that the reply carries
  pub version_of : Reply → Option ℕ
  -- the version at which it was given
  pub base_of : Reply → Option ℕ

-- the version that a reply carries is that of the journal before it or, where it appends an entry, after it; a reply without a version is right at every journal
pub record IsCore {Entry Command Reply Memory : Type 0} (core : Core Entry Command Reply Memory) : Type 0 where
  pub number : (n : ℕ) (memory : Memory) (c : Command) (r : Reply) (e : Entry) → core.entry_of n memory c r ≡ Some e → core.number_of e ≡ n
  pub short_entry : (n : ℕ) (memory : Memory) (c : Command) → core.entry_of n memory c core.short ≡ None
  pub short_version : core.version_of core.short ≡ None
  pub short_base : core.base_of core.short ≡ None
  pub enters : (n : ℕ) (before : List Entry) (memory : Memory) (c : Command) (r : Reply) (e : Entry) → core.answers n before memory c r → core.entry_of n memory c r ≡ Some e
      → (core.base_of r ≡ Some (length before)) × (core.version_of r ≡ Some (length before + 1))
  pub stays : (n : ℕ) (before : List Entry) (memory : Memory) (c : Command) (r : Reply) → core.answers n before memory c r → core.entry_of n memory c r ≡ None
      → ((core.base_of r ≡ Some (length before)) × (core.version_of r ≡ Some (length before))) ⊎ ((core.base_of r ≡ None) × (core.version_of r ≡ None))
  pub free : (n : ℕ) (before after : List Entry) (memory : Memory) (c : Command) (r : Reply) → core.answers n before memory c r → core.base_of r ≡ None → core.answers n after memory c r
