-- The adapters of std's readers and writers.
use Rattle.std.specs.Prelude.{ℕ}

-- a reader or a writer, and how often a call of it has failed
pub record CountedDevice (T : Type 0) : Type 0 where
  pub inner : T
  pub faults : ℕ
