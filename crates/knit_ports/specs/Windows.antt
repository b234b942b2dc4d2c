-- What is held of a file while its lines are taken. No public contract speaks of it.
use Rattle.std.specs.Prelude.{◌≡◌, ℕ, ◌+◌, ◌≤◌, List, length}
use Rattle.std.specs.declared.option.Option.{Option}
use Rattle.std.specs.Io.KnownBytes.{Consumes, IsAtEnd}
use Rattle.knit_ports.specs.declared.limit.TheConstants.{INPUT_LIMIT}

-- the bytes that are held, and how many were read in all
pub record WindowView : Type 0 where
  pub held : List ℕ
  pub count : ℕ

-- the source was read to its end or to a byte past the limit, where so many bytes were read before
pub record IsReadOut (old new : Option (List ℕ)) (before after : ℕ) : Type 0 where
  pub given : List ℕ
  pub consumed : Consumes old new given
  pub counted : after ≡ before + length given
  pub ended : after ≤ INPUT_LIMIT → IsAtEnd new
