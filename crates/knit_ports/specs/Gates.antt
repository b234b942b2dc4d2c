-- Gates between the commands of sessions.
use Rattle.std.specs.Prelude.{ℕ}

-- which command a gate holds, until the reply to which other is in, and how often it looks; a command is its session and
-- its place there
pub record CountView : Type 0 where
  pub held : ℕ × ℕ
  pub until : ℕ × ℕ
  pub looks : ℕ
