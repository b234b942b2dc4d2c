-- What was written of a file while its lines came.
use Rattle.std.specs.Prelude.{◌≡◌, ℕ, ◌≤◌, List, [], length}
use Rattle.knitout_reader.specs.declared.head.Head.{Head}
use Rattle.knitout_writer.specs.declared.text_writer.TextWriter.{TextWriter}
use Rattle.knitout_writer.specs.Canonical.{IsCanonicalText, with_line_feeds}

-- these lines of the head, as they are, are all that is written
pub record HasSeen (lines : List (List ℕ)) (start now : TextWriter) : Type 0 where
  pub same_profile : now.profile ≡ start.profile
  pub empty : start.out.items ≡ []
  pub written : now.out.items ≡ with_line_feeds lines

-- the canonical text of the file with this head and these lines is what is written
pub record HasWritten (head : Head) (lines : List (List ℕ)) (start now : TextWriter) : Type 0 where
  pub same_profile : now.profile ≡ start.profile
  pub within : head.lines ≤ length lines
  pub text : IsCanonicalText start.profile head lines now.out.items
