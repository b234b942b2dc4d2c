-- The names that an entry gives the header.
use Rattle.std.specs.Prelude.{◌≡◌, ℕ, ◌<◌, ◌^◌, true, List, ◌++◌, codes}
use Rattle.std.specs.Str.{is_utf8}
use Rattle.knit_base.specs.Names.{AreNames, spaced_names}
use Rattle.knit_base.specs.Spelling.{labelled_number}
use Rattle.edit_journal.specs.EntryLine.{head_text}
use Rattle.journal_file.specs.Words.{IsLabelled}

-- the text tells these names, each behind a space
pub record IsNames (names : List (List ℕ)) (text : List ℕ) : Type 0 where
  pub spelt : text ≡ spaced_names names
  pub are : AreNames names
  pub utf8 : is_utf8 text ≡ true

-- the line tells an entry that gives the header these names
pub record IsHeadEntry (session seen : ℕ) (names : List (List ℕ)) (line : List ℕ) : Type 0 where
  pub spelt : line ≡ labelled_number (codes "session ") session ++ head_text seen names
  pub session_few : session < 64
  pub seen_fits : seen < 2 ^ 32
  pub are : IsNames names (spaced_names names)

-- what stands before the names: this session, the stamp that it had seen, and the text of the names
pub record IsHeadFront (session seen : ℕ) (text line : List ℕ) : Type 0 where
  pub behind : List ℕ
  pub session_is : IsLabelled line (codes "session ") session behind
  pub session_few : session < 64
  pub seen_is : IsLabelled behind (codes " put head seen ") seen (codes " carriers" ++ text)
