-- The lines of one of the first blocks.
use Rattle.std.specs.Prelude.{ℕ, ◌+◌, ◌-◌, min, List, codes}
use Rattle.journal_file.specs.CountLines.{IsCount}
use Rattle.journal_file.specs.Grammars.{Form, OneLine, Both, Chain}
use Rattle.journal_file.specs.Texts.{TextLinesForm}

-- how many lines it has, 1 to so many, and the lines
abbrev pub IsBlock : ℕ → Form (ℕ × List (List ℕ))
IsBlock most = Both (OneLine (IsCount (codes "block ") 1 most)) (λ count. TextLinesForm count)

-- how many lines the blocks so far have, and how many blocks are to come
pub record BlocksSoFar : Type 0 where
  pub lines : ℕ
  pub left : ℕ

-- The next one has no more than a block may have, and leaves a line for each block behind it.
abbrev pub most_lines : BlocksSoFar → ℕ
most_lines s = min 4096 (1048576 - s.lines - (s.left - 1))

abbrev pub block_form : BlocksSoFar → Form (ℕ × List (List ℕ))
block_form s = IsBlock (most_lines s)

abbrev pub with_block : BlocksSoFar → ℕ × List (List ℕ) → BlocksSoFar
with_block s block = record { lines = s.lines + block.0; left = s.left - 1 }

abbrev pub no_block_yet : ℕ → BlocksSoFar
no_block_yet many = record { lines = 0; left = many }

-- so many of the first blocks
abbrev pub BlocksForm : ℕ → Form (List (ℕ × List (List ℕ)))
BlocksForm many = Chain block_form with_block many (no_block_yet many)
