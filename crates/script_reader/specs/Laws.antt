-- What more lines of a conversation ask for, and what a line asks for that is cut.
use Rattle.std.specs.Prelude.{◌≡◌, ℕ, ◌+◌, ◌<◌, List, ◌++◌, length, take}
use Rattle.script_reader.specs.Hearing.{Hearing, heard, hearing_behind, orders_from}

-- a front of over 4,096 bytes is heard as the whole line is
abbrev pub EachLineMayBeCut : Type 0
EachLineMayBeCut = (h : Hearing) (number count : ℕ) (line : List ℕ) → 4096 < count → heard h number (take count line) ≡ heard h number line

-- more lines ask for what the first of them ask for, and then for what the others do behind these
abbrev pub OrdersOfMoreLines : Type 0
OrdersOfMoreLines = (h : Hearing) (number : ℕ) (lines more : List (List ℕ))
    → orders_from h number (lines ++ more) ≡ orders_from h number lines ++ orders_from (hearing_behind h number lines) (number + length lines) more
