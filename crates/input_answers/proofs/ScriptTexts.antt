-- The lines of a script's opening text, where the lines of the script are good.
use Rattle.std.proofs.Common.{ℕ, ◌<◌, ◌≤◌, List, [], ◌∷◌, ◌++◌, All, length, map, subst, arith}
use Rattle.std.specs.List.{flat_map}
use Rattle.std.proofs.lemmas.List.Elements.{All-nil, All-cons, All-head, All-tail, All-filter, All-weaker}
use Rattle.line_cutter.specs.Cut.{IsGoodLine}
use Rattle.script_reader.specs.declared.command.Script.{Script}
use Rattle.script_reader.specs.Script.{IsScript, says_something, session_statements}
use Rattle.script_reader.specs.Statements.{Statement, Text, statements_of}
use Rattle.script_reader.proofs.Said.{short_statements, text_len}

abbrev pub IsShort : Statement → Type 0
IsShort statement = text_len statement < 65535

abbrev pub IsShortLine : List ℕ → Type 0
IsShortLine line = length line < 65535

pub short_line : (line : List ℕ) → IsGoodLine line → IsShortLine line
short_line line good = omega (arith, good.short)

-- the texts in front
pub in_front : (texts : List (List ℕ)) (more : List Statement) → All IsShort (map Text texts ++ more) → All (λ (line : List ℕ). length line < 65535) texts
in_front [] more all = All-nil (λ (line : List ℕ). length line < 65535)
in_front (t ∷ ts) more all =
    All-cons (λ (line : List ℕ). length line < 65535) t ts (All-head IsShort (Text t) (map Text ts ++ more) all) (in_front ts more (All-tail IsShort (Text t) (map Text ts ++ more) all))

pub short_texts : (lines : List (List ℕ)) (script : Script) → All IsGoodLine lines → IsScript lines script → All (λ (line : List ℕ). length line < 65535) script.text
short_texts [] script good spelt = absurd spelt
short_texts (first ∷ lines) script good spelt =
    let short : All IsShortLine lines = All-weaker IsGoodLine IsShortLine short_line lines (All-tail IsGoodLine first lines good) in
    in_front script.text (flat_map session_statements script.sessions)
    (subst (All IsShort) spelt.said (All-filter says_something IsShort (statements_of lines) (short_statements 65535 lines (omega arith) short)))

-- a script has few sessions
pub few_sessions : (lines : List (List ℕ)) (script : Script) → IsScript lines script → length script.sessions ≤ 64
few_sessions [] script spelt = absurd spelt
few_sessions (first ∷ lines) script spelt = spelt.few
