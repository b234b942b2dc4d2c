-- The opening text of a script of groups, where the lines of the script are good, and its sessions.
use Rattle.std.proofs.Common.{◌≡◌, ℕ, ◌<◌, ◌≤◌, true, List, [], ◌∷◌, All, length, subst, arith}
use Rattle.std.specs.List.{flat_map, list_all}
use Rattle.std.proofs.lemmas.List.Elements.{All-tail, All-filter, All-weaker}
use Rattle.line_cutter.specs.Cut.{IsGoodLine}
use Rattle.script_reader.specs.declared.step.GroupScript.{GroupScript}
use Rattle.script_reader.specs.Groups.{IsGroupScript, is_lawful_step, steps_statements}
use Rattle.script_reader.specs.Statements.{says_something, statements_of}
use Rattle.script_reader.proofs.Said.{short_statements}
use Rattle.input_answers.proofs.ScriptTexts.{IsShort, IsShortLine, in_front, short_line}

pub short_texts : (lines : List (List ℕ)) (script : GroupScript) → All IsGoodLine lines → IsGroupScript lines script → All (λ (line : List ℕ). length line < 65535) script.text
short_texts [] script good spelt = absurd spelt
short_texts (first ∷ lines) script good spelt =
    let short : All IsShortLine lines = All-weaker IsGoodLine IsShortLine short_line lines (All-tail IsGoodLine first lines good) in
    in_front script.text (flat_map steps_statements script.sessions)
    (subst (All IsShort) spelt.said (All-filter says_something IsShort (statements_of lines) (short_statements 65535 lines (omega arith) short)))

-- it has few sessions
pub few_sessions : (lines : List (List ℕ)) (script : GroupScript) → IsGroupScript lines script → length script.sessions ≤ 64
few_sessions [] script spelt = absurd spelt
few_sessions (first ∷ lines) script spelt = spelt.few

-- of lawful steps
pub lawful_steps : (lines : List (List ℕ)) (script : GroupScript) → IsGroupScript lines script → list_all (list_all is_lawful_step) script.sessions ≡ true
lawful_steps [] script spelt = absurd spelt
lawful_steps (first ∷ lines) script spelt = spelt.groups
