-- What one line of a conversation says by itself.
use Rattle.std.specs.Prelude.{ℕ, nat_lt, ◌==◌, List, [], ◌∷◌, codes, Option, None, Some, if◌then◌else◌}
use Rattle.std.specs.Option.{option_map, option_and_then, option_map_or}
use Rattle.std.specs.Str.{bytes_eq}
use Rattle.knitout_reader.specs.Tokens.{tokens_of}
use Rattle.script_reader.specs.Script.{takes_text}
use Rattle.script_reader.specs.Statements.{command_line_of, is_skipped, is_text_line, mark_of}
use Rattle.script_reader.specs.Words.{name_in, number_in}
use Rattle.script_reader.specs.declared.fault.Cause.TheVariants.{BadLine, ManySessions}
use Rattle.script_reader.specs.declared.line.CommandLine.{CommandLine}
use Rattle.script_reader.specs.declared.line.CommandLine.TheVariants as command_lines
use Rattle.script_reader.specs.declared.talk_line.Asked.{Asked}
use Rattle.script_reader.specs.declared.talk_line.Asked.TheVariants as asked
use Rattle.script_reader.specs.declared.talk_line.Question.TheVariants as question
use Rattle.script_reader.specs.declared.talk_line.TalkLine.{TalkLine}
use Rattle.script_reader.specs.declared.talk_line.TalkLine.TheVariants as talk
use Rattle.script_reader.specs.declared.talk_line.TalkOpening.{TalkOpening}
use Rattle.script_reader.specs.declared.talk_line.TalkOpening.TheVariants as opening

-- the first line: `serve 1`, and how many text lines of an opening text, or lines of a saved text, stand behind it
abbrev pub opening_by : List ℕ → List ℕ → Option TalkOpening
opening_by key value =
    if bytes_eq key (codes "lines") then option_map opening.Lines (number_in value)
    else (if bytes_eq key (codes "journal") then option_map opening.Journal (number_in value)
    else None)

abbrev pub opening_in_words : List (List ℕ) → Option TalkOpening
opening_in_words [] = None
opening_in_words (word ∷ []) = None
opening_in_words (word ∷ form ∷ []) = None
opening_in_words (word ∷ form ∷ key ∷ []) = None
opening_in_words (word ∷ form ∷ key ∷ value ∷ []) =
    if bytes_eq word (codes "serve") then (if bytes_eq form (codes "1") then opening_by key value else None) else None
opening_in_words (word ∷ form ∷ key ∷ value ∷ more ∷ words) = None

abbrev pub talk_opening : List ℕ → Option TalkOpening
talk_opening line = opening_in_words (tokens_of line)

-- one word: `verdict`, a question, or a mark
abbrev pub asked_by_one : List ℕ → Option Asked
asked_by_one word =
    if bytes_eq word (codes "verdict") then Some (asked.Plain command_lines.Verdict)
    else (if bytes_eq word (codes "blocks") then Some (asked.Tell question.Blocks)
    else (if bytes_eq word (codes "save") then Some (asked.Tell question.Save)
    else option_map asked.Mark (mark_of word)))

-- a command that takes no text
abbrev pub asked_without_text : CommandLine → Option Asked
asked_without_text c = if takes_text c then None else Some (asked.Plain c)

-- two words: a command without a text, as in a script, or `since V`
abbrev pub asked_by_two : List ℕ → List ℕ → Option Asked
asked_by_two word operand =
    if bytes_eq word (codes "since") then option_map (λ version. asked.Tell (question.Since version)) (number_in operand)
    else option_and_then asked_without_text (command_line_of word operand)

-- three: `tally FROM TO`
abbrev pub asked_by_three : List ℕ → List ℕ → List ℕ → Option Asked
asked_by_three word from to =
    if bytes_eq word (codes "tally") then option_and_then (λ first. option_map (λ last. asked.Tell (question.Tally first last)) (number_in to)) (number_in from)
    else None

-- a put or an add, with so many text lines behind it
abbrev pub edit : ℕ → CommandLine → Option Asked
edit count c = if takes_text c then Some (asked.Edit c count) else None

-- four: `put B lines K`, `add start lines K`, `add B lines K`, `put head lines 1`, and `look B at S`
abbrev pub edit_by : List ℕ → List ℕ → ℕ → Option Asked
edit_by word operand count =
    if bytes_eq word (codes "put") then (if bytes_eq operand (codes "head") then (if count == 1 then Some asked.Header else None) else option_and_then (edit count) (command_line_of word operand))
    else option_and_then (edit count) (command_line_of word operand)

abbrev pub look_by : List ℕ → List ℕ → ℕ → Option Asked
look_by word operand stamp =
    if bytes_eq word (codes "look") then option_map (λ name. asked.Tell (question.TextAt name stamp)) (name_in operand) else None

abbrev pub asked_by_four : List ℕ → List ℕ → List ℕ → List ℕ → Option Asked
asked_by_four word operand key value =
    if bytes_eq key (codes "lines") then option_and_then (edit_by word operand) (number_in value)
    else (if bytes_eq key (codes "at") then option_and_then (look_by word operand) (number_in value)
    else None)

-- what these words ask, if they ask anything
abbrev pub asked_by_words : List (List ℕ) → Option Asked
asked_by_words [] = None
asked_by_words (word ∷ []) = asked_by_one word
asked_by_words (word ∷ operand ∷ []) = asked_by_two word operand
asked_by_words (word ∷ from ∷ to ∷ []) = asked_by_three word from to
asked_by_words (word ∷ operand ∷ key ∷ value ∷ []) = asked_by_four word operand key value
asked_by_words (word ∷ operand ∷ key ∷ value ∷ more ∷ words) = None

abbrev pub talk_line_asking : ℕ → Option Asked → TalkLine
talk_line_asking session None = talk.Bad BadLine
talk_line_asking session (Some a) = if nat_lt session 64 then talk.Command session a else talk.Bad ManySessions

-- a command, in front of which `session` and a number may stand; else it is one of session 0
abbrev pub command_in : List (List ℕ) → TalkLine
command_in [] = talk.Bad BadLine
command_in (word ∷ []) = talk_line_asking 0 (asked_by_words (word ∷ []))
command_in (word ∷ number ∷ words) =
    if bytes_eq word (codes "session") then option_map_or (λ session. talk_line_asking session (asked_by_words words)) (number_in number) (talk.Bad BadLine)
    else talk_line_asking 0 (asked_by_words (word ∷ number ∷ words))

abbrev pub talk_line_of : List ℕ → TalkLine
talk_line_of line = if is_text_line line then talk.Text else (if is_skipped line then talk.Skipped else command_in (tokens_of line))
