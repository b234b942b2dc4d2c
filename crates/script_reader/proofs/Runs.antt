-- What statements make of a script so far, one after the other.
use Rattle.std.proofs.Common.{◌≡◌, ℕ, true, List, [], ◌∷◌, ◌++◌, map, filter, Option, Some, None, sym, ap, ◌∙◌, refl, append_assoc, append-nil}
use Rattle.script_reader.specs.Script.{command_line_in, command_statement, command_statements, takes_text, text_of_command}
use Rattle.script_reader.specs.Statements.{Statement, Nothing, Text, Session, Command, Header, Mark, Nonsense, says_something}
use Rattle.script_reader.specs.declared.command.Command as declared
use Rattle.script_reader.specs.declared.command.Command.TheVariants as command
use Rattle.script_reader.specs.declared.fault.Cause.{Cause}
use Rattle.script_reader.specs.declared.line.CommandLine.{CommandLine}
use Rattle.script_reader.specs.declared.line.CommandLine.TheVariants as command_lines

-- a command without its text
abbrev pub bare_command : declared.Command → declared.Command
bare_command (command.Look name) = command.Look name
bare_command (command.Put name text) = command.Put name []
bare_command (command.Add place text) = command.Add place []
bare_command (command.Cut name) = command.Cut name
bare_command (command.LoopAt line) = command.LoopAt line
bare_command command.Verdict = command.Verdict
bare_command command.LookHead = command.LookHead
bare_command (command.PutHead names) = command.PutHead names

-- the command of a line, with no text
abbrev pub bare_of : CommandLine → declared.Command
bare_of (command_lines.Look name) = command.Look name
bare_of (command_lines.Put name) = command.Put name []
bare_of (command_lines.Add place) = command.Add place []
bare_of (command_lines.Cut name) = command.Cut name
bare_of (command_lines.LoopAt line) = command.LoopAt line
bare_of command_lines.Verdict = command.Verdict
bare_of command_lines.LookHead = command.LookHead
bare_of command_lines.PutHead = command.PutHead []

-- with one more line of text
abbrev pub command_with_line : List ℕ → declared.Command → declared.Command
command_with_line line (command.Look name) = command.Look name
command_with_line line (command.Put name text) = command.Put name (text ++ line ∷ [])
command_with_line line (command.Add place text) = command.Add place (text ++ line ∷ [])
command_with_line line (command.Cut name) = command.Cut name
command_with_line line (command.LoopAt at) = command.LoopAt at
command_with_line line command.Verdict = command.Verdict
command_with_line line command.LookHead = command.LookHead
command_with_line line (command.PutHead names) = command.PutHead names

abbrev pub onward : {S : Type 0} → Option Cause → Option S → Option S
onward None result = result
onward (Some cause) result = None

module _ {S : Type 0} (cause_of : S → Statement → Option Cause) (with_statement : S → Statement → S) where
  -- what these statements make of a script
  abbrev pub statements_run : S → List Statement → Option S
  statements_run s [] = Some s
  statements_run s (x ∷ xs) = onward (cause_of s x) (statements_run (with_statement s x) xs)

  -- what says nothing changes nothing
  pub record IsQuiet : Type 0 where
    pub free : (s : S) → cause_of s Nothing ≡ None
    pub same : (s : S) → with_statement s Nothing ≡ s

  pub runs_something : IsQuiet → (s : S) (xs : List Statement) → statements_run s (filter says_something xs) ≡ statements_run s xs
  runs_something quiet s [] = refl
  runs_something quiet s (Nothing ∷ xs) =
      runs_something quiet s xs ∙ sym (ap (λ o. onward o (statements_run (with_statement s Nothing) xs)) (quiet.free s) ∙ ap (λ (t : S). statements_run t xs) (quiet.same s))
  runs_something quiet s (Text line ∷ xs) = ap (onward (cause_of s (Text line))) (runs_something quiet (with_statement s (Text line)) xs)
  runs_something quiet s (Session ∷ xs) = ap (onward (cause_of s Session)) (runs_something quiet (with_statement s Session) xs)
  runs_something quiet s (Command h ∷ xs) = ap (onward (cause_of s (Command h))) (runs_something quiet (with_statement s (Command h)) xs)
  runs_something quiet s (Header names ∷ xs) = ap (onward (cause_of s (Header names))) (runs_something quiet (with_statement s (Header names)) xs)
  runs_something quiet s (Mark m ∷ xs) = ap (onward (cause_of s (Mark m))) (runs_something quiet (with_statement s (Mark m)) xs)
  runs_something quiet s (Nonsense ∷ xs) = ap (onward (cause_of s Nonsense)) (runs_something quiet (with_statement s Nonsense) xs)

  pub runs_append : (s after : S) (xs ys : List Statement) → statements_run s xs ≡ Some after → statements_run s (xs ++ ys) ≡ statements_run after ys
  runs_append s after [] ys is = let same : s ≡ after = cc in ap (λ (t : S). statements_run t ys) same
  runs_append s after (x ∷ xs) ys is = go (λ r. runs_append (with_statement s x) after xs ys r) (cause_of s x) is
    where
      go : (statements_run (with_statement s x) xs ≡ Some after → statements_run (with_statement s x) (xs ++ ys) ≡ statements_run after ys)
          → (o : Option Cause) → onward o (statements_run (with_statement s x) xs) ≡ Some after → onward o (statements_run (with_statement s x) (xs ++ ys)) ≡ statements_run after ys
      go rest None r = rest r
      go rest (Some cause) r = absurd (cc)

  pub runs_step : (s next : S) (x : Statement) (xs : List Statement) → cause_of s x ≡ None → with_statement s x ≡ next → statements_run s (x ∷ xs) ≡ statements_run next xs
  runs_step s next x xs free is = ap (λ o. onward o (statements_run (with_statement s x) xs)) free ∙ ap (λ (t : S). statements_run t xs) is

  -- a script so far whose last command this is takes its texts
  pub record IsSlot (state : declared.Command → S) : Type 0 where
    pub free : (c : declared.Command) (line : List ℕ) → takes_text (command_line_in c) ≡ true → cause_of (state c) (Text line) ≡ None
    pub more : (c : declared.Command) (line : List ℕ) → takes_text (command_line_in c) ≡ true → with_statement (state c) (Text line) ≡ state (command_with_line line c)

  module _ (state : declared.Command → S) (slot : IsSlot state) where
    texts_run : (make : List (List ℕ) → declared.Command) → ((text : List (List ℕ)) → takes_text (command_line_in (make text)) ≡ true) → ((text : List (List ℕ)) (line : List ℕ) → command_with_line line (make text) ≡ make (text ++ line ∷ []))
        → (so_far texts : List (List ℕ)) → statements_run (state (make so_far)) (map Text texts) ≡ Some (state (make (so_far ++ texts)))
    texts_run make takes more so_far [] = ap (λ (l : List (List ℕ)). Some (state (make l))) (sym (append-nil so_far))
    texts_run make takes more so_far (t ∷ ts) =
        runs_step (state (make so_far)) (state (make (so_far ++ t ∷ []))) (Text t) (map Text ts) (slot.free (make so_far) t (takes so_far)) (slot.more (make so_far) t (takes so_far) ∙ ap state (more so_far t))
        ∙ texts_run make takes more (so_far ++ t ∷ []) ts
        ∙ ap (λ (l : List (List ℕ)). Some (state (make l))) (append_assoc so_far (t ∷ []) ts)

    text_run : (c : declared.Command) → statements_run (state (bare_command c)) (map Text (text_of_command c)) ≡ Some (state c)
    text_run (command.Look name) = refl
    text_run (command.Put name text) = texts_run (command.Put name) (λ text. refl) (λ text line. refl) [] text
    text_run (command.Add place text) = texts_run (command.Add place) (λ text. refl) (λ text line. refl) [] text
    text_run (command.Cut name) = refl
    text_run (command.LoopAt line) = refl
    text_run command.Verdict = refl
    text_run command.LookHead = refl
    text_run (command.PutHead names) = refl

    -- a command that may stand there
    pub command_run : (s : S) (c : declared.Command) → cause_of s (command_statement c) ≡ None → with_statement s (command_statement c) ≡ state (bare_command c) → statements_run s (command_statements c) ≡ Some (state c)
    command_run s c free begun = runs_step s (state (bare_command c)) (command_statement c) (map Text (text_of_command c)) free begun ∙ text_run c
