-- What the statements of a script make of the empty one: that script.
use Rattle.std.proofs.Common.{◌≡◌, inl, inr, ℕ, ◌+◌, ◌<◌, ◌≤◌, true, cond, List, [], ◌∷◌, ◌++◌, length, map, Option, Some, None, sym, ap, ◌∙◌, refl, subst, append_assoc, append-nil, arith, length-append}
use Rattle.std.specs.List.{flat_map, list_all}
use Rattle.std.proofs.lemmas.Bool.{lt-ltb}
use Rattle.script_reader.specs.Reading.{script_of}
use Rattle.script_reader.specs.Script.{IsLawfulScript, IsScriptRefusal, IsScript, adds_in, adds_of, all_known, script_statement_cause, command_cause, command_line_in, command_statement, command_statements, last_takes_text, live_grammar, names_known, session_statements, statements, takes_text, text_cause}
use Rattle.script_reader.specs.Statements.{Statement, Nothing, Text, Session, Command, Header, Mark, Nonsense}
use Rattle.script_reader.specs.declared.command.Command as declared
use Rattle.script_reader.specs.declared.command.Command.TheVariants as command
use Rattle.script_reader.specs.declared.command.Script.{Script}
use Rattle.script_reader.specs.declared.fault.Cause.{Cause}
use Rattle.script_reader.specs.declared.fault.Cause.TheVariants.{BadLine, ManySessions, NoOwn}
use Rattle.script_reader.specs.declared.fault.ScriptFault.TheVariants.{At}
use Rattle.script_reader.specs.declared.line.CommandLine.{CommandLine}
use Rattle.script_reader.proofs.Bools.{first_true, second_true}
use Rattle.script_reader.proofs.Ends.{adds_more, adds_one, last_is-snoc, last_session-snoc, on_last, on_last-snoc}
use Rattle.script_reader.proofs.Outside.{IsRunning, outside_none}
use Rattle.script_reader.proofs.Runs.{IsSlot, bare_command, bare_of, command_run, command_with_line, statements_run, runs_append, runs_step}

-- with one more line of the opening text, or of the last command's
abbrev with_text : List (List ℕ) → List (List declared.Command) → List ℕ → Script
with_text text [] line = script_of (text ++ line ∷ []) []
with_text text (session ∷ sessions) line = script_of text (on_last (on_last (command_with_line line)) (session ∷ sessions))

abbrev with_command : Script → declared.Command → Script
with_command script command = script_of script.text (on_last (λ commands. commands ++ command ∷ []) script.sessions)

-- what one more line makes of a script behind whose lines it may stand
abbrev pub with_statement : Script → Statement → Script
with_statement script Nothing = script
with_statement script (Text line) = with_text script.text script.sessions line
with_statement script Session = script_of script.text (script.sessions ++ [] ∷ [])
with_statement script (Command command_line) = with_command script (bare_of command_line)
with_statement script (Header names) = with_command script (command.PutHead names)
with_statement script (Mark mark) = script
with_statement script Nonsense = script

abbrev run : Script → List Statement → Option Script
run = statements_run script_statement_cause with_statement

-- what is known where the last item is
pub text_cause-snoc : (done : List (List declared.Command)) (session : List declared.Command) → text_cause (done ++ session ∷ []) ≡ cond (last_takes_text session) None (Some BadLine)
text_cause-snoc [] session = refl
text_cause-snoc (s ∷ ss) session = ap (λ (l : List declared.Command). cond (last_takes_text l) None (Some BadLine)) (last_session-snoc (s ∷ ss) session)

pub command_cause-snoc : (done : List (List declared.Command)) (session : List declared.Command) (h : CommandLine) → command_cause (done ++ session ∷ []) h ≡ cond (names_known (adds_in session) h) None (Some NoOwn)
command_cause-snoc [] session h = refl
command_cause-snoc (s ∷ ss) session h = ap (λ (l : List declared.Command). cond (names_known (adds_in l) h) None (Some NoOwn)) (last_session-snoc (s ∷ ss) session)

with_text-snoc : (text : List (List ℕ)) (done : List (List declared.Command)) (session : List declared.Command) (line : List ℕ) → with_text text (done ++ session ∷ []) line ≡ script_of text (done ++ on_last (command_with_line line) session ∷ [])
with_text-snoc text [] session line = refl
with_text-snoc text (s ∷ ss) session line = ap (script_of text) (on_last-snoc (on_last (command_with_line line)) (s ∷ ss) session)

-- why what a command says can't stand there
pub statement_cause : (sessions : List (List declared.Command)) (text : List (List ℕ)) (c : declared.Command) → script_statement_cause (script_of text sessions) (command_statement c) ≡ command_cause sessions (command_line_in c)
statement_cause sessions text (command.Look name) = refl
statement_cause sessions text (command.Put name lines) = refl
statement_cause sessions text (command.Add place lines) = refl
statement_cause sessions text (command.Cut name) = refl
statement_cause sessions text (command.LoopAt line) = refl
statement_cause sessions text command.Verdict = refl
statement_cause sessions text command.LookHead = refl
statement_cause sessions text (command.PutHead names) = refl

statement_begins : (script : Script) (c : declared.Command) → with_statement script (command_statement c) ≡ with_command script (bare_command c)
statement_begins script (command.Look name) = refl
statement_begins script (command.Put name lines) = refl
statement_begins script (command.Add place lines) = refl
statement_begins script (command.Cut name) = refl
statement_begins script (command.LoopAt line) = refl
statement_begins script command.Verdict = refl
statement_begins script command.LookHead = refl
statement_begins script (command.PutHead names) = refl

opening_texts : (so_far texts : List (List ℕ)) → run (script_of so_far []) (map Text texts) ≡ Some (script_of (so_far ++ texts) [])
opening_texts so_far [] = ap (λ (l : List (List ℕ)). Some (script_of l [])) (sym (append-nil so_far))
opening_texts so_far (t ∷ ts) = opening_texts (so_far ++ t ∷ []) ts ∙ ap (λ (l : List (List ℕ)). Some (script_of l [])) (append_assoc so_far (t ∷ []) ts)

module _ (text : List (List ℕ)) where
  -- the script whose last command this is
  abbrev writing : List (List declared.Command) → List declared.Command → declared.Command → Script
  writing done commands c = script_of text (done ++ (commands ++ c ∷ []) ∷ [])

  slot : (done : List (List declared.Command)) (commands : List declared.Command) → IsSlot script_statement_cause with_statement (writing done commands)
  slot done commands = record {
    free = λ c line takes. text_cause-snoc done (commands ++ c ∷ []) ∙ ap (λ b. cond b None (Some BadLine)) (last_is-snoc (λ c. takes_text (command_line_in c)) commands c ∙ takes);
    more = λ c line takes. with_text-snoc text done (commands ++ c ∷ []) line ∙ ap (λ (cs : List declared.Command). script_of text (done ++ cs ∷ [])) (on_last-snoc (command_with_line line) commands c);
  }

  one_command : (done : List (List declared.Command)) (commands : List declared.Command) (c : declared.Command) → names_known (adds_in commands) (command_line_in c) ≡ true
      → run (script_of text (done ++ commands ∷ [])) (command_statements c) ≡ Some (writing done commands c)
  one_command done commands c known =
      command_run script_statement_cause with_statement (writing done commands) (slot done commands) (script_of text (done ++ commands ∷ [])) c
      (statement_cause (done ++ commands ∷ []) text c ∙ (command_cause-snoc done commands (command_line_in c) ∙ ap (λ b. cond b None (Some NoOwn)) known))
      (statement_begins (script_of text (done ++ commands ∷ [])) c ∙ ap (script_of text) (on_last-snoc (λ cs. cs ++ bare_command c ∷ []) done commands))

  all_commands : (done : List (List declared.Command)) (commands more : List declared.Command) → all_known (adds_in commands) more ≡ true
      → run (script_of text (done ++ commands ∷ [])) (flat_map command_statements more) ≡ Some (script_of text (done ++ (commands ++ more) ∷ []))
  all_commands done commands [] known = ap (λ (l : List declared.Command). Some (script_of text (done ++ l ∷ []))) (sym (append-nil commands))
  all_commands done commands (c ∷ cs) known =
      runs_append script_statement_cause with_statement (script_of text (done ++ commands ∷ [])) (writing done commands c) (command_statements c) (flat_map command_statements cs)
      (one_command done commands c (first_true (names_known (adds_in commands) (command_line_in c)) (all_known (adds_in commands + adds_of (command_line_in c)) cs) known))
      ∙ all_commands done (commands ++ c ∷ []) cs (subst (λ n. all_known n cs ≡ true) (sym (adds_more commands (c ∷ []) ∙ ap (λ n. adds_in commands + n) (adds_one c))) (second_true (names_known (adds_in commands) (command_line_in c)) (all_known (adds_in commands + adds_of (command_line_in c)) cs) known))
      ∙ ap (λ (l : List declared.Command). Some (script_of text (done ++ l ∷ []))) (append_assoc commands (c ∷ []) cs)

  one_session : (done : List (List declared.Command)) (commands : List declared.Command) → length done < 64 → all_known 0 commands ≡ true
      → run (script_of text done) (session_statements commands) ≡ Some (script_of text (done ++ commands ∷ []))
  one_session done commands few known =
      runs_step script_statement_cause with_statement (script_of text done) (script_of text (done ++ [] ∷ [])) Session (flat_map command_statements commands) (ap (λ b. cond b None (Some ManySessions)) (lt-ltb (length done) 64 few)) refl
      ∙ all_commands done [] commands known

  all_sessions : (done sessions : List (List declared.Command)) → length done + length sessions ≤ 64 → list_all (all_known 0) sessions ≡ true
      → run (script_of text done) (flat_map session_statements sessions) ≡ Some (script_of text (done ++ sessions))
  all_sessions done [] few known = ap (λ (l : List (List declared.Command)). Some (script_of text l)) (sym (append-nil done))
  all_sessions done (s ∷ ss) few known =
      runs_append script_statement_cause with_statement (script_of text done) (script_of text (done ++ s ∷ [])) (session_statements s) (flat_map session_statements ss)
      (one_session done s (omega arith) (first_true (all_known 0 s) (list_all (all_known 0) ss) known))
      ∙ all_sessions (done ++ s ∷ []) ss (omega (arith, length-append done (s ∷ []))) (second_true (all_known 0 s) (list_all (all_known 0) ss) known)
      ∙ ap (λ (l : List (List declared.Command)). Some (script_of text l)) (append_assoc done (s ∷ []) ss)

-- from the empty script
runs_script : (script : Script) → IsLawfulScript script → run (script_of [] []) (statements script) ≡ Some script
runs_script script lawful =
    runs_append script_statement_cause with_statement (script_of [] []) (script_of script.text []) (map Text script.text) (flat_map session_statements script.sessions) (opening_texts [] script.text)
    ∙ all_sessions script.text [] script.sessions (omega (arith, lawful.few)) lawful.known

pub live_runs : IsRunning live_grammar with_statement (script_of [] []) IsScript
live_runs = record {
  empty = refl;
  quiet = record { free = λ s. refl; same = λ s. refl };
  nonsense = λ s. refl;
  header = λ s names others. refl;
  lawful_runs = runs_script;
  script_runs = λ first lines script is.
      (script, refl, ap (run (script_of [] [])) is.said ∙ runs_script script (record { few = is.few; known = is.known }));
}

-- lines spell one script
pub only_script : (lines : List (List ℕ)) (script other : Script) → IsScript lines script → IsScript lines other → other ≡ script
unfolding live_runs
only_script [] script other is also = absurd is
only_script (first ∷ lines) script other is also =
    let one : Some other ≡ Some script = sym (live_runs.script_runs first lines other also).2 ∙ (live_runs.script_runs first lines script is).2 in
    cc

-- and what is refused is none
pub refused_none : (lines : List (List ℕ)) (number : ℕ) (cause : Cause) (script : Script) → IsScript lines script → IsScriptRefusal lines (At number cause) → ⊥
refused_none lines number cause script is (inl other) = other.none script is
refused_none lines number cause script is (inr bad) = outside_none live_grammar with_statement (script_of [] []) IsScript live_runs lines number cause script bad is
