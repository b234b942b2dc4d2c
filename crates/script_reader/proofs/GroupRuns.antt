-- What the statements of a script of groups make of the empty one: that script, with the group that is open.
use Rattle.std.proofs.Common.{◌≡◌, inl, inr, ℕ, ◌+◌, ◌<◌, ◌≤◌, Bool, true, cond, ◌&&◌, leb, ltb, List, [], ◌∷◌, ◌++◌, length, map, Option, Some, None, sym, ap, ◌∙◌, refl, subst, append_assoc, append-nil, arith, length-append}
use Rattle.std.specs.List.{flat_map, list_all}
use Rattle.std.proofs.lemmas.Bool.{leb-true, lt-ltb}
use Rattle.script_reader.specs.Groups.{IsGroupRefusal, IsGroupScript, IsLawfulEnd, IsLawfulOpen, OpenScript, are_known, cause_behind, group_statement_cause, closed_cause, group_command_cause, commands_of_steps, commands_of_step, group_cause, group_grammar, group_statements, is_edit, is_lawful_step, last_adds, open_group_statements, open_statements, step_cause, step_statements, step_takes_text, steps_statements, group_text_cause}
use Rattle.script_reader.specs.Reading.{open_of}
use Rattle.script_reader.specs.Script.{adds_in, adds_of, all_known, command_line_in, command_statement, command_statements, last_is, names_known, takes_text}
use Rattle.script_reader.specs.Statements.{Statement, Nothing, Text, Session, Command, Header, Mark, Nonsense}
use Rattle.script_reader.specs.declared.command.Command as declared
use Rattle.script_reader.specs.declared.command.Command.TheVariants as command
use Rattle.script_reader.specs.declared.fault.Cause.{Cause}
use Rattle.script_reader.specs.declared.fault.Cause.TheVariants.{BadLine, ManySessions, NoOwn}
use Rattle.script_reader.specs.declared.fault.ScriptFault.TheVariants.{At}
use Rattle.script_reader.specs.declared.line.CommandLine.{CommandLine}
use Rattle.script_reader.specs.declared.line.Mark as marks
use Rattle.script_reader.specs.declared.line.Mark.TheVariants as mark
use Rattle.script_reader.specs.declared.step.GroupScript.{GroupScript}
use Rattle.script_reader.specs.declared.step.Step.{Step}
use Rattle.script_reader.specs.declared.step.Step.TheVariants as step
use Rattle.script_reader.proofs.Bools.{first_true, second_true}
use Rattle.script_reader.proofs.Ends.{adds_more, adds_one, flat-snoc, known_back, known_front, last_is-snoc, last_session-snoc, on_last, on_last-snoc}
use Rattle.script_reader.proofs.Outside.{IsRunning, outside_none}
use Rattle.script_reader.proofs.Runs.{IsSlot, bare_command, bare_of, command_run, command_with_line, statements_run, runs_append, runs_step}

-- with one more line of text
abbrev longer_step : List ℕ → Step → Step
longer_step line (step.One command) = step.One (command_with_line line command)
longer_step line (step.Group commands) = step.Group commands
longer_step line step.Undo = step.Undo

-- with one more line of the opening text, or of the last command's
abbrev with_text : List (List ℕ) → List (List Step) → Option (List declared.Command) → List ℕ → OpenScript
with_text text sessions (Some commands) line = open_of text sessions (Some (on_last (command_with_line line) commands))
with_text text [] None line = open_of (text ++ line ∷ []) [] None
with_text text (session ∷ sessions) None line = open_of text (on_last (on_last (longer_step line)) (session ∷ sessions)) None

-- with one more step
abbrev with_step : List (List ℕ) → List (List Step) → Step → OpenScript
with_step text sessions step = open_of text (on_last (λ steps. steps ++ step ∷ []) sessions) None

abbrev with_command : List (List ℕ) → List (List Step) → Option (List declared.Command) → declared.Command → OpenScript
with_command text sessions None command = with_step text sessions (step.One command)
with_command text sessions (Some commands) command = open_of text sessions (Some (commands ++ command ∷ []))

abbrev closing : List (List ℕ) → List (List Step) → Option (List declared.Command) → OpenScript
closing text sessions None = open_of text sessions None
closing text sessions (Some commands) = with_step text sessions (step.Group commands)

abbrev with_mark : List (List ℕ) → List (List Step) → Option (List declared.Command) → marks.Mark → OpenScript
with_mark text sessions group mark.Group = open_of text sessions (Some [])
with_mark text sessions group mark.End = closing text sessions group
with_mark text sessions group mark.Undo = with_step text sessions step.Undo

-- what one more line makes of a script behind whose lines it may stand
abbrev pub with_statement : OpenScript → Statement → OpenScript
with_statement so_far Nothing = so_far
with_statement so_far (Text line) = with_text so_far.script.text so_far.script.sessions so_far.group line
with_statement so_far Session = open_of so_far.script.text (so_far.script.sessions ++ [] ∷ []) so_far.group
with_statement so_far (Command command_line) = with_command so_far.script.text so_far.script.sessions so_far.group (bare_of command_line)
with_statement so_far (Header names) = with_command so_far.script.text so_far.script.sessions so_far.group (command.PutHead names)
with_statement so_far (Mark mark) = with_mark so_far.script.text so_far.script.sessions so_far.group mark
with_statement so_far Nonsense = so_far

abbrev run : OpenScript → List Statement → Option OpenScript
run = statements_run group_statement_cause with_statement

-- what is known where the last session is
pub text_cause-snoc : (done : List (List Step)) (steps : List Step) → group_text_cause (done ++ steps ∷ []) ≡ cond (last_is step_takes_text steps) None (Some BadLine)
text_cause-snoc [] steps = refl
text_cause-snoc (s ∷ ss) steps = ap (λ (l : List Step). cond (last_is step_takes_text l) None (Some BadLine)) (last_session-snoc (s ∷ ss) steps)

pub last_adds-snoc : (done : List (List Step)) (steps : List Step) → last_adds (done ++ steps ∷ []) ≡ adds_in (commands_of_steps steps)
last_adds-snoc done steps = ap (λ (l : List Step). adds_in (commands_of_steps l)) (last_session-snoc done steps)

pub command_cause-snoc : (done : List (List Step)) (steps : List Step) (h : CommandLine) → group_command_cause (done ++ steps ∷ []) h ≡ cond (names_known (adds_in (commands_of_steps steps)) h) None (Some NoOwn)
command_cause-snoc [] steps h = refl
command_cause-snoc (s ∷ ss) steps h = ap (λ (n : ℕ). cond (names_known n h) None (Some NoOwn)) (last_adds-snoc (s ∷ ss) steps)

pub step_cause-snoc : (done : List (List Step)) (steps : List Step) → step_cause (done ++ steps ∷ []) ≡ None
step_cause-snoc [] steps = refl
step_cause-snoc (s ∷ ss) steps = refl

with_text-snoc : (text : List (List ℕ)) (done : List (List Step)) (steps : List Step) (line : List ℕ) → with_text text (done ++ steps ∷ []) None line ≡ open_of text (done ++ on_last (longer_step line) steps ∷ []) None
with_text-snoc text [] steps line = refl
with_text-snoc text (s ∷ ss) steps line = ap (λ (l : List (List Step)). open_of text l None) (on_last-snoc (on_last (longer_step line)) (s ∷ ss) steps)

-- a command may stand behind the last session
closed_free : (done : List (List Step)) (steps : List Step) (c : declared.Command) → names_known (adds_in (commands_of_steps steps)) (command_line_in c) ≡ true → closed_cause (done ++ steps ∷ []) (command_statement c) ≡ None
closed_free done steps c known = go c known
  where
    free : (h : CommandLine) → names_known (adds_in (commands_of_steps steps)) h ≡ true → group_command_cause (done ++ steps ∷ []) h ≡ None
    free h known = command_cause-snoc done steps h ∙ ap (λ b. cond b None (Some NoOwn)) known

    go : (c : declared.Command) → names_known (adds_in (commands_of_steps steps)) (command_line_in c) ≡ true → closed_cause (done ++ steps ∷ []) (command_statement c) ≡ None
    go (command.Look name) known = free (command_line_in (command.Look name)) known
    go (command.Put name text) known = free (command_line_in (command.Put name text)) known
    go (command.Add place text) known = free (command_line_in (command.Add place text)) known
    go (command.Cut name) known = free (command_line_in (command.Cut name)) known
    go (command.LoopAt line) known = free (command_line_in (command.LoopAt line)) known
    go command.Verdict known = free (command_line_in command.Verdict) known
    go command.LookHead known = free (command_line_in command.LookHead) known
    go (command.PutHead names) known = step_cause-snoc done steps

begins_with : (so_far : OpenScript) (c : declared.Command) → with_statement so_far (command_statement c) ≡ with_command so_far.script.text so_far.script.sessions so_far.group (bare_command c)
begins_with so_far (command.Look name) = refl
begins_with so_far (command.Put name text) = refl
begins_with so_far (command.Add place text) = refl
begins_with so_far (command.Cut name) = refl
begins_with so_far (command.LoopAt line) = refl
begins_with so_far command.Verdict = refl
begins_with so_far command.LookHead = refl
begins_with so_far (command.PutHead names) = refl

-- an edit may stand in an open group
edit_free : (adds : ℕ) (commands : List declared.Command) (c : declared.Command) → is_edit c ≡ true → length commands < 64 → names_known (adds + adds_in commands) (command_line_in c) ≡ true → group_cause adds commands (command_statement c) ≡ None
edit_free adds commands c edit few known = go c edit known
  where
    free : (b : Bool) → b ≡ true → cond (true && ltb (length commands) 64) (cond b None (Some NoOwn)) (Some BadLine) ≡ None
    free b is = ap (λ (a : Bool). cond a (cond b None (Some NoOwn)) (Some BadLine)) (lt-ltb (length commands) 64 few) ∙ ap (λ (a : Bool). cond a None (Some NoOwn)) is

    go : (c : declared.Command) → is_edit c ≡ true → names_known (adds + adds_in commands) (command_line_in c) ≡ true → group_cause adds commands (command_statement c) ≡ None
    go (command.Look name) edit known = absurd (cc)
    go (command.Put name text) edit known = free (names_known (adds + adds_in commands) (command_line_in (command.Put name text))) known
    go (command.Add place text) edit known = free (names_known (adds + adds_in commands) (command_line_in (command.Add place text))) known
    go (command.Cut name) edit known = free (names_known (adds + adds_in commands) (command_line_in (command.Cut name))) known
    go (command.LoopAt line) edit known = absurd (cc)
    go command.Verdict edit known = absurd (cc)
    go command.LookHead edit known = absurd (cc)
    go (command.PutHead names) edit known = absurd (cc)

opening_texts : (so_far texts : List (List ℕ)) → run (open_of so_far [] None) (map Text texts) ≡ Some (open_of (so_far ++ texts) [] None)
opening_texts so_far [] = ap (λ (l : List (List ℕ)). Some (open_of l [] None)) (sym (append-nil so_far))
opening_texts so_far (t ∷ ts) = opening_texts (so_far ++ t ∷ []) ts ∙ ap (λ (l : List (List ℕ)). Some (open_of l [] None)) (append_assoc so_far (t ∷ []) ts)

module _ (text : List (List ℕ)) where
  -- a session's last step is this command
  one_slot : (done : List (List Step)) (steps : List Step) → IsSlot group_statement_cause with_statement (λ c. open_of text (done ++ (steps ++ step.One c ∷ []) ∷ []) None)
  one_slot done steps = record {
    free = λ c line takes. text_cause-snoc done (steps ++ step.One c ∷ []) ∙ ap (λ b. cond b None (Some BadLine)) (last_is-snoc step_takes_text steps (step.One c) ∙ takes);
    more = λ c line takes. with_text-snoc text done (steps ++ step.One c ∷ []) line ∙ ap (λ (l : List Step). open_of text (done ++ l ∷ []) None) (on_last-snoc (longer_step line) steps (step.One c));
  }

  -- a group's last command is this
  edit_slot : (sessions : List (List Step)) (commands : List declared.Command) → IsSlot group_statement_cause with_statement (λ c. open_of text sessions (Some (commands ++ c ∷ [])))
  edit_slot sessions commands = record {
    free = λ c line takes. ap (λ b. cond b None (Some BadLine)) (last_is-snoc (λ c. takes_text (command_line_in c)) commands c ∙ takes);
    more = λ c line takes. ap (λ (l : List declared.Command). open_of text sessions (Some l)) (on_last-snoc (command_with_line line) commands c);
  }

  edits_run : (sessions : List (List Step)) (commands more : List declared.Command) → list_all is_edit more ≡ true → length commands + length more ≤ 64 → all_known (last_adds sessions + adds_in commands) more ≡ true
      → run (open_of text sessions (Some commands)) (flat_map command_statements more) ≡ Some (open_of text sessions (Some (commands ++ more)))
  edits_run sessions commands [] edits few known = ap (λ (l : List declared.Command). Some (open_of text sessions (Some l))) (sym (append-nil commands))
  edits_run sessions commands (c ∷ cs) edits few known =
      let adds : ℕ = last_adds sessions + adds_in commands in
      runs_append group_statement_cause with_statement (open_of text sessions (Some commands)) (open_of text sessions (Some (commands ++ c ∷ []))) (command_statements c) (flat_map command_statements cs)
      (command_run group_statement_cause with_statement (λ c. open_of text sessions (Some (commands ++ c ∷ []))) (edit_slot sessions commands) (open_of text sessions (Some commands)) c
      (edit_free (last_adds sessions) commands c (first_true (is_edit c) (list_all is_edit cs) edits) (omega arith) (first_true (names_known adds (command_line_in c)) (all_known (adds + adds_of (command_line_in c)) cs) known))
      (begins_with (open_of text sessions (Some commands)) c))
      ∙ edits_run sessions (commands ++ c ∷ []) cs (second_true (is_edit c) (list_all is_edit cs) edits) (omega (arith, length-append commands (c ∷ [])))
      (subst (λ n. all_known n cs ≡ true) (omega (arith, adds_more commands (c ∷ []), adds_one c)) (second_true (names_known adds (command_line_in c)) (all_known (adds + adds_of (command_line_in c)) cs) known))
      ∙ ap (λ (l : List declared.Command). Some (open_of text sessions (Some l))) (append_assoc commands (c ∷ []) cs)

  -- a group begins, with the commands that it has so far
  group_begins : (sessions : List (List Step)) (commands : List declared.Command) → step_cause sessions ≡ None → list_all is_edit commands ≡ true → length commands ≤ 64 → all_known (last_adds sessions) commands ≡ true
      → run (open_of text sessions None) (Mark mark.Group ∷ flat_map command_statements commands) ≡ Some (open_of text sessions (Some commands))
  group_begins sessions commands free edits few known =
      runs_step group_statement_cause with_statement (open_of text sessions None) (open_of text sessions (Some [])) (Mark mark.Group) (flat_map command_statements commands) free refl
      ∙ edits_run sessions [] commands edits (omega (arith, few)) (subst (λ n. all_known n commands ≡ true) (omega arith) known)

  step_run : (done : List (List Step)) (steps : List Step) (s : Step) → is_lawful_step s ≡ true → all_known (adds_in (commands_of_steps steps)) (commands_of_step s) ≡ true
      → run (open_of text (done ++ steps ∷ []) None) (step_statements s) ≡ Some (open_of text (done ++ (steps ++ s ∷ []) ∷ []) None)
  step_run done steps (step.One c) lawful known =
      command_run group_statement_cause with_statement (λ c. open_of text (done ++ (steps ++ step.One c ∷ []) ∷ []) None) (one_slot done steps) (open_of text (done ++ steps ∷ []) None) c
      (closed_free done steps c (first_true (names_known (adds_in (commands_of_steps steps)) (command_line_in c)) true known))
      (begins_with (open_of text (done ++ steps ∷ []) None) c ∙ ap (λ (l : List (List Step)). open_of text l None) (on_last-snoc (λ l. l ++ step.One (bare_command c) ∷ []) done steps))
  step_run done steps (step.Group cs) lawful known =
      let open_at : OpenScript = open_of text (done ++ steps ∷ []) (Some cs) in
      let long : (ltb 0 (length cs) && leb (length cs) 64) ≡ true = first_true (ltb 0 (length cs) && leb (length cs) 64) (list_all is_edit cs) lawful in
      let edits : list_all is_edit cs ≡ true = second_true (ltb 0 (length cs) && leb (length cs) 64) (list_all is_edit cs) lawful in
      runs_append group_statement_cause with_statement (open_of text (done ++ steps ∷ []) None) open_at (Mark mark.Group ∷ flat_map command_statements cs) (Mark mark.End ∷ [])
      (group_begins (done ++ steps ∷ []) cs (step_cause-snoc done steps) edits (leb-true (length cs) 64 (second_true (ltb 0 (length cs)) (leb (length cs) 64) long))
      (subst (λ n. all_known n cs ≡ true) (sym (last_adds-snoc done steps)) known))
      ∙ runs_step group_statement_cause with_statement open_at (open_of text (done ++ (steps ++ step.Group cs ∷ []) ∷ []) None) (Mark mark.End) [] (ap (λ b. cond b None (Some BadLine)) (first_true (ltb 0 (length cs)) (leb (length cs) 64) long))
      (ap (λ (l : List (List Step)). open_of text l None) (on_last-snoc (λ l. l ++ step.Group cs ∷ []) done steps))
  step_run done steps step.Undo lawful known =
      runs_step group_statement_cause with_statement (open_of text (done ++ steps ∷ []) None) (open_of text (done ++ (steps ++ step.Undo ∷ []) ∷ []) None) (Mark mark.Undo) [] (step_cause-snoc done steps)
      (ap (λ (l : List (List Step)). open_of text l None) (on_last-snoc (λ l. l ++ step.Undo ∷ []) done steps))

  steps_run : (done : List (List Step)) (steps more : List Step) → list_all is_lawful_step more ≡ true → all_known (adds_in (commands_of_steps steps)) (commands_of_steps more) ≡ true
      → run (open_of text (done ++ steps ∷ []) None) (flat_map step_statements more) ≡ Some (open_of text (done ++ (steps ++ more) ∷ []) None)
  steps_run done steps [] lawful known = ap (λ (l : List Step). Some (open_of text (done ++ l ∷ []) None)) (sym (append-nil steps))
  steps_run done steps (s ∷ ss) lawful known =
      runs_append group_statement_cause with_statement (open_of text (done ++ steps ∷ []) None) (open_of text (done ++ (steps ++ s ∷ []) ∷ []) None) (step_statements s) (flat_map step_statements ss)
      (step_run done steps s (first_true (is_lawful_step s) (list_all is_lawful_step ss) lawful) (known_front (adds_in (commands_of_steps steps)) (commands_of_step s) (commands_of_steps ss) known))
      ∙ steps_run done (steps ++ s ∷ []) ss (second_true (is_lawful_step s) (list_all is_lawful_step ss) lawful)
      (subst (λ n. all_known n (commands_of_steps ss) ≡ true) (sym (ap adds_in (flat-snoc commands_of_step steps s) ∙ adds_more (commands_of_steps steps) (commands_of_step s)))
      (known_back (adds_in (commands_of_steps steps)) (commands_of_step s) (commands_of_steps ss) known))
      ∙ ap (λ (l : List Step). Some (open_of text (done ++ l ∷ []) None)) (append_assoc steps (s ∷ []) ss)

  sessions_run : (done sessions : List (List Step)) → length done + length sessions ≤ 64 → list_all are_known sessions ≡ true → list_all (list_all is_lawful_step) sessions ≡ true
      → run (open_of text done None) (flat_map steps_statements sessions) ≡ Some (open_of text (done ++ sessions) None)
  sessions_run done [] few known lawful = ap (λ (l : List (List Step)). Some (open_of text l None)) (sym (append-nil done))
  sessions_run done (s ∷ ss) few known lawful =
      runs_append group_statement_cause with_statement (open_of text done None) (open_of text (done ++ s ∷ []) None) (steps_statements s) (flat_map steps_statements ss)
      (runs_step group_statement_cause with_statement (open_of text done None) (open_of text (done ++ [] ∷ []) None) Session (flat_map step_statements s) (ap (λ b. cond b None (Some ManySessions)) (lt-ltb (length done) 64 (omega arith))) refl
      ∙ steps_run done [] s (first_true (list_all is_lawful_step s) (list_all (list_all is_lawful_step) ss) lawful) (first_true (are_known s) (list_all are_known ss) known))
      ∙ sessions_run (done ++ s ∷ []) ss (omega (arith, length-append done (s ∷ []))) (second_true (are_known s) (list_all are_known ss) known) (second_true (list_all is_lawful_step s) (list_all (list_all is_lawful_step) ss) lawful)
      ∙ ap (λ (l : List (List Step)). Some (open_of text l None)) (append_assoc done (s ∷ []) ss)

  some_session : (sessions : List (List Step)) → 0 < length sessions → step_cause sessions ≡ None
  some_session [] some = absurd (omega (arith, some))
  some_session (s ∷ ss) some = refl

  open_run : (sessions : List (List Step)) (group : Option (List declared.Command)) → IsLawfulEnd sessions group → run (open_of text sessions None) (open_group_statements group) ≡ Some (open_of text sessions group)
  open_run sessions None lawful = refl
  open_run sessions (Some cs) lawful = group_begins sessions cs (some_session sessions lawful.within) lawful.edits lawful.few lawful.known

-- from the empty script
runs_open : (so_far : OpenScript) → IsLawfulOpen so_far → run (open_of [] [] None) (open_statements so_far) ≡ Some so_far
runs_open so_far lawful =
    let text : List (List ℕ) = so_far.script.text in
    let sessions : List (List Step) = so_far.script.sessions in
    runs_append group_statement_cause with_statement (open_of [] [] None) (open_of text sessions None) (group_statements so_far.script) (open_group_statements so_far.group)
    (runs_append group_statement_cause with_statement (open_of [] [] None) (open_of text [] None) (map Text text) (flat_map steps_statements sessions) (opening_texts [] text)
    ∙ sessions_run text [] sessions (omega (arith, lawful.few)) lawful.known lawful.groups)
    ∙ open_run text sessions so_far.group lawful.group

nothing_free : (sessions : List (List Step)) (group : Option (List declared.Command)) → cause_behind sessions group Nothing ≡ None
nothing_free sessions None = refl
nothing_free sessions (Some cs) = refl

nonsense_bad : (sessions : List (List Step)) (group : Option (List declared.Command)) → cause_behind sessions group Nonsense ≡ Some BadLine
nonsense_bad sessions None = refl
nonsense_bad sessions (Some cs) = refl

header_same : (sessions : List (List Step)) (group : Option (List declared.Command)) (names others : List (List ℕ)) → cause_behind sessions group (Header names) ≡ cause_behind sessions group (Header others)
header_same sessions None names others = refl
header_same sessions (Some cs) names others = refl

pub group_runs : IsRunning group_grammar with_statement (open_of [] [] None) IsGroupScript
group_runs = record {
  empty = refl;
  quiet = record { free = λ s. nothing_free s.script.sessions s.group; same = λ s. refl };
  nonsense = λ s. nonsense_bad s.script.sessions s.group;
  header = λ s names others. header_same s.script.sessions s.group names others;
  lawful_runs = runs_open;
  script_runs = λ first lines script is.
      let whole : OpenScript = record { script = script; group = None } in
      (whole, refl, ap (run (open_of [] [] None)) (is.said ∙ sym (append-nil (group_statements script))) ∙ runs_open whole (record { few = is.few; known = is.known; groups = is.groups; group = tt }));
}

-- lines spell one script
pub only_groups : (lines : List (List ℕ)) (script other : GroupScript) → IsGroupScript lines script → IsGroupScript lines other → other ≡ script
unfolding group_runs
only_groups [] script other is also = absurd is
only_groups (first ∷ lines) script other is also =
    let one : Some (record { script = other; group = None }) ≡ Some (record { script = script; group = None }) = sym (group_runs.script_runs first lines other also).2 ∙ (group_runs.script_runs first lines script is).2 in
    ap (λ (o : Option OpenScript). whole_of o) one
  where
    whole_of : Option OpenScript → GroupScript
    whole_of None = script
    whole_of (Some so_far) = so_far.script

-- and what is refused is none
pub refused_none : (lines : List (List ℕ)) (number : ℕ) (cause : Cause) (script : GroupScript) → IsGroupScript lines script → IsGroupRefusal lines (At number cause) → ⊥
refused_none lines number cause script is (inl other) = other.none script is
refused_none lines number cause script is (inr (inl bad)) = outside_none group_grammar with_statement (open_of [] [] None) IsGroupScript group_runs lines number cause script bad is
refused_none lines number cause script is (inr (inr ends)) = ends.none script is
