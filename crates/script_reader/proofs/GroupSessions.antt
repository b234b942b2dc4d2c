-- The steps of a session, read one after the other.
use Rattle.std.proofs.Common.{◌≡◌, ◌≢◌, inl, inr, ⊎_elim, ℕ, ◌+◌, ◌<◌, ◌≤◌, true, false, cond, List, [], ◌∷◌, ◌++◌, length, drop, get_or, map, Some, None, sym, ap, ◌∙◌, refl, subst, append_assoc, append-nil, arith, length-append, zero-add}
use Rattle.std.specs.List.{flat_map, list_all}
use Rattle.script_reader.specs.Command.{IsNoCommand}
use Rattle.script_reader.specs.Groups.{IsGroupRefusal, IsGroupScript, IsLawfulOpen, are_known, closed_cause, commands_of_steps, commands_of_step, group_grammar, is_lawful_step, step_statements, step_takes_text, steps_statements}
use Rattle.script_reader.specs.Places.{Say}
use Rattle.script_reader.specs.Reading.{IsCommandRead, IsScriptPartAt, IsGrammarStop, commands_parts, is_good_session, open_of, steps_parts}
use Rattle.script_reader.specs.Script.{adds_in, all_known, is_put_head, last_is, names_known}
use Rattle.script_reader.specs.Statements.{Text, Session, Mark, is_groups, kind_of, statements_of}
use Rattle.script_reader.specs.declared.command.Command as declared
use Rattle.script_reader.specs.declared.command.Command.TheVariants as command
use Rattle.script_reader.specs.declared.fault.Cause.TheVariants.{BadLine, NoOwn}
use Rattle.script_reader.specs.declared.fault.ScriptFault.{ScriptFault}
use Rattle.script_reader.specs.declared.fault.ScriptFault.TheVariants.{At, NoMemory}
use Rattle.script_reader.specs.declared.line.Kind.TheVariants as kind
use Rattle.script_reader.specs.declared.line.Mark as marks
use Rattle.script_reader.specs.declared.line.Mark.TheVariants as mark
use Rattle.script_reader.specs.declared.step.Step.{Step}
use Rattle.script_reader.specs.declared.step.Step.TheVariants as step
use Rattle.script_reader.proofs.Bools.{all_end, all_first, all_front, all_second, all_snoc, both_true, first_true, not_true, second_true}
use Rattle.script_reader.proofs.Ends.{flat-snoc, known_more}
use Rattle.script_reader.proofs.GroupRuns.{command_cause-snoc, group_runs, text_cause-snoc, with_statement}
use Rattle.script_reader.proofs.Lines.{told_at}
use Rattle.script_reader.proofs.LiveSessions.{bad_either}
use Rattle.script_reader.proofs.Outside.{refusal_ends_early, refusal_is_outside}
use Rattle.script_reader.proofs.Parts.{PartsSoFar, command_part}
use Rattle.script_reader.proofs.Places.{say_all, say_here, say_more}
use Rattle.script_reader.proofs.Refused.{AsCommand}
use Rattle.script_reader.proofs.Sessions.{KnowsSessions, session_grows}
use Rattle.script_reader.proofs.Stops.{TakesHeader, command_stops, stop_behind, stop_here}

abbrev pub closed_of : List (List ℕ) → List (List Step) → group_grammar.SoFar
closed_of text sessions = open_of text sessions None

mark_bad : (m : marks.Mark) → closed_cause [] (Mark m) ≡ Some BadLine
mark_bad mark.Group = refl
mark_bad mark.End = refl
mark_bad mark.Undo = refl

pub group_sessions : KnowsSessions group_grammar closed_of step_statements is_good_session
group_sessions = record {
  says = λ text sessions. append-nil (map Text text ++ flat_map (λ steps. Session ∷ flat_map step_statements steps) sessions);
  lawful = λ text sessions few good. record { few = few; known = all_first are_known (list_all is_lawful_step) sessions good; groups = all_second are_known (list_all is_lawful_step) sessions good; group = tt };
  session = λ text sessions. refl;
  command = λ text h. bad_either (is_put_head h);
  header = λ text names. refl;
  mark = λ text m. mark_bad m;
  nonsense = λ text. refl;
  good = refl;
}

-- the last session is good, and may be another one
pub last_good : (text : List (List ℕ)) (done : List (List Step)) (steps : List Step) → IsLawfulOpen (open_of text (done ++ steps ∷ []) None) → is_good_session steps ≡ true
last_good text done steps lawful = both_true (are_known steps) (list_all is_lawful_step steps) (all_end are_known done steps lawful.known) (all_end (list_all is_lawful_step) done steps lawful.groups)

pub lawful_with : (text : List (List ℕ)) (done : List (List Step)) (steps others : List Step) → IsLawfulOpen (open_of text (done ++ steps ∷ []) None) → is_good_session others ≡ true → IsLawfulOpen (open_of text (done ++ others ∷ []) None)
lawful_with text done steps others lawful good = record {
  few = let few = lawful.few in omega (arith, length-append done (steps ∷ []), length-append done (others ∷ []));
  known = all_snoc are_known done others (all_front are_known done steps lawful.known) (first_true (are_known others) (list_all is_lawful_step others) good);
  groups = all_snoc (list_all is_lawful_step) done others (all_front (list_all is_lawful_step) done steps lawful.groups) (second_true (are_known others) (list_all is_lawful_step others) good);
  group = tt;
}

-- with one more step
good_more : (steps : List Step) (s : Step) → is_good_session steps ≡ true → all_known (adds_in (commands_of_steps steps)) (commands_of_step s) ≡ true → is_lawful_step s ≡ true → is_good_session (steps ++ s ∷ []) ≡ true
good_more steps s good known lawful =
    both_true (are_known (steps ++ s ∷ [])) (list_all is_lawful_step (steps ++ s ∷ []))
    (subst (λ cs. all_known 0 cs ≡ true) (sym (flat-snoc commands_of_step steps s))
    (known_more 0 (commands_of_steps steps) (commands_of_step s) (first_true (are_known steps) (list_all is_lawful_step steps) good)
    (subst (λ n. all_known n (commands_of_step s) ≡ true) (sym (zero-add (adds_in (commands_of_steps steps)))) known)))
    (all_snoc is_lawful_step steps s (second_true (are_known steps) (list_all is_lawful_step steps) good) lawful)

-- what one more step says
pub step_grows : List (List ℕ) → (text : List (List ℕ)) (done : List (List Step)) (steps : List Step) (s : Step) → group_grammar.says (closed_of text (done ++ (steps ++ s ∷ []) ∷ [])) ≡ group_grammar.says (closed_of text (done ++ steps ∷ [])) ++ step_statements s
step_grows lines text done steps s =
    let grows : (others : List Step) → group_grammar.says (closed_of text (done ++ others ∷ [])) ≡ group_grammar.says (closed_of text (done ++ [] ∷ [])) ++ flat_map step_statements others =
    session_grows step_statements is_good_session lines group_grammar closed_of group_sessions text done in
    grows (steps ++ s ∷ [])
    ∙ ap (λ l. group_grammar.says (closed_of text (done ++ [] ∷ [])) ++ l) (flat-snoc step_statements steps s)
    ∙ sym (append_assoc (group_grammar.says (closed_of text (done ++ [] ∷ []))) (flat_map step_statements steps) (step_statements s))
    ∙ ap (λ l. l ++ step_statements s) (sym (grows steps))

-- the line of `undo`
pub undo_read : (lines : List (List ℕ)) (at adds : ℕ) → at < length lines → kind_of (get_or lines at []) ≡ kind.Mark mark.Undo → IsScriptPartAt steps_parts lines at adds step.Undo (at + 1)
undo_read lines at adds within is = record {
  low = omega arith;
  says = say_here lines at (Mark mark.Undo) within (told_at lines at within false (kind.Mark mark.Undo) is) refl;
  known = refl;
  lawful = refl;
  few = omega arith;
  heading = λ takes. absurd (cc);
}

-- `end` closes nothing
pub closing_stops : (lines : List (List ℕ)) (at : ℕ) → at < length lines → kind_of (get_or lines at []) ≡ kind.Mark mark.End → (text : List (List ℕ)) (done : List (List Step)) (steps : List Step) → IsLawfulOpen (open_of text (done ++ steps ∷ []) None)
    → IsGrammarStop group_grammar (open_of text (done ++ steps ∷ []) None) lines at (At (at + 1) BadLine)
closing_stops lines at within is text done steps lawful =
    inl (stop_here group_grammar (open_of text (done ++ steps ∷ []) None) lines at (Mark mark.End) (statements_of (drop (at + 1) lines)) BadLine lawful (told_at lines at within false (kind.Mark mark.End) is) refl)

-- where no command could be read, and the line is no mark
pub one_stops : (lines : List (List ℕ)) (at adds : ℕ) (fault : ScriptFault) → at < length lines → kind_of (get_or lines at []) ≢ kind.Skipped → kind_of (get_or lines at []) ≢ kind.Session
    → ((m : marks.Mark) → kind_of (get_or lines at []) ≢ kind.Mark m) → IsNoCommand lines at adds fault
    → (text : List (List ℕ)) (done : List (List Step)) (steps : List Step) → IsLawfulOpen (open_of text (done ++ steps ∷ []) None) → adds ≡ adds_in (commands_of_steps steps)
    → (last_is step_takes_text steps ≡ true → kind_of (get_or lines at []) ≢ kind.Text) → IsGrammarStop group_grammar (open_of text (done ++ steps ∷ []) None) lines at fault
one_stops lines at adds fault within said not_session not_mark refused text done steps lawful counted no_text =
    command_stops group_grammar (open_of text (done ++ steps ∷ []) None) lines at adds fault within lawful like (λ number cause none. header) refused
  where
    like : AsCommand (group_grammar.cause_of (open_of text (done ++ steps ∷ []) None)) adds (kind_of (get_or lines at []))
    like = record {
      said = said;
      text = λ is line. text_cause-snoc done steps ∙ ap (λ b. cond b None (Some BadLine)) (not_true (last_is step_takes_text steps) (λ takes. no_text takes is));
      session = λ is. absurd (not_session is);
      command = λ h is. ap (cond (is_put_head h) (Some BadLine)) (command_cause-snoc done steps h ∙ ap (λ n. cond (names_known n h) None (Some NoOwn)) (sym counted));
      mark = λ m is. absurd (not_mark m is);
      nonsense = refl;
    }

    header : TakesHeader group_grammar (open_of text (done ++ steps ∷ []) None)
    header = record {
      next = open_of text (done ++ (steps ++ step.One (command.PutHead []) ∷ []) ∷ []) None;
      lawful = lawful_with text done steps (steps ++ step.One (command.PutHead []) ∷ []) lawful (good_more steps (step.One (command.PutHead [])) (last_good text done steps lawful) refl refl);
      grows = step_grows lines text done steps (step.One (command.PutHead []));
      is_cause = refl;
    }

module _ (lines : List (List ℕ)) (start at : ℕ) (steps : List Step) (adds : ℕ) (s : PartsSoFar steps_parts lines start at steps 0 adds) where
  pub steps_good : is_good_session steps ≡ true
  steps_good = both_true (are_known steps) (list_all is_lawful_step steps) s.known s.lawful

  -- a refusal of the next step, told of the session
  pub step_stops : (fault : ScriptFault) → at < length lines
      → ((text : List (List ℕ)) (done : List (List Step)) (steps : List Step) → IsLawfulOpen (open_of text (done ++ steps ∷ []) None) → adds ≡ adds_in (commands_of_steps steps)
      → (last_is step_takes_text steps ≡ true → kind_of (get_or lines at []) ≢ kind.Text) → IsGrammarStop group_grammar (open_of text (done ++ steps ∷ []) None) lines at fault)
      → (text : List (List ℕ)) (done : List (List Step)) → IsLawfulOpen (open_of text (done ++ [] ∷ []) None) → IsGrammarStop group_grammar (open_of text (done ++ [] ∷ []) None) lines start fault
  step_stops fault within refused text done lawful =
      stop_behind group_grammar (open_of text (done ++ [] ∷ []) None) (open_of text (done ++ steps ∷ []) None) lines start at (flat_map step_statements steps) fault s.says
      (session_grows step_statements is_good_session lines group_grammar closed_of group_sessions text done steps)
      (refused text done steps (lawful_with text done [] steps lawful steps_good) (s.counted ∙ zero-add (adds_in (commands_of_steps steps))) (λ takes. (s.heading takes).no_text within))

-- a refusal of what stands behind the opening text, told of all lines
pub groups_refused : (lines text : List (List ℕ)) (next : ℕ) (fault : ScriptFault) → 0 < length lines → Say lines 1 next (map Text text) → IsGrammarStop group_grammar (open_of text [] None) lines next fault → IsGroupRefusal lines fault
groups_refused lines text next NoMemory some says stop = tt
groups_refused [] text next (At number cause) some says stop = absurd (omega (arith, some))
groups_refused (first ∷ rest) text next (At number cause) some says stop =
    ⊎_elim
    (λ s. inr (inl (refusal_is_outside group_grammar with_statement (open_of [] [] None) IsGroupScript group_runs first rest number cause s)))
    (λ e. inr (inr (refusal_ends_early group_grammar with_statement (open_of [] [] None) IsGroupScript group_runs first rest number cause e)))
    (stop_behind group_grammar (open_of [] [] None) (open_of text [] None) (first ∷ rest) 1 next (map Text text) (At number cause) says
    (append-nil (map Text text ++ []) ∙ append-nil (map Text text)) stop)

-- what was read is the script of the lines
pub groups_spelled : (lines text : List (List ℕ)) (next : ℕ) (sessions : List (List Step)) → 0 < length lines → is_groups (get_or lines 0 []) ≡ true → Say lines 1 next (map Text text) → Say lines next (length lines) (flat_map steps_statements sessions)
    → length sessions ≤ 64 → list_all is_good_session sessions ≡ true → IsGroupScript lines (record { text = text; sessions = sessions })
groups_spelled [] text next sessions some begun opening says few good = absurd (omega (arith, some))
groups_spelled (first ∷ rest) text next sessions some begun opening says few good = record {
  begun = begun;
  said = say_all (first ∷ rest) 1 (map Text text ++ flat_map steps_statements sessions) (say_more (first ∷ rest) 1 next (length (first ∷ rest)) (map Text text) (flat_map steps_statements sessions) opening says);
  few = few;
  known = all_first are_known (list_all is_lawful_step) sessions good;
  groups = all_second are_known (list_all is_lawful_step) sessions good;
}

-- a command as a step
pub one_part : (lines : List (List ℕ)) (at adds : ℕ) (c : declared.Command) (next : ℕ) → IsCommandRead lines at adds c next → IsScriptPartAt steps_parts lines at adds (step.One c) next
one_part lines at adds c next is =
    let part : IsScriptPartAt commands_parts lines at adds c next = command_part (λ command. true) lines at adds c next refl is in
    record { low = part.low; says = part.says; known = part.known; lawful = refl; few = part.few; heading = part.heading }
