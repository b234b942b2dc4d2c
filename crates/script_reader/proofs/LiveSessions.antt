-- The commands of a session, read one after the other.
use Rattle.std.proofs.Common.{◌≡◌, ◌≢◌, inr, ⊎_elim, ℕ, ◌<◌, Bool, true, false, cond, List, [], ◌∷◌, ◌++◌, length, get_or, map, Some, None, sym, ap, ◌∙◌, refl, subst, append_assoc, append-nil, arith, length-append, zero-add}
use Rattle.std.specs.List.{flat_map}
use Rattle.script_reader.specs.Command.{IsNoCommand}
use Rattle.script_reader.specs.Places.{Say}
use Rattle.script_reader.specs.Reading.{IsGrammarStop, commands_parts, script_of}
use Rattle.script_reader.specs.Script.{IsLawfulScript, IsScriptRefusal, IsScript, adds_in, all_known, script_statement_cause, command_statements, is_put_head, last_takes_text, live_grammar, names_known}
use Rattle.script_reader.specs.Statements.{Text, Header, kind_of}
use Rattle.script_reader.specs.declared.command.Command as declared
use Rattle.script_reader.specs.declared.command.Command.TheVariants as command
use Rattle.script_reader.specs.declared.fault.Cause.TheVariants.{BadLine, NoOwn}
use Rattle.script_reader.specs.declared.fault.ScriptFault.{ScriptFault}
use Rattle.script_reader.specs.declared.fault.ScriptFault.TheVariants.{At, NoMemory}
use Rattle.script_reader.specs.declared.line.Kind.TheVariants as kind
use Rattle.script_reader.proofs.Bools.{all_front, all_snoc, not_true}
use Rattle.script_reader.proofs.Ends.{flat-snoc, flat_one, known_more}
use Rattle.script_reader.proofs.LiveRuns.{command_cause-snoc, live_runs, text_cause-snoc, with_statement}
use Rattle.script_reader.proofs.Outside.{refusal_is_outside}
use Rattle.script_reader.proofs.Parts.{PartsSoFar}
use Rattle.script_reader.proofs.Refused.{AsCommand}
use Rattle.script_reader.proofs.Sessions.{KnowsSessions, session_grows}
use Rattle.script_reader.proofs.Stops.{TakesHeader, command_stops, stop_behind}

pub bad_either : (b : Bool) → cond b (Some BadLine) (Some BadLine) ≡ Some BadLine
bad_either true = refl
bad_either false = refl

pub live_sessions : KnowsSessions live_grammar script_of command_statements (all_known 0)
live_sessions = record {
  says = λ text sessions. refl;
  lawful = λ text sessions few good. record { few = few; known = good };
  session = λ text sessions. refl;
  command = λ text h. bad_either (is_put_head h);
  header = λ text names. refl;
  mark = λ text m. refl;
  nonsense = λ text. refl;
  good = refl;
}

-- the last session with other commands
lawful_with : (text : List (List ℕ)) (done : List (List declared.Command)) (commands : List declared.Command) → IsLawfulScript (script_of text (done ++ [] ∷ [])) → all_known 0 commands ≡ true → IsLawfulScript (script_of text (done ++ commands ∷ []))
lawful_with text done commands lawful known = record {
  few = let few = lawful.few in omega (arith, length-append done ([] ∷ []), length-append done (commands ∷ []));
  known = all_snoc (all_known 0) done commands (all_front (all_known 0) done [] lawful.known) known;
}

pub commands_known : (lines : List (List ℕ)) (start at : ℕ) (commands : List declared.Command) (adds : ℕ) → PartsSoFar commands_parts lines start at commands 0 adds → all_known 0 commands ≡ true
commands_known lines start at commands adds s = subst (λ cs. all_known 0 cs ≡ true) (flat_one commands) s.known

module _ (lines : List (List ℕ)) (start at : ℕ) (commands : List declared.Command) (adds : ℕ) (within : at < length lines) (s : PartsSoFar commands_parts lines start at commands 0 adds) where
  known : all_known 0 commands ≡ true
  known = commands_known lines start at commands adds s

  counted : adds ≡ adds_in commands
  counted = s.counted ∙ zero-add (adds_in (flat_map (λ c. c ∷ []) commands)) ∙ ap adds_in (flat_one commands)

  as_command : (text : List (List ℕ)) (done : List (List declared.Command)) → kind_of (get_or lines at []) ≢ kind.Skipped → kind_of (get_or lines at []) ≢ kind.Session → AsCommand (script_statement_cause (script_of text (done ++ commands ∷ []))) adds (kind_of (get_or lines at []))
  as_command text done said not_session = record {
    said = said;
    text = λ is line. text_cause-snoc done commands ∙ ap (λ b. cond b None (Some BadLine)) (not_true (last_takes_text commands) (λ takes. (s.heading takes).no_text within is));
    session = λ is. absurd (not_session is);
    command = λ h is. ap (cond (is_put_head h) (Some BadLine)) (command_cause-snoc done commands h ∙ ap (λ n. cond (names_known n h) None (Some NoOwn)) (sym counted));
    mark = λ m is. refl;
    nonsense = refl;
  }

  takes_header : (text : List (List ℕ)) (done : List (List declared.Command)) → IsLawfulScript (script_of text (done ++ [] ∷ [])) → TakesHeader live_grammar (script_of text (done ++ commands ∷ []))
  takes_header text done lawful = record {
    next = script_of text (done ++ (commands ++ command.PutHead [] ∷ []) ∷ []);
    lawful = lawful_with text done (commands ++ command.PutHead [] ∷ []) lawful (known_more 0 commands (command.PutHead [] ∷ []) known refl);
    grows = more;
    is_cause = refl;
  }
    where
      more : live_grammar.says (script_of text (done ++ (commands ++ command.PutHead [] ∷ []) ∷ [])) ≡ live_grammar.says (script_of text (done ++ commands ∷ [])) ++ Header [] ∷ []
      more =
          session_grows command_statements (all_known 0) lines live_grammar script_of live_sessions text done (commands ++ command.PutHead [] ∷ [])
          ∙ ap (λ l. live_grammar.says (script_of text (done ++ [] ∷ [])) ++ l) (flat-snoc command_statements commands (command.PutHead []))
          ∙ sym (append_assoc (live_grammar.says (script_of text (done ++ [] ∷ []))) (flat_map command_statements commands) (Header [] ∷ []))
          ∙ ap (λ l. l ++ Header [] ∷ []) (sym (session_grows command_statements (all_known 0) lines live_grammar script_of live_sessions text done commands))

  pub commands_stop : (fault : ScriptFault) → kind_of (get_or lines at []) ≢ kind.Skipped → kind_of (get_or lines at []) ≢ kind.Session → IsNoCommand lines at adds fault
      → (text : List (List ℕ)) (done : List (List declared.Command)) → IsLawfulScript (script_of text (done ++ [] ∷ [])) → IsGrammarStop live_grammar (script_of text (done ++ [] ∷ [])) lines start fault
  commands_stop fault said not_session refused text done lawful =
      stop_behind live_grammar (script_of text (done ++ [] ∷ [])) (script_of text (done ++ commands ∷ [])) lines start at (flat_map command_statements commands) fault s.says
      (session_grows command_statements (all_known 0) lines live_grammar script_of live_sessions text done commands)
      (command_stops live_grammar (script_of text (done ++ commands ∷ [])) lines at adds fault within (lawful_with text done commands lawful known) (as_command text done said not_session) (λ number cause none. takes_header text done lawful) refused)

-- a refusal of what stands behind the opening text, told of all lines
pub live_refused : (lines text : List (List ℕ)) (next : ℕ) (fault : ScriptFault) → 0 < length lines → Say lines 1 next (map Text text) → IsGrammarStop live_grammar (script_of text []) lines next fault → IsScriptRefusal lines fault
live_refused lines text next NoMemory some says stop = tt
live_refused [] text next (At number cause) some says stop = absurd (omega (arith, some))
live_refused (first ∷ rest) text next (At number cause) some says stop =
    ⊎_elim
    (λ s. inr (refusal_is_outside live_grammar with_statement (script_of [] []) IsScript live_runs first rest number cause s))
    (λ e. let clash : None ≡ Some cause = e.is_cause in absurd (cc))
    (stop_behind live_grammar (script_of [] []) (script_of text []) (first ∷ rest) 1 next (map Text text) (At number cause) says (append-nil (map Text text)) stop)
