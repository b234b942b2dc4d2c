-- The edits of a group, read one after the other.
use Rattle.std.proofs.Common.{◌≡◌, ◌≢◌, inl, inr, ℕ, ◌+◌, ◌<◌, ◌≤◌, true, false, cond, ◌&&◌, leb, ltb, List, [], ◌∷◌, ◌++◌, length, drop, filter, get_or, map, Option, Some, None, unwrap_or, sym, ap, ◌∙◌, refl, subst, append-nil, arith, length-append}
use Rattle.std.specs.List.{flat_map, list_all}
use Rattle.std.proofs.lemmas.Bool.{le-leb}
use Rattle.knitout_reader.specs.Head.{names_in_line}
use Rattle.script_reader.specs.Command.{GivesNoNames, IsNoCommand}
use Rattle.script_reader.specs.Groups.{IsLawfulOpen, OpenScript, commands_of_steps, group_cause, group_grammar, group_statements, is_edit, is_edit_line, last_adds}
use Rattle.script_reader.specs.Places.{Say}
use Rattle.script_reader.specs.Reading.{IsCommandRead, IsScriptPartAt, IsGrammarStop, StopsBehind, edits_parts, is_edit_kind, is_end_kind, open_of, steps_parts}
use Rattle.script_reader.specs.Script.{adds_in, all_known, command_line_in, command_statement, command_statements, last_takes_text, names_known, text_of_command}
use Rattle.script_reader.specs.Statements.{Statement, Text, Session, Command, Header, Mark, Nonsense, header_said, kind_of, says_something, statements_of, text_ahead, told_from}
use Rattle.script_reader.specs.declared.command.Command as declared
use Rattle.script_reader.specs.declared.command.Command.TheVariants as command
use Rattle.script_reader.specs.declared.fault.Cause.{Cause}
use Rattle.script_reader.specs.declared.fault.Cause.TheVariants.{BadLine, NoOwn}
use Rattle.script_reader.specs.declared.fault.ScriptFault.{ScriptFault}
use Rattle.script_reader.specs.declared.fault.ScriptFault.TheVariants.{At}
use Rattle.script_reader.specs.declared.line.CommandLine.{CommandLine}
use Rattle.script_reader.specs.declared.line.Kind.{Kind}
use Rattle.script_reader.specs.declared.line.Kind.TheVariants as kind
use Rattle.script_reader.specs.declared.line.Mark.TheVariants as mark
use Rattle.script_reader.specs.declared.step.Step.{Step}
use Rattle.script_reader.specs.declared.step.Step.TheVariants as step
use Rattle.script_reader.proofs.Bools.{both_true, first_true, not_true, second_true}
use Rattle.script_reader.proofs.Ends.{flat_one}
use Rattle.script_reader.proofs.GroupRuns.{last_adds-snoc}
use Rattle.script_reader.proofs.Lines.{first_is, told_at}
use Rattle.script_reader.proofs.Parts.{PartsSoFar}
use Rattle.script_reader.proofs.Places.{say_here, say_more}
use Rattle.script_reader.proofs.Refused.{AsCommand}
use Rattle.script_reader.proofs.Stops.{command_stops, stop_behind, stop_here}
use Rattle.script_reader.proofs.Texts.{no_put_head}

-- what the lines from the line of a command on say begins with it
first_said : (lines : List (List ℕ)) (at : ℕ) (h : CommandLine) → at < length lines → kind_of (get_or lines at []) ≡ kind.Command h → (front rest : List Statement) (x : Statement) (xs : List Statement) → statements_of (drop at lines) ≡ front ++ rest → filter says_something front ≡ x ∷ xs → Command h ≡ x
first_said lines at h within is [] rest x xs told are = absurd (cc)
first_said lines at h within is (y ∷ ys) rest x xs told are =
    let same : Command h ≡ y = first_is (Command h) y (statements_of (drop (at + 1) lines)) (ys ++ rest) (sym (told_at lines at within false (kind.Command h) is) ∙ told) in
    first_is (Command h) x (filter says_something ys) xs (subst (λ (z : Statement). filter says_something (z ∷ ys) ≡ x ∷ xs) (sym same) are)

-- the line of another command isn't `put head` without names
no_header : (lines : List (List ℕ)) (at number : ℕ) (cause : Cause) (h : CommandLine) → at < length lines → kind_of (get_or lines at []) ≡ kind.Command h → GivesNoNames lines at number cause → ⊥
no_header lines at number cause h within is n =
    let clash : Command h ≡ Header [] = first_said lines at h within is n.stands.front (Nonsense ∷ n.stands.back) (Header []) [] n.stands.told n.stands.are in cc

line_is : (c : declared.Command) (h : CommandLine) → Command h ≡ command_statement c → h ≡ command_line_in c
line_is (command.Look name) h is = cc
line_is (command.Put name text) h is = cc
line_is (command.Add place text) h is = cc
line_is (command.Cut name) h is = cc
line_is (command.LoopAt line) h is = cc
line_is command.Verdict h is = cc
line_is command.LookHead h is = cc
line_is (command.PutHead names) h is = absurd (cc)

-- the command of an edit's line is an edit
pub edit_is_read : (lines : List (List ℕ)) (at adds : ℕ) (c : declared.Command) (next : ℕ) → at < length lines → is_edit_kind (kind_of (get_or lines at [])) ≡ true → IsCommandRead lines at adds c next → is_edit c ≡ true
edit_is_read lines at adds c next within edit is = go (kind_of (get_or lines at [])) refl edit
  where
    go : (k : Kind) → kind_of (get_or lines at []) ≡ k → is_edit_kind k ≡ true → is_edit c ≡ true
    go kind.Skipped same edit = absurd (cc)
    go kind.Text same edit = absurd (cc)
    go kind.Session same edit = absurd (cc)
    go (kind.Command h) same edit =
        sym (ap is_edit_line (line_is c h (first_said lines at h within same is.says.front (statements_of (drop next lines)) (command_statement c) (map Text (text_of_command c)) is.says.told is.says.are))) ∙ edit
    go kind.Header same edit = absurd (cc)
    go (kind.Mark m) same edit = absurd (cc)
    go kind.Other same edit = absurd (cc)

module _ (lines : List (List ℕ)) (start : ℕ) (begins : start < length lines) (group : kind_of (get_or lines start []) ≡ kind.Mark mark.Group) (at : ℕ) (commands : List declared.Command) (adds_before adds : ℕ) (s : PartsSoFar edits_parts lines (start + 1) at commands adds_before adds) (few : length commands ≤ 64) where
  group_known : all_known adds_before commands ≡ true
  group_known = subst (λ cs. all_known adds_before cs ≡ true) (flat_one commands) s.known

  group_counted : adds ≡ adds_before + adds_in commands
  group_counted = s.counted ∙ ap (λ cs. adds_before + adds_in cs) (flat_one commands)

  group_said : Say lines start at (Mark mark.Group ∷ flat_map command_statements commands)
  group_said = say_more lines start (start + 1) at (Mark mark.Group ∷ []) (flat_map command_statements commands) (say_here lines start (Mark mark.Group) begins (told_at lines start begins false (kind.Mark mark.Group) group) refl) s.says

  -- the line `end` closes it
  pub group_read : at < length lines → (is_end_kind (kind_of (get_or lines at [])) && ltb 0 (length commands)) ≡ true → IsScriptPartAt steps_parts lines start adds_before (step.Group commands) (at + 1)
  group_read within closes = record {
    low = let low = group_said.low in omega arith;
    says = say_more lines start at (at + 1) (Mark mark.Group ∷ flat_map command_statements commands) (Mark mark.End ∷ []) group_said
        (say_here lines at (Mark mark.End) within (told_at lines at within false (kind.Mark mark.End) (is_end (kind_of (get_or lines at [])) (first_true (is_end_kind (kind_of (get_or lines at []))) (ltb 0 (length commands)) closes))) refl);
    known = group_known;
    lawful = both_true (ltb 0 (length commands) && leb (length commands) 64) (list_all is_edit commands)
        (both_true (ltb 0 (length commands)) (leb (length commands) 64) (second_true (is_end_kind (kind_of (get_or lines at []))) (ltb 0 (length commands)) closes) (le-leb (length commands) 64 few)) s.lawful;
    few = let few = s.few in omega (arith, group_counted);
    heading = λ takes. absurd (cc);
  }
    where
      is_end : (k : Kind) → is_end_kind k ≡ true → k ≡ kind.Mark mark.End
      is_end kind.Skipped is = absurd (cc)
      is_end kind.Text is = absurd (cc)
      is_end kind.Session is = absurd (cc)
      is_end (kind.Command h) is = absurd (cc)
      is_end kind.Header is = absurd (cc)
      is_end (kind.Mark mark.Group) is = absurd (cc)
      is_end (kind.Mark mark.End) is = refl
      is_end (kind.Mark mark.Undo) is = absurd (cc)
      is_end kind.Other is = absurd (cc)

  module _ (text : List (List ℕ)) (done : List (List Step)) (steps : List Step) (lawful : IsLawfulOpen (open_of text (done ++ steps ∷ []) None)) (same : adds_before ≡ adds_in (commands_of_steps steps)) where
    -- what was read, with the open group
    abbrev closed : OpenScript
    closed = open_of text (done ++ steps ∷ []) None

    abbrev opened : OpenScript
    opened = open_of text (done ++ steps ∷ []) (Some commands)

    before : last_adds (done ++ steps ∷ []) ≡ adds_before
    before = last_adds-snoc done steps ∙ sym same

    opened_lawful : IsLawfulOpen opened
    opened_lawful = record {
      few = lawful.few;
      known = lawful.known;
      groups = lawful.groups;
      group = record {
        within = omega (arith, length-append done (steps ∷ []));
        few = few;
        edits = s.lawful;
        known = subst (λ n. all_known n commands ≡ true) (sym before) group_known;
      };
    }

    opened_grows : group_grammar.says opened ≡ group_grammar.says closed ++ (Mark mark.Group ∷ flat_map command_statements commands)
    opened_grows = ap (λ l. l ++ (Mark mark.Group ∷ flat_map command_statements commands)) (sym (append-nil (group_statements closed.script)))

    opened_stop : (fault : ScriptFault) → IsGrammarStop group_grammar opened lines at fault → IsGrammarStop group_grammar closed lines start fault
    opened_stop fault stop = stop_behind group_grammar closed opened lines start at (Mark mark.Group ∷ flat_map command_statements commands) fault group_said opened_grows stop

    -- the lines end
    pub end_stops : (count : ℕ) → count ≡ length lines → length lines ≤ at → IsGrammarStop group_grammar closed lines start (At (count + 1) BadLine)
    end_stops count all past = inr (record {
      so_far = opened;
      lawful = opened_lawful;
      said = Mark mark.Group ∷ flat_map command_statements commands;
      says = let high = group_said.high in subst (λ n. Say lines start n (Mark mark.Group ∷ flat_map command_statements commands)) (omega arith) group_said;
      grows = opened_grows;
      counted = omega (arith, all);
      is_cause = refl;
    })

    -- the line is neither `end` behind an edit nor one more edit
    pub line_stops : at < length lines → kind_of (get_or lines at []) ≢ kind.Skipped → (is_end_kind (kind_of (get_or lines at [])) && ltb 0 (length commands)) ≡ false → (is_edit_kind (kind_of (get_or lines at [])) && ltb (length commands) 64) ≡ false
        → IsGrammarStop group_grammar closed lines start (At (at + 1) BadLine)
    line_stops within said not_end not_edit = opened_stop (At (at + 1) BadLine) (inl (go (kind_of (get_or lines at [])) refl not_end not_edit))
      where
        stops : (x : Statement) (back : List Statement) → statements_of (drop at lines) ≡ x ∷ back → group_cause (last_adds (done ++ steps ∷ [])) commands x ≡ Some BadLine → StopsBehind group_grammar opened lines at (at + 1) BadLine
        stops x back told cause = stop_here group_grammar opened lines at x back BadLine opened_lawful told cause

        header : (ahead : Option (List ℕ)) → statements_of (drop at lines) ≡ header_said ahead ∷ told_from true (drop (at + 1) lines) → StopsBehind group_grammar opened lines at (at + 1) BadLine
        header None told = stops Nonsense (told_from true (drop (at + 1) lines)) told refl
        header (Some t) told = stops (Header (unwrap_or (names_in_line t) [])) (told_from true (drop (at + 1) lines)) told refl

        go : (k : Kind) → kind_of (get_or lines at []) ≡ k → (is_end_kind k && ltb 0 (length commands)) ≡ false → (is_edit_kind k && ltb (length commands) 64) ≡ false → StopsBehind group_grammar opened lines at (at + 1) BadLine
        go kind.Skipped is not_end not_edit = absurd (said is)
        go kind.Text is not_end not_edit = stops (Text (drop 1 (get_or lines at []))) (statements_of (drop (at + 1) lines)) (told_at lines at within false kind.Text is)
            (ap (λ b. cond b None (Some BadLine)) (not_true (last_takes_text commands) (λ takes. (s.heading takes).no_text within is)))
        go kind.Session is not_end not_edit = stops Session (statements_of (drop (at + 1) lines)) (told_at lines at within false kind.Session is) refl
        go (kind.Command h) is not_end not_edit = stops (Command h) (statements_of (drop (at + 1) lines)) (told_at lines at within false (kind.Command h) is)
            (ap (λ b. cond b (cond (names_known (last_adds (done ++ steps ∷ []) + adds_in commands) h) None (Some NoOwn)) (Some BadLine)) not_edit)
        go kind.Header is not_end not_edit = header (text_ahead (drop (at + 1) lines)) (told_at lines at within false kind.Header is)
        go (kind.Mark mark.Group) is not_end not_edit = stops (Mark mark.Group) (statements_of (drop (at + 1) lines)) (told_at lines at within false (kind.Mark mark.Group) is) refl
        go (kind.Mark mark.End) is not_end not_edit = stops (Mark mark.End) (statements_of (drop (at + 1) lines)) (told_at lines at within false (kind.Mark mark.End) is) (ap (λ b. cond b None (Some BadLine)) not_end)
        go (kind.Mark mark.Undo) is not_end not_edit = stops (Mark mark.Undo) (statements_of (drop (at + 1) lines)) (told_at lines at within false (kind.Mark mark.Undo) is) refl
        go kind.Other is not_end not_edit = stops Nonsense (statements_of (drop (at + 1) lines)) (told_at lines at within false kind.Other is) refl

    -- the line may be that of an edit, and no command could be read
    pub edit_stops : (fault : ScriptFault) → at < length lines → (is_edit_kind (kind_of (get_or lines at [])) && ltb (length commands) 64) ≡ true → IsNoCommand lines at adds fault → IsGrammarStop group_grammar closed lines start fault
    edit_stops fault within edit refused = opened_stop fault (go (kind_of (get_or lines at [])) refl (first_true (is_edit_kind (kind_of (get_or lines at []))) (ltb (length commands) 64) edit))
      where
        like : (h : CommandLine) → kind_of (get_or lines at []) ≡ kind.Command h → is_edit_line h ≡ true → AsCommand (group_cause (last_adds (done ++ steps ∷ [])) commands) adds (kind_of (get_or lines at []))
        like h is edits = record {
          said = λ skipped. let clash : kind.Command h ≡ kind.Skipped = sym is ∙ skipped in absurd (cc);
          text = λ text. let clash : kind.Command h ≡ kind.Text = sym is ∙ text in absurd (cc);
          session = λ session. let clash : kind.Command h ≡ kind.Session = sym is ∙ session in absurd (cc);
          command = λ other other_is.
              let same_line : kind.Command h ≡ kind.Command other = sym is ∙ other_is in
              let one : h ≡ other = cc in
              let both : (is_edit_line other && ltb (length commands) 64) ≡ true = both_true (is_edit_line other) (ltb (length commands) 64) (sym (ap is_edit_line one) ∙ edits) (second_true (is_edit_kind (kind_of (get_or lines at []))) (ltb (length commands) 64) edit) in
              ap (λ b. cond b (cond (names_known (last_adds (done ++ steps ∷ []) + adds_in commands) other) None (Some NoOwn)) (Some BadLine)) both
              ∙ ap (λ n. cond (names_known n other) None (Some NoOwn)) (ap (λ n. n + adds_in commands) before ∙ sym group_counted)
              ∙ sym (ap (λ b. cond b (Some BadLine) (cond (names_known adds other) None (Some NoOwn))) (no_put_head (get_or lines at []) other other_is));
          mark = λ m marked. let clash : kind.Command h ≡ kind.Mark m = sym is ∙ marked in absurd (cc);
          nonsense = refl;
        }

        go : (k : Kind) → kind_of (get_or lines at []) ≡ k → is_edit_kind k ≡ true → IsGrammarStop group_grammar opened lines at fault
        go kind.Skipped is edits = absurd (cc)
        go kind.Text is edits = absurd (cc)
        go kind.Session is edits = absurd (cc)
        go (kind.Command h) is edits = command_stops group_grammar opened lines at adds fault within opened_lawful (like h is edits) (λ number cause n. absurd (no_header lines at number cause h within is n)) refused
        go kind.Header is edits = absurd (cc)
        go (kind.Mark m) is edits = absurd (cc)
        go kind.Other is edits = absurd (cc)
