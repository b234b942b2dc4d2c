-- One command, read where its line stands.
use Rattle.std.proofs.Common.{◌≡◌, ◌≢◌, ◌⊎◌, inl, inr, ℕ, ◌+◌, ◌<◌, ◌≤◌, true, false, cond, List, [], ◌∷◌, length, drop, get_or, map, Some, None, sym, ap, ◌∙◌, refl, subst, arith}
use Rattle.script_reader.specs.Command.{BeginsNoCommand, IsCommandAt, begin_cause}
use Rattle.script_reader.specs.Places.{IsAtSaid, Say}
use Rattle.script_reader.specs.Reading.{IsCommandBehind, IsCommandRead, IsPassed}
use Rattle.script_reader.specs.Script.{adds_of, command_line_in, command_statement, command_statements, is_put_head, names_known, takes_text, text_of_command}
use Rattle.script_reader.specs.Statements.{Statement, Nothing, Text, Session, Command, Mark, Nonsense, kind_of, statements_of}
use Rattle.script_reader.specs.declared.command.Command as declared
use Rattle.script_reader.specs.declared.command.Command.TheVariants as command
use Rattle.script_reader.specs.declared.fault.Cause.TheVariants.{BadLine, NoOwn}
use Rattle.script_reader.specs.declared.line.CommandLine.{CommandLine}
use Rattle.script_reader.specs.declared.line.Kind.TheVariants as kind
use Rattle.script_reader.specs.declared.line.Mark as marks
use Rattle.script_reader.proofs.Lines.{told_at}
use Rattle.script_reader.proofs.Places.{say_grows, say_here, say_more, say_on, stands_here}
use Rattle.script_reader.proofs.Texts.{no_put_head}

-- what a command says that isn't `put head`
plain_statement : (c : declared.Command) → is_put_head (command_line_in c) ≡ false → command_statement c ≡ Command (command_line_in c)
plain_statement (command.Look name) isnt = refl
plain_statement (command.Put name text) isnt = refl
plain_statement (command.Add place text) isnt = refl
plain_statement (command.Cut name) isnt = refl
plain_statement (command.LoopAt line) isnt = refl
plain_statement command.Verdict isnt = refl
plain_statement command.LookHead isnt = refl
plain_statement (command.PutHead names) isnt = absurd (cc)

module _ (lines : List (List ℕ)) (at : ℕ) (within : at < length lines) (adds : ℕ) where
  pub command_read : (h : CommandLine) (c : declared.Command) (next : ℕ) → kind_of (get_or lines at []) ≡ kind.Command h → names_known adds h ≡ true → IsCommandBehind lines (at + 1) h c next → IsCommandRead lines at adds c next
  command_read h c next is known behind =
      let said : command_statement c ≡ Command h =
      plain_statement c (ap is_put_head behind.line_is ∙ no_put_head (get_or lines at []) h is) ∙ ap (λ (l : CommandLine). Command l) behind.line_is in
      record {
        begins = λ skipped. let clash : kind.Skipped ≡ kind.Command h = sym skipped ∙ is in cc;
        says = subst (λ (x : Statement). Say lines at next (x ∷ map Text (text_of_command c))) (sym said)
            (say_more lines at (at + 1) next (Command h ∷ []) (map Text (text_of_command c)) (say_here lines at (Command h) within (told_at lines at within false (kind.Command h) is) refl) behind.says);
        known = ap (names_known adds) behind.line_is ∙ known;
        heading = λ takes. behind.heading (sym (ap takes_text behind.line_is) ∙ takes);
      }

  -- a name that isn't known
  pub unknown_refused : (h : CommandLine) → kind_of (get_or lines at []) ≡ kind.Command h → names_known adds h ≡ false → BeginsNoCommand lines at adds (at + 1) NoOwn
  unknown_refused h is unknown = record {
    here = Command h;
    stands = stands_here lines at (Command h) (statements_of (drop (at + 1) lines)) (told_at lines at within false (kind.Command h) is);
    counted = refl;
    is_cause = ap (λ b. cond b (Some BadLine) (cond (names_known adds h) None (Some NoOwn))) (no_put_head (get_or lines at []) h is) ∙ ap (λ b. cond b None (Some NoOwn)) unknown;
  }

  -- a line that is no command's
  bad : (x : Statement) → begin_cause adds x ≡ Some BadLine → statements_of (drop at lines) ≡ x ∷ statements_of (drop (at + 1) lines) → BeginsNoCommand lines at adds (at + 1) BadLine
  bad x is_cause told = record { here = x; stands = stands_here lines at x (statements_of (drop (at + 1) lines)) told; counted = refl; is_cause = is_cause }

  pub other_refused : (kind_of (get_or lines at []) ≡ kind.Skipped) ⊎ ((kind_of (get_or lines at []) ≡ kind.Text) ⊎ ((kind_of (get_or lines at []) ≡ kind.Session) ⊎ (((m : marks.Mark) × (kind_of (get_or lines at []) ≡ kind.Mark m)) ⊎ (kind_of (get_or lines at []) ≡ kind.Other))))
      → BeginsNoCommand lines at adds (at + 1) BadLine
  other_refused (inl is) = bad Nothing refl (told_at lines at within false kind.Skipped is)
  other_refused (inr (inl is)) = bad (Text (drop 1 (get_or lines at []))) refl (told_at lines at within false kind.Text is)
  other_refused (inr (inr (inl is))) = bad Session refl (told_at lines at within false kind.Session is)
  other_refused (inr (inr (inr (inl is)))) = bad (Mark is.0) refl (told_at lines at within false (kind.Mark is.0) is.1)
  other_refused (inr (inr (inr (inr is)))) = bad Nonsense refl (told_at lines at within false kind.Other is)

-- a command takes at least its line
pub command_grows : (lines : List (List ℕ)) (at adds next : ℕ) (c : declared.Command) → IsCommandRead lines at adds c next → at < next
command_grows lines at adds next c is = say_grows lines at next (command_statement c) (map Text (text_of_command c)) is.says

pub few_adds : (c : declared.Command) → adds_of (command_line_in c) ≤ 1
few_adds (command.Look name) = omega arith
few_adds (command.Put name text) = omega arith
few_adds (command.Add place text) = omega arith
few_adds (command.Cut name) = omega arith
few_adds (command.LoopAt line) = omega arith
few_adds command.Verdict = omega arith
few_adds command.LookHead = omega arith
few_adds (command.PutHead names) = omega arith

-- and the place behind it where something is said
pub command_at : (lines : List (List ℕ)) (at adds next end : ℕ) (c : declared.Command) → IsCommandRead lines at adds c next → IsPassed lines next end → IsAtSaid lines end → (IsAtSaid lines next → end ≡ next) → IsCommandAt lines at adds c end
command_at lines at adds next end c is passed ends stays = record {
  begins = is.begins;
  says = say_on lines at next end (command_statements c) is.says passed;
  known = is.known;
  ends = ends;
  text_ends = λ takes. subst (λ n. n < length lines → kind_of (get_or lines n []) ≢ kind.Text) (sym (stays (is.heading takes).said)) (is.heading takes).no_text;
}
