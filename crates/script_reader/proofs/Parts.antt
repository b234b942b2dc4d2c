-- The parts of a session or of a group, read one after the other.
use Rattle.std.proofs.Common.{◌≡◌, ℕ, ◌+◌, ◌<◌, ◌≤◌, Bool, true, List, [], ◌∷◌, ◌++◌, length, get_or, sym, ap, ◌∙◌, refl, subst, arith, length-append}
use Rattle.std.specs.List.{flat_map, list_all}
use Rattle.script_reader.specs.Places.{Say}
use Rattle.script_reader.specs.Reading.{IsAtHeading, IsCommandRead, IsScriptPartAt, PartGrammar}
use Rattle.script_reader.specs.Script.{adds_in, all_known, command_line_in, command_statements, last_is, names_known, takes_text}
use Rattle.script_reader.specs.Statements.{kind_of}
use Rattle.script_reader.specs.declared.command.Command as declared
use Rattle.script_reader.specs.declared.line.Kind.TheVariants as kind
use Rattle.script_reader.proofs.Bools.{all_snoc, both_true}
use Rattle.script_reader.proofs.Commands.{command_grows, few_adds}
use Rattle.script_reader.proofs.Ends.{adds_more, adds_one, flat-snoc, known_more, last_is-snoc}
use Rattle.script_reader.proofs.Places.{passed_more, passed_none, say_more, say_none, say_on}

-- the parts that were read from these lines, from the place `start` up to the place `at`, behind so many add commands
pub record PartsSoFar {X : Type 0} (parts : PartGrammar X) (lines : List (List ℕ)) (start at : ℕ) (read : List X) (adds_before adds : ℕ) : Type 0 where
  pub says : Say lines start at (flat_map parts.says read)
  pub known : all_known adds_before (flat_map parts.commands read) ≡ true
  pub lawful : list_all parts.is_lawful read ≡ true
  pub counted : adds ≡ adds_before + adds_in (flat_map parts.commands read)
  pub few : adds + start ≤ adds_before + at
  pub short : length read + start ≤ at
  pub heading : last_is parts.takes_text read ≡ true → IsAtHeading lines at

module _ {X : Type 0} (parts : PartGrammar X) (lines : List (List ℕ)) (start : ℕ) where
  pub parts_begin : (adds : ℕ) → start ≤ length lines → PartsSoFar parts lines start start [] adds adds
  parts_begin adds high = record {
    says = say_none lines start high;
    known = refl;
    lawful = refl;
    counted = omega arith;
    few = omega arith;
    short = omega arith;
    heading = λ takes. absurd (cc);
  }

  -- a line that says nothing
  pub parts_skipped : (at : ℕ) (read : List X) (adds_before adds : ℕ) → at < length lines → kind_of (get_or lines at []) ≡ kind.Skipped → PartsSoFar parts lines start at read adds_before adds → PartsSoFar parts lines start (at + 1) read adds_before adds
  parts_skipped at read adds_before adds within is s = record {
    says = say_on lines start at (at + 1) (flat_map parts.says read) s.says (passed_more lines at at within is (passed_none lines at (omega arith)));
    known = s.known;
    lawful = s.lawful;
    counted = s.counted;
    few = let few = s.few in omega arith;
    short = let short = s.short in omega arith;
    heading = λ takes. absurd ((s.heading takes).said within is);
  }

  pub parts_more : (at : ℕ) (read : List X) (adds_before adds : ℕ) (part : X) (next more : ℕ) → PartsSoFar parts lines start at read adds_before adds → IsScriptPartAt parts lines at adds part next → more ≡ adds_in (parts.commands part)
      → PartsSoFar parts lines start next (read ++ part ∷ []) adds_before (adds + more)
  parts_more at read adds_before adds part next more s is more_is = record {
    says = subst (Say lines start next) (sym (flat-snoc parts.says read part)) (say_more lines start at next (flat_map parts.says read) (parts.says part) s.says is.says);
    known = subst (λ cs. all_known adds_before cs ≡ true) (sym (flat-snoc parts.commands read part))
        (known_more adds_before (flat_map parts.commands read) (parts.commands part) s.known (subst (λ n. all_known n (parts.commands part) ≡ true) s.counted is.known));
    lawful = all_snoc parts.is_lawful read part s.lawful is.lawful;
    counted = let counted = s.counted in omega (arith, more_is, ap adds_in (flat-snoc parts.commands read part), adds_more (flat_map parts.commands read) (parts.commands part));
    few = let few = s.few in let more = is.few in omega (arith, more_is);
    short = let short = s.short in let low = is.low in omega (arith, length-append read (part ∷ []));
    heading = λ takes. is.heading (sym (last_is-snoc parts.takes_text read part) ∙ takes);
  }

-- a command as a part
pub command_part : (is_lawful : declared.Command → Bool) (lines : List (List ℕ)) (at adds : ℕ) (c : declared.Command) (next : ℕ) → is_lawful c ≡ true → IsCommandRead lines at adds c next
    → IsScriptPartAt (record { says = command_statements; commands = λ command. command ∷ []; is_lawful = is_lawful; takes_text = λ command. takes_text (command_line_in command) }) lines at adds c next
command_part is_lawful lines at adds c next lawful is =
    let low : at < next = command_grows lines at adds next c is in
    record {
      low = low;
      says = is.says;
      known = both_true (names_known adds (command_line_in c)) true is.known refl;
      lawful = lawful;
      few = omega (arith, adds_one c, few_adds c);
      heading = is.heading;
    }
