-- A refusal within, told of all that was read before.
use Rattle.std.proofs.Common.{◌≡◌, inl, inr, ℕ, ◌+◌, ◌<◌, List, [], ◌∷◌, ◌++◌, length, drop, get_or, Some, sym, ap, ◌∙◌, refl, append_assoc, append-nil}
use Rattle.script_reader.specs.Command.{GivesNoNames, IsNoCommand}
use Rattle.script_reader.specs.Grammar.{Grammar}
use Rattle.script_reader.specs.Places.{Say}
use Rattle.script_reader.specs.Reading.{IsGrammarStop, StopsBehind}
use Rattle.script_reader.specs.Statements.{Statement, Header, Nonsense, kind_of, statements_of}
use Rattle.script_reader.specs.declared.fault.Cause.{Cause}
use Rattle.script_reader.specs.declared.fault.Cause.TheVariants.{BadLine}
use Rattle.script_reader.specs.declared.fault.ScriptFault.{ScriptFault}
use Rattle.script_reader.specs.declared.fault.ScriptFault.TheVariants.{At, NoMemory}
use Rattle.script_reader.proofs.Places.{say_more, stands_behind, stands_here, stands_told}
use Rattle.script_reader.proofs.Refused.{AsCommand, refused_here}

module _ (g : Grammar) where
  -- behind more lines
  pub stop_behind : (before next : g.SoFar) (lines : List (List ℕ)) (start at : ℕ) (said : List Statement) (fault : ScriptFault) → Say lines start at said → g.says next ≡ g.says before ++ said → IsGrammarStop g next lines at fault → IsGrammarStop g before lines start fault
  stop_behind before next lines start at said (At number cause) says grows (inl s) = inl (record {
    so_far = s.so_far;
    lawful = s.lawful;
    place = s.place;
    said = said ++ s.said;
    here = s.here;
    stands = stands_behind lines start at s.place said s.said s.here says s.stands;
    grows = s.grows ∙ ap (λ l. l ++ s.said) grows ∙ append_assoc (g.says before) said s.said;
    counted = s.counted;
    is_cause = s.is_cause;
  })
  stop_behind before next lines start at said (At number cause) says grows (inr e) = inr (record {
    so_far = e.so_far;
    lawful = e.lawful;
    said = said ++ e.said;
    says = say_more lines start at (length lines) said e.said says e.says;
    grows = e.grows ∙ ap (λ l. l ++ e.said) grows ∙ append_assoc (g.says before) said e.said;
    counted = e.counted;
    is_cause = e.is_cause;
  })
  stop_behind before next lines start at said NoMemory says grows stop = tt

  -- at the line that was reached
  pub stop_here : (so_far : g.SoFar) (lines : List (List ℕ)) (at : ℕ) (here : Statement) (back : List Statement) (cause : Cause) → g.IsLawful so_far → statements_of (drop at lines) ≡ here ∷ back → g.cause_of so_far here ≡ Some cause → StopsBehind g so_far lines at (at + 1) cause
  stop_here so_far lines at here back cause lawful told stops = record {
    so_far = so_far;
    lawful = lawful;
    place = at;
    said = [];
    here = here;
    stands = stands_here lines at here back told;
    grows = sym (append-nil (g.says so_far));
    counted = refl;
    is_cause = stops;
  }

  -- the line of `put head` may stand there, and its text may not
  pub record TakesHeader (so_far : g.SoFar) : Type 0 where
    pub next : g.SoFar
    pub lawful : g.IsLawful next
    pub grows : g.says next ≡ g.says so_far ++ Header [] ∷ []
    pub is_cause : g.cause_of next Nonsense ≡ Some BadLine

  -- where no command could be read
  pub command_stops : (so_far : g.SoFar) (lines : List (List ℕ)) (at adds : ℕ) (fault : ScriptFault) → at < length lines → g.IsLawful so_far → AsCommand (g.cause_of so_far) adds (kind_of (get_or lines at [])) → ((number : ℕ) (cause : Cause) → GivesNoNames lines at number cause → TakesHeader so_far) → IsNoCommand lines at adds fault → IsGrammarStop g so_far lines at fault
  command_stops so_far lines at adds (At number cause) within lawful like takes (inl b) = inl (record {
    so_far = so_far;
    lawful = lawful;
    place = at;
    said = [];
    here = b.here;
    stands = b.stands;
    grows = sym (append-nil (g.says so_far));
    counted = b.counted;
    is_cause = refused_here lines at within (g.cause_of so_far) adds like b.here b.stands.back cause (stands_told lines at b.here b.stands) b.is_cause;
  })
  command_stops so_far lines at adds (At number cause) within lawful like takes (inr n) = inl (record {
    so_far = (takes number cause n).next;
    lawful = (takes number cause n).lawful;
    place = n.place;
    said = Header [] ∷ [];
    here = Nonsense;
    stands = n.stands;
    grows = (takes number cause n).grows;
    counted = n.counted;
    is_cause = (takes number cause n).is_cause ∙ ap (λ (c : Cause). Some c) (sym n.is_cause);
  })
  command_stops so_far lines at adds NoMemory within lawful like takes stop = tt
