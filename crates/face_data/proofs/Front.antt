-- Composition with a block whose conditions are all known to hold.
use Rattle.std.proofs.Common.{◌≡◌, ℕ, ◌+◌, List, [], ◌∷◌, Option, None, refl, ap, ◌∙◌}
use Rattle.std.specs.List.{Contains}
use Rattle.face_data.specs.declared.face.Effect.{Effect}
use Rattle.face_data.specs.declared.face.Last.{Last}
use Rattle.face_data.specs.declared.face.Ending.{Ending}
use Rattle.face_data.specs.declared.face.Ending.TheVariants.{Through}
use Rattle.face_data.specs.Answers.{read_answer}
use Rattle.face_data.specs.Answers.ConditionAnswer.{yes_it_does}
use Rattle.face_data.specs.Composition.{against_kept, next, reads, or_old, effect_of_both, ending_after, made_with, changes_with, lasts_with, gathering_closed, composed, composed_at, changes_merged}
use Rattle.face_data.specs.Drafts.{no_effect}
use Rattle.face_data.specs.Lasts.{lasts_of_both}
use Rattle.face_data.specs.Segments.{Changed}
use Rattle.face_data.specs.Summaries.{AskedCondition, Summary, fault_raised}
use Rattle.face_data.specs.Through.{changes_through}
use Rattle.face_data.proofs.Drafts.{ins-nobody}
use Rattle.face_data.proofs.Members.{Contains-head, Contains-tail}

-- each of the conditions is known to hold, where the kept ones do
abbrev pub AllHold : Effect → List Last → List Changed → List AskedCondition → List AskedCondition → Type 0
AllHold e la changes kept rest = (c : AskedCondition) → Contains rest c → against_kept kept (read_answer e la changes c.ask) ≡ yes_it_does

-- then nothing is kept
pub reads-hold : (e : Effect) (la : List Last) (changes : List Changed) (lines : ℕ) (kept rest : List AskedCondition) → AllHold e la changes kept rest →
    reads e la changes lines kept rest ≡ record { checks = kept; stop = None }
unfolding reads
reads-hold e la changes lines kept [] hold = refl
reads-hold e la changes lines kept (c ∷ cs) hold =
    ap (λ r. next r kept (fault_raised lines c.fault) (λ ks. reads e la changes lines ks cs)) (hold c (Contains-head c cs))
    ∙ reads-hold e la changes lines kept cs (λ d there. hold d (Contains-tail c cs d there))

newer_none : {X : Type 0} (old : Option X) → or_old None old ≡ old
newer_none old = refl

-- an effect that does nothing
pub effect-idle : (e : Effect) → effect_of_both e no_effect ≡ e
effect-idle e = λ i. record { rack = e.rack; came = ins-nobody e.came i; went = ins-nobody e.went i; hook = e.hook }

-- the summary of both, where nothing is left to ask
pub composed-hold : (a b : Summary) (e f : Effect) → a.ending ≡ Through e → b.ending ≡ Through f → AllHold e a.lasts a.changes a.checks b.checks →
    composed a b ≡ record {
      lines = a.lines + b.lines;
      made = a.made + b.made;
      checks = a.checks;
      changes = changes_merged a.changes (changes_through a.changes a.lines b.changes);
      lasts = lasts_of_both a.lasts b.lasts;
      ending = Through (effect_of_both e f);
    }
composed-hold a b e f goes also hold =
    ap (λ ending. composed_at ending a b) goes
    ∙ ap (λ gathered. gathering_closed gathered e a b) (reads-hold e a.lasts a.changes a.lines a.checks b.checks hold)
    ∙ ap (closed_by a b e) also
  where
    closed_by : Summary → Summary → Effect → Ending → Summary
    closed_by a b e ending = record {
      lines = a.lines + b.lines;
      made = made_with ending (a.made + b.made);
      checks = a.checks;
      changes = changes_with ending (changes_merged a.changes (changes_through a.changes a.lines b.changes));
      lasts = lasts_with ending (lasts_of_both a.lasts b.lasts);
      ending = ending_after a.lines e ending;
    }
