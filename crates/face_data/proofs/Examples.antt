-- Two transfers to one needle, each as a face of one line, and what they make of states.
use Rattle.std.proofs.Common.{◌≡◌, ℕ, ℤ, pos, List, [], ◌∷◌, None, map, refl}
use Rattle.knit_base.specs.declared.needle.Bed.TheVariants.{Front, Back}
use Rattle.knit_base.specs.declared.needle.Needle.{Needle}
use Rattle.knit_base.specs.declared.rule.Fault.{Fault}
use Rattle.knit_base.specs.declared.rule.Rule.TheVariants.{NotAligned, TooManyLoops}
use Rattle.carriage_model.specs.State.{State, empty_state, with_stack}
use Rattle.face_data.specs.declared.face.Check.{Check}
use Rattle.face_data.specs.declared.face.Cond.TheVariants.{RackIs, SizeAtMost}
use Rattle.face_data.specs.declared.face.Ending.TheVariants.{Through}
use Rattle.face_data.specs.declared.face.Seg.TheVariants.{Entry}
use Rattle.face_data.specs.Segments.{segments_on, read_segs}
use Rattle.face_data.specs.Summaries.{Summary, first_fault, summary_outcome}
use Rattle.face_data.specs.Summaries.Outcome.{faulted}
use Rattle.face_data.specs.View.{asked_of_check}

abbrev front : ℤ → Needle
front at = record { bed = Front; at = at }

abbrev back : ℤ → Needle
back at = record { bed = Back; at = at }

abbrev fault : ℕ → Fault
fault line = record { line = line; reason = record { rule = NotAligned; at = 2 } }

-- the two checks of a transfer at this rack
abbrev checks : ℤ → List Check
checks rack =
    record { fault = fault 0; cond = RackIs (record { 0 = rack }) }
    ∷ record { fault = record { line = 0; reason = record { rule = TooManyLoops; at = 2 } }; cond = SizeAtMost (record { start = 0; len = 2 }) 16 } ∷ []

-- the face of a transfer of needle n of the front to needle 1 of the back
abbrev transfer : ℤ → ℤ → Summary
transfer at rack = record {
  lines = 1;
  made = 0;
  checks = map (asked_of_check (back (pos 1) ∷ front at ∷ [])) (checks rack);
  changes = (front at, []) ∷ (back (pos 1), Entry (back (pos 1)) ∷ Entry (front at) ∷ []) ∷ [];
  lasts = [];
  ending = Through (record { rack = None; came = 0; went = 0; hook = None });
}

-- a loop on needle 1 of each bed, at rack 0
abbrev laden : State
laden = record empty_state { stacks = with_stack (with_stack (λ n. []) (front (pos 1)) (5 ∷ [])) (back (pos 1)) (6 ∷ []) }

-- the first transfer asks nothing that doesn't hold, and puts the front loop behind the back one
first_holds : first_fault (transfer (pos 1) (pos 0)).checks laden ≡ None
first_holds = refl

first_moves : read_segs laden 7 (segments_on (transfer (pos 1) (pos 0)).changes (back (pos 1))) ≡ 6 ∷ 5 ∷ []
first_moves = refl

first_empties : read_segs laden 7 (segments_on (transfer (pos 1) (pos 0)).changes (front (pos 1))) ≡ []
first_empties = refl

first_leaves : segments_on (transfer (pos 1) (pos 0)).changes (front (pos 3)) ≡ Entry (front (pos 3)) ∷ []
first_leaves = refl

-- the second asks for a rack of one needle, and stops
second_stops : summary_outcome (transfer (pos 2) (pos 4)) laden 7 ≡ faulted (fault 7)
second_stops = refl
