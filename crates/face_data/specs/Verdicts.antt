-- What a summary says of a whole program, which is run from empty beds.
use Rattle.std.specs.Prelude.{ℕ, nat_lt, Bool, List, filter, map, length}
use Rattle.carriage_model.specs.declared.verdict.Stack.{Stack}
use Rattle.carriage_model.specs.declared.verdict.Verdict.{Verdict}
use Rattle.carriage_model.specs.declared.verdict.Verdict.TheVariants.{Sound, Broken}
use Rattle.carriage_model.specs.State.{empty_state}
use Rattle.face_data.specs.Segments.{Changed, read_segs}
use Rattle.face_data.specs.Summaries.{Outcome, Summary, summary_outcome}
use Rattle.face_data.specs.Summaries.Outcome.{went_on, faulted}

-- the loops that a change leaves on its needle, where all needles were empty before
abbrev pub stack_left : ℕ → Changed → Stack
stack_left first c = record { needle = c.0; loops = read_segs empty_state first c.1 }

-- whether the stack holds a loop
abbrev pub holds_loops : Stack → Bool
holds_loops stack = nat_lt 0 (length stack.loops)

-- the needles that hold loops after the changes, with their loops
abbrev pub stacks_left : ℕ → List Changed → List Stack
stacks_left first changes = filter holds_loops (map (stack_left first) changes)

-- the verdict on lines that do this to empty beds
abbrev pub verdict_on : Outcome → Summary → ℕ → Verdict
verdict_on (faulted fault) summary first = Broken fault
verdict_on (went_on s) summary first = Sound (record {
  lines = summary.lines;
  made = summary.made;
  rack = record { 0 = s.rack };
  ins = s.ins;
  hook = s.hook;
  stacks = stacks_left first summary.changes;
})

-- the verdict on the lines of a summary, of which the first is line `first`
abbrev pub verdict_of : Summary → ℕ → Verdict
verdict_of summary first = verdict_on (summary_outcome summary empty_state first) summary first
