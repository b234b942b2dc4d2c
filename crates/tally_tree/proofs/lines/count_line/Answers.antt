use Rattle.std.proofs.Common.{◌≡◌, ◌∙◌, ap, refl, ℕ, ◌+◌, List, length, Result, Ok, Err, OnOk}
use Rattle.knit_base.specs.declared.instr.Read.{Read}
use Rattle.knit_base.specs.declared.profile.Profile.{Profile}
use Rattle.knit_base.specs.Lawful.{IsLawfulRead}
use Rattle.knitout_reader.specs.Reading.{ReadsAs}
use Rattle.tally_tree.specs.Counting.{Counts, CountsLine}
use Rattle.tally_tree.specs.Tallies.{TallyCounts, counts_of_tally}
use Rattle.tally_tree.proofs.lines.count_line.Goals as goal

-- a line was read, counted as one, and what it is was counted
line_counted : {X E : Type 0} (r : Result X E) (profile : Profile) (names : List (List ℕ)) (line : List ℕ) (reading : Read) (old mid new : TallyCounts)
    → ReadsAs profile names line reading → IsLawfulRead profile (length names) reading → mid ≡ record { lines = old.lines + 1; with_each = old.with_each; ops = old.ops; needles = old.needles }
    → OnOk r (new.lines ≡ mid.lines) → OnOk r (Counts reading mid new) → OnOk r (CountsLine profile names line old new)
line_counted (Err e) profile names line reading old mid new reads lawful is lines counts = tt
line_counted (Ok x) profile names line reading old mid new reads lawful is lines counts =
    let moved = rw is at counts in
    record {
      reading = reading;
      read_as = reads;
      lawful = lawful;
      one = lines ∙ ap (λ (w : TallyCounts). w.lines) is;
      counts = record { with_each = moved.with_each; ops = moved.ops; as_long = moved.as_long; needles = moved.needles };
    }

pub returns : goal.returns
returns c =
    line_counted c.count.result c.args.setting.now.profile c.args.setting.now.declared c.args.line.now c.in_ok-read.read (counts_of_tally c.args.tally.now) _ (counts_of_tally c.count.new.tally)
    c.in_ok-read.ensures.reads c.in_ok-read.ensures.lawful refl c.count.ensures.lines c.count.ensures.counts
