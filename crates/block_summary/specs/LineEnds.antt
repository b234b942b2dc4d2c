-- How a line ends that is read after others.
use Rattle.std.specs.Prelude.{◌≡◌, ◌+◌, List, Option, None}
use Rattle.knit_base.specs.declared.instr.Read.{Read}
use Rattle.knit_base.specs.declared.instr.Read.TheVariants as read
use Rattle.knit_base.specs.declared.profile.Profile.{Profile}
use Rattle.face_data.specs.declared.face.Ending.TheVariants.{Through}
use Rattle.face_data.specs.Composition.{composed, effect_of_both}
use Rattle.face_data.specs.Items.{set_items}
use Rattle.face_data.specs.Lasts.{lasts_of_both}
use Rattle.face_data.specs.Segments.{Changed}
use Rattle.face_data.specs.Summaries.{Summary}
use Rattle.block_summary.specs.declared.formed.FormedLoop.{FormedLoop}
use Rattle.block_summary.specs.declared.instr_ask.InstrAsk.{InstrAsk}
use Rattle.block_summary.specs.declared.line.DraftedLineEnd.{DraftedLineEnd}
use Rattle.block_summary.specs.declared.line.DraftedLineEnd.TheVariants.{GoesOn, Stops}
use Rattle.block_summary.specs.Asks.{formed_loop, needle_of_formed}
use Rattle.block_summary.specs.DraftKnowledge.{effect_in, stopped_at, with_loop_on, changes_written}
use Rattle.block_summary.specs.LineSummaries.{line_summary}

-- the loop that the line forms where the needles hold these segments
abbrev pub loop_of_line : Read → List Changed → Option FormedLoop
loop_of_line (read.Instr instr) segments = formed_loop instr segments
loop_of_line r segments = None

-- what an instruction with these answers makes of the summary of the lines before it
abbrev pub summary_with_line : Summary → InstrAsk → Summary
summary_with_line s ask = record {
  lines = s.lines + 1;
  made = s.made + set_items ask.formed;
  checks = s.checks;
  changes = with_loop_on (needle_of_formed ask.formed) s.lines (changes_written s.changes ask.changed);
  lasts = lasts_of_both s.lasts ask.lasts;
  ending = Through (effect_of_both (effect_in s.ending) ask.effect);
}

-- Where the line goes on, what was drafted is the composition with the line's summary, and the loop is the line's. Where it is known
-- to stop, so does the composition, at this fault.
abbrev pub EndsAs : Profile → Read → Summary → Summary → DraftedLineEnd → Type 0
EndsAs profile r old new (GoesOn formed) = (new ≡ composed old (line_summary profile r)) × (formed ≡ loop_of_line r old.changes)
EndsAs profile r old new (Stops fault) = composed old (line_summary profile r) ≡ stopped_at fault new
