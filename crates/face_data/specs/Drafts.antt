-- The summary of lines, made of summaries of one line each.
use Rattle.std.specs.Prelude.{List, [], None, fold}
use Rattle.knit_base.specs.declared.instr.Read.{Read}
use Rattle.face_data.specs.declared.face.Effect.{Effect}
use Rattle.face_data.specs.declared.face.Ending.TheVariants.{Through}
use Rattle.face_data.specs.Composition.{composed}
use Rattle.face_data.specs.Summaries.{Summary}

-- nothing comes, goes or is set
abbrev pub no_effect : Effect
no_effect = record { rack = None; came = 0; went = 0; hook = None }

-- the summary of no line
abbrev pub no_lines : Summary
no_lines = record { lines = 0; made = 0; checks = []; changes = []; lasts = []; ending = Through no_effect }

-- the summary of lines, one after the other, where each line has this summary
abbrev pub drafted_summary : (Read → Summary) → List Read → Summary
drafted_summary line lines = fold (λ draft r. composed draft (line r)) no_lines lines
