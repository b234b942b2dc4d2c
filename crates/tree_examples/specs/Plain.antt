-- A summary that only sets the rack, for tests.
use Rattle.std.specs.Prelude.{ℕ, ℤ, [], Some, None}
use Rattle.face_data.specs.declared.face.Ending.TheVariants.{Through}
use Rattle.face_data.specs.Summaries.{Summary}

-- so many lines that do nothing but set the rack
abbrev pub plain : ℕ → ℤ → Summary
plain lines rack = record { lines = lines; made = 0; checks = []; changes = []; lasts = []; ending = Through (record { rack = Some (record { 0 = rack }); came = 0; went = 0; hook = None }) }
