-- The lines of what is made of a made program.
use Rattle.std.specs.Prelude.{ℕ, ◌++◌, codes}
use Rattle.carriage_model.specs.declared.verdict.Verdict.{Verdict}
use Rattle.carriage_model.specs.Verdict.{brief_of}
use Rattle.verdict_report.specs.PassesText.{counts_text}
use Rattle.knit_base.specs.Spelling.{labelled_number}
use Rattle.verdict_report.specs.VerdictText.{Text, brief_text}

-- how many lines and blocks were made
abbrev pub sizes_text : ℕ → ℕ → Text
sizes_text lines blocks = labelled_number (codes "maker lines ") lines ++ (labelled_number (codes " blocks ") blocks ++ codes "\n")

-- the sizes, the verdict in short, and how many passes, operations and windows there are
abbrev pub made_text : ℕ → ℕ → Verdict → ℕ → ℕ → ℕ → Text
made_text lines blocks verdict passes operations windows =
    sizes_text lines blocks ++ (brief_text (brief_of verdict) ++ (codes "\n" ++ counts_text passes operations windows))
