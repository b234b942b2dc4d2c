-- The first two lines of a saved text.
use Rattle.std.specs.Prelude.{◌≡◌, ℕ, List, codes}
use Rattle.knit_base.specs.declared.profile.Profile.{Profile}
use Rattle.journal_file.specs.Grammars.{Form, OneLine, Both}
use Rattle.journal_file.specs.Profiles.{IsProfile}

abbrev pub IsTitle : Unit {0} → List ℕ → Type 0
IsTitle said line = line ≡ codes "journal 1"

-- the title, and the line of the machine's limits
abbrev pub AreFront : Form (Unit {0} × Profile)
AreFront = Both (OneLine IsTitle) (λ said. OneLine IsProfile)
