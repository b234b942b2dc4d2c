-- What most lines say.
use Rattle.std.specs.Prelude.{[], ◌∷◌}
use Rattle.knit_base.specs.declared.instr.Instr.TheVariants as instr
use Rattle.knit_base.specs.declared.instr.Read.{Read}
use Rattle.knit_base.specs.declared.instr.Read.TheVariants as read
use Rattle.knit_base.specs.declared.usual.Usual.{Usual}
use Rattle.knit_base.specs.declared.usual.Usual.TheVariants.{Knit, Tuck, Xfer}

-- the same, as a reading
abbrev pub usual_read : Usual → Read
usual_read (Knit dir n c) = read.Instr (instr.Knit dir n (c ∷ []))
usual_read (Tuck dir n c) = read.Instr (instr.Tuck dir n (c ∷ []))
usual_read (Xfer n n2) = read.Instr (instr.Xfer n n2)
