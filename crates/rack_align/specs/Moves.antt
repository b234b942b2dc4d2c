-- The rack that an instruction needs.
use Rattle.std.specs.Prelude.{ℕ, Option, None, Some}
use Rattle.knit_base.specs.declared.instr.Instr.{Instr}
use Rattle.knit_base.specs.declared.instr.Instr.TheVariants.{Split, Xfer}
use Rattle.knit_base.specs.declared.instr.Quarter.{Quarter}
use Rattle.knit_base.specs.declared.needle.Needle.{Needle}
use Rattle.knit_base.specs.declared.rule.Reason.{Reason}
use Rattle.knit_base.specs.declared.rule.Rule.TheVariants.{NotAligned}
use Rattle.knit_base.specs.Needle.{rack_facing}

-- the rack at which the needles face each other, and the reason where the rack is another. The second is named at this token
abbrev pub facing : Needle → Needle → ℕ → Reason × Quarter
facing n n2 at = (record { rule = NotAligned; at = at }, record { 0 = rack_facing n n2 })

-- the rack that the instruction needs
abbrev pub rack_ask : Instr → Option (Reason × Quarter)
rack_ask (Split dir n n2 cs) = Some (facing n n2 3)
rack_ask (Xfer n n2) = Some (facing n n2 2)
rack_ask instr = None
