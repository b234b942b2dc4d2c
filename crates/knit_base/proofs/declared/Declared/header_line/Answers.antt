use Rattle.std.proofs.lemmas.Grind.{common_steps}
use Rattle.std.proofs.Common.{arith, ◌≡◌, ◌<◌, length, string_bytes, sym, subst}
use Rattle.knit_base.specs.Lines.{HasNoLineEnd}
use Rattle.knit_base.specs.Names.{header_line, AreNames}
use Rattle.knit_base.proofs.Naming.{line_one, line_short}
use Rattle.knit_base.proofs.declared.Declared.header_line.Goals as goal

pub returns-clause-one : goal.returns-clause-one
returns-clause-one c =
    let line : string_bytes c.loop-name.line ≡ header_line c.args.self.now = grind (arith, common_steps) in
    let names : AreNames c.args.self.now = subst AreNames c.self.view_is c.self.invariant in
    subst HasNoLineEnd (sym line) (line_one c.args.self.now names)

pub returns-clause-short : goal.returns-clause-short
returns-clause-short c =
    let line : string_bytes c.loop-name.line ≡ header_line c.args.self.now = grind (arith, common_steps) in
    let names : AreNames c.args.self.now = subst AreNames c.self.view_is c.self.invariant in
    subst (λ text. length text < 65536) (sym line) (line_short c.args.self.now names)
