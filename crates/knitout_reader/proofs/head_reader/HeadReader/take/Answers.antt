use Rattle.std.proofs.Common.{◌≡◌, ℕ, List, ◌∷◌, [], ◌++◌, ◌+◌, sym, subst, arith}
use Rattle.knitout_reader.proofs.HeadsByLines.{head_more, looked_first, looked_later, HasLooked}
use Rattle.knitout_reader.proofs.head_reader.HeadReader.take.Goals.{then-self-eq0, else-self-eq0+else-not-is_head_line}
use Rattle.knitout_reader.proofs.head_reader.HeadReader.take.Goals as goal

pub returns-clause-taken : goal.returns-clause-taken
returns-clause-taken c =
    let looked : HasLooked c.args.line.now c.args.self.now c.if-self-eq0.self =
    elim c.if-self-eq0.branch [
      | then-self-eq0 w ↦ looked_first c.args.line.now w.as_bytes.result.now c.args.self.now c.if-self-eq0.self w.is_magic-self.result w.if-self-eq0.true w.as_bytes.ensures.value w.is_magic-self.ensures w.self-is
      | else-self-eq0+else-not-is_head_line w ↦
          looked_later c.args.line.now w.as_bytes-else-self-eq0.result.now c.args.self.now c.if-self-eq0.self w.is_head_line.result w.if-self-eq0.false w.as_bytes-else-self-eq0.ensures.value
          w.is_head_line.ensures w.if-not-is_head_line.false w.self-is
    ] in
    λ _ lines has. head_more lines c.args.line.now c.args.self.now c.if-self-eq0.self c.take_line.new.self has looked c.in_ok-take_line.ensures
