use Rattle.std.proofs.Common.{◌-◌, ◌+◌, length, take, drop, refl, arith, length-take}
use Rattle.knitout_writer.proofs.CopiedLines.{names-more}
use Rattle.knitout_writer.proofs.copied_line.behind_name.Goals as goal

pub returns-then-text-len-eq32 : goal.returns-then-text-len-eq32
returns-then-text-len-eq32 c =
    let text = c.args.text.now in
    let len = c.name_len-len.result in (
      omega (arith, c.if-len-text.true, length-take (length text - (len + 1)) (drop (len + 1) text)),
      λ others. names-more text (take (length text - (len + 1)) (drop (len + 1) text)) len (omega (arith, c.if-len-eq0.false)) c.if-len-text.true c.if-text-len-eq32.true c.name_len-len.ensures.name refl others,
    )
