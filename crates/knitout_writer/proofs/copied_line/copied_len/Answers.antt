use Rattle.std.proofs.Common.{refl, take}
use Rattle.knitout_writer.proofs.WrittenLines.{copy-begins}
use Rattle.knitout_writer.proofs.copied_line.copied_len.Goals as goal

pub returns-then-is_copied : goal.returns-then-is_copied
returns-then-is_copied c =
    copy-begins c.args.text.now (take c.in_ok-len.len c.args.text.now) c.in_ok-len.len c.in_ok-len.ensures.0 c.in_ok-len.ensures.2 c.in_ok-len.ensures.3 refl
    (c.is_copied.ensures c.if-is_copied.true)
