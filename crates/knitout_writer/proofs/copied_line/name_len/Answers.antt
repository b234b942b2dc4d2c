use Rattle.std.proofs.Common.{◌<◌, length, take, get_or, All, sym, subst, arith}
use Rattle.std.proofs.lemmas.List.{take_more}
use Rattle.std.proofs.lemmas.List.Elements.{All-push}
use Rattle.knitout_writer.specs.Written.{IsCopiedNameByte}
use Rattle.knitout_writer.proofs.copied_line.name_len.Goals as goal

pub loop-len-preserved : goal.loop-len-preserved
loop-len-preserved c =
    let within : c.loop-len.len < length c.args.text.now = c.loop-len-test.true in (
      omega (arith, within),
      subst (All IsCopiedNameByte) (sym (take_more c.args.text.now c.loop-len.len 0 within))
          (All-push IsCopiedNameByte (take c.loop-len.len c.args.text.now) (get_or c.args.text.now c.loop-len.len 0) c.loop-len.invariant.1 (c.is_name_byte.ensures c.if-is_name_byte.true)),
    )
