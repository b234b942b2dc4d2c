use Rattle.std.proofs.Common.{arith}
use Rattle.check_workers.proofs.Pieces.{all_pieces}
use Rattle.check_workers.proofs.wide.prepare_wide.Goals as goal

pub returns-in-Ok-clause-prepared : goal.returns-in-Ok-clause-prepared
returns-in-Ok-clause-prepared g c = record {
  few = omega arith;
  made = all_pieces c.args.setting.now c.args.text c.piece_count-count.result (c.in-Ok.made.face, c.in-Ok.made.loops) c.piece_count-count.ensures.0 c.in-Ok.ensures;
}
