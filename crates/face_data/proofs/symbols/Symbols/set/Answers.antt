use Rattle.std.proofs.Common.{ap, ◌∙◌}
use Rattle.face_data.specs.Segments.{change_at}
use Rattle.face_data.proofs.Places.{change_at-put}
use Rattle.face_data.proofs.symbols.Symbols.set.Goals as goal

pub returns-clause-ok : goal.returns-clause-ok
returns-clause-ok c m = ap (λ changes. change_at changes m) c.in_ok-swap.ensures.ok ∙ change_at-put c.args.self.now c.args.n m c.args.segs
