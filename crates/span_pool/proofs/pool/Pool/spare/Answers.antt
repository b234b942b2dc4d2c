use Rattle.std.proofs.Common.{sym, ◌∙◌, arith}
use Rattle.span_pool.proofs.Shelves.{read_here, spare_past, spare_seen}
use Rattle.span_pool.proofs.pool.Pool.spare.Goals as goal

pub returns-then-class-len : goal.returns-then-class-len
returns-then-class-len g c = sym (spare_past c.self.inside.shelves.items c.args.self.now c.args.class c.self.view_is (omega arith))

pub returns : goal.returns
returns g c =
    let here = read_here c.self.inside.shelves.items c.args.class c.index.result.now c.index.ensures (omega arith) in
    c.spare.ensures ∙ sym (spare_seen c.self.inside.shelves.items c.args.self.now c.args.class c.index.result.now c.self.view_is here)
