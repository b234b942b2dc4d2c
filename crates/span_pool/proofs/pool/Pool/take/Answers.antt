use Rattle.std.proofs.Common.{sym, ap, ◌∙◌, refl, ◌≡◌, arith}
use Rattle.span_pool.specs.Pool.{spare_of}
use Rattle.span_pool.proofs.Classes.{class_is}
use Rattle.span_pool.proofs.Shelves.{read_here, spare_past, spare_seen, is_put}
use Rattle.span_pool.proofs.pool.Pool.take.Goals as goal

pub returns-then-class-len-clause-refused : goal.returns-then-class-len-clause-refused
returns-then-class-len-clause-refused g c = λ class is.
    let same : class ≡ c.class_of-class.result = class_is c.args.len class c.class_of-class.result is c.class_of-class.ensures in (
      λ _. spare_past c.self.inside.shelves.items c.args.self.now class c.self.view_is (omega (arith, same)),
      λ _. refl,
    )

pub returns-in_default-clause-refused : goal.returns-in_default-clause-refused
returns-in_default-clause-refused g c = λ class is.
    let same : class ≡ c.class_of-class.result = class_is c.args.len class c.class_of-class.result is c.class_of-class.ensures in
    let here = read_here c.self.inside.shelves.items c.class_of-class.result c.index_mut.result.now c.index_mut.ensures.value (omega arith) in
    let spare = spare_seen c.self.inside.shelves.items c.args.self.now c.class_of-class.result c.index_mut.result.now c.self.view_is here in (
      λ _. ap (spare_of c.args.self.now) same ∙ (spare ∙ c.in_default.ensures.refused.0 refl),
      λ _. refl,
    )

pub returns-clause-refused : goal.returns-clause-refused
returns-clause-refused g c = λ class is.
    let same : class ≡ c.class_of-class.result = class_is c.args.len class c.class_of-class.result is c.class_of-class.ensures in
    let here = read_here c.self.inside.shelves.items c.class_of-class.result c.index_mut.result.now c.index_mut.ensures.value (omega arith) in
    let spare = spare_seen c.self.inside.shelves.items c.args.self.now c.class_of-class.result c.index_mut.result.now c.self.view_is here in (
      λ e. cc (e),
      λ e. sym (c.in-Some.ensures.refused.1 (sym spare ∙ (ap (spare_of c.args.self.now) (sym same) ∙ e))),
    )

pub returns-clause-spare : goal.returns-clause-spare
returns-clause-spare g c =
    let here = read_here c.self.inside.shelves.items c.class_of-class.result c.index_mut.result.now c.index_mut.ensures.value (omega arith) in
    let put = is_put c.self.inside.shelves.items c.args.self.now c.class_of-class.result c.index_mut.result.now c.take.new.self c.self.view_is (omega arith) here in
    record { here = omega (arith, put.has_spare, put.had_spare, c.in-Some.ensures.spare); others = put.other_spare }

pub returns-clause-out : goal.returns-clause-out
returns-clause-out g c =
    let here = read_here c.self.inside.shelves.items c.class_of-class.result c.index_mut.result.now c.index_mut.ensures.value (omega arith) in
    let put = is_put c.self.inside.shelves.items c.args.self.now c.class_of-class.result c.index_mut.result.now c.take.new.self c.self.view_is (omega arith) here in
    record { here = omega (arith, put.has_out, put.had_out, c.in-Some.ensures.out); others = put.other_out }
