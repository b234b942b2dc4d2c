use Rattle.std.proofs.Common.{◌≡◌, arith, refl, sym, ◌∙◌, subst, length, ◌≤◌, ◌<◌, vec_len}
use Rattle.std.specs.Prelude.{OnOk}
use Rattle.std.proofs.lemmas.Bool.Decides.{nat_tests}
use Rattle.span_pool.proofs.Shelves.{read_here, spare_past, out_past, bare_spare, bare_out, is_put, same_out}
use Rattle.span_pool.proofs.pool.Pool.add_spare.Goals as goal

pub returns-then-is_empty-clause-ok : goal.returns-then-is_empty-clause-ok
returns-then-is_empty-clause-ok g c =
    let inside : c.args.class < length c.in_ok-shelves.shelves.items = omega (arith, c.in_ok-shelves.ensures.classes) in
    let here = read_here c.in_ok-shelves.shelves.items c.args.class c.index_mut.result.now c.index_mut.ensures.value inside in
    let put = is_put c.in_ok-shelves.shelves.items c.in_ok-shelves.shelves.items c.args.class c.index_mut.result.now c.reserve.new.self refl inside here in
    omega (arith, put.has_spare, c.in_ok-reserve.ensures.ok)

pub returns-then-is_empty-clause-never_lower : goal.returns-then-is_empty-clause-never_lower
returns-then-is_empty-clause-never_lower g c =
    let none : vec_len c.self.inside.shelves ≡ 0 = grind (arith, nat_tests, c.if-is_empty.ensures) in
    omega (arith, spare_past c.self.inside.shelves.items c.args.self.now c.args.class c.self.view_is (omega (arith, none)))

pub returns-then-is_empty-clause-other_classes : goal.returns-then-is_empty-clause-other_classes
returns-then-is_empty-clause-other_classes g c = λ other differ.
    let none : vec_len c.self.inside.shelves ≡ 0 = grind (arith, nat_tests, c.if-is_empty.ensures) in
    let inside : c.args.class < length c.in_ok-shelves.shelves.items = omega (arith, c.in_ok-shelves.ensures.classes) in
    let here = read_here c.in_ok-shelves.shelves.items c.args.class c.index_mut.result.now c.index_mut.ensures.value inside in
    let put = is_put c.in_ok-shelves.shelves.items c.in_ok-shelves.shelves.items c.args.class c.index_mut.result.now c.reserve.new.self refl inside here in
    put.other_spare other differ
    ∙ bare_spare c.in_ok-shelves.shelves.items other c.in_ok-shelves.ensures.bare
    ∙ sym (spare_past c.self.inside.shelves.items c.args.self.now other c.self.view_is (omega (arith, none)))

pub returns-then-is_empty-clause-out : goal.returns-then-is_empty-clause-out
returns-then-is_empty-clause-out g c = λ class.
    let none : vec_len c.self.inside.shelves ≡ 0 = grind (arith, nat_tests, c.if-is_empty.ensures) in
    let inside : c.args.class < length c.in_ok-shelves.shelves.items = omega (arith, c.in_ok-shelves.ensures.classes) in
    let here = read_here c.in_ok-shelves.shelves.items c.args.class c.index_mut.result.now c.index_mut.ensures.value inside in
    let put = is_put c.in_ok-shelves.shelves.items c.in_ok-shelves.shelves.items c.args.class c.index_mut.result.now c.reserve.new.self refl inside here in
    same_out put c.reserve.ensures.out class
    ∙ bare_out c.in_ok-shelves.shelves.items class c.in_ok-shelves.ensures.bare
    ∙ sym (out_past c.self.inside.shelves.items c.args.self.now class c.self.view_is (omega (arith, none)))

pub returns-clause-ok : goal.returns-clause-ok
returns-clause-ok g c =
    let inside : c.args.class < vec_len c.self.inside.shelves = grind (arith, nat_tests, c.if-is_empty.ensures, c.self.invariant.classes) in
    let here = read_here c.self.inside.shelves.items c.args.class c.index_mut-2.result.now c.index_mut-2.ensures.value (omega (arith, inside)) in
    let put = is_put c.self.inside.shelves.items c.args.self.now c.args.class c.index_mut-2.result.now c.reserve-2.new.self c.self.view_is (omega (arith, inside)) here in
    subst (λ k. OnOk c.reserve-2.result (c.args.n ≤ k)) (sym put.has_spare) c.reserve-2.ensures.ok

pub returns-clause-never_lower : goal.returns-clause-never_lower
returns-clause-never_lower g c =
    let inside : c.args.class < vec_len c.self.inside.shelves = grind (arith, nat_tests, c.if-is_empty.ensures, c.self.invariant.classes) in
    let here = read_here c.self.inside.shelves.items c.args.class c.index_mut-2.result.now c.index_mut-2.ensures.value (omega (arith, inside)) in
    let put = is_put c.self.inside.shelves.items c.args.self.now c.args.class c.index_mut-2.result.now c.reserve-2.new.self c.self.view_is (omega (arith, inside)) here in
    omega (arith, put.has_spare, put.had_spare, c.reserve-2.ensures.kept)

pub returns-clause-other_classes : goal.returns-clause-other_classes
returns-clause-other_classes g c =
    let inside : c.args.class < vec_len c.self.inside.shelves = grind (arith, nat_tests, c.if-is_empty.ensures, c.self.invariant.classes) in
    let here = read_here c.self.inside.shelves.items c.args.class c.index_mut-2.result.now c.index_mut-2.ensures.value (omega (arith, inside)) in
    let put = is_put c.self.inside.shelves.items c.args.self.now c.args.class c.index_mut-2.result.now c.reserve-2.new.self c.self.view_is (omega (arith, inside)) here in
    put.other_spare

pub returns-clause-out : goal.returns-clause-out
returns-clause-out g c =
    let inside : c.args.class < vec_len c.self.inside.shelves = grind (arith, nat_tests, c.if-is_empty.ensures, c.self.invariant.classes) in
    let here = read_here c.self.inside.shelves.items c.args.class c.index_mut-2.result.now c.index_mut-2.ensures.value (omega (arith, inside)) in
    let put = is_put c.self.inside.shelves.items c.args.self.now c.args.class c.index_mut-2.result.now c.reserve-2.new.self c.self.view_is (omega (arith, inside)) here in
    same_out put c.reserve-2.ensures.out
