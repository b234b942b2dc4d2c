use Rattle.std.proofs.Common.{rules, suc, ◌≡◌, ◌≤◌, ◌<◌, ◌+◌, length, get_or, refl, sym, ap, ◌∙◌, subst, arith, List, ◌∷◌, ◌++◌, take, drop}
use Rattle.std.specs.List.{insert}
use Rattle.std.proofs.lemmas.Bool.{eqb-true, eqb-false}
use Rattle.std.proofs.lemmas.List.{get_or_default}
use Rattle.face_data.specs.declared.face.Last.{Last}
use Rattle.face_data.specs.Lasts.{AreInOrder, put_last}
use Rattle.face_data.proofs.LastLists.{order_put, put_from, put_from-before, put_from-end, put_from-step, set-same}
use Rattle.face_data.proofs.lasts.Lasts.put_anywhere.Goals as goal
use Rattle.face_data.proofs.lasts.Lasts.put_anywhere.Goals.{then-loop-i-test+else-index-last, else-loop-i-test, else-i-len-via-then-i-len+else-eq, else-i-len-via-else-i-len}

pub loop-i-init : goal.loop-i-init
loop-i-init c = record { within = omega arith; same = refl }

pub loop-i-preserved : goal.loop-i-preserved
loop-i-preserved c =
    let held : List Last = c.self.inside.held.items in
    let within : c.loop-i.i < length held = omega (arith, c.loop-i-test.true, c.len.ensures) in
    let less : (get_or held c.loop-i.i c.index.result.now).carrier.0 < c.args.last.carrier.0 =
    subst (λ (x : Last). x.carrier.0 < c.args.last.carrier.0) c.index.ensures c.if-index-last.true in
    let next : c.loop-i.i + 1 ≡ suc c.loop-i.i = omega arith in
    record {
      within = omega (arith, within);
      same = ap (λ i. put_from i held c.args.last) next ∙ put_from-step c.loop-i.i held c.args.last c.index.result.now within less ∙ c.loop-i.invariant.same;
    }

pub invariant_of-self : goal.invariant_of-self
invariant_of-self c =
    let held : List Last = c.self.inside.held.items in
    let within : c.loop-i.i < length held = omega (arith, c.if-i-len.true, c.len-2.ensures) in
    let is : c.index_mut.result.now ≡ c.index-then-i-len.result.now = c.index_mut.ensures.value ∙ get_or_default held c.loop-i.i c.index_mut.result.now c.index-then-i-len.result.now within ∙ sym c.index-then-i-len.ensures in
    let same = ap (λ (x : Last). x.carrier.0) is ∙ eqb-true c.index-then-i-len.result.now.carrier.0 c.args.last.carrier.0 (sym c.eq.ensures ∙ c.if-eq.true) in
    subst AreInOrder (sym (set-same held c.loop-i.i c.args.last c.index_mut.result.now c.index_mut.result.now c.self.invariant within c.index_mut.ensures.value same)) (order_put held c.args.last c.self.invariant)

pub returns-then-eq-clause-ok : goal.returns-then-eq-clause-ok
returns-then-eq-clause-ok c =
    let held : List Last = c.self.inside.held.items in
    let within : c.loop-i.i < length held = omega (arith, c.if-i-len.true, c.len-2.ensures) in
    let is : c.index_mut.result.now ≡ c.index-then-i-len.result.now = c.index_mut.ensures.value ∙ get_or_default held c.loop-i.i c.index_mut.result.now c.index-then-i-len.result.now within ∙ sym c.index-then-i-len.ensures in
    let same = ap (λ (x : Last). x.carrier.0) is ∙ eqb-true c.index-then-i-len.result.now.carrier.0 c.args.last.carrier.0 (sym c.eq.ensures ∙ c.if-eq.true) in
    set-same held c.loop-i.i c.args.last c.index_mut.result.now c.index_mut.result.now c.self.invariant within c.index_mut.ensures.value same
    ∙ ap (λ xs. put_last xs c.args.last) (search rules)

inserted : (c : goal.In_ok-insert) → c.insert.new.self.items ≡ put_last c.self.inside.held.items c.args.last
inserted c =
    let held : List Last = c.self.inside.held.items in
    let last : Last = c.args.last in
    let items : c.insert.new.self.items ≡ insert held c.loop-i.i last = search rules in
    let spot : put_from c.loop-i.i held last ≡ take c.loop-i.i held ++ last ∷ drop c.loop-i.i held =
    elim c.else-i-len.branch [
      | else-i-len-via-else-i-len w ↦ put_from-end c.loop-i.i held last (omega (arith, w.if-i-len.false, c.len-2.ensures, c.loop-i.invariant.within))
      | else-i-len-via-then-i-len+else-eq w ↦ elim c.loop-i-test.branch [
        | else-loop-i-test v ↦ absurd (omega (arith, w.if-i-len.true, c.len-2.ensures, c.len.ensures, v.loop-i-test.false))
        | then-loop-i-test+else-index-last v ↦
            let within : c.loop-i.i < length held = omega (arith, w.if-i-len.true, c.len-2.ensures) in
            let one : v.index.result.now ≡ w.index-then-i-len.result.now = v.index.ensures ∙ get_or_default held c.loop-i.i v.index.result.now w.index-then-i-len.result.now within ∙ sym w.index-then-i-len.ensures in
            let apart = eqb-false w.index-then-i-len.result.now.carrier.0 last.carrier.0 (sym w.eq.ensures ∙ w.if-eq.false) in
            let less : last.carrier.0 < v.index.result.now.carrier.0 = omega (arith, v.if-index-last.false, apart, ap (λ (x : Last). x.carrier.0) one) in
            put_from-before c.loop-i.i held last v.index.result.now within (subst (λ (x : Last). last.carrier.0 < x.carrier.0) v.index.ensures less)
      ]
    ] in
    items ∙ sym spot ∙ c.loop-i.invariant.same

pub invariant_of-self-2 : goal.invariant_of-self-2
invariant_of-self-2 c = subst AreInOrder (sym (inserted c)) (order_put c.self.inside.held.items c.args.last c.self.invariant)

pub returns-clause-ok : goal.returns-clause-ok
returns-clause-ok c = inserted c ∙ ap (λ xs. put_last xs c.args.last) (search rules)
