use Rattle.std.proofs.Common.{rules, ◌≡◌, ◌<◌, length, get_or, sym, ap, ◌∙◌, subst, arith, List}
use Rattle.std.proofs.lemmas.Bool.{eqb-true}
use Rattle.std.proofs.lemmas.List.{get_or_default}
use Rattle.face_data.specs.declared.face.Last.{Last}
use Rattle.face_data.specs.Lasts.{AreInOrder, put_last}
use Rattle.face_data.proofs.LastLists.{order_put, set-same}
use Rattle.face_data.proofs.lasts.Lasts.put.Goals as goal

pub invariant_of-self : goal.invariant_of-self
invariant_of-self c =
    let held : List Last = c.self.inside.held.items in
    let within : c.self.inside.spot < length held = omega (arith, c.if-self-len.true, c.len.ensures) in
    let is : c.index_mut.result.now ≡ c.index.result.now = c.index_mut.ensures.value ∙ get_or_default held c.self.inside.spot c.index_mut.result.now c.index.result.now within ∙ sym c.index.ensures in
    let same = ap (λ (x : Last). x.carrier.0) is ∙ eqb-true c.index.result.now.carrier.0 c.args.last.carrier.0 (sym c.eq.ensures ∙ c.if-eq.true) in
    subst AreInOrder (sym (set-same held c.self.inside.spot c.args.last c.index_mut.result.now c.index_mut.result.now c.self.invariant within c.index_mut.ensures.value same)) (order_put held c.args.last c.self.invariant)

pub returns-then-eq-clause-ok : goal.returns-then-eq-clause-ok
returns-then-eq-clause-ok c =
    let held : List Last = c.self.inside.held.items in
    let within : c.self.inside.spot < length held = omega (arith, c.if-self-len.true, c.len.ensures) in
    let is : c.index_mut.result.now ≡ c.index.result.now = c.index_mut.ensures.value ∙ get_or_default held c.self.inside.spot c.index_mut.result.now c.index.result.now within ∙ sym c.index.ensures in
    let same = ap (λ (x : Last). x.carrier.0) is ∙ eqb-true c.index.result.now.carrier.0 c.args.last.carrier.0 (sym c.eq.ensures ∙ c.if-eq.true) in
    set-same held c.self.inside.spot c.args.last c.index_mut.result.now c.index_mut.result.now c.self.invariant within c.index_mut.ensures.value same
    ∙ ap (λ xs. put_last xs c.args.last) (search rules)
