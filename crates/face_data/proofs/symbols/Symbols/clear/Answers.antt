use Rattle.std.proofs.Common.{rules, ◌≡◌, [], List, sym, subst}
use Rattle.face_data.specs.Goodness.{IsInOrder}
use Rattle.face_data.specs.Segments.{Changed}
use Rattle.face_data.proofs.ChangeLists.{none_in_order}
use Rattle.face_data.proofs.symbols.Symbols.clear.Goals as goal

pub invariant_of-self : goal.invariant_of-self
invariant_of-self c =
    let none : c.clear.new.self.items ≡ [] = search rules in
    subst (λ (changes : List Changed). IsInOrder changes) (sym none) none_in_order
