use Rattle.std.proofs.Common.{rules, ◌≡◌, [], List, sym, subst}
use Rattle.face_data.specs.Goodness.{IsInOrder}
use Rattle.face_data.specs.Segments.{Changed}
use Rattle.face_data.proofs.ChangeLists.{none_in_order}
use Rattle.face_data.proofs.symbols.Symbols.new.Goals as goal

pub invariant_of-result : goal.invariant_of-result
invariant_of-result c =
    let none : c.new.result.items ≡ [] = search rules in
    subst (λ (changes : List Changed). IsInOrder changes) (sym none) none_in_order
