use Rattle.std.proofs.Common.{◌≡◌, ◌-◌, length, Some, sym, ◌∙◌, ap}
use Rattle.std.specs.List.{slice_get}
use Rattle.std.specs.Option.{option_copied}
use Rattle.tree_shape.proofs.NumberCounts.{last_is}
use Rattle.tree_shape.proofs.numbers.Numbers.next.Goals as goal

pub returns-in-Some : goal.returns-in-Some
returns-in-Some c =
    let here : slice_get c.args.self.now.free.items (length c.args.self.now.free.items - 1) ≡ Some c.in-Some.number.now =
    ap (λ v. slice_get v (length v - 1)) (sym c.as_slice.ensures.value) ∙ (sym c.last.ensures.value ∙ ap option_copied c.in-Some.is) in
    sym (last_is c.args.self.now.drawn c.in-Some.number.now c.args.self.now.free.items here)
