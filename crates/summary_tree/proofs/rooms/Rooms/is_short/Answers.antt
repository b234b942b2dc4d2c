use Rattle.std.proofs.Common.{◌≤◌, ◌^◌, take, sym, ◌∙◌, ap, subst, arith}
use Rattle.std.specs.List.{All}
use Rattle.std.proofs.lemmas.Bool.Decides.{nat_tests}
use Rattle.summary_tree.specs.Faces.{length_in}
use Rattle.summary_tree.proofs.RoomBounds.{each_short, greatest_short}
use Rattle.summary_tree.proofs.rooms.Rooms.is_short.Goals as goal

pub returns : goal.returns
returns c =
    let rooms = take c.self.inside.len c.self.inside.rooms in
    let long = length_in c.args.list in
    let most = c.length_in.ensures ∙ ap long c.self.invariant.greatest in (
      λ e.
          let low : c.length_in.result ≤ 2 ^ 62 = grind (arith, nat_tests) in
          subst (All (λ r. long r ≤ 2 ^ 62)) c.self.view_is (each_short c.args.list rooms (2 ^ 62) (omega (arith, low, most))),
      λ all.
          let low : c.length_in.result ≤ 2 ^ 62 = omega (arith, most, greatest_short c.args.list rooms (2 ^ 62) (subst (All (λ r. long r ≤ 2 ^ 62)) (sym c.self.view_is) all)) in
          grind (arith, nat_tests),
    )
