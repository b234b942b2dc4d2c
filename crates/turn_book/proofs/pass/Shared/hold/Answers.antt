use Rattle.std.proofs.Common.{ap, ◌∙◌}
use Rattle.turn_book.proofs.Cuts.{catches_holding, seen_all}
use Rattle.turn_book.proofs.pass.Shared.hold.Goals as goal

pub returns-clause-whole : goal.returns-clause-whole
returns-clause-whole g c = λ first past.
    let took = c.take-book.ensures.holding in
    let seen = seen_all g.B.Booked.opening g.B.Booked.journal g.B.Booked.number_of c.args.pass.seat.me.0 _ (catches_holding g.B.Booked.opening g.B.Booked.journal g.B.Booked.number_of _ _ _ took c.look.ensures.catches) first past in
    ap (λ m. m.0.seen) c.look.ensures.same.2 ∙ (ap (λ v. v.took) took ∙ seen)
