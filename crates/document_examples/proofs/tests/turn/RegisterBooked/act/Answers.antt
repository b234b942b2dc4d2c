use Rattle.std.proofs.Common.{Some, None, inl, inr, ⊎_elim, refl, sym, append-nil, ◌∙◌}
use Rattle.document_examples.proofs.tests.turn.RegisterBooked.act.Goals as goal

pub returns-in-Append-clause-turn : goal.returns-in-Append-clause-turn
returns-in-Append-clause-turn g c = let values = c.args.self.now.values.items in ⊎_elim
    (λ t. (Some (record { session = c.args.number; value = c.in-Append.value }), t.1, refl, inr (c.in-Append.value, c.in-Append.is, inl (t.0, refl))))
    (λ t. (None, t.1 ∙ sym (append-nil values), tt, inr (c.in-Append.value, c.in-Append.is, inr (t.0, refl)))) c.append.ensures.appended
