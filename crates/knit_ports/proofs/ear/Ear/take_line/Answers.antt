use Rattle.std.proofs.Common.{◌≡◌, ◌∙◌, ◌++◌, ◌-◌, ℕ, List, take, drop, ap, sym}
use Rattle.knit_ports.specs.Ears.{EarView, kept_front}
use Rattle.knit_ports.proofs.HeardLines.{pending-parts}
use Rattle.knit_ports.proofs.ear.Ear.take_line.Goals as goal

pub returns-in-Some-clause-found : goal.returns-in-Some-clause-found
returns-in-Some-clause-found c = λ yes.
    let bytes : List ℕ = c.self.inside.piece.items in
    let rest : List ℕ = take (c.self.inside.end - c.self.inside.at) (drop c.self.inside.at c.deref.result.now) in
    let line : c.self.inside.line.items ≡ c.args.self.now.line = ap (λ (v : EarView). v.line) c.self.view_is in (
      take c.in-Some.n rest,
      c.in-Some.ensures.one,
      pending-parts bytes rest c.args.self.now.pending c.self.inside.at c.self.inside.end c.in-Some.n
          (sym (ap (λ (v : EarView). v.pending) c.self.view_is))
          (ap (λ (l : List ℕ). take (c.self.inside.end - c.self.inside.at) (drop c.self.inside.at l)) c.deref.ensures.value) c.in-Some.ensures.within c.in-Some.ensures.parted,
      c.keep.ensures.kept ∙ ap (λ (l : List ℕ). kept_front (l ++ take c.in-Some.n rest)) line,
    )
