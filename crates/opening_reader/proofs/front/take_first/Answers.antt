use Rattle.std.proofs.Common.{◌∙◌, ap, sym, refl}
use Rattle.opening_reader.specs.Openings.{wanted_in}
use Rattle.opening_reader.proofs.TakenLines.{first-refused, hold-first}
use Rattle.opening_reader.proofs.front.take_first.Goals as goal

pub returns-in-Some : goal.returns-in-Some
returns-in-Some c = λ front lines text holds none counted.
    hold-first front c.args.counted _ lines text c.args.line.now c.in-Some.wanted holds none counted refl refl refl (ap wanted_in (sym c.as_bytes.ensures.value) ∙ sym c.wanted_in.ensures ∙ c.in-Some.is)

pub returns-in-None : goal.returns-in-None
returns-in-None c = λ front lines text holds none counted.
    first-refused front c.args.counted lines text c.args.line.now holds none counted (ap wanted_in (sym c.as_bytes.ensures.value) ∙ sym c.wanted_in.ensures ∙ c.in-None.is)
