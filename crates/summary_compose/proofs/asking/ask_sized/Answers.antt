-- One condition on sizes more is known.
use Rattle.std.proofs.Common.{refl}
use Rattle.face_data.specs.Segments.{names_through}
use Rattle.summary_compose.specs.Changes.{changes_in}
use Rattle.summary_compose.proofs.Steps.{knows_size}
use Rattle.summary_compose.proofs.asking.ask_sized.Goals as goal

pub returns-in-Asks-clause-knows : goal.returns-in-Asks-clause-knows
returns-in-Asks-clause-knows c = λ digest known e.
    knows_size digest c.args.index.now.notes c.ask_size.new.index.notes c.args.kept.now.checks c.ask_size.new.self.checks c.args.fault (names_through (changes_in c.args.a.now) c.args.needles.now) c.in-Asks.field-0
    (c.in-Asks.ensures.notes c.in-Asks.field-0 refl) (c.in-Asks.ensures.asks c.in-Asks.field-0 refl) known
