use Rattle.std.proofs.Common.{rules, ◌∙◌, ap, sym, w32}
use Rattle.std.proofs.lemmas.Int.{to_z-of_z}
use Rattle.std.specs.Ordering.{int_eq}
use Rattle.knit_base.specs.declared.rule.Rule.TheVariants.{NotAligned}
use Rattle.knit_base.specs.Needle.{rack_facing}
use Rattle.face_data.specs.Conditions.{broken_unless}
use Rattle.face_data.proofs.Conditions.{broken-unless}
use Rattle.rack_align.proofs.facing.Goals as goal

pub returns-clause-broken : goal.returns-clause-broken
returns-clause-broken c s =
    broken-unless (int_eq s.rack (rack_facing c.args.n c.args.n2)) NotAligned c.args.at
    ∙ ap (λ q. broken_unless (int_eq s.rack q) (record { rule = NotAligned; at = c.args.at })) (sym (to_z-of_z w32 c.rack_facing.result (search rules) ∙ c.rack_facing.ensures))
