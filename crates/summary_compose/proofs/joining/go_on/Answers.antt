-- Where nothing stops, few segments are laid.
use Rattle.std.proofs.Common.{◌∙◌, ap, rules}
use Rattle.face_data.specs.Composition.{Gathering}
use Rattle.summary_compose.proofs.joining.go_on.Goals as goal

pub merge-requires-clause-few : goal.merge-requires-clause-few
merge-requires-clause-few c = c.requires.composes.few_segs c.args.effect.now c.in-Through.more c.requires.through (search rules) (ap (λ (g : Gathering). g.stop) c.gather-stop.ensures.read ∙ c.in_default.is)
