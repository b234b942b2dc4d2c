use Rattle.std.proofs.Common.{subst, sym, ◌∙◌}
use Rattle.knit_maker.specs.Plain.{IsPlain}
use Rattle.knit_maker.proofs.PlainLines.{stitch-plain}
use Rattle.knit_maker.proofs.stitch.push_stitch.Goals as goal

pub push_text-requires-clause-plain : goal.push_text-requires-clause-plain
push_text-requires-clause-plain c =
    subst (IsPlain 14) (sym (c.deref.ensures.value ∙ c.in_ok-text.ensures)) (stitch-plain c.args.stitch c.args.dir c.args.bed c.args.at c.requires.hook)
