use Rattle.std.proofs.Common.{subst, sym, ◌∙◌}
use Rattle.knit_maker.specs.Plain.{IsPlain}
use Rattle.knit_maker.proofs.PlainLines.{transfer-plain}
use Rattle.knit_maker.proofs.stitch.push_transfer.Goals as goal

pub push_text-requires-clause-plain : goal.push_text-requires-clause-plain
push_text-requires-clause-plain c = subst (IsPlain 14) (sym (c.deref.ensures.value ∙ c.in_ok-text.ensures)) (transfer-plain c.args.at c.requires.hook)
