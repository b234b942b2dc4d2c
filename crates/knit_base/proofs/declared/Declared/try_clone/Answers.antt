use Rattle.std.proofs.Common.{sym, subst, ◌∙◌}
use Rattle.knit_base.specs.Names.{AreNames}
use Rattle.knit_base.proofs.Naming.{texts-clone}
use Rattle.knit_base.proofs.declared.Declared.try_clone.Goals as goal

pub invariant_of-result : goal.invariant_of-result
invariant_of-result c = subst AreNames (sym (texts-clone _ _ c.in_ok-names.ensures.cases)) c.self.invariant

pub returns : goal.returns
returns c = texts-clone _ _ c.in_ok-names.ensures.cases ∙ c.self.view_is
