use Rattle.std.proofs.Common.{sym, subst}
use Rattle.knit_base.specs.Names.{AreNames}
use Rattle.knit_base.proofs.Naming.{names-push, texts-insert}
use Rattle.knit_base.proofs.declared.Declared.append.Goals as goal

pub invariant_of-self-2 : goal.invariant_of-self-2
invariant_of-self-2 c =
    let after = texts-insert _ _ _ _ _ c.self.view_is c.in_ok-name.ensures.ok c.in_ok-insert.ensures.keys c.requires.new in
    let names : AreNames c.args.self.now = subst AreNames c.self.view_is c.self.invariant in
    subst AreNames (sym after) (names-push _ _ names c.requires.name c.requires.few c.requires.room c.requires.new)

pub returns-clause-ok : goal.returns-clause-ok
returns-clause-ok c = texts-insert _ _ _ _ _ c.self.view_is c.in_ok-name.ensures.ok c.in_ok-insert.ensures.keys c.requires.new
