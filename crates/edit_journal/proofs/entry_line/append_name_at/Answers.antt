use Rattle.std.proofs.Common.{◌∙◌, ap, sym}
use Rattle.std.specs.Option.{option_copied}
use Rattle.std.proofs.lemmas.Result.{on_ok_weaker}
use Rattle.knit_base.specs.Names.{name_behind_space}
use Rattle.knit_base.proofs.Rests.{written-none, written-one}
use Rattle.edit_journal.proofs.entry_line.append_name_at.Goals as goal

pub returns-in-Some : goal.returns-in-Some
returns-in-Some c =
    on_ok_weaker c.append_spaced.result (λ written. written-one name_behind_space c.args.declared.now c.args.c _ _ _ (sym c.name.ensures ∙ ap option_copied c.in-Some.is) written) c.append_spaced.ensures

pub returns-in-None : goal.returns-in-None
returns-in-None c = written-none name_behind_space c.args.declared.now c.args.c _ (sym c.name.ensures ∙ ap option_copied c.in-None.is)
