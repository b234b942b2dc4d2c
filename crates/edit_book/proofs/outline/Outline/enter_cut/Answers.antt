use Rattle.std.proofs.Common.{◌++◌, ◌∷◌, [], List, ap, sym, ◌∙◌, refl, arith}
use Rattle.edit_journal.specs.declared.edit.Edit.TheVariants as edit
use Rattle.edit_journal.specs.declared.edit.Entry.{Entry}
use Rattle.edit_book.proofs.Entering.{cut_entered, cut_placed, cut_within}
use Rattle.edit_book.proofs.KeptHeaders.{keeps_header}
use Rattle.edit_book.proofs.outline.Outline.enter_cut.Goals as goal

pub unreachable-requires : goal.unreachable-requires
unreachable-requires c = cut_placed _ _ _ _ _ c.args.self.now _ c.self.invariant.0 c.self.view_is c.args.id c.args.seen c.requires (sym c.position.ensures ∙ c.in_default.is)

pub index_mut-requires : goal.index_mut-requires
index_mut-requires c = let within = cut_within _ _ _ _ _ c.args.self.now _ c.self.invariant.0 c.self.view_is c.args.id c.args.seen c.requires in omega (arith, within, c.self.inside.states.ok)

pub invariant_of-self-2 : goal.invariant_of-self-2
invariant_of-self-2 c =
    let longer = c.push.ensures ∙ ap (λ (l : List Entry). l ++ record { session = c.args.session; edit = edit.Cut c.args.id c.args.seen } ∷ []) c.reserve_one.ensures.entries in (
      cut_entered _ _ _ _ _ c.args.self.now _ c.self.invariant.0 c.self.view_is c.args.session c.args.id c.args.seen c.in-Some.at c.version-version.result c.lines_after_cut-lines.result _ _ c.requires (sym c.position.ensures ∙ c.in-Some.is)
          c.version-version.ensures.version c.lines_after_cut-lines.ensures.lines longer c.remove.ensures,
      keeps_header _ _ _ refl _ _ _ longer c.self.invariant.1,
    )

pub returns-clause-lawful : goal.returns-clause-lawful
returns-clause-lawful c =
    let longer = c.push.ensures ∙ ap (λ (l : List Entry). l ++ record { session = c.args.session; edit = edit.Cut c.args.id c.args.seen } ∷ []) c.reserve_one.ensures.entries in
    (cut_entered _ _ _ _ _ c.args.self.now _ c.self.invariant.0 c.self.view_is c.args.session c.args.id c.args.seen c.in-Some.at c.version-version.result c.lines_after_cut-lines.result _ _ c.requires (sym c.position.ensures ∙ c.in-Some.is)
    c.version-version.ensures.version c.lines_after_cut-lines.ensures.lines longer c.remove.ensures).lawful
