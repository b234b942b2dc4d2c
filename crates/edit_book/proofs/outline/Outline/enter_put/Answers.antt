use Rattle.std.proofs.Common.{◌++◌, ◌∷◌, [], List, ap, ◌∙◌, refl, arith}
use Rattle.edit_journal.specs.declared.edit.Edit.TheVariants as edit
use Rattle.edit_journal.specs.declared.edit.Entry.{Entry}
use Rattle.edit_book.proofs.Entering.{put_entered, put_within}
use Rattle.edit_book.proofs.KeptHeaders.{keeps_header}
use Rattle.edit_book.proofs.outline.Outline.enter_put.Goals as goal

pub index_mut-requires : goal.index_mut-requires
index_mut-requires c = let within = put_within _ _ _ _ _ c.args.self.now _ c.self.invariant.0 c.self.view_is c.args.id c.args.seen c.args.text c.requires.comes in omega (arith, within, c.self.inside.states.ok)

pub invariant_of-self-2 : goal.invariant_of-self-2
invariant_of-self-2 c =
    let longer = c.push.ensures ∙ ap (λ (l : List Entry). l ++ record { session = c.args.session; edit = edit.Put c.args.id c.args.seen c.args.text } ∷ []) c.reserve_one.ensures.entries in (
      put_entered _ _ _ _ _ c.args.self.now _ c.self.invariant.0 c.self.view_is c.args.session c.args.id c.args.seen c.version-version.result c.lines_after_put-lines.result c.args.text _ c.requires.comes c.requires.short
          c.version-version.ensures.version c.lines_after_put-lines.ensures longer,
      keeps_header _ _ _ refl _ _ _ longer c.self.invariant.1,
    )

pub returns-clause-lawful : goal.returns-clause-lawful
returns-clause-lawful c =
    let longer = c.push.ensures ∙ ap (λ (l : List Entry). l ++ record { session = c.args.session; edit = edit.Put c.args.id c.args.seen c.args.text } ∷ []) c.reserve_one.ensures.entries in
    (put_entered _ _ _ _ _ c.args.self.now _ c.self.invariant.0 c.self.view_is c.args.session c.args.id c.args.seen c.version-version.result c.lines_after_put-lines.result c.args.text _ c.requires.comes c.requires.short
    c.version-version.ensures.version c.lines_after_put-lines.ensures longer).lawful
