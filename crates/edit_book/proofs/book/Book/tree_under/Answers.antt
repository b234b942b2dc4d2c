use Rattle.std.proofs.Common.{ap, ◌∙◌}
use Rattle.edit_book.specs.Books.{BookView, document}
use Rattle.edit_book.specs.Verdicts.{setting_of}
use Rattle.edit_book.specs.Work.{with_names}
use Rattle.edit_book.proofs.Blocks.{lawful_of}
use Rattle.edit_book.proofs.HeaderTrees.{all_fit, all_sound, read_work, tree_work}
use Rattle.edit_book.proofs.book.Book.tree_under.Goals as goal

pub leaves_under-requires-clause-taken : goal.leaves_under-requires-clause-taken
leaves_under-requires-clause-taken g c =
    all_fit c.args.self.now (lawful_of _ _ _ _ c.args.self.now c.self.invariant c.self.view_is) c.args.declared.now c.args.again c.in_ok-setting.setting (c.in_ok-setting.ensures ∙ ap (λ (w : BookView). with_names c.args.declared.now (setting_of w.opening (document w))) c.self.view_is) _ c.in_ok-taken.ensures c.requires

pub returns-in_err-leaves-clause-steps : goal.returns-in_err-leaves-clause-steps
returns-in_err-leaves-clause-steps g c =
    read_work c.args.self.now (lawful_of _ _ _ _ c.args.self.now c.self.invariant c.self.view_is) c.args.declared.now c.args.again c.in_ok-setting.setting (c.in_ok-setting.ensures ∙ ap (λ (w : BookView). with_names c.args.declared.now (setting_of w.opening (document w))) c.self.view_is) _ c.in_ok-taken.ensures _ _ c.leaves_under.ensures.steps

pub start-requires : goal.start-requires
start-requires g c =
    all_sound c.args.self.now (lawful_of _ _ _ _ c.args.self.now c.self.invariant c.self.view_is) c.args.declared.now c.args.again c.in_ok-setting.setting (c.in_ok-setting.ensures ∙ ap (λ (w : BookView). with_names c.args.declared.now (setting_of w.opening (document w))) c.self.view_is) _ c.in_ok-taken.ensures _ c.in_ok-leaves.ensures.leaves
    c.len-carriers.ensures.few

pub returns-clause-steps : goal.returns-clause-steps
returns-clause-steps g c =
    tree_work c.args.self.now (lawful_of _ _ _ _ c.args.self.now c.self.invariant c.self.view_is) c.args.declared.now c.args.again c.in_ok-setting.setting (c.in_ok-setting.ensures ∙ ap (λ (w : BookView). with_names c.args.declared.now (setting_of w.opening (document w))) c.self.view_is) _ c.in_ok-taken.ensures _ c.in_ok-leaves.ensures.leaves _ _ _
    c.leaves_under.ensures.steps c.start.ensures.steps
