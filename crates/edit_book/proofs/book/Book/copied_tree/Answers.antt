use Rattle.edit_book.proofs.Blocks.{lawful_of}
use Rattle.edit_book.proofs.Copies.{copied_sound, copied_work}
use Rattle.edit_book.proofs.book.Book.copied_tree.Goals as goal

pub start-requires : goal.start-requires
start-requires g c = copied_sound c.args.self.now (lawful_of _ _ _ _ c.args.self.now c.self.invariant c.self.view_is) _ c.in_ok-leaves.ensures

pub returns-clause-steps : goal.returns-clause-steps
returns-clause-steps g c =
    copied_work c.args.self.now (lawful_of _ _ _ _ c.args.self.now c.self.invariant c.self.view_is) _ c.in_ok-leaves.ensures _ _ c.start.ensures.steps

pub returns-in_err-tree-clause-steps : goal.returns-in_err-tree-clause-steps
returns-in_err-tree-clause-steps g c =
    copied_work c.args.self.now (lawful_of _ _ _ _ c.args.self.now c.self.invariant c.self.view_is) _ c.in_ok-leaves.ensures _ _ c.start.ensures.steps

pub returns-in_err-tree-2-clause-steps : goal.returns-in_err-tree-2-clause-steps
returns-in_err-tree-2-clause-steps g c =
    copied_work c.args.self.now (lawful_of _ _ _ _ c.args.self.now c.self.invariant c.self.view_is) _ c.in_ok-leaves.ensures _ _ c.start.ensures.steps
