use Rattle.std.proofs.Common.{ℕ, List, length, flat_map, subst, ap, sym, ◌∙◌}
use Rattle.edit_journal.specs.declared.edit.Entry.{Entry}
use Rattle.edit_book.specs.Books.{OutlineStands}
use Rattle.edit_book.proofs.Openings.{opened_header, opened_stands}
use Rattle.tree_shape.specs.Changes.{numbers_below}
use Rattle.std.specs.Prelude.{replicate}
use Rattle.edit_book.specs.declared.block_state.BlockState.TheVariants.{There}
use Rattle.edit_book.proofs.outline.Outline.start.Goals as goal

pub invariant_of-result : goal.invariant_of-result
invariant_of-result c = (
  subst (λ (l : List Entry). OutlineStands (record { setting = c.args.setting; texts = c.args.texts }) l c.in_ok-states.states.items c.in_ok-order.order.ids c.lines_of-lines.result) (sym c.new-3.ensures)
      (opened_stands c.args.setting c.args.texts c.in_ok-states.states.items c.in_ok-order.order.ids c.lines_of-lines.result
      (record { profile = c.requires.profile; carriers = c.len-carriers.ensures.few; first = c.requires.first }) c.requires.short c.requires.few c.requires.lines
      (c.in_ok-states.ensures ∙ ap (λ (n : ℕ). replicate n (There 0)) c.len-count.ensures) (c.in_ok-order.ensures ∙ ap numbers_below c.len-count.ensures)
      (c.lines_of-lines.ensures ∙ ap (λ (l : List (List (List ℕ))). length (flat_map (λ (text : List (List ℕ)). text) l)) c.as_slice.ensures.items)),
  opened_header _ _ _ _ c.new-3.ensures c.in_ok-header.ensures.ok c.in_ok-try_clone.ensures c.new.ensures.items,
)
