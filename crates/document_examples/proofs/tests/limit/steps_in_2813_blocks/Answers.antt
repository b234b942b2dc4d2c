use Rattle.std.proofs.Common.{◌+◌, ◌*◌, ℕ, ap, sym}
use Rattle.face_data.specs.Items.{most_items}
use Rattle.edit_book.proofs.Heights.{highest-2813}
use Rattle.document_examples.proofs.tests.limit.steps_in_2813_blocks.Goals as goal

pub returns : goal.returns
returns c = sym (ap (λ (h : ℕ). 16 * (h + 2) * (most_items 3 16 16 + 1)) highest-2813)
