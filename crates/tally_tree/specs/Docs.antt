-- What contracts see of a document of tallies, and what a range of its blocks comes to.
use Rattle.std.specs.Prelude.{ℕ, ◌+◌, ◌*◌, ◌≤◌, List, length, slice_range}
use Rattle.edit_journal.specs.declared.edit.Entry.{Entry}
use Rattle.edit_journal.specs.declared.opening.Opening.{Opening}
use Rattle.edit_journal.specs.Documents.{Document, document_of, lines_in}
use Rattle.edit_book.specs.Outlines.{OutlineView}
use Rattle.edit_book.specs.Verdicts.{setting_of}
use Rattle.knit_base.specs.declared.setting.Setting.{Setting}
use Rattle.tree_shape.specs.Fewest.{highest}
use Rattle.tally_tree.specs.Tallies.{TallyCounts, IsLineTally, cost}

-- what the document began with, and the entries since
pub record DocView : Type 0 where
  pub opening : Opening
  pub entries : List Entry

-- the same of its outline
abbrev pub doc_view : OutlineView → DocView
doc_view outline = record { opening = outline.opening; entries = outline.entries }

-- the document at its version
abbrev pub document : DocView → Document
document doc = document_of doc.opening doc.entries

-- what its lines are read by: the opening's setting, with the names that the header now has
abbrev pub setting_now : DocView → Setting
setting_now doc = setting_of doc.opening (document doc)

-- it has blocks from one place to another, which isn't counted
pub record HasBlocks (doc : DocView) (from to : ℕ) : Type 0 where
  pub ordered : from ≤ to
  pub there : to ≤ length (document doc).blocks

-- what the lines of its blocks from one place to another come to, the other not counted
abbrev pub IsRange : DocView → ℕ → ℕ → TallyCounts → Type 0
IsRange doc from to v = IsLineTally (setting_now doc).profile (setting_now doc).declared (lines_in (slice_range (document doc).blocks from to)) v

-- a bound on the steps of a range with this tally: four times what the tally's numbers and needles cost for each level of the tree, and for two more
abbrev pub range_limit : DocView → TallyCounts → ℕ
range_limit doc v = 4 * (highest (length (document doc).blocks) + 2) * cost v
