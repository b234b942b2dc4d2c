-- How much work a request may take, in steps.
use Rattle.std.specs.Prelude.{ℕ, ◌+◌, ◌*◌, ◌==◌, Bool, ◌&&◌, List, [], ◌∷◌, ◌++◌, length, if◌then◌else◌}
use Rattle.std.specs.List.{list_any}
use Rattle.std.specs.Option.{option_map_or}
use Rattle.knit_base.specs.declared.needle.Needle.{Needle}
use Rattle.knit_base.specs.declared.setting.Setting.{Setting}
use Rattle.knit_base.specs.Needle.{same_needle}
use Rattle.knitout_reader.proofs.SomeReading.{each-reads}
use Rattle.face_data.specs.Items.{most_items}
use Rattle.block_summary.specs.NamedNeedles.{needles_named}
use Rattle.summary_tree.specs.Trees.{change_steps}
use Rattle.edit_journal.specs.declared.edit.Entry.{Entry}
use Rattle.edit_journal.specs.declared.opening.Opening.{Opening}
use Rattle.edit_journal.specs.Documents.{Block, Document, block_of, document_of, body}
use Rattle.edit_book.specs.declared.reply.Again.{Again}
use Rattle.edit_book.specs.declared.reply.BookCommand.{BookCommand}
use Rattle.edit_book.specs.declared.reply.BookCommand.TheVariants as command
use Rattle.edit_book.specs.Replies.{Request, Look, Put, Add, Cut, LoopAt, VerdictNow, LookHead, Texts, PutHead}
use Rattle.edit_book.specs.Verdicts.{setting_of}

-- each needle once
abbrev pub needles_once : List Needle → List Needle
needles_once [] = []
needles_once (n ∷ ns) = if list_any (same_needle n) ns then needles_once ns else n ∷ needles_once ns

-- The needles that the lines name, and the own sliders of those on which they form loops. Lines have one reading each; `Book::setting` says
-- that the needles are those of any readings.
abbrev pub needles_in : Setting → List (List ℕ) → List Needle
needles_in setting lines = needles_once (needles_named (each-reads setting.profile setting.declared lines).0)

-- how many items a summary of these lines has at most
abbrev pub most_of_lines : Setting → List (List ℕ) → ℕ
most_of_lines setting lines = most_items (length setting.declared) setting.profile.hold (length (needles_in setting lines))

-- for an edit: of so many blocks, where all lines before and after it are among these; so much as a change of the tree may take
abbrev pub edit_limit : Setting → ℕ → List (List ℕ) → ℕ
edit_limit setting blocks lines = change_steps blocks (most_of_lines setting lines)

-- for a book's opening: of so many blocks, with these lines
abbrev pub start_limit : Setting → ℕ → List (List ℕ) → ℕ
start_limit setting blocks lines = 3 * most_of_lines setting lines * blocks

-- for a copy of a book with this document: the faces are composed anew, as at its opening
abbrev pub copy_limit : Setting → Document → ℕ
copy_limit setting d = start_limit setting (length d.blocks) (body d)

-- a setting with other names
abbrev pub with_names : List (List ℕ) → Setting → Setting
with_names names setting = record { profile = setting.profile; declared = names; first = setting.first }

-- a summary is for the block and its stamp
abbrev pub is_for : Block → Again → Bool
is_for b a = (a.block == b.id) && (a.stamp == b.stamp)

-- one of these is
abbrev pub is_prepared_again : List Again → Block → Bool
is_prepared_again again b = list_any (is_for b) again

-- how many lines the blocks have whose summary isn't handed over
abbrev pub lines_anew : List Again → List Block → ℕ
lines_anew again [] = 0
lines_anew again (b ∷ bs) = (if is_prepared_again again b then 0 else length b.lines) + lines_anew again bs

-- for other names of the header, where these summaries are handed over: other lines are read once, and the tree is made anew
abbrev pub header_limit : Setting → Document → List Again → ℕ
header_limit setting d again = lines_anew again d.blocks + start_limit setting (length d.blocks) (body d)

-- for a request of a document; other names of the header are reckoned as if no summary were handed over
abbrev pub limit_at : Setting → Document → Request → ℕ
limit_at setting d (Look id) = option_map_or (λ b. length b.lines) (block_of d.blocks id) 0
limit_at setting d (Put id seen head text) = edit_limit setting (length d.blocks) (body d ++ text)
limit_at setting d (Add anchor head text) = edit_limit setting (length d.blocks + 1) (body d ++ text)
limit_at setting d (Cut id seen) = edit_limit setting (length d.blocks) (body d)
limit_at setting d (LoopAt line) = 14
limit_at setting d VerdictNow = 1
limit_at setting d LookHead = 0
limit_at setting d Texts = 0
limit_at setting d (PutHead seen names) = header_limit (with_names names setting) d []

abbrev pub work_limit : Opening → List Entry → Request → ℕ
work_limit opening entries request = let d = document_of opening entries in limit_at (setting_of opening d) d request

-- for a command, with what it hands over
abbrev pub command_limit : Opening → List Entry → BookCommand → ℕ
command_limit opening entries (command.Look block) = work_limit opening entries (Look block)
command_limit opening entries (command.Put block seen head prepared) = work_limit opening entries (Put block seen head prepared.text)
command_limit opening entries (command.Add anchor head prepared) = work_limit opening entries (Add anchor head prepared.text)
command_limit opening entries (command.Cut block seen) = work_limit opening entries (Cut block seen)
command_limit opening entries (command.LoopAt line) = work_limit opening entries (LoopAt line)
command_limit opening entries command.Verdict = work_limit opening entries VerdictNow
command_limit opening entries command.LookHead = 0
command_limit opening entries command.Texts = 0
command_limit opening entries (command.PutHead seen names again) = let d = document_of opening entries in header_limit (with_names names (setting_of opening d)) d again
