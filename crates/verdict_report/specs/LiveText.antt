-- The lines of a document that sessions edit: what each session was answered, the journal, and the verdict at its end.
use Rattle.std.specs.Prelude.{◌≡◌, ℕ, ◌+◌, Option, None, Some, List, [], ◌∷◌, ◌++◌, length, flat_map, codes, decimal, ◌==◌, if◌then◌else◌}
use Rattle.carriage_model.specs.declared.verdict.Brief.{Brief}
use Rattle.carriage_model.specs.declared.verdict.LoopFact.{LoopFact}
use Rattle.carriage_model.specs.declared.verdict.Verdict.{Verdict}
use Rattle.edit_journal.specs.declared.edit.BlockName.{BlockName}
use Rattle.edit_journal.specs.declared.edit.BlockName.TheVariants as name
use Rattle.edit_journal.specs.declared.edit.Entry.{Entry}
use Rattle.edit_journal.specs.declared.opening.Opening.{Opening}
use Rattle.edit_journal.specs.Documents.{body, document_of, names_at}
use Rattle.edit_journal.specs.Entries.{head_id}
use Rattle.edit_journal.specs.EntryLine.{entry_line}
use Rattle.knit_base.specs.Spelling.{labelled_number}
use Rattle.edit_book.specs.declared.reply.Reply.{Reply}
use Rattle.edit_book.specs.declared.reply.Reply.TheVariants as reply
use Rattle.edit_book.specs.declared.reply.Which.{Which}
use Rattle.edit_book.specs.declared.reply.Which.TheVariants as which
use Rattle.block_summary.specs.Verdicts.{broken_line}
use Rattle.edit_book.specs.Verdicts.{HasVerdict, setting_of}
use Rattle.verdict_report.specs.VerdictText.{Text, brief_text, end_text, loop_text}

-- a block as a session names it
abbrev pub block_name_text : BlockName → Text
block_name_text (name.Id id) = decimal id
block_name_text (name.Own n) = codes "@" ++ decimal n

-- the name of a count that has a limit
abbrev pub which_word : Which → Text
which_word which.Entries = codes "entries"
which_word which.Blocks = codes "blocks"
which_word which.Lines = codes "lines"

-- a line of a block, behind a bar
abbrev pub barred_line : Text → Text
barred_line line = codes "|" ++ (line ++ codes "\n")

-- a block by its id, or the header
unfoldable pub block_text : ℕ → Text
block_text block = if block == head_id then codes " block head" else labelled_number (codes " block ") block

-- a version and a block, behind a word
abbrev pub at_block : Text → ℕ → ℕ → Text
at_block word version block = labelled_number word version ++ block_text block

abbrev pub accepted_text : ℕ → ℕ → Brief → Text
accepted_text version block told = at_block (codes "accepted version ") version block ++ (codes " " ++ (brief_text told ++ codes "\n"))

abbrev pub shown_text : ℕ → ℕ → ℕ → ℕ → List Text → Text
shown_text version block stamp first lines =
    at_block (codes "shown version ") version block ++ (labelled_number (codes " stamp ") stamp ++ (labelled_number (codes " first ") first
    ++ (labelled_number (codes " lines ") (length lines) ++ (codes "\n" ++ flat_map barred_line lines))))

-- the loop that was asked for, or that there is none
abbrev pub fact_text : List Text → Option LoopFact → Text
fact_text names None = codes "none\n"
fact_text names (Some fact) = loop_text names fact

abbrev pub stale_text : ℕ → ℕ → ℕ → ℕ → Text
stale_text version block seen now = at_block (codes "stale version ") version block ++ (labelled_number (codes " seen ") seen ++ (labelled_number (codes " now ") now ++ codes "\n"))

abbrev pub full_text : ℕ → Which → ℕ → Text
full_text version what limit = labelled_number (codes "full version ") version ++ (codes " " ++ (which_word what ++ (labelled_number (codes " limit ") limit ++ codes "\n")))

-- a reply, with these names of carriers
abbrev pub reply_text : List Text → Reply → Text
reply_text names (reply.Accepted version block told) = accepted_text version block told
reply_text names (reply.Shown version block stamp first lines) = shown_text version block stamp first lines
reply_text names (reply.Loop version fact) = labelled_number (codes "loop version ") version ++ (codes " " ++ fact_text names fact)
reply_text names (reply.Now version verdict line) = labelled_number (codes "verdict version ") version ++ (codes "\n" ++ end_text names line verdict)
reply_text names (reply.Texts version blocks) = []
reply_text names (reply.Stale version block seen now) = stale_text version block seen now
reply_text names (reply.Gone version block at) = at_block (codes "gone version ") version block ++ (labelled_number (codes " at ") at ++ codes "\n")
reply_text names (reply.NoBlock version block ids) = at_block (codes "noblock version ") version block ++ (labelled_number (codes " ids ") ids ++ codes "\n")
reply_text names (reply.Full version what limit) = full_text version what limit
reply_text names (reply.Unseen block) = codes "unseen " ++ (block_name_text block ++ codes "\n")
reply_text names (reply.BlockLong lines) = labelled_number (codes "blocklong lines ") lines ++ codes "\n"
reply_text names reply.NoMemory = codes "nomemory\n"

-- the version whose names a reply is told with; for a reply that names no carrier it is any
abbrev pub version_named : Reply → ℕ
version_named (reply.Loop version fact) = version
version_named (reply.Now version verdict line) = version
version_named r = 0

-- a reply, with the names that the header has at its version
abbrev pub told_reply : (ℕ → List Text) → Reply → Text
told_reply names r = reply_text (names (version_named r)) r

-- a reply with its number
abbrev pub numbered_reply : (ℕ → List Text) → ℕ → Reply → Text
numbered_reply names n r = decimal n ++ (codes " " ++ told_reply names r)

-- the replies to a session, numbered from here on
abbrev pub replies_text : (ℕ → List Text) → ℕ → List Reply → Text
replies_text names n [] = []
replies_text names n (r ∷ rs) = numbered_reply names n r ++ replies_text names (n + 1) rs

-- a session's number, and its replies
abbrev pub session_text : (ℕ → List Text) → ℕ → List Reply → Text
session_text names s rs = labelled_number (codes "session ") s ++ (codes "\n" ++ replies_text names 1 rs)

-- the sessions, numbered from here on, each with its replies
abbrev pub sessions_text : (ℕ → List Text) → ℕ → List (List Reply) → Text
sessions_text names s [] = []
sessions_text names s (rs ∷ more) = session_text names s rs ++ sessions_text names (s + 1) more

-- an entry with its number
abbrev pub entry_text : ℕ → Entry → Text
entry_text n e = decimal n ++ (codes " " ++ (entry_line e ++ codes "\n"))

-- the entries of the journal, numbered from here on
abbrev pub entries_text : ℕ → List Entry → Text
entries_text n [] = []
entries_text n (e ∷ es) = entry_text n e ++ entries_text (n + 1) es

-- how many entries there are, and the entries
abbrev pub journal_text : List Entry → Text
journal_text entries = labelled_number (codes "journal ") (length entries) ++ (codes "\n" ++ entries_text 1 entries)

-- the version at the end and its verdict, of which the broken line is given
abbrev pub final_text : List Text → ℕ → Text → Verdict → Text
final_text names version line verdict = labelled_number (codes "final version ") version ++ (codes "\n" ++ end_text names line verdict)

-- the version at the end, and the verdict on its document, which is what one carriage makes of its lines
pub record IsFinalReport (opening : Opening) (entries : List Entry) (text : Text) : Type 0 where
  pub verdict_given : Verdict
  pub judged : let d = document_of opening entries in HasVerdict (setting_of opening d) (body d) verdict_given
  pub ended : text ≡ final_text (document_of opening entries).header.names (length entries) (let d = document_of opening entries in broken_line (setting_of opening d).first (body d) verdict_given) verdict_given

-- the end of a report: the journal, and the version at its end with its verdict
abbrev pub IsEnd : Opening → List Entry → Text → Type 0
IsEnd opening entries text = (final : Text) × (text ≡ journal_text entries ++ final) × IsFinalReport opening entries final

-- the whole report: these replies, this journal, and the verdict on the document that it gives
abbrev pub IsLiveReport : Opening → List Entry → List (List Reply) → Text → Type 0
IsLiveReport opening entries replies text = (end : Text) × (text ≡ sessions_text (names_at opening entries) 0 replies ++ end) × IsEnd opening entries end
