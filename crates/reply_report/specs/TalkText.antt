-- What is said in a conversation, as text.
use Rattle.std.specs.Prelude.{◌≡◌, ℕ, ◌+◌, ◌-◌, nat_lt, nat_le, count_by, Option, None, Some, List, [], ◌++◌, length, drop, flat_map, codes, if◌then◌else◌}
use Rattle.knit_base.specs.Lines.{is_line_feed}
use Rattle.knit_base.specs.Spelling.{labelled_number}
use Rattle.carriage_model.specs.declared.verdict.Brief.{Brief}
use Rattle.carriage_model.specs.declared.verdict.Brief.TheVariants as brief
use Rattle.carriage_model.specs.declared.verdict.Verdict.{Verdict}
use Rattle.carriage_model.specs.declared.verdict.Verdict.TheVariants as verdict
use Rattle.block_summary.specs.Verdicts.{broken_line}
use Rattle.edit_journal.specs.declared.edit.Entry.{Entry}
use Rattle.edit_journal.specs.declared.opening.Opening.{Opening}
use Rattle.edit_journal.specs.Documents.{body, document_of, names_at, text_at}
use Rattle.edit_book.specs.declared.listed.BlockPlace.{BlockPlace}
use Rattle.edit_book.specs.declared.listed.LinePlace.{LinePlace}
use Rattle.edit_book.specs.declared.reply.Reply.{Reply}
use Rattle.edit_book.specs.declared.reply.Reply.TheVariants as reply
use Rattle.edit_book.specs.Listing.{line_place_of, block_places}
use Rattle.edit_book.specs.Verdicts.{HasVerdict, IsBriefOn, setting_of}
use Rattle.edit_groups.specs.declared.reply.GroupReply.{GroupReply}
use Rattle.edit_groups.specs.declared.reply.GroupReply.TheVariants as group
use Rattle.script_reader.specs.declared.fault.Cause.{Cause}
use Rattle.script_reader.specs.declared.fault.Cause.TheVariants as cause
use Rattle.verdict_report.specs.LiveText.{barred_line, entries_text, final_text, told_reply}
use Rattle.verdict_report.specs.VerdictText.{Text, brief_text}
use Rattle.reply_report.specs.declared.frame.Frame.{Frame}
use Rattle.reply_report.specs.GroupsText.{step_text}

-- ---- a reply, from its frame to the empty line behind it

-- the session, and the number of its command
abbrev pub frame_text : Frame → Text
frame_text f = labelled_number (codes "session ") f.session ++ (labelled_number (codes " ") f.number ++ codes " ")

-- the frame, the lines of the reply, and an empty line
abbrev pub framed_reply : Frame → Text → Text
framed_reply f lines = frame_text f ++ (lines ++ codes "\n")

-- a line with two numbers, each behind its label
abbrev pub two_counts : Text → ℕ → Text → ℕ → Text
two_counts first a second b = labelled_number first a ++ (labelled_number second b ++ codes "\n")

-- ---- where a document is broken

-- the line of the file that a verdict in short tells to be broken
abbrev pub line_of_brief : Brief → Option ℕ
line_of_brief (brief.Sound lines made held rack) = None
line_of_brief (brief.Broken fault) = Some fault.line

-- the same of a whole verdict
abbrev pub line_of_verdict : Verdict → Option ℕ
line_of_verdict (verdict.Sound final) = None
line_of_verdict (verdict.Broken fault) = Some fault.line

-- the same of a reply
abbrev pub line_of_reply : Reply → Option ℕ
line_of_reply (reply.Accepted version block told) = line_of_brief told
line_of_reply (reply.Now version told line) = line_of_verdict told
line_of_reply r = None

-- and of what a step is answered
abbrev pub line_of_step : GroupReply → Option ℕ
line_of_step (group.One told) = line_of_reply told
line_of_step (group.Done version from told) = line_of_brief told
line_of_step (group.Refused base at told) = line_of_reply told
line_of_step group.NoUndo = None
line_of_step group.NoMemory = None

-- where this line of the file stands, if the document is broken there
abbrev pub broken_place : Opening → List Entry → Option ℕ → Option LinePlace
broken_place opening entries None = None
broken_place opening entries (Some line) = line_place_of opening (document_of opening entries) line

-- the block in which the line stands, and which of its lines it is
abbrev pub line_place_text : Option LinePlace → Text
line_place_text None = []
line_place_text (Some place) = two_counts (codes "broken block ") place.block (codes " line ") place.line

-- where the document is broken, if it is
abbrev pub document_broken_text : Opening → List Entry → Option ℕ → Text
document_broken_text opening entries line = line_place_text (broken_place opening entries line)

-- ---- replies to steps

-- what a step is answered, as in a report, and where the document is broken, if the reply tells so
abbrev pub step_said : Opening → List Entry → Frame → GroupReply → Text
step_said opening entries f r = framed_reply f (step_text (names_at opening entries) r ++ document_broken_text opening entries (line_of_step r))

-- ---- answers to questions

-- a block as it stands
abbrev pub block_line : BlockPlace → Text
block_line p = labelled_number (codes "block ") p.block ++ (labelled_number (codes " stamp ") p.stamp ++ (labelled_number (codes " first ") p.first ++ (labelled_number (codes " lines ") p.lines ++ codes "\n")))

-- the blocks as they stand, in their order
abbrev pub blocks_text : Opening → List Entry → Text
blocks_text opening entries = let d = document_of opening entries in
    two_counts (codes "blocks version ") (length entries) (codes " blocks ") (length d.blocks) ++ flat_map block_line (block_places opening d)

-- there is no such version yet
abbrev pub no_version_text : ℕ → ℕ → Text
no_version_text version at = two_counts (codes "noversion version ") version (codes " at ") at

-- the entries behind a version, each with its number
abbrev pub entries_behind_text : List Entry → ℕ → Text
entries_behind_text entries from = labelled_number (codes "since version ") (length entries)
    ++ (two_counts (codes " from ") from (codes " entries ") (length entries - from) ++ entries_text (from + 1) (drop from entries))

-- the entries behind a version, if there is such a version
abbrev pub since_text : List Entry → ℕ → Text
since_text entries from = if nat_le from (length entries) then entries_behind_text entries from else no_version_text (length entries) from

-- a version, a block and a stamp, behind a word
abbrev pub at_stamp : Text → ℕ → ℕ → ℕ → Text
at_stamp word version block stamp = labelled_number word version ++ (labelled_number (codes " block ") block ++ labelled_number (codes " stamp ") stamp)

-- the text that a block got from an entry, or that it got none
abbrev pub old_text : ℕ → ℕ → ℕ → Option (List Text) → Text
old_text version block stamp None = at_stamp (codes "notext version ") version block stamp ++ codes "\n"
old_text version block stamp (Some lines) =
    at_stamp (codes "text version ") version block stamp ++ (labelled_number (codes " lines ") (length lines) ++ (codes "\n" ++ flat_map barred_line lines))

-- the text that a block got from the entry with this number, if the block's id was given out
abbrev pub text_at_text : Opening → List Entry → ℕ → ℕ → Text
text_at_text opening entries block stamp = let drawn = (document_of opening entries).drawn in
    if nat_lt block drawn then old_text (length entries) block stamp (text_at opening entries block stamp)
    else told_reply (names_at opening entries) (reply.NoBlock (length entries) block drawn)

-- a saved text, behind the version and the number of its lines
abbrev pub saved_said : ℕ → Text → Text
saved_said version saved = two_counts (codes "saved version ") version (codes " lines ") (count_by is_line_feed saved) ++ saved

-- there are no such blocks to be tallied
abbrev pub no_range_text : Opening → List Entry → Text
no_range_text opening entries =
    two_counts (codes "norange version ") (length entries) (codes " blocks ") (length (document_of opening entries).blocks)

-- ---- what is said without a frame

-- the document stands: its version, its blocks, the verdict in short, and where it is broken
abbrev pub opened_text : Opening → List Entry → Brief → Text
opened_text opening entries told =
    labelled_number (codes "opened version ") (length entries) ++ (labelled_number (codes " blocks ") (length (document_of opening entries).blocks) ++ (codes " " ++ (brief_text told ++ (codes "\n"
    ++ (document_broken_text opening entries (line_of_brief told) ++ codes "\n")))))

-- the same, with the verdict that the document has
pub record IsOpenedSaid (opening : Opening) (entries : List Entry) (text : Text) : Type 0 where
  pub brief_given : Brief
  pub judged : let d = document_of opening entries in IsBriefOn (setting_of opening d) (body d) brief_given
  pub said : text ≡ opened_text opening entries brief_given

-- the name of what is wrong with a line
abbrev pub cause_name : Cause → Text
cause_name cause.NoLive = codes "NoLive"
cause_name cause.BadLine = codes "BadLine"
cause_name cause.ManySessions = codes "ManySessions"
cause_name cause.NoOwn = codes "NoOwn"
cause_name cause.NoGroups = codes "NoGroups"
cause_name cause.NoServe = codes "NoServe"
cause_name cause.LineLong = codes "LineLong"
cause_name cause.NotUtf8 = codes "NotUtf8"

-- a line of the conversation is refused
abbrev pub bad_line_said : ℕ → Cause → Text
bad_line_said line why = labelled_number (codes "badinput line ") line ++ (codes " " ++ (cause_name why ++ codes "\n\n"))

-- the version at the end, the verdict on its document, and where it is broken
pub record IsFinalSaid (opening : Opening) (entries : List Entry) (text : Text) : Type 0 where
  pub verdict_given : Verdict
  pub judged : let d = document_of opening entries in HasVerdict (setting_of opening d) (body d) verdict_given
  pub said : let d = document_of opening entries in
      text ≡ final_text d.header.names (length entries) (broken_line (setting_of opening d).first (body d) verdict_given) verdict_given
      ++ (document_broken_text opening entries (line_of_verdict verdict_given) ++ codes "\n")
