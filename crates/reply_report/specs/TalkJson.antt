-- What is said in a conversation, as JSON: the value whose compact text is written. Each ends with a line feed, and no empty line follows.
use Rattle.std.specs.Prelude.{◌≡◌, ℕ, ◌+◌, ◌==◌, nat_le, nat_lt, Option, None, Some, List, [], ◌∷◌, ◌++◌, length, drop, codes, if◌then◌else◌}
use Rattle.std.specs.List.{slice_split}
use Rattle.json.specs.Print.{quoted}
use Rattle.serde_json.specs.Data.{Data, Members, array, member, no_members, null, object, string}
use Rattle.serde_json.specs.View.{items_of}
use Rattle.serde_json.specs.Written.{compact_text}
use Rattle.knit_base.specs.Lines.{is_line_feed, without_empty_end}
use Rattle.knit_base.specs.Spelling.{rack_text, rule_name}
use Rattle.knit_base.specs.declared.yarns.CarrierNo.{CarrierNo}
use Rattle.carriage_model.specs.declared.verdict.Brief.{Brief}
use Rattle.carriage_model.specs.declared.verdict.Brief.TheVariants as brief
use Rattle.carriage_model.specs.declared.verdict.LoopFact.{LoopFact}
use Rattle.carriage_model.specs.declared.verdict.Verdict.{Verdict}
use Rattle.block_summary.specs.Verdicts.{broken_line}
use Rattle.edit_journal.specs.declared.edit.Anchor.{Anchor}
use Rattle.edit_journal.specs.declared.edit.Anchor.TheVariants as anchor
use Rattle.edit_journal.specs.declared.edit.Edit.{Edit}
use Rattle.edit_journal.specs.declared.edit.Edit.TheVariants as edit
use Rattle.edit_journal.specs.declared.edit.Entry.{Entry}
use Rattle.edit_journal.specs.declared.opening.Opening.{Opening}
use Rattle.edit_journal.specs.Documents.{body, document_of, names_at, text_at}
use Rattle.edit_journal.specs.Entries.{head_id}
use Rattle.edit_book.specs.declared.listed.BlockPlace.{BlockPlace}
use Rattle.edit_book.specs.declared.listed.LinePlace.{LinePlace}
use Rattle.edit_book.specs.declared.reply.Reply.{Reply}
use Rattle.edit_book.specs.declared.reply.Reply.TheVariants as reply
use Rattle.edit_book.specs.Listing.{block_places}
use Rattle.edit_book.specs.Verdicts.{HasVerdict, IsBriefOn, setting_of}
use Rattle.edit_groups.specs.declared.reply.GroupReply.{GroupReply}
use Rattle.edit_groups.specs.declared.reply.GroupReply.TheVariants as group
use Rattle.script_reader.specs.declared.fault.Cause.{Cause}
use Rattle.verdict_report.specs.Carriers.{carrier_name_of}
use Rattle.verdict_report.specs.LiveText.{block_name_text, version_named, which_word}
use Rattle.verdict_report.specs.VerdictJson.{count_value, list_value, loop_value, verdict_value}
use Rattle.verdict_report.specs.VerdictText.{Text}
use Rattle.reply_report.specs.declared.frame.Frame.{Frame}
use Rattle.reply_report.specs.TalkText.{broken_place, cause_name, line_of_brief, line_of_step, line_of_verdict}

-- the line of a value
abbrev pub value_json_line : Data → Text
value_json_line value = compact_text value ++ codes "\n"

-- ---- members that many replies have

-- a number, and the members behind it
abbrev pub count_member : Text → ℕ → Members → Members
count_member key n rest = member key (count_value n) rest

-- the word of a reply
abbrev pub reply_member : Text → Members → Members
reply_member word rest = member (codes "reply") (string word) rest

-- the number of the command and its session: a reply that a refused group tells has neither
abbrev pub number_member : Option Frame → Members → Members
number_member None rest = rest
number_member (Some f) rest = count_member (codes "number") f.number rest

abbrev pub session_member : Option Frame → Members → Members
session_member None rest = rest
session_member (Some f) rest = count_member (codes "session") f.session rest

-- the number, the word and the session, where nothing stands between them
abbrev pub frame_members : Option Frame → Text → Members → Members
frame_members f word rest = number_member f (reply_member word (session_member f rest))

-- the version, with which most replies end
abbrev pub version_member : ℕ → Members
version_member version = count_member (codes "version") version no_members

-- a block by its id, or the header
abbrev pub block_value : ℕ → Data
block_value block = if block == head_id then string (codes "head") else count_value block

abbrev pub block_member : ℕ → Members → Members
block_member block rest = member (codes "block") (block_value block) rest

-- a verdict in short
abbrev pub brief_value : Brief → Data
brief_value (brief.Sound lines made held rack) = object (count_member (codes "held") held
    (count_member (codes "lines") lines
    (count_member (codes "made") made
    (member (codes "rack") (string (rack_text rack.0))
    (member (codes "verdict") (string (codes "sound")) no_members)))))
brief_value (brief.Broken fault) = object (count_member (codes "at") fault.reason.at
    (count_member (codes "line") fault.line
    (member (codes "rule") (string (rule_name fault.reason.rule))
    (member (codes "verdict") (string (codes "broken")) no_members))))

-- the block in which the broken line stands, and which of its lines it is
abbrev pub place_value : LinePlace → Data
place_value place = object (count_member (codes "block") place.block (count_member (codes "line") place.line no_members))

-- where the document is broken, if it is
abbrev pub broken_member : Option LinePlace → Members → Members
broken_member None rest = rest
broken_member (Some place) rest = member (codes "broken") (place_value place) rest

-- lines, as texts
abbrev pub texts_member : List Text → Members → Members
texts_member lines rest = member (codes "lines") (list_value string lines) rest

-- ---- replies

-- the name of a carrier as a string, for private clauses
abbrev pub carrier_string : List Text → CarrierNo → Text
carrier_string names c = quoted (carrier_name_of names c)

-- the loop that was asked for, or that there is none
abbrev pub fact_value : List Text → Option LoopFact → Data
fact_value names None = null
fact_value names (Some fact) = loop_value names fact

-- the members of a reply, with these names of carriers, where the document is broken at this place
abbrev pub reply_members : List Text → Option LinePlace → Option Frame → Reply → Members
reply_members names broken f (reply.Accepted version block told) =
    block_member block (member (codes "brief") (brief_value told) (broken_member broken (frame_members f (codes "accepted") (version_member version))))
reply_members names broken f (reply.Shown version block stamp first lines) =
    block_member block (count_member (codes "first") first (texts_member lines (frame_members f (codes "shown") (count_member (codes "stamp") stamp (version_member version)))))
reply_members names broken f (reply.Loop version fact) = member (codes "loop") (fact_value names fact) (frame_members f (codes "loop") (version_member version))
reply_members names broken f (reply.Now version told line) =
    broken_member broken (frame_members f (codes "verdict") (member (codes "verdict") (verdict_value names line told None) (version_member version)))
reply_members names broken f (reply.Texts version blocks) = no_members
reply_members names broken f (reply.Stale version block seen now) =
    block_member block (count_member (codes "now") now (number_member f (reply_member (codes "stale") (count_member (codes "seen") seen (session_member f (version_member version))))))
reply_members names broken f (reply.Gone version block at) = count_member (codes "at") at (block_member block (frame_members f (codes "gone") (version_member version)))
reply_members names broken f (reply.NoBlock version block ids) = block_member block (count_member (codes "ids") ids (frame_members f (codes "noblock") (version_member version)))
reply_members names broken f (reply.Full version what limit) =
    count_member (codes "limit") limit (frame_members f (codes "full") (count_member (codes "version") version (member (codes "which") (string (which_word what)) no_members)))
reply_members names broken f (reply.Unseen block) = member (codes "name") (string (block_name_text block)) (frame_members f (codes "unseen") no_members)
reply_members names broken f (reply.BlockLong lines) = count_member (codes "lines") lines (frame_members f (codes "blocklong") no_members)
reply_members names broken f reply.NoMemory = frame_members f (codes "nomemory") no_members

-- the same with the names that the header has at the reply's version
abbrev pub told_members : (ℕ → List Text) → Option LinePlace → Option Frame → Reply → Members
told_members names broken f r = reply_members (names (version_named r)) broken f r

-- what a step is answered
abbrev pub step_members : (ℕ → List Text) → Option LinePlace → Frame → GroupReply → Members
step_members names broken f (group.One told) = told_members names broken (Some f) told
step_members names broken f (group.Done version from told) =
    member (codes "brief") (brief_value told) (broken_member broken (count_member (codes "from") from (frame_members (Some f) (codes "group") (version_member version))))
step_members names broken f (group.Refused base at told) =
    count_member (codes "at") at (frame_members (Some f) (codes "refused") (member (codes "told") (object (told_members names broken None told)) (version_member base)))
step_members names broken f group.NoUndo = frame_members (Some f) (codes "noundo") no_members
step_members names broken f group.NoMemory = frame_members (Some f) (codes "nomemory") no_members

-- the line of what a step is answered
abbrev pub step_json : Opening → List Entry → Frame → GroupReply → Text
step_json opening entries f r = value_json_line (object (step_members (names_at opening entries) (broken_place opening entries (line_of_step r)) f r))

-- ---- answers to questions

-- a block as it stands
abbrev pub listed_value : BlockPlace → Data
listed_value p = object (count_member (codes "block") p.block (count_member (codes "first") p.first (count_member (codes "lines") p.lines (count_member (codes "stamp") p.stamp no_members))))

-- the blocks as they stand, in their order
abbrev pub blocks_members : Opening → List Entry → Frame → Members
blocks_members opening entries f =
    member (codes "blocks") (list_value listed_value (block_places opening (document_of opening entries))) (frame_members (Some f) (codes "blocks") (version_member (length entries)))

-- there are no such blocks to be tallied
abbrev pub no_range_members : Opening → List Entry → Frame → Members
no_range_members opening entries f =
    count_member (codes "blocks") (length (document_of opening entries).blocks) (frame_members (Some f) (codes "norange") (version_member (length entries)))

-- there is no such version yet
abbrev pub no_version_members : Frame → ℕ → ℕ → Members
no_version_members f version at = count_member (codes "at") at (frame_members (Some f) (codes "noversion") (version_member version))

-- the text that a block got from an entry, or that it got none
abbrev pub old_members : Frame → ℕ → ℕ → ℕ → Option (List Text) → Members
old_members f version block stamp None =
    count_member (codes "block") block (frame_members (Some f) (codes "notext") (count_member (codes "stamp") stamp (version_member version)))
old_members f version block stamp (Some lines) =
    count_member (codes "block") block (texts_member lines (frame_members (Some f) (codes "text") (count_member (codes "stamp") stamp (version_member version))))

-- the text that a block got from the entry with this number, if the block's id was given out
abbrev pub text_at_members : Opening → List Entry → Frame → ℕ → ℕ → Members
text_at_members opening entries f block stamp = let drawn = (document_of opening entries).drawn in
    if nat_lt block drawn then old_members f (length entries) block stamp (text_at opening entries block stamp)
    else reply_members [] None (Some f) (reply.NoBlock (length entries) block drawn)

-- the lines of a saved text, without their line feeds; a carriage return before one is a byte of the line
abbrev pub saved_lines : Text → List Text
saved_lines saved = without_empty_end (slice_split is_line_feed saved)

-- a saved text, by its lines
abbrev pub saved_members : Frame → ℕ → Text → Members
saved_members f version saved = texts_member (saved_lines saved) (frame_members (Some f) (codes "saved") (version_member version))

-- ---- what is said without a frame

-- the document stands: its version, how many blocks it has, where it is broken, and the verdict in short
abbrev pub opened_members : ℕ → ℕ → Option LinePlace → Brief → Members
opened_members version blocks broken told =
    count_member (codes "blocks") blocks (member (codes "brief") (brief_value told) (broken_member broken (reply_member (codes "opened") (version_member version))))

pub record IsOpenedJson (opening : Opening) (entries : List Entry) (text : Text) : Type 0 where
  pub brief_given : Brief
  pub judged : let d = document_of opening entries in IsBriefOn (setting_of opening d) (body d) brief_given
  pub said : text ≡ value_json_line (object (opened_members (length entries) (length (document_of opening entries).blocks) (broken_place opening entries (line_of_brief brief_given)) brief_given))

-- a line of the conversation is refused
abbrev pub bad_line_members : ℕ → Cause → Members
bad_line_members line why = member (codes "cause") (string (cause_name why)) (count_member (codes "line") line (reply_member (codes "badinput") no_members))

-- the version at the end, the verdict on its document, and where it is broken
abbrev pub final_members : List Text → ℕ → Option LinePlace → Text → Verdict → Members
final_members names version broken line told =
    broken_member broken (reply_member (codes "final") (member (codes "verdict") (verdict_value names line told None) (version_member version)))

pub record IsFinalJson (opening : Opening) (entries : List Entry) (text : Text) : Type 0 where
  pub verdict_given : Verdict
  pub judged : let d = document_of opening entries in HasVerdict (setting_of opening d) (body d) verdict_given
  pub said : let d = document_of opening entries in
      text ≡ value_json_line (object (final_members d.header.names (length entries) (broken_place opening entries (line_of_verdict verdict_given)) (broken_line (setting_of opening d).first (body d) verdict_given) verdict_given))

-- ---- the entries behind a version

-- where a new block stands: behind a block, or first
abbrev pub anchor_value : Anchor → Data
anchor_value anchor.Start = null
anchor_value (anchor.After id) = count_value id

-- the number of an entry, the stamp that it has seen, and its session
abbrev pub seen_members : ℕ → ℕ → ℕ → Members
seen_members n seen session = count_member (codes "number") n (count_member (codes "seen") seen (count_member (codes "session") session no_members))

-- a put, an add, a cut and other names of the header, each as an entry with its number; of a text the number of lines is told
abbrev pub put_members : ℕ → ℕ → ℕ → ℕ → ℕ → Members
put_members n session block seen lines = count_member (codes "block") block (member (codes "edit") (string (codes "put")) (count_member (codes "lines") lines (seen_members n seen session)))

abbrev pub add_members : ℕ → ℕ → Anchor → ℕ → ℕ → Members
add_members n session where_ block lines =
    member (codes "anchor") (anchor_value where_) (count_member (codes "block") block (member (codes "edit") (string (codes "add"))
    (count_member (codes "lines") lines (count_member (codes "number") n (count_member (codes "session") session no_members)))))

abbrev pub cut_members : ℕ → ℕ → ℕ → ℕ → Members
cut_members n session block seen = count_member (codes "block") block (member (codes "edit") (string (codes "cut")) (seen_members n seen session))

abbrev pub head_members : ℕ → ℕ → ℕ → List Text → Members
head_members n session seen names = member (codes "edit") (string (codes "head")) (member (codes "names") (list_value string names) (seen_members n seen session))

-- an entry with its number
abbrev pub edit_members : ℕ → ℕ → Edit → Members
edit_members n session (edit.Put block seen text) = put_members n session block seen (length text)
edit_members n session (edit.Add where_ block text) = add_members n session where_ block (length text)
edit_members n session (edit.Cut block seen) = cut_members n session block seen
edit_members n session (edit.Head seen names) = head_members n session seen names

abbrev pub entry_value : ℕ → Entry → Data
entry_value n e = object (edit_members n e.session e.edit)

-- entries, numbered from here on
abbrev pub numbered_values : ℕ → List Entry → List Data
numbered_values n [] = []
numbered_values n (e ∷ es) = entry_value n e ∷ numbered_values (n + 1) es

-- the entries behind a version
abbrev pub behind_members : Frame → List Entry → ℕ → Members
behind_members f entries from =
    member (codes "entries") (array (items_of (numbered_values (from + 1) (drop from entries)))) (count_member (codes "from") from (frame_members (Some f) (codes "since") (version_member (length entries))))

-- the same, if there is such a version
abbrev pub since_members : Frame → List Entry → ℕ → Members
since_members f entries from = if nat_le from (length entries) then behind_members f entries from else no_version_members f (length entries) from
