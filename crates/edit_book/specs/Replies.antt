-- The one reply of a book at a version.
use Rattle.std.specs.Prelude.{◌≡◌, ◌⊎◌, ℕ, ◌+◌, Bool, if◌then◌else◌, ◌==◌, nat_lt, nat_le, List, [], ◌∷◌, ◌++◌, Option, Some, None, length, option_and_then, option_map}
use Rattle.std.specs.Option.{option_map_or, option_to_list}
use Rattle.carriage_model.specs.declared.verdict.Brief.{Brief}
use Rattle.carriage_model.specs.declared.verdict.LoopFact.{LoopFact}
use Rattle.carriage_model.specs.declared.verdict.Verdict.{Verdict}
use Rattle.block_summary.specs.Verdicts.{broken_line}
use Rattle.edit_journal.specs.declared.edit.Anchor.{Anchor}
use Rattle.edit_journal.specs.declared.edit.Anchor.TheVariants.{Start, After}
use Rattle.edit_journal.specs.declared.edit.Edit.{Edit}
use Rattle.edit_journal.specs.declared.edit.Edit.TheVariants as edit
use Rattle.edit_journal.specs.declared.edit.Entry.{Entry}
use Rattle.edit_journal.specs.declared.opening.Opening.{Opening}
use Rattle.edit_journal.specs.Documents.{Block, Document, block_of, after, document_of, body}
use Rattle.edit_journal.specs.Entries.{entry_limit, head_id}
use Rattle.edit_book.specs.Headers.{blocks_at}
use Rattle.knit_base.specs.Names.{header_line}
use Rattle.knitout_reader.specs.Head.{names_in_line}
use Rattle.edit_book.specs.declared.reply.BookCommand.{BookCommand}
use Rattle.edit_book.specs.declared.reply.BookCommand.TheVariants as command
use Rattle.edit_book.specs.declared.reply.Which.{Which}
use Rattle.edit_book.specs.declared.reply.Which.TheVariants as which
use Rattle.edit_book.specs.declared.reply.Reply.{Reply}
use Rattle.edit_book.specs.declared.reply.Reply.TheVariants as reply
use Rattle.edit_book.specs.Verdicts.{HasVerdict, IsBriefOn, IsLoopOn, setting_of}

-- what is asked of a book; a text is its lines alone
pub data Request : Type 0 where
  Look : ℕ → Request
  Put : (block seen head : ℕ) (text : List (List ℕ)) → Request
  Add : (anchor : Anchor) (head : ℕ) (text : List (List ℕ)) → Request
  Cut : (block seen : ℕ) → Request
  LoopAt : ℕ → Request
  VerdictNow : Request
  LookHead : Request
  Texts : Request
  PutHead : (seen : ℕ) (names : List (List ℕ)) → Request

-- what a command asks
abbrev pub request_of_command : BookCommand → Request
request_of_command (command.Look block) = Look block
request_of_command (command.Put block seen head prepared) = Put block seen head prepared.text
request_of_command (command.Add anchor head prepared) = Add anchor head prepared.text
request_of_command (command.Cut block seen) = Cut block seen
request_of_command (command.LoopAt line) = LoopAt line
request_of_command command.Verdict = VerdictNow
request_of_command command.LookHead = LookHead
request_of_command command.Texts = Texts
request_of_command (command.PutHead seen names again) = PutHead seen names

abbrev pub block_limit : ℕ
block_limit = 65536

abbrev pub line_limit : ℕ
line_limit = 1048576

abbrev pub refusal_or_else : {A : Type 0} → Option A → Option A → Option A
refusal_or_else None b = b
refusal_or_else (Some a) b = Some a

-- the edit takes out the block with this id
abbrev pub cuts_block : Edit → ℕ → Bool
cuts_block (edit.Cut block seen) id = block == id
cuts_block (edit.Put block seen text) id = Bool.false
cuts_block (edit.Add anchor block text) id = Bool.false
cuts_block (edit.Head seen names) id = Bool.false

-- the number of the last of these entries that cut the block, where the first has number i, or else this number
abbrev pub cut_from : ℕ → ℕ → List Entry → ℕ → ℕ
cut_from i found [] id = found
cut_from i found (e ∷ es) id = cut_from (i + 1) (if cuts_block e.edit id then i else found) es id

-- the number of the entry that cut the block: an id is never drawn again, so there is one at most
abbrev pub cut_number : List Entry → ℕ → ℕ
cut_number entries id = cut_from 1 0 entries id

-- 1 and 2: the block isn't there, since its id wasn't drawn, or since it was cut
abbrev pub refused_name : Document → List Entry → ℕ → Option Reply
refused_name d entries id =
    if nat_lt id d.drawn
    then option_map_or (λ b. None) (block_of d.blocks id) (Some (reply.Gone (length entries) id (cut_number entries id)))
    else Some (reply.NoBlock (length entries) id d.drawn)

abbrev pub refused_anchor : Document → List Entry → Anchor → Option Reply
refused_anchor d entries Start = None
refused_anchor d entries (After id) = refused_name d entries id

-- 3: it has another stamp than was seen
abbrev pub refused_stamp : Document → List Entry → ℕ → ℕ → Option Reply
refused_stamp d entries id seen = option_and_then (λ b. if b.stamp == seen then None else Some (reply.Stale (length entries) id seen b.stamp)) (block_of d.blocks id)

-- 4: the header has another stamp than was seen
abbrev pub refused_head : Document → List Entry → ℕ → Option Reply
refused_head d entries seen = if d.header.stamp == seen then None else Some (reply.Stale (length entries) head_id seen d.header.stamp)

-- 5: the count after the edit is over its limit
abbrev pub refused_over : ℕ → Which → ℕ → ℕ → Option Reply
refused_over version what limit count = if nat_le count limit then None else Some (reply.Full version what limit)

abbrev pub refused_entries : List Entry → Option Reply
refused_entries entries = refused_over (length entries) which.Entries entry_limit (length entries + 1)

abbrev pub refused_blocks : Document → List Entry → Option Reply
refused_blocks d entries = refused_over (length entries) which.Blocks block_limit (length d.blocks + 1)

-- the lines are those after this edit
abbrev pub refused_lines : Document → List Entry → Edit → Option Reply
refused_lines d entries e = refused_over (length entries) which.Lines line_limit (length (body (after d (length entries + 1) e)))

-- the first of these refusals that applies
abbrev pub refusal_of : Document → List Entry → Request → Option Reply
refusal_of d entries (Look id) = refused_name d entries id
refusal_of d entries (Put id seen head text) =
    refusal_or_else (refused_name d entries id) (refusal_or_else (refused_stamp d entries id seen) (refusal_or_else (refused_head d entries head)
    (refusal_or_else (refused_entries entries) (refused_lines d entries (edit.Put id seen text)))))
refusal_of d entries (Add anchor head text) =
    refusal_or_else (refused_anchor d entries anchor) (refusal_or_else (refused_head d entries head)
    (refusal_or_else (refused_entries entries) (refusal_or_else (refused_blocks d entries) (refused_lines d entries (edit.Add anchor d.drawn text)))))
refusal_of d entries (Cut id seen) = refusal_or_else (refused_name d entries id) (refusal_or_else (refused_stamp d entries id seen) (refused_entries entries))
refusal_of d entries (LoopAt line) = None
refusal_of d entries VerdictNow = None
refusal_of d entries LookHead = None
refusal_of d entries Texts = None
refusal_of d entries (PutHead seen names) = refusal_or_else (refused_head d entries seen) (refused_entries entries)

-- the lines before the block
abbrev pub lines_before : ℕ → List Block → ℕ
lines_before id [] = 0
lines_before id (b ∷ bs) = if b.id == id then 0 else length b.lines + lines_before id bs

-- 6: an edit is accepted, with the next version, the block or the header, and the verdict after it in short
abbrev pub IsAccepted : Opening → Document → ℕ → ℕ → Edit → Reply → Type 0
IsAccepted opening d version block e r =
    (brief : Brief) × (r ≡ reply.Accepted (version + 1) block brief) × (let next = after d (version + 1) e in IsBriefOn (setting_of opening next) (body next) brief)

abbrev pub IsGranted : Opening → Document → ℕ → Request → Reply → Type 0
IsGranted opening d version (Look id) r =
    (b : Block) × (block_of d.blocks id ≡ Some b) × (r ≡ reply.Shown version id b.stamp ((setting_of opening d).first + lines_before id d.blocks) b.lines)
IsGranted opening d version (Put id seen head text) r = IsAccepted opening d version id (edit.Put id seen text) r
IsGranted opening d version (Add anchor head text) r = IsAccepted opening d version d.drawn (edit.Add anchor d.drawn text) r
IsGranted opening d version (Cut id seen) r = IsAccepted opening d version id (edit.Cut id seen) r
IsGranted opening d version (LoopAt line) r =
    (fact : Option LoopFact) × (r ≡ reply.Loop version fact) × IsLoopOn (setting_of opening d) (body d) line fact
IsGranted opening d version VerdictNow r =
    (v : Verdict) × (r ≡ reply.Now version v (broken_line (setting_of opening d).first (body d) v)) × HasVerdict (setting_of opening d) (body d) v
-- the line of the header, from which its names are read back
IsGranted opening d version LookHead r =
    (r ≡ reply.Shown version head_id d.header.stamp 1 (header_line d.header.names ∷ [])) × (names_in_line (header_line d.header.names) ≡ Some d.header.names)
IsGranted opening d version Texts r = r ≡ reply.Texts version (blocks_at d.blocks)
IsGranted opening d version (PutHead seen names) r = IsAccepted opening d version head_id (edit.Head seen names) r

-- the refusal that is due, or else what is granted
abbrev pub IsDue : Option Reply → Type 0 → Reply → Type 0
IsDue None granted r = granted
IsDue (Some refusal) granted r = r ≡ refusal

-- the reply of the book at the version that is the journal's length
abbrev pub IsReply : Opening → List Entry → Request → Reply → Type 0
IsReply opening entries request r = let d = document_of opening entries in IsDue (refusal_of d entries request) (IsGranted opening d (length entries) request r) r

-- the block of an accepted reply
abbrev pub accepted_block : Reply → Option ℕ
accepted_block (reply.Accepted version block brief) = Some block
accepted_block r = None

-- the edit that a request asks for, where it is accepted with this block
abbrev pub edit_of : Request → ℕ → Option Edit
edit_of (Look id) block = None
edit_of (Put id seen head text) block = Some (edit.Put id seen text)
edit_of (Add anchor head text) block = Some (edit.Add anchor block text)
edit_of (Cut id seen) block = Some (edit.Cut id seen)
edit_of (LoopAt line) block = None
edit_of VerdictNow block = None
edit_of LookHead block = None
edit_of Texts block = None
edit_of (PutHead seen names) block = Some (edit.Head seen names)

-- the entry of an accepted reply
abbrev pub entry_of : ℕ → Request → Reply → Option Entry
entry_of session request r = option_map (λ e. record { session = session; edit = e }) (option_and_then (edit_of request) (accepted_block r))

-- an answer without an entry: want of memory, or the reply that is due
abbrev pub IsAnswer : Opening → List Entry → Request → Reply → Type 0
IsAnswer opening entries request r = (r ≡ reply.NoMemory) ⊎ IsReply opening entries request r

-- a turn of a session: want of memory, which changes nothing, or the reply that is due, and its entry behind the others
abbrev pub IsTurn : Opening → List Entry → ℕ → Request → Reply → List Entry → Type 0
IsTurn opening before session request r entries =
    ((r ≡ reply.NoMemory) × (entries ≡ before)) ⊎ (IsReply opening before request r × (entries ≡ before ++ option_to_list (entry_of session request r)))
