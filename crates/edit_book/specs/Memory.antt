-- What a session remembers, and the answer to its command.
use Rattle.std.specs.Prelude.{◌≡◌, ℕ, zero, suc, ◌-◌, if◌then◌else◌, ◌==◌, nat_lt, nat_le, List, [], ◌∷◌, ◌++◌, Option, Some, None, Result, Ok, Err, length, option_and_then, unwrap_or}
use Rattle.std.specs.List.{slice_get}
use Rattle.std.specs.Option.{option_map_or}
use Rattle.edit_journal.specs.declared.edit.Anchor.{Anchor}
use Rattle.edit_journal.specs.declared.edit.Anchor.TheVariants as anchor
use Rattle.edit_journal.specs.declared.edit.BlockName.{BlockName}
use Rattle.edit_journal.specs.declared.edit.BlockName.TheVariants.{Id, Own}
use Rattle.edit_journal.specs.declared.edit.Entry.{Entry}
use Rattle.edit_journal.specs.declared.opening.Opening.{Opening}
use Rattle.edit_journal.specs.Entries.{head_id}
use Rattle.script_reader.specs.declared.command.Command.{Command}
use Rattle.script_reader.specs.declared.command.Command.TheVariants as command
use Rattle.script_reader.specs.declared.command.Place.{Place}
use Rattle.script_reader.specs.declared.command.Place.TheVariants.{Start, After}
use Rattle.edit_book.specs.declared.reply.Reply.{Reply}
use Rattle.edit_book.specs.declared.reply.Reply.TheVariants as reply
use Rattle.edit_book.specs.Replies.{Request, Look, Put, Add, Cut, LoopAt, VerdictNow, LookHead, PutHead, IsReply, entry_of}

pub record Memory : Type 0 where
  -- the stamp of each block that the session knows, and of the header, by their ids
  pub stamps : ℕ → Option ℕ
  -- the block that each of its add commands made
  pub adds : List (Option ℕ)

-- at the start: stamp 0 for each of so many opening blocks, and for the header
abbrev pub opening_stamp : ℕ → ℕ → Option ℕ
opening_stamp blocks id = if nat_lt id blocks then Some 0 else (if id == head_id then Some 0 else None)

abbrev pub first_memory : Opening → Memory
first_memory opening = record { stamps = opening_stamp (length opening.texts); adds = [] }

-- the stamp of the header that the session knows
abbrev pub known_header_stamp : Memory → ℕ
known_header_stamp m = unwrap_or (m.stamps head_id) 0

abbrev pub with_stamp : ℕ → ℕ → (ℕ → Option ℕ) → ℕ → Option ℕ
with_stamp block stamp stamps id = if id == block then Some stamp else stamps id

-- the block of which a reply tells the stamp, and that stamp
abbrev pub stamp_told_by : Command → Reply → Option (ℕ × ℕ)
stamp_told_by c (reply.Shown version block stamp first text) = Some (block, stamp)
stamp_told_by (command.Put name text) (reply.Accepted version block brief) = Some (block, version)
stamp_told_by (command.Add place text) (reply.Accepted version block brief) = Some (block, version)
stamp_told_by (command.PutHead names) (reply.Accepted version block brief) = Some (block, version)
stamp_told_by c r = None

abbrev pub with_told : Option (ℕ × ℕ) → (ℕ → Option ℕ) → ℕ → Option ℕ
with_told None stamps = stamps
with_told (Some told) stamps = with_stamp told.0 told.1 stamps

-- the stamp of the header after that
abbrev pub head_told : Option (ℕ × ℕ) → ℕ → ℕ
head_told None head = head
head_told (Some told) head = if told.0 == head_id then told.1 else head

-- the block that an accepted reply made
abbrev pub made_by : Reply → Option ℕ
made_by (reply.Accepted version block brief) = Some block
made_by r = None

abbrev pub with_add : Command → Reply → List (Option ℕ) → List (Option ℕ)
with_add (command.Add place text) r adds = adds ++ made_by r ∷ []
with_add c r adds = adds

-- what the session remembers after a reply to its command
abbrev pub memory_after : Memory → Command → Reply → Memory
memory_after m c r = record { stamps = with_told (stamp_told_by c r) m.stamps; adds = with_add c r m.adds }

-- what it remembers where the block with this id got this stamp, and it knows that otherwise than by a command of its own
abbrev pub with_put : ℕ → ℕ → Memory → Memory
with_put block stamp m = record { stamps = with_stamp block stamp m.stamps; adds = m.adds }

-- so many more adds, none of which made a block
abbrev pub ids_with_missed_adds : ℕ → List (Option ℕ) → List (Option ℕ)
ids_with_missed_adds zero adds = adds
ids_with_missed_adds (suc n) adds = ids_with_missed_adds n (adds ++ None ∷ [])

abbrev pub with_missed : ℕ → Memory → Memory
with_missed count m = record { stamps = m.stamps; adds = ids_with_missed_adds count m.adds }

-- the block that a name means: Own(n) is that of the n-th add, from 1
abbrev pub own_block : List (Option ℕ) → ℕ → Option ℕ
own_block adds zero = None
own_block adds (suc n) = option_and_then (λ o. o) (slice_get adds n)

abbrev pub block_id_of_name : Memory → BlockName → Option ℕ
block_id_of_name m (Id id) = Some id
block_id_of_name m (Own n) = own_block m.adds n

abbrev pub text_limit : ℕ
text_limit = 4096

-- what a text asks, where it isn't too long
abbrev pub unless_long : List (List ℕ) → Request → Result Request Reply
unless_long text request = if nat_le (length text) text_limit then Ok request else Err (reply.BlockLong (length text))

-- what is asked of the block that a name means
abbrev pub if_named : Memory → BlockName → (ℕ → Result Request Reply) → Result Request Reply
if_named m name ask = option_map_or ask (block_id_of_name m name) (Err (reply.Unseen name))

-- and of its stamp
abbrev pub if_seen : Memory → BlockName → (ℕ → ℕ → Result Request Reply) → Result Request Reply
if_seen m name ask = if_named m name (λ id. option_map_or (ask id) (m.stamps id) (Err (reply.Unseen name)))

-- what is asked of the place that a name means
abbrev pub if_anchored : Memory → Place → (Anchor → Result Request Reply) → Result Request Reply
if_anchored m Start ask = ask anchor.Start
if_anchored m (After name) ask = if_named m name (λ id. ask (anchor.After id))

-- what a command asks of the book, or the reply that the session has without it
abbrev pub asked_of_book : Memory → Command → Result Request Reply
asked_of_book m (command.Look name) = if_named m name (λ id. Ok (Look id))
asked_of_book m (command.Put name text) = if_seen m name (λ id seen. unless_long text (Put id seen (known_header_stamp m) text))
asked_of_book m (command.Add place text) = if_anchored m place (λ anchor. unless_long text (Add anchor (known_header_stamp m) text))
asked_of_book m (command.Cut name) = if_seen m name (λ id seen. Ok (Cut id seen))
asked_of_book m (command.LoopAt line) = Ok (LoopAt line)
asked_of_book m command.Verdict = Ok VerdictNow
asked_of_book m command.LookHead = Ok LookHead
asked_of_book m (command.PutHead names) = Ok (PutHead (known_header_stamp m) names)

abbrev pub IsRequestAnswered : Opening → List Entry → Result Request Reply → Reply → Type 0
IsRequestAnswered opening journal (Ok request) r = IsReply opening journal request r
IsRequestAnswered opening journal (Err refusal) r = r ≡ refusal

-- the answer to a command at a journal, with what the session remembers
abbrev pub Answers : Opening → List Entry → Memory → Command → Reply → Type 0
Answers opening journal m c r = IsRequestAnswered opening journal (asked_of_book m c) r

-- the entry of an accepted reply
abbrev pub asked_entry : ℕ → Result Request Reply → Reply → Option Entry
asked_entry session (Ok request) r = entry_of session request r
asked_entry session (Err refusal) r = None

-- the version that a reply carries
abbrev pub version_of : Reply → Option ℕ
version_of (reply.Accepted version block brief) = Some version
version_of (reply.Shown version block stamp first text) = Some version
version_of (reply.Loop version fact) = Some version
version_of (reply.Now version verdict text) = Some version
version_of (reply.Texts version blocks) = Some version
version_of (reply.Stale version block seen now) = Some version
version_of (reply.Gone version block at) = Some version
version_of (reply.NoBlock version block ids) = Some version
version_of (reply.Full version what limit) = Some version
version_of (reply.Unseen name) = None
version_of (reply.BlockLong lines) = None
version_of reply.NoMemory = None

-- that version, less one for an accepted edit
abbrev pub base_of : Reply → Option ℕ
base_of (reply.Accepted version block brief) = Some (version - 1)
base_of r = version_of r
