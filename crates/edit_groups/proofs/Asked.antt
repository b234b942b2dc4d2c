-- What a session's command asks, where it asks the book.
use Rattle.std.proofs.Common.{◌≡◌, ℕ, Bool, true, false, cond, List, Option, Some, None, Result, Ok, Err, length, nat_le, sym, ap, ◌∙◌, refl, subst}
use Rattle.std.specs.Option.{option_map_or}
use Rattle.edit_journal.specs.declared.edit.Anchor.{Anchor}
use Rattle.edit_journal.specs.declared.edit.Anchor.TheVariants.{Start, After}
use Rattle.edit_journal.specs.declared.edit.BlockName.{BlockName}
use Rattle.edit_journal.specs.declared.edit.Edit.{Edit}
use Rattle.edit_journal.specs.declared.edit.Edit.TheVariants as edit
use Rattle.script_reader.specs.declared.command.Command.{Command}
use Rattle.script_reader.specs.declared.command.Command.TheVariants as command
use Rattle.script_reader.specs.declared.command.Place.{Place}
use Rattle.script_reader.specs.declared.command.Place.TheVariants as place
use Rattle.edit_book.specs.Memory.{Memory, asked_of_book, known_header_stamp, block_id_of_name, unless_long}
use Rattle.edit_book.specs.Replies.{Request, Look, Put, Add, Cut, LoopAt, VerdictNow, LookHead, Texts, PutHead, edit_of}
use Rattle.edit_book.specs.declared.reply.Reply.{Reply}
use Rattle.edit_book.specs.declared.reply.Reply.TheVariants.{Unseen, BlockLong}
use Rattle.edit_groups.specs.Chunks.{is_put}
use Rattle.edit_groups.specs.Turns.{is_put_command}

ok_is : (a b : Request) → ◌≡◌ {A = Result Request Reply} (Ok a) (Ok b) → b ≡ a
ok_is a b is = cc

-- where a name's block is known, what is asked of it
record IsOfBlock (o : Option ℕ) (ask : ℕ → Result Request Reply) (request : Request) : Type 0 where
  id : ℕ
  known : o ≡ Some id
  asks : ask id ≡ Ok request

of_block : (o : Option ℕ) (name : BlockName) (ask : ℕ → Result Request Reply) (request : Request) → option_map_or ask o (Err (Unseen name)) ≡ Ok request → IsOfBlock o ask request
of_block None name ask request is = absurd (cc)
of_block (Some id) name ask request is = record { id = id; known = refl; asks = is }

short_text : (text : List (List ℕ)) (q request : Request) → unless_long text q ≡ Ok request → request ≡ q
short_text text q request is = go (nat_le (length text) 4096) is
  where
    go : (b : Bool) → cond b (Ok q) (Err (BlockLong (length text))) ≡ Ok request → request ≡ q
    go true is = ok_is q request is
    go false is = absurd (cc)

pub record IsPutAsked (m : Memory) (name : BlockName) (text : List (List ℕ)) (request : Request) : Type 0 where
  pub id : ℕ
  pub seen : ℕ
  pub known : block_id_of_name m name ≡ Some id
  pub request_is : request ≡ Put id seen (known_header_stamp m) text

pub put_asked : (m : Memory) (name : BlockName) (text : List (List ℕ)) (request : Request) → asked_of_book m (command.Put name text) ≡ Ok request → IsPutAsked m name text request
put_asked m name text request is =
    let b = of_block (block_id_of_name m name) name (λ id. option_map_or (λ seen. unless_long text (Put id seen (known_header_stamp m) text)) (m.stamps id) (Err (Unseen name))) request is in
    let s = of_block (m.stamps b.id) name (λ seen. unless_long text (Put b.id seen (known_header_stamp m) text)) request b.asks in
    record { id = b.id; seen = s.id; known = b.known; request_is = short_text text (Put b.id s.id (known_header_stamp m) text) request s.asks }

pub record IsAddAsked (m : Memory) (text : List (List ℕ)) (request : Request) : Type 0 where
  pub anchor : Anchor
  pub request_is : request ≡ Add anchor (known_header_stamp m) text

pub add_asked : (m : Memory) (at : Place) (text : List (List ℕ)) (request : Request) → asked_of_book m (command.Add at text) ≡ Ok request → IsAddAsked m text request
add_asked m place.Start text request is = record { anchor = Start; request_is = short_text text (Add Start (known_header_stamp m) text) request is }
add_asked m (place.After name) text request is = let b = of_block (block_id_of_name m name) name (λ id. unless_long text (Add (After id) (known_header_stamp m) text)) request is in
    record { anchor = After b.id; request_is = short_text text (Add (After b.id) (known_header_stamp m) text) request b.asks }

pub record IsCutAsked (request : Request) : Type 0 where
  pub id : ℕ
  pub seen : ℕ
  pub request_is : request ≡ Cut id seen

pub cut_asked : (m : Memory) (name : BlockName) (request : Request) → asked_of_book m (command.Cut name) ≡ Ok request → IsCutAsked request
cut_asked m name request is =
    let b = of_block (block_id_of_name m name) name (λ id. option_map_or (λ seen. Ok (Cut id seen)) (m.stamps id) (Err (Unseen name))) request is in
    let s = of_block (m.stamps b.id) name (λ seen. Ok (Cut b.id seen)) request b.asks in
    record { id = b.id; seen = s.id; request_is = ok_is (Cut b.id s.id) request s.asks }

-- a put alone asks for a put
abbrev is_put_request : Request → Bool
is_put_request (Put id seen head text) = true
is_put_request q = false

asked_kind : (m : Memory) (c : Command) (request : Request) → asked_of_book m c ≡ Ok request → is_put_command c ≡ is_put_request request
asked_kind m (command.Look name) request is = let b = of_block (block_id_of_name m name) name (λ id. Ok (Look id)) request is in ap is_put_request (sym (ok_is (Look b.id) request b.asks))
asked_kind m (command.Put name text) request is = ap is_put_request (sym (put_asked m name text request is).request_is)
asked_kind m (command.Add at text) request is = ap is_put_request (sym (add_asked m at text request is).request_is)
asked_kind m (command.Cut name) request is = ap is_put_request (sym (cut_asked m name request is).request_is)
asked_kind m (command.LoopAt line) request is = ap is_put_request (sym (ok_is (LoopAt line) request is))
asked_kind m command.Verdict request is = ap is_put_request (sym (ok_is VerdictNow request is))
asked_kind m command.LookHead request is = ap is_put_request (sym (ok_is LookHead request is))
asked_kind m (command.PutHead names) request is = ap is_put_request (sym (ok_is (PutHead (known_header_stamp m) names) request is))

some_is : (a b : Edit) → Some a ≡ Some b → a ≡ b
some_is a b is = cc

edit_kind : (request : Request) (block : ℕ) (e : Edit) → edit_of request block ≡ Some e → is_put_request request ≡ is_put e
edit_kind (Look id) block e is = absurd (cc)
edit_kind (Put id seen head text) block e is = ap is_put (some_is (edit.Put id seen text) e is)
edit_kind (Add anchor head text) block e is = ap is_put (some_is (edit.Add anchor block text) e is)
edit_kind (Cut id seen) block e is = ap is_put (some_is (edit.Cut id seen) e is)
edit_kind (LoopAt line) block e is = absurd (cc)
edit_kind VerdictNow block e is = absurd (cc)
edit_kind LookHead block e is = absurd (cc)
edit_kind Texts block e is = absurd (cc)
edit_kind (PutHead seen names) block e is = ap is_put (some_is (edit.Head seen names) e is)

-- a command's edit is a put where the command is one
pub put_kind : (m : Memory) (c : Command) (request : Request) (block : ℕ) (e : Edit) → asked_of_book m c ≡ Ok request → edit_of request block ≡ Some e → is_put_command c ≡ is_put e
put_kind m c request block e asks is = asked_kind m c request asks ∙ edit_kind request block e is
