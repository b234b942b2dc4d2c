-- What a command asks, by what the session knows.
use Rattle.std.proofs.Common.{◌≡◌, ℕ, ◌<◌, ◌≤◌, cond, List, Option, Some, None, Result, Ok, Err, length, sym, ap, ◌∙◌, arith}
use Rattle.std.specs.Option.{option_map_or}
use Rattle.std.proofs.lemmas.Bool.{le-leb, lt-leb}
use Rattle.edit_journal.specs.declared.edit.BlockName.{BlockName}
use Rattle.edit_book.specs.declared.reply.Reply.{Reply}
use Rattle.edit_book.specs.declared.reply.Reply.TheVariants as reply
use Rattle.edit_book.specs.Replies.{Request}
use Rattle.edit_book.specs.Memory.{Memory, block_id_of_name, if_named, if_seen, unless_long}

pub named_some : (m : Memory) (name : BlockName) (id : ℕ) (ask : ℕ → Result Request Reply) → Some id ≡ block_id_of_name m name → if_named m name ask ≡ ask id
named_some m name id ask is = ap (λ (o : Option ℕ). option_map_or ask o (Err (reply.Unseen name))) (sym is)

pub named_none : (m : Memory) (name : BlockName) (ask : ℕ → Result Request Reply) → None ≡ block_id_of_name m name → if_named m name ask ≡ Err (reply.Unseen name)
named_none m name ask is = ap (λ (o : Option ℕ). option_map_or ask o (Err (reply.Unseen name))) (sym is)

pub seen_some : (m : Memory) (name : BlockName) (id stamp : ℕ) (ask : ℕ → ℕ → Result Request Reply) → Some id ≡ block_id_of_name m name → Some stamp ≡ m.stamps id → if_seen m name ask ≡ ask id stamp
seen_some m name id stamp ask is has =
    named_some m name id (λ id. option_map_or (ask id) (m.stamps id) (Err (reply.Unseen name))) is ∙ ap (λ (o : Option ℕ). option_map_or (ask id) o (Err (reply.Unseen name))) (sym has)

pub seen_none : (m : Memory) (name : BlockName) (id : ℕ) (ask : ℕ → ℕ → Result Request Reply) → Some id ≡ block_id_of_name m name → None ≡ m.stamps id → if_seen m name ask ≡ Err (reply.Unseen name)
seen_none m name id ask is has =
    named_some m name id (λ id. option_map_or (ask id) (m.stamps id) (Err (reply.Unseen name))) is ∙ ap (λ (o : Option ℕ). option_map_or (ask id) o (Err (reply.Unseen name))) (sym has)

pub seen_unnamed : (m : Memory) (name : BlockName) (ask : ℕ → ℕ → Result Request Reply) → None ≡ block_id_of_name m name → if_seen m name ask ≡ Err (reply.Unseen name)
seen_unnamed m name ask is = named_none m name (λ id. option_map_or (ask id) (m.stamps id) (Err (reply.Unseen name))) is

pub ruleset names = (named_some, named_none, seen_some, seen_none, seen_unnamed)

pub short_text : (text : List (List ℕ)) (request : Request) → length text ≤ 4096 → unless_long text request ≡ Ok request
short_text text request short = ap (λ b. cond b (Ok request) (Err (reply.BlockLong (length text)))) (le-leb (length text) 4096 short)

pub long_text : (text : List (List ℕ)) (request : Request) (lines : ℕ) → 4096 < lines → lines ≡ length text → unless_long text request ≡ Err (reply.BlockLong lines)
long_text text request lines long is =
    ap (λ b. cond b (Ok request) (Err (reply.BlockLong (length text)))) (lt-leb (length text) 4096 (omega arith)) ∙ ap (λ (n : ℕ). Err (reply.BlockLong n)) (sym is)

pub ruleset texts = (short_text, long_text)

pub ruleset asks = (named_some, named_none)
