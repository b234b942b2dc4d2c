-- The edits of a group that was done, and what a session has heard of a group.
use Rattle.std.proofs.Common.{◌≡◌, ◌≢◌, inl, inr, ⊎_elim, ℕ, suc, ◌+◌, ◌<◌, ◌≤◌, ◌^◌, Bool, true, false, ◌&&◌, List, [], ◌∷◌, ◌++◌, length, map, nat_le, nat_lt, Option, Some, None, Result, Ok, Err, sym, ap, ◌∙◌, refl, subst, arith}
use Rattle.std.specs.List.{list_all}
use Rattle.std.proofs.lemmas.Bool.{leb-true, ltb-true}
use Rattle.carriage_model.specs.declared.verdict.Brief.{Brief}
use Rattle.edit_journal.specs.declared.edit.Anchor.{Anchor}
use Rattle.edit_journal.specs.declared.edit.Edit.{Edit}
use Rattle.edit_journal.specs.declared.edit.Edit.TheVariants as edit
use Rattle.edit_journal.specs.declared.edit.Entry.{Entry}
use Rattle.edit_journal.specs.declared.opening.Opening.{Opening}
use Rattle.edit_journal.specs.Documents.{Document, after, document_of}
use Rattle.edit_journal.specs.Entries.{entry_limit, head_id}
use Rattle.script_reader.specs.Groups.{is_edit, is_lawful_step}
use Rattle.script_reader.specs.declared.command.Command.{Command}
use Rattle.script_reader.specs.declared.command.Command.TheVariants as command
use Rattle.script_reader.specs.declared.step.Step.TheVariants as step
use Rattle.edit_book.specs.Memory.{Memory, IsRequestAnswered, asked_of_book, asked_entry, known_header_stamp}
use Rattle.edit_book.specs.Replies.{Request, Put, Add, Cut, IsReply, block_limit, edit_of, refusal_or_else, refusal_of, refused_entries, refused_head, refused_lines, refused_name, refused_stamp}
use Rattle.edit_book.specs.declared.reply.Reply.{Reply}
use Rattle.edit_book.specs.declared.reply.Reply.TheVariants as reply
use Rattle.edit_book.proofs.NamesKept.{first_none, name_drawn}
use Rattle.edit_book.proofs.Puts.{doc_snoc}
use Rattle.turn_book.specs.declared.view.View.{View}
use Rattle.turn_book.specs.Journal.{entry_list}
use Rattle.turn_book.specs.Turn.{Turned}
use Rattle.turn_book.proofs.Takes.{seen_after_turn, taken_short}
use Rattle.edit_groups.specs.Answers.{AreAccepted, Group, IsGroupAnswered, IsStep, done, refused}
use Rattle.edit_groups.specs.Chunks.{chunk_of, entries_of_chunks, undoable_of_session}
use Rattle.edit_groups.specs.Groups as groups
use Rattle.edit_groups.specs.Sessions.{HeardReply, IsStepHeard, group_core, short_reply}
use Rattle.edit_groups.specs.Shared.{session_of_chunk}
use Rattle.edit_groups.specs.Turns.{AreEditsOfGroup, IsGroupHeard, IsTaught, IsTaughtWhereDone, IsToldOf, ids_drawn}
use Rattle.edit_groups.specs.declared.chunk.Chunk.{Chunk}
use Rattle.edit_groups.specs.declared.reply.GroupCommand.TheVariants as asks
use Rattle.edit_groups.specs.declared.reply.GroupEdit.{GroupEdit}
use Rattle.edit_groups.specs.declared.reply.GroupReply.{GroupReply}
use Rattle.edit_groups.specs.declared.reply.GroupReply.TheVariants as group
use Rattle.edit_groups.specs.declared.reply.Told.{Told}
use Rattle.edit_groups.proofs.Accepted.{accepted_edit}
use Rattle.edit_groups.proofs.Asked.{add_asked, cut_asked, put_asked}
use Rattle.edit_groups.proofs.CoreLaws.{is_core}
use Rattle.edit_groups.proofs.Entered.{IsEntered, entry_is_entered}

pub both_true : (a b : Bool) → a && b ≡ true → (a ≡ true) × (b ≡ true)
both_true true b is = (refl, is)
both_true false b is = absurd (cc)

abbrev block_in_add : Edit → ℕ
block_in_add (edit.Add anchor block text) = block
block_in_add e = 0

-- an edit of a group and the next document's count of ids
record IsEditTold (m : Memory) (ids number : ℕ) (c : Command) (d : Document) (e : Edit) : Type 0 where
  told : IsToldOf m ids c e
  drawn : (after d number e).drawn ≡ ids + ids_drawn c

some_edit : (a b : Edit) → Some a ≡ Some b → a ≡ b
some_edit a b is = cc

-- the edit of a request with this block
put_edit : (request : Request) (block id seen head : ℕ) (text : List (List ℕ)) (e : Edit) → request ≡ Put id seen head text → edit_of request block ≡ Some e → edit.Put id seen text ≡ e
put_edit request block id seen head text e is has = some_edit (edit.Put id seen text) e (ap (λ (q : Request). edit_of q block) (sym is) ∙ has)

add_edit : (request : Request) (block head : ℕ) (anchor : Anchor) (text : List (List ℕ)) (e : Edit) → request ≡ Add anchor head text → edit_of request block ≡ Some e → edit.Add anchor block text ≡ e
add_edit request block head anchor text e is has = some_edit (edit.Add anchor block text) e (ap (λ (q : Request). edit_of q block) (sym is) ∙ has)

cut_edit : (request : Request) (block id seen : ℕ) (e : Edit) → request ≡ Cut id seen → edit_of request block ≡ Some e → edit.Cut id seen ≡ e
cut_edit request block id seen e is has = some_edit (edit.Cut id seen) e (ap (λ (q : Request). edit_of q block) (sym is) ∙ has)

module _ (o : Opening) (n : ℕ) (m : Memory) (journal : List Entry) (ids : ℕ) (told : Reply) (e : Entry) (drawn : (document_of o journal).drawn ≡ ids) (below : ids < head_id) where
  abbrev d : Document
  d = document_of o journal

  due : (c : Command) (x : IsEntered n (asked_of_book m c) told e) → IsRequestAnswered o journal (asked_of_book m c) told → IsReply o journal x.request (reply.Accepted x.version x.block x.brief)
  due c x answered = subst (λ (z : Result Request Reply × Reply). IsRequestAnswered o journal z.0 z.1) (λ i. (x.asked_is i, x.told_is i)) answered

  -- the block of an accepted put was drawn
  put_drawn : (request : Request) (id seen head version block : ℕ) (text : List (List ℕ)) (brief : Brief) → request ≡ Put id seen head text → IsReply o journal request (reply.Accepted version block brief) → id < d.drawn
  put_drawn request id seen head version block text brief is due =
      let free : refusal_of d journal (Put id seen head text) ≡ None = ap (refusal_of d journal) (sym is) ∙ (accepted_edit o journal request version block brief due).0 in
      name_drawn d journal id (first_none (refused_name d journal id) (refusal_or_else (refused_stamp d journal id seen) (refusal_or_else (refused_head d journal head) (refusal_or_else (refused_entries journal) (refused_lines d journal (edit.Put id seen text))))) free)

  -- an added block has the next id
  add_drawn : (request : Request) (head version block : ℕ) (anchor : Anchor) (text : List (List ℕ)) (brief : Brief) → request ≡ Add anchor head text → IsReply o journal request (reply.Accepted version block brief) → d.drawn ≡ block
  add_drawn request head version block anchor text brief is due =
      let x = (accepted_edit o journal request version block brief due).1 in
      ap block_in_add (add_edit request d.drawn head anchor text x.e is x.next ∙ sym (add_edit request block head anchor text x.e is x.here))

  edit_told : (c : Command) → is_edit c ≡ true → IsRequestAnswered o journal (asked_of_book m c) told → asked_entry n (asked_of_book m c) told ≡ Some e → IsEditTold m ids (length journal + 1) c d e.edit
  edit_told c is answered some = go c (entry_is_entered n (asked_of_book m c) told e some) is answered
    where
      go : (c : Command) → IsEntered n (asked_of_book m c) told e → is_edit c ≡ true → IsRequestAnswered o journal (asked_of_book m c) told → IsEditTold m ids (length journal + 1) c d e.edit
      go (command.Put name text) x is answered =
          let p = put_asked m name text x.request x.asked_is in
          let at : p.id < d.drawn = put_drawn x.request p.id p.seen (known_header_stamp m) x.version x.block text x.brief p.request_is (due (command.Put name text) x answered) in
          let same : edit.Put p.id p.seen text ≡ e.edit = put_edit x.request x.block p.id p.seen (known_header_stamp m) text e.edit p.request_is x.edit_is in
          record {
            told = subst (IsToldOf m ids (command.Put name text)) same (p.known, λ eq. omega (arith, eq, at, drawn, below));
            drawn = ap (λ (z : Edit). (after d (length journal + 1) z).drawn) (sym same) ∙ omega (arith, drawn);
          }
      go (command.Add place text) x is answered =
          let p = add_asked m place text x.request x.asked_is in
          let at : d.drawn ≡ x.block = add_drawn x.request (known_header_stamp m) x.version x.block p.anchor text x.brief p.request_is (due (command.Add place text) x answered) in
          let same : edit.Add p.anchor x.block text ≡ e.edit = add_edit x.request x.block (known_header_stamp m) p.anchor text e.edit p.request_is x.edit_is in
          record {
            told = subst (IsToldOf m ids (command.Add place text)) same (sym drawn ∙ at, λ eq. omega (arith, eq, at, drawn, below));
            drawn = ap (λ (z : Edit). (after d (length journal + 1) z).drawn) (sym same) ∙ omega (arith, drawn);
          }
      go (command.Cut name) x is answered =
          let p = cut_asked m name x.request x.asked_is in
          let same : edit.Cut p.id p.seen ≡ e.edit = cut_edit x.request x.block p.id p.seen e.edit p.request_is x.edit_is in
          record {
            told = subst (IsToldOf m ids (command.Cut name)) same tt;
            drawn = ap (λ (z : Edit). (after d (length journal + 1) z).drawn) (sym same) ∙ omega (arith, drawn);
          }
      go (command.Look name) x is answered = absurd (cc)
      go (command.LoopAt line) x is answered = absurd (cc)
      go command.Verdict x is answered = absurd (cc)
      go command.LookHead x is answered = absurd (cc)
      go (command.PutHead names) x is answered = absurd (cc)

  -- and so of those behind it
  next_drawn : (c : Command) → IsEditTold m ids (length journal + 1) c d e.edit → (document_of o (journal ++ e ∷ [])).drawn ≡ ids + ids_drawn c
  next_drawn c t = ap (λ (x : Document). x.drawn) (doc_snoc o journal e) ∙ t.drawn

pub few_ids : (c : Command) → ids_drawn c ≤ 1
few_ids (command.Add place text) = omega arith
few_ids (command.Put name text) = omega arith
few_ids (command.Cut name) = omega arith
few_ids (command.Look name) = omega arith
few_ids (command.LoopAt line) = omega arith
few_ids command.Verdict = omega arith
few_ids command.LookHead = omega arith
few_ids (command.PutHead names) = omega arith

-- the edits of a group that is done are those of its commands
edits_told : (o : Opening) (n : ℕ) (m : Memory) (journal : List Entry) (ids : ℕ) (cs : List Command) (entries : List Entry) → (document_of o journal).drawn ≡ ids → ids + length cs ≤ head_id → list_all is_edit cs ≡ true
    → AreAccepted o n journal (map (asked_of_book m) cs) entries → AreEditsOfGroup m ids cs (map (λ e. e.edit) entries)
edits_told o n m journal ids [] entries drawn below is none = subst (λ (es : List Entry). AreEditsOfGroup m ids [] (map (λ e. e.edit) es)) (sym none) tt
edits_told o n m journal ids (c ∷ cs) entries drawn below is h =
    let both = both_true (is_edit c) (list_all is_edit cs) is in
    let e : Entry = h.1 in
    let rest : List Entry = h.2 in
    let t = edit_told o n m journal ids h.0 e drawn (omega arith) c both.0 h.3 h.4 in
    let few = few_ids c in
    subst (λ (es : List Entry). AreEditsOfGroup m ids (c ∷ cs) (map (λ e. e.edit) es)) (sym h.5)
    (t.told, edits_told o n m (journal ++ e ∷ []) (ids + ids_drawn c) cs rest (next_drawn o n m journal ids h.0 e drawn (omega arith) c t) (omega (arith, few)) both.1 h.6)

many_accepted : (o : Opening) (n : ℕ) (journal : List Entry) (asked : List (Result Request Reply)) (entries : List Entry) → AreAccepted o n journal asked entries → length entries ≡ length asked
many_accepted o n journal [] entries none = ap length none
many_accepted o n journal (a ∷ asked) entries h = ap length h.5 ∙ ap suc (many_accepted o n (journal ++ h.1 ∷ []) asked h.2 h.6)

-- what is lawful of a group
pub record IsLawfulGroup (cs : List Command) : Type 0 where
  pub some : 0 < length cs
  pub few : length cs ≤ 64
  pub edits : list_all is_edit cs ≡ true

pub lawful_group : (cs : List Command) → is_lawful_step (step.Group cs) ≡ true → IsLawfulGroup cs
lawful_group cs is =
    let first = both_true (nat_lt 0 (length cs) && nat_le (length cs) 64) (list_all is_edit cs) is in
    let second = both_true (nat_lt 0 (length cs)) (nat_le (length cs) 64) first.0 in
    record { some = ltb-true 0 (length cs) second.0; few = leb-true (length cs) 64 second.1; edits = first.1 }

taught : (o : Opening) (n : ℕ) (m : Memory) (journal : List Entry) (ids : ℕ) (cs : List Command) (asked_are : List (Result Request Reply)) (r : GroupReply) (edits : List Edit) → (document_of o journal).drawn ≡ ids → length journal ≤ entry_limit → ids ≤ block_limit + entry_limit
    → IsLawfulGroup cs → asked_are ≡ map (asked_of_book m) cs → IsGroupAnswered o n journal asked_are r edits → IsTaughtWhereDone m ids cs r edits
taught o n m journal ids cs asked_are r edits drawn entries_fit ids_fit lawful are (done entries brief accepted at) =
    let few = lawful.few in
    record {
      told = edits_told o n m journal ids cs entries drawn (omega (arith, ids_fit, few)) lawful.edits (subst (λ (a : List (Result Request Reply)). AreAccepted o n journal a entries) are accepted);
      numbers = omega (arith, entries_fit, few);
      ids_fit = omega (arith, ids_fit, few);
    }
taught o n m journal ids cs asked_are r edits drawn entries_fit ids_fit lawful are (refused front a back entries told asked accepted answered none) = tt

-- without a turn
pub group_short : (o : Opening) (n : ℕ) (m : Memory) (cs : List Command) (told : Told) (v w : View Opening Chunk) → told.reply ≡ group.NoMemory → w ≡ v → IsGroupHeard o n m cs told v w
group_short o n m cs told v w is same = subst (IsGroupHeard o n m cs told v) (sym same) (record { heard = short_reply; reply_is = is; taken = taken_short (group_core o) (is_core o) n m (step.Group cs) v; taught = tt })

-- at a turn
pub group_heard : (o : Opening) (n : ℕ) (m : Memory) (cs : List Command) (edits : List GroupEdit) (told : Told) (P : List Chunk → Option Chunk → Type 0) (v w : View Opening Chunk) → IsLawfulGroup cs → map groups.edit_asked edits ≡ map (asked_of_book m) cs
    → Turned session_of_chunk n (λ before added. groups.IsRightGroupReply o before n (asks.Group edits) told added × P before added) v w → IsGroupHeard o n m cs told v w
group_heard o n m cs edits told P v w lawful are t = ⊎_elim
    (λ none. record {
      heard = short_reply;
      reply_is = none.0;
      taken = record {
        more = t.catches.seen.0;
        added = None;
        foreign = t.catches.seen.2;
        entry = refl;
        given = inl refl;
        seen = seen_after_turn t ∙ ap (λ (x : Option Chunk). (v.seen ++ t.catches.seen.0) ++ entry_list x) none.1;
        first = ap (λ (x : View Opening Chunk). x.first) t.after;
        past = ap (λ (x : View Opening Chunk). x.past) t.after;
      };
      taught = tt;
    })
    (λ due.
    let is = t.is_right.0 in
    let found : t.before ≡ v.seen ++ t.catches.seen.0 = t.catches.seen.1 in
    record {
      heard = record { reply = told.reply; before = length t.before; edits = due.0 };
      reply_is = refl;
      taken = record {
        more = t.catches.seen.0;
        added = t.added;
        foreign = t.catches.seen.2;
        entry = sym due.2;
        given = inr (subst (λ (j : List Chunk). IsStepHeard o n j m (step.Group cs) (record { reply = told.reply; before = length t.before; edits = due.0 })) found (record {
          answer = subst (λ (a : List (Result Request Reply)). IsGroupAnswered o n (entries_of_chunks t.before) a told.reply due.0) are due.1;
          given = λ yes. refl;
        }));
        seen = seen_after_turn t;
        first = ap (λ (x : View Opening Chunk). x.first) t.after;
        past = ap (λ (x : View Opening Chunk). x.past) t.after;
      };
      taught = taught o n m (entries_of_chunks t.before) told.ids cs (map groups.edit_asked edits) told.reply due.0 (sym is.ids) is.entries_fit is.ids_fit lawful are due.1;
    })
    t.is_right.0.answer
