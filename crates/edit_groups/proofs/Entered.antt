-- An entry that an answer leaves, and what undoes it.
use Rattle.std.proofs.Common.{◌≡◌, ℕ, zero, suc, ◌+◌, ◌<◌, ◌≤◌, Bool, true, false, cond, List, [], ◌∷◌, ◌++◌, length, map, slice_get, Option, Some, None, Result, Ok, Err, IfSome, IsSome, option_and_then, option_map, nat_lt, ◌==◌, sym, ap, ◌∙◌, refl, subst, append_assoc, append-nil, length-append, arith}
use Rattle.std.specs.Option.{option_map_or}
use Rattle.std.proofs.lemmas.Bool.{eqb-true}
use Rattle.carriage_model.specs.declared.verdict.Brief.{Brief}
use Rattle.edit_journal.specs.declared.edit.Edit.{Edit}
use Rattle.edit_journal.specs.declared.edit.Edit.TheVariants as edit
use Rattle.edit_journal.specs.declared.edit.Entry.{Entry}
use Rattle.edit_journal.specs.declared.opening.Opening.{Opening}
use Rattle.edit_journal.specs.Documents.{AreTextsKnown, Block, Document, block_of, document_of, text_at}
use Rattle.edit_journal.specs.Entries.{entry_at}
use Rattle.edit_journal.proofs.Known.{all_known, text_longer}
use Rattle.edit_book.specs.Memory.{IsRequestAnswered, asked_entry}
use Rattle.edit_book.specs.Replies.{Request, Look, Put, Add, Cut, LoopAt, VerdictNow, LookHead, Texts, PutHead, accepted_block, cut_number, edit_of, entry_of, refusal_or_else, refusal_of, refused_entries, refused_head, refused_lines, refused_name, refused_stamp}
use Rattle.edit_book.specs.declared.reply.Reply.{Reply}
use Rattle.edit_book.specs.declared.reply.Reply.TheVariants as reply
use Rattle.edit_groups.specs.Answers.{AreAccepted, request_undoing}
use Rattle.edit_groups.specs.Chunks.{Undoable, undoable_edit, undoable_in}
use Rattle.edit_groups.specs.Groups.{IsUndoable}
use Rattle.edit_groups.proofs.Accepted.{IsEditAsked, accepted_edit}

last_got : {X : Type 0} (xs : List X) (x : X) → slice_get (xs ++ x ∷ []) (length xs) ≡ Some x
last_got [] x = refl
last_got (y ∷ xs) x = last_got xs x

abbrev text_put : Opening → List Entry → Edit → Option (List (List ℕ))
text_put o journal (edit.Put id seen text) = text_at o journal id seen
text_put o journal (edit.Add anchor id text) = None
text_put o journal (edit.Cut id seen) = None
text_put o journal (edit.Head seen names) = None

-- what was asked of the book, and the accepted reply, where that leaves an entry
pub record IsEntered (session : ℕ) (asked : Result Request Reply) (told : Reply) (e : Entry) : Type 0 where
  pub request : Request
  pub version : ℕ
  pub block : ℕ
  pub brief : Brief
  pub asked_is : asked ≡ Ok request
  pub told_is : told ≡ reply.Accepted version block brief
  pub edit_is : edit_of request block ≡ Some e.edit
  pub session_is : e.session ≡ session

accepted_in : (session : ℕ) (request : Request) (told : Reply) (e : Entry) → entry_of session request told ≡ Some e → IsEntered session (Ok request) told e
accepted_in session request (reply.Accepted version block brief) e is = go (edit_of request block) refl is
  where
    go : (o : Option Edit) → edit_of request block ≡ o → option_map (λ (x : Edit). record { session = session; edit = x }) o ≡ Some e → IsEntered session (Ok request) (reply.Accepted version block brief) e
    go None none is = absurd (cc)
    go (Some x) some is = let same : record { session = session; edit = x } ≡ e = cc in
        record { request = request; version = version; block = block; brief = brief; asked_is = refl; told_is = refl; edit_is = some ∙ ap (λ (y : Entry). Some y.edit) same; session_is = ap (λ (y : Entry). y.session) (sym same) }
accepted_in session request (reply.Shown version block stamp first text) e is = absurd (cc)
accepted_in session request (reply.Loop version fact) e is = absurd (cc)
accepted_in session request (reply.Now version verdict text) e is = absurd (cc)
accepted_in session request (reply.Texts version blocks) e is = absurd (cc)
accepted_in session request (reply.Stale version block seen now) e is = absurd (cc)
accepted_in session request (reply.Gone version block at) e is = absurd (cc)
accepted_in session request (reply.NoBlock version block ids) e is = absurd (cc)
accepted_in session request (reply.Full version what limit) e is = absurd (cc)
accepted_in session request (reply.Unseen name) e is = absurd (cc)
accepted_in session request (reply.BlockLong lines) e is = absurd (cc)
accepted_in session request reply.NoMemory e is = absurd (cc)

pub entry_is_entered : (session : ℕ) (asked : Result Request Reply) (told : Reply) (e : Entry) → asked_entry session asked told ≡ Some e → IsEntered session asked told e
entry_is_entered session (Ok request) told e is = accepted_in session request told e is
entry_is_entered session (Err refusal) told e is = absurd (cc)

-- both of two refusals don't apply
or_none : (a b : Option Reply) → refusal_or_else a b ≡ None → (a ≡ None) × (b ≡ None)
or_none None b is = (refl, is)
or_none (Some a) b is = absurd (cc)

-- the text that a put replaces is known
replaced : (o : Opening) (journal : List Entry) (blocks : List Block) (id seen : ℕ) (b : Block) → AreTextsKnown o journal blocks → block_of blocks id ≡ Some b → b.stamp ≡ seen → text_at o journal id seen ≡ Some b.lines
replaced o journal [] id seen b known is stamp = absurd (cc)
replaced o journal (x ∷ blocks) id seen b known is stamp = go (λ r. replaced o journal blocks id seen b known.1 r stamp) (x.id == id) refl is
  where
    go : (block_of blocks id ≡ Some b → text_at o journal id seen ≡ Some b.lines) → (t : Bool) → (x.id == id) ≡ t → cond t (Some x) (block_of blocks id) ≡ Some b → text_at o journal id seen ≡ Some b.lines
    go behind true same some = let this : x ≡ b = cc in
        subst (λ (y : Block). text_at o journal id seen ≡ Some y.lines) this
        (subst (λ (p : ℕ × ℕ). text_at o journal p.0 p.1 ≡ Some x.lines) (λ i. (eqb-true x.id id same i, (ap (λ (y : Block). y.stamp) this ∙ stamp) i)) known.0)
    go behind false other some = behind some

-- a block that nothing refuses is there
named_there : (d : Document) (journal : List Entry) (id : ℕ) → refused_name d journal id ≡ None → (b : Block) × (block_of d.blocks id ≡ Some b)
named_there d journal id free = go (nat_lt id d.drawn) (block_of d.blocks id) refl free
  where
    go : (t : Bool) (o : Option Block) → block_of d.blocks id ≡ o → cond t (option_map_or (λ b. None) o (Some (reply.Gone (length journal) id (cut_number journal id)))) (Some (reply.NoBlock (length journal) id d.drawn)) ≡ None
        → (b : Block) × (block_of d.blocks id ≡ Some b)
    go true None none is = absurd (cc)
    go true (Some b) some is = (b, some)
    go false o some is = absurd (cc)

-- and has the stamp that was seen
stamp_seen : (d : Document) (journal : List Entry) (id seen : ℕ) (b : Block) → block_of d.blocks id ≡ Some b → refused_stamp d journal id seen ≡ None → b.stamp ≡ seen
stamp_seen d journal id seen b some free = go (b.stamp == seen) refl (ap stale (sym some) ∙ free)
  where
    stale : Option Block → Option Reply
    stale o = option_and_then (λ x. cond (x.stamp == seen) None (Some (reply.Stale (length journal) id seen x.stamp))) o

    go : (t : Bool) → (b.stamp == seen) ≡ t → cond t None (Some (reply.Stale (length journal) id seen b.stamp)) ≡ None → b.stamp ≡ seen
    go true same is = eqb-true b.stamp seen same
    go false other is = absurd (cc)

put_replaces : (o : Opening) (journal : List Entry) (id seen head : ℕ) (text : List (List ℕ)) → refusal_of (document_of o journal) journal (Put id seen head text) ≡ None → (old : List (List ℕ)) × (text_at o journal id seen ≡ Some old)
put_replaces o journal id seen head text free = let d : Document = document_of o journal in
    let names = or_none (refused_name d journal id) (refusal_or_else (refused_stamp d journal id seen) (refusal_or_else (refused_head d journal head) (refusal_or_else (refused_entries journal) (refused_lines d journal (edit.Put id seen text))))) free in
    let stamps = or_none (refused_stamp d journal id seen) (refusal_or_else (refused_head d journal head) (refusal_or_else (refused_entries journal) (refused_lines d journal (edit.Put id seen text)))) names.1 in
    let there = named_there d journal id names.0 in
    (there.0.lines, replaced o journal d.blocks id seen there.0 (all_known o journal).blocks there.1 (stamp_seen d journal id seen there.0 there.1 stamps.0))

-- what undoes a put or an add is known where it was accepted
edit_undone : (o : Opening) (journal : List Entry) (session : ℕ) (request : Request) (version block : ℕ) (e : Entry) → refusal_of (document_of o journal) journal request ≡ None → edit_of request block ≡ Some e.edit
    → IfSome (undoable_edit (length journal + 1) e.edit) (IsUndoable o (journal ++ e ∷ []))
edit_undone o journal session request version block e free asks = go e.edit request asks free refl
  where
    stands : (f : Edit) → e.edit ≡ f → option_map (λ (x : Entry). x.edit) (entry_at (journal ++ e ∷ []) (length journal + 1)) ≡ Some f
    stands f is = let number : length journal + 1 ≡ suc (length journal) = omega arith in
        ap (λ (n : ℕ). option_map (λ (x : Entry). x.edit) (entry_at (journal ++ e ∷ []) n)) number ∙ newest (length journal) refl f is
      where
        newest : (k : ℕ) → k ≡ length journal → (f : Edit) → e.edit ≡ f → option_map (λ (x : Entry). x.edit) (entry_at (journal ++ e ∷ []) (suc k)) ≡ Some f
        newest k at f is = ap (λ (n : ℕ). option_map (λ (x : Entry). x.edit) (slice_get (journal ++ e ∷ []) n)) at ∙ (ap (option_map (λ (x : Entry). x.edit)) (last_got journal e) ∙ ap Some is)

    go : (f : Edit) (request : Request) → edit_of request block ≡ Some f → refusal_of (document_of o journal) journal request ≡ None → e.edit ≡ f → IfSome (undoable_edit (length journal + 1) f) (IsUndoable o (journal ++ e ∷ []))
    go (edit.Cut id seen) request asks free is = tt
    go (edit.Head seen names) request asks free is = tt
    go (edit.Add anchor id text) request asks free is = record { stands = stands (edit.Add anchor id text) is; undone = refl }
    go (edit.Put id seen text) (Put id' seen' head text') asks free is =
        let same : edit.Put id' seen' text' ≡ edit.Put id seen text = cc in
        let old = put_replaces o journal id' seen' head text' free in
        let here : text_at o journal id seen ≡ Some old.0 = ap (λ (f : Edit). text_put o journal f) (sym same) ∙ old.1 in
        record { stands = stands (edit.Put id seen text) is; undone = subst (λ (t : Option (List (List ℕ))). IsSome (option_map (Put id (length journal + 1) (document_of o (journal ++ e ∷ [])).header.stamp) t)) (sym (text_longer o journal (e ∷ []) id seen old.0 here)) refl }
    go (edit.Put id seen text) (Look id') asks free is = absurd (cc)
    go (edit.Put id seen text) (Add anchor head text') asks free is = absurd (cc)
    go (edit.Put id seen text) (Cut id' seen') asks free is = absurd (cc)
    go (edit.Put id seen text) (LoopAt line) asks free is = absurd (cc)
    go (edit.Put id seen text) VerdictNow asks free is = absurd (cc)
    go (edit.Put id seen text) LookHead asks free is = absurd (cc)
    go (edit.Put id seen text) Texts asks free is = absurd (cc)
    go (edit.Put id seen text) (PutHead seen' names) asks free is = absurd (cc)

-- what undoes an entry that was accepted alone
pub one_undone : (o : Opening) (journal : List Entry) (session : ℕ) (asked : Result Request Reply) (told : Reply) (e : Entry) → IsRequestAnswered o journal asked told → asked_entry session asked told ≡ Some e
    → IfSome (undoable_in (length journal + 1) (e.edit ∷ [])) (IsUndoable o (journal ++ e ∷ []))
one_undone o journal session asked told e answered is =
    let x = entry_is_entered session asked told e is in
    let due = subst (λ (p : Result Request Reply × Reply). IsRequestAnswered o journal p.0 p.1) (λ i. (x.asked_is i, x.told_is i)) answered in
    edit_undone o journal session x.request x.version x.block e (accepted_edit o journal x.request x.version x.block x.brief due).0 x.edit_is

-- and of those that were accepted one after the other
pub all_undone : (o : Opening) (session : ℕ) (journal : List Entry) (asked : List (Result Request Reply)) (entries : List Entry) → AreAccepted o session journal asked entries
    → IfSome (undoable_in (length journal + 1) (map (λ (e : Entry). e.edit) entries)) (IsUndoable o (journal ++ entries))
all_undone o session journal [] entries a = subst (λ (es : List Entry). IfSome (undoable_in (length journal + 1) (map (λ (e : Entry). e.edit) es)) (IsUndoable o (journal ++ es))) (sym a) tt
all_undone o session journal (x ∷ []) entries a =
    subst (λ (es : List Entry). IfSome (undoable_in (length journal + 1) (map (λ (e : Entry). e.edit) es)) (IsUndoable o (journal ++ es))) (sym (a.5 ∙ ap (λ (es : List Entry). a.1 ∷ es) a.6)) (one_undone o journal session x a.0 a.1 a.3 a.4)
all_undone o session journal (x ∷ y ∷ asked) entries a =
    subst (λ (es : List Entry). IfSome (undoable_in (length journal + 1) (map (λ (e : Entry). e.edit) es)) (IsUndoable o (journal ++ es))) (sym (a.5 ∙ ap (λ (es : List Entry). a.1 ∷ es) a.6.5)) tt

-- what is there stays there
got_longer : {X : Type 0} (xs ys : List X) (i : ℕ) (x : X) → slice_get xs i ≡ Some x → slice_get (xs ++ ys) i ≡ Some x
got_longer [] ys i x is = absurd (cc)
got_longer (z ∷ xs) ys zero x is = is
got_longer (z ∷ xs) ys (suc i) x is = got_longer xs ys i x is

edit_longer : (journal more : List Entry) (n : ℕ) (f : Edit) → option_map (λ (e : Entry). e.edit) (entry_at journal n) ≡ Some f → option_map (λ (e : Entry). e.edit) (entry_at (journal ++ more) n) ≡ Some f
edit_longer journal more zero f is = is
edit_longer journal more (suc i) f is = go (slice_get journal i) refl is
  where
    go : (o : Option Entry) → slice_get journal i ≡ o → option_map (λ (e : Entry). e.edit) o ≡ Some f → option_map (λ (e : Entry). e.edit) (slice_get (journal ++ more) i) ≡ Some f
    go None none is = absurd (cc)
    go (Some x) some is = ap (option_map (λ (e : Entry). e.edit)) (got_longer journal more i x some) ∙ is

undone_longer : (o : Opening) (journal more : List Entry) (n : ℕ) (f : Edit) → IsSome (request_undoing o journal n f) → IsSome (request_undoing o (journal ++ more) n f)
undone_longer o journal more n (edit.Put id seen text) is = go (text_at o journal id seen) refl is
  where
    go : (t : Option (List (List ℕ))) → text_at o journal id seen ≡ t → IsSome (option_map (Put id n (document_of o journal).header.stamp) t) → IsSome (option_map (Put id n (document_of o (journal ++ more)).header.stamp) (text_at o (journal ++ more) id seen))
    go None none is = absurd (let i = is in cc)
    go (Some old) some is = subst (λ (t : Option (List (List ℕ))). IsSome (option_map (Put id n (document_of o (journal ++ more)).header.stamp) t)) (sym (text_longer o journal more id seen old some)) refl
undone_longer o journal more n (edit.Add anchor id text) is = refl
undone_longer o journal more n (edit.Cut id seen) is = absurd (let i = is in cc)
undone_longer o journal more n (edit.Head seen names) is = absurd (let i = is in cc)

-- what can be undone stays so
pub undoable_longer : (o : Opening) (journal more : List Entry) (found : Option Undoable) → IfSome found (IsUndoable o journal) → IfSome found (IsUndoable o (journal ++ more))
undoable_longer o journal more None is = tt
undoable_longer o journal more (Some last) is = record { stands = edit_longer journal more last.number last.edit is.stands; undone = undone_longer o journal more last.number last.edit is.undone }
