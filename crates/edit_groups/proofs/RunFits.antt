-- The entries of a legal run fit, one after the other.
use Rattle.std.proofs.Common.{◌≡◌, ◌⊎◌, ⊎_elim, ℕ, ◌+◌, ◌<◌, ◌≤◌, Bool, true, false, cond, ltb, eqb, List, [], ◌∷◌, ◌++◌, length, map, Option, Some, None, IsSome, Result, Ok, Err, option_and_then, option_map, sym, ap, ◌∙◌, refl, subst, arith, length-append}
use Rattle.std.specs.Option.{option_map_or}
use Rattle.std.proofs.lemmas.Bool.{eqb-true}
use Rattle.carriage_model.specs.declared.verdict.Brief.{Brief}
use Rattle.edit_journal.specs.declared.edit.Anchor.{Anchor}
use Rattle.edit_journal.specs.declared.edit.Anchor.TheVariants.{Start, After}
use Rattle.edit_journal.specs.declared.edit.Edit.{Edit}
use Rattle.edit_journal.specs.declared.edit.Edit.TheVariants as edit
use Rattle.edit_journal.specs.declared.edit.Entry.{Entry}
use Rattle.edit_journal.specs.declared.opening.Opening.{Opening}
use Rattle.edit_journal.specs.Documents.{Block, Document, EditFits, HasAnchor, after, after_all, block_of, document_of, document_opened, stamp_at}
use Rattle.edit_journal.specs.Entries.{head_id}
use Rattle.script_reader.specs.declared.step.Step.{Step}
use Rattle.edit_book.specs.Memory.{Memory, IsRequestAnswered, asked_of_book, asked_entry, first_memory}
use Rattle.edit_book.specs.Replies.{Request, Look, Put, Add, Cut, LoopAt, VerdictNow, LookHead, Texts, PutHead, IsReply, cut_number, edit_of, refusal_or_else, refusal_of, refused_anchor, refused_blocks, refused_entries, refused_head, refused_lines, refused_name, refused_stamp}
use Rattle.edit_book.specs.declared.reply.Reply.{Reply}
use Rattle.edit_book.specs.declared.reply.Reply.TheVariants as reply
use Rattle.edit_book.proofs.Puts.{doc_snoc}
use Rattle.turn_book.specs.Legal.{EachEntry}
use Rattle.turn_book.proofs.AcceptedEntries.{entries_hold}
use Rattle.edit_groups.specs.Answers.{AreAccepted, AskedStep, One, Group, Undo, IsCommandAnswered, IsStep, done, refused, nothing, undone, edits_in}
use Rattle.edit_groups.specs.Chunks.{Undoable, chunk_of, entries_by, entries_of_chunks, undoable_of_session}
use Rattle.edit_groups.specs.Laws.{AreFitting}
use Rattle.edit_groups.specs.Sessions.{HeardReply, IsStepHeard, IsLegalRun, group_core, step_asked}
use Rattle.edit_groups.specs.declared.chunk.Chunk.{Chunk}
use Rattle.edit_groups.specs.declared.reply.GroupReply.{GroupReply}
use Rattle.edit_groups.proofs.Accepted.{IsEditAsked, accepted_edit}
use Rattle.edit_groups.proofs.CoreLaws.{is_core}
use Rattle.edit_groups.proofs.Entered.{entry_is_entered}
use Rattle.edit_groups.proofs.Undoable.{entries_push}

first_of : (a b : Option Reply) → refusal_or_else a b ≡ None → a ≡ None
first_of None b is = refl
first_of (Some x) b is = absurd (cc)

rest_of : (a b : Option Reply) → refusal_or_else a b ≡ None → b ≡ None
rest_of None b is = is
rest_of (Some x) b is = absurd (cc)

-- a block that isn't refused is there
record IsThere (d : Document) (id : ℕ) : Type 0 where
  block : Block
  found : block_of d.blocks id ≡ Some block

there : (d : Document) (journal : List Entry) (id : ℕ) → refused_name d journal id ≡ None → IsThere d id
there d journal id none = go (ltb id d.drawn) none
  where
    look : (o : Option Block) → block_of d.blocks id ≡ o → option_map_or (λ b. None) o (Some (reply.Gone (length journal) id (cut_number journal id))) ≡ None → IsThere d id
    look None is none = absurd (cc)
    look (Some b) is none = record { block = b; found = is }

    go : (t : Bool) → cond t (option_map_or (λ b. None) (block_of d.blocks id) (Some (reply.Gone (length journal) id (cut_number journal id)))) (Some (reply.NoBlock (length journal) id d.drawn)) ≡ None → IsThere d id
    go true none = look (block_of d.blocks id) refl none
    go false none = absurd (cc)

-- and has the stamp that was seen
stamp_seen : (d : Document) (journal : List Entry) (id seen : ℕ) → refused_name d journal id ≡ None → refused_stamp d journal id seen ≡ None → stamp_at d.blocks id ≡ Some seen
stamp_seen d journal id seen named none = let t = there d journal id named in
    ap (option_map (λ (b : Block). b.stamp)) t.found ∙ go t.block (eqb t.block.stamp seen) refl
    (ap (option_and_then (λ (b : Block). cond (eqb b.stamp seen) None (Some (reply.Stale (length journal) id seen b.stamp)))) (sym t.found) ∙ none)
  where
    go : (b : Block) (t : Bool) → eqb b.stamp seen ≡ t → cond (eqb b.stamp seen) None (Some (reply.Stale (length journal) id seen b.stamp)) ≡ None → Some b.stamp ≡ Some seen
    go b true is none = ap Some (eqb-true b.stamp seen is)
    go b false is none = absurd (let some = ap (λ (t : Bool). cond t None (Some (reply.Stale (length journal) id seen b.stamp))) (sym is) ∙ none in cc)

head_seen : (d : Document) (journal : List Entry) (seen : ℕ) → refused_head d journal seen ≡ None → d.header.stamp ≡ seen
head_seen d journal seen none = go (eqb d.header.stamp seen) refl none
  where
    go : (t : Bool) → eqb d.header.stamp seen ≡ t → cond t None (Some (reply.Stale (length journal) head_id seen d.header.stamp)) ≡ None → d.header.stamp ≡ seen
    go true is none = eqb-true d.header.stamp seen is
    go false is none = absurd (cc)

has_anchor : (d : Document) (journal : List Entry) (anchor : Anchor) → refused_anchor d journal anchor ≡ None → HasAnchor d anchor
has_anchor d journal Start none = tt
has_anchor d journal (After id) none = let t = there d journal id none in subst (λ (o : Option Block). IsSome o) (sym t.found) refl

some_edit : (a b : Edit) → Some a ≡ Some b → a ≡ b
some_edit a b is = cc

abbrev block_added : Edit → ℕ
block_added (edit.Add anchor block text) = block
block_added e = 0

-- an accepted edit fits the document before it
accepted_fits : (o : Opening) (journal : List Entry) (request : Request) (version block : ℕ) (brief : Brief) (e : Edit) → IsReply o journal request (reply.Accepted version block brief) → edit_of request block ≡ Some e → EditFits (document_of o journal) e
accepted_fits o journal request version block brief e due is = go request a.0 is a.1.here a.1.next
  where
    d : Document
    d = document_of o journal

    a : (refusal_of d journal request ≡ None) × IsEditAsked d (length journal) request version block
    a = accepted_edit o journal request version block brief due

    go : (q : Request) → refusal_of d journal q ≡ None → edit_of q block ≡ Some e → edit_of q block ≡ Some a.1.e → edit_of q d.drawn ≡ Some a.1.e → EditFits d e
    go (Put id seen head text) free is here next =
        let named = first_of (refused_name d journal id) _ free in
        let stamp = first_of (refused_stamp d journal id seen) _ (rest_of (refused_name d journal id) _ free) in
        subst (EditFits d) (some_edit (edit.Put id seen text) e is) (stamp_seen d journal id seen named stamp)
    go (Add anchor head text) free is here next =
        let same : d.drawn ≡ block = ap block_added (some_edit (edit.Add anchor d.drawn text) a.1.e next ∙ sym (some_edit (edit.Add anchor block text) a.1.e here)) in
        subst (EditFits d) (some_edit (edit.Add anchor block text) e is) (sym same, has_anchor d journal anchor (first_of (refused_anchor d journal anchor) _ free))
    go (Cut id seen) free is here next =
        let named = first_of (refused_name d journal id) _ free in
        let stamp = first_of (refused_stamp d journal id seen) _ (rest_of (refused_name d journal id) _ free) in
        subst (EditFits d) (some_edit (edit.Cut id seen) e is) (stamp_seen d journal id seen named stamp)
    go (PutHead seen names) free is here next = subst (EditFits d) (some_edit (edit.Head seen names) e is) (head_seen d journal seen (first_of (refused_head d journal seen) _ free))
    go (Look id) free is here next = absurd (cc)
    go (LoopAt line) free is here next = absurd (cc)
    go VerdictNow free is here next = absurd (cc)
    go LookHead free is here next = absurd (cc)
    go Texts free is here next = absurd (cc)

-- so does that of an answer
answer_fits : (o : Opening) (n : ℕ) (journal : List Entry) (a : Result Request Reply) (told : Reply) (e : Entry) → IsRequestAnswered o journal a told → asked_entry n a told ≡ Some e → EditFits (document_of o journal) e.edit
answer_fits o n journal a told e answered some = let x = entry_is_entered n a told e some in
    accepted_fits o journal x.request x.version x.block x.brief e.edit (subst (λ (z : Result Request Reply × Reply). IsRequestAnswered o journal z.0 z.1) (λ i. (x.asked_is i, x.told_is i)) answered) x.edit_is

-- which entries fit is told by their edits
same_edits : (d : Document) (i n : ℕ) (es : List Entry) → AreFitting d i es → AreFitting d i (entries_by n (map (λ (e : Entry). e.edit) es))
same_edits d i n [] fit = tt
same_edits d i n (e ∷ es) fit = (fit.0, same_edits (after d i e.edit) (i + 1) n es fit.1)

fit_append : (d : Document) (i : ℕ) (xs ys : List Entry) → AreFitting d i xs → AreFitting (after_all d i xs) (i + length xs) ys → AreFitting d i (xs ++ ys)
fit_append d i [] ys fit more = subst (λ (k : ℕ). AreFitting d k ys) (omega arith) more
fit_append d i (x ∷ xs) ys fit more = (fit.0, fit_append (after d i x.edit) (i + 1) xs ys fit.1 (subst (λ (k : ℕ). AreFitting (after_all (after d i x.edit) (i + 1) xs) k ys) (omega arith) more))

pub fit_front : (d : Document) (i : ℕ) (xs ys : List Entry) → AreFitting d i (xs ++ ys) → AreFitting d i xs
fit_front d i [] ys fit = tt
fit_front d i (x ∷ xs) ys fit = (fit.0, fit_front (after d i x.edit) (i + 1) xs ys fit.1)

after_append : (d : Document) (i : ℕ) (xs ys : List Entry) → after_all d i (xs ++ ys) ≡ after_all (after_all d i xs) (i + length xs) ys
after_append d i [] ys = ap (λ (k : ℕ). after_all d k ys) (omega arith)
after_append d i (x ∷ xs) ys = after_append (after d i x.edit) (i + 1) xs ys ∙ ap (λ (k : ℕ). after_all (after_all (after d i x.edit) (i + 1) xs) k ys) (omega arith)

-- the edits of a group
accepted_fit : (o : Opening) (n : ℕ) (journal : List Entry) (asks : List (Result Request Reply)) (entries : List Entry) → AreAccepted o n journal asks entries → AreFitting (document_of o journal) (length journal + 1) entries
accepted_fit o n journal [] entries none = subst (λ (es : List Entry). AreFitting (document_of o journal) (length journal + 1) es) (sym none) tt
accepted_fit o n journal (a ∷ asks) entries h =
    let e : Entry = h.1 in
    let rest : List Entry = h.2 in
    subst (λ (es : List Entry). AreFitting (document_of o journal) (length journal + 1) es) (sym h.5) (
      answer_fits o n journal a h.0 e h.3 h.4,
      subst (λ (p : Document × ℕ). AreFitting p.0 p.1 rest) (λ i. (doc_snoc o journal e i, one_more journal e i)) (accepted_fit o n (journal ++ e ∷ []) asks rest h.6),
    )
  where
    one_more : (xs : List Entry) (x : Entry) → length (xs ++ x ∷ []) + 1 ≡ length xs + 1 + 1
    one_more xs x = omega (arith, length-append xs (x ∷ []))

-- those of any step
abbrev FitBehind : Opening → List Entry → ℕ → List Edit → Type 0
FitBehind o journal n edits = AreFitting (document_of o journal) (length journal + 1) (entries_by n edits)

one_fits : (o : Opening) (n : ℕ) (journal : List Entry) (a : Result Request Reply) (r : GroupReply) (edits : List Edit) → IsCommandAnswered o n journal a r edits → FitBehind o journal n edits
one_fits o n journal a r edits one = subst (FitBehind o journal n) (sym one.edits_are) (go (asked_entry n a one.told) refl)
  where
    go : (x : Option Entry) → asked_entry n a one.told ≡ x → FitBehind o journal n (edits_in x)
    go None none = tt
    go (Some e) some = (answer_fits o n journal a one.told e one.answered some, tt)

step_fits : (o : Opening) (n : ℕ) (journal : List Entry) (last : Option Undoable) (asks : AskedStep) (r : GroupReply) (edits : List Edit) → IsStep o n journal last asks r edits → FitBehind o journal n edits
step_fits o n journal last (One a) r edits one = one_fits o n journal a r edits one
step_fits o n journal last (Group all) r edits (done entries brief accepted at) = same_edits (document_of o journal) (length journal + 1) n entries (accepted_fit o n journal all entries accepted)
step_fits o n journal last (Group all) r edits (refused front a back entries told are accepted answered none) = tt
step_fits o n journal last Undo r edits (nothing) = tt
step_fits o n journal last Undo r edits (undone some request s es undoes one) = one_fits o n journal (Ok request) s es one

-- a step that is accepted fits behind those before it
abbrev StepFits : Opening → List Chunk → Chunk → Type 0
StepFits o before c = FitBehind o (entries_of_chunks before) c.session c.edits

heard_fits : (o : Opening) (n : ℕ) (before : List Chunk) (m : Memory) (c : Step) (h : HeardReply) (k : Chunk) → IsStepHeard o n before m c h → chunk_of n h.edits ≡ Some k → StepFits o before k
heard_fits o n before m c h k heard is = go h.edits refl is
  where
    go : (es : List Edit) → h.edits ≡ es → chunk_of n es ≡ Some k → StepFits o before k
    go [] none is = absurd (cc)
    go (e ∷ es) some is = let same : record { session = n; edits = e ∷ es; earlier = false } ≡ k = cc in
        subst (StepFits o before) same
        (subst (FitBehind o (entries_of_chunks before) n) some (step_fits o n (entries_of_chunks before) (undoable_of_session n before) (step_asked m c) h.reply h.edits heard.answer))

all_fit : (o : Opening) (before rest : List Chunk) → EachEntry (StepFits o) before rest → AreFitting (document_of o (entries_of_chunks before)) (length (entries_of_chunks before) + 1) (entries_of_chunks rest)
all_fit o before [] each = tt
all_fit o before (k ∷ rest) each =
    let journal = entries_of_chunks before in
    let es = entries_by k.session k.edits in
    let next : entries_of_chunks (before ++ k ∷ []) ≡ journal ++ es = entries_push before k in
    fit_append (document_of o journal) (length journal + 1) es (entries_of_chunks rest) each.0
    (subst (λ (p : Document × ℕ). AreFitting p.0 p.1 (entries_of_chunks rest))
    (λ i. ((ap (document_of o) next ∙ behind journal es) i, (ap (λ (j : List Entry). length j + 1) next ∙ counted journal es) i))
    (all_fit o (before ++ k ∷ []) rest each.1))
  where
    behind : (xs ys : List Entry) → document_of o (xs ++ ys) ≡ after_all (document_of o xs) (length xs + 1) ys
    behind xs ys = after_append (document_opened o) 1 xs ys ∙ ap (λ (k : ℕ). after_all (document_of o xs) k ys) (omega arith)

    counted : (xs ys : List Entry) → length (xs ++ ys) + 1 ≡ length xs + 1 + length ys
    counted xs ys = omega (arith, length-append xs ys)

pub run_fits : (o : Opening) (scripts : List (List Step)) (chunks : List Chunk) (replies : List (List GroupReply)) → IsLegalRun o scripts chunks replies → AreFitting (document_opened o) 1 (entries_of_chunks chunks)
run_fits o scripts chunks replies run =
    all_fit o [] chunks (entries_hold (group_core o) (is_core o) (StepFits o) (λ n before m c h k heard is. heard_fits o n before m c h k heard is) (first_memory o) scripts chunks run.heard run.legal)
