-- The versions that replies carry, and the entries of those to a session's command.
use Rattle.std.proofs.Common.{◌≡◌, ◌⊎◌, inl, inr, ⊎_elim, ℕ, ◌+◌, Bool, true, false, List, Option, Some, None, Result, Ok, Err, IfSome, IfErr, option_map, option_and_then, length, sym, ap, ◌∙◌, refl, subst, nat_le, cond, arith}
use Rattle.std.specs.Option.{option_map_or}
use Rattle.edit_journal.specs.declared.edit.BlockName.{BlockName}
use Rattle.edit_journal.specs.declared.edit.Anchor.TheVariants.{Start, After}
use Rattle.edit_journal.specs.declared.edit.Edit.{Edit}
use Rattle.edit_journal.specs.declared.edit.Edit.TheVariants as edit
use Rattle.edit_journal.specs.declared.edit.Entry.{Entry}
use Rattle.edit_journal.specs.declared.opening.Opening.{Opening}
use Rattle.edit_journal.specs.Documents.{Document, document_of}
use Rattle.edit_journal.specs.Entries.{head_id}
use Rattle.script_reader.specs.declared.command.Place.TheVariants as place
use Rattle.script_reader.specs.declared.command.Command.{Command}
use Rattle.script_reader.specs.declared.command.Command.TheVariants as command
use Rattle.edit_book.specs.declared.reply.Reply.{Reply}
use Rattle.edit_book.specs.declared.reply.Reply.TheVariants.{Unseen, BlockLong, NoMemory}
use Rattle.edit_book.specs.Memory.{Memory, known_header_stamp, block_id_of_name, unless_long, asked_of_book, IsRequestAnswered, asked_entry, version_of, base_of}
use Rattle.edit_book.specs.Replies.{Request, Look, Put, Add, Cut, LoopAt, VerdictNow, LookHead, Texts, PutHead, refusal_of, IsAccepted, IsGranted, IsDue, IsReply, entry_of, accepted_block, edit_of}
use Rattle.edit_book.proofs.Refusals.{Refuses, refusal_may_come}

-- the reply carries the version of the journal before it or, with an entry, after it
abbrev pub Carries : ℕ → ℕ → Request → Reply → Type 0
Carries n v request reply = ((entry_of n request reply ≡ None) × (version_of reply ≡ Some v) × (base_of reply ≡ Some v))
    ⊎ ((e : Entry) × (entry_of n request reply ≡ Some e) × (e.session ≡ n) × (version_of reply ≡ Some (v + 1)) × (base_of reply ≡ Some v))

carries_refusal : (n v : ℕ) (request : Request) (reply refusal : Reply) → Refuses v refusal → reply ≡ refusal → Carries n v request reply
carries_refusal n v request reply refusal r is = subst (Carries n v request) (sym is)
    (inl (ap (λ (o : Option ℕ). option_map (λ e. record { session = n; edit = e }) (option_and_then (edit_of request) o)) r.2, r.0, r.1))

carries_accepted : (n v block : ℕ) (opening : Opening) (d : Document) (request : Request) (e f : Edit) (reply : Reply) → edit_of request block ≡ Some f → IsAccepted opening d v block e reply → Carries n v request reply
carries_accepted n v block opening d request e f reply is a = subst (Carries n v request) (sym a.1)
    (inr (record { session = n; edit = f }, ap (option_map (λ (x : Edit). record { session = n; edit = x })) is, refl, refl, ap Some (omega arith)))

carries_granted : (n : ℕ) (opening : Opening) (d : Document) (v : ℕ) (request : Request) (reply : Reply) → IsGranted opening d v request reply → Carries n v request reply
carries_granted n opening d v (Look id) reply g = subst (Carries n v (Look id)) (sym g.2) (inl (refl, refl, refl))
carries_granted n opening d v (Put id seen head text) reply g = carries_accepted n v id opening d (Put id seen head text) (edit.Put id seen text) _ reply refl g
carries_granted n opening d v (Add anchor head text) reply g = carries_accepted n v d.drawn opening d (Add anchor head text) (edit.Add anchor d.drawn text) _ reply refl g
carries_granted n opening d v (Cut id seen) reply g = carries_accepted n v id opening d (Cut id seen) (edit.Cut id seen) _ reply refl g
carries_granted n opening d v (LoopAt line) reply g = subst (Carries n v (LoopAt line)) (sym g.1) (inl (refl, refl, refl))
carries_granted n opening d v VerdictNow reply g = subst (Carries n v VerdictNow) (sym g.1) (inl (refl, refl, refl))
carries_granted n opening d v LookHead reply g = subst (Carries n v LookHead) (sym g.0) (inl (refl, refl, refl))
carries_granted n opening d v Texts reply g = subst (Carries n v Texts) (sym g) (inl (refl, refl, refl))
carries_granted n opening d v (PutHead seen names) reply g = carries_accepted n v head_id opening d (PutHead seen names) (edit.Head seen names) _ reply refl g

carries_due : (n v : ℕ) (opening : Opening) (d : Document) (request : Request) (reply : Reply) (o : Option Reply) → IfSome o (Refuses v) → IsDue o (IsGranted opening d v request reply) reply → Carries n v request reply
carries_due n v opening d request reply None r due = carries_granted n opening d v request reply due
carries_due n v opening d request reply (Some refusal) r due = carries_refusal n v request reply refusal r due

pub reply_carries : (n : ℕ) (opening : Opening) (journal : List Entry) (request : Request) (reply : Reply) → IsReply opening journal request reply → Carries n (length journal) request reply
reply_carries n opening journal request reply due = let d = document_of opening journal in
    carries_due n (length journal) opening d request reply (refusal_of d journal request) (refusal_may_come d journal request).fact due

-- a refusal of the session itself carries no version
abbrev pub Alone : Result Request Reply → Type 0
Alone r = IfErr r (λ reply. (version_of reply ≡ None) × (base_of reply ≡ None))

alone_long : (text : List (List ℕ)) (request : Request) → Alone (unless_long text request)
alone_long text request = go (nat_le (length text) 4096)
  where
    go : (b : Bool) → Alone (cond b (Ok request) (Err (BlockLong (length text))))
    go true = tt
    go false = (refl, refl)

alone_option : (o : Option ℕ) (name : BlockName) (ask : ℕ → Result Request Reply) → ((id : ℕ) → Alone (ask id)) → Alone (option_map_or ask o (Err (Unseen name)))
alone_option None name ask f = (refl, refl)
alone_option (Some id) name ask f = f id

pub asked_is_alone : (m : Memory) (c : Command) → Alone (asked_of_book m c)
asked_is_alone m (command.Look name) = alone_option (block_id_of_name m name) name (λ id. Ok (Look id)) (λ id. tt)
asked_is_alone m (command.Put name text) = alone_option (block_id_of_name m name) name _
    (λ id. alone_option (m.stamps id) name (λ seen. unless_long text (Put id seen (known_header_stamp m) text)) (λ seen. alone_long text (Put id seen (known_header_stamp m) text)))
asked_is_alone m (command.Add place.Start text) = alone_long text (Add Start (known_header_stamp m) text)
asked_is_alone m (command.Add (place.After name) text) =
    alone_option (block_id_of_name m name) name (λ id. unless_long text (Add (After id) (known_header_stamp m) text)) (λ id. alone_long text (Add (After id) (known_header_stamp m) text))
asked_is_alone m (command.Cut name) = alone_option (block_id_of_name m name) name _ (λ id. alone_option (m.stamps id) name (λ seen. Ok (Cut id seen)) (λ seen. tt))
asked_is_alone m (command.LoopAt line) = tt
asked_is_alone m command.Verdict = tt
asked_is_alone m command.LookHead = tt
asked_is_alone m (command.PutHead names) = tt

-- want of memory enters nothing
pub short_entry : (n : ℕ) (a : Result Request Reply) → asked_entry n a NoMemory ≡ None
short_entry n (Ok request) = refl
short_entry n (Err refusal) = refl

-- an entry is of the session that is answered
pub entry_number : (n : ℕ) (a : Result Request Reply) (r : Reply) (e : Entry) → asked_entry n a r ≡ Some e → e.session ≡ n
entry_number n (Err refusal) r e h = absurd (cc)
entry_number n (Ok request) r e h = go (option_and_then (edit_of request) (accepted_block r)) h
  where
    go : (o : Option Edit) → option_map (λ x. record { session = n; edit = x }) o ≡ Some e → e.session ≡ n
    go None h = absurd (cc)
    go (Some x) h = let same : record { session = n; edit = x } ≡ e = cc in sym (ap (λ (y : Entry). y.session) same)

module _ (opening : Opening) where
  -- an answer with an entry carries the version behind it
  pub answer_enters : (n : ℕ) (before : List Entry) (a : Result Request Reply) (r : Reply) (e : Entry) → IsRequestAnswered opening before a r → asked_entry n a r ≡ Some e → (base_of r ≡ Some (length before)) × (version_of r ≡ Some (length before + 1))
  answer_enters n before (Err refusal) r e h some = absurd (cc)
  answer_enters n before (Ok request) r e h some = ⊎_elim (λ q. let none = q.0 in absurd (cc)) (λ q. (q.4, q.3)) (reply_carries n opening before request r h)

  -- an answer without one carries the journal's version, or none
  pub answer_stays : (n : ℕ) (before : List Entry) (a : Result Request Reply) (r : Reply) → Alone a → IsRequestAnswered opening before a r → asked_entry n a r ≡ None
      → ((base_of r ≡ Some (length before)) × (version_of r ≡ Some (length before))) ⊎ ((base_of r ≡ None) × (version_of r ≡ None))
  answer_stays n before (Err refusal) r al h none = inr (ap base_of h ∙ al.1, ap version_of h ∙ al.0)
  answer_stays n before (Ok request) r al h none = ⊎_elim (λ q. inl (q.2, q.1)) (λ q. let some = q.1 in absurd (cc)) (reply_carries n opening before request r h)

  -- an answer without a version is one at every journal
  pub answer_free : (before after : List Entry) (a : Result Request Reply) (r : Reply) → IsRequestAnswered opening before a r → base_of r ≡ None → IsRequestAnswered opening after a r
  answer_free before after (Err refusal) r h none = h
  answer_free before after (Ok request) r h none = ⊎_elim (λ q. let some = q.2 in absurd (cc)) (λ q. let some = q.4 in absurd (cc)) (reply_carries 0 opening before request r h)
