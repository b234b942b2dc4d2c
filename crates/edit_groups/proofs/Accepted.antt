-- What an accepted reply says of the edit that was asked for.
use Rattle.std.proofs.Common.{◌≡◌, ℕ, ◌+◌, List, length, Option, Some, None, ap, refl}
use Rattle.carriage_model.specs.declared.verdict.Brief.{Brief}
use Rattle.edit_journal.specs.declared.edit.Edit.{Edit}
use Rattle.edit_journal.specs.declared.edit.Edit.TheVariants as edit
use Rattle.edit_journal.specs.declared.edit.Entry.{Entry}
use Rattle.edit_journal.specs.declared.opening.Opening.{Opening}
use Rattle.edit_journal.specs.Documents.{Document, document_of}
use Rattle.edit_journal.specs.Entries.{head_id}
use Rattle.edit_book.specs.Replies.{Request, Look, Put, Add, Cut, LoopAt, VerdictNow, LookHead, Texts, PutHead, IsAccepted, IsDue, IsGranted, IsReply, accepted_block, edit_of, refusal_of}
use Rattle.edit_book.specs.declared.reply.Reply.{Reply}
use Rattle.edit_book.specs.declared.reply.Reply.TheVariants as reply
use Rattle.edit_book.proofs.Refusals.{MayRefuse, refusal_may_come}

-- the edit that an accepted reply leaves, which asks for a new block with the next id
pub record IsEditAsked (d : Document) (v : ℕ) (request : Request) (version block : ℕ) : Type 0 where
  pub e : Edit
  pub here : edit_of request block ≡ Some e
  pub next : edit_of request d.drawn ≡ Some e
  pub number : version ≡ v + 1

accepted_as : (o : Opening) (d : Document) (v block : ℕ) (f : Edit) (version found : ℕ) (brief : Brief) → IsAccepted o d v block f (reply.Accepted version found brief) → (version ≡ v + 1) × (found ≡ block)
accepted_as o d v block f version found brief a = let same : reply.Accepted version found brief ≡ reply.Accepted (v + 1) block a.0 = a.1 in
    (ap version_in same, ap block_in same)
  where
    version_in : Reply → ℕ
    version_in (reply.Accepted n b brief) = n
    version_in r = 0

    block_in : Reply → ℕ
    block_in (reply.Accepted n b brief) = b
    block_in r = 0

granted_edit : (o : Opening) (d : Document) (v : ℕ) (request : Request) (version block : ℕ) (brief : Brief) → IsGranted o d v request (reply.Accepted version block brief) → IsEditAsked d v request version block
granted_edit o d v (Look id) version block brief g = let is = ap accepted_block g.2 in absurd (cc)
granted_edit o d v (Put id seen head text) version block brief g = record { e = edit.Put id seen text; here = refl; next = refl; number = (accepted_as o d v id (edit.Put id seen text) version block brief g).0 }
granted_edit o d v (Add anchor head text) version block brief g = let a = accepted_as o d v d.drawn (edit.Add anchor d.drawn text) version block brief g in
    record { e = edit.Add anchor d.drawn text; here = ap (λ (n : ℕ). Some (edit.Add anchor n text)) a.1; next = refl; number = a.0 }
granted_edit o d v (Cut id seen) version block brief g = record { e = edit.Cut id seen; here = refl; next = refl; number = (accepted_as o d v id (edit.Cut id seen) version block brief g).0 }
granted_edit o d v (LoopAt line) version block brief g = let is = ap accepted_block g.1 in absurd (cc)
granted_edit o d v VerdictNow version block brief g = let is = ap accepted_block g.1 in absurd (cc)
granted_edit o d v LookHead version block brief g = let is = ap accepted_block g.0 in absurd (cc)
granted_edit o d v Texts version block brief g = let is = ap accepted_block g in absurd (cc)
granted_edit o d v (PutHead seen names) version block brief g =
    record { e = edit.Head seen names; here = refl; next = refl; number = (accepted_as o d v head_id (edit.Head seen names) version block brief g).0 }

-- where a reply is accepted nothing refuses
due_free : (v : ℕ) (o : Option Reply) (granted : Type 0) (version block : ℕ) (brief : Brief) → MayRefuse v o → IsDue o granted (reply.Accepted version block brief) → (o ≡ None) × granted
due_free v None granted version block brief may due = (refl, due)
due_free v (Some refusal) granted version block brief may due = let none : accepted_block refusal ≡ None = may.fact.2 in let is : Some block ≡ accepted_block refusal = ap accepted_block due in absurd (cc)

pub accepted_edit : (o : Opening) (journal : List Entry) (request : Request) (version block : ℕ) (brief : Brief) → IsReply o journal request (reply.Accepted version block brief)
    → (refusal_of (document_of o journal) journal request ≡ None) × IsEditAsked (document_of o journal) (length journal) request version block
accepted_edit o journal request version block brief due = let d = document_of o journal in
    let free = due_free (length journal) (refusal_of d journal request) (IsGranted o d (length journal) request (reply.Accepted version block brief)) version block brief (refusal_may_come d journal request) due in
    (free.0, granted_edit o d (length journal) request version block brief free.1)

-- the block of an accepted put is the one that was asked for
pub put_block : (o : Opening) (journal : List Entry) (id seen head : ℕ) (text : List (List ℕ)) (version block : ℕ) (brief : Brief) → IsReply o journal (Put id seen head text) (reply.Accepted version block brief) → block ≡ id
put_block o journal id seen head text version block brief due = let d = document_of o journal in
    let free = due_free (length journal) (refusal_of d journal (Put id seen head text)) (IsGranted o d (length journal) (Put id seen head text) (reply.Accepted version block brief)) version block brief (refusal_may_come d journal (Put id seen head text)) due in
    (accepted_as o d (length journal) id (edit.Put id seen text) version block brief free.1).1

-- and that of an accepted cut
pub cut_block : (o : Opening) (journal : List Entry) (id seen version block : ℕ) (brief : Brief) → IsReply o journal (Cut id seen) (reply.Accepted version block brief) → block ≡ id
cut_block o journal id seen version block brief due = let d = document_of o journal in
    let free = due_free (length journal) (refusal_of d journal (Cut id seen)) (IsGranted o d (length journal) (Cut id seen) (reply.Accepted version block brief)) version block brief (refusal_may_come d journal (Cut id seen)) due in
    (accepted_as o d (length journal) id (edit.Cut id seen) version block brief free.1).1
