-- The edits of a group, one after the other.
use Rattle.std.proofs.Common.{◌≡◌, ℕ, ◌+◌, ◌≤◌, List, [], ◌∷◌, ◌++◌, length, map, Option, Some, None, Result, Ok, Err, sym, ap, ◌∙◌, refl, subst, append_assoc, append-nil, length-append, arith}
use Rattle.std.proofs.lemmas.List.{map-append}
use Rattle.std.specs.Option.{option_map_or}
use Rattle.edit_journal.specs.declared.edit.Edit.{Edit}
use Rattle.edit_journal.specs.declared.edit.Entry.{Entry}
use Rattle.edit_journal.specs.declared.opening.Opening.{Opening}
use Rattle.edit_journal.specs.Documents.{Document, after, document_of}
use Rattle.edit_book.specs.Books.{BookView, document}
use Rattle.edit_book.specs.Memory.{IsRequestAnswered, asked_entry}
use Rattle.edit_book.specs.Replies.{Request, edit_of, request_of_command}
use Rattle.edit_book.specs.declared.reply.Reply.{Reply}
use Rattle.edit_book.proofs.Puts.{doc_snoc}
use Rattle.edit_groups.specs.Answers.{AreAccepted}
use Rattle.edit_groups.specs.Carried.{IsCarriedOut, IsEditDone}
use Rattle.edit_groups.specs.Chunks.{entries_by}
use Rattle.edit_groups.specs.Fitting.{edits_longer}
use Rattle.edit_groups.specs.Groups.{AreFitEdits, each_limit, edit_asked, group_edit_limit, document_edited}
use Rattle.edit_groups.specs.declared.reply.GroupEdit.{GroupEdit}
use Rattle.edit_groups.specs.declared.reply.GroupEdit.TheVariants.{Ready, Refused}
use Rattle.edit_groups.proofs.Accepted.{accepted_edit}
use Rattle.edit_groups.proofs.Entered.{entry_is_entered}

-- one more that is accepted
accepted_push : (o : Opening) (session : ℕ) (journal : List Entry) (asked : List (Result Request Reply)) (entries : List Entry) (a : Result Request Reply) (told : Reply) (e : Entry) → AreAccepted o session journal asked entries
    → IsRequestAnswered o (journal ++ entries) a told → asked_entry session a told ≡ Some e → AreAccepted o session journal (asked ++ a ∷ []) (entries ++ e ∷ [])
accepted_push o session journal [] entries a told e none answered is =
    subst (λ (es : List Entry). AreAccepted o session journal (a ∷ []) (es ++ e ∷ [])) (sym none)
    (told, e, [], subst (λ (j : List Entry). IsRequestAnswered o j a told) (append-nil journal) (subst (λ (es : List Entry). IsRequestAnswered o (journal ++ es) a told) none answered), is, refl, refl)
accepted_push o session journal (x ∷ asked) entries a told e h answered is =
    let first : Entry = h.1 in
    let rest : List Entry = h.2 in (
      h.0,
      first,
      rest ++ e ∷ [],
      h.3,
      h.4,
      ap (λ (es : List Entry). es ++ e ∷ []) h.5,
      accepted_push o session (journal ++ first ∷ []) asked rest a told e h.6
          (subst (λ (j : List Entry). IsRequestAnswered o j a told) (ap (λ (es : List Entry). journal ++ es) h.5 ∙ sym (append_assoc journal (first ∷ []) rest)) answered) is,
    )

by_push : (session : ℕ) (edits : List Edit) (e : Edit) → entries_by session (edits ++ e ∷ []) ≡ entries_by session edits ++ record { session = session; edit = e } ∷ []
by_push session edits e = let entry : Edit → Entry = λ x. record { session = session; edit = x } in map-append entry edits (e ∷ [])

pub carried_more : (o : Opening) (session : ℕ) (journal : List Entry) (asked : List GroupEdit) (done all : List Edit) (now next : List Entry) (x : GroupEdit) (e : Edit) → IsCarriedOut o session journal (map edit_asked asked) done now
    → IsEditDone o session now (edit_asked x) e next → all ≡ done ++ e ∷ [] → IsCarriedOut o session journal (map edit_asked (asked ++ x ∷ [])) all next
carried_more o session journal asked done all now next x e c d all_is =
    let entry : Entry = record { session = session; edit = e } in
    let by : entries_by session all ≡ entries_by session done ++ entry ∷ [] = ap (entries_by session) all_is ∙ by_push session done e in
    record {
      accepted = subst (λ (p : List (Result Request Reply) × List Entry). AreAccepted o session journal p.0 p.1) (λ i. (sym (map-append edit_asked asked (x ∷ [])) i, sym by i))
          (accepted_push o session journal (map edit_asked asked) (entries_by session done) (edit_asked x) d.told entry c.accepted
          (subst (λ (j : List Entry). IsRequestAnswered o j (edit_asked x) d.told) c.journal_is d.answered) d.entered);
      journal_is = d.journal_is ∙ ap (λ (l : List Entry). l ++ entry ∷ []) c.journal_is ∙ append_assoc journal (entries_by session done) (entry ∷ []) ∙ ap (λ (l : List Entry). journal ++ l) (sym by);
    }

-- what is still to come fits behind an edit
pub fits_behind : (o : Opening) (session : ℕ) (now next : List Entry) (x : GroupEdit) (e : Edit) (rest : List GroupEdit) → IsEditDone o session now (edit_asked x) e next → AreFitEdits o now (x ∷ rest) → AreFitEdits o next rest
fits_behind o session now next x e rest d f = subst (λ (j : List Entry). AreFitEdits o j rest) (sym d.journal_is) (edits_longer o now (record { session = session; edit = e } ∷ []) rest f.1)

-- the document behind an edit
pub edited_is : (o : Opening) (session : ℕ) (now next : List Entry) (x : GroupEdit) (e : Edit) → IsEditDone o session now (edit_asked x) e next → document_edited (document_of o now) (length now + 1) x ≡ document_of o next
edited_is o session now next (Refused told) e d = absurd (let none = d.entered in cc)
edited_is o session now next (Ready c) e d =
    let x = entry_is_entered session (Ok (request_of_command c)) d.told (record { session = session; edit = e }) d.entered in
    let due = subst (λ (p : Result Request Reply × Reply). IsRequestAnswered o now p.0 p.1) (λ i. (x.asked_is i, x.told_is i)) d.answered in
    let asks = (accepted_edit o now x.request x.version x.block x.brief due).1 in
    let same : request_of_command c ≡ x.request = let is = x.asked_is in cc in
    let here : Some asks.e ≡ Some e = sym asks.here ∙ x.edit_is in
    let next_is : edit_of (request_of_command c) (document_of o now).drawn ≡ Some e = ap (λ (q : Request). edit_of q (document_of o now).drawn) same ∙ asks.next ∙ here in
    ap (λ (f : Option Edit). option_map_or (after (document_of o now) (length now + 1)) f (document_of o now)) next_is
    ∙ sym (ap (document_of o) d.journal_is ∙ doc_snoc o now (record { session = session; edit = e }))

-- the steps that are left
pub steps_behind : (o : Opening) (session : ℕ) (now next : List Entry) (x : GroupEdit) (e : Edit) (rest : List GroupEdit) (before behind : ℕ) → IsEditDone o session now (edit_asked x) e next → behind ≤ before + group_edit_limit o (document_of o now) x
    → behind + each_limit o (document_of o next) (length next) rest ≤ before + each_limit o (document_of o now) (length now) (x ∷ rest)
steps_behind o session now next x e rest before behind d few =
    let many : length next ≡ length now + 1 = ap length d.journal_is ∙ length-append now (record { session = session; edit = e } ∷ []) in
    let left : each_limit o (document_of o next) (length next) rest ≡ each_limit o (document_edited (document_of o now) (length now + 1) x) (length now + 1) rest =
    ap (λ (p : Document × ℕ). each_limit o p.0 p.1 rest) (λ i. (sym (edited_is o session now next x e d) i, many i)) in
    omega (arith, left)
