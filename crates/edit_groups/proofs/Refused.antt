-- A group whose first edit is refused at once.
use Rattle.std.proofs.Common.{◌≡◌, ℕ, List, [], ◌∷◌, length, map, slice_get, Option, Some, None, Ok, Err, IfSome, option_and_then, sym, ap, ◌∙◌, refl, subst}
use Rattle.std.specs.Option.{option_map}
use Rattle.edit_journal.specs.declared.edit.Edit.{Edit}
use Rattle.edit_journal.specs.declared.edit.Entry.{Entry}
use Rattle.edit_journal.specs.declared.opening.Opening.{Opening}
use Rattle.edit_journal.specs.Documents.{Document, document_of}
use Rattle.edit_book.specs.Replies.{Request, IsDue, IsGranted, IsReply, accepted_block, edit_of, entry_of, refusal_of, request_of_command}
use Rattle.edit_book.specs.Turns.{IsFitBookCommand}
use Rattle.edit_book.specs.declared.reply.BookCommand.{BookCommand}
use Rattle.edit_book.specs.declared.reply.Reply.{Reply}
use Rattle.edit_book.proofs.Refusals.{Refuses, refusal_may_come}
use Rattle.edit_groups.specs.Carried.{IsFirstRefused}
use Rattle.edit_groups.specs.Groups.{AreFitEdits, IsFitEdit, edit_asked}
use Rattle.edit_groups.specs.declared.reply.GroupEdit.{GroupEdit}
use Rattle.edit_groups.specs.declared.reply.GroupEdit.TheVariants.{Ready, Refused}

-- the first of what is asked
record BeginsWith (edits : List GroupEdit) (first : GroupEdit) : Type 0 where
  rest : List GroupEdit
  edits_are : edits ≡ first ∷ rest

begins : (edits : List GroupEdit) (first : GroupEdit) → Some first ≡ slice_get edits 0 → BeginsWith edits first
begins [] first is = absurd (cc)
begins (e ∷ es) first is = let same : first ≡ e = cc in record { rest = es; edits_are = ap (λ (x : GroupEdit). x ∷ es) (sym same) }

pub first_fits : (o : Opening) (journal : List Entry) (edits : List GroupEdit) (c : BookCommand) → Some (Ready c) ≡ slice_get edits 0 → AreFitEdits o journal edits → IsFitBookCommand o journal c
first_fits o journal edits c is fit = let b = begins edits (Ready c) is in (subst (AreFitEdits o journal) b.edits_are fit).0.1

-- a refusal of the book
pub first_refused : (o : Opening) (journal : List Entry) (edits : List GroupEdit) (c : BookCommand) (r : Option Reply) → Some (Ready c) ≡ slice_get edits 0 → r ≡ refusal_of (document_of o journal) journal (request_of_command c)
    → IfSome r (IsFirstRefused o journal (map edit_asked edits))
first_refused o journal edits c None is refusal = tt
first_refused o journal edits c (Some told) is refusal =
    let b = begins edits (Ready c) is in
    let d : Document = document_of o journal in
    let none : accepted_block told ≡ None = (subst (λ (x : Option Reply). IfSome x (λ r. accepted_block r ≡ None)) (sym refusal) (blocks (refusal_of d journal (request_of_command c)) (refusal_may_come d journal (request_of_command c)).fact)) in
    record {
      here = Ok (request_of_command c);
      back = map edit_asked b.rest;
      asked_are = ap (map edit_asked) b.edits_are;
      refused = λ session. record {
        answered = subst (λ (x : Option Reply). IsDue x (IsGranted o d (length journal) (request_of_command c) told) told) refusal refl;
        none = ap (λ (x : Option ℕ). option_map (λ (e : Edit). record { session = session; edit = e }) (option_and_then (edit_of (request_of_command c)) x)) none;
      };
    }
  where
    blocks : (x : Option Reply) → IfSome x (Refuses (length journal)) → IfSome x (λ r. accepted_block r ≡ None)
    blocks None facts = tt
    blocks (Some r) facts = facts.2

own_first : (o : Opening) (journal : List Entry) (edits : List GroupEdit) (told : Reply) → Some (Refused told) ≡ slice_get edits 0 → IsFirstRefused o journal (map edit_asked edits) told
own_first o journal edits told is = let b = begins edits (Refused told) is in
    record { here = Err told; back = map edit_asked b.rest; asked_are = ap (map edit_asked) b.edits_are; refused = λ session. record { answered = refl; none = refl } }

-- the session's own
pub first_own : (o : Opening) (journal : List Entry) (edits : List GroupEdit) (own : Reply) (r : Option Reply) → Some (Refused own) ≡ slice_get edits 0 → IfSome r (λ told. told ≡ own) → IfSome r (IsFirstRefused o journal (map edit_asked edits))
first_own o journal edits own None is same = tt
first_own o journal edits own (Some told) is same = subst (IsFirstRefused o journal (map edit_asked edits)) (sym same) (own_first o journal edits own is)
