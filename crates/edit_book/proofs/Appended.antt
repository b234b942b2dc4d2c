-- A turn of the book appends its entry.
use Rattle.std.proofs.Common.{◌≡◌, ◌<◌, inl, inr, ⊎_elim, ℕ, List, ◌++◌, Option, Some, None, IfSome, sym, ap, ◌∙◌, refl, append-nil}
use Rattle.std.specs.Prelude.{option_map}
use Rattle.std.specs.Option.{option_to_list}
use Rattle.edit_journal.specs.declared.edit.Edit.{Edit}
use Rattle.edit_journal.specs.declared.edit.Entry.{Entry}
use Rattle.edit_journal.specs.declared.opening.Opening.{Opening}
use Rattle.edit_journal.specs.Documents.{document_of}
use Rattle.edit_journal.specs.Entries.{head_id}
use Rattle.edit_book.specs.declared.reply.BookCommand.{BookCommand}
use Rattle.edit_book.specs.declared.reply.Reply.{Reply}
use Rattle.edit_book.specs.declared.reply.Reply.TheVariants.{NoMemory}
use Rattle.edit_book.specs.Replies.{IsTurn, entry_of, request_of_command}
use Rattle.edit_book.specs.Turns.{IsRightReply}
use Rattle.turn_book.specs.Journal.{Appends, entry_list}

same_list : (o : Option Entry) → entry_list o ≡ option_to_list o
same_list None = refl
same_list (Some e) = refl

made_number : (session : ℕ) (o : Option Edit) → IfSome (option_map (λ (e : Edit). let x : Entry = record { session = session; edit = e } in x) o) (λ e. e.session ≡ session)
made_number session None = tt
made_number session (Some e) = refl

-- want of memory
pub none_appends : (o : Opening) (n : ℕ) (c : BookCommand) (r : Reply) (before after : List Entry) → r ≡ NoMemory → after ≡ before → Appends (λ e. e.session) n (IsRightReply o before n c r) before after
none_appends o n c r before after short same = (None, same ∙ sym (append-nil before), tt, inl (short, refl))

-- a turn
pub turn_appends : (o : Opening) (n : ℕ) (c : BookCommand) (r : Reply) (before after : List Entry) → (document_of o before).drawn < head_id → IsTurn o before n (request_of_command c) r after → Appends (λ e. e.session) n (IsRightReply o before n c r) before after
turn_appends o n c r before after below turned = ⊎_elim
    (λ short. none_appends o n c r before after short.0 short.1)
    (λ right. (entry_of n (request_of_command c) r, right.1 ∙ ap (λ l. before ++ l) (sym (same_list (entry_of n (request_of_command c) r))), made_number n _, inr (right.0, refl, below)))
    turned

pub ruleset turns = (turn_appends)
