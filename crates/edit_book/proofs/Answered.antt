-- What the reply of a session is, at a turn of the book or without one.
use Rattle.std.proofs.Common.{◌≡◌, ◌⊎◌, inl, inr, ⊎_elim, ℕ, List, Option, None, Result, Ok, Err, sym, ap, ◌∙◌, refl, subst}
use Rattle.edit_journal.specs.declared.edit.Entry.{Entry}
use Rattle.edit_journal.specs.declared.opening.Opening.{Opening}
use Rattle.script_reader.specs.declared.command.Command.{Command}
use Rattle.edit_book.specs.declared.reply.BookCommand.{BookCommand}
use Rattle.edit_book.specs.declared.reply.Reply.{Reply}
use Rattle.edit_book.specs.declared.reply.Reply.TheVariants.{NoMemory}
use Rattle.edit_book.specs.Replies.{Request, request_of_command}
use Rattle.edit_book.specs.Turns.{IsRightReply}
use Rattle.edit_book.specs.Memory.{Memory, Answers, IsRequestAnswered, asked_of_book, asked_entry}
use Rattle.edit_book.proofs.Carried.{short_entry}

-- without a turn, the session's own refusal or want of memory: it enters nothing, and is right at any journal
pub alone_answered : (o : Opening) (n : ℕ) (journal : List Entry) (m : Memory) (c : Command) (r : Reply) → (r ≡ NoMemory) ⊎ (asked_of_book m c ≡ Err r) → (asked_entry n (asked_of_book m c) r ≡ None) × ((r ≡ NoMemory) ⊎ Answers o journal m c r)
alone_answered o n journal m c r alone = (
  ⊎_elim (λ short. ap (asked_entry n (asked_of_book m c)) short ∙ short_entry n (asked_of_book m c)) (λ asks. ap (λ (a : Result Request Reply). asked_entry n a r) asks) alone,
  ⊎_elim (λ short. inl short) (λ asks. inr (subst (λ (a : Result Request Reply). IsRequestAnswered o journal a r) (sym asks) refl)) alone,
)

-- at a turn, what is right there: its entry is the reply's, and the reply is the answer at the journal before it, or want of memory
pub turn_answered : (o : Opening) (n : ℕ) (before : List Entry) (added : Option Entry) (m : Memory) (c : Command) (r : Reply) (request : BookCommand) → asked_of_book m c ≡ Ok (request_of_command request) → IsRightReply o before n request r added
    → (asked_entry n (asked_of_book m c) r ≡ added) × ((r ≡ NoMemory) ⊎ Answers o before m c r)
turn_answered o n before added m c r request asks right = (
  ⊎_elim
      (λ short. ap (asked_entry n (asked_of_book m c)) short.0 ∙ short_entry n (asked_of_book m c) ∙ sym short.1)
      (λ due. ap (λ (a : Result Request Reply). asked_entry n a r) asks ∙ sym due.1)
      right,
  ⊎_elim (λ short. inl short.0) (λ due. inr (subst (λ (a : Result Request Reply). IsRequestAnswered o before a r) (sym asks) due.0)) right,
)
