-- A session's command, taken at a turn of the book or answered without one.
use Rattle.std.proofs.Common.{◌≡◌, ◌⊎◌, inl, ℕ, List, Option, Ok, Err, IfErr, Result, refl, subst, sym}
use Rattle.edit_journal.specs.declared.edit.Entry.{Entry}
use Rattle.edit_journal.specs.declared.opening.Opening.{Opening}
use Rattle.script_reader.specs.declared.command.Command.{Command}
use Rattle.edit_book.specs.declared.reply.BookCommand.{BookCommand}
use Rattle.edit_book.specs.declared.reply.Reply.{Reply}
use Rattle.edit_book.specs.declared.reply.Reply.TheVariants.{NoMemory}
use Rattle.edit_book.specs.Replies.{Request, request_of_command}
use Rattle.edit_book.specs.Turns.{IsRightReply}
use Rattle.turn_book.specs.declared.view.View.{View}
use Rattle.turn_book.specs.Taken.{IsCommandTaken}
use Rattle.turn_book.specs.Turn.{Turned}
use Rattle.turn_book.proofs.Takes as any
use Rattle.edit_book.specs.Memory.{Memory, asked_of_book}
use Rattle.edit_sessions.specs.Core.{document_core}
use Rattle.edit_sessions.specs.Shared.{entry_session}
use Rattle.edit_book.proofs.Answered.{alone_answered, turn_answered}

-- without a turn
pub taken_alone : (o : Opening) (n : ℕ) (m : Memory) (c : Command) (r : Reply) (v w : View Opening Entry) → (r ≡ NoMemory) ⊎ (asked_of_book m c ≡ Err r) → w ≡ v → IsCommandTaken (document_core o) n m c r v w
taken_alone o n m c r v w alone same = let a = alone_answered o n v.seen m c r alone in any.taken_alone (document_core o) n m c r v w a.0 a.1 same

-- at a turn
pub taken_turn : (o : Opening) (n : ℕ) (m : Memory) (c : Command) (r : Reply) (v w : View Opening Entry) (request : BookCommand) (P : List Entry → Option Entry → Type 0) → asked_of_book m c ≡ Ok (request_of_command request)
    → Turned entry_session n (λ before added. IsRightReply o before n request r added × P before added) v w → IsCommandTaken (document_core o) n m c r v w
taken_turn o n m c r v w request P asks t =
    any.taken_turn (document_core o) n m c r v w (λ before added. IsRightReply o before n request r added × P before added) (λ before added right. turn_answered o n before added m c r request asks right.0) t

-- want of memory, without a turn
pub taken_short : (o : Opening) (n : ℕ) (m : Memory) (c : Command) (v : View Opening Entry) → IsCommandTaken (document_core o) n m c NoMemory v v
taken_short o n m c v = taken_alone o n m c NoMemory v v (inl refl) refl

-- without a turn the view stays, whatever was asked
pub untaken_alone : (asked : Result Request Reply) (v w : View Opening Entry) → w ≡ v → IfErr asked (λ reply. w ≡ v)
untaken_alone (Ok request) v w same = tt
untaken_alone (Err reply) v w same = same

-- what is asked of the book isn't answered without it
pub untaken_turn : (m : Memory) (c : Command) (request : Request) (v w : View Opening Entry) → asked_of_book m c ≡ Ok request → IfErr (asked_of_book m c) (λ reply. w ≡ v)
untaken_turn m c request v w asks = subst (λ (a : Result Request Reply). IfErr a (λ reply. w ≡ v)) (sym asks) tt

pub ruleset takes = (taken_turn, taken_alone, taken_short, untaken_turn, untaken_alone)
