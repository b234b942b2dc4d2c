-- What a session has heard of one command.
use Rattle.std.proofs.Common.{◌≡◌, ◌≢◌, ◌⊎◌, inl, inr, ⊎_elim, ℕ, ◌+◌, ◌<◌, ◌≤◌, Bool, true, false, List, [], ◌∷◌, ◌++◌, length, Option, Some, None, Result, Ok, Err, sym, ap, ◌∙◌, refl, subst, append-nil}
use Rattle.carriage_model.specs.declared.verdict.Brief.{Brief}
use Rattle.edit_journal.specs.declared.edit.Edit.{Edit}
use Rattle.edit_journal.specs.declared.edit.Entry.{Entry}
use Rattle.edit_journal.specs.declared.opening.Opening.{Opening}
use Rattle.script_reader.specs.declared.command.Command.{Command}
use Rattle.script_reader.specs.declared.command.Command.TheVariants as command
use Rattle.script_reader.specs.declared.step.Step.TheVariants as step
use Rattle.edit_book.specs.declared.reply.BookCommand.{BookCommand}
use Rattle.edit_book.specs.declared.reply.Reply.{Reply}
use Rattle.edit_book.specs.declared.reply.Reply.TheVariants as reply
use Rattle.edit_book.specs.Memory.{Memory, IsRequestAnswered, asked_of_book, asked_entry, base_of, memory_after}
use Rattle.edit_book.specs.Replies.{Request, entry_of, request_of_command}
use Rattle.edit_book.proofs.Carried.{reply_carries, entry_number}
use Rattle.turn_book.specs.declared.view.View.{View}
use Rattle.turn_book.specs.Journal.{entry_list}
use Rattle.turn_book.specs.Taken.{IsCommandTaken, SeesMore}
use Rattle.turn_book.proofs.Takes.{taken_behind, taken_short}
use Rattle.edit_groups.specs.Answers.{edits_in}
use Rattle.edit_groups.specs.Chunks.{chunk_of, entries_of_chunks}
use Rattle.edit_groups.specs.Sessions.{HeardReply, group_core, one_memory, short_reply}
use Rattle.edit_groups.specs.Shared.{session_of_chunk}
use Rattle.edit_groups.specs.Turns.{IsOneHeard, IsOneTurn, one_reply, step_of}
use Rattle.edit_groups.specs.declared.chunk.Chunk.{Chunk}
use Rattle.edit_groups.specs.declared.reply.GroupReply.TheVariants as group
use Rattle.edit_groups.proofs.CoreLaws.{is_core}
use Rattle.edit_groups.proofs.OneTurns.{chunk_step}

-- a reply that isn't want of memory is the answer
pub alone_or : (r : Reply) → (r ≡ reply.NoMemory) ⊎ (one_reply r ≡ group.One r)
alone_or reply.NoMemory = inl refl
alone_or (reply.Accepted version block brief) = inr refl
alone_or (reply.Shown version block stamp first text) = inr refl
alone_or (reply.Loop version fact) = inr refl
alone_or (reply.Now version verdict text) = inr refl
alone_or (reply.Texts version blocks) = inr refl
alone_or (reply.Stale version block seen now) = inr refl
alone_or (reply.Gone version block at) = inr refl
alone_or (reply.NoBlock version block ids) = inr refl
alone_or (reply.Full version what limit) = inr refl
alone_or (reply.Unseen name) = inr refl
alone_or (reply.BlockLong lines) = inr refl

-- what is remembered of it
pub one_learned : (m : Memory) (c : Command) (r : Reply) → one_memory m c (one_reply r) ≡ memory_after m c r
one_learned m c r = ⊎_elim
    (λ is. ap (λ (x : Reply). one_memory m c (one_reply x)) is ∙ sym (ap (memory_after m c) is))
    (λ is. ap (one_memory m c) is)
    (alone_or r)

module _ (o : Opening) (n : ℕ) (m : Memory) (c : Command) where
  -- want of memory, without a turn
  pub heard_short : (v : View Opening Chunk) → IsOneHeard o n m c reply.NoMemory v v
  heard_short v = record { heard = short_reply; reply_is = refl; taken = taken_short (group_core o) (is_core o) n m (step.One c) v }

  -- the session's own refusal
  heard_refusal : (r : Reply) (v : View Opening Chunk) → asked_of_book m c ≡ Err r → one_reply r ≡ group.One r → IsOneHeard o n m c r v v
  heard_refusal r v asks is = record {
    heard = record { reply = one_reply r; before = length (v.seen ++ []); edits = [] };
    reply_is = refl;
    taken = record {
      more = [];
      added = None;
      foreign = tt;
      entry = refl;
      given = inr (record {
        answer = record {
          told = r;
          answered = subst (λ (a : Result Request Reply). IsRequestAnswered o (entries_of_chunks (v.seen ++ [])) a r) (sym asks) refl;
          reply_is = is;
          edits_are = ap (λ (a : Result Request Reply). edits_in (asked_entry n a r)) (sym asks);
        };
        given = λ yes. refl;
      });
      seen = sym (append-nil v.seen) ∙ sym (append-nil (v.seen ++ []));
      first = refl;
      past = refl;
    };
  }

  -- one of both
  pub heard_alone : (r : Reply) (v w : View Opening Chunk) → (r ≡ reply.NoMemory) ⊎ (asked_of_book m c ≡ Err r) → w ≡ v → IsOneHeard o n m c r v w
  heard_alone r v w alone same = subst (IsOneHeard o n m c r v) (sym same) (⊎_elim none (λ asks. ⊎_elim none (λ is. heard_refusal r v asks is) (alone_or r)) alone)
    where
      none : r ≡ reply.NoMemory → IsOneHeard o n m c r v v
      none is = subst (λ (x : Reply). IsOneHeard o n m c x v v) (sym is) (heard_short v)

  -- at a turn
  pub heard_turn : (r : Reply) (v w : View Opening Chunk) (request : BookCommand) → asked_of_book m c ≡ Ok (request_of_command request) → IsOneTurn o n request r v w → IsOneHeard o n m c r v w
  heard_turn r v w request asks t = ⊎_elim
      (λ none. record {
        heard = short_reply;
        reply_is = ap one_reply none.0;
        taken = record {
          more = t.more;
          added = None;
          foreign = t.foreign;
          entry = refl;
          given = inl refl;
          seen = t.seen ∙ ap (λ (x : Option Entry). (v.seen ++ t.more) ++ entry_list (step_of x)) none.1;
          first = t.first;
          past = t.past;
        };
      })
      (λ due.
      let based : (b : ℕ) → base_of r ≡ Some b → one_reply r ≡ group.One r = λ b has. ⊎_elim (λ is. absurd (let no : Some b ≡ None = sym has ∙ ap base_of is in cc)) (λ is. is) (alone_or r) in
      let is : one_reply r ≡ group.One r =
      ⊎_elim (λ q. based (length (entries_of_chunks (v.seen ++ t.more))) q.2) (λ q. based (length (entries_of_chunks (v.seen ++ t.more))) q.4) (reply_carries n o (entries_of_chunks (v.seen ++ t.more)) (request_of_command request) r due.0) in
      record {
        heard = record { reply = one_reply r; before = length (v.seen ++ t.more); edits = edits_in t.added };
        reply_is = refl;
        taken = record {
          more = t.more;
          added = step_of t.added;
          foreign = t.foreign;
          entry = chunk_step n t.added (λ e some. entry_number n (Ok (request_of_command request)) r e (sym due.1 ∙ some));
          given = inr (record {
            answer = record {
              told = r;
              answered = subst (λ (a : Result Request Reply). IsRequestAnswered o (entries_of_chunks (v.seen ++ t.more)) a r) (sym asks) due.0;
              reply_is = is;
              edits_are = ap edits_in due.1 ∙ ap (λ (a : Result Request Reply). edits_in (asked_entry n a r)) (sym asks);
            };
            given = λ yes. refl;
          });
          seen = t.seen;
          first = t.first;
          past = t.past;
        };
      })
      t.right

  -- behind a look at more steps
  pub heard_behind : (r : Reply) (v u w : View Opening Chunk) → SeesMore session_of_chunk v u → IsOneHeard o n m c r u w → IsOneHeard o n m c r v w
  heard_behind r v u w s h = record { heard = h.heard; reply_is = h.reply_is; taken = taken_behind (group_core o) n m (step.One c) h.heard v u w s h.taken }

-- an entry that isn't kept, where the names can't be: want of memory behind a turn that entered nothing
pub heard_unnamed : (o : Opening) (n : ℕ) (m : Memory) (c : Command) (v w : View Opening Chunk) → SeesMore session_of_chunk v w → IsOneHeard o n m c reply.NoMemory v w
heard_unnamed o n m c v w s = heard_behind o n m c reply.NoMemory v w w s (heard_short o n m c w)
