-- Whether an undo of a session's last step puts a text back, after one step more.
use Rattle.std.proofs.Common.{◌≡◌, ◌≢◌, ◌⊎◌, ⊎_elim, ℕ, ◌+◌, ◌<◌, ◌≤◌, Bool, true, false, List, [], ◌∷◌, ◌++◌, length, Option, Some, None, Result, Ok, Err, option_map, sym, ap, ◌∙◌, refl, subst, append-nil, append_assoc, arith}
use Rattle.carriage_model.specs.declared.verdict.Brief.{Brief}
use Rattle.edit_journal.specs.declared.edit.Edit.{Edit}
use Rattle.edit_journal.specs.declared.edit.Edit.TheVariants as edit
use Rattle.edit_journal.specs.declared.edit.Entry.{Entry}
use Rattle.edit_journal.specs.declared.opening.Opening.{Opening}
use Rattle.script_reader.specs.declared.command.Command.{Command}
use Rattle.script_reader.specs.declared.step.Step.{Step}
use Rattle.script_reader.specs.declared.step.Step.TheVariants as step
use Rattle.edit_book.specs.declared.reply.Reply.{Reply}
use Rattle.edit_book.specs.declared.reply.Reply.TheVariants as reply
use Rattle.edit_book.specs.Memory.{Memory, IsRequestAnswered, asked_of_book, asked_entry, version_of}
use Rattle.edit_book.specs.Replies.{Request, entry_of}
use Rattle.edit_book.proofs.Carried.{Alone, asked_is_alone}
use Rattle.turn_book.specs.declared.view.View.{View}
use Rattle.turn_book.specs.Journal.{Foreign, entry_list}
use Rattle.turn_book.specs.Taken.{IsCommandTaken}
use Rattle.edit_groups.specs.Answers.{IsCommandAnswered, edits_in}
use Rattle.edit_groups.specs.Chunks.{Undoable, chunk_of, entries_of_chunks, is_put, is_put_undo, undoable_of_session, undoable_edit, undoable_in}
use Rattle.edit_groups.specs.Sessions.{HeardReply, IsStepHeard, group_core, short_reply}
use Rattle.edit_groups.specs.Shared.{session_of_chunk}
use Rattle.edit_groups.specs.Turns.{IsOneHeard, is_put_command, one_reply, put_after}
use Rattle.edit_groups.specs.declared.chunk.Chunk.{Chunk}
use Rattle.edit_groups.specs.declared.reply.GroupReply.{GroupReply}
use Rattle.edit_groups.specs.declared.reply.GroupReply.TheVariants as group
use Rattle.edit_groups.proofs.Accepted.{accepted_edit}
use Rattle.edit_groups.proofs.Asked.{put_kind}
use Rattle.edit_groups.proofs.Entered.{entry_is_entered}
use Rattle.edit_groups.proofs.OneHeard.{alone_or}
use Rattle.edit_groups.proofs.Undoable.{undoable_other, undoable_own}

-- steps of others change nothing of what can be undone
pub undoable_foreign : (n low high : ℕ) (xs more : List Chunk) → low ≤ n → n < high → Foreign session_of_chunk low high more → undoable_of_session n (xs ++ more) ≡ undoable_of_session n xs
undoable_foreign n low high xs [] above below f = ap (undoable_of_session n) (append-nil xs)
undoable_foreign n low high xs (c ∷ more) above below f =
    ap (undoable_of_session n) (sym (append_assoc xs (c ∷ []) more))
    ∙ undoable_foreign n low high (xs ++ c ∷ []) more above below f.1
    ∙ undoable_other n xs c (λ same. f.0 (omega (arith, same)) (omega (arith, same)))

-- whether the last step is a put, behind one that left these edits
abbrev pub puts_behind : List Edit → Bool → Bool
puts_behind [] before = before
puts_behind (e ∷ []) before = is_put e
puts_behind (e ∷ next ∷ more) before = false

puts_edit : (number : ℕ) (e : Edit) → is_put_undo (undoable_edit number e) ≡ is_put e
puts_edit number (edit.Put block seen text) = refl
puts_edit number (edit.Add anchor block text) = refl
puts_edit number (edit.Cut block seen) = refl
puts_edit number (edit.Head seen names) = refl

puts_step : (n : ℕ) (xs : List Chunk) (edits : List Edit) → is_put_undo (undoable_of_session n (xs ++ entry_list (chunk_of n edits))) ≡ puts_behind edits (is_put_undo (undoable_of_session n xs))
puts_step n xs [] = ap (λ (l : List Chunk). is_put_undo (undoable_of_session n l)) (append-nil xs)
puts_step n xs (e ∷ []) = ap is_put_undo (undoable_own n xs (record { session = n; edits = e ∷ []; earlier = false }) refl) ∙ puts_edit (length (entries_of_chunks xs) + 1) e
puts_step n xs (e ∷ next ∷ more) = ap is_put_undo (undoable_own n xs (record { session = n; edits = e ∷ next ∷ more; earlier = false }) refl)

pub taken_puts : (o : Opening) (n : ℕ) (m : Memory) (c : Step) (h : HeardReply) (v w : View Opening Chunk) → v.first ≤ n → n < v.past → IsCommandTaken (group_core o) n m c h v w → is_put_undo (undoable_of_session n w.seen) ≡ puts_behind h.edits (is_put_undo (undoable_of_session n v.seen))
taken_puts o n m c h v w above below t =
    ap (λ (l : List Chunk). is_put_undo (undoable_of_session n l)) (t.seen ∙ ap (λ (x : Option Chunk). (v.seen ++ t.more) ++ entry_list x) (sym t.entry))
    ∙ puts_step n (v.seen ++ t.more) h.edits
    ∙ ap (λ (x : Option Undoable). puts_behind h.edits (is_put_undo x)) (undoable_foreign n v.first v.past v.seen t.more above below t.foreign)

-- an answer that is accepted leaves an entry
accepted_enters : (o : Opening) (n : ℕ) (journal : List Entry) (a : Result Request Reply) (version block : ℕ) (brief : Brief) → Alone a → IsRequestAnswered o journal a (reply.Accepted version block brief) → asked_entry n a (reply.Accepted version block brief) ≡ None → ⊥
accepted_enters o n journal (Ok request) version block brief al answered none =
    let e = (accepted_edit o journal request version block brief answered).1 in
    let some : entry_of n request (reply.Accepted version block brief) ≡ Some (record { session = n; edit = e.e }) = ap (option_map (λ (x : Edit). record { session = n; edit = x })) e.here in
    absurd (cc)
accepted_enters o n journal (Err refusal) version block brief al answered none = let no : Some version ≡ None = ap version_of answered ∙ al.0 in absurd (cc)

not_accepted : (c : Command) (r : Reply) (before : Bool) → ((version block : ℕ) (brief : Brief) → r ≡ reply.Accepted version block brief → ⊥) → put_after c r before ≡ before
not_accepted c (reply.Accepted version block brief) before not = absurd (not version block brief refl)
not_accepted c (reply.Shown version block stamp first text) before not = refl
not_accepted c (reply.Loop version fact) before not = refl
not_accepted c (reply.Now version verdict text) before not = refl
not_accepted c (reply.Texts version blocks) before not = refl
not_accepted c (reply.Stale version block seen now) before not = refl
not_accepted c (reply.Gone version block at) before not = refl
not_accepted c (reply.NoBlock version block ids) before not = refl
not_accepted c (reply.Full version what limit) before not = refl
not_accepted c (reply.Unseen name) before not = refl
not_accepted c (reply.BlockLong lines) before not = refl
not_accepted c reply.NoMemory before not = refl

-- after an answer to a command
answer_puts : (o : Opening) (n : ℕ) (journal : List Entry) (m : Memory) (c : Command) (r : Reply) (before : Bool) → IsRequestAnswered o journal (asked_of_book m c) r → puts_behind (edits_in (asked_entry n (asked_of_book m c) r)) before ≡ put_after c r before
answer_puts o n journal m c r before answered = go (asked_entry n (asked_of_book m c) r) refl
  where
    go : (x : Option Entry) → asked_entry n (asked_of_book m c) r ≡ x → puts_behind (edits_in x) before ≡ put_after c r before
    go None none = sym (not_accepted c r before (λ version block brief is. accepted_enters o n journal (asked_of_book m c) version block brief (asked_is_alone m c)
        (subst (IsRequestAnswered o journal (asked_of_book m c)) is answered) (ap (asked_entry n (asked_of_book m c)) (sym is) ∙ none)))
    go (Some e) some = let x = entry_is_entered n (asked_of_book m c) r e some in
        sym (put_kind m c x.request x.block e.edit x.asked_is x.edit_is) ∙ ap (λ (y : Reply). put_after c y before) (sym x.told_is)

-- after one command that was heard
pub one_puts : (o : Opening) (n : ℕ) (m : Memory) (c : Command) (r : Reply) (v w : View Opening Chunk) → v.first ≤ n → n < v.past → IsOneHeard o n m c r v w → put_after c r (is_put_undo (undoable_of_session n v.seen)) ≡ is_put_undo (undoable_of_session n w.seen)
one_puts o n m c r v w above below h = sym (taken_puts o n m (step.One c) h.heard v w above below h.taken ∙ ⊎_elim none given h.taken.given)
  where
    before : Bool
    before = is_put_undo (undoable_of_session n v.seen)

    none : h.heard ≡ short_reply → puts_behind h.heard.edits before ≡ put_after c r before
    none is =
        let shown : one_reply r ≡ group.NoMemory = h.reply_is ∙ ap (λ (x : HeardReply). x.reply) is in
        let same : r ≡ reply.NoMemory = ⊎_elim (λ yes. yes) (λ one. absurd (let no : group.One r ≡ group.NoMemory = sym one ∙ shown in cc)) (alone_or r) in
        ap (λ (x : HeardReply). puts_behind x.edits before) is ∙ ap (λ (x : Reply). put_after c x before) (sym same)

    given : IsStepHeard o n (v.seen ++ h.taken.more) m (step.One c) h.heard → puts_behind h.heard.edits before ≡ put_after c r before
    given g =
        let one : IsCommandAnswered o n (entries_of_chunks (v.seen ++ h.taken.more)) (asked_of_book m c) h.heard.reply h.heard.edits = g.answer in
        let told : one_reply r ≡ group.One one.told = h.reply_is ∙ one.reply_is in
        let same : one.told ≡ r = ⊎_elim
        (λ none. absurd (let no : group.NoMemory ≡ group.One one.told = ap one_reply (sym none) ∙ told in cc))
        (λ is. let both : group.One r ≡ group.One one.told = sym is ∙ told in cc)
        (alone_or r) in
        ap (λ (es : List Edit). puts_behind es before) one.edits_are
        ∙ answer_puts o n (entries_of_chunks (v.seen ++ h.taken.more)) m c one.told before one.answered
        ∙ ap (λ (x : Reply). put_after c x before) same
