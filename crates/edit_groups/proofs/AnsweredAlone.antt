-- Steps of a session that has the book for itself.
use Rattle.std.proofs.Common.{◌≡◌, inl, inr, ℕ, suc, ◌+◌, ◌<◌, List, [], ◌∷◌, ◌++◌, length, Result, Err, sym, ap, ◌∙◌, refl, subst, append-nil, arith}
use Rattle.std.proofs.lemmas.List.Sums.{sum_by-cons}
use Rattle.edit_journal.specs.declared.edit.BlockName.{BlockName}
use Rattle.edit_journal.specs.declared.opening.Opening.{Opening}
use Rattle.edit_journal.specs.Documents.{names_given}
use Rattle.script_reader.specs.Groups.{commands_of_step}
use Rattle.script_reader.specs.Script.{adds_in, adds_of, command_line_in}
use Rattle.script_reader.specs.declared.command.Command.{Command}
use Rattle.script_reader.specs.declared.command.Command.TheVariants as command
use Rattle.script_reader.specs.declared.command.Place.{Place}
use Rattle.script_reader.specs.declared.step.Step.{Step}
use Rattle.script_reader.specs.declared.step.Step.TheVariants as step
use Rattle.edit_book.specs.Memory.{Memory, IsRequestAnswered, asked_of_book, asked_entry, memory_after, with_missed}
use Rattle.edit_book.specs.Replies.{Request}
use Rattle.edit_book.specs.Session.{HasLearned, Teaches}
use Rattle.edit_book.specs.declared.reply.Reply.{Reply}
use Rattle.edit_book.specs.declared.reply.Reply.TheVariants as reply
use Rattle.edit_book.specs.declared.sessions.learned.Learned.{Learned}
use Rattle.turn_book.specs.declared.view.View.{View}
use Rattle.turn_book.specs.Journal.{Each}
use Rattle.turn_book.specs.Turn.{Catches}
use Rattle.turn_book.proofs.WholePass.{none_foreign, taken_whole}
use Rattle.edit_groups.specs.Alone.{IsAnsweredAt, IsSessionAt}
use Rattle.edit_groups.specs.Answers.{edits_in}
use Rattle.edit_groups.specs.Chunks.{entries_of_chunks}
use Rattle.edit_groups.specs.Sessions.{group_core, missed_memory, short_reply, step_memory}
use Rattle.edit_groups.specs.Shared.{session_of_chunk}
use Rattle.edit_groups.specs.Turns.{IsStepDone}
use Rattle.edit_groups.specs.declared.chunk.Chunk.{Chunk}
use Rattle.edit_groups.specs.declared.reply.GroupReply.{GroupReply}
use Rattle.edit_groups.specs.declared.reply.GroupReply.TheVariants as group
use Rattle.edit_groups.specs.declared.session.GroupSession.{GroupSession}

each_end : {A : Type 0} (P : A → Type 0) (xs ys : List A) → Each P (xs ++ ys) → Each P ys
each_end P [] ys each = each
each_end P (x ∷ xs) ys each = each_end P xs ys each.1

-- what a pass with all numbers sees behind its own step is that step
seen_whole : (v : View Opening Chunk) (all : List Chunk) → v.first ≡ 0 → v.past ≡ v.count → Catches session_of_chunk v all → all ≡ v.seen
seen_whole v all low high c = let more : List Chunk = c.seen.0 in
    let few = each_end (λ (k : Chunk). session_of_chunk k < v.count) v.seen more (subst (Each (λ (k : Chunk). session_of_chunk k < v.count)) c.seen.1 c.numbers) in
    c.seen.1 ∙ (ap (λ (l : List Chunk). v.seen ++ l) (none_foreign session_of_chunk v.first v.past v.count more low high c.seen.2 few) ∙ append-nil v.seen)

-- so its step is answered at the steps that it had seen
pub answered_whole : (o : Opening) (n : ℕ) (m : Memory) (c : Step) (r : GroupReply) (v u : View Opening Chunk) (all : List Chunk) (s t : GroupSession) → v.first ≡ 0 → v.past ≡ v.count → u.first ≡ 0 → u.past ≡ u.count → u.count ≡ v.count → Catches session_of_chunk u all
    → s.session.number ≡ n → IsSessionAt o v.seen m s → IsStepDone o m c r v u s t → IsAnsweredAt o n m c r v.seen all t
answered_whole o n m c r v u all s t low high low_then high_then counts catches number at d =
    let same : all ≡ u.seen = seen_whole u all low_then high_then catches in
    let few = subst (λ (p : ℕ × List Chunk). Each (λ (k : Chunk). session_of_chunk k < p.0) p.1) (λ i. (counts i, same i)) catches.numbers in
    let whole = taken_whole (group_core o) s.session.number m c d.heard v u v.count low high few d.taken in
    subst (λ (k : ℕ). IsAnsweredAt o k m c r v.seen all t) number (record {
      heard = d.heard;
      reply_is = d.reply_is;
      given = whole.0;
      after_is = same ∙ whole.1;
      stands = subst (λ (l : List Chunk). IsSessionAt o l (step_memory m c d.heard) t) (sym same) (record { remembers = d.remembers at.last; names = d.kept.names; last = d.last at.last });
    })

-- of a refused put nothing is remembered
untaught_put : (m : Memory) (name : BlockName) (text : List (List ℕ)) (r : Reply) → (Teaches r → ⊥) → memory_after m (command.Put name text) r ≡ m
untaught_put m name text (reply.Accepted version block brief) untaught = absurd (untaught tt)
untaught_put m name text (reply.Shown version block stamp first lines) untaught = absurd (untaught tt)
untaught_put m name text r untaught = refl

-- and of a refused add, that it made no block
untaught_add : (m : Memory) (place : Place) (text : List (List ℕ)) (r : Reply) → (Teaches r → ⊥) → memory_after m (command.Add place text) r ≡ with_missed 1 m
untaught_add m place text (reply.Accepted version block brief) untaught = absurd (untaught tt)
untaught_add m place text (reply.Shown version block stamp first lines) untaught = absurd (untaught tt)
untaught_add m place text r untaught = refl

-- adds that made no block, all at once
missed_more : (m : Memory) (c : Command) (count : ℕ) → with_missed count (memory_after m c reply.NoMemory) ≡ with_missed (adds_of (command_line_in c) + count) m
missed_more m (command.Add place text) count = let more : suc count ≡ 1 + count = omega arith in ap (λ (k : ℕ). with_missed k m) more
missed_more m (command.Look name) count = let more : count ≡ 0 + count = omega arith in ap (λ (k : ℕ). with_missed k m) more
missed_more m (command.Put name text) count = let more : count ≡ 0 + count = omega arith in ap (λ (k : ℕ). with_missed k m) more
missed_more m (command.Cut name) count = let more : count ≡ 0 + count = omega arith in ap (λ (k : ℕ). with_missed k m) more
missed_more m (command.LoopAt line) count = let more : count ≡ 0 + count = omega arith in ap (λ (k : ℕ). with_missed k m) more
missed_more m command.Verdict count = let more : count ≡ 0 + count = omega arith in ap (λ (k : ℕ). with_missed k m) more
missed_more m command.LookHead count = let more : count ≡ 0 + count = omega arith in ap (λ (k : ℕ). with_missed k m) more
missed_more m (command.PutHead names) count = let more : count ≡ 0 + count = omega arith in ap (λ (k : ℕ). with_missed k m) more

all_missed : (m : Memory) (cs : List Command) → missed_memory m cs ≡ with_missed (adds_in cs) m
all_missed m [] = refl
all_missed m (c ∷ cs) =
    all_missed (memory_after m c reply.NoMemory) cs
    ∙ missed_more m c (adds_in cs)
    ∙ ap (λ (k : ℕ). with_missed k m) (sym (sum_by-cons (λ (x : Command). adds_of (command_line_in x)) c cs))

lost_memory : (m : Memory) (c : Step) → step_memory m c short_reply ≡ with_missed (adds_in (commands_of_step c)) m
lost_memory m (step.One c) = all_missed m (c ∷ [])
lost_memory m (step.Group cs) = all_missed m cs
lost_memory m step.Undo = all_missed m []

-- a session that has learned this
abbrev pub with_learned : GroupSession → Learned → GroupSession
with_learned s l = record { session = record { number = s.session.number; learned = l; header = s.session.header; draft = s.session.draft }; last_put = s.last_put }

module _ (o : Opening) (known : List Chunk) (m : Memory) (s : GroupSession) (l : Learned) (at : IsSessionAt o known m s) (head : l.head ≡ s.session.learned.head) where
  stands_on : (then : Memory) → HasLearned l then → IsSessionAt o known then (with_learned s l)
  stands_on then learned = record { remembers = learned; names = ap (names_given o (entries_of_chunks known)) head ∙ at.names; last = at.last }

  -- the session's own refusal of a command
  refused_alone : (c : Command) (r : Reply) → asked_of_book m c ≡ Err r → HasLearned l (memory_after m c r) → IsAnsweredAt o s.session.number m (step.One c) (group.One r) known known (with_learned s l)
  refused_alone c r asks learned = record {
    heard = record { reply = group.One r; before = length known; edits = [] };
    reply_is = refl;
    given = inr (record {
      answer = record {
        told = r;
        answered = subst (λ (a : Result Request Reply). IsRequestAnswered o (entries_of_chunks known) a r) (sym asks) refl;
        reply_is = refl;
        edits_are = ap (λ (a : Result Request Reply). edits_in (asked_entry s.session.number a r)) (sym asks);
      };
      given = λ yes. refl;
    });
    after_is = sym (append-nil known);
    stands = stands_on (memory_after m c r) learned;
  }

  pub put_refused : (name : BlockName) (text : List (List ℕ)) (r : Reply) → asked_of_book m (command.Put name text) ≡ Err r → (Teaches r → ⊥) → HasLearned l m
      → IsAnsweredAt o s.session.number m (step.One (command.Put name text)) (group.One r) known known (with_learned s l)
  put_refused name text r asks untaught learned = refused_alone (command.Put name text) r asks (subst (HasLearned l) (sym (untaught_put m name text r untaught)) learned)

  pub add_refused : (place : Place) (text : List (List ℕ)) (r : Reply) → asked_of_book m (command.Add place text) ≡ Err r → (Teaches r → ⊥) → HasLearned l (with_missed 1 m)
      → IsAnsweredAt o s.session.number m (step.One (command.Add place text)) (group.One r) known known (with_learned s l)
  add_refused place text r asks untaught learned = refused_alone (command.Add place text) r asks (subst (HasLearned l) (sym (untaught_add m place text r untaught)) learned)

  -- want of memory for a step with so many adds
  pub lost_answered : (c : Step) (adds : ℕ) → adds ≡ adds_in (commands_of_step c) → HasLearned l (with_missed adds m) → IsAnsweredAt o s.session.number m c group.NoMemory known known (with_learned s l)
  lost_answered c adds counted learned = record {
    heard = short_reply;
    reply_is = refl;
    given = inl refl;
    after_is = sym (append-nil known);
    stands = stands_on (step_memory m c short_reply) (subst (HasLearned l) (ap (λ (k : ℕ). with_missed k m) counted ∙ sym (lost_memory m c)) learned);
  }
