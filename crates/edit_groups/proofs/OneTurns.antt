-- One command at a turn of the book of groups is a turn of the book whose journal has these entries.
use Rattle.std.proofs.Common.{false, ◌≡◌, ◌⊎◌, inl, inr, ⊎_elim, ℕ, ◌+◌, List, [], ◌∷◌, ◌++◌, length, Option, Some, None, Ok, option_and_then, option_map, sym, ap, ◌∙◌, refl, subst, append-nil, arith}
use Rattle.carriage_model.specs.declared.verdict.Brief.{Brief}
use Rattle.edit_journal.specs.declared.edit.BlockAt.{BlockAt}
use Rattle.edit_journal.specs.declared.edit.Edit.{Edit}
use Rattle.edit_journal.specs.declared.edit.Entry.{Entry}
use Rattle.edit_journal.specs.declared.opening.Opening.{Opening}
use Rattle.edit_journal.specs.Documents.{names_given}
use Rattle.edit_journal.specs.Entries.{head_id}
use Rattle.edit_journal.proofs.Known.{names_longer}
use Rattle.script_reader.specs.declared.command.Command.{Command}
use Rattle.script_reader.specs.declared.command.Command.TheVariants as command
use Rattle.edit_book.specs.declared.reply.Again.{Again}
use Rattle.edit_book.specs.declared.reply.BookCommand.{BookCommand}
use Rattle.edit_book.specs.declared.reply.BookCommand.TheVariants as ask
use Rattle.edit_book.specs.declared.reply.Reply.{Reply}
use Rattle.edit_book.specs.declared.reply.Reply.TheVariants as reply
use Rattle.edit_book.specs.Asking.{AsksBlocks, ShowsNames}
use Rattle.edit_book.specs.Memory.{head_told, stamp_told_by}
use Rattle.edit_book.specs.Replies.{Request, IsReply, accepted_block, edit_of, entry_of, request_of_command}
use Rattle.edit_book.specs.Turns.{AreTextsGiven, IsRightReply}
use Rattle.edit_book.proofs.Carried.{entry_number}
use Rattle.edit_book.proofs.GivenTexts as texts
use Rattle.edit_book.proofs.NamesKept as kept
use Rattle.turn_book.specs.declared.view.View.{View}
use Rattle.turn_book.specs.Journal.{entry_list}
use Rattle.turn_book.specs.Taken.{SeesMore}
use Rattle.turn_book.specs.Turn.{Turned}
use Rattle.turn_book.proofs.Takes.{seen_after_turn}
use Rattle.edit_groups.specs.Answers.{IsCommandAnswered, edits_in}
use Rattle.edit_groups.specs.Chunks.{chunk_of, entries_of_chunks}
use Rattle.edit_groups.specs.Groups as groups
use Rattle.edit_groups.specs.Shared.{session_of_chunk}
use Rattle.edit_groups.specs.Turns.{IsOneTurn, step_of}
use Rattle.edit_groups.specs.declared.chunk.Chunk.{Chunk}
use Rattle.edit_groups.specs.declared.reply.GroupCommand.TheVariants as asks
use Rattle.edit_groups.specs.declared.reply.GroupReply.{GroupReply}
use Rattle.edit_groups.specs.declared.reply.GroupReply.TheVariants as group
use Rattle.edit_groups.specs.declared.reply.Told.{Told}
use Rattle.edit_groups.proofs.Undoable.{entries_append}

-- the step of the edit of an entry of this session
pub chunk_step : (n : ℕ) (o : Option Entry) → ((e : Entry) → o ≡ Some e → e.session ≡ n) → chunk_of n (edits_in o) ≡ step_of o
chunk_step n None own = refl
chunk_step n (Some e) own = ap (λ (k : ℕ). Some (record { session = k; edits = e.edit ∷ []; earlier = false })) (sym (own e refl))

-- and its entries are that one
pub step_entries : (o : Option Entry) → entries_of_chunks (entry_list (step_of o)) ≡ entry_list o
step_entries None = refl
step_entries (Some e) = refl

module _ (o : Opening) (n : ℕ) (c : BookCommand) (told : Told) (P : List Chunk → Option Chunk → Type 0) (v w : View Opening Chunk) where
  abbrev At : Type 0
  At = Turned session_of_chunk n (λ before added. groups.IsRightGroupReply o before n (asks.One c) told added × P before added) v w

  pub one_turn : (r : Reply) → told.reply ≡ group.One r → At → IsOneTurn o n c r v w
  one_turn r is t = ⊎_elim
      (λ short. absurd (let no : group.One r ≡ group.NoMemory = sym is ∙ short.0 in cc))
      (λ due. due_turn due.0 due.1 due.2)
      t.is_right.0.answer
    where
      due_turn : (edits : List Edit) → IsCommandAnswered o n (entries_of_chunks t.before) (Ok (request_of_command c)) told.reply edits → t.added ≡ chunk_of n edits → IsOneTurn o n c r v w
      due_turn edits one added =
          let same : one.told ≡ r = let both : group.One one.told ≡ group.One r = sym one.reply_is ∙ is in cc in
          let e = entry_of n (request_of_command c) r in
          let right : IsRightReply o (entries_of_chunks t.before) n c r e = inr (
            subst (IsReply o (entries_of_chunks t.before) (request_of_command c)) same one.answered,
            refl,
            (let fit = t.is_right.0.ids_fit in let ids = t.is_right.0.ids in omega (arith, fit, ids)),
          ) in
          let step : t.added ≡ step_of e =
          added ∙ ap (chunk_of n) (one.edits_are ∙ ap (λ (x : Reply). edits_in (entry_of n (request_of_command c) x)) same) ∙ chunk_step n e (λ x some. entry_number n (Ok (request_of_command c)) r x some) in
          record {
            more = t.catches.seen.0;
            added = e;
            foreign = t.catches.seen.2;
            right = subst (λ (j : List Chunk). IsRightReply o (entries_of_chunks j) n c r e) t.catches.seen.1 right;
            seen = seen_after_turn t ∙ ap (λ (x : Option Chunk). (v.seen ++ t.catches.seen.0) ++ entry_list x) step;
            first = ap (λ (x : View Opening Chunk). x.first) t.after;
            past = ap (λ (x : View Opening Chunk). x.past) t.after;
          }

  -- any other reply is want of memory
  pub short_turn : ((r : Reply) → told.reply ≡ group.One r → ⊥) → At → IsOneTurn o n c reply.NoMemory v w
  short_turn other t = ⊎_elim
      (λ short. record {
        more = t.catches.seen.0;
        added = None;
        foreign = t.catches.seen.2;
        right = inl (refl, refl);
        seen = seen_after_turn t ∙ ap (λ (x : Option Chunk). (v.seen ++ t.catches.seen.0) ++ entry_list x) short.1;
        first = ap (λ (x : View Opening Chunk). x.first) t.after;
        past = ap (λ (x : View Opening Chunk). x.past) t.after;
      })
      (λ due. absurd (other due.1.told due.1.reply_is))
      t.is_right.0.answer

module _ (o : Opening) (n : ℕ) (c : BookCommand) (r : Reply) (v w : View Opening Chunk) (t : IsOneTurn o n c r v w) where
  -- the entries that are seen behind it
  pub seen_entries : entries_of_chunks w.seen ≡ entries_of_chunks (v.seen ++ t.more) ++ entry_list t.added
  seen_entries = ap entries_of_chunks t.seen ∙ entries_append (v.seen ++ t.more) (entry_list (step_of t.added)) ∙ ap (λ (l : List Entry). entries_of_chunks (v.seen ++ t.more) ++ l) (step_entries t.added)

  found : (head : ℕ) (names : List (List ℕ)) → names_given o (entries_of_chunks v.seen) head ≡ Some names → names_given o (entries_of_chunks (v.seen ++ t.more)) head ≡ Some names
  found head names given = subst (λ (j : List Entry). names_given o j head ≡ Some names) (sym (entries_append v.seen t.more)) (names_longer o (entries_of_chunks v.seen) (entries_of_chunks t.more) head names given)

  behind : (head : ℕ) (names : List (List ℕ)) → names_given o (entries_of_chunks (v.seen ++ t.more) ++ entry_list t.added) head ≡ Some names → names_given o (entries_of_chunks w.seen) head ≡ Some names
  behind head names given = subst (λ (j : List Entry). names_given o j head ≡ Some names) (sym seen_entries) given

  -- what an entry gave is given after a turn, too
  pub names_later : (head : ℕ) (names : List (List ℕ)) → names_given o (entries_of_chunks v.seen) head ≡ Some names → names_given o (entries_of_chunks w.seen) head ≡ Some names
  names_later head names given = behind head names (names_longer o (entries_of_chunks (v.seen ++ t.more)) (entry_list t.added) head names (found head names given))

  -- after a turn that was asked for blocks
  pub names_beside : (said : Command) (head : ℕ) (names : List (List ℕ)) → AsksBlocks (request_of_command c) → names_given o (entries_of_chunks v.seen) head ≡ Some names → names_given o (entries_of_chunks w.seen) (head_told (stamp_told_by said r) head) ≡ Some names
  names_beside said head names asks given =
      behind (head_told (stamp_told_by said r) head) names (kept.names_beside o n r (entries_of_chunks (v.seen ++ t.more)) t.added said c head names asks t.right (found head names given))

-- after a look at the header, of the names that its line gives
pub names_looked : (o : Opening) (n : ℕ) (r : Reply) (v w : View Opening Chunk) (head : ℕ) (names : List (List ℕ)) → ShowsNames r names → IsOneTurn o n ask.LookHead r v w → names_given o (entries_of_chunks w.seen) (head_told (stamp_told_by command.LookHead r) head) ≡ Some names
names_looked o n r v w head names shows t = behind o n ask.LookHead r v w t (head_told (stamp_told_by command.LookHead r) head) names (kept.names_looked o n r (entries_of_chunks (v.seen ++ t.more)) t.added head names shows t.right)

-- after other names were accepted, of these
pub names_put : (o : Opening) (n : ℕ) (r : Reply) (v w : View Opening Chunk) (seen : ℕ) (given names : List (List ℕ)) (again : List Again) (version block : ℕ) (brief : Brief) → r ≡ reply.Accepted version block brief → IsOneTurn o n (ask.PutHead seen names again) r v w
    → names_given o (entries_of_chunks w.seen) (head_told (stamp_told_by (command.PutHead given) r) seen) ≡ Some names
names_put o n r v w seen given names again version block brief is t =
    behind o n (ask.PutHead seen names again) r v w t (head_told (stamp_told_by (command.PutHead given) r) seen) names
    (kept.names_put o n r (entries_of_chunks (v.seen ++ t.more)) t.added seen given names again version block brief is t.right)

-- and after they were refused, of those before
pub names_refused : (o : Opening) (n : ℕ) (r : Reply) (v w : View Opening Chunk) (seen : ℕ) (given names had : List (List ℕ)) (again : List Again) → ((version block : ℕ) (brief : Brief) → r ≡ reply.Accepted version block brief → ⊥) → IsOneTurn o n (ask.PutHead seen names again) r v w
    → names_given o (entries_of_chunks v.seen) seen ≡ Some had → names_given o (entries_of_chunks w.seen) (head_told (stamp_told_by (command.PutHead given) r) seen) ≡ Some had
names_refused o n r v w seen given names had again refused t before =
    behind o n (ask.PutHead seen names again) r v w t (head_told (stamp_told_by (command.PutHead given) r) seen) had
    (kept.names_refused o n r (entries_of_chunks (v.seen ++ t.more)) t.added seen given names had again refused t.right (found o n (ask.PutHead seen names again) r v w t seen had before))

-- the blocks that a turn tells have the texts that what is seen gave them
pub texts_given : (o : Opening) (n : ℕ) (r : Reply) (v w : View Opening Chunk) (version : ℕ) (blocks : List BlockAt) → r ≡ reply.Texts version blocks → IsOneTurn o n ask.Texts r v w → AreTextsGiven o (entries_of_chunks w.seen) blocks
texts_given o n r v w version blocks is t =
    subst (λ (j : List Entry). AreTextsGiven o j blocks) (sym (seen_entries o n ask.Texts r v w t))
    (texts.given_longer o (entries_of_chunks (v.seen ++ t.more)) (entry_list t.added) blocks (texts.texts_given o n (entries_of_chunks (v.seen ++ t.more)) t.added r version blocks is t.right))

-- what enters nothing only sees more
no_entry : (n : ℕ) (request : Request) (x : Reply) → ((block : ℕ) → edit_of request block ≡ None) → entry_of n request x ≡ None
no_entry n request x none = go (accepted_block x)
  where
    enter : Edit → Entry
    enter e = record { session = n; edit = e }

    go : (b : Option ℕ) → option_map (λ (e : Edit). enter e) (option_and_then (edit_of request) b) ≡ None
    go None = refl
    go (Some b) = ap (option_map enter) (none b)

sees_more : (o : Opening) (n : ℕ) (c : BookCommand) (r : Reply) (v w : View Opening Chunk) → ((block : ℕ) → edit_of (request_of_command c) block ≡ None) → IsOneTurn o n c r v w → SeesMore session_of_chunk v w
sees_more o n c r v w none t = record {
  more = t.more;
  foreign = t.foreign;
  seen = t.seen ∙ ap (λ (x : Option Entry). (v.seen ++ t.more) ++ entry_list (step_of x)) (⊎_elim (λ short. short.1) (λ due. due.1 ∙ no_entry n (request_of_command c) r none) t.right) ∙ append-nil (v.seen ++ t.more);
  first = t.first;
  past = t.past;
}

pub texts_see_more : (o : Opening) (n : ℕ) (r : Reply) (v w : View Opening Chunk) → IsOneTurn o n ask.Texts r v w → SeesMore session_of_chunk v w
texts_see_more o n r v w t = sees_more o n ask.Texts r v w (λ block. refl) t

pub head_sees_more : (o : Opening) (n : ℕ) (r : Reply) (v w : View Opening Chunk) → IsOneTurn o n ask.LookHead r v w → SeesMore session_of_chunk v w
head_sees_more o n r v w t = sees_more o n ask.LookHead r v w (λ block. refl) t

-- what was given is given behind a look at more steps, too
pub names_seen : (o : Opening) (v w : View Opening Chunk) (head : ℕ) (names : List (List ℕ)) → SeesMore session_of_chunk v w → names_given o (entries_of_chunks v.seen) head ≡ Some names → names_given o (entries_of_chunks w.seen) head ≡ Some names
names_seen o v w head names s given =
    subst (λ (j : List Entry). names_given o j head ≡ Some names) (sym (ap entries_of_chunks s.seen ∙ entries_append v.seen s.more)) (names_longer o (entries_of_chunks v.seen) (entries_of_chunks s.more) head names given)

-- a reply is that to one command, or another
pub one_or_other : (told : GroupReply) → ((r : Reply) × (told ≡ group.One r)) ⊎ ((r : Reply) → told ≡ group.One r → ⊥)
one_or_other (group.One r) = inl (r, refl)
one_or_other (group.Done version from brief) = inr (λ r is. cc)
one_or_other (group.Refused base at told) = inr (λ r is. cc)
one_or_other group.NoUndo = inr (λ r is. cc)
one_or_other group.NoMemory = inr (λ r is. cc)
