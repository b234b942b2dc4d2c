-- The replies of a book of groups keep the laws of a core.
use Rattle.std.proofs.Common.{◌≡◌, ◌⊎◌, inl, inr, ⊎_elim, ℕ, ◌+◌, Bool, true, false, cond, List, [], ◌∷◌, length, Option, Some, None, is_some, Result, Ok, Err, sym, ap, ◌∙◌, refl, subst, arith}
use Rattle.edit_journal.specs.declared.edit.Edit.{Edit}
use Rattle.edit_journal.specs.declared.edit.Entry.{Entry}
use Rattle.edit_journal.specs.declared.opening.Opening.{Opening}
use Rattle.script_reader.specs.declared.step.Step.{Step}
use Rattle.script_reader.specs.declared.step.Step.TheVariants as step
use Rattle.edit_book.specs.Memory.{Memory, asked_of_book, asked_entry, base_of}
use Rattle.edit_book.specs.Replies.{Request}
use Rattle.edit_book.specs.declared.reply.Reply.{Reply}
use Rattle.edit_book.proofs.Carried.{answer_enters, answer_free, reply_carries}
use Rattle.edit_groups.specs.Answers.{AskedStep, One, Group, Undo, IsGroupAnswered, IsCommandAnswered, IsStep, IsUndo, done, refused, nothing, undone, edits_in}
use Rattle.edit_groups.specs.Chunks.{Undoable, chunk_of, entries_of_chunks, undoable_of_session}
use Rattle.edit_groups.specs.Sessions.{HeardReply, IsStepHeard, group_core, is_given_at_version, step_asked, steps_added}
use Rattle.edit_groups.specs.declared.chunk.Chunk.{Chunk}
use Rattle.edit_groups.specs.declared.reply.GroupReply.{GroupReply}
use Rattle.edit_groups.specs.declared.reply.GroupReply.TheVariants as group
use Rattle.turn_book.specs.Core.{IsCore}

-- a step's chunk is the session's
chunk_session : (n : ℕ) (edits : List Edit) (c : Chunk) → chunk_of n edits ≡ Some c → c.session ≡ n
chunk_session n [] c is = absurd (cc)
chunk_session n (e ∷ es) c is = let same : record { session = n; edits = e ∷ es; earlier = false } ≡ c = cc in ap (λ (k : Chunk). k.session) (sym same)

chunk_edits : (n : ℕ) (edits : List Edit) (c : Chunk) → chunk_of n edits ≡ Some c → steps_added edits ≡ 1
chunk_edits n [] c is = absurd (cc)
chunk_edits n (e ∷ es) c is = refl

no_chunk : (n : ℕ) (edits : List Edit) → chunk_of n edits ≡ None → edits ≡ []
no_chunk n [] is = refl
no_chunk n (e ∷ es) is = absurd (cc)

some_true : {A : Type 0} (o : Option A) (x : A) → o ≡ Some x → is_some o ≡ true
some_true o x is = ap is_some is

none_of : {A : Type 0} (o : Option A) → is_some o ≡ false → o ≡ None
none_of None is = refl
none_of (Some x) is = absurd (cc)

module _ (opening : Opening) where
  -- a reply with edits was given at a version
  one_given : (n : ℕ) (journal : List Entry) (a : Result Request Reply) (r : GroupReply) (edits : List Edit) → IsCommandAnswered opening n journal a r edits → (is_given_at_version r ≡ true) ⊎ (edits ≡ [])
  one_given n journal a r edits one = go (asked_entry n a one.told) refl
    where
      go : (o : Option Entry) → asked_entry n a one.told ≡ o → (is_given_at_version r ≡ true) ⊎ (edits ≡ [])
      go None none = inr (one.edits_are ∙ ap edits_in none)
      go (Some e) some = inl (ap is_given_at_version one.reply_is ∙ some_true (base_of one.told) (length journal) (answer_enters opening n journal a one.told e one.answered some).0)

  step_given : (n : ℕ) (journal : List Entry) (last : Option Undoable) (asks : AskedStep) (r : GroupReply) (edits : List Edit) → IsStep opening n journal last asks r edits → (is_given_at_version r ≡ true) ⊎ (edits ≡ [])
  step_given n journal last (One a) r edits one = one_given n journal a r edits one
  step_given n journal last (Group asks) r edits (done entries brief accepted at) = inl refl
  step_given n journal last (Group asks) r edits (refused front a back entries told are accepted answered none) = inl refl
  step_given n journal last Undo r edits (nothing) = inl refl
  step_given n journal last Undo r edits (undone some request s es undoes one) = one_given n journal (Ok request) s es one

  -- one that wasn't given at a version is right at every journal
  one_free : (n : ℕ) (before after : List Entry) (a : Result Request Reply) (r : GroupReply) (edits : List Edit) → is_given_at_version r ≡ false → IsCommandAnswered opening n before a r edits → IsCommandAnswered opening n after a r edits
  one_free n before after a r edits not one = record {
    told = one.told;
    answered = answer_free opening before after a one.told one.answered (none_of (base_of one.told) (sym (ap is_given_at_version one.reply_is) ∙ not));
    reply_is = one.reply_is;
    edits_are = one.edits_are;
  }

  step_free : (n : ℕ) (before after : List Entry) (last then : Option Undoable) (asks : AskedStep) (r : GroupReply) (edits : List Edit) → is_given_at_version r ≡ false → IsStep opening n before last asks r edits → IsStep opening n after then asks r edits
  step_free n before after last then (One a) r edits not one = one_free n before after a r edits not one
  step_free n before after last then (Group asks) r edits not (done entries brief accepted at) = absurd (cc)
  step_free n before after last then (Group asks) r edits not (refused front a back entries told are accepted answered none) = absurd (cc)
  step_free n before after last then Undo r edits not (nothing) = absurd (cc)
  step_free n before after last then Undo r edits not (undone some request s es undoes one) =
      let none = none_of (base_of one.told) (sym (ap is_given_at_version one.reply_is) ∙ not) in
      absurd (⊎_elim (λ q. let had = q.2 in absurd (cc)) (λ q. let had = q.4 in absurd (cc)) (reply_carries n opening before request one.told one.answered))

  enters : (n : ℕ) (before : List Chunk) (m : Memory) (c : Step) (h : HeardReply) (e : Chunk) → IsStepHeard opening n before m c h → chunk_of n h.edits ≡ Some e
      → (cond (is_given_at_version h.reply) (Some h.before) None ≡ Some (length before)) × (cond (is_given_at_version h.reply) (Some (h.before + steps_added h.edits)) None ≡ Some (length before + 1))
  enters n before m c h e heard some = ⊎_elim given (λ none. let no : chunk_of n h.edits ≡ None = ap (chunk_of n) none in absurd (cc)) (step_given n (entries_of_chunks before) (undoable_of_session n before) (step_asked m c) h.reply h.edits heard.answer)
    where
      given : is_given_at_version h.reply ≡ true → (cond (is_given_at_version h.reply) (Some h.before) None ≡ Some (length before)) × (cond (is_given_at_version h.reply) (Some (h.before + steps_added h.edits)) None ≡ Some (length before + 1))
      given is = (
        ap (λ (p : Bool × ℕ). cond p.0 (Some p.1) None) (λ i. (is i, heard.given is i)),
        ap (λ (p : Bool × ℕ). cond p.0 (Some p.1) None) (λ i. (is i, heard.given is i + chunk_edits n h.edits e some i)),
      )

  stays : (n : ℕ) (before : List Chunk) (m : Memory) (c : Step) (h : HeardReply) → IsStepHeard opening n before m c h → chunk_of n h.edits ≡ None
      → ((cond (is_given_at_version h.reply) (Some h.before) None ≡ Some (length before)) × (cond (is_given_at_version h.reply) (Some (h.before + steps_added h.edits)) None ≡ Some (length before)))
      ⊎ ((cond (is_given_at_version h.reply) (Some h.before) None ≡ None) × (cond (is_given_at_version h.reply) (Some (h.before + steps_added h.edits)) None ≡ None))
  stays n before m c h heard none = go (is_given_at_version h.reply) refl
    where
      added : steps_added h.edits ≡ 0
      added = ap steps_added (no_chunk n h.edits none)

      go : (b : Bool) → is_given_at_version h.reply ≡ b → ((cond b (Some h.before) None ≡ Some (length before)) × (cond b (Some (h.before + steps_added h.edits)) None ≡ Some (length before)))
          ⊎ ((cond b (Some h.before) None ≡ None) × (cond b (Some (h.before + steps_added h.edits)) None ≡ None))
      go true is = inl (ap Some (heard.given is), ap Some (let at = heard.given is in omega (arith, at, added)))
      go false is = inr (refl, refl)

  free : (n : ℕ) (before after : List Chunk) (m : Memory) (c : Step) (h : HeardReply) → IsStepHeard opening n before m c h → cond (is_given_at_version h.reply) (Some h.before) None ≡ None → IsStepHeard opening n after m c h
  free n before after m c h heard none = go (is_given_at_version h.reply) refl none
    where
      go : (b : Bool) → is_given_at_version h.reply ≡ b → cond b (Some h.before) None ≡ None → IsStepHeard opening n after m c h
      go true is none = absurd (cc)
      go false is none = record {
        answer = step_free n (entries_of_chunks before) (entries_of_chunks after) (undoable_of_session n before) (undoable_of_session n after) (step_asked m c) h.reply h.edits is heard.answer;
        given = λ yes. absurd (let same : true ≡ false = sym yes ∙ is in cc);
      }

-- the book of groups of this opening is a core
pub is_core : (opening : Opening) → IsCore (group_core opening)
is_core opening = record {
  number = (λ n m c h e is. chunk_session n h.edits e is);
  short_entry = (λ n m c. refl);
  short_version = refl;
  short_base = refl;
  enters = (λ n before m c h e heard some. enters opening n before m c h e heard some);
  stays = (λ n before m c h heard none. stays opening n before m c h heard none);
  free = (λ n before after m c h heard none. free opening n before after m c h heard none);
}
