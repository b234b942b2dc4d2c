-- The sessions of a conversation behind one more order.
use Rattle.std.proofs.Common.{◌≡◌, ◌≢◌, ℕ, ◌+◌, ◌<◌, ◌==◌, if◌then◌else◌, Bool, true, ne_eqb, eq-eqb, List, ◌++◌, length, set, slice_get, Some, refl, sym, ap, ◌∙◌, subst}
use native.Mathlib.Decide.{ℕ_discrete}
use mathlib.Core.Logic.{dite}
use Rattle.edit_book.proofs.Puts.{set_other, set_there}
use Rattle.edit_journal.specs.declared.opening.Opening.{Opening}
use Rattle.script_reader.specs.Hearing.{Ask, Tell}
use Rattle.script_reader.specs.declared.step.Step.{Step}
use Rattle.script_reader.specs.declared.talk_line.Question.{Question}
use Rattle.edit_book.specs.Memory.{Memory}
use Rattle.edit_groups.specs.Alone.{IsSessionAt}
use Rattle.edit_groups.specs.Chunks.{chunk_of}
use Rattle.edit_groups.specs.Sessions.{HeardReply, step_memory}
use Rattle.edit_groups.proofs.OthersStand.{others_stand}
use Rattle.turn_book.specs.Journal.{entry_list}
use Rattle.talk_desk.specs.Conversation.{Answer, Given, Standing, standing_after}
use Rattle.talk_desk.specs.Hosts.{IsTalker}
use Rattle.talk_desk.specs.declared.steps.Talker.{Talker}

same-number : (n : ℕ) → (n == n) ≡ true
same-number n = eq-eqb n n refl

-- all talkers, of whom one is another since
pub talkers-set : (opening : Opening) (s t : Standing) (n : ℕ) (us : List Talker) (v : Talker) → ((i : ℕ) (u : Talker) → slice_get us i ≡ Some u → IsTalker opening s i u) → IsTalker opening t n v
    → ((i : ℕ) (u : Talker) → i ≢ n → IsTalker opening s i u → IsTalker opening t i u) → n < length us → (i : ℕ) (u : Talker) → slice_get (set us n v) i ≡ Some u → IsTalker opening t i u
talkers-set opening s t n us v all own other within i u is =
    dite (ℕ_discrete i n)
    (λ same. subst (λ (k : ℕ). IsTalker opening t k u) (sym same) (subst (IsTalker opening t n) (some-injective' v u (sym (set_there us n v within) ∙ subst (λ (k : ℕ). slice_get (set us n v) k ≡ Some u) same is)) own))
    (λ differ. other i u differ (all i u (sym (set_other us n v i differ) ∙ is)))
  where
    some-injective' : (a b : Talker) → Some a ≡ Some b → a ≡ b
    some-injective' a b e = cc

module _ (json : Bool) (head : List (List ℕ)) (opening : Opening) where
  -- another session behind a step of session n
  pub other-step : (s : Standing) (n : ℕ) (c : Step) (h : HeardReply) (i : ℕ) (u : Talker) → i ≢ n → IsTalker opening s i u → IsTalker opening (standing_after json head opening s (Ask n c) (Given h)) i u
  other-step s n c h i u differ t =
      let memory : (if n == i then step_memory (s.point.memories i) c h else s.point.memories i) ≡ s.point.memories i =
      ap (λ (b : Bool). if b then step_memory (s.point.memories i) c h else s.point.memories i) (ne_eqb n i (λ e. differ (sym e))) in
      record {
        number = t.number;
        session = subst (λ (m : Memory). IsSessionAt opening (s.point.entries ++ entry_list (chunk_of n h.edits)) m u.session) (sym memory)
            (others_stand opening n h.edits s.point.entries (s.point.memories i) u.session (λ same. differ (sym t.number ∙ same)) t.session);
        answered = t.answered ∙ sym (ap (λ (b : Bool). if b then s.answered i + 1 else s.answered i) (ne_eqb i n differ));
      }

  -- the session itself
  pub own-step : (s : Standing) (n : ℕ) (c : Step) (h : HeardReply) (u v : Talker) → IsTalker opening s n u → v.session.session.number ≡ u.session.session.number
      → IsSessionAt opening (s.point.entries ++ entry_list (chunk_of n h.edits)) (step_memory (s.point.memories n) c h) v.session → v.answered ≡ u.answered + 1 → IsTalker opening (standing_after json head opening s (Ask n c) (Given h)) n v
  own-step s n c h u v t number at counted = record {
    number = number ∙ t.number;
    session = subst (λ (m : Memory). IsSessionAt opening (s.point.entries ++ entry_list (chunk_of n h.edits)) m v.session)
        (sym (ap (λ (b : Bool). if b then step_memory (s.point.memories n) c h else s.point.memories n) (same-number n))) at;
    answered = counted ∙ ap (λ (k : ℕ). k + 1) t.answered ∙ sym (ap (λ (b : Bool). if b then s.answered n + 1 else s.answered n) (same-number n));
  }

  -- behind a question: all but its count stays
  pub other-question : (s : Standing) (n : ℕ) (q : Question) (a : Answer) (i : ℕ) (u : Talker) → i ≢ n → IsTalker opening s i u → IsTalker opening (standing_after json head opening s (Tell n q) a) i u
  other-question s n q a i u differ t = record {
    number = t.number;
    session = t.session;
    answered = t.answered ∙ sym (ap (λ (b : Bool). if b then s.answered i + 1 else s.answered i) (ne_eqb i n differ));
  }

  pub own-question : (s : Standing) (n : ℕ) (q : Question) (a : Answer) (u v : Talker) → IsTalker opening s n u → v.session ≡ u.session → v.answered ≡ u.answered + 1 → IsTalker opening (standing_after json head opening s (Tell n q) a) n v
  own-question s n q a u v t same counted = record {
    number = ap (λ x. x.session.number) same ∙ t.number;
    session = subst (IsSessionAt opening s.point.entries (s.point.memories n)) (sym same) t.session;
    answered = counted ∙ ap (λ (k : ℕ). k + 1) t.answered ∙ sym (ap (λ (b : Bool). if b then s.answered n + 1 else s.answered n) (same-number n));
  }
