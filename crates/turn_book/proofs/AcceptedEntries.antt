-- What holds of each accepted answer and its journal holds of each entry of a legal journal.
use Rattle.std.proofs.Common.{◌≡◌, ⊎_elim, ℕ, List, [], ◌∷◌, ◌++◌, Option, Some, None, sym, ◌∙◌, refl, subst, append_assoc, append-nil}
use Rattle.turn_book.specs.Core.{Core, IsCore}
use Rattle.turn_book.specs.Legal.{EachEntry, IsLegalHistory}
use Rattle.turn_book.specs.Journal.{entry_list}
use Rattle.turn_book.specs.Interleavings.{Event, Waiting, TakesNextCommand, sessions_after, journal_after, Plays, sessions_at_start, IsInPlace}
use Rattle.turn_book.proofs.Played.{right}
use Rattle.turn_book.proofs.Orders.{legal_has_order}

module _ {Entry Command Reply Memory : Type 0} (core : Core Entry Command Reply Memory) (laws : IsCore core) (P : List Entry → Entry → Type 0) (accepted : (n : ℕ) (before : List Entry) (memory : Memory) (c : Command) (r : Reply) (e : Entry) → core.answers n before memory c r → core.entry_of n memory c r ≡ Some e → P before e) where
  abbrev Holds : List Entry → List Entry → Type 0
  Holds before after = (rest : List Entry) × (after ≡ before ++ rest) × EachEntry P before rest

  turned : (rule : ℕ → ℕ → Reply → Type 0) (event : Event) (before : List Entry) (ws : List (Waiting Command Reply Memory)) (t : TakesNextCommand core rule event before ws) (after : List Entry) (o : Option Entry) → core.entry_of event.session t.memory t.command t.reply ≡ o → Holds (before ++ entry_list o) after → Holds before after
  turned rule event before ws t after None none h = subst (λ (j : List Entry). Holds j after) (append-nil before) h
  turned rule event before ws t after (Some e) some h =
      (e ∷ h.0, h.1 ∙ append_assoc before (e ∷ []) h.0, (accepted event.session before t.memory t.command t.reply e (right core laws rule event.is_short event.session before t.memory t.command t.reply e some t.is_short t.is_answer) some, h.2))

  played_holds : (rule : ℕ → ℕ → Reply → Type 0) (events : List Event) (before : List Entry) (ws : List (Waiting Command Reply Memory)) (after : List Entry) → Plays core rule events before ws after → Holds before after
  played_holds rule [] before ws after p = ([], p.0 ∙ sym (append-nil before), tt)
  played_holds rule (event ∷ events) before ws after p = ⊎_elim
      (λ q. turned rule event before ws q.0 after (core.entry_of event.session q.0.memory q.0.command q.0.reply) refl (played_holds rule events (journal_after core rule q.0) (sessions_after core rule q.0) after q.1))
      (λ q. played_holds rule events before ws after q.1) p

  pub entries_hold : (start : Memory) (scripts : List (List Command)) (journal : List Entry) (replies : List (List Reply)) → IsLegalHistory core start scripts journal replies → EachEntry P [] journal
  entries_hold start scripts journal replies l =
      let p = legal_has_order core laws start scripts journal replies l in
      let h = played_holds (IsInPlace core) p.0 [] (sessions_at_start core (IsInPlace core) start scripts replies) journal p.1.1 in
      subst (EachEntry P []) (sym h.1) h.2
