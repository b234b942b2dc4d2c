-- A session's walk goes on as the journal does, by one more reply and by entries of others.
use Rattle.std.proofs.Common.{◌≡◌, ◌≢◌, ⊎_elim, ℕ, List, [], ◌∷◌, ◌++◌, length, Option, Some, None, sym, ap, ◌∙◌, refl, subst, append_assoc, append-nil, arith}
use Rattle.std.specs.Prelude.{⊤}
use Rattle.turn_book.specs.Core.{Core, IsCore}
use Rattle.turn_book.specs.Legal.{seen_after}
use Rattle.turn_book.specs.Journal.{Each, entry_list}
use Rattle.turn_book.specs.Walk.{IsReplyGiven, Walks, ends, passes, hears, enters, memory_of}

module _ {Entry Command Reply Memory : Type 0} (core : Core Entry Command Reply Memory) (laws : IsCore core) (n : ℕ) where
  -- a reply may be given anywhere
  abbrev anywhere : ℕ → ℕ → Reply → Type 0
  anywhere version seen r = ⊤

  -- none of the entries is of session n
  abbrev Others : List Entry → Type 0
  Others more = Each (λ e. core.number_of e ≢ n) more

  -- who has no reply to come passes the others' entries
  pub idle : (before more : List Entry) (seen : ℕ) (memory : Memory) → Others more → Walks core anywhere n before more seen memory [] []
  idle before [] seen memory o = ends before seen memory
  idle before (e ∷ more) seen memory o = passes before e more seen memory [] [] o.0 (idle (before ++ e ∷ []) more seen memory o.1)

  pub walk_longer : (before rest : List Entry) (seen : ℕ) (memory : Memory) (cs : List Command) (rs : List Reply) (more : List Entry) → Walks core anywhere n before rest seen memory cs rs → Others more → Walks core anywhere n before (rest ++ more) seen memory cs rs
  walk_longer before rest seen memory cs rs more (ends _ _ _) o = idle before more seen memory o
  walk_longer before rest seen memory cs rs more (passes _ e rest' _ _ _ _ ne w) o = passes before e (rest' ++ more) seen memory cs rs ne (walk_longer (before ++ e ∷ []) rest' seen memory cs rs more w o)
  walk_longer before rest seen memory cs rs more (hears _ _ _ _ c cs' r rs' none given place w) o = hears before (rest ++ more) seen memory c cs' r rs' none given place (walk_longer before rest (seen_after core seen r) (core.memory_after memory c r) cs' rs' more w o)
  walk_longer before rest seen memory cs rs more (enters _ e rest' _ _ c cs' r rs' some right place w) o =
      enters before e (rest' ++ more) seen memory c cs' r rs' some right place (walk_longer (before ++ e ∷ []) rest' (seen_after core seen r) (core.memory_after memory c r) cs' rs' more w o)

  -- one more reply, at the end of the journal
  last : (before : List Entry) (seen : ℕ) (memory : Memory) (c : Command) (r : Reply) (added : Option Entry) → core.entry_of n memory c r ≡ added → IsReplyGiven core n before memory c r → Walks core anywhere n before (entry_list added) seen memory (c ∷ []) (r ∷ [])
  last before seen memory c r None none g = hears before [] seen memory c [] r [] none g tt (ends before (seen_after core seen r) (core.memory_after memory c r))
  last before seen memory c r (Some e) some g = ⊎_elim
      (λ h. let none : core.entry_of n memory c r ≡ None = ap (core.entry_of n memory c) h ∙ laws.short_entry n memory c in absurd (cc))
      (λ h. enters before e [] seen memory c [] r [] some h tt (ends (before ++ e ∷ []) (seen_after core seen r) (core.memory_after memory c r))) g

  walk_push : (before rest : List Entry) (seen : ℕ) (memory : Memory) (cs : List Command) (rs : List Reply) (c : Command) (r : Reply) (added : Option Entry) → Walks core anywhere n before rest seen memory cs rs → core.entry_of n (memory_of core memory cs rs) c r ≡ added → IsReplyGiven core n (before ++ rest) (memory_of core memory cs rs) c r
      → Walks core anywhere n before (rest ++ entry_list added) seen memory (cs ++ c ∷ []) (rs ++ r ∷ [])
  walk_push before rest seen memory cs rs c r added (ends _ _ _) is g = last before seen memory c r added is (subst (λ (j : List Entry). IsReplyGiven core n j memory c r) (append-nil before) g)
  walk_push before rest seen memory cs rs c r added (passes _ e rest' _ _ _ _ ne w) is g =
      passes before e (rest' ++ entry_list added) seen memory (cs ++ c ∷ []) (rs ++ r ∷ []) ne (walk_push (before ++ e ∷ []) rest' seen memory cs rs c r added w is (subst (λ (j : List Entry). IsReplyGiven core n j (memory_of core memory cs rs) c r) (sym (append_assoc before (e ∷ []) rest')) g))
  walk_push before rest seen memory cs rs c r added (hears _ _ _ _ b cs' q rs' none given place w) is g =
      hears before (rest ++ entry_list added) seen memory b (cs' ++ c ∷ []) q (rs' ++ r ∷ []) none given place (walk_push before rest (seen_after core seen q) (core.memory_after memory b q) cs' rs' c r added w is g)
  walk_push before rest seen memory cs rs c r added (enters _ e rest' _ _ b cs' q rs' some right place w) is g =
      enters before e (rest' ++ entry_list added) seen memory b (cs' ++ c ∷ []) q (rs' ++ r ∷ []) some right place
      (walk_push (before ++ e ∷ []) rest' (seen_after core seen q) (core.memory_after memory b q) cs' rs' c r added w is (subst (λ (j : List Entry). IsReplyGiven core n j (memory_of core (core.memory_after memory b q) cs' rs') c r) (sym (append_assoc before (e ∷ []) rest')) g))

  pub memory_push : (memory : Memory) (cs : List Command) (rs : List Reply) (c : Command) (r : Reply) → length cs ≡ length rs → memory_of core memory (cs ++ c ∷ []) (rs ++ r ∷ []) ≡ core.memory_after (memory_of core memory cs rs) c r
  memory_push memory [] [] c r len = refl
  memory_push memory [] (q ∷ rs) c r len = absurd (cc)
  memory_push memory (b ∷ cs) [] c r len = absurd (cc)
  memory_push memory (b ∷ cs) (q ∷ rs) c r len = memory_push (core.memory_after memory b q) cs rs c r (omega (arith, len))

  -- a turn: the journal that it finds goes on from what was seen with entries of others, and what it adds is what the reply says
  pub walk_turn : (known : List Entry) (memory : Memory) (cs : List Command) (rs : List Reply) (more : List Entry) (c : Command) (r : Reply) (added : Option Entry) → Walks core anywhere n [] known 0 memory cs rs → Others more
      → core.entry_of n (memory_of core memory cs rs) c r ≡ added → IsReplyGiven core n (known ++ more) (memory_of core memory cs rs) c r → Walks core anywhere n [] ((known ++ more) ++ entry_list added) 0 memory (cs ++ c ∷ []) (rs ++ r ∷ [])
  walk_turn known memory cs rs more c r added w o is g = walk_push [] (known ++ more) 0 memory cs rs c r added (walk_longer [] known 0 memory cs rs more w o) is g
