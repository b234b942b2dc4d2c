-- Exchanges in one order are a walk of each session, and a legal history.
use Rattle.std.proofs.Common.{◌≡◌, ◌≢◌, ⊎_elim, ℕ, zero, suc, ◌+◌, ◌<◌, ◌==◌, if◌then◌else◌, Bool, true, false, eq-eqb, List, [], ◌∷◌, ◌++◌, length, Option, Some, None, sym, ap, ◌∙◌, refl, subst, append-nil, append_assoc, arith}
use Rattle.std.specs.Prelude.{⊤}
use Rattle.std.proofs.lemmas.Bool.{eqb-true}
use Rattle.turn_book.specs.Core.{Core, IsCore}
use Rattle.turn_book.specs.Journal.{Each, entry_list}
use Rattle.turn_book.specs.Legal.{IsLegalHistory, seen_after}
use Rattle.turn_book.specs.Walk.{IsReplyGiven, Walks, ends, passes, hears, enters}
use Rattle.turn_book.specs.Histories.{AreHistories}
use Rattle.turn_book.specs.OneOrder.{Exchange, Point, AreExchangesDue, all_replies_of, session_commands, appended_entries, entry_in, first_point, point_after, point_behind, session_replies, scripts_of}
use Rattle.turn_book.proofs.Histories.{histories_legal}

module _ {Entry Command Reply Memory : Type 0} (core : Core Entry Command Reply Memory) (laws : IsCore core) where
  abbrev anywhere : ℕ → ℕ → Reply → Type 0
  anywhere version seen r = ⊤

  abbrev Way : ℕ → List Entry → List Entry → ℕ → Memory → List Command → List Reply → Type 0
  Way n before rest seen m cs rs = Walks core anywhere n before rest seen m cs rs

  -- a turn of the session
  own_turn : (n : ℕ) (before rest : List Entry) (seen : ℕ) (m : Memory) (c : Command) (r : Reply) (added : Option Entry) (cs : List Command) (rs : List Reply) → core.entry_of n m c r ≡ added → IsReplyGiven core n before m c r
      → ((s : ℕ) → Way n (before ++ entry_list added) rest s (core.memory_after m c r) cs rs) → Way n before (entry_list added ++ rest) seen m (c ∷ cs) (r ∷ rs)
  own_turn n before rest seen m c r None cs rs none g w =
      hears before rest seen m c cs r rs none g tt (subst (λ (j : List Entry). Way n j rest (seen_after core seen r) (core.memory_after m c r) cs rs) (append-nil before) (w (seen_after core seen r)))
  own_turn n before rest seen m c r (Some e) cs rs some g w = ⊎_elim
      (λ h. let none : core.entry_of n m c r ≡ None = ap (core.entry_of n m c) h ∙ laws.short_entry n m c in absurd (cc))
      (λ h. enters before e rest seen m c cs r rs some h tt (w (seen_after core seen r))) g

  -- a turn of another
  other_turn : (n k : ℕ) (before rest : List Entry) (seen : ℕ) (m m' : Memory) (c : Command) (r : Reply) (added : Option Entry) (cs : List Command) (rs : List Reply) → k ≢ n → core.entry_of k m' c r ≡ added
      → Way n (before ++ entry_list added) rest seen m cs rs → Way n before (entry_list added ++ rest) seen m cs rs
  other_turn n k before rest seen m m' c r None cs rs ne is w = subst (λ (j : List Entry). Way n j rest seen m cs rs) (append-nil before) w
  other_turn n k before rest seen m m' c r (Some e) cs rs ne is w = passes before e rest seen m cs rs (λ q. ne (sym (laws.number k m' c r e is) ∙ q)) w

  -- whosever it is
  turn_by : (b : Bool) (n : ℕ) (p : Point Entry Memory) (t : Exchange Command Reply) (rest : List Entry) (seen : ℕ) (cs : List Command) (rs : List Reply) → (t.session == n) ≡ b → IsReplyGiven core t.session p.entries (p.memories t.session) t.command t.reply
      → ((s : ℕ) → Way n (p.entries ++ entry_list (entry_in core p t)) rest s (if b then core.memory_after (p.memories n) t.command t.reply else p.memories n) cs rs)
      → Way n p.entries (entry_list (entry_in core p t) ++ rest) seen (p.memories n) (if b then t.command ∷ cs else cs) (if b then t.reply ∷ rs else rs)
  turn_by true n p t rest seen cs rs is g w =
      let same : t.session ≡ n = eqb-true t.session n is in
      own_turn n p.entries rest seen (p.memories n) t.command t.reply (entry_in core p t) cs rs
      (ap (λ (k : ℕ). core.entry_of k (p.memories k) t.command t.reply) (sym same)) (subst (λ (k : ℕ). IsReplyGiven core k p.entries (p.memories k) t.command t.reply) same g) w
  turn_by false n p t rest seen cs rs is g w = other_turn n t.session p.entries rest seen (p.memories n) (p.memories t.session) t.command t.reply (entry_in core p t) cs rs (λ q. let yes : (t.session == n) ≡ true = eq-eqb t.session n q in absurd (cc)) refl (w seen)

  turns_walk : (n : ℕ) (p : Point Entry Memory) (ts : List (Exchange Command Reply)) (seen : ℕ) → AreExchangesDue core p ts → Way n p.entries (appended_entries core p ts) seen (p.memories n) (session_commands n ts) (session_replies n ts)
  turns_walk n p [] seen g = ends p.entries seen (p.memories n)
  turns_walk n p (t ∷ ts) seen g = turn_by (t.session == n) n p t (appended_entries core (point_behind core p t) ts) seen (session_commands n ts) (session_replies n ts) refl g.0 (λ s. turns_walk n (point_behind core p t) ts s g.1)

  histories : (n k : ℕ) (start : Memory) (ts : List (Exchange Command Reply)) → AreExchangesDue core (first_point core start) ts
      → AreHistories core n (appended_entries core (first_point core start) ts) start (scripts_of n k ts) (all_replies_of n k ts)
  histories n zero start ts g = tt
  histories n (suc k) start ts g = (turns_walk n (first_point core start) ts 0 g, histories (n + 1) k start ts g)

  each_append : (P : Entry → Type 0) (xs ys : List Entry) → Each P xs → Each P ys → Each P (xs ++ ys)
  each_append P [] ys a b = b
  each_append P (x ∷ xs) ys a b = (a.0, each_append P xs ys a.1 b)

  of_turn : (k : ℕ) (n : ℕ) (m : Memory) (c : Command) (r : Reply) (added : Option Entry) → core.entry_of n m c r ≡ added → n < k → Each (λ e. core.number_of e < k) (entry_list added)
  of_turn k n m c r None is lt = tt
  of_turn k n m c r (Some e) is lt = (subst (λ (j : ℕ). j < k) (sym (laws.number n m c r e is)) lt, tt)

  numbers : (k : ℕ) (p : Point Entry Memory) (ts : List (Exchange Command Reply)) → Each (λ t. t.session < k) ts → Each (λ e. core.number_of e < k) (appended_entries core p ts)
  numbers k p [] few = tt
  numbers k p (t ∷ ts) few =
      each_append (λ e. core.number_of e < k) (entry_list (entry_in core p t)) (appended_entries core (point_behind core p t) ts)
      (of_turn k t.session (p.memories t.session) t.command t.reply (entry_in core p t) refl few.0) (numbers k (point_behind core p t) ts few.1)

  many : (n k : ℕ) (ts : List (Exchange Command Reply)) → length (scripts_of n k ts) ≡ k
  many n zero ts = refl
  many n (suc k) ts = let rest : length (scripts_of (n + 1) k ts) ≡ k = many (n + 1) k ts in omega (arith, rest)

  pub order_legal : (start : Memory) (k : ℕ) (ts : List (Exchange Command Reply)) → Each (λ t. t.session < k) ts → AreExchangesDue core (first_point core start) ts
      → IsLegalHistory core start (scripts_of 0 k ts) (appended_entries core (first_point core start) ts) (all_replies_of 0 k ts)
  order_legal start k ts few g =
      histories_legal core laws (appended_entries core (first_point core start) ts) start (scripts_of 0 k ts) (all_replies_of 0 k ts) (histories 0 k start ts g)
      (subst (λ (j : ℕ). Each (λ e. core.number_of e < j) (appended_entries core (first_point core start) ts)) (sym (many 0 k ts)) (numbers k (first_point core start) ts few))

  -- one more exchange
  pub given_more : (p : Point Entry Memory) (ts : List (Exchange Command Reply)) (t : Exchange Command Reply) → AreExchangesDue core p ts
      → IsReplyGiven core t.session (point_after core p ts).entries ((point_after core p ts).memories t.session) t.command t.reply → AreExchangesDue core p (ts ++ t ∷ [])
  given_more p [] t g is = (is, tt)
  given_more p (first ∷ ts) t g is = (g.0, given_more (point_behind core p first) ts t g.1 is)

  pub after_more : (p : Point Entry Memory) (ts : List (Exchange Command Reply)) (t : Exchange Command Reply) → point_after core p (ts ++ t ∷ []) ≡ point_behind core (point_after core p ts) t
  after_more p [] t = refl
  after_more p (first ∷ ts) t = after_more (point_behind core p first) ts t

  pub entries_after : (p : Point Entry Memory) (ts : List (Exchange Command Reply)) → (point_after core p ts).entries ≡ p.entries ++ appended_entries core p ts
  entries_after p [] = sym (append-nil p.entries)
  entries_after p (t ∷ ts) = entries_after (point_behind core p t) ts ∙ append_assoc p.entries (entry_list (entry_in core p t)) (appended_entries core (point_behind core p t) ts)
