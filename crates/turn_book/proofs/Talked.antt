-- How a session's history grows by commands, and how the histories of several join.
use Rattle.std.proofs.Common.{◌≡◌, ℕ, zero, suc, ◌+◌, ◌<◌, ◌≤◌, List, [], ◌∷◌, ◌++◌, length, take, drop, sym, ap, ◌∙◌, refl, subst, arith, length-append}
use Rattle.std.proofs.lemmas.List.{take_all, take-append-le, length-take}
use Rattle.turn_book.specs.declared.view.View.{View}
use Rattle.turn_book.specs.declared.view.Joined.{Joined}
use Rattle.turn_book.specs.Core.{Core, IsCore}
use Rattle.turn_book.specs.Histories.{IsHistory, AreHistories}
use Rattle.turn_book.specs.Journal.{Each, Foreign, JournalGoesOn}
use Rattle.turn_book.specs.Legal.{IsLegalHistory}
use Rattle.turn_book.specs.Ready.{AreReady}
use Rattle.turn_book.specs.Taken.{IsCommandTaken}
use Rattle.turn_book.specs.Turn.{Catches}
use Rattle.turn_book.specs.Views.{lower, upper, view_united, own_journal}
use Rattle.turn_book.specs.Walk.{memory_of}
use Rattle.turn_book.proofs.Entries.{each_right, each_weaker}
use Rattle.turn_book.proofs.Histories.{history_starts, history_turns, histories_longer, histories_append, histories_legal}
use Rattle.turn_book.proofs.Longer.{memory_push}

-- A session after the first i commands of its script, to which it has had these replies. What it keeps itself is of the crate that has it.
pub record TalkSoFar {Opening Entry Command Reply Memory : Type 0} (core : Core Entry Command Reply Memory) (start : Memory) (script : List Command) (i : ℕ) (began now : View Opening Entry) (replies : List Reply) : Type 0 where
  pub first : now.first ≡ began.first
  pub past : now.past ≡ began.past
  pub count : length replies ≡ i
  pub history : Foreign core.number_of began.first began.past began.seen → IsHistory core began.first now.seen start (take i script) replies

module _ {Opening Entry Command Reply Memory : Type 0} (core : Core Entry Command Reply Memory) (laws : IsCore core) (start : Memory) where
  pub talk_begins : (script : List Command) (v : View Opening Entry) (replies : List Reply) → v.first < v.past → replies ≡ [] → TalkSoFar core start script 0 v v replies
  talk_begins script v replies some none = record {
    first = refl;
    past = refl;
    count = ap length none;
    history = λ fresh. subst (λ (rs : List Reply). IsHistory core v.first v.seen start [] rs) (sym none) (history_starts core laws v.first v.first v.past v.seen start (omega arith) some fresh);
  }

  as_many : (script : List Command) (i : ℕ) (began now : View Opening Entry) (replies : List Reply) → i < length script → TalkSoFar core start script i began now replies → length (take i script) ≡ length replies
  as_many script i began now replies within so_far = let count = so_far.count in omega (arith, length-take i script)

  -- one more command
  pub talk_goes_on : (script : List Command) (i : ℕ) (began v w : View Opening Entry) (replies all : List Reply) (c : Command) (r : Reply) → began.first < began.past → TalkSoFar core start script i began v replies
      → take (i + 1) script ≡ take i script ++ c ∷ [] → all ≡ replies ++ r ∷ [] → IsCommandTaken core began.first (memory_of core start (take i script) replies) c r v w → TalkSoFar core start script (i + 1) began w all
  talk_goes_on script i began v w replies all c r some so_far one all_is had = record {
    first = had.first ∙ so_far.first;
    past = had.past ∙ so_far.past;
    count = ap length all_is ∙ length-append replies (r ∷ []) ∙ ap (λ n. n + 1) so_far.count;
    history = λ fresh.
        subst (λ (p : List Command × List Reply). IsHistory core began.first w.seen start p.0 p.1) (λ k. (sym one k, sym all_is k))
        (subst (λ (j : List Entry). IsHistory core began.first j start (take i script ++ c ∷ []) (replies ++ r ∷ [])) (sym had.seen)
        (history_turns core laws began.first v.first v.past v.seen start (take i script) replies had.more c r had.added
        (let e = so_far.first in omega arith) (let e = so_far.past in omega arith) (so_far.history fresh) had.foreign had.entry had.given));
  }

  -- and what is remembered then
  pub talk_remembers : (script : List Command) (i : ℕ) (began v : View Opening Entry) (replies all : List Reply) (c : Command) (r : Reply) → i < length script → TalkSoFar core start script i began v replies
      → take (i + 1) script ≡ take i script ++ c ∷ [] → all ≡ replies ++ r ∷ [] → memory_of core start (take (i + 1) script) all ≡ core.memory_after (memory_of core start (take i script) replies) c r
  talk_remembers script i began v replies all c r within so_far one all_is =
      ap (λ (p : List Command × List Reply). memory_of core start p.0 p.1) (λ k. (one k, all_is k))
      ∙ memory_push core laws began.first start (take i script) replies c r (as_many script i began v replies within so_far)

  -- nothing is left of the script
  pub talk_ends : (script : List Command) (i : ℕ) (began v : View Opening Entry) (replies : List Reply) → take i script ≡ script → TalkSoFar core start script i began v replies
      → Foreign core.number_of began.first began.past began.seen → IsHistory core began.first v.seen start script replies
  talk_ends script i began v replies all so_far fresh = subst (λ (cs : List Command). IsHistory core began.first v.seen start cs replies) all (so_far.history fresh)

-- numbers within others
fewer : {Entry : Type 0} (number_of : Entry → ℕ) (low high low' high' : ℕ) (xs : List Entry) → low ≤ low' → high' ≤ high → Foreign number_of low high xs → Foreign number_of low' high' xs
fewer number_of low high low' high' xs below above f =
    each_weaker (λ e. low ≤ number_of e → ¬ (number_of e < high)) (λ e. low' ≤ number_of e → ¬ (number_of e < high')) (λ e out p q. out (omega arith) (omega arith)) xs f

-- what has no entry has none of any numbers
pub unseen_fresh : {Entry : Type 0} (number_of : Entry → ℕ) (low high : ℕ) (seen : List Entry) → seen ≡ [] → Foreign number_of low high seen
unseen_fresh number_of low high seen unseen = subst (Foreign number_of low high) (sym unseen) tt

-- the two parts of a pass that has seen no entry of its numbers have seen none of theirs
pub parts_fresh : {Opening Entry : Type 0} (number_of : Entry → ℕ) (at : ℕ) (v l r : View Opening Entry) → v.first ≤ at → at ≤ v.past → l ≡ lower at v → r ≡ upper at v
    → Foreign number_of v.first v.past v.seen → Foreign number_of l.first l.past l.seen × Foreign number_of r.first r.past r.seen
parts_fresh {Opening} {Entry} number_of at v l r above below l_is r_is fresh = (
  subst (λ (z : View Opening Entry). Foreign number_of z.first z.past z.seen) (sym l_is) (fewer number_of v.first v.past v.first at v.seen (omega arith) below fresh),
  subst (λ (z : View Opening Entry). Foreign number_of z.first z.past z.seen) (sym r_is) (fewer number_of v.first v.past at v.past v.seen above (omega arith) fresh),
)

module _ {Entry Command Reply Memory : Type 0} (core : Core Entry Command Reply Memory) (laws : IsCore core) (start : Memory) where
  -- what is seen later has the same histories
  pub histories_seen : (low high : ℕ) (seen all : List Entry) (cs : List (List Command)) (rs : List (List Reply)) → low + length cs ≡ high → JournalGoesOn core.number_of low high seen all
      → AreHistories core low seen start cs rs → AreHistories core low all start cs rs
  histories_seen low high seen all cs rs range g h =
      subst (λ (j : List Entry). AreHistories core low j start cs rs) (sym g.1) (histories_longer core laws low low high seen start cs rs g.0 (omega arith) (omega arith) g.2 h)

module _ {Entry Command Reply Memory : Type 0} (core : Core Entry Command Reply Memory) (start : Memory) where
  -- no sessions
  pub none_legal : (seen : List Entry) (cs : List (List Command)) (rs : List (List Reply)) → length cs ≡ 0 → seen ≡ [] → rs ≡ [] → IsLegalHistory core start cs seen rs
  none_legal seen [] rs few unseen unheard = subst (λ (p : List Entry × List (List Reply)). IsLegalHistory core start [] p.0 p.1) (λ i. (sym unseen i, sym unheard i)) (record { sessions = tt; numbers = tt })
  none_legal seen (c ∷ cs) rs few unseen unheard = absurd (cc)

module _ {Opening Entry Command Reply Memory : Type 0} (core : Core Entry Command Reply Memory) (laws : IsCore core) (start : Memory) where
  -- two parts, after their join and a look at the journal
  pub parts_join : (at : ℕ) (v l r l' r' u : View Opening Entry) (all : List Entry) (cs ds : List (List Command)) (ps qs : List (List Reply)) → l ≡ lower at v → r ≡ upper at v → v.first + length cs ≡ at → at + length ds ≡ v.past
      → l'.first ≡ l.first → l'.past ≡ l.past → r'.first ≡ r.first → r'.past ≡ r.past
      → AreHistories core l.first l'.seen start cs ps → AreHistories core r.first r'.seen start ds qs
      → u ≡ view_united l' r' → Catches core.number_of u all → AreHistories core v.first all start (cs ++ ds) (ps ++ qs)
  parts_join at v l r l' r' u all cs ds ps qs l_is r_is len fits lf lp rf rp left right u_is c =
      let K : Joined Entry → Type 0 = λ k. JournalGoesOn core.number_of k.first k.past k.seen all in
      let j : u.joined ≡ (l'.joined ++ r'.joined) ++ own_journal l' ∷ own_journal r' ∷ [] = ap (λ (z : View Opening Entry). z.joined) u_is in
      let g = each_right K (l'.joined ++ r'.joined) (own_journal l' ∷ own_journal r' ∷ []) (subst (Each K) j c.joined) in
      let lf' : l'.first ≡ v.first = lf ∙ ap (λ (z : View Opening Entry). z.first) l_is in
      let lp' : l'.past ≡ at = lp ∙ ap (λ (z : View Opening Entry). z.past) l_is in
      let rf' : r'.first ≡ at = rf ∙ ap (λ (z : View Opening Entry). z.first) r_is in
      let rp' : r'.past ≡ v.past = rp ∙ ap (λ (z : View Opening Entry). z.past) r_is in
      let gl = subst (λ (z : ℕ × ℕ). JournalGoesOn core.number_of z.0 z.1 l'.seen all) (λ i. (lf' i, lp' i)) g.0 in
      let gr = subst (λ (z : ℕ × ℕ). JournalGoesOn core.number_of z.0 z.1 r'.seen all) (λ i. (rf' i, rp' i)) g.1.0 in
      let hl = subst (λ (z : View Opening Entry). AreHistories core z.first l'.seen start cs ps) l_is left in
      let hr = subst (λ (z : View Opening Entry). AreHistories core z.first r'.seen start ds qs) r_is right in
      histories_append core laws v.first all start cs ps ds qs
      (histories_seen core laws start v.first at l'.seen all cs ps len gl hl)
      (subst (λ (k : ℕ). AreHistories core k all start ds qs) (sym len) (histories_seen core laws start at v.past r'.seen all ds qs fits gr hr))

  -- after a last look at the journal, of the replies that are told
  pub seen_last : (v w : View Opening Entry) (all : List Entry) (cs : List (List Command)) (rs told : List (List Reply)) → w.first ≡ v.first → w.past ≡ v.past → v.first + length cs ≡ v.past → Catches core.number_of w all → told ≡ rs
      → AreHistories core v.first w.seen start cs rs → AreHistories core v.first all start cs told
  seen_last v w all cs rs told first past range c told_is h =
      subst (λ (q : List (List Reply)). AreHistories core v.first all start cs q) (sym told_is)
      (histories_seen core laws start v.first v.past w.seen all cs rs range (subst (λ (z : ℕ × ℕ). JournalGoesOn core.number_of z.0 z.1 w.seen all) (λ i. (first i, past i)) c.seen) h)

  -- and these are legal, where they are of all numbers
  pub legal_last : (v w : View Opening Entry) (all : List Entry) (cs : List (List Command)) (rs told : List (List Reply)) → w.first ≡ v.first → w.past ≡ v.past → w.count ≡ v.count → v.first + length cs ≡ v.past → Catches core.number_of w all → told ≡ rs
      → AreHistories core v.first w.seen start cs rs → v.first ≡ 0 → v.past ≡ v.count → IsLegalHistory core start cs all told
  legal_last v w all cs rs told first past count range c told_is h zero_first whole =
      histories_legal core laws all start cs told
      (subst (λ (n : ℕ). AreHistories core n all start cs told) zero_first (seen_last v w all cs rs told first past range c told_is h))
      (subst (λ (n : ℕ). Each (λ e. core.number_of e < n) all) (omega arith) c.numbers)

module _ {Command Talk : Type 0} (IsReady : ℕ → List Command → Talk → Type 0) where
  -- ready sessions, in two parts
  pub ready_split : (m n : ℕ) (cs : List (List Command)) (ts : List Talk) → AreReady IsReady n cs ts → AreReady IsReady n (take m cs) (take m ts) × AreReady IsReady (n + m) (drop m cs) (drop m ts)
  ready_split zero n cs ts h = (tt, subst (λ (k : ℕ). AreReady IsReady k cs ts) (omega arith) h)
  ready_split (suc m) n [] [] h = (tt, tt)
  ready_split (suc m) n [] (t ∷ ts) h = absurd h
  ready_split (suc m) n (c ∷ cs) [] h = absurd h
  ready_split (suc m) n (c ∷ cs) (t ∷ ts) h = let s = ready_split m (n + 1) cs ts h.1 in
      ((h.0, s.0), subst (λ (k : ℕ). AreReady IsReady k (drop m cs) (drop m ts)) (omega arith) s.1)

  -- one more
  pub ready_more : (n : ℕ) (cs : List (List Command)) (ts : List Talk) (c : List Command) (t : Talk) → AreReady IsReady n cs ts → IsReady (n + length cs) c t → AreReady IsReady n (cs ++ c ∷ []) (ts ++ t ∷ [])
  ready_more n [] [] c t h one = (subst (λ (k : ℕ). IsReady k c t) (omega arith) one, tt)
  ready_more n [] (u ∷ us) c t h one = absurd h
  ready_more n (b ∷ bs) [] c t h one = absurd h
  ready_more n (b ∷ bs) (u ∷ us) c t h one = (h.0, ready_more (n + 1) bs us c t h.1 (subst (λ (k : ℕ). IsReady k c t) (omega arith) one))

-- what a slice of a whole vector leaves in it
pub written_back : {A : Type 0} (xs old : List A) (n : ℕ) → n ≡ length xs → take n (xs ++ drop (length xs) old) ≡ xs
written_back xs old n is = let within : n ≤ length xs = omega arith in rw take-append-le (take_all n xs (omega arith))
