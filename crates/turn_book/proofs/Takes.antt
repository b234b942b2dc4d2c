-- A session's command is taken at a turn, or without one.
use Rattle.std.proofs.Common.{◌≡◌, inl, ℕ, ◌<◌, ◌≤◌, List, [], ◌++◌, Option, None, sym, ap, ◌∙◌, refl, subst, append-nil, append_assoc}
use Rattle.turn_book.specs.declared.view.View.{View}
use Rattle.turn_book.specs.Core.{Core, IsCore}
use Rattle.turn_book.specs.Journal.{Foreign, entry_list}
use Rattle.turn_book.specs.Taken.{IsCommandTaken, SeesMore}
use Rattle.turn_book.specs.Turn.{Turned}
use Rattle.turn_book.specs.Walk.{IsReplyGiven}
use Rattle.turn_book.proofs.Entries.{each_append}

pub foreign_append : {Entry : Type 0} (number_of : Entry → ℕ) (low high : ℕ) (xs ys : List Entry) → Foreign number_of low high xs → Foreign number_of low high ys → Foreign number_of low high (xs ++ ys)
foreign_append number_of low high xs ys a b = each_append (λ e. low ≤ number_of e → ¬ (number_of e < high)) xs ys a b

-- what is seen after a turn
pub seen_after_turn : {Opening Entry : Type 0} {number_of : Entry → ℕ} {n : ℕ} {right : List Entry → Option Entry → Type 0} {v w : View Opening Entry} (t : Turned number_of n right v w) → w.seen ≡ (v.seen ++ t.catches.seen.0) ++ entry_list t.added
seen_after_turn t = ap (λ x. x.seen) t.after ∙ ap (λ j. j ++ entry_list t.added) t.catches.seen.1

module _ {Opening Entry Command Reply Memory : Type 0} (core : Core Entry Command Reply Memory) where
  -- without a turn, where nothing is entered
  pub taken_alone : (n : ℕ) (m : Memory) (c : Command) (r : Reply) (v w : View Opening Entry) → core.entry_of n m c r ≡ None → IsReplyGiven core n v.seen m c r → w ≡ v → IsCommandTaken core n m c r v w
  taken_alone n m c r v w none given same = record {
    more = [];
    added = None;
    foreign = tt;
    entry = none;
    given = subst (λ (j : List Entry). IsReplyGiven core n j m c r) (sym (append-nil v.seen)) given;
    seen = ap (λ (x : View Opening Entry). x.seen) same ∙ sym (append-nil v.seen) ∙ sym (append-nil (v.seen ++ []));
    first = ap (λ (x : View Opening Entry). x.first) same;
    past = ap (λ (x : View Opening Entry). x.past) same;
  }

  -- at a turn, whose entry is that of the reply, and whose reply is given at the journal that was found
  pub taken_turn : (n : ℕ) (m : Memory) (c : Command) (r : Reply) (v w : View Opening Entry) (right : List Entry → Option Entry → Type 0)
      → ((before : List Entry) (added : Option Entry) → right before added → (core.entry_of n m c r ≡ added) × IsReplyGiven core n before m c r)
      → Turned core.number_of n right v w → IsCommandTaken core n m c r v w
  taken_turn n m c r v w right is t = let got = is t.before t.added t.is_right in record {
    more = t.catches.seen.0;
    added = t.added;
    foreign = t.catches.seen.2;
    entry = got.0;
    given = subst (λ (j : List Entry). IsReplyGiven core n j m c r) t.catches.seen.1 got.1;
    seen = seen_after_turn t;
    first = ap (λ (x : View Opening Entry). x.first) t.after;
    past = ap (λ (x : View Opening Entry). x.past) t.after;
  }

  -- behind a look at more of the journal, the reply of a turn
  pub taken_behind : (n : ℕ) (m : Memory) (c : Command) (r : Reply) (v u w : View Opening Entry) → SeesMore core.number_of v u → IsCommandTaken core n m c r u w → IsCommandTaken core n m c r v w
  taken_behind n m c r v u w s t =
      let found : u.seen ++ t.more ≡ v.seen ++ (s.more ++ t.more) = ap (λ (l : List Entry). l ++ t.more) s.seen ∙ append_assoc v.seen s.more t.more in
      record {
        more = s.more ++ t.more;
        added = t.added;
        foreign = foreign_append core.number_of v.first v.past s.more t.more s.foreign (subst (λ (z : ℕ × ℕ). Foreign core.number_of z.0 z.1 t.more) (λ i. (s.first i, s.past i)) t.foreign);
        entry = t.entry;
        given = subst (λ (j : List Entry). IsReplyGiven core n j m c r) found t.given;
        seen = t.seen ∙ ap (λ (l : List Entry). l ++ entry_list t.added) found;
        first = t.first ∙ s.first;
        past = t.past ∙ s.past;
      }

  -- want of memory, without a turn
  pub taken_short : IsCore core → (n : ℕ) (m : Memory) (c : Command) (v : View Opening Entry) → IsCommandTaken core n m c core.short v v
  taken_short laws n m c v = taken_alone n m c core.short v v (laws.short_entry n m c) (inl refl) refl
