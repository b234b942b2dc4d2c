-- A pass with all numbers: nobody else enters anything.
use Rattle.std.proofs.Common.{◌≡◌, ℕ, ◌<◌, List, [], ◌∷◌, ◌++◌, Option, refl, sym, ap, ◌∙◌, subst, append-nil, arith}
use Rattle.turn_book.specs.declared.view.View.{View}
use Rattle.turn_book.specs.Core.{Core}
use Rattle.turn_book.specs.Journal.{Each, Foreign, entry_list}
use Rattle.turn_book.specs.Taken.{IsCommandTaken}
use Rattle.turn_book.specs.Walk.{IsReplyGiven}

each_left : {A : Type 0} (P : A → Type 0) (xs ys : List A) → Each P (xs ++ ys) → Each P xs
each_left P [] ys a = tt
each_left P (x ∷ xs) ys a = (a.0, each_left P xs ys a.1)

each_end : {A : Type 0} (P : A → Type 0) (xs ys : List A) → Each P (xs ++ ys) → Each P ys
each_end P [] ys a = a
each_end P (x ∷ xs) ys a = each_end P xs ys a.1

-- all numbers are the pass's own
pub none_foreign : {Entry : Type 0} (number_of : Entry → ℕ) (first past count : ℕ) (more : List Entry) → first ≡ 0 → past ≡ count → Foreign number_of first past more → Each (λ e. number_of e < count) more → more ≡ []
none_foreign number_of first past count [] low high foreign few = refl
none_foreign number_of first past count (e ∷ more) low high foreign few = absurd (let below : number_of e < count = few.0 in foreign.0 (omega arith) (omega arith))

module _ {Opening Entry Command Reply Memory : Type 0} (core : Core Entry Command Reply Memory) where
  -- so a command is answered at the journal that was seen, and its entry alone comes behind that
  pub taken_whole : (n : ℕ) (m : Memory) (c : Command) (r : Reply) (v w : View Opening Entry) (count : ℕ) → v.first ≡ 0 → v.past ≡ count → Each (λ e. core.number_of e < count) w.seen
      → IsCommandTaken core n m c r v w → IsReplyGiven core n v.seen m c r × (w.seen ≡ v.seen ++ entry_list (core.entry_of n m c r))
  taken_whole n m c r v w count low high few t =
      let known : Each (λ e. core.number_of e < count) ((v.seen ++ t.more) ++ entry_list t.added) = subst (Each (λ e. core.number_of e < count)) t.seen few in
      let none = none_foreign core.number_of v.first v.past count t.more low high t.foreign (each_end (λ e. core.number_of e < count) v.seen t.more (each_left (λ e. core.number_of e < count) (v.seen ++ t.more) (entry_list t.added) known)) in
      let found : v.seen ++ t.more ≡ v.seen = ap (λ (l : List Entry). v.seen ++ l) none ∙ append-nil v.seen in (
        subst (λ (l : List Entry). IsReplyGiven core n l m c r) found t.given,
        t.seen ∙ (ap (λ (l : List Entry). l ++ entry_list t.added) found ∙ ap (λ (o : Option Entry). v.seen ++ entry_list o) (sym t.entry)),
      )
