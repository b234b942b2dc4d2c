-- What a change of one shelf is to the pool.
use Rattle.std.proofs.Common.{◌≡◌, ℕ, ◌<◌, ◌≤◌, sym, ◌∙◌, ap, arith, inl, inr, length}
use Rattle.std.proofs.lemmas.List.{get_or_past, get_or_default, get_or-set_same, get_or-set_other}
use Rattle.std.proofs.lemmas.Bool.{cases_lt}
use Rattle.std.proofs.lemmas.Bool.Decides.{eqb_tells}
use Rattle.std.specs.Prelude.{slice_set, slice_index_or}
use Rattle.span_pool.specs.Shelf.{ShelfView}
use Rattle.span_pool.specs.Pool.{PoolView, unreserved_shelf, shelf_of, spare_of, out_of, KeepsOthers, AreBare}

-- what was read at a class is its shelf
pub read_here : (shelves : PoolView) (class : ℕ) (shelf : ShelfView) → shelf ≡ slice_index_or shelves class shelf → class < length shelves → shelf ≡ shelf_of shelves class
read_here shelves class shelf e inside = e ∙ get_or_default shelves class shelf unreserved_shelf inside

-- what a pool that is seen as these shelves has of a class
pub spare_seen : (shelves pool : PoolView) (class : ℕ) (shelf : ShelfView) → shelves ≡ pool → shelf ≡ shelf_of shelves class → spare_of pool class ≡ shelf.spare
unfolding spare_of
spare_seen shelves pool class shelf view here = ap (λ p. (shelf_of p class).spare) (sym view) ∙ ap (λ (s : ShelfView). s.spare) (sym here)

pub out_seen : (shelves pool : PoolView) (class : ℕ) (shelf : ShelfView) → shelves ≡ pool → shelf ≡ shelf_of shelves class → out_of pool class ≡ shelf.out
unfolding out_of
out_seen shelves pool class shelf view here = ap (λ p. (shelf_of p class).out) (sym view) ∙ ap (λ (s : ShelfView). s.out) (sym here)

-- nothing behind the last shelf
pub spare_past : (shelves pool : PoolView) (class : ℕ) → shelves ≡ pool → length shelves ≤ class → spare_of pool class ≡ 0
unfolding spare_of
spare_past shelves pool class view past = ap (λ p. (shelf_of p class).spare) (sym view) ∙ ap (λ (s : ShelfView). s.spare) (get_or_past shelves class unreserved_shelf past)

pub out_past : (shelves pool : PoolView) (class : ℕ) → shelves ≡ pool → length shelves ≤ class → out_of pool class ≡ 0
unfolding out_of
out_past shelves pool class view past = ap (λ p. (shelf_of p class).out) (sym view) ∙ ap (λ (s : ShelfView). s.out) (get_or_past shelves class unreserved_shelf past)

-- so a class of which a span is out has a shelf
pub has_shelf : (shelves pool : PoolView) (class : ℕ) → shelves ≡ pool → 1 ≤ out_of pool class → class < length shelves
has_shelf shelves pool class view out = elim (cases_lt class (length shelves)) [
  | inl w ↦ w
  | inr w ↦ absurd (omega (arith, out_past shelves pool class view w))
]

-- one shelf of a pool was put in place of another
pub record IsPut (old new : PoolView) (class : ℕ) (before after : ShelfView) : Type 0 where
  pub had_spare : spare_of old class ≡ before.spare
  pub has_spare : spare_of new class ≡ after.spare
  pub had_out : out_of old class ≡ before.out
  pub has_out : out_of new class ≡ after.out
  pub other_spare : KeepsOthers (spare_of old) (spare_of new) class
  pub other_out : KeepsOthers (out_of old) (out_of new) class

pub is_put : (shelves pool : PoolView) (class : ℕ) (before after : ShelfView) → shelves ≡ pool → class < length shelves → before ≡ shelf_of shelves class
    → IsPut pool (slice_set shelves class after) class before after
unfolding spare_of out_of
is_put shelves pool class before after view inside here =
    let now = get_or-set_same shelves class after unreserved_shelf inside in
    record {
      had_spare = spare_seen shelves pool class before view here;
      has_spare = ap (λ (s : ShelfView). s.spare) now;
      had_out = out_seen shelves pool class before view here;
      has_out = ap (λ (s : ShelfView). s.out) now;
      other_spare = λ other differ. ap (λ (s : ShelfView). s.spare) (get_or-set_other shelves class other after unreserved_shelf differ) ∙ ap (λ p. (shelf_of p other).spare) view;
      other_out = λ other differ. ap (λ (s : ShelfView). s.out) (get_or-set_other shelves class other after unreserved_shelf differ) ∙ ap (λ p. (shelf_of p other).out) view;
    }

-- where the other one has as many out, each class has
pub same_out : {old new : PoolView} {class : ℕ} {before after : ShelfView} → IsPut old new class before after → after.out ≡ before.out → (k : ℕ) → out_of new k ≡ out_of old k
same_out {old} {new} {class} {before} {after} put same k = elim (eqb_tells k class) [
  | inl w ↦ ap (out_of new) w.1 ∙ (put.has_out ∙ (same ∙ (sym put.had_out ∙ ap (out_of old) (sym w.1))))
  | inr w ↦ put.other_out k w.1
]

shelf_bare : (shelves : PoolView) (class : ℕ) → AreBare shelves → ((shelf_of shelves class).spare ≡ 0) × ((shelf_of shelves class).out ≡ 0)
shelf_bare shelves class are = elim (cases_lt class (length shelves)) [
  | inl w ↦ (ap (λ (s : ShelfView). s.spare) (are class w), ap (λ (s : ShelfView). s.out) (are class w))
  | inr w ↦
      let none = get_or_past shelves class unreserved_shelf w in
      (ap (λ (s : ShelfView). s.spare) none, ap (λ (s : ShelfView). s.out) none)
]

-- nothing is spare on bare shelves, and nothing out
pub bare_spare : (shelves : PoolView) (class : ℕ) → AreBare shelves → spare_of shelves class ≡ 0
unfolding spare_of
bare_spare shelves class are = (shelf_bare shelves class are).0

pub bare_out : (shelves : PoolView) (class : ℕ) → AreBare shelves → out_of shelves class ≡ 0
unfolding out_of
bare_out shelves class are = (shelf_bare shelves class are).1
