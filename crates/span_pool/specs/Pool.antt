-- What a contract sees of a span, and of a pool: what is spare and what is out.
use Rattle.std.specs.Prelude.{◌≡◌, ◌≢◌, ℕ, ◌+◌, ◌<◌, ◌≤◌, ◌^◌, ◌⊎◌, List, refl, length, vec_capacity, slice_index_or}
use Rattle.std.specs.Coded.{Coded, code_by, coded×, coded_ℕ, coded_list}
use Rattle.std.specs.declared.vec.Vec.{Vec}
use Rattle.std.specs.declared.alloc.Global.{Global}
use Rattle.span_pool.specs.Shelf.{ShelfView}

-- a span: its class, and the items that it holds
pub record SpanView (T : Type 0) : Type 0 where
  pub class : ℕ
  pub items : List T

-- a span is stored as the tuple of its fields
abbrev pub span_code : {T : Type 0} → Coded T → Coded (SpanView T)
span_code {T} code =
    code_by
    (ℕ × List T)
    (coded× coded_ℕ (coded_list code))
    (λ s. (s.class, s.items))
    (λ p. record { class = p.0; items = p.1 })
    (λ _. refl)

-- a span has the room of its class, and holds no more
pub record IsSpan {T : Type 0} (list : Vec T Global) (class : ℕ) : Type 0 where
  pub roomy : 2 ^ class ≤ vec_capacity list
  pub short : length list.items ≤ 2 ^ class

-- a pool: its classes in order
abbrev pub PoolView : Type 0
PoolView = List ShelfView

-- a class for which nothing was reserved yet
abbrev pub unreserved_shelf : ShelfView
unreserved_shelf = record { spare = 0; out = 0; room = 0 }

-- the spans of a class
abbrev pub shelf_of : PoolView → ℕ → ShelfView
shelf_of pool class = slice_index_or pool class unreserved_shelf

-- how many spans of a class are spare
unfoldable pub spare_of : PoolView → ℕ → ℕ
spare_of pool class = (shelf_of pool class).spare

-- how many spans of a class are out
unfoldable pub out_of : PoolView → ℕ → ℕ
out_of pool class = (shelf_of pool class).out

-- every class but this one has as many as it had
abbrev pub KeepsOthers : (ℕ → ℕ) → (ℕ → ℕ) → ℕ → Type 0
KeepsOthers old new class = (other : ℕ) → other ≢ class → new other ≡ old other

-- this class has one fewer, and every other as many as it had
pub record OneFewer (old new : ℕ → ℕ) (class : ℕ) : Type 0 where
  pub here : new class + 1 ≡ old class
  pub others : KeepsOthers old new class

-- this class has one more, and every other as many as it had
pub record OneMore (old new : ℕ → ℕ) (class : ℕ) : Type 0 where
  pub here : new class ≡ old class + 1
  pub others : KeepsOthers old new class

-- nothing is there yet, or each class has a shelf of its room
pub record IsPool (shelves : PoolView) : Type 0 where
  pub classes : (length shelves ≡ 0) ⊎ (length shelves ≡ 63)
  pub rooms : (class : ℕ) → class < length shelves → (shelf_of shelves class).room ≡ 2 ^ class

-- each shelf has the room of its class, and no span
abbrev pub AreBare : PoolView → Type 0
AreBare shelves = (class : ℕ) → class < length shelves → shelf_of shelves class ≡ record { spare = 0; out = 0; room = 2 ^ class }
