-- What the tables of an order tell after each of its calls.
use Rattle.std.proofs.Common.{◌≡◌, ◌≢◌, ℕ, zero, suc, ◌+◌, ◌<◌, ◌≤◌, Bool, true, false, cond, not, nat_lt, List, [], ◌∷◌, ◌++◌, length, take, drop, Option, Some, None, sym, subst, ap, ◌∙◌, refl, add-one, arith, inl, inr, eq-eqb, ne_eqb, lt-ltb, le-ltb, ltb-true, ltb-false}
use Rattle.std.specs.Prelude.{slice_index}
use Rattle.std.specs.List.{remove, position, position_or_len, slice_get}
use Rattle.std.proofs.lemmas.Bool.{and_parts}
use Rattle.std.proofs.lemmas.Bool.Decides.{leb_tells}
use Rattle.std.proofs.lemmas.List.{get_or_past}
use Rattle.std.proofs.lemmas.Option.{slice_get_within}
use Rattle.tree_shape.specs.Tree.{Tree}
use Rattle.tree_shape.specs.Apply.{mark}
use Rattle.tree_shape.specs.Changes.{numbers_below}
use Rattle.tree_shape.specs.Fewest.{list_inserted, list_removed}
use Rattle.tree_shape.specs.Numbers.{times_in, next_number}
use Rattle.tree_shape.specs.Values.{AreThere, IsThere, values_of_numbers, joined_on}
use Rattle.tree_shape.specs.View.{ShapeView, IsLawfulShape, leaf_count_of, leaves_of_tree}
use Rattle.tree_shape.proofs.ArenaChanges.{mark_is_one_or_none, one_same}
use Rattle.tree_shape.proofs.NumberCounts.{counted_times, fresh, next_place, times_in-append}
use Rattle.tree_shape.proofs.PlanSteps.{gathered_removed, index_times, length_gathered}
use Rattle.tree_shape.proofs.Shapes.{length_tree, times_inserted, times_removed}
use Rattle.edit_book.specs.Books.{Each}
use Rattle.edit_book.specs.Orders.{LeavesHaveIds, OrderView, is_id, number_at, order_view}

there_of : (f : ℕ → Option ℕ) (ns : List ℕ) → ((n : ℕ) → 1 ≤ times_in n ns → IsThere (f n)) → AreThere f ns
there_of f [] h = tt
there_of f (n ∷ ns) h = (h n (omega (arith, one_same n)), there_of f ns (λ k w. h k (omega (arith, w))))

-- each of the leaves has an id
pub kept_there : (ns : List ℕ) (f g : ℕ → Option ℕ) → LeavesHaveIds ns f g → AreThere f ns
kept_there ns f g k = there_of f ns (λ n w. let given = k.given n w in (given.0, given.1))

-- as many ids as leaves
pub kept_count : (t : Option Tree) (f g : ℕ → Option ℕ) → LeavesHaveIds (leaves_of_tree t) f g → length (values_of_numbers f (leaves_of_tree t)) ≡ leaf_count_of t
kept_count t f g k = length_gathered f (leaves_of_tree t) (kept_there (leaves_of_tree t) f g k) ∙ length_tree t

-- tables that tell the same
pub kept_same : (ns more : List ℕ) (f g f_then g_then : ℕ → Option ℕ) → more ≡ ns → ((k : ℕ) → f_then k ≡ f k) → ((k : ℕ) → g_then k ≡ g k) → LeavesHaveIds ns f g → LeavesHaveIds more f_then g_then
kept_same ns more f g f_then g_then is same_ids same_leaves k = subst (λ (l : List ℕ). LeavesHaveIds l f_then g_then) (sym is) (record {
  given = λ n w. let old = k.given n w in (old.0, same_ids n ∙ old.1, same_leaves old.0 ∙ old.2);
  back = λ id n e. let old = k.back id n (sym (same_leaves id) ∙ e) in (old.0, same_ids n ∙ old.1);
})

-- the place where a number has something lies in the table
pub within_table : (table : List (Option ℕ)) (k n : ℕ) → number_at table k ≡ Some n → k < length table
within_table table k n e = go (nat_lt k (length table)) refl
  where
    go : (t : Bool) → nat_lt k (length table) ≡ t → k < length table
    go true is = ltb-true k (length table) is
    go false is = let none = get_or_past table k None (ltb-false k (length table) is) in absurd (cc (none, e))

-- Looking up.

-- no leaf stands twice
pub leaves_once : (shape : ShapeView) → IsLawfulShape shape → (k : ℕ) → times_in k (leaves_of_tree shape.tree) ≤ 1
leaves_once shape lawful k = omega (arith, counted_times shape.leaf_numbers (leaves_of_tree shape.tree) k lawful.leaves)

-- the id of a leaf has it
pub leaf_of_id : (ns : List ℕ) (f g : ℕ → Option ℕ) (n id : ℕ) → LeavesHaveIds ns f g → 1 ≤ times_in n ns → f n ≡ Some id → g id ≡ Some n
leaf_of_id ns f g n id k there own =
    let given = k.given n there in
    let same : given.0 ≡ id = cc (given.1, own) in
    ap g (sym same) ∙ given.2

-- the item at a place is among them
get_times : (at n : ℕ) (ns : List ℕ) → slice_get ns at ≡ Some n → 1 ≤ times_in n ns
get_times at n [] e = absurd (cc)
get_times zero n (m ∷ ns) e = let first : m ≡ n = cc in omega (arith, one_same n, ap (mark n) first)
get_times (suc at) n (m ∷ ns) e = omega (arith, get_times at n ns e)

-- a number that is among them has a place
pub times_place : (n : ℕ) (ns : List ℕ) → 1 ≤ times_in n ns → (at : ℕ) × (slice_get ns at ≡ Some n)
times_place n [] h = absurd (omega (arith, h))
times_place n (m ∷ ns) h = elim (mark_is_one_or_none n m) [
  | inl w ↦ (zero, ap (λ (k : ℕ). Some k) (sym w.0))
  | inr w ↦ let later = times_place n ns (omega (arith, h, w.1)) in (suc later.0, later.1)
]

index_at : (f : ℕ → Option ℕ) (id n at : ℕ) (ns : List ℕ) → AreThere f ns → slice_get ns at ≡ Some n → f n ≡ Some id → ((m : ℕ) → 1 ≤ times_in m ns → f m ≡ Some id → m ≡ n) → times_in n ns ≤ 1
    → position_or_len (is_id id) (values_of_numbers f ns) ≡ at
index_at f id n at [] there got own only once = absurd (cc)
index_at f id n zero (m ∷ ns) there got own only once =
    let same : m ≡ n = cc in
    let front : values_of_numbers f (m ∷ ns) ≡ id ∷ values_of_numbers f ns = ap (λ o. joined_on o (values_of_numbers f ns)) (ap f same ∙ own) in
    ap (position_or_len (is_id id)) front ∙ ap (λ (t : Bool). cond (not t) (1 + position_or_len (is_id id) (values_of_numbers f ns)) 0) (eq-eqb id id refl)
index_at f id n (suc at) (m ∷ ns) there got own only once =
    let inside = get_times at n ns got in
    let apart : m ≢ n = λ e. absurd (omega (arith, once, inside, one_same n, ap (mark n) e)) in
    let other : there.0.0 ≢ id = λ e. apart (only m (omega (arith, one_same m)) (there.0.1 ∙ ap (λ (k : ℕ). Some k) e)) in
    let front : values_of_numbers f (m ∷ ns) ≡ there.0.0 ∷ values_of_numbers f ns = ap (λ o. joined_on o (values_of_numbers f ns)) there.0.1 in
    let rest = index_at f id n at ns there.1 got own (λ k w. only k (omega (arith, w))) (omega (arith, once)) in
    let all : position_or_len (is_id id) (values_of_numbers f (m ∷ ns)) ≡ 1 + position_or_len (is_id id) (values_of_numbers f ns) =
    ap (position_or_len (is_id id)) front ∙ ap (λ (t : Bool). cond (not t) (1 + position_or_len (is_id id) (values_of_numbers f ns)) 0) (ne_eqb there.0.0 id other) in
    omega (arith, all, rest)

-- the place of a leaf is that of its id
pub leaf_place_of_id : (ns : List ℕ) (f g : ℕ → Option ℕ) (id n at : ℕ) → LeavesHaveIds ns f g → ((k : ℕ) → times_in k ns ≤ 1) → g id ≡ Some n → slice_get ns at ≡ Some n → position (is_id id) (values_of_numbers f ns) ≡ Some at
leaf_place_of_id ns f g id n at k once e got =
    let there = kept_there ns f g k in
    let here = index_at f id n at ns there got (k.back id n e).1 only (once n) in
    let short : position_or_len (is_id id) (values_of_numbers f ns) < length (values_of_numbers f ns) = omega (arith, here, slice_get_within ns at n got, length_gathered f ns there) in
    ap (λ (t : Bool). cond t (Some (position_or_len (is_id id) (values_of_numbers f ns))) None) (lt-ltb (position_or_len (is_id id) (values_of_numbers f ns)) (length (values_of_numbers f ns)) short) ∙ ap (λ (x : ℕ). Some x) here
  where
    only : (m : ℕ) → 1 ≤ times_in m ns → f m ≡ Some id → m ≡ n
    only m w own = cc (leaf_of_id ns f g m id k w own, e)

unplaced_in : (f : ℕ → Option ℕ) (id : ℕ) (ns : List ℕ) → AreThere f ns → ((m : ℕ) → 1 ≤ times_in m ns → f m ≡ Some id → ⊥) → position_or_len (is_id id) (values_of_numbers f ns) ≡ length (values_of_numbers f ns)
unplaced_in f id [] there not_here = refl
unplaced_in f id (m ∷ ns) there not_here =
    let other : there.0.0 ≢ id = λ e. not_here m (omega (arith, one_same m)) (there.0.1 ∙ ap (λ (k : ℕ). Some k) e) in
    let front : values_of_numbers f (m ∷ ns) ≡ there.0.0 ∷ values_of_numbers f ns = ap (λ o. joined_on o (values_of_numbers f ns)) there.0.1 in
    let rest = unplaced_in f id ns there.1 (λ k w. not_here k (omega (arith, w))) in
    let all : position_or_len (is_id id) (values_of_numbers f (m ∷ ns)) ≡ 1 + position_or_len (is_id id) (values_of_numbers f ns) =
    ap (position_or_len (is_id id)) front ∙ ap (λ (t : Bool). cond (not t) (1 + position_or_len (is_id id) (values_of_numbers f ns)) 0) (ne_eqb there.0.0 id other) in
    omega (arith, all, rest, ap length front)

-- an id with no leaf has no place
pub id_without_leaf_unplaced : (ns : List ℕ) (f g : ℕ → Option ℕ) (id : ℕ) → LeavesHaveIds ns f g → g id ≡ None → position (is_id id) (values_of_numbers f ns) ≡ None
id_without_leaf_unplaced ns f g id k e =
    let past = unplaced_in f id ns (kept_there ns f g k) not_here in
    ap (λ (t : Bool). cond t (Some (position_or_len (is_id id) (values_of_numbers f ns))) None) (le-ltb (position_or_len (is_id id) (values_of_numbers f ns)) (length (values_of_numbers f ns)) (omega (arith, past)))
  where
    not_here : (m : ℕ) → 1 ≤ times_in m ns → f m ≡ Some id → ⊥
    not_here m w own = absurd (cc (leaf_of_id ns f g m id k w own, e))

got_in : (f : ℕ → Option ℕ) (ns : List ℕ) (at : ℕ) → AreThere f ns → at < length ns → slice_get (values_of_numbers f ns) at ≡ f (slice_index ns at)
got_in f [] at there within = absurd (omega (arith, within))
got_in f (m ∷ ns) zero there within = ap (λ o. slice_get (joined_on o (values_of_numbers f ns)) 0) there.0.1 ∙ sym there.0.1
got_in f (m ∷ ns) (suc at) there within =
    ap (λ o. slice_get (joined_on o (values_of_numbers f ns)) (suc at)) there.0.1 ∙ got_in f ns at there.1 (omega (arith, within))

-- the id at a place is that of the leaf there
pub id_at_leaf_place : (t : Option Tree) (f g : ℕ → Option ℕ) (at : ℕ) → LeavesHaveIds (leaves_of_tree t) f g → at < leaf_count_of t → slice_get (values_of_numbers f (leaves_of_tree t)) at ≡ f (slice_index (leaves_of_tree t) at)
id_at_leaf_place t f g at k within = got_in f (leaves_of_tree t) at (kept_there (leaves_of_tree t) f g k) (omega (arith, within, length_tree t))

-- One id more, and one fewer.

-- where there is room, the next leaf has a place
pub room_there : (shape : ShapeView) (ids leaves : List (Option ℕ)) (v : OrderView) (new : ℕ) → order_view shape ids leaves ≡ v → v.room ≡ true → IsLawfulShape shape → new ≡ next_number shape.leaf_numbers → new < length ids
room_there shape ids leaves v new view room lawful is =
    let both = and_parts shape.room (nat_lt shape.leaf_numbers.drawn (length ids)) (ap (λ (w : OrderView). w.room) view ∙ room) in
    omega (arith, is, (next_place shape.leaf_numbers (leaves_of_tree shape.tree) lawful.leaves).0, ltb-true shape.leaf_numbers.drawn (length ids) both.1)

pub next_is_new : (shape : ShapeView) (new : ℕ) → IsLawfulShape shape → new ≡ next_number shape.leaf_numbers → times_in new (leaves_of_tree shape.tree) ≡ 0
next_is_new shape new lawful is = ap (λ (n : ℕ). times_in n (leaves_of_tree shape.tree)) is ∙ fresh shape.leaf_numbers (leaves_of_tree shape.tree) lawful.leaves

each_id : (P : ℕ → Type 0) (f : ℕ → Option ℕ) (ns : List ℕ) → AreThere f ns → Each P (values_of_numbers f ns) → (n v : ℕ) → 1 ≤ times_in n ns → f n ≡ Some v → P v
each_id P f [] there all n v h e = absurd (omega (arith, h))
each_id P f (m ∷ ns) there all n v h e =
    let split : P there.0.0 × Each P (values_of_numbers f ns) = subst (λ (o : Option ℕ). Each P (joined_on o (values_of_numbers f ns))) there.0.1 all in
    elim (mark_is_one_or_none n m) [
      | inl w ↦ let same : there.0.0 ≡ v = cc (there.0.1, e, w.0) in subst P same split.0
      | inr w ↦ each_id P f ns there.1 split.1 n v (omega (arith, h, w.1)) e
    ]

pub added_kept : (ns : List ℕ) (at new id : ℕ) (f g f_then g_then : ℕ → Option ℕ) → LeavesHaveIds ns f g → times_in new ns ≡ 0 → Each (λ (k : ℕ). k < id) (values_of_numbers f ns)
    → f_then new ≡ Some id → ((k : ℕ) → k ≢ new → f_then k ≡ f k) → g_then id ≡ Some new → ((k : ℕ) → k ≢ id → g_then k ≡ g k) → LeavesHaveIds (list_inserted at new ns) f_then g_then
added_kept ns at new id f g f_then g_then k free below id_here id_others leaf_here leaf_others = record {
  given = λ n w. elim (mark_is_one_or_none n new) [
    | inl same ↦ (id, ap f_then same.0 ∙ id_here, leaf_here ∙ ap (λ (x : ℕ). Some x) (sym same.0))
    | inr apart ↦
        let old = k.given n (omega (arith, w, times_inserted n at new ns, apart.1)) in
        let less = each_id (λ (x : ℕ). x < id) f ns (kept_there ns f g k) below n old.0 (omega (arith, w, times_inserted n at new ns, apart.1)) old.1 in
        (old.0, id_others n apart.0 ∙ old.1, leaf_others old.0 (λ e. absurd (omega (arith, e, less))) ∙ old.2)
  ];
  back = λ j n e. elim (mark_is_one_or_none j id) [
    | inl same ↦
        let first : new ≡ n = cc (leaf_here, e, same.0) in
        (omega (arith, times_inserted n at new ns, one_same n, ap (mark n) first), ap f_then (sym first) ∙ (id_here ∙ ap (λ (x : ℕ). Some x) (sym same.0)))
    | inr apart ↦
        let old = k.back j n (sym (leaf_others j apart.0) ∙ e) in
        (omega (arith, times_inserted n at new ns, old.0), id_others n (λ q. absurd (omega (arith, old.0, free, ap (λ (x : ℕ). times_in x ns) q))) ∙ old.1)
  ];
}

pub removed_kept : (ns : List ℕ) (at n id : ℕ) (f g g_then : ℕ → Option ℕ) → LeavesHaveIds ns f g → ((k : ℕ) → times_in k ns ≤ 1) → at < length ns → n ≡ slice_index ns at → f n ≡ Some id
    → g_then id ≡ None → ((k : ℕ) → k ≢ id → g_then k ≡ g k) → LeavesHaveIds (list_removed at ns) f g_then
removed_kept ns at n id f g g_then k once within is own gone others = record {
  given = λ m w.
      let count = times_removed m at ns within in
      let old = k.given m (omega (arith, count, w)) in
      let apart : m ≢ n = λ q. absurd (omega (arith, count, w, once m, one_same m, ap (mark m) (q ∙ is))) in
      let other : old.0 ≢ id = λ q. apart (let leaf : g id ≡ Some m = ap g (sym q) ∙ old.2 in cc (leaf, own_leaf)) in
      (old.0, old.1, others old.0 other ∙ old.2);
  back = λ j m e. elim (mark_is_one_or_none j id) [
    | inl same ↦ absurd (cc (ap g_then same.0 ∙ gone, e))
    | inr apart ↦
        let old = k.back j m (sym (others j apart.0) ∙ e) in
        let other : m ≢ n = λ q. apart.0 (cc (old.1, own, q)) in
        (left m other old.0, old.1)
  ];
}
  where
    own_leaf : g id ≡ Some n
    own_leaf = leaf_of_id ns f g n id k (index_times at n ns within (sym is)) own

    left : (m : ℕ) → m ≢ n → 1 ≤ times_in m ns → 1 ≤ times_in m (list_removed at ns)
    left m other there = elim (mark_is_one_or_none m n) [
      | inl w ↦ absurd (other w.0)
      | inr w ↦ omega (arith, w.1, there, times_removed m at ns within, ap (mark m) is)
    ]

-- the leaf at a place has an id, which lies in the table
pub removed_there : (t : Option Tree) (at n : ℕ) (f g : ℕ → Option ℕ) → LeavesHaveIds (leaves_of_tree t) f g → at < leaf_count_of t → n ≡ slice_index (leaves_of_tree t) at → (id : ℕ) × (f n ≡ Some id) × (g id ≡ Some n)
removed_there t at n f g k within is = k.given n (index_times at n (leaves_of_tree t) (omega (arith, within, length_tree t)) (sym is))

pub removed_ids : (ns : List ℕ) (at : ℕ) (f g : ℕ → Option ℕ) → LeavesHaveIds ns f g → values_of_numbers f (list_removed at ns) ≡ remove (values_of_numbers f ns) at
removed_ids ns at f g k = gathered_removed f at ns (kept_there ns f g k) ∙ ap (λ (n : ℕ). take at (values_of_numbers f ns) ++ drop n (values_of_numbers f ns)) (add-one at)

-- The first ids.

pub below_times : (n count : ℕ) → 1 ≤ times_in n (numbers_below count) → n < count
below_times n zero h = absurd (omega (arith, h))
below_times n (suc count) h = elim (mark_is_one_or_none n count) [
  | inl w ↦ omega (arith, w.0)
  | inr w ↦ let earlier = below_times n count (omega (arith, h, w.1, times_in-append n (numbers_below count) (count ∷ []))) in omega (arith, earlier)
]

pub times_below : (n count : ℕ) → n < count → 1 ≤ times_in n (numbers_below count)
times_below n zero h = absurd (omega (arith, h))
times_below n (suc count) h = elim (mark_is_one_or_none n count) [
  | inl w ↦ omega (arith, w.1, times_in-append n (numbers_below count) (count ∷ []))
  | inr w ↦ let e = times_in-append n (numbers_below count) (count ∷ []) in omega (arith, times_below n count (not_last w.0), e)
]
  where
    not_last : n ≢ count → n < count
    not_last apart = elim (leb_tells count n) [ inl w ↦ absurd (apart (omega (arith, w.1, h))) | inr w ↦ w.1 ]

pub started_kept : (count : ℕ) (f g : ℕ → Option ℕ) → ((k : ℕ) → k < count → f k ≡ Some k) → ((k : ℕ) → k < count → g k ≡ Some k) → ((k : ℕ) → count ≤ k → g k ≡ None) → LeavesHaveIds (numbers_below count) f g
started_kept count f g ids leaves past = record {
  given = λ n w. let within = below_times n count w in (n, ids n within, leaves n within);
  back = λ id n e. go (nat_lt id count) id refl n e;
}
  where
    go : (t : Bool) → (id : ℕ) → nat_lt id count ≡ t → (n : ℕ) → g id ≡ Some n → (1 ≤ times_in n (numbers_below count)) × (f n ≡ Some id)
    go true id is n e =
        let within = ltb-true id count is in
        let same : n ≡ id = cc (leaves id within, e) in
        (times_below n count (omega (arith, within, same)), ap f same ∙ ids id within)
    go false id is n e = absurd (cc (past id (ltb-false id count is), e))

gathered_own : (f : ℕ → Option ℕ) (ns : List ℕ) → ((k : ℕ) → 1 ≤ times_in k ns → f k ≡ Some k) → values_of_numbers f ns ≡ ns
gathered_own f [] h = refl
gathered_own f (n ∷ ns) h =
    ap (λ o. joined_on o (values_of_numbers f ns)) (h n (omega (arith, one_same n))) ∙ ap (λ (l : List ℕ). n ∷ l) (gathered_own f ns (λ k w. h k (omega (arith, w))))

pub started_ids : (count : ℕ) (f : ℕ → Option ℕ) → ((k : ℕ) → k < count → f k ≡ Some k) → values_of_numbers f (numbers_below count) ≡ numbers_below count
started_ids count f ids = gathered_own f (numbers_below count) (λ k w. ids k (below_times k count w))
