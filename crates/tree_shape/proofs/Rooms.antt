-- The rooms of a change's rows, found one after the other.
use Rattle.std.proofs.Common.{◌≡◌, ◌≢◌, ℕ, suc, ◌+◌, ◌≤◌, Bool, true, false, cond, eqb, List, [], ◌∷◌, ◌++◌, map, length, drop, Option, Some, None, refl, sym, ◌∙◌, ap, subst, arith, length-append, add-one, inl, inr}
use Rattle.std.specs.List.{slice_get}
use Rattle.tree_shape.specs.declared.node.Side.{Side}
use Rattle.tree_shape.specs.declared.node.Side.TheVariants.{Left, Right}
use Rattle.tree_shape.specs.declared.dirty.DirtyRow.{DirtyRow}
use Rattle.tree_shape.specs.Tree.{Tree, leaf, inner, name}
use Rattle.tree_shape.specs.Plan.{Plan, kept, made, inner_on, tree_of_plan, dirty_row, rows}
use Rattle.tree_shape.specs.Apply.{times, KeptBy}
use Rattle.tree_shape.proofs.ArenaChanges.{one_same, made_within, times_inner_on}
use Rattle.tree_shape.proofs.Rows.{next_row}
use Rattle.tree_shape.specs.Values.{IsThere, joined_values, part, with_node, row_value, values_refreshed, composed_all}
use Rattle.tree_shape.specs.Composing.{latest_room, found_or, IsFinding}
use Rattle.tree_shape.proofs.RowWalks.{set_node}
use Rattle.tree_shape.proofs.NodeValues.{refreshed-append, composed_all-append, refreshed_away}

pub latest-push : {R : Type 0} (n : ℕ) (rows : List DirtyRow) (rs : List R) (r : R) (row : DirtyRow) (other : Option R) → slice_get rows (length rs) ≡ Some row → latest_room n rows (rs ++ r ∷ []) other ≡ cond (eqb n row.node) (Some r) (latest_room n rows rs other)
latest-push n [] rs r row other e = cc
latest-push {R} n (x ∷ rows) [] r row other e = let same : x ≡ row = cc in last n rows (cond (eqb n x.node) (Some r) other) ∙ ap (λ (v : DirtyRow). cond (eqb n v.node) (Some r) other) same
  where
    last : (n : ℕ) (rows : List DirtyRow) (other : Option R) → latest_room n rows [] other ≡ other
    last n [] other = refl
    last n (x ∷ rows) other = refl
latest-push n (x ∷ rows) (q ∷ rs) r row other e = latest-push n rows rs r row (cond (eqb n x.node) (Some q) other) e

pub latest-none : {R : Type 0} (n : ℕ) (rows : List DirtyRow) (other : Option R) → latest_room n rows [] other ≡ other
latest-none n [] other = refl
latest-none n (x ∷ rows) other = refl

module _ {R : Type 0} (after : R → R → R) (room_at : ℕ → Option R) where
  -- one more row
  pub finding_next : (rooms_before : ℕ → Option R) (rows : List DirtyRow) (rs : List R) (at : ℕ) (row : DirtyRow) (a b : R) → (f : IsFinding after room_at rooms_before rows rs at) → slice_get rows at ≡ Some row
      → part room_at f.now row.left ≡ Some a → part room_at f.now row.right ≡ Some b → IsFinding after room_at rooms_before rows (rs ++ after a b ∷ []) (at + 1)
  finding_next rooms_before rows rs at row a b f e left right =
      let made : row_value after room_at f.now row ≡ Some (after a b) = cc (left, right) in
      let list = next_row rows at row e in
      record {
        now = with_node f.now row.node (row_value after room_at f.now row);
        found = λ n. elim (set_node f.now row.node (row_value after room_at f.now row) n) [
          | inl w ↦ w.1 ∙ (made ∙ sym (latest-push n rows rs (after a b) row (rooms_before n) (ap (slice_get rows) f.long ∙ e) ∙ chosen n row.node (Some (after a b)) (latest_room n rows rs (rooms_before n)) w.0))
          | inr w ↦ w.1 ∙ (f.found n ∙ sym (latest-push n rows rs (after a b) row (rooms_before n) (ap (slice_get rows) f.long ∙ e) ∙ passed n row.node (Some (after a b)) (latest_room n rows rs (rooms_before n)) w.0))
        ];
        rest =
            f.rest ∙ (ap (λ v. map (λ r. Some r) rs ++ composed_all after room_at f.now v) list
            ∙ (ap (λ v. map (λ r. Some r) rs ++ v ∷ composed_all after room_at (with_node f.now row.node (row_value after room_at f.now row)) (drop (suc at) rows)) made
            ∙ (ap (λ v. map (λ r. Some r) rs ++ Some (after a b) ∷ composed_all after room_at (with_node f.now row.node (row_value after room_at f.now row)) (drop v rows)) (sym (add-one at))
            ∙ some_push rs (after a b) (composed_all after room_at (with_node f.now row.node (row_value after room_at f.now row)) (drop (at + 1) rows)))));
        long = length-append rs (after a b ∷ []) ∙ ap (λ n. n + 1) f.long;
      }
    where
      some_push : (rs : List R) (r : R) (tail : List (Option R)) → map (λ r. Some r) rs ++ Some r ∷ tail ≡ map (λ r. Some r) (rs ++ r ∷ []) ++ tail
      some_push [] r tail = refl
      some_push (x ∷ rs) r tail = ap (λ v. Some x ∷ v) (some_push rs r tail)

      chosen : (n m : ℕ) (a b : Option R) → n ≡ m → cond (eqb n m) a b ≡ a
      chosen n m a b e = elim (set_node (λ k. b) m a n) [ inl w ↦ w.1 | inr w ↦ absurd (w.0 e) ]

      passed : (n m : ℕ) (a b : Option R) → n ≢ m → cond (eqb n m) a b ≡ b
      passed n m a b h = elim (set_node (λ k. b) m a n) [ inl w ↦ absurd (h w.0) | inr w ↦ w.1 ]

  -- what is left of the rows has a room at each part of the next one
  pub next_there : (rooms_before : ℕ → Option R) (rows : List DirtyRow) (rs all : List R) (at : ℕ) (row : DirtyRow) → (f : IsFinding after room_at rooms_before rows rs at) → slice_get rows at ≡ Some row
      → map (λ r. Some r) all ≡ composed_all after room_at rooms_before rows → IsThere (part room_at f.now row.left) × IsThere (part room_at f.now row.right)
  next_there rooms_before rows rs all at row f e there =
      let list = next_row rows at row e in
      some_first rs all (part room_at f.now row.left) (part room_at f.now row.right) _ (there ∙ (f.rest ∙ ap (λ v. map (λ r. Some r) rs ++ composed_all after room_at f.now v) list))
    where
      both_there : (a b : Option R) (r : R) → Some r ≡ joined_values after a b → IsThere a × IsThere b
      both_there None b r e = cc
      both_there (Some a) None r e = cc
      both_there (Some a) (Some b) r e = ((a, refl), (b, refl))

      some_first : (rs all : List R) (a b : Option R) (tail : List (Option R)) → map (λ r. Some r) all ≡ map (λ r. Some r) rs ++ joined_values after a b ∷ tail → IsThere a × IsThere b
      some_first [] [] a b tail e = cc
      some_first [] (x ∷ all) a b tail e = let first : Some x ≡ joined_values after a b = cc in both_there a b x first
      some_first (r ∷ rs) [] a b tail e = cc
      some_first (r ∷ rs) (x ∷ all) a b tail e = let rest : map (λ r. Some r) all ≡ map (λ r. Some r) rs ++ joined_values after a b ∷ tail = cc in some_first rs all a b tail rest

  -- every row of a plan has a room where each part that stays has one
  pub record RoomsThere (rooms : ℕ → Option R) (p : Plan) : Type 0 where
    pub rs : List R
    pub all : map (λ r. Some r) rs ≡ composed_all after room_at rooms (rows p)
    pub root : IsThere (part room_at (values_refreshed after room_at rooms (rows p)) (name (tree_of_plan p)))

  frame_there : (rooms other : ℕ → Option R) (t : Tree) → ((k : ℕ) → 1 ≤ times k t → rooms k ≡ other k) → IsThere (part room_at rooms (name t)) → IsThere (part room_at other (name t))
  frame_there rooms other (leaf n) same h = h
  frame_there rooms other (inner n l r) same h = (h.0, sym (same n (omega (arith, one_same n))) ∙ h.1)

  frame_kept_there : (rooms other : ℕ → Option R) (p : Plan) → ((k : ℕ) → 1 ≤ times k (tree_of_plan p) → rooms k ≡ other k) → KeptBy (λ t. IsThere (part room_at rooms (name t))) p → KeptBy (λ t. IsThere (part room_at other (name t))) p
  frame_kept_there rooms other (kept t) same h = frame_there rooms other t same h
  frame_kept_there rooms other (made side n near far) same h = (
    frame_kept_there rooms other near (λ k w. same k (omega (arith, times_inner_on side k n (tree_of_plan near) (tree_of_plan far)))) h.0,
    frame_kept_there rooms other far (λ k w. same k (omega (arith, times_inner_on side k n (tree_of_plan near) (tree_of_plan far)))) h.1,
  )

  row_there : (side : Side) (rooms : ℕ → Option R) (n : ℕ) (a b : Tree) → IsThere (part room_at rooms (name a)) → IsThere (part room_at rooms (name b)) → IsThere (row_value after room_at rooms (dirty_row side n (name a) (name b)))
  row_there Left rooms n a b x y = (after x.0 y.0, cc (x.1, y.1))
  row_there Right rooms n a b x y = (after y.0 x.0, cc (x.1, y.1))

  own_there : (side : Side) (rooms : ℕ → Option R) (n : ℕ) (a b : Tree) (o : Option R) → IsThere o → IsThere (part room_at (with_node rooms (dirty_row side n (name a) (name b)).node o) (name (inner_on side n a b)))
  own_there Left rooms n a b o h = (h.0, elim (set_node rooms n o n) [ inl w ↦ w.1 ∙ h.1 | inr w ↦ absurd (w.0 refl) ])
  own_there Right rooms n a b o h = (h.0, elim (set_node rooms n o n) [ inl w ↦ w.1 ∙ h.1 | inr w ↦ absurd (w.0 refl) ])

  some-append : (xs ys : List R) → map (λ r. Some r) (xs ++ ys) ≡ map (λ r. Some r) xs ++ map (λ r. Some r) ys
  some-append [] ys = refl
  some-append (x ∷ xs) ys = ap (λ v. Some x ∷ v) (some-append xs ys)

  pub rooms_there : (rooms : ℕ → Option R) (p : Plan) → ((k : ℕ) → times k (tree_of_plan p) ≤ 1) → KeptBy (λ t. IsThere (part room_at rooms (name t))) p → RoomsThere rooms p
  rooms_there rooms (kept t) once h = record { rs = []; all = refl; root = h }
  rooms_there rooms (made side n near far) once h =
      let row = dirty_row side n (name (tree_of_plan near)) (name (tree_of_plan far)) in
      let rooms1 = values_refreshed after room_at rooms (rows near) in
      let rooms2 = values_refreshed after room_at rooms1 (rows far) in
      let split : values_refreshed after room_at rooms (rows near ++ rows far) ≡ rooms2 = refreshed-append after room_at rooms (rows near) (rows far) in
      let first = rooms_there rooms near (λ k. omega (arith, once k, times_inner_on side k n (tree_of_plan near) (tree_of_plan far))) h.0 in
      let free_near : (k : ℕ) → 1 ≤ times k (tree_of_plan far) → rooms k ≡ rooms1 k = λ k w. sym (refreshed_away after room_at rooms near k (omega (arith, made_within k near, once k, times_inner_on side k n (tree_of_plan near) (tree_of_plan far)))) in
      let free_far : (k : ℕ) → 1 ≤ times k (tree_of_plan near) → rooms1 k ≡ rooms2 k = λ k w. sym (refreshed_away after room_at rooms1 far k (omega (arith, made_within k far, once k, times_inner_on side k n (tree_of_plan near) (tree_of_plan far)))) in
      let second = rooms_there rooms1 far (λ k. omega (arith, once k, times_inner_on side k n (tree_of_plan near) (tree_of_plan far))) (frame_kept_there rooms rooms1 far free_near h.1) in
      let own = row_there side rooms2 n (tree_of_plan near) (tree_of_plan far) (frame_there rooms1 rooms2 (tree_of_plan near) free_far first.root) second.root in
      let two : map (λ r. Some r) (first.rs ++ second.rs) ≡ composed_all after room_at rooms (rows near ++ rows far) = some-append first.rs second.rs ∙ (cc (first.all, second.all) ∙ sym (composed_all-append after room_at rooms (rows near) (rows far))) in
      let last : Some own.0 ∷ [] ≡ composed_all after room_at (values_refreshed after room_at rooms (rows near ++ rows far)) (row ∷ []) = ap (λ o. o ∷ []) (sym own.1) ∙ sym (ap (λ g. composed_all after room_at g (row ∷ [])) split) in
      record {
        rs = (first.rs ++ second.rs) ++ own.0 ∷ [];
        all = some-append (first.rs ++ second.rs) (own.0 ∷ []) ∙ (cc (two, last) ∙ sym (composed_all-append after room_at rooms (rows near ++ rows far) (row ∷ [])));
        root = subst (λ g. IsThere (part room_at g (name (inner_on side n (tree_of_plan near) (tree_of_plan far))))) (sym (refreshed-append after room_at rooms (rows near ++ rows far) (row ∷ []) ∙ ap (λ g. values_refreshed after room_at g (row ∷ [])) split))
            (own_there side rooms2 n (tree_of_plan near) (tree_of_plan far) (row_value after room_at rooms2 row) own);
      }

pub cond_same : {R : Type 0} (n m : ℕ) (a b : Option R) → n ≡ m → cond (eqb n m) a b ≡ a
cond_same n m a b e = elim (set_node (λ k. b) m a n) [ inl w ↦ w.1 | inr w ↦ absurd (w.0 e) ]

pub cond_other : {R : Type 0} (n m : ℕ) (a b : Option R) → n ≢ m → cond (eqb n m) a b ≡ b
cond_other n m a b h = elim (set_node (λ k. b) m a n) [ inl w ↦ absurd (h w.0) | inr w ↦ w.1 ]

cond_or : {R : Type 0} (b : Bool) (r : R) (o d : Option R) → cond b (Some r) (found_or o d) ≡ found_or (cond b (Some r) o) d
cond_or true r o d = refl
cond_or false r o d = refl

pub latest-or : {R : Type 0} (n : ℕ) (rows : List DirtyRow) (rs : List R) (o d : Option R) → latest_room n rows rs (found_or o d) ≡ found_or (latest_room n rows rs o) d
latest-or n [] rs o d = refl
latest-or n (row ∷ rows) [] o d = refl
latest-or n (row ∷ rows) (r ∷ rs) o d = ap (latest_room n rows rs) (cond_or (eqb n row.node) r o d) ∙ latest-or n rows rs (cond (eqb n row.node) (Some r) o) d

-- one row of the search
pub latest_step : {R : Type 0} (n at : ℕ) (rows : List DirtyRow) (rs : List R) (row : DirtyRow) (r : R) (before now : Option R) → slice_get rows at ≡ Some row → slice_get rs at ≡ Some r → now ≡ cond (eqb n row.node) (Some r) before
    → latest_room n (drop (at + 1) rows) (drop (at + 1) rs) now ≡ latest_room n (drop at rows) (drop at rs) before
latest_step n at rows rs row r before now e q h =
    let both : latest_room n (drop at rows) (drop at rs) before ≡ latest_room n (row ∷ drop (suc at) rows) (r ∷ drop (suc at) rs) before = cc (next_row rows at row e, next_row rs at r q) in
    let later : latest_room n (drop (at + 1) rows) (drop (at + 1) rs) now ≡ latest_room n (drop (suc at) rows) (drop (suc at) rs) now = ap (λ k. latest_room n (drop k rows) (drop k rs) now) (add-one at) in
    later ∙ (ap (latest_room n (drop (suc at) rows) (drop (suc at) rs)) h ∙ sym both)

pub latest-short : {R : Type 0} (n : ℕ) (rows : List DirtyRow) (rs : List R) (other : Option R) → rs ≡ [] → latest_room n rows rs other ≡ other
latest-short n rows [] other e = latest-none n rows other
latest-short n rows (r ∷ rs) other e = cc
