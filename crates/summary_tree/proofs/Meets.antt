-- Taking spans for a face that was reckoned with.
use Rattle.std.proofs.Common.{◌≡◌, ◌≢◌, ℕ, zero, suc, ◌+◌, ◌*◌, ◌-◌, ◌^◌, ◌<◌, ◌≤◌, min, List, [], ◌∷◌, length, map, Option, Some, None, Bool, true, false, refl, sym, ◌∙◌, ap, subst, arith, inl, inr}
use Rattle.std.specs.Prelude.{◌==◌, cond, count_by}
use Rattle.std.specs.List.{All}
use Rattle.std.proofs.lemmas.Bool.{cases_Bool, cases_lt}
use Rattle.std.proofs.lemmas.Bool.Decides.{eqb_tells, nat_tests}
use Rattle.std.proofs.lemmas.List.{length-map}
use Rattle.std.proofs.lemmas.List.Sums.{sum_by-cons}
use Rattle.std.proofs.lemmas.List.Elements.{All-head, All-tail, All-append, All-weaker}
use Rattle.std.proofs.Math.Seq.{take-suc}
use Rattle.std.proofs.Common.{◌++◌, take, add-one}
use Rattle.std.specs.Prelude.{slice_index_or}
use Rattle.std.specs.Option.{option_map}
use Rattle.loop_history.specs.declared.row.LoopRow.{LoopRow}
use Rattle.tree_shape.specs.declared.node.Child.{Child}
use Rattle.tree_shape.specs.declared.node.Child.TheVariants.{Leaf, Inner}
use Rattle.tree_shape.specs.Values.{part}
use Rattle.summary_tree.specs.Store.{child_slot, leaf_from, leaf_in, node_in, HasRooms}
use Rattle.std.proofs.Math.Pow.{pow_mono}
use Rattle.face_data.specs.declared.face.FaceView.{FaceView}
use Rattle.face_data.specs.Summaries.{Summary}
use Rattle.face_data.specs.View.{IsPacked, asked_of_check, changed_of, summary_of}
use Rattle.face_data.proofs.Items.{all_entries}
use Rattle.span_pool.specs.Class.{IsClassOf}
use Rattle.summary_compose.specs.Changes.{changes_in}
use Rattle.summary_compose.specs.Composing.{IsNoGreater}
use Rattle.summary_compose.specs.Rooms.{capped_room, kept_of, names_after, room_of_face, room_after, room_of_both_faces, widest_of}
use Rattle.summary_compose.specs.declared.room.Room.{Room}
use Rattle.summary_compose.proofs.Checks.{named_size}
use Rattle.summary_compose.proofs.Rooms.{all_entries_flat, capped_is_min}
use Rattle.face_data.specs.Segments.{entry_needles_of}
use Rattle.summary_compose.proofs.Parts.{packed_size}
use Rattle.summary_tree.specs.declared.faces.FaceList.{FaceList}
use Rattle.summary_tree.specs.declared.faces.FaceList.TheVariants.{Checks, Names, Changes, Segs, Lasts}
use Rattle.summary_tree.specs.Faces.{FacesView, AreSpansReserved, TookSpans, KeepsSpares, spare_in, length_in, face_in}
use Rattle.summary_tree.specs.Laws.{capped_product, names_kept, sum_kept, along_rooms, bounds}
use Rattle.summary_tree.specs.Leaves.{LeavesFit}
use Rattle.face_data.specs.Composition.{composed}
use Rattle.summary_tree.specs.Meeting.{reaches, IsMet}
use Rattle.summary_tree.specs.Rooms.{kept_room}

-- a test can't have failed and passed
pub test_both_ways_absurd : {X : Type 0} (b : Bool) → b ≡ false → b ≡ true → X
test_both_ways_absurd b e f = let no : false ≡ true = sym e ∙ f in absurd (cc)

exponent : (a b : ℕ) → 2 ^ a < 2 ^ b → a < b
exponent a b h = elim (cases_lt a b) [
  | inl w ↦ w
  | inr w ↦ let up : 2 ^ b ≤ 2 ^ a = pow_mono w in absurd (omega arith)
]

-- each length that is not too long has a class
some_class : (k len : ℕ) → len ≤ 2 ^ k → (class : ℕ) × IsClassOf len class
some_class zero len h = (0, record { fits = h; least = λ other p. omega arith })
some_class (suc k) len h = elim (cases_lt (2 ^ k) len) [
  | inl w ↦ (suc k, record { fits = h; least = λ other p. let up : k < other = exponent k other (omega arith) in omega arith })
  | inr w ↦ some_class k len w
]

above : (class len r : ℕ) → IsClassOf len class → len ≤ r → 0 < class → 2 ^ (class - 1) < r
above class len r c h p = elim (cases_lt (2 ^ (class - 1)) r) [ inl w ↦ w | inr w ↦ absurd (omega (arith, c.least (class - 1) (omega arith))) ]

-- a greater length reaches the class of a length
reach : (class len r : ℕ) → IsClassOf len class → len ≤ r → reaches class r ≡ true
reach class len r c h = elim (eqb_tells class 0) [
  | inl w ↦ let zero_is : (class == 0) ≡ true = w.0 in rw zero_is refl
  | inr w ↦ let up : 2 ^ (class - 1) < r = above class len r c h (omega (arith, w.1)) in grind (arith, nat_tests)
]

module _ {X : Type 0} (len : X → ℕ) where
  -- there is a spare span of that class
  pub spare_here : (spare : ℕ → ℕ) (r : X) (rest : List X) (n class : ℕ) → IsMet spare len (r ∷ rest) → IsClassOf n class → n ≤ len r → 1 ≤ spare class
  spare_here spare r rest n class m c h =
      let low : len r ≤ 2 ^ 62 = All-head (λ x. len x ≤ 2 ^ 62) r rest m.low in
      omega (arith, m.enough class (c.least 62 (omega arith)), ap {B = ℕ} (λ b. cond b 1 0) (reach class n (len r) c h), sum_by-cons (λ x. cond (reaches class (len x)) 1 0) r rest)

  met_with : (old new : ℕ → ℕ) (r : X) (rest : List X) (n : ℕ) → IsMet old len (r ∷ rest) → n ≤ len r → ((class : ℕ) → IsClassOf n class → old class ≤ new class + 1)
      → ((class other : ℕ) → IsClassOf n class → other ≢ class → old other ≤ new other) → (class : ℕ) → IsClassOf n class → IsMet new len rest
  met_with old new r rest n m h here others class c = record {
    low = All-tail (λ x. len x ≤ 2 ^ 62) r rest m.low;
    enough = λ k few. elim (eqb_tells k class) [
      | inl w ↦ omega (arith, m.enough k few, ap {B = ℕ} (λ n. cond (reaches n (len r)) 1 0) w.1, ap {B = ℕ} (λ b. cond b 1 0) (reach class n (len r) c h), ap old w.1, ap new w.1, here class c, sum_by-cons (λ x. cond (reaches k (len x)) 1 0) r rest)
      | inr w ↦ omega (arith, m.enough k few, others class k c w.1, sum_by-cons (λ x. cond (reaches k (len x)) 1 0) r rest)
    ];
  }

  -- and once it is taken, there is still one for each of the others
  pub met_rest : (old new : ℕ → ℕ) (r : X) (rest : List X) (n : ℕ) → IsMet old len (r ∷ rest) → n ≤ len r → ((class : ℕ) → IsClassOf n class → old class ≤ new class + 1)
      → ((class other : ℕ) → IsClassOf n class → other ≢ class → old other ≤ new other) → IsMet new len rest
  met_rest old new r rest n m h here others =
      let low : len r ≤ 2 ^ 62 = All-head (λ x. len x ≤ 2 ^ 62) r rest m.low in
      let some = some_class 62 n (omega arith) in
      met_with old new r rest n m h here others some.0 some.1

  -- more spare spans are no harm
  pub met_more : (old new : ℕ → ℕ) (rooms : List X) → ((class : ℕ) → old class ≤ new class) → IsMet old len rooms → IsMet new len rooms
  met_more old new rooms more m = record { low = m.low; enough = λ class few. omega (arith, m.enough class few, more class) }

-- a length that needs a span of a class or of a higher one needs no lower class than a greater length does
stops : (class k len longest : ℕ) → class ≤ k → len ≤ longest → reaches k len ≡ true → reaches class longest ≡ true
stops class k len longest up h r = elim (eqb_tells class 0) [
  | inl w ↦ let zero_is : (class == 0) ≡ true = w.0 in rw zero_is refl
  | inr w ↦
      let positive : (k == 0) ≡ false = grind (arith, nat_tests) in
      let beyond : 2 ^ (k - 1) < len = grind (arith, nat_tests) in
      let below : 2 ^ (class - 1) ≤ 2 ^ (k - 1) = pow_mono (omega (arith, up)) in
      let reached : 2 ^ (class - 1) < longest = omega arith in
      grind (arith, nat_tests)
]

module _ {X : Type 0} (len : X → ℕ) where
  -- where the longest length doesn't reach a class, none of them reaches it or a higher one
  none_beyond : (class k longest : ℕ) (rooms : List X) → class ≤ k → All (λ r. len r ≤ longest) rooms → reaches class longest ≡ false → count_by (λ r. reaches k (len r)) rooms ≡ 0
  none_beyond class k longest [] up all short = refl
  none_beyond class k longest (r ∷ rest) up all short = elim (cases_Bool (reaches k (len r))) [
    | inl w ↦ test_both_ways_absurd (reaches class longest) short (stops class k (len r) longest up (All-head (λ x. len x ≤ longest) r rest all) w)
    | inr w ↦ omega (arith, none_beyond class k longest rest up (All-tail (λ x. len x ≤ longest) r rest all) short, ap {B = ℕ} (λ b. cond b 1 0) w, sum_by-cons (λ x. cond (reaches k (len x)) 1 0) r rest)
  ]

  -- so there are enough spare spans of all classes where there are of the classes below
  pub met_beyond : (spare : ℕ → ℕ) (class longest : ℕ) (rooms : List X) → All (λ r. len r ≤ 2 ^ 62) rooms → All (λ r. len r ≤ longest) rooms → reaches class longest ≡ false
      → ((k : ℕ) → k < class → count_by (λ r. reaches k (len r)) rooms ≤ spare k) → IsMet spare len rooms
  met_beyond spare class longest rooms low all short enough = record {
    low = low;
    enough = λ k few. elim (cases_lt k class) [ inl w ↦ enough k w | inr w ↦ omega (arith, none_beyond class k longest rooms w all short) ];
  }

-- the lists of a smaller room are no longer
pub no_greater_in : (a b : Room) → IsNoGreater a b → (list : FaceList) → length_in list a ≤ length_in list b
no_greater_in a b h Checks = h.checks
no_greater_in a b h Names = h.names
no_greater_in a b h Changes = h.changes
no_greater_in a b h Segs = h.segs
no_greater_in a b h Lasts = h.lasts

-- the room of a packed face's summary is that of its lists
pub kept_is : (face : FaceView) → IsPacked face → kept_room (summary_of face) ≡ kept_of (room_of_face face)
kept_is face p =
    let names = sym (named_size face.names.now face.checks.now (record { fit = p.checks_fit; whole = p.names })) in
    let segs = sym (packed_size face.segs.now face.changes.now (record { fit = p.changes_fit; whole = p.segs })) in
    let checks = length-map face.checks.now (asked_of_check face.names.now) in
    let changes = length-map face.changes.now (changed_of face.segs.now) in
    let entries : length (all_entries (map (changed_of face.segs.now) face.changes.now)) ≡ length (entry_needles_of face.segs.now) = ap length (sym (all_entries_flat face.segs.now face.changes.now) ∙ ap entry_needles_of p.segs) in
    λ i. record {
      checks = capped_room (checks i);
      names = capped_room (names i);
      changes = capped_room (changes i);
      segs = capped_room (segs i);
      entries = capped_room (entries i);
      widest = capped_room (widest_of (changes_in face));
      lasts = capped_room (length face.lasts.now);
    }

capped_in : (list : FaceList) (r : Room) → length_in list (kept_of r) ≡ capped_room (length_in list r)
capped_in Checks r = refl
capped_in Names r = refl
capped_in Changes r = refl
capped_in Segs r = refl
capped_in Lasts r = refl

-- no list of a face is longer than one that was reckoned with
pub list_fits : (v : FacesView) (face : FaceView) (r : Room) (rest : List Room) → AreSpansReserved v (r ∷ rest) → IsPacked face → IsNoGreater (kept_room (summary_of face)) r
    → (list : FaceList) → (length_in list (room_of_face face) ≤ length_in list r) × (length_in list (room_of_face face) ≤ 2 ^ 62)
list_fits v face r rest m p h list =
    let low : length_in list r ≤ 2 ^ 62 = All-head (λ x. length_in list x ≤ 2 ^ 62) r rest (m list).low in
    let within : length_in list (kept_of (room_of_face face)) ≤ length_in list r = no_greater_in (kept_of (room_of_face face)) r (subst (λ x. IsNoGreater x r) (kept_is face p) h) list in
    let kept = capped_in list (room_of_face face) in
    (omega (arith, low, within, kept, capped_is_min (length_in list (room_of_face face))), omega (arith, low, within, kept, capped_is_min (length_in list (room_of_face face))))

-- there are spans for the face's lists
pub spans_there : (v : FacesView) (face : FaceView) (r : Room) (rest : List Room) → AreSpansReserved v (r ∷ rest) → IsPacked face → IsNoGreater (kept_room (summary_of face)) r
    → (list : FaceList) (class : ℕ) → IsClassOf (length_in list (room_of_face face)) class → 1 ≤ spare_in v list class
spans_there v face r rest m p h list class c =
    spare_here (length_in list) (spare_in v list) r rest (length_in list (room_of_face face)) class (m list) c (list_fits v face r rest m p h list).0

-- and once they are taken, there are still those for the other rooms
pub spans_left : (old new : FacesView) (face : FaceView) (r : Room) (rest : List Room) → AreSpansReserved old (r ∷ rest) → IsPacked face → IsNoGreater (kept_room (summary_of face)) r → TookSpans old new (room_of_face face) → AreSpansReserved new rest
spans_left old new face r rest m p h t = λ list.
    met_rest (length_in list) (spare_in old list) (spare_in new list) r rest (length_in list (room_of_face face)) (m list) (list_fits old face r rest m p h list).0 (t.of_class list) (t.of_others list)

-- more spare spans are no harm
pub spans_more : (old new : FacesView) (rooms : List Room) → KeepsSpares old new → AreSpansReserved old rooms → AreSpansReserved new rooms
spans_more old new rooms more m = λ list. met_more (length_in list) (spare_in old list) (spare_in new list) rooms (more list) (m list)

-- nor is more room of the scratch
pub rooms_more : (old new : FacesView) (scratch more : Room) (rooms : List Room) → KeepsSpares old new → IsNoGreater scratch more → HasRooms old scratch rooms → HasRooms new more rooms
rooms_more old new scratch more rooms spares wider h = record {
  spans = spans_more old new rooms spares h.spans;
  scratch_has = All-weaker (λ r. IsNoGreater r scratch) (λ r. IsNoGreater r more) (λ r within. along_rooms r scratch more within wider) rooms h.scratch_has;
}

-- the room for two faces by their lists is within the room by their kept rooms
pub both_kept : (a b : FaceView) → IsPacked a → IsPacked b → IsNoGreater (room_of_both_faces a b) (room_after (kept_room (summary_of a)) (kept_room (summary_of b)))
both_kept a b p q = subst (λ x. IsNoGreater (room_of_both_faces a b) (room_after x (kept_room (summary_of b)))) (sym (kept_is a p)) (subst (λ y. IsNoGreater (room_of_both_faces a b) (room_after (kept_of (room_of_face a)) y)) (sym (kept_is b q)) (go (room_of_face a) (room_of_face b)))
  where
    go : (r s : Room) → IsNoGreater (room_after r s) (room_after (kept_of r) (kept_of s))
    go r s =
        let entries = sum_kept (r.entries + s.entries) r.entries s.entries (omega arith) in
        record {
          checks = sum_kept (r.checks + s.checks) r.checks s.checks (omega arith);
          names = names_kept (r.names + names_after r s) r.names (min (s.names * r.widest) (s.names + s.checks * r.entries)) s.names s.checks r.entries r.widest
              (omega (arith, capped_is_min (s.names * r.widest), capped_is_min (s.checks * r.entries), capped_is_min (s.names + capped_room (s.checks * r.entries)))) (omega arith) (omega arith);
          changes = sum_kept (r.changes + s.changes) r.changes s.changes (omega arith);
          segs = sum_kept (r.segs + s.segs) r.segs s.segs (omega arith);
          entries = entries;
          widest = omega (arith, entries, capped_product r.widest s.widest);
          lasts = sum_kept (r.lasts + s.lasts) r.lasts s.lasts (omega arith);
        }

-- what a child of the tree has is the face at its place
pub part_face : (faces : FacesView) (tables : List (Option (List LoopRow))) (child : Child) (v : Summary × List LoopRow) → part (leaf_in faces tables) (node_in faces) child ≡ Some v → face_in faces (child_slot child) ≡ Some v.0
part_face faces tables (Leaf n) v e = of_leaf (face_in faces (child_slot (Leaf n))) (slice_index_or tables n None) v e
  where
    of_leaf : (o : Option Summary) (t : Option (List LoopRow)) (v : Summary × List LoopRow) → leaf_from o t ≡ Some v → o ≡ Some v.0
    of_leaf None t v e = cc
    of_leaf (Some face) None v e = cc
    of_leaf (Some face) (Some table) v e = let same : (face, table) ≡ v = cc in ap (λ (p : Summary × List LoopRow). Some p.0) same
part_face faces tables (Inner n) v e = of_node (face_in faces (child_slot (Inner n))) v e
  where
    of_node : (o : Option Summary) (v : Summary × List LoopRow) → option_map (λ (face : Summary). (face, [])) o ≡ Some v → o ≡ Some v.0
    of_node None v e = cc
    of_node (Some face) v e = let same : (face, []) ≡ v = cc in ap (λ (p : Summary × List LoopRow). Some p.0) same

-- two that are there are one
pub same_there : {X : Type 0} (o : Option X) (a b : X) → o ≡ Some a → o ≡ Some b → a ≡ b
same_there o a b e f = let both : Some a ≡ Some b = sym e ∙ f in cc

-- the greatest of one room more
pub one_more : (xs : List Room) (i : ℕ) (most next d : Room) → i < length xs → All (λ r. IsNoGreater r most) (take i xs) → IsNoGreater most next → IsNoGreater (slice_index_or xs i d) next → All (λ r. IsNoGreater r next) (take (i + 1) xs)
one_more xs i most next d inside all up here =
    let last : All (λ r. IsNoGreater r next) (slice_index_or xs i d ∷ []) = λ k e h. let first : k ≡ 0 = omega arith in subst (λ n. IsNoGreater (slice_index_or (slice_index_or xs i d ∷ []) n e) next) (sym first) here in
    let both : All (λ r. IsNoGreater r next) (take i xs ++ (slice_index_or xs i d ∷ [])) = All-append (λ r. IsNoGreater r next) (take i xs) (slice_index_or xs i d ∷ []) (All-weaker (λ r. IsNoGreater r most) (λ r. IsNoGreater r next) (λ x p. along_rooms x most next p up) (take i xs) all) last in
    let list : take (suc i) xs ≡ take i xs ++ (slice_index_or xs i d ∷ []) = take-suc xs i d inside in
    subst (λ n. All (λ r. IsNoGreater r next) (take n xs)) (sym (add-one i)) (subst (All (λ r. IsNoGreater r next)) (sym list) both)

-- what two leaves compose to takes no more room than was reckoned with
pub composed_within : (a b : Summary × List LoopRow) (r : Room) → LeavesFit a b → IsNoGreater (room_after (kept_room a.0) (kept_room b.0)) r → IsNoGreater (kept_room (composed a.0 b.0)) r
composed_within a b r f h = along_rooms (kept_room (composed a.0 b.0)) (room_after (kept_room a.0) (kept_room b.0)) r (bounds a b f) h
