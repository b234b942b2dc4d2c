-- The laws that leaves and their rooms obey.
use Rattle.std.proofs.Common.{◌≡◌, ℕ, zero, suc, ◌+◌, ◌*◌, ◌^◌, ◌<◌, ◌≤◌, min, List, [], ◌∷◌, ◌++◌, length, refl, sym, ◌∙◌, ap, subst, arith, inl, inr}
use Rattle.std.specs.Prelude.{cond}
use Rattle.std.specs.List.{All}
use Rattle.std.proofs.lemmas.Bool.{cases_lt}
use Rattle.std.proofs.lemmas.List.{append_assoc}
use Rattle.std.proofs.lemmas.List.Elements.{All-head, All-tail, All-cons}
use Rattle.std.proofs.lemmas.List.Sums.{sum_by-append, sum_by-cons}
use Rattle.std.proofs.Math.Nat.{mul-le-mul}
use Rattle.knit_base.specs.declared.instr.Read.{Read}
use Rattle.knit_base.specs.declared.needle.Needle.{Needle}
use Rattle.knit_base.specs.declared.profile.Profile.{Profile}
use Rattle.carriage_model.specs.State.{State}
use Rattle.face_data.specs.Composition.{and_then, composed}
use Rattle.face_data.specs.Items.{most_items}
use Rattle.face_data.specs.Stands.{StandsFor}
use Rattle.face_data.specs.Summaries.{Outcome, summary_outcome}
use Rattle.face_data.specs.Summaries.Outcome.{went_on, faulted}
use Rattle.face_data.proofs.Goodness.{composed_good, composed_runs_both, good_within}
use Rattle.face_data.proofs.Items.{all_entries, items_bound}
use Rattle.std.proofs.Math.Path.{ap₂}
use Rattle.face_data.proofs.KnownAnswers.{AskFits-distinct}
use Rattle.face_data.proofs.Stands.{lines-composed, stands_both, and_then_same, and_then_twice}
use Rattle.summary_compose.specs.Composing.{IsNoGreater}
use Rattle.summary_compose.specs.Known.{names_count, names_read_count}
use Rattle.summary_compose.specs.Changes.{segs_in}
use Rattle.summary_compose.specs.Rooms.{capped_room, room_after, widest_of}
use Rattle.summary_compose.specs.declared.room.Room.{Room}
use Rattle.summary_compose.proofs.ComposedRooms.{composed_sizes}
use Rattle.summary_compose.proofs.GoodFaces.{twice_within}
use Rattle.summary_compose.proofs.Rooms.{capped_is_min, names_read_bound, after_grows}
use Rattle.summary_compose.proofs.Widths.{names_read_wide, widest_all}
use Rattle.tree_shape.specs.Composing.{StandLaws, RoomLaws, Costs}
use Rattle.summary_tree.specs.Faces.{FacesView, spare_in, length_in}
use Rattle.summary_tree.specs.Meeting.{reaches, IsMet}
use Rattle.summary_tree.specs.Store.{HasRooms}
use Rattle.summary_tree.specs.Leaves.{Leaf, leaf_line_count, AreGoodFor, StandTogether, applied_each, EachStandsFor, all_lines, WholeLeaf, joined_leaf, LeavesFit, leaf_items, leaf_room, leaf_lines}

-- Leaves that stand in one tree.

pub lines_append : (xs ys : List Leaf) → leaf_line_count (xs ++ ys) ≡ leaf_line_count xs + leaf_line_count ys
lines_append [] ys = omega arith
lines_append (x ∷ xs) ys = omega (arith, lines_append xs ys)

good_front : (carriers limit : ℕ) (known : List Needle) (xs ys : List Leaf) → AreGoodFor carriers limit known (xs ++ ys) → AreGoodFor carriers limit known xs
good_front carriers limit known [] ys g = tt
good_front carriers limit known (x ∷ xs) ys g = (g.0, good_front carriers limit known xs ys g.1)

good_back : (carriers limit : ℕ) (known : List Needle) (xs ys : List Leaf) → AreGoodFor carriers limit known (xs ++ ys) → AreGoodFor carriers limit known ys
good_back carriers limit known [] ys g = g
good_back carriers limit known (x ∷ xs) ys g = good_back carriers limit known xs ys g.1

sound_front : (xs ys : List Leaf) → StandTogether (xs ++ ys) → StandTogether xs
sound_front xs ys s = record {
  carriers = s.carriers;
  limit = s.limit;
  known = s.known;
  few_carriers = s.few_carriers;
  few_loops = s.few_loops;
  numbered = s.numbered;
  good = good_front s.carriers s.limit s.known xs ys s.good;
  few_lines = omega (arith, s.few_lines, lines_append xs ys);
}

sound_back : (xs ys : List Leaf) → StandTogether (xs ++ ys) → StandTogether ys
sound_back xs ys s = record {
  carriers = s.carriers;
  limit = s.limit;
  known = s.known;
  few_carriers = s.few_carriers;
  few_loops = s.few_loops;
  numbered = s.numbered;
  good = good_back s.carriers s.limit s.known xs ys s.good;
  few_lines = omega (arith, s.few_lines, lines_append xs ys);
}

after_none : (o : Outcome) → o ≡ and_then o (λ t. went_on t)
after_none (went_on t) = refl
after_none (faulted fault) = refl

one_leaf : (leaf : Leaf) → WholeLeaf (leaf ∷ []) leaf
one_leaf leaf = record {
  lines = omega arith;
  runs_all = λ s first. after_none (summary_outcome leaf.0 s first);
  good = λ carriers limit known g. g.0;
  stands = λ profile blocks e. one_text profile blocks e;
}
  where
    nothing : (xs : List Read) → xs ≡ xs ++ []
    nothing [] = refl
    nothing (x ∷ xs) = ap (λ v. x ∷ v) (nothing xs)

    one_text : (profile : Profile) (blocks : List (List Read)) → EachStandsFor profile (leaf ∷ []) blocks → StandsFor profile leaf.0 (all_lines blocks)
    one_text profile [] e = absurd e
    one_text profile (block ∷ []) e = subst (StandsFor profile leaf.0) (nothing block) e.0
    one_text profile (block ∷ (other ∷ blocks)) e = absurd e.1

pub applied_append : (xs ys : List Leaf) (s : State) (first : ℕ) → applied_each (xs ++ ys) s first ≡ and_then (applied_each xs s first) (λ t. applied_each ys t (first + leaf_line_count xs))
applied_append [] ys s first = let same : first ≡ first + 0 = omega arith in ap (applied_each ys s) same
applied_append (x ∷ xs) ys s first =
    and_then_same (summary_outcome x.0 s first) (λ t. applied_each (xs ++ ys) t (first + x.0.lines)) (λ t. and_then (applied_each xs t (first + x.0.lines)) (λ u. applied_each ys u (first + x.0.lines + leaf_line_count xs)))
    (λ t. applied_append xs ys t (first + x.0.lines))
    ∙ (sym (and_then_twice (summary_outcome x.0 s first) (λ t. applied_each xs t (first + x.0.lines)) (λ u. applied_each ys u (first + x.0.lines + leaf_line_count xs)))
    ∙ (let same : first + x.0.lines + leaf_line_count xs ≡ first + (x.0.lines + leaf_line_count xs) = omega arith in ap (λ n. and_then (and_then (summary_outcome x.0 s first) (λ t. applied_each xs t (first + x.0.lines))) (λ u. applied_each ys u n)) same))

-- the texts of the first leaves and those of the others
split_texts : (profile : Profile) (xs ys : List Leaf) (blocks : List (List Read)) → EachStandsFor profile (xs ++ ys) blocks
    → (front : List (List Read)) × (back : List (List Read)) × (all_lines blocks ≡ all_lines front ++ all_lines back) × EachStandsFor profile xs front × EachStandsFor profile ys back
split_texts profile [] ys blocks e = ([], blocks, refl, tt, e)
split_texts profile (x ∷ xs) ys [] e = absurd e
split_texts profile (x ∷ xs) ys (block ∷ blocks) e =
    let w = split_texts profile xs ys blocks e.1 in
    (block ∷ w.0, w.1, ap (λ v. block ++ v) w.2 ∙ sym (append_assoc block (all_lines w.0) (all_lines w.1)), (e.0, w.3), w.4)

both_leaves : (xs ys : List Leaf) (a b : Leaf) → StandTogether (xs ++ ys) → WholeLeaf xs a → WholeLeaf ys b → LeavesFit a b × WholeLeaf (xs ++ ys) (joined_leaf a b)
both_leaves xs ys a b s p q =
    let ga = p.good s.carriers s.limit s.known (good_front s.carriers s.limit s.known xs ys s.good) in
    let gb = q.good s.carriers s.limit s.known (good_back s.carriers s.limit s.known xs ys s.good) in (
      record {
        carriers = s.carriers;
        limit = s.limit;
        known = s.known;
        few_carriers = s.few_carriers;
        few_loops = s.few_loops;
        numbered = s.numbered;
        first = ga;
        second = gb;
        lines = omega (arith, s.few_lines, lines_append xs ys, p.lines, q.lines);
      },
      record {
        lines = omega (arith, lines-composed a.0 b.0, lines_append xs ys, p.lines, q.lines);
        runs_all = λ t first.
            composed_runs_both s.carriers s.limit s.known s.known a.0 b.0 ga gb t first
            ∙ (ap (λ o. and_then o (λ u. summary_outcome b.0 u (first + a.0.lines))) (p.runs_all t first)
            ∙ (and_then_same (applied_each xs t first) (λ u. summary_outcome b.0 u (first + a.0.lines)) (λ u. applied_each ys u (first + leaf_line_count xs)) (λ u. q.runs_all u (first + a.0.lines) ∙ ap (λ n. applied_each ys u (first + n)) p.lines)
            ∙ sym (applied_append xs ys t first)));
        good = λ carriers limit known g.
            good_within carriers limit (known ++ known) known (composed a.0 b.0) (twice_within known)
            (composed_good carriers limit known known a.0 b.0 (p.good carriers limit known (good_front carriers limit known xs ys g)) (q.good carriers limit known (good_back carriers limit known xs ys g)));
        stands = λ profile blocks e.
            let w = split_texts profile xs ys blocks e in
            subst (StandsFor profile (composed a.0 b.0)) (sym w.2) (stands_both profile s.carriers s.limit s.known s.known a.0 b.0 (all_lines w.0) (all_lines w.1) ga gb (p.stands profile w.0 w.3) (q.stands profile w.1 w.4));
      },
    )

pub stand_laws : StandLaws {V = Leaf} StandTogether WholeLeaf joined_leaf LeavesFit
stand_laws = record { one = λ v s. one_leaf v; front = sound_front; back = sound_back; both = both_leaves }

-- A composed summary has as many lines as both.
pub lines_law : (a b : Leaf) → LeavesFit a b → leaf_lines (joined_leaf a b) ≡ leaf_lines a + leaf_lines b
lines_law a b f = lines-composed a.0 b.0

-- No summary of some of the leaves has more items than a good one can have.
pub items_law : (xs : List Leaf) (carriers limit : ℕ) (known : List Needle) → AreGoodFor carriers limit known xs → Costs WholeLeaf leaf_items (most_items carriers limit (length known)) xs
items_law xs carriers limit known g before run after v e w =
    let all = subst (AreGoodFor carriers limit known) e g in
    items_bound carriers limit known v.0 (w.good carriers limit known (good_front carriers limit known run after (good_back carriers limit known before (run ++ after) all)))

pub cost_law : (xs : List Leaf) → StandTogether xs → (each : ℕ) × Costs WholeLeaf leaf_items each xs
cost_law xs s = (most_items s.carriers s.limit (length s.known), items_law xs s.carriers s.limit s.known s.good)

-- Rooms.

same_room : (a : Room) → IsNoGreater a a
same_room a = record { checks = omega arith; names = omega arith; changes = omega arith; segs = omega arith; entries = omega arith; widest = omega arith; lasts = omega arith }

pub along_rooms : (a b c : Room) → IsNoGreater a b → IsNoGreater b c → IsNoGreater a c
along_rooms a b c p q = record {
  checks = omega (arith, p.checks, q.checks);
  names = omega (arith, p.names, q.names);
  changes = omega (arith, p.changes, q.changes);
  segs = omega (arith, p.segs, q.segs);
  entries = omega (arith, p.entries, q.entries);
  widest = omega (arith, p.widest, q.widest);
  lasts = omega (arith, p.lasts, q.lasts);
}

-- a product of capped numbers is no less than the capped product
pub product_kept : (x y : ℕ) → min (x * y) (2 ^ 62 + 1) ≤ min x (2 ^ 62 + 1) * min y (2 ^ 62 + 1)
product_kept x y = elim (cases_lt (2 ^ 62) x) [
  | inl more ↦ product_first x y more
  | inr few ↦ elim (cases_lt (2 ^ 62) y) [
    | inl more ↦ product_second x y few more
    | inr less ↦
        let first : min x (2 ^ 62 + 1) ≡ x = omega (arith, few) in
        let second : min y (2 ^ 62 + 1) ≡ y = omega (arith, less) in
        rw (first, second) (omega arith)
  ]
]
  where
    product_first : (x y : ℕ) → 2 ^ 62 < x → min (x * y) (2 ^ 62 + 1) ≤ min x (2 ^ 62 + 1) * min y (2 ^ 62 + 1)
    product_first x zero more = omega arith
    product_first x (suc y) more =
        let first : min x (2 ^ 62 + 1) ≡ 2 ^ 62 + 1 = omega (arith, more) in
        let one : 1 ≤ min (suc y) (2 ^ 62 + 1) = omega arith in
        let same : 2 ^ 62 + 1 ≤ 2 ^ 62 + 1 = omega arith in
        let least : (2 ^ 62 + 1) * 1 ≤ (2 ^ 62 + 1) * min (suc y) (2 ^ 62 + 1) = mul-le-mul same one in
        rw first (omega (arith, least))

    product_second : (x y : ℕ) → x ≤ 2 ^ 62 → 2 ^ 62 < y → min (x * y) (2 ^ 62 + 1) ≤ min x (2 ^ 62 + 1) * min y (2 ^ 62 + 1)
    product_second zero y few more = omega arith
    product_second (suc x) y few more =
        let second : min y (2 ^ 62 + 1) ≡ 2 ^ 62 + 1 = omega (arith, more) in
        let one : 1 ≤ min (suc x) (2 ^ 62 + 1) = omega arith in
        let same : 2 ^ 62 + 1 ≤ 2 ^ 62 + 1 = omega arith in
        let least : 1 * (2 ^ 62 + 1) ≤ min (suc x) (2 ^ 62 + 1) * (2 ^ 62 + 1) = mul-le-mul one same in
        rw second (omega (arith, least))

pub sum_kept : (n a b : ℕ) → n ≤ a + b → capped_room n ≤ capped_room (capped_room a + capped_room b)
sum_kept n a b h = omega (arith, h, capped_is_min n, capped_is_min a, capped_is_min b, capped_is_min (capped_room a + capped_room b))

pub capped_product : (x y : ℕ) → capped_room (x * y) ≤ capped_room (capped_room x * capped_room y)
capped_product x y =
    omega (arith, product_kept x y, capped_is_min (x * y), ap₂ (λ (a b : ℕ). a * b) (capped_is_min x) (capped_is_min y), capped_is_min (capped_room x * capped_room y))

-- as many names as are read of a second one's, within both bounds
pub names_kept : (n own read next checks entries widest : ℕ) → n ≤ own + read → read ≤ next * widest → read ≤ next + checks * entries →
    capped_room n ≤ capped_room (capped_room own + min (capped_room (capped_room next * capped_room widest)) (capped_room (capped_room next + capped_room (capped_room checks * capped_room entries))))
names_kept n own read next checks entries widest h k l =
    let each : capped_room read ≤ capped_room (capped_room next * capped_room widest) = omega (arith, k, capped_product next widest, capped_is_min read, capped_is_min (next * widest)) in
    let more = capped_product checks entries in
    let all : capped_room read ≤ capped_room (capped_room next + capped_room (capped_room checks * capped_room entries))
    = omega (arith, l, more, capped_is_min read, capped_is_min next, capped_is_min (checks * entries), capped_is_min (capped_room next + capped_room (capped_room checks * capped_room entries))) in
    omega (arith, h, each, all, capped_is_min n, capped_is_min own, capped_is_min read, capped_is_min (capped_room own + min (capped_room (capped_room next * capped_room widest)) (capped_room (capped_room next + capped_room (capped_room checks * capped_room entries)))))

pub bounds : (a b : Leaf) → LeavesFit a b → IsNoGreater (leaf_room (joined_leaf a b)) (room_after (leaf_room a) (leaf_room b))
bounds a b f =
    let both = composed a.0 b.0 in
    let s = composed_sizes f.carriers f.limit f.known f.known a.0 b.0 f.first f.second in
    let read = names_read_bound a.0.changes b.0.checks f.first.fair.owns (λ c there. AskFits-distinct f.carriers f.limit f.known c.ask (f.second.fair.asks_fit c there)) in
    let ea = length (all_entries a.0.changes) in
    let eb = length (all_entries b.0.changes) in
    let entries = sum_kept (length (all_entries both.changes)) ea eb s.few_entries in
    let wa = widest_of a.0.changes in
    let wb = widest_of b.0.changes in
    record {
      checks = sum_kept (length both.checks) (length a.0.checks) (length b.0.checks) s.few_checks;
      names = names_kept (names_count both.checks) (names_count a.0.checks) (names_read_count a.0.changes b.0.checks) (names_count b.0.checks) (length b.0.checks) ea wa s.few_names (names_read_wide a.0.changes b.0.checks) read;
      changes = sum_kept (length both.changes) (length a.0.changes) (length b.0.changes) s.few_changes;
      segs = sum_kept (segs_in both.changes) (segs_in a.0.changes) (segs_in b.0.changes) s.few_segs;
      entries = entries;
      widest = omega (arith, s.few_held, entries, widest_all both.changes, capped_product wa wb, capped_is_min (widest_of both.changes), capped_is_min (wa * wb), capped_is_min (length (all_entries both.changes)));
      lasts = sum_kept (length both.lasts) (length a.0.lasts) (length b.0.lasts) s.few_lasts;
    }

pub room_laws : RoomLaws {V = Leaf} {R = Room} joined_leaf LeavesFit leaf_room room_after IsNoGreater
room_laws = record { same = same_room; along = along_rooms; bounds = bounds; rises = λ a b c d p q. after_grows a b c d p q }

-- Rooms in another order.

All-front : {X : Type 0} (P : X → Type 0) (xs ys : List X) → All P (xs ++ ys) → All P xs × All P ys
All-front P [] ys all = ((λ k d h. absurd (omega arith)), all)
All-front P (x ∷ xs) ys all = let rest = All-front P xs ys (All-tail P x (xs ++ ys) all) in (All-cons P x xs (All-head P x (xs ++ ys) all) rest.0, rest.1)

pub to_front : {X : Type 0} (P : X → Type 0) (xs : List X) (x : X) → All P (xs ++ x ∷ []) → All P (x ∷ xs)
to_front P xs x all = let both = All-front P xs (x ∷ []) all in All-cons P x xs (All-head P x [] both.1) both.0

pub met_any_order : {X : Type 0} (spare : ℕ → ℕ) (len : X → ℕ) (r : X) (rooms : List X) → IsMet spare len (rooms ++ r ∷ []) → IsMet spare len (r ∷ rooms)
met_any_order spare len r rooms m = record {
  low = to_front (λ x. len x ≤ 2 ^ 62) rooms r m.low;
  enough = λ class h. omega (arith, m.enough class h, sum_by-append (λ x. cond (reaches class (len x)) 1 0) rooms (r ∷ []), sum_by-cons (λ x. cond (reaches class (len x)) 1 0) r rooms);
}

-- rooms for faces in one order are rooms for them in another
pub rooms_any_order : (faces : FacesView) (scratch r : Room) (rooms : List Room) → HasRooms faces scratch (rooms ++ r ∷ []) → HasRooms faces scratch (r ∷ rooms)
rooms_any_order faces scratch r rooms h = record {
  spans = λ list. met_any_order (spare_in faces list) (length_in list) r rooms (h.spans list);
  scratch_has = to_front (λ x. IsNoGreater x scratch) rooms r h.scratch_has;
}
