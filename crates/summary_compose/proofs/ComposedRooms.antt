-- The composition of two faces has the room that was made for it.
use Rattle.std.proofs.Common.{◌≡◌, ◌^◌, Bool, true, false, ℕ, ◌+◌, ◌*◌, ◌≤◌, max, min, inl, inr, List, [], ◌∷◌, ◌++◌, Option, Some, None, length, refl, sym, ap, ◌∙◌, subst, arith, length-append}
use Rattle.std.specs.List.{Contains}
use Rattle.std.specs.Prelude.{nat_lt, if◌then◌else◌}
use Rattle.std.proofs.Math.Path.{ap₂}
use Rattle.std.proofs.Math.Nat.{mul-le-mul}
use Rattle.face_data.specs.declared.face.FaceView.{FaceView}
use Rattle.face_data.specs.View.{IsPacked, asked_of_check, changed_of, summary_of}
use Rattle.std.proofs.lemmas.List.Elements.{Contains-append_left, Contains-append_right}
use Rattle.std.proofs.lemmas.List.Sums.{sum_by-cons, sum_by_push}
use Rattle.knit_base.specs.declared.needle.Needle.{Needle}
use Rattle.face_data.specs.declared.face.Effect.{Effect}
use Rattle.face_data.specs.declared.face.Last.{Last}
use Rattle.face_data.specs.Lasts.{lasts_of_both}
use Rattle.summary_compose.proofs.LastCounts.{length_both}
use Rattle.face_data.specs.Answers.{ConditionAnswer, read_answer}
use Rattle.face_data.specs.Answers.ConditionAnswer.{yes_it_does, no_it_does_not, asks}
use Rattle.knit_base.specs.declared.rule.Fault.{Fault}
use Rattle.face_data.specs.declared.face.Ending.{Ending}
use Rattle.face_data.specs.declared.face.Ending.TheVariants.{Through, Broken}
use Rattle.face_data.specs.Composition.{against_kept, changes_with, closed_at, composed, composed_at, made_with, changes_merged, next, reads, lasts_with}
use Rattle.face_data.specs.Goodness.{IsGood, IsInOrder, OwnsOnce, size_needles_in}
use Rattle.face_data.specs.Segments.{Changed, segments_on, entry_needles_of, names_through}
use Rattle.face_data.specs.Summaries.{AskedCondition, Summary, fault_raised}
use Rattle.face_data.specs.Through.{change_through, changes_through}
use Rattle.face_data.proofs.Goodness.{names_read}
use Rattle.face_data.proofs.Items.{all_entries, segments_found, entries_distinct, in_entries, in_needles, length-segs, length_within, needle_in, needles_distinct, needles_changed}
use Rattle.face_data.proofs.ChangeLists.{order_merged, order_through}
use Rattle.face_data.proofs.KeptChecks.{against_asks}
use Rattle.face_data.proofs.Owners.{OwnsOnce-both, from_through, entries_on-both, only_itself}
use Rattle.std.proofs.lemmas.List.{length-map}
use Rattle.summary_compose.specs.Changes.{changes_in, segs_in}
use Rattle.summary_compose.specs.Composing.{IsNoGreater}
use Rattle.summary_compose.specs.Rooms.{CanBeMade, capped_room, room_of_face, room_of_both_faces, widest_of}
use Rattle.summary_compose.specs.declared.room.Room.{Room}
use Rattle.summary_compose.proofs.Checks.{named_size}
use Rattle.summary_compose.proofs.Parts.{packed_size}
use Rattle.summary_compose.specs.Known.{AreGoodFaces, checks_in, names_count, names_read_count}
use Rattle.summary_compose.proofs.Rooms.{all_entries_flat, capped_is, capped_is_min, finds_room, from_both, in_all, names_read_bound, merged_length, merged_segs, named_or_none, own_none}
use Rattle.summary_compose.proofs.Widths.{names_read_wide, widest_all, widest_merged, widest_some}
use Rattle.face_data.proofs.KnownAnswers.{AskFits-distinct}

-- how many conditions are kept, and how many needles they name
pub record ReadSizes (ch : List Changed) (kept rest checks : List AskedCondition) : Type 0 where
  pub few : length checks ≤ length kept + length rest
  pub names : names_count checks ≤ names_count kept + names_read_count ch rest

-- the conditions that are kept are no more, and name no more needles
pub reads_sizes : (e : Effect) (lasts : List Last) (a : List Changed) (lines : ℕ) (kept rest : List AskedCondition) → ReadSizes a kept rest (reads e lasts a lines kept rest).checks
unfolding reads
reads_sizes e lasts a lines kept [] = record { few = omega arith; names = omega arith }
reads_sizes e lasts a lines kept (d ∷ ds) = go (against_kept kept (read_answer e lasts a d.ask)) refl (λ ks. reads_sizes e lasts a lines ks ds)
  where
    more : names_read_count a (d ∷ ds) ≡ length (names_through a (size_needles_in d.ask)) + names_read_count a ds
    more = sum_by-cons (λ (c : AskedCondition). length (names_through a (size_needles_in c.ask))) d ds

    go : (r : ConditionAnswer) → against_kept kept (read_answer e lasts a d.ask) ≡ r → ((ks : List AskedCondition) → ReadSizes a ks ds (reads e lasts a lines ks ds).checks) → ReadSizes a kept (d ∷ ds) (next r kept (fault_raised lines d.fault) (λ k. reads e lasts a lines k ds)).checks
    go yes_it_does is more_of = let ih = more_of kept in record { few = omega (arith, ih.few); names = omega (arith, ih.names, more) }
    go no_it_does_not is more_of = record { few = omega arith; names = omega (arith, more) }
    go (asks w) is more_of =
        let c : AskedCondition = record { fault = fault_raised lines d.fault; ask = w } in
        let ih = more_of (kept ++ c ∷ []) in
        let both = against_asks kept (read_answer e lasts a d.ask) w is in
        let names = ap length (names_read e lasts a d.ask w both.0) in
        record {
          few = omega (arith, ih.few, length-append kept (c ∷ []));
          names = omega (arith, ih.names, more, names, sum_by_push (λ (x : AskedCondition). length (size_needles_in x.ask)) kept c);
        }

-- The merged changes have at most the entries of both.
pub merged_entries : (a b : List Changed) (lines : ℕ) → IsInOrder a → IsInOrder b → OwnsOnce a → OwnsOnce b →
    length (all_entries (changes_merged a (changes_through a lines b))) ≤ length (all_entries a) + length (all_entries b)
merged_entries a b lines order_a order_b oa ob =
    let m = changes_merged a (changes_through a lines b) in
    let order = order_merged a (changes_through a lines b) order_a (order_through a lines b order_b) in
    omega (
      arith,
      length-append (all_entries a) (all_entries b),
      length_within (all_entries m) (all_entries a ++ all_entries b)
          (entries_distinct m m order (OwnsOnce-both a b lines order_b oa ob) (needles_distinct m order) (λ c h. h))
          (λ n h.
          let c = in_entries m n h in
          let in_held = subst (λ xs. Contains xs n) (entries_on-both a b lines c.0.0 order_b) (subst (λ segs. Contains (entry_needles_of segs) n) (sym (segments_found m c.0 order c.1)) c.2) in
          let v = from_through a _ n in_held in
          whence n c.0.0 v.0 (needle_in m c.0 c.1) v.1 v.2),
    )
  where
    found : (ch : List Changed) (x n : Needle) → IsInOrder ch → Contains (needles_changed ch) x → Contains (entry_needles_of (segments_on ch x)) n → Contains (all_entries ch) n
    found ch x n order there h =
        let c = in_needles ch x there in
        let same : segments_on ch x ≡ c.0.1 = ap (segments_on ch) (sym c.2) ∙ segments_found ch c.0 order c.1 in
        in_all ch c.0 n c.1 (subst (λ segs. Contains (entry_needles_of segs) n) same h)

    itself : (ch : List Changed) (x n : Needle) → segments_on ch x ≡ segments_on [] x → Contains (entry_needles_of (segments_on ch x)) n → x ≡ n
    itself ch x n own h = only_itself x n (subst (λ segs. Contains (entry_needles_of segs) n) own h)

    whence : (n k x : Needle) → Contains (needles_changed (changes_merged a (changes_through a lines b))) k → Contains (entry_needles_of (segments_on b k)) x → Contains (entry_needles_of (segments_on a x)) n →
        Contains (all_entries a ++ all_entries b) n
    whence n k x there in_b in_a = elim (named_or_none a x) [
      | inl named ↦ Contains-append_left (all_entries a) (all_entries b) n (found a x n order_a named in_a)
      | inr none ↦ (let same = itself a x n (own_none a x none) in_a in
          elim (named_or_none b k) [
            | inl named ↦ Contains-append_right (all_entries a) (all_entries b) n (subst (Contains (all_entries b)) same (found b k x order_b named in_b))
            | inr own ↦ (let here = itself b k x (own_none b k own) in_b in
                elim (from_both a b lines k there) [
                  | inl named_a ↦ Contains-append_left (all_entries a) (all_entries b) n (found a x n order_a (subst (Contains (needles_changed a)) here named_a) in_a)
                  | inr named_b ↦ Contains-append_right (all_entries a) (all_entries b) n (subst (Contains (all_entries b)) same (found b k x order_b named_b in_b))
                ])
          ])
    ]

-- the lists of a summary are no longer than these numbers
pub record Sizes (summary : Summary) (checks names changes segs entries widest lasts : ℕ) : Type 0 where
  pub few_checks : length summary.checks ≤ checks
  pub few_names : names_count summary.checks ≤ names
  pub few_changes : length summary.changes ≤ changes
  pub few_segs : segs_in summary.changes ≤ segs
  pub few_entries : length (all_entries summary.changes) ≤ entries
  pub few_held : widest_of summary.changes ≤ widest
  pub few_lasts : length summary.lasts ≤ lasts

-- no longer than those of both summaries together
abbrev pub SizesOfBoth : Summary → Summary → Summary → Type 0
SizesOfBoth s a b =
    Sizes s (length a.checks + length b.checks) (names_count a.checks + names_read_count a.changes b.checks) (length a.changes + length b.changes)
    (segs_in a.changes + segs_in b.changes) (length (all_entries a.changes) + length (all_entries b.changes)) (widest_of a.changes * widest_of b.changes) (length a.lasts + length b.lasts)

-- where nothing is changed each needle holds its own entry
widest_of_both : (a b : Summary) → 1 ≤ widest_of a.changes * widest_of b.changes
widest_of_both a b =
    let both : 1 * 1 ≤ widest_of a.changes * widest_of b.changes = mul-le-mul (widest_some a.changes) (widest_some b.changes) in
    omega (arith, both)

merged_sizes : (a b : Summary) (e : Ending) → IsInOrder a.changes → IsInOrder b.changes → OwnsOnce a.changes → OwnsOnce b.changes → (checks : List AskedCondition) → ReadSizes a.changes a.checks b.checks checks →
    SizesOfBoth (record { lines = a.lines + b.lines; made = made_with e (a.made + b.made); checks = checks; changes = changes_with e (changes_merged a.changes (changes_through a.changes a.lines b.changes)); lasts = lasts_with e (lasts_of_both a.lasts b.lasts); ending = e }) a b
merged_sizes a b (Broken fault) order_a order_b oa ob checks h =
    record { few_checks = h.few; few_names = h.names; few_changes = omega arith; few_segs = omega arith; few_entries = omega arith; few_held = widest_of_both a b; few_lasts = omega arith }
merged_sizes a b (Through effect) order_a order_b oa ob checks h = record {
  few_checks = h.few;
  few_names = h.names;
  few_changes = omega (arith, merged_length a.changes (changes_through a.changes a.lines b.changes), length-map b.changes (change_through a.changes a.lines));
  few_segs = merged_segs a.changes b.changes a.lines order_a order_b ob;
  few_entries = merged_entries a.changes b.changes a.lines order_a order_b oa ob;
  few_held = widest_merged a.changes b.changes a.lines order_a order_b;
  few_lasts = length_both a.lasts b.lasts;
}

closed_sizes : (a b : Summary) (e : Effect) (stop : Option Fault) → IsInOrder a.changes → IsInOrder b.changes → OwnsOnce a.changes → OwnsOnce b.changes → (checks : List AskedCondition) → ReadSizes a.changes a.checks b.checks checks →
    SizesOfBoth (closed_at stop checks e a b) a b
closed_sizes a b e (Some fault) order_a order_b oa ob checks h =
    record { few_checks = h.few; few_names = h.names; few_changes = omega arith; few_segs = omega arith; few_entries = omega arith; few_held = widest_of_both a b; few_lasts = omega arith }
closed_sizes a b e None order_a order_b oa ob checks h =
    let m = merged_sizes a b b.ending order_a order_b oa ob checks h in
    record { few_checks = m.few_checks; few_names = m.few_names; few_changes = m.few_changes; few_segs = m.few_segs; few_entries = m.few_entries; few_held = m.few_held; few_lasts = m.few_lasts }

composed_sizes_at : (a b : Summary) (e : Ending) → IsInOrder a.changes → IsInOrder b.changes → OwnsOnce a.changes → OwnsOnce b.changes → SizesOfBoth (composed_at e a b) a b
composed_sizes_at a b (Broken fault) order_a order_b oa ob =
    record { few_checks = omega arith; few_names = omega arith; few_changes = omega arith; few_segs = omega arith; few_entries = omega arith; few_held = widest_of_both a b; few_lasts = omega arith }
composed_sizes_at a b (Through e) order_a order_b oa ob =
    closed_sizes a b e (reads e a.lasts a.changes a.lines a.checks b.checks).stop order_a order_b oa ob (reads e a.lasts a.changes a.lines a.checks b.checks).checks (reads_sizes e a.lasts a.changes a.lines a.checks b.checks)

-- How long the lists of two good summaries' composition can be.
pub composed_sizes : (carriers limit : ℕ) (first second : List Needle) (a b : Summary) → IsGood carriers limit first a → IsGood carriers limit second b → SizesOfBoth (composed a b) a b
composed_sizes carriers limit first second a b ga gb = composed_sizes_at a b a.ending ga.fair.in_order gb.fair.in_order ga.fair.owns gb.fair.owns

fits_if : (n m : ℕ) (b : Bool) → n ≤ m → n ≤ 2 ^ 62 → n ≤ (if b then 2 ^ 62 + 1 else m)
fits_if n m true h small = omega (arith, small)
fits_if n m false h small = h

-- a number of items that there can be fits where the exact bound is capped
fits : (n m : ℕ) → n ≤ m → n ≤ 2 ^ 62 → n ≤ capped_room m
fits n m h small = fits_if n m (nat_lt (2 ^ 62) m) h small

-- so do the needles of conditions, within both of their bounds
names_fit : (n own_a each own_b more : ℕ) → n ≤ own_a + each → n ≤ own_a + (own_b + more) → n ≤ 2 ^ 62 → n ≤ capped_room (own_a + min (capped_room each) (capped_room (own_b + capped_room more)))
names_fit n own_a each own_b more h k small =
    omega (arith, h, k, small, capped_is_min each, capped_is_min more, capped_is_min (own_b + capped_room more), capped_is_min (own_a + min (capped_room each) (capped_room (own_b + capped_room more))))

-- and the entries of one needle
widest_fits : (n product sum : ℕ) → n ≤ product → n ≤ max 1 sum → n ≤ 2 ^ 62 → n ≤ min (capped_room product) (max 1 (capped_room sum))
widest_fits n product sum h k small = omega (arith, h, k, small, capped_is_min product, capped_is_min sum)

entries_in_packed : (face : FaceView) → IsPacked face → length (all_entries (changes_in face)) ≡ length (entry_needles_of face.segs.now)
entries_in_packed face p = ap length (sym (all_entries_flat face.segs.now face.changes.now) ∙ ap entry_needles_of p.segs)

-- A face that is the composition of two has the room for both by their lists, where there can be so much room at all.
pub composed_room : (a b f : FaceView) → AreGoodFaces a b → IsPacked a → IsPacked b → IsPacked f → summary_of f ≡ composed (summary_of a) (summary_of b) → CanBeMade (room_of_face f) →
    IsNoGreater (room_of_face f) (room_of_both_faces a b)
composed_room a b f g pa pb pf is made =
    let s = subst (λ (x : Summary). SizesOfBoth x (summary_of a) (summary_of b)) (sym is) (composed_sizes g.carriers g.limit g.first_known g.second_known (summary_of a) (summary_of b) g.first g.second) in
    let na = named_size a.names.now a.checks.now (record { fit = pa.checks_fit; whole = pa.names }) in
    let nb = named_size b.names.now b.checks.now (record { fit = pb.checks_fit; whole = pb.names }) in
    let nf = named_size f.names.now f.checks.now (record { fit = pf.checks_fit; whole = pf.names }) in
    let sa = packed_size a.segs.now a.changes.now (record { fit = pa.changes_fit; whole = pa.segs }) in
    let sb = packed_size b.segs.now b.changes.now (record { fit = pb.changes_fit; whole = pb.segs }) in
    let sf = packed_size f.segs.now f.changes.now (record { fit = pf.changes_fit; whole = pf.segs }) in
    let ca = length-map a.checks.now (asked_of_check a.names.now) in
    let cb = length-map b.checks.now (asked_of_check b.names.now) in
    let cf = length-map f.checks.now (asked_of_check f.names.now) in
    let ha = length-map a.changes.now (changed_of a.segs.now) in
    let hb = length-map b.changes.now (changed_of b.segs.now) in
    let hf = length-map f.changes.now (changed_of f.segs.now) in
    let ea = entries_in_packed a pa in
    let eb = entries_in_packed b pb in
    let ef = entries_in_packed f pf in
    let asked : length (checks_in b) * length (all_entries (changes_in a)) ≡ length b.checks.now * length (entry_needles_of a.segs.now) = ap₂ (λ (x y : ℕ). x * y) cb ea in
    let read = names_read_bound (changes_in a) (checks_in b) g.first.fair.owns (λ c there. AskFits-distinct g.carriers g.limit g.second_known c.ask (g.second.fair.asks_fit c there)) in
    let wide : names_read_count (changes_in a) (checks_in b) ≤ length b.names.now * widest_of (changes_in a)
    = subst (λ n. names_read_count (changes_in a) (checks_in b) ≤ n * widest_of (changes_in a)) (sym nb) (names_read_wide (changes_in a) (checks_in b)) in
    let held = widest_all (changes_in f) in
    let few = length-segs f.segs.now in
    record {
      checks = fits (length f.checks.now) (length a.checks.now + length b.checks.now) (omega (arith, s.few_checks, ca, cb, cf)) made.checks;
      names = names_fit (length f.names.now) (length a.names.now) (length b.names.now * widest_of (changes_in a)) (length b.names.now) (length b.checks.now * length (entry_needles_of a.segs.now))
          (omega (arith, s.few_names, na, nf, wide)) (omega (arith, s.few_names, na, nb, nf, read, asked)) made.names;
      changes = fits (length f.changes.now) (length a.changes.now + length b.changes.now) (omega (arith, s.few_changes, ha, hb, hf)) made.changes;
      segs = fits (length f.segs.now) (length a.segs.now + length b.segs.now) (omega (arith, s.few_segs, sa, sb, sf)) made.segs;
      entries = fits (length (entry_needles_of f.segs.now)) (length (entry_needles_of a.segs.now) + length (entry_needles_of b.segs.now)) (omega (arith, s.few_entries, ea, eb, ef)) (omega (arith, few, made.segs));
      widest = widest_fits (widest_of (changes_in f)) (widest_of (changes_in a) * widest_of (changes_in b)) (length (entry_needles_of a.segs.now) + length (entry_needles_of b.segs.now))
          s.few_held (omega (arith, held, s.few_entries, ea, eb)) (omega (arith, held, ef, few, made.segs));
      lasts = fits (length f.lasts.now) (length a.lasts.now + length b.lasts.now) (omega (arith, s.few_lasts)) made.lasts;
    }

-- The face has the room for both where there is so much room at all.
pub composed_fits : (a b f : FaceView) (room : Room) → AreGoodFaces a b → IsPacked a → IsPacked b → IsPacked f → summary_of f ≡ composed (summary_of a) (summary_of b) → CanBeMade room →
    IsNoGreater (room_of_both_faces a b) room → IsNoGreater (room_of_face f) (room_of_both_faces a b)
composed_fits a b f room g pa pb pf is made h =
    let s = subst (λ (x : Summary). SizesOfBoth x (summary_of a) (summary_of b)) (sym is) (composed_sizes g.carriers g.limit g.first_known g.second_known (summary_of a) (summary_of b) g.first g.second) in
    let found = finds_room a b g pa pb room made h in
    let nf = named_size f.names.now f.checks.now (record { fit = pf.checks_fit; whole = pf.names }) in
    let sa = packed_size a.segs.now a.changes.now (record { fit = pa.changes_fit; whole = pa.segs }) in
    let sb = packed_size b.segs.now b.changes.now (record { fit = pb.changes_fit; whole = pb.segs }) in
    let sf = packed_size f.segs.now f.changes.now (record { fit = pf.changes_fit; whole = pf.segs }) in
    let ca = length-map a.checks.now (asked_of_check a.names.now) in
    let cb = length-map b.checks.now (asked_of_check b.names.now) in
    let cf = length-map f.checks.now (asked_of_check f.names.now) in
    let ha = length-map a.changes.now (changed_of a.segs.now) in
    let hb = length-map b.changes.now (changed_of b.segs.now) in
    let hf = length-map f.changes.now (changed_of f.segs.now) in
    composed_room a b f g pa pb pf is (record {
      checks = omega (arith, s.few_checks, ca, cb, cf, found.checks, made.checks);
      names = omega (arith, s.few_names, nf, found.names, made.names);
      changes = omega (arith, s.few_changes, ha, hb, hf, capped_is (length a.changes.now + length b.changes.now) room.changes h.changes made.changes, made.changes);
      segs = omega (arith, s.few_segs, sa, sb, sf, capped_is (length a.segs.now + length b.segs.now) room.segs h.segs made.segs, made.segs);
      lasts = omega (arith, s.few_lasts, capped_is (length a.lasts.now + length b.lasts.now) room.lasts h.lasts made.lasts, made.lasts);
    })
