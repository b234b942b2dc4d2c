-- What a change of one place is to a table of faces.
use Rattle.std.proofs.Common.{◌≡◌, ℕ, zero, suc, ◌+◌, ◌<◌, ◌≤◌, List, [], ◌∷◌, ◌++◌, map, length, Option, Some, None, refl, sym, ◌∙◌, ap, subst, arith, inl, inr}
use Rattle.std.specs.Prelude.{◌==◌, cond, slice_set, slice_index_or}
use Rattle.std.specs.List.{sum_by}
use Rattle.std.specs.Option.{option_map}
use Rattle.std.proofs.lemmas.Bool.{cases_lt}
use Rattle.std.proofs.lemmas.Bool.Decides.{eqb_tells}
use Rattle.std.proofs.lemmas.List.{get_or_past, get_or_default, get_or-set_same, get_or-set_other}
use Rattle.std.proofs.lemmas.List.Sums.{sum_by-append, sum_by-cons, sum_by-set}
use Rattle.std.proofs.Math.ListN.{get_or-map}
use Rattle.face_data.specs.View.{asked_of_check, changed_of, summary_of, AreNamed, ArePacked, IsPacked}
use Rattle.face_data.specs.declared.face.FaceView.{FaceView}
use Rattle.span_pool.specs.Pool.{OneFewer, OneMore, PoolView, out_of, spare_of}
use Rattle.summary_compose.specs.declared.room.Room.{Room}
use Rattle.summary_tree.specs.declared.faces.Entry.{Entry}
use Rattle.summary_tree.specs.declared.faces.Pools.{Pools}
use Rattle.summary_tree.specs.declared.faces.FaceList.{FaceList}
use Rattle.summary_tree.specs.declared.faces.FaceList.TheVariants.{Checks, Names, Changes, Segs, Lasts}
use Rattle.summary_tree.specs.Faces.{IsPackedEntry, IsEntryTable, KeepsSpares, TookSpans, class_in, length_in, pool_in, spans_at, spare_in, spares_of, summary_in, table_view}
use Rattle.summary_tree.specs.Lists.{Exchanged, TookSpan}
use Rattle.summary_tree.specs.Rooms.{kept_room}
use Rattle.summary_tree.specs.declared.faces.Head.{Head}
use Rattle.summary_tree.proofs.SpanCounts.{one_fewer_counted, one_more_counted}

-- the summary at a place
pub seen_at : (entries : List (Option Entry)) (at : ℕ) → slice_index_or (map (option_map summary_in) entries) at None ≡ option_map summary_in (slice_index_or entries at None)
seen_at entries at = get_or-map (option_map summary_in) entries at None

-- an entry with the lists of a face is packed as this is
pub packed_as : (e : Entry) (face : FaceView) → e.checks.items ≡ face.checks.now → e.names.items ≡ face.names.now → e.changes.items ≡ face.changes.now → e.segs.items ≡ face.segs.now
    → e.lasts.items ≡ face.lasts.now → e.head ≡ record { lines = face.lines; made = face.made; room = kept_room (summary_of face); ending = face.ending } → IsPacked face → IsPackedEntry e
packed_as e face checks names changes segs lasts head p = record {
  named = subst (λ ns. AreNamed ns e.checks.items) (sym names) (subst (AreNamed face.names.now) (sym checks) (record { fit = p.checks_fit; whole = p.names }));
  packed = subst (λ ss. ArePacked ss e.changes.items) (sym segs) (subst (ArePacked face.segs.now) (sym changes) (record { fit = p.changes_fit; whole = p.segs }));
  noted = ap (λ (h : Head). h.room) head ∙ ap kept_room (sym same);
}
  where
    same : summary_in e ≡ summary_of face
    same = λ i. record {
      lines = (head i).lines;
      made = (head i).made;
      checks = map (asked_of_check (names i)) (checks i);
      changes = map (changed_of (segs i)) (changes i);
      lasts = lasts i;
      ending = (head i).ending;
    }

-- the spare spans of a class
pub spare_is : (pool : PoolView) (class : ℕ) → slice_index_or (spares_of pool) class 0 ≡ spare_of pool class
unfolding spare_of
spare_is [] zero = refl
spare_is [] (suc class) = refl
spare_is (shelf ∷ pool) zero = refl
spare_is (shelf ∷ pool) (suc class) = spare_is pool class

pub spare_seen : (entries : List (Option Entry)) (pools : Pools) (list : FaceList) (class : ℕ) → spare_in (table_view entries pools) list class ≡ spare_of (pool_in list pools) class
spare_seen entries pools Checks class = spare_is pools.checks class
spare_seen entries pools Names class = spare_is pools.names class
spare_seen entries pools Changes class = spare_is pools.changes class
spare_seen entries pools Segs class = spare_is pools.segs class
spare_seen entries pools Lasts class = spare_is pools.lasts class

-- no pool has fewer spare spans of a class
pub keeps_spares : (entries others : List (Option Entry)) (old new : Pools) → ((list : FaceList) (class : ℕ) → spare_of (pool_in list old) class ≤ spare_of (pool_in list new) class)
    → KeepsSpares (table_view entries old) (table_view others new)
keeps_spares entries others old new keeps = λ list class. omega (arith, keeps list class, spare_seen entries old list class, spare_seen others new list class)

-- each pool gave at most one span, of the class of its list
pub took_spans : (entries others : List (Option Entry)) (old new : Pools) (room : Room)
    → ((list : FaceList) → TookSpan (spare_of (pool_in list old)) (spare_of (pool_in list new)) (length_in list room))
    → TookSpans (table_view entries old) (table_view others new) room
took_spans entries others old new room took = record {
  of_class = λ list class is. omega (arith, (took list).of_class class is, spare_seen entries old list class, spare_seen others new list class);
  of_others = λ list class other is differ. omega (arith, (took list).of_others class other is differ, spare_seen entries old list other, spare_seen others new list other);
}

-- each span of the class is counted once
one_here : (class : ℕ) → ◌≡◌ {A = ℕ} (cond (class == class) 1 0) 1
one_here class = elim (eqb_tells class class) [
  | inl w ↦ ap {B = ℕ} (λ t. cond t 1 0) w.0
  | inr w ↦ absurd (w.1 refl)
]

inside : (entries : List (Option Entry)) (at : ℕ) (e : Entry) → slice_index_or entries at None ≡ Some e → at < length entries
inside entries at e is = elim (cases_lt at (length entries)) [
  | inl w ↦ w
  | inr w ↦ let no : None ≡ Some e = sym (get_or_past entries at None w) ∙ is in cc (no)
]

-- the spans of an entry are out
pub are_out : (entries : List (Option Entry)) (pools : Pools) (at : ℕ) (e : Entry) → IsEntryTable entries pools → slice_index_or entries at None ≡ Some e → (list : FaceList) → 1 ≤ out_of (pool_in list pools) (class_in list e)
are_out entries pools at e table is list =
    let class = class_in list e in
    let here : spans_at list class (slice_index_or entries at None) ≡ 1 = ap (spans_at list class) is ∙ one_here class in
    omega (arith, here, sum_by-set (spans_at list class) entries at None None (inside entries at e is), table.out list class)

-- a place is written, and the spans that are out change by those that are there
pub written : (entries : List (Option Entry)) (old new : Pools) (at : ℕ) (o : Option Entry) → IsEntryTable entries old → at < length entries
    → ((e : Entry) → o ≡ Some e → IsPackedEntry e)
    → ((list : FaceList) (class : ℕ) → out_of (pool_in list new) class + spans_at list class (slice_index_or entries at None) ≡ out_of (pool_in list old) class + spans_at list class o)
    → IsEntryTable (slice_set entries at o) new
written entries old new at o table within packed out = record {
  packed = λ k e is. elim (eqb_tells k at) [
    | inl w ↦ packed e (sym (get_or-set_same entries at o None within) ∙ (ap (λ n. slice_index_or (slice_set entries at o) n None) (sym w.1) ∙ is))
    | inr w ↦ table.packed k e (sym (get_or-set_other entries at k o None w.1) ∙ is)
  ];
  out = λ list class. omega (arith, sum_by-set (spans_at list class) entries at o None within, table.out list class, out list class);
}

-- what was read at a place is what is there
pub read_at : {A : Type 0} (xs : List (Option A)) (at : ℕ) (o there : Option A) → o ≡ slice_index_or xs at o → at < length xs → o ≡ there → slice_index_or xs at None ≡ there
read_at xs at o there e within is = sym (e ∙ get_or_default xs at o None within) ∙ is

only : {A : Type 0} (P : A → Type 0) (a b : A) → Some a ≡ Some b → P a → P b
only P a b e p = let is : a ≡ b = cc (e) in subst P is p

-- the lists of another face are put into the spans of an entry
pub table_refilled : (entries : List (Option Entry)) (old new : Pools) (at : ℕ) (before after : Entry) → IsEntryTable entries old → at < length entries → slice_index_or entries at None ≡ Some before → IsPackedEntry after
    → ((list : FaceList) → Exchanged (out_of (pool_in list old)) (out_of (pool_in list new)) (class_in list after) (class_in list before)) → IsEntryTable (slice_set entries at (Some after)) new
table_refilled entries old new at before after table within is packed out =
    written entries old new at (Some after) table within (λ e same. only IsPackedEntry after e same packed)
    (λ list class. ap (λ o. out_of (pool_in list new) class + spans_at list class o) is ∙ out list class)

-- an entry is put at a place where none is
pub table_filled : (entries : List (Option Entry)) (old new : Pools) (at : ℕ) (after : Entry) → IsEntryTable entries old → at < length entries → slice_index_or entries at None ≡ None → IsPackedEntry after
    → ((list : FaceList) → OneMore (out_of (pool_in list old)) (out_of (pool_in list new)) (class_in list after)) → IsEntryTable (slice_set entries at (Some after)) new
table_filled entries old new at after table within is packed out =
    written entries old new at (Some after) table within (λ e same. only IsPackedEntry after e same packed)
    (λ list class. ap (λ o. out_of (pool_in list new) class + spans_at list class o) is ∙ omega (arith, one_more_counted (out_of (pool_in list old)) (out_of (pool_in list new)) (class_in list after) class (out list)))

-- an entry's spans are given back
pub table_emptied : (entries : List (Option Entry)) (old new : Pools) (at : ℕ) (before : Entry) → IsEntryTable entries old → at < length entries → slice_index_or entries at None ≡ Some before
    → ((list : FaceList) → OneFewer (out_of (pool_in list old)) (out_of (pool_in list new)) (class_in list before)) → IsEntryTable (slice_set entries at None) new
table_emptied entries old new at before table within is out =
    written entries old new at None table within (λ e same. absurd (no_some e same))
    (λ list class. ap (λ o. out_of (pool_in list new) class + spans_at list class o) is ∙ omega (arith, one_fewer_counted (out_of (pool_in list old)) (out_of (pool_in list new)) (class_in list before) class (out list)))
  where
    no_some : (e : Entry) → None ≡ Some e → ⊥
    no_some e same = cc (same)

-- one more place without an entry
pub same_pushed : (entries : List (Option Entry)) (at : ℕ) → slice_index_or (entries ++ None ∷ []) at None ≡ slice_index_or entries at None
same_pushed [] zero = refl
same_pushed [] (suc at) = refl
same_pushed (e ∷ entries) zero = refl
same_pushed (e ∷ entries) (suc at) = same_pushed entries at

pub spans_pushed : (list : FaceList) (class : ℕ) (entries : List (Option Entry)) → sum_by (spans_at list class) (entries ++ None ∷ []) ≡ sum_by (spans_at list class) entries
spans_pushed list class entries = omega (arith, sum_by-append (spans_at list class) entries (None ∷ []), sum_by-cons (spans_at list class) None [])

-- other pools that have as many out, and other entries that take as many
pub same_table : (entries others : List (Option Entry)) (old new : Pools) → IsEntryTable entries old → ((at : ℕ) → slice_index_or others at None ≡ slice_index_or entries at None)
    → ((list : FaceList) (class : ℕ) → sum_by (spans_at list class) others ≡ sum_by (spans_at list class) entries)
    → ((list : FaceList) (class : ℕ) → out_of (pool_in list new) class ≡ out_of (pool_in list old) class) → IsEntryTable others new
same_table entries others old new table same spans out = record {
  packed = λ at e is. table.packed at e (sym (same at) ∙ is);
  out = λ list class. omega (arith, table.out list class, spans list class, out list class);
}
