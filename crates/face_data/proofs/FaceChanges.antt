-- A needle's change among those of a face.
use Rattle.std.proofs.Common.{◌≡◌, ℕ, ◌+◌, ◌≤◌, ◌<◌, List, [], ◌∷◌, length, map, take, drop, get_or, unwrap_or, arith, sym, ap, subst, ◌∙◌}
use Rattle.std.proofs.lemmas.List.{get_or-map, length-map}
use Rattle.std.specs.declared.cmp.Ordering.TheVariants.{Less, Equal, Greater}
use Rattle.knit_base.specs.declared.needle.Needle.{Needle}
use Rattle.knit_base.specs.Needle.{needle_cmp}
use Rattle.knit_base.proofs.Needles.{needle_cmp-equal}
use Rattle.face_data.specs.declared.face.Change.{Change}
use Rattle.face_data.specs.declared.face.Seg.{Seg}
use Rattle.face_data.specs.declared.face.Seg.TheVariants.{Entry}
use Rattle.face_data.specs.Goodness.{IsInOrder}
use Rattle.face_data.specs.Places.{AllBefore, AllBehind, ChangeStandsAt}
use Rattle.face_data.specs.Segments.{Changed, segments_on}
use Rattle.face_data.specs.View.{changed_of}
use Rattle.face_data.proofs.Places.{at_gap, at_place, greater_at, less_at}

-- what stands at a place
shown_at : (segs : List Seg) (changes : List Change) (i : ℕ) (c : Change) (d : Changed) → i < length changes → get_or (map (changed_of segs) changes) i d ≡ changed_of segs (get_or changes i c)
shown_at segs changes i c d within = get_or-map (changed_of segs) changes i c d within

within_shown : (segs : List Seg) (changes : List Change) (i : ℕ) → i < length changes → i < length (map (changed_of segs) changes)
within_shown segs changes i within = omega (arith, within, length-map changes (changed_of segs))

-- a place whose needle is below
pub below_at : (segs : List Seg) (changes : List Change) (i : ℕ) (c : Change) (n : Needle) → IsInOrder (map (changed_of segs) changes) → i < length changes → needle_cmp (get_or changes i c).needle n ≡ Less →
    AllBefore n (take (i + 1) (map (changed_of segs) changes))
below_at segs changes i c n order within less =
    less_at (map (changed_of segs) changes) i (changed_of segs c) n order (within_shown segs changes i within) (ap (λ (x : Changed). needle_cmp x.0 n) (shown_at segs changes i c (changed_of segs c) within) ∙ less)

-- a place whose needle is above
pub above_at : (segs : List Seg) (changes : List Change) (i : ℕ) (c : Change) (n : Needle) → IsInOrder (map (changed_of segs) changes) → i < length changes → needle_cmp (get_or changes i c).needle n ≡ Greater →
    AllBehind n (drop i (map (changed_of segs) changes))
above_at segs changes i c n order within greater =
    greater_at (map (changed_of segs) changes) i (changed_of segs c) n order (within_shown segs changes i within) (ap (λ (x : Changed). needle_cmp x.0 n) (shown_at segs changes i c (changed_of segs c) within) ∙ greater)

-- a place at which the needle stands
pub held_at : (segs : List Seg) (changes : List Change) (i : ℕ) (c : Change) (n : Needle) → IsInOrder (map (changed_of segs) changes) → i < length changes → needle_cmp (get_or changes i c).needle n ≡ Equal →
    (changed_of segs (get_or changes i c)).1 ≡ segments_on (map (changed_of segs) changes) n
held_at segs changes i c n order within equal =
    let stands : ChangeStandsAt (map (changed_of segs) changes) n i = record {
      within = within_shown segs changes i within;
      is = λ d. ap (λ (x : Changed). x.0) (shown_at segs changes i c d within) ∙ needle_cmp-equal (get_or changes i c).needle n equal;
    } in
    ap (λ (x : Changed). x.1) (sym (shown_at segs changes i c (changed_of segs c) within))
    ∙ ap (λ found. unwrap_or found (Entry n ∷ [])) (at_place (map (changed_of segs) changes) n i (changed_of segs c) order stands)

-- a needle that stands nowhere holds its own entry
pub own_at : (changes : List Changed) (n : Needle) (low high : ℕ) → low ≤ high → high ≤ low → low ≤ length changes → AllBefore n (take low changes) → AllBehind n (drop high changes) → segments_on changes n ≡ Entry n ∷ []
own_at changes n low high ordered met within before behind =
    let same : high ≡ low = omega arith in
    ap (λ found. unwrap_or found (Entry n ∷ []))
    (sym (at_gap changes n low (record { within = within; before = before; behind = subst (λ k. AllBehind n (drop k changes)) same behind })))
