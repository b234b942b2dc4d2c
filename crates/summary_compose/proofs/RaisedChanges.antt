-- Changes of a second face that leave new loops alone: laid as they are, but for the lines of these loops.
use Rattle.std.proofs.Common.{◌≡◌, ℕ, suc, ◌+◌, ◌-◌, ◌<◌, ◌≤◌, List, [], ◌∷◌, ◌++◌, length, take, drop, map, All, refl, sym, ap, ◌∙◌, subst, arith, length-append, append_assoc, get_or, set}
use Rattle.std.specs.List.{flat_map}
use Rattle.std.proofs.Math.Path.{ap₂}
use Rattle.std.proofs.Math.Seq.{set-append_seam}
use Rattle.std.proofs.lemmas.Grind.{flat_map-append}
use Rattle.std.proofs.lemmas.List.{append-nil, drop-map, drop_all, drop_more, length-map, length-take-le, map-append, nil_from_length, take-append-drop, take-map, take_all, take_more}
use Rattle.std.proofs.lemmas.List.Elements.{All-append, All-head, All-tail}
use Rattle.face_data.specs.declared.face.Change.{Change}
use Rattle.face_data.specs.declared.face.Part.{Part}
use Rattle.face_data.specs.declared.face.Seg.{Seg}
use Rattle.face_data.specs.declared.face.Seg.TheVariants.{Entry, New}
use Rattle.face_data.specs.Conditions.{part_of}
use Rattle.face_data.specs.Segments.{Changed, OffsetFits, entry_needles_in, entry_needles_of}
use Rattle.face_data.specs.Through.{changes_through, through}
use Rattle.face_data.specs.View.{changed_of, ArePacked}
use Rattle.summary_compose.specs.Changes.{HaveOffsets, raised_seg}

nil_left : {X : Type 0} (xs ys : List X) → xs ++ ys ≡ [] → xs ≡ []
nil_left xs ys e =
    let size : length (xs ++ ys) ≡ 0 = ap length e in
    nil_from_length xs (omega (arith, size, length-append xs ys))

nil_right : {X : Type 0} (xs ys : List X) → xs ++ ys ≡ [] → ys ≡ []
nil_right xs ys e =
    let size : length (xs ++ ys) ≡ 0 = ap length e in
    nil_from_length ys (omega (arith, size, length-append xs ys))

entries_split : (n : ℕ) (segs : List Seg) → entry_needles_of segs ≡ [] → entry_needles_of (take n segs) ++ entry_needles_of (drop n segs) ≡ []
entries_split n segs none = sym (flat_map-append entry_needles_in (take n segs) (drop n segs)) ∙ ap entry_needles_of (take-append-drop n segs) ∙ none

entries_part : (segs : List Seg) (p : Part) → entry_needles_of segs ≡ [] → entry_needles_of (part_of segs p) ≡ []
entries_part segs p none =
    let size = (p.start + p.len) - p.start in
    let behind = nil_right (entry_needles_of (take p.start segs)) (entry_needles_of (drop p.start segs)) (entries_split p.start segs none) in
    nil_left (entry_needles_of (part_of segs p)) (entry_needles_of (drop size (drop p.start segs))) (entries_split size (drop p.start segs) behind)

through_raised : (changes : List Changed) (lines : ℕ) (segs : List Seg) → entry_needles_of segs ≡ [] → through changes lines segs ≡ map (raised_seg lines) segs
through_raised changes lines [] none = refl
through_raised changes lines (Entry n ∷ segs) none =
    let size : suc (length (entry_needles_of segs)) ≡ 0 = ap length none in
    absurd (omega (arith, size))
through_raised changes lines (New offset ∷ segs) none = ap (λ (xs : List Seg). New (lines + offset) ∷ xs) (through_raised changes lines segs none)

part_raised : (lines : ℕ) (segs : List Seg) (p : Part) → part_of (map (raised_seg lines) segs) p ≡ map (raised_seg lines) (part_of segs p)
part_raised lines segs p =
    let size = (p.start + p.len) - p.start in
    ap (take size) (drop-map (raised_seg lines) p.start segs) ∙ take-map (raised_seg lines) size (drop p.start segs)

-- the second face's changes are its own, with the lines of new loops raised
pub changes_raised : (changes : List Changed) (lines : ℕ) (segs : List Seg) (cs : List Change) → entry_needles_of segs ≡ [] →
    changes_through changes lines (map (changed_of segs) cs) ≡ map (changed_of (map (raised_seg lines) segs)) cs
changes_raised changes lines segs [] none = refl
changes_raised changes lines segs (c ∷ cs) none =
    ap₂ (λ (x : Changed) (xs : List Changed). x ∷ xs)
    (λ i. (c.needle, (through_raised changes lines (part_of segs c.part) (entries_part segs c.part none) ∙ sym (part_raised lines segs c.part)) i))
    (changes_raised changes lines segs cs none)

parts_raised : (lines : ℕ) (segs : List Seg) (cs : List Change) →
    flat_map (λ (c : Change). part_of (map (raised_seg lines) segs) c.part) cs ≡ map (raised_seg lines) (flat_map (λ (c : Change). part_of segs c.part) cs)
parts_raised lines segs [] = refl
parts_raised lines segs (c ∷ cs) =
    ap₂ (λ (xs ys : List Seg). xs ++ ys) (part_raised lines segs c.part) (parts_raised lines segs cs)
    ∙ sym (map-append (raised_seg lines) (part_of segs c.part) (flat_map (λ (c : Change). part_of segs c.part) cs))

-- and their parts still make up the list
pub packed_raised : (lines : ℕ) (segs : List Seg) (cs : List Change) → ArePacked segs cs → ArePacked (map (raised_seg lines) segs) cs
packed_raised lines segs cs packed = record {
  fit = subst (λ n. All (λ (c : Change). c.part.start + c.part.len ≤ n) cs) (sym (length-map segs (raised_seg lines))) packed.fit;
  whole = parts_raised lines segs cs ∙ ap (map (raised_seg lines)) packed.whole;
}

offsets_parts : (lines : ℕ) (segs : List Seg) (cs : List Change) → HaveOffsets lines segs cs → All (OffsetFits lines) (flat_map (λ (c : Change). part_of segs c.part) cs)
offsets_parts lines segs [] fits = λ k d within. absurd (omega arith)
offsets_parts lines segs (c ∷ cs) fits =
    let Fits : Change → Type 0 = λ c. All (OffsetFits lines) (part_of segs c.part) in
    All-append (OffsetFits lines) (part_of segs c.part) (flat_map (λ (c : Change). part_of segs c.part) cs)
    (All-head Fits c cs fits) (offsets_parts lines segs cs (All-tail Fits c cs fits))

-- the line of each new loop can be raised
pub offsets_all : (lines : ℕ) (segs : List Seg) (cs : List Change) → ArePacked segs cs → HaveOffsets lines segs cs → All (OffsetFits lines) segs
offsets_all lines segs cs packed fits = subst (All (OffsetFits lines)) packed.whole (offsets_parts lines segs cs fits)

-- one segment more of a list written in place
pub raised_more : (f : Seg → Seg) (segs old now : List Seg) (i : ℕ) (d : Seg) → i < length segs → old ≡ map f (take i segs) ++ drop i segs → now ≡ set old i (f (get_or segs i d)) →
    now ≡ map f (take (i + 1) segs) ++ drop (i + 1) segs
raised_more f segs old now i d within is written =
    let front = map f (take i segs) in
    let rest = drop (i + 1) segs in
    let x = get_or segs i d in
    let size : length front ≡ i = length-map (take i segs) f ∙ length-take-le i segs (omega (arith, within)) in
    written ∙ ap (λ (xs : List Seg). set xs i (f x)) (is ∙ ap (λ (xs : List Seg). front ++ xs) (drop_more segs i d within))
    ∙ ap (λ k. set (front ++ x ∷ rest) k (f x)) (sym size) ∙ set-append_seam front x rest (f x)
    ∙ sym (append_assoc front (f x ∷ []) rest)
    ∙ ap (λ (xs : List Seg). xs ++ rest) (sym (map-append f (take i segs) (x ∷ [])) ∙ ap (map f) (sym (take_more segs i d within)))

-- and all of them
pub raised_all : (f : Seg → Seg) (segs now : List Seg) (i : ℕ) → length segs ≤ i → now ≡ map f (take i segs) ++ drop i segs → now ≡ map f segs
raised_all f segs now i past is =
    is ∙ ap₂ (λ (xs ys : List Seg). map f xs ++ ys) (take_all i segs past) (drop_all i segs past) ∙ append-nil (map f segs)
