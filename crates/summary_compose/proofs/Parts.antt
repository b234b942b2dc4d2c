-- Changes whose segments are laid one after the other.
use Rattle.std.proofs.Common.{◌≡◌, ◌+◌, ◌-◌, ◌≤◌, List, [], ◌∷◌, ◌++◌, length, take, drop, map, refl, sym, ap, ◌∙◌, subst, arith, length-append, get_or}
use Rattle.std.specs.Prelude.{pos}
use Rattle.knit_base.specs.declared.needle.Needle.{Needle}
use Rattle.knit_base.specs.declared.needle.Bed.TheVariants.{Front}
use Rattle.face_data.specs.declared.face.Seg.TheVariants.{Entry}
use Rattle.std.specs.List.{flat_map}
use Rattle.std.proofs.Math.Path.{ap₂}
use Rattle.std.proofs.Math.Seq.{drop-append_seam, take-length}
use Rattle.std.proofs.lemmas.Grind.{flat_map-append}
use Rattle.std.proofs.lemmas.List.{map-append, append-nil, drop_more}
use Rattle.std.proofs.lemmas.List.Elements.{All-push}
use Rattle.std.proofs.lemmas.List.Sums.{sum_by-cons}
use Rattle.face_data.specs.declared.face.Change.{Change}
use Rattle.face_data.specs.declared.face.Part.{Part}
use Rattle.face_data.specs.declared.face.Seg.{Seg}
use Rattle.face_data.specs.Conditions.{part_of}
use Rattle.face_data.specs.Segments.{Changed}
use Rattle.face_data.specs.View.{changed_of, ArePacked, PartsFit}
use Rattle.summary_compose.specs.Changes.{segs_in}
use Rattle.face_data.proofs.Parts.{changes-more, changes_fit-more, segs-more}

-- a part that is the end of a list
pub part_of-end : {X : Type 0} (xs ys : List X) (p : Part) → p.start ≡ length xs → p.len ≡ length ys → part_of (xs ++ ys) p ≡ ys
part_of-end xs ys p s l =
    let size : (p.start + p.len) - p.start ≡ length ys = omega arith in
    ap₂ (λ n (zs : List _). take n zs) size (ap (λ k. drop k (xs ++ ys)) s ∙ drop-append_seam xs ys) ∙ take-length ys

-- a part of one item
pub part_of-one : {X : Type 0} (xs : List X) (p : Part) (d : X) → p.start + p.len ≤ length xs → p.len ≡ 1 → part_of xs p ≡ get_or xs p.start d ∷ []
part_of-one xs p d fits one =
    let size : (p.start + p.len) - p.start ≡ 1 = omega arith in
    ap₂ (λ n (zs : List _). take n zs) size (drop_more xs p.start d (omega arith))

-- one change more, with its segments behind the others
pub laid_changes : (cs now : List Change) (old more all : List Seg) (c : Change) → PartsFit old cs → all ≡ old ++ more → c.part.start ≡ length old → c.part.len ≡ length more →
    now ≡ cs ++ c ∷ [] → map (changed_of all) now ≡ map (changed_of old) cs ++ (c.needle, more) ∷ []
laid_changes cs now old more all c fit e s l n =
    let part = part_of-end old more c.part s l in
    ap₂ (λ (segs : List Seg) (list : List Change). map (changed_of segs) list) e n
    ∙ map-append (changed_of (old ++ more)) cs (c ∷ [])
    ∙ ap₂ (λ (xs ys : List Changed). xs ++ ys) (changes-more cs old more fit) (λ i. (c.needle, part i) ∷ [])

-- and the parts still make up the list
pub laid_packed : (cs now : List Change) (old more all : List Seg) (c : Change) → ArePacked old cs → all ≡ old ++ more → c.part.start ≡ length old → c.part.len ≡ length more →
    now ≡ cs ++ c ∷ [] → ArePacked all now
laid_packed cs now old more all c packed e s l n =
    let size = length-append old more in
    let flat = λ (segs : List Seg) (list : List Change). flat_map (λ (c : Change). part_of segs c.part) list in
    let known : ArePacked (old ++ more) (cs ++ c ∷ []) = record {
      fit = All-push (λ (c : Change). c.part.start + c.part.len ≤ length (old ++ more)) cs c (changes_fit-more cs old more packed.fit) (omega arith);
      whole = flat_map-append (λ (c : Change). part_of (old ++ more) c.part) cs (c ∷ [])
          ∙ ap₂ (λ (xs ys : List Seg). xs ++ ys) (segs-more cs old more packed.fit ∙ packed.whole) (append-nil (part_of (old ++ more) c.part) ∙ part_of-end old more c.part s l);
    } in
    subst (λ segs. ArePacked segs now) (sym e) (subst (λ list. ArePacked (old ++ more) list) (sym n) known)

parts_sum : (segs : List Seg) (cs : List Change) → length (flat_map (λ (c : Change). part_of segs c.part) cs) ≡ segs_in (map (changed_of segs) cs)
parts_sum segs [] = refl
parts_sum segs (c ∷ cs) =
    length-append (part_of segs c.part) (flat_map (λ (c : Change). part_of segs c.part) cs)
    ∙ ap (λ n. length (part_of segs c.part) + n) (parts_sum segs cs)
    ∙ sym (sum_by-cons (λ (c : Changed). length c.1) (changed_of segs c) (map (changed_of segs) cs))

-- how many segments there are
pub packed_size : (segs : List Seg) (cs : List Change) → ArePacked segs cs → length segs ≡ segs_in (map (changed_of segs) cs)
packed_size segs cs packed = sym (ap length packed.whole) ∙ parts_sum segs cs

-- the segment that goals give for a place past the end
abbrev pub past_end : Seg
past_end = Entry (record { bed = Front; at = pos 0 })

-- and the needle
abbrev pub first_needle : Needle
first_needle = record { bed = Front; at = pos 0 }
