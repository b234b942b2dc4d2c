-- Sizes of needles now, by the sizes at the block's entry.
use Rattle.std.proofs.Common.{◌≡◌, ℕ, ◌+◌, ◌-◌, zero, suc, ℤ, pos, ◌-ℤ◌, int_le, nat_le, nat_lt, List, [], ◌∷◌, length, refl, ap, ◌∙◌, arith, length-append}
use Rattle.std.proofs.Math.IntN.{ -ℤ_one}
use Rattle.std.proofs.lemmas.List.Concat.{flat_map-cons}
use Rattle.std.proofs.lemmas.List.Sums.{sum_by-append, sum_by-cons}
use Rattle.knit_base.specs.declared.needle.Needle.{Needle}
use Rattle.knit_base.specs.declared.rule.Reason.{Reason}
use Rattle.carriage_model.specs.State.{State}
use Rattle.face_data.specs.declared.face.Seg.{Seg}
use Rattle.face_data.specs.declared.face.Seg.TheVariants.{Entry, New}
use Rattle.face_data.specs.Conditions.{size_of, broken_unless, unmet_size}
use Rattle.face_data.specs.Segments.{Changed, AreRead, segments_on, read_seg, read_segs, entry_needles_in, entry_needles_of, new_in, new_of, names_through, new_through}

seg-size : (s : State) (first : ℕ) (seg : Seg) → length (read_seg s first seg) ≡ size_of (entry_needles_in seg) s + new_in seg
seg-size s first (Entry n) = omega arith
seg-size s first (New offset) = refl

-- how many loops segments stand for
pub read-size : (s : State) (first : ℕ) (segs : List Seg) → length (read_segs s first segs) ≡ size_of (entry_needles_of segs) s + new_of segs
read-size s first [] = refl
read-size s first (seg ∷ segs) =
    let len : length (read_segs s first (seg ∷ segs)) ≡ length (read_seg s first seg) + length (read_segs s first segs) =
    ap length (flat_map-cons (read_seg s first) seg segs) ∙ length-append (read_seg s first seg) (read_segs s first segs) in
    let entries : size_of (entry_needles_of (seg ∷ segs)) s ≡ size_of (entry_needles_in seg) s + size_of (entry_needles_of segs) s =
    ap (λ ns. size_of ns s) (flat_map-cons entry_needles_in seg segs) ∙ sum_by-append (λ n. length (s.stacks n)) (entry_needles_in seg) (entry_needles_of segs) in
    let new : new_of (seg ∷ segs) ≡ new_in seg + new_of segs = sum_by-cons new_in seg segs in
    omega (arith, len, entries, new, seg-size s first seg, read-size s first segs)

-- how many loops needles hold now
pub size-now : (changes : List Changed) (s t : State) (first : ℕ) (names : List Needle) → AreRead changes s first t.stacks
    → size_of names t ≡ size_of (names_through changes names) s + new_through changes names
size-now changes s t first [] read = refl
size-now changes s t first (n ∷ names) read =
    let size : size_of (n ∷ names) t ≡ length (t.stacks n) + size_of names t = sum_by-cons (λ m. length (t.stacks m)) n names in
    let here : length (t.stacks n) ≡ size_of (entry_needles_of (segments_on changes n)) s + new_of (segments_on changes n) =
    ap length (read n) ∙ read-size s first (segments_on changes n) in
    let entries : size_of (names_through changes (n ∷ names)) s ≡ size_of (entry_needles_of (segments_on changes n)) s + size_of (names_through changes names) s =
    ap (λ ns. size_of ns s) (flat_map-cons (λ m. entry_needles_of (segments_on changes m)) n names)
    ∙ sum_by-append (λ m. length (s.stacks m)) (entry_needles_of (segments_on changes n)) (names_through changes names) in
    let new : new_through changes (n ∷ names) ≡ new_of (segments_on changes n) + new_through changes names =
    sum_by-cons (λ m. new_of (segments_on changes m)) n names in
    omega (arith, size, here, entries, new, size-now changes s t first names read)

room_test : (a room : ℕ) → int_le (pos a) (pos room -ℤ pos 1) ≡ nat_lt a room
room_test a zero = grind arith
room_test a (suc room) =
    let step : pos (suc room) -ℤ pos 1 ≡ pos room = -ℤ_one (pos (suc room)) in
    let same : int_le (pos a) (pos room) ≡ nat_lt a (suc room) = grind arith in
    ap (int_le (pos a)) step ∙ same

fits_test : (a new most total room : ℕ) → total ≡ a + new → room ≡ (most + 1) - new → nat_lt a room ≡ nat_le total most
fits_test a new most total room sum left = grind arith

-- where needles hold too many loops now, by the loops at the block's entry
pub unmet-now : (changes : List Changed) (s t : State) (first : ℕ) (names entries : List Needle) (most room : ℕ) (max : ℤ) (reason : Reason)
    → AreRead changes s first t.stacks → entries ≡ names_through changes names → room ≡ (most + 1) - new_through changes names
    → max ≡ pos room -ℤ pos 1 → unmet_size (record { reason = reason; entries = entries; max = max }) s ≡ broken_unless (nat_le (size_of names t) most) reason
unmet-now changes s t first names entries most room max reason read named left is =
    let test : int_le (pos (size_of entries s)) max ≡ nat_le (size_of names t) most =
    ap (λ ns. int_le (pos (size_of ns s)) max) named
    ∙ ap (int_le (pos (size_of (names_through changes names) s))) is
    ∙ room_test (size_of (names_through changes names) s) room
    ∙ fits_test (size_of (names_through changes names) s) (new_through changes names) most (size_of names t) room (size-now changes s t first names read) left in
    ap (λ b. broken_unless b reason) test
