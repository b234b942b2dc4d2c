-- Two lists of changes merged, one change after the other.
use Rattle.std.proofs.Common.{suc, ◌≡◌, ℕ, ◌+◌, ◌≤◌, ◌<◌, ◌⊎◌, inl, inr, List, [], ◌∷◌, ◌++◌, length, drop, sym, ap, ◌∙◌, arith, get_or, length-append, append_assoc, ◌^◌, All, subst}
use Rattle.std.specs.declared.cmp.Ordering.TheVariants.{Less, Equal, Greater}
use Rattle.std.proofs.Math.Path.{ap₂}
use Rattle.std.proofs.lemmas.List.{drop_more, drop_all, append-nil, get_or-map, length-map}
use Rattle.std.proofs.lemmas.List.Sums.{sum_by-cons, sum_by-append}
use Rattle.knit_base.specs.Needle.{needle_cmp}
use Rattle.knit_base.proofs.Needles.{needle_cmp-refl}
use Rattle.face_data.specs.Composition.{changes_merged, merged_from, by_order}
use Rattle.face_data.specs.declared.face.Change.{Change}
use Rattle.face_data.specs.declared.face.FaceView.{FaceView}
use Rattle.face_data.specs.declared.face.Seg.{Seg}
use Rattle.face_data.specs.declared.face.Seg.TheVariants.{New}
use Rattle.face_data.specs.Conditions.{part_of}
use Rattle.face_data.specs.Segments.{Changed, OffsetFits}
use Rattle.face_data.specs.Through.{through, change_through, changes_through}
use Rattle.face_data.specs.View.{changed_of}
use Rattle.summary_compose.specs.Changes.{HaveOffsets, segs_in, changes_in}

less_first : (a b : Changed) (others bs : List Changed) → needle_cmp a.0 b.0 ≡ Less → changes_merged (a ∷ others) (b ∷ bs) ≡ a ∷ changes_merged others (b ∷ bs)
less_first a b others bs e = ap (λ o. by_order o (a ∷ changes_merged others (b ∷ bs)) (b ∷ changes_merged others bs) (b ∷ merged_from a (changes_merged others) bs)) e

equal_both : (a b : Changed) (others bs : List Changed) → needle_cmp a.0 b.0 ≡ Equal → changes_merged (a ∷ others) (b ∷ bs) ≡ b ∷ changes_merged others bs
equal_both a b others bs e = ap (λ o. by_order o (a ∷ changes_merged others (b ∷ bs)) (b ∷ changes_merged others bs) (b ∷ merged_from a (changes_merged others) bs)) e

greater_second : (a b : Changed) (others bs : List Changed) → needle_cmp a.0 b.0 ≡ Greater → changes_merged (a ∷ others) (b ∷ bs) ≡ b ∷ changes_merged (a ∷ others) bs
greater_second a b others bs e = ap (λ o. by_order o (a ∷ changes_merged others (b ∷ bs)) (b ∷ changes_merged others bs) (b ∷ merged_from a (changes_merged others) bs)) e

within_or_past : (i n : ℕ) → (i < n) ⊎ (n ≤ i)
within_or_past i n = grind arith

-- the first list's change comes next
pub turn_first : (xs ys : List Changed) (i j : ℕ) (d : Changed) → i < length xs → (j < length ys → needle_cmp (get_or xs i d).0 (get_or ys j d).0 ≡ Less) →
    changes_merged (drop i xs) (drop j ys) ≡ get_or xs i d ∷ changes_merged (drop (i + 1) xs) (drop j ys)
turn_first xs ys i j d within less = go (within_or_past j (length ys))
  where
    go : (j < length ys) ⊎ (length ys ≤ j) → changes_merged (drop i xs) (drop j ys) ≡ get_or xs i d ∷ changes_merged (drop (i + 1) xs) (drop j ys)
    go (inl before) =
        ap₂ changes_merged (drop_more xs i d within) (drop_more ys j d before)
        ∙ less_first (get_or xs i d) (get_or ys j d) (drop (i + 1) xs) (drop (j + 1) ys) (less before)
        ∙ ap (λ zs. get_or xs i d ∷ changes_merged (drop (i + 1) xs) zs) (sym (drop_more ys j d before))
    go (inr past) =
        ap₂ changes_merged (drop_more xs i d within) (drop_all j ys past)
        ∙ ap (λ zs. get_or xs i d ∷ changes_merged (drop (i + 1) xs) zs) (sym (drop_all j ys past))

-- the second list's
pub turn_second : (xs ys : List Changed) (i j : ℕ) (d : Changed) → j < length ys → (i < length xs → needle_cmp (get_or xs i d).0 (get_or ys j d).0 ≡ Greater) →
    changes_merged (drop i xs) (drop j ys) ≡ get_or ys j d ∷ changes_merged (drop i xs) (drop (j + 1) ys)
turn_second xs ys i j d within greater = go (within_or_past i (length xs))
  where
    go : (i < length xs) ⊎ (length xs ≤ i) → changes_merged (drop i xs) (drop j ys) ≡ get_or ys j d ∷ changes_merged (drop i xs) (drop (j + 1) ys)
    go (inl before) =
        ap₂ changes_merged (drop_more xs i d before) (drop_more ys j d within)
        ∙ greater_second (get_or xs i d) (get_or ys j d) (drop (i + 1) xs) (drop (j + 1) ys) (greater before)
        ∙ ap (λ zs. get_or ys j d ∷ changes_merged zs (drop (j + 1) ys)) (sym (drop_more xs i d before))
    go (inr past) =
        ap₂ changes_merged (drop_all i xs past) (drop_more ys j d within)
        ∙ ap (λ zs. get_or ys j d ∷ changes_merged zs (drop (j + 1) ys)) (sym (drop_all i xs past))

-- or one needle is changed in both
pub turn_both : (xs ys : List Changed) (i j : ℕ) (d : Changed) → i < length xs → j < length ys → needle_cmp (get_or xs i d).0 (get_or ys j d).0 ≡ Equal →
    changes_merged (drop i xs) (drop j ys) ≡ get_or ys j d ∷ changes_merged (drop (i + 1) xs) (drop (j + 1) ys)
turn_both xs ys i j d first second equal =
    ap₂ changes_merged (drop_more xs i d first) (drop_more ys j d second)
    ∙ equal_both (get_or xs i d) (get_or ys j d) (drop (i + 1) xs) (drop (j + 1) ys) equal

-- no change is left
pub turn_ends : (xs ys : List Changed) (i j : ℕ) → length xs ≤ i → length ys ≤ j → changes_merged (drop i xs) (drop j ys) ≡ []
turn_ends xs ys i j first second = ap₂ changes_merged (drop_all i xs first) (drop_all j ys second)

-- what is laid with one change more, before what follows
pub laid_on : (laid now rest before whole : List Changed) (c : Changed) → now ≡ laid ++ c ∷ [] → before ≡ c ∷ rest → laid ++ before ≡ whole → now ++ rest ≡ whole
laid_on laid now rest before whole c n b w =
    ap (λ xs. xs ++ rest) n ∙ append_assoc laid (c ∷ []) rest ∙ ap (λ xs. laid ++ xs) (sym b) ∙ w

-- there is room for it
pub laid_room : (laid rest before whole : List Changed) (c : Changed) → before ≡ c ∷ rest → laid ++ before ≡ whole → length laid < length whole
laid_room laid rest before whole c b w =
    let size : length (laid ++ before) ≡ length whole = ap length w in
    let split = length-append laid before in
    let more : length before ≡ suc (length rest) = ap length b in
    omega arith

-- there is room for the segments of the next change
pub laid_segs : (laid rest before whole : List Changed) (c : Changed) → before ≡ c ∷ rest → laid ++ before ≡ whole → segs_in laid + length c.1 ≤ segs_in whole
laid_segs laid rest before whole c b w =
    let size : segs_in (laid ++ before) ≡ segs_in whole = ap segs_in w in
    let split = sum_by-append (λ (x : Changed). length x.1) laid before in
    let more : segs_in before ≡ segs_in (c ∷ rest) = ap segs_in b in
    let first = sum_by-cons (λ (x : Changed). length x.1) c rest in
    omega (arith, size, split, more, first)

-- the change that goals give for a place past the end
abbrev pub first_default : FaceView → Change → Changed
first_default a d = changed_of a.segs.now d

second_at : (a b : FaceView) (j : ℕ) (d : Change) (e : Changed) → j < length b.changes.now →
    get_or (changes_through (changes_in a) a.lines (changes_in b)) j e ≡ change_through (changes_in a) a.lines (changed_of b.segs.now (get_or b.changes.now j d))
second_at a b j d e within =
    let long : length (changes_in b) ≡ length b.changes.now = length-map b.changes.now (changed_of b.segs.now) in
    get_or-map (change_through (changes_in a) a.lines) (changes_in b) j e e (omega arith)
    ∙ ap (change_through (changes_in a) a.lines) (get_or-map (changed_of b.segs.now) b.changes.now j d e within)

second_needle : (a b : FaceView) (j : ℕ) (d : Change) (e : Changed) → j < length b.changes.now →
    (get_or (changes_through (changes_in a) a.lines (changes_in b)) j e).0 ≡ (get_or b.changes.now j d).needle
second_needle a b j d e within = ap (λ (c : Changed). c.0) (second_at a b j d e within)

second_is : (a b : FaceView) (j : ℕ) (d : Change) (e : Changed) (segs : List Seg) → j < length b.changes.now → segs ≡ part_of b.segs.now (get_or b.changes.now j d).part →
    get_or (changes_through (changes_in a) a.lines (changes_in b)) j e ≡ ((get_or b.changes.now j d).needle, through (changes_in a) a.lines segs)
second_is a b j d e segs within read =
    second_at a b j d e within ∙ (λ k. ((get_or b.changes.now j d).needle, through (changes_in a) a.lines (sym read k)))

-- the same of two faces, with what the code reads of them
pub first_next : (a b : FaceView) (i j : ℕ) (d : Change) (segs : List Seg) → i < length a.changes.now →
    (j < length b.changes.now → needle_cmp (get_or a.changes.now i d).needle (get_or b.changes.now j d).needle ≡ Less) →
    segs ≡ part_of a.segs.now (get_or a.changes.now i d).part →
    changes_merged (drop i (changes_in a)) (drop j (changes_through (changes_in a) a.lines (changes_in b)))
    ≡ ((get_or a.changes.now i d).needle, segs) ∷ changes_merged (drop (i + 1) (changes_in a)) (drop j (changes_through (changes_in a) a.lines (changes_in b)))
first_next a b i j d segs within less read =
    let xs = changes_in a in
    let ys = changes_through xs a.lines (changes_in b) in
    let long : length xs ≡ length a.changes.now = length-map a.changes.now (changed_of a.segs.now) in
    let long_b : length ys ≡ length b.changes.now = length-map (changes_in b) (change_through xs a.lines) ∙ length-map b.changes.now (changed_of b.segs.now) in
    let here : get_or xs i (first_default a d) ≡ changed_of a.segs.now (get_or a.changes.now i d) = get_or-map (changed_of a.segs.now) a.changes.now i d (first_default a d) within in
    let is : get_or xs i (first_default a d) ≡ ((get_or a.changes.now i d).needle, segs) = here ∙ (λ k. ((get_or a.changes.now i d).needle, sym read k)) in
    turn_first xs ys i j (first_default a d) (omega arith)
    (λ before. ap₂ needle_cmp (ap (λ (c : Changed). c.0) here) (second_needle a b j d (first_default a d) (omega arith)) ∙ less (omega arith))
    ∙ ap (λ (c : Changed). c ∷ changes_merged (drop (i + 1) xs) (drop j ys)) is

-- the second list's change is laid
pub second_next : (a b : FaceView) (i j : ℕ) (d : Change) (segs : List Seg) → j < length b.changes.now →
    (i < length a.changes.now → needle_cmp (get_or a.changes.now i d).needle (get_or b.changes.now j d).needle ≡ Greater) →
    segs ≡ part_of b.segs.now (get_or b.changes.now j d).part →
    changes_merged (drop i (changes_in a)) (drop j (changes_through (changes_in a) a.lines (changes_in b)))
    ≡ ((get_or b.changes.now j d).needle, through (changes_in a) a.lines segs) ∷ changes_merged (drop i (changes_in a)) (drop (j + 1) (changes_through (changes_in a) a.lines (changes_in b)))
second_next a b i j d segs within greater read =
    let xs = changes_in a in
    let ys = changes_through xs a.lines (changes_in b) in
    let long : length xs ≡ length a.changes.now = length-map a.changes.now (changed_of a.segs.now) in
    let long_b : length ys ≡ length b.changes.now = length-map (changes_in b) (change_through xs a.lines) ∙ length-map b.changes.now (changed_of b.segs.now) in
    turn_second xs ys i j (first_default a d) (omega arith)
    (λ before. ap₂ needle_cmp (ap (λ (c : Changed). c.0) (get_or-map (changed_of a.segs.now) a.changes.now i d (first_default a d) (omega arith))) (second_needle a b j d (first_default a d) within) ∙ greater (omega arith))
    ∙ ap (λ (c : Changed). c ∷ changes_merged (drop i xs) (drop (j + 1) ys)) (second_is a b j d (first_default a d) segs within read)

-- where both lists change a needle the second one counts
pub both_next : (a b : FaceView) (i j : ℕ) (d : Change) (segs : List Seg) → i < length a.changes.now → j < length b.changes.now →
    needle_cmp (get_or a.changes.now i d).needle (get_or b.changes.now j d).needle ≡ Equal →
    segs ≡ part_of b.segs.now (get_or b.changes.now j d).part →
    changes_merged (drop i (changes_in a)) (drop j (changes_through (changes_in a) a.lines (changes_in b)))
    ≡ ((get_or b.changes.now j d).needle, through (changes_in a) a.lines segs) ∷ changes_merged (drop (i + 1) (changes_in a)) (drop (j + 1) (changes_through (changes_in a) a.lines (changes_in b)))
both_next a b i j d segs first second equal read =
    let xs = changes_in a in
    let ys = changes_through xs a.lines (changes_in b) in
    let long : length xs ≡ length a.changes.now = length-map a.changes.now (changed_of a.segs.now) in
    let long_b : length ys ≡ length b.changes.now = length-map (changes_in b) (change_through xs a.lines) ∙ length-map b.changes.now (changed_of b.segs.now) in
    turn_both xs ys i j (first_default a d) (omega arith) (omega arith)
    (ap₂ needle_cmp (ap (λ (c : Changed). c.0) (get_or-map (changed_of a.segs.now) a.changes.now i d (first_default a d) first)) (second_needle a b j d (first_default a d) second) ∙ equal)
    ∙ ap (λ (c : Changed). c ∷ changes_merged (drop (i + 1) xs) (drop (j + 1) ys)) (second_is a b j d (first_default a d) segs second read)

-- where both lists change a needle at the same place, and the second leaves one new loop on it
pub new_next : (a b : FaceView) (i : ℕ) (d : Change) (offset : ℕ) → i < length a.changes.now → i < length b.changes.now →
    (get_or a.changes.now i d).needle ≡ (get_or b.changes.now i d).needle → part_of b.segs.now (get_or b.changes.now i d).part ≡ New offset ∷ [] →
    changes_merged (drop i (changes_in a)) (drop i (changes_through (changes_in a) a.lines (changes_in b)))
    ≡ ((get_or b.changes.now i d).needle, New (a.lines + offset) ∷ []) ∷ changes_merged (drop (i + 1) (changes_in a)) (drop (i + 1) (changes_through (changes_in a) a.lines (changes_in b)))
new_next a b i d offset first second same one =
    both_next a b i i d (New offset ∷ []) first second
    (ap (λ n. needle_cmp n (get_or b.changes.now i d).needle) same ∙ needle_cmp-refl (get_or b.changes.now i d).needle) (sym one)

-- where both lists change the same needles from a place on, the second one counts: so from the place before, if these are the same
pub same_before : (a b : FaceView) (i : ℕ) (d : Change) → i < length a.changes.now → i < length b.changes.now → (get_or a.changes.now i d).needle ≡ (get_or b.changes.now i d).needle →
    changes_merged (drop (i + 1) (changes_in a)) (drop (i + 1) (changes_through (changes_in a) a.lines (changes_in b))) ≡ drop (i + 1) (changes_through (changes_in a) a.lines (changes_in b)) →
    changes_merged (drop i (changes_in a)) (drop i (changes_through (changes_in a) a.lines (changes_in b))) ≡ drop i (changes_through (changes_in a) a.lines (changes_in b))
same_before a b i d first second same later =
    let xs = changes_in a in
    let ys = changes_through xs a.lines (changes_in b) in
    let e = first_default a d in
    let long : length xs ≡ length a.changes.now = length-map a.changes.now (changed_of a.segs.now) in
    let long_b : length ys ≡ length b.changes.now = length-map (changes_in b) (change_through xs a.lines) ∙ length-map b.changes.now (changed_of b.segs.now) in
    turn_both xs ys i i e (omega arith) (omega arith)
    (ap₂ needle_cmp (ap (λ (c : Changed). c.0) (get_or-map (changed_of a.segs.now) a.changes.now i d e first)) (second_needle a b i d e second)
    ∙ ap (λ n. needle_cmp n (get_or b.changes.now i d).needle) same ∙ needle_cmp-refl (get_or b.changes.now i d).needle)
    ∙ ap (λ (zs : List Changed). get_or ys i e ∷ zs) later
    ∙ sym (drop_more ys i e (omega arith))

-- the line of that loop can be raised
pub new_rises : (a b : FaceView) (i : ℕ) (d : Change) (offset : ℕ) → HaveOffsets a.lines b.segs.now b.changes.now → i < length b.changes.now →
    part_of b.segs.now (get_or b.changes.now i d).part ≡ New offset ∷ [] → a.lines + offset < 2 ^ 32
new_rises a b i d offset offsets within one =
    let fits : All (OffsetFits a.lines) (New offset ∷ []) = subst (All (OffsetFits a.lines)) one (offsets i d within) in
    fits 0 (New offset) (omega arith)

-- all changes are laid
pub all_laid : (a b : FaceView) (i j : ℕ) (laid whole : List Changed) → length a.changes.now ≤ i → length b.changes.now ≤ j →
    laid ++ changes_merged (drop i (changes_in a)) (drop j (changes_through (changes_in a) a.lines (changes_in b))) ≡ whole → laid ≡ whole
all_laid a b i j laid whole first second w =
    let long : length (changes_in a) ≡ length a.changes.now = length-map a.changes.now (changed_of a.segs.now) in
    let long_b : length (changes_through (changes_in a) a.lines (changes_in b)) ≡ length b.changes.now =
    length-map (changes_in b) (change_through (changes_in a) a.lines) ∙ length-map b.changes.now (changed_of b.segs.now) in
    sym (append-nil laid) ∙ ap (λ xs. laid ++ xs) (sym (turn_ends (changes_in a) (changes_through (changes_in a) a.lines (changes_in b)) i j (omega arith) (omega arith))) ∙ w
