-- Tables of places by needle, and links from place to place.
use Prim.Native.Nat.{zero}
use Rattle.std.proofs.Common.{suc, ◌≡◌, ℕ, ◌+◌, ◌<◌, ◌≤◌, ◌^◌, ◌≢◌, ◌⊎◌, inl, inr, Bool, true, false, List, [], ◌∷◌, ◌++◌, length, take, map, refl, sym, ap, ◌∙◌, subst, arith, get_or}
use Rattle.std.specs.Prelude.{◌&&◌, ◌||◌, nat_le, if◌then◌else◌}
use Rattle.std.specs.List.{list_any}
use Rattle.std.proofs.lemmas.List.{length_push, get_or_push, get_or_append_left, take-append-le, take_at, take_all, take-take, get_or-take, length-take-le, map-append, length-map}
use Rattle.std.proofs.lemmas.Bool.{leb-true, leb-false, true≢false}
use Rattle.knit_base.specs.declared.needle.Needle.{Needle}
use Rattle.knit_base.specs.Needle.{same_needle, same_needle-true}
use Rattle.face_data.specs.Spots.{spot_of}
use Rattle.summary_compose.specs.Tables.{Leads, IsTableOf, IsPlaceWritten, link_needles, TableChainsLeadBack, note_of, note_room, note_suits}
use Rattle.summary_compose.specs.declared.index.NeedleLink.{NeedleLink}
use Rattle.face_data.proofs.NeedleSpots.{spot_of-injective}
use Rattle.knit_base.proofs.Needles.{same_needle-same}

needle_cases_on : (n m : Needle) (b : Bool) → same_needle n m ≡ b → (n ≡ m) ⊎ (n ≡ m → ⊥)
needle_cases_on n m true e = inl (same_needle-true n m e)
needle_cases_on n m false e = inr (λ same. true≢false (sym (same_needle-same n m same) ∙ e))

-- two needles are one or not
pub needle_cases : (n m : Needle) → (n ≡ m) ⊎ (n ≡ m → ⊥)
needle_cases n m = needle_cases_on n m (same_needle n m) refl

last_or_before : (k n : ℕ) → k < n + 1 → (k < n) ⊎ (k ≡ n)
last_or_before k n h = grind arith

-- a needle stands last where it was put last
pub leads_same : (names : List Needle) (m n : Needle) → m ≡ n → Leads (names ++ m ∷ []) n (length names)
leads_same names m n e k within here =
    let len = length_push names m in
    (omega arith, omega arith, get_or_push names m n (length names) refl ∙ e)

-- and any other one where it stood last
pub leads_other : (names : List Needle) (m n : Needle) (place : ℕ) → (m ≡ n → ⊥) → Leads names n place → Leads (names ++ m ∷ []) n place
leads_other names m n place differ h k within here = go (last_or_before k (length names) (subst (λ j. k < j) (length_push names m) within))
  where
    below_more_names : place < length names → place < length (names ++ m ∷ [])
    below_more_names small = let len = length_push names m in omega arith

    go : (k < length names) ⊎ (k ≡ length names) → (k ≤ place) × (place < length (names ++ m ∷ [])) × (get_or (names ++ m ∷ []) place n ≡ n)
    go (inl before) =
        let at = h k before (sym (get_or_append_left names (m ∷ []) n k before) ∙ here) in
        let room : place < length (names ++ m ∷ []) = below_more_names at.1 in
        (at.0, room, get_or_append_left names (m ∷ []) n place at.1 ∙ at.2)
    go (inr last) = absurd (differ (sym (get_or_push names m n k (sym last)) ∙ here))

tells_at : (entries more : List ℕ) (names : List Needle) (m : Needle) → IsTableOf entries names → IsPlaceWritten entries more m (length names) → (n : Needle) →
    (m ≡ n) ⊎ (m ≡ n → ⊥) → Leads (names ++ m ∷ []) n (get_or more (spot_of n) 0)
tells_at entries more names m h w n (inl same) =
    let is : length names ≡ get_or more (spot_of n) 0 = sym w.here ∙ ap (λ (x : Needle). get_or more (spot_of x) 0) same in
    subst (λ p. Leads (names ++ m ∷ []) n p) is (leads_same names m n same)
tells_at entries more names m h w n (inr differ) =
    let is : get_or more (spot_of n) 0 ≡ get_or entries (spot_of n) 0 = w.others (spot_of n) (λ same. differ (sym (spot_of-injective n m same))) in
    subst (λ p. Leads (names ++ m ∷ []) n p) (sym is) (leads_other names m n (get_or entries (spot_of n) 0) differ (h n))

-- a table with one more place noted
pub tells_push : (entries more : List ℕ) (names : List Needle) (m : Needle) → IsTableOf entries names → IsPlaceWritten entries more m (length names) → IsTableOf more (names ++ m ∷ [])
tells_push entries more names m h w n = tells_at entries more names m h w n (needle_cases m n)

-- no needle, no place
pub tells_none : (entries : List ℕ) → IsTableOf entries []
tells_none entries n k within here = absurd (omega arith)

-- for so many notes there is room, so that each needle has a place
pub room_there : (n spots links : ℕ) → n < note_room spots links → (2 ^ 18 ≤ spots) × (n < links)
room_there n spots links = go (nat_le (2 ^ 18) spots) refl
  where
    go : (b : Bool) → nat_le (2 ^ 18) spots ≡ b → n < (if b then links else 0) → (2 ^ 18 ≤ spots) × (n < links)
    go true e h = (leb-true (2 ^ 18) spots e, h)
    go false e h = absurd (omega (arith, h))

-- the room is that of the links where each needle has a place
pub room_is : (spots links : ℕ) → 2 ^ 18 ≤ spots → note_room spots links ≡ links
room_is spots links h = go (nat_le (2 ^ 18) spots) refl
  where
    go : (b : Bool) → nat_le (2 ^ 18) spots ≡ b → (if b then links else 0) ≡ links
    go true e = refl
    go false e = absurd (omega (arith, h, leb-false (2 ^ 18) spots e))

-- and more of both is more room
pub room_more : (spots links places more : ℕ) → spots ≤ places → links ≤ more → note_room spots links ≤ note_room places more
room_more spots links places more h k = go (nat_le (2 ^ 18) spots) refl
  where
    go : (b : Bool) → nat_le (2 ^ 18) spots ≡ b → (if b then links else 0) ≤ note_room places more
    go true e = omega (arith, k, room_is places more (omega (arith, h, leb-true (2 ^ 18) spots e)))
    go false e = omega arith

-- no link
pub linked_none : TableChainsLeadBack []
linked_none k d within = absurd (omega arith)

-- links and one more
pub linked_push : (links : List NeedleLink) (l : NeedleLink) → TableChainsLeadBack links → Leads (link_needles links) l.needle l.next → TableChainsLeadBack (links ++ l ∷ [])
linked_push links l h last k d within = go (last_or_before k (length links) (subst (λ j. k < j) (length_push links l) within))
  where
    go : (k < length links) ⊎ (k ≡ length links) → Leads (link_needles (take k (links ++ l ∷ []))) (get_or (links ++ l ∷ []) k d).needle (get_or (links ++ l ∷ []) k d).next
    go (inl before) =
        subst (λ xs. Leads (link_needles xs) (get_or (links ++ l ∷ []) k d).needle (get_or (links ++ l ∷ []) k d).next)
        (sym (take-append-le k links (l ∷ []) (omega arith)))
        (subst (λ (x : NeedleLink). Leads (link_needles (take k links)) x.needle x.next) (sym (get_or_append_left links (l ∷ []) d k before)) (h k d before))
    go (inr seam) =
        subst (λ xs. Leads (link_needles xs) (get_or (links ++ l ∷ []) k d).needle (get_or (links ++ l ∷ []) k d).next)
        (sym (take_at links (l ∷ []) k (sym seam)))
        (subst (λ (x : NeedleLink). Leads (link_needles links) x.needle x.next) (sym (get_or_push links l d k (sym seam))) last)

-- the test of all links but the first
suits_first : (n : Needle) (len most : ℕ) (l : NeedleLink) (b : Bool) → same_needle l.needle n ≡ b → (l.needle ≡ n → ⊥) → note_suits n len most (note_of l) ≡ false
suits_first n len most l true e differ = absurd (differ (same_needle-true l.needle n e))
suits_first n len most l false e differ = ap (λ b. b && (nat_le len l.len && nat_le l.most most)) e

suits_not : (n : Needle) (len most : ℕ) (l : NeedleLink) → (l.needle ≡ n → ⊥) → note_suits n len most (note_of l) ≡ false
suits_not n len most l differ = suits_first n len most l (same_needle l.needle n) refl differ

either_false : (x y : Bool) → x ≡ false → y ≡ false → (x || y) ≡ false
either_false x y p q = ap (λ b. b || y) p ∙ q

-- nothing suits where the needle isn't
pub suits_none : (n : Needle) (len most : ℕ) (links : List NeedleLink) → ((k : ℕ) → k < length (link_needles links) → get_or (link_needles links) k n ≡ n → ⊥) →
    list_any (note_suits n len most) (map note_of links) ≡ false
suits_none n len most [] h = refl
suits_none n len most (l ∷ links) h =
    either_false (note_suits n len most (note_of l)) (list_any (note_suits n len most) (map note_of links)) (suits_not n len most l (h 0 (omega arith)))
    (suits_none n len most links (λ k within. h (suc k) (omega arith)))

-- what doesn't lead to a place of the needle says that the needle isn't there
pub leads_nowhere : (names : List Needle) (n : Needle) (place : ℕ) → Leads names n place → (place < length names → get_or names place n ≡ n → ⊥) →
    (k : ℕ) → k < length names → get_or names k n ≡ n → ⊥
leads_nowhere names n place h absent k within here = let at = h k within here in absent at.1 at.2

or_nothing : (x y z : Bool) → x ≡ y → z ≡ false → (z || x) ≡ y
or_nothing x y z p q = ap (λ b. b || x) q ∙ p

-- behind the last place of the needle, and there where that note doesn't suit, is nothing that suits
pub suits_before : (n : Needle) (len most : ℕ) (links : List NeedleLink) (place : ℕ) (d : NeedleLink) → Leads (link_needles links) n place → place < length links →
    note_suits n len most (note_of (get_or links place d)) ≡ false → list_any (note_suits n len most) (map note_of links) ≡ list_any (note_suits n len most) (map note_of (take place links))
suits_before n len most [] place d h within fails = absurd (omega arith)
suits_before n len most (l ∷ links) zero d h within fails =
    or_nothing (list_any (note_suits n len most) (map note_of links)) false (note_suits n len most (note_of l))
    (suits_none n len most links (λ k small here. let at = h (suc k) (omega arith) here in absurd (let behind : suc k ≤ 0 = at.0 in omega arith))) fails
suits_before n len most (l ∷ links) (suc place) d h within fails =
    ap (λ b. note_suits n len most (note_of l) || b) (suits_before n len most links place d shifted (omega arith) fails)
  where
    shifted : Leads (link_needles links) n place
    shifted k small here =
        let at = h (suc k) (omega arith) here in
        let order : suc k ≤ suc place = at.0 in
        let room : suc place < suc (length (link_needles links)) = at.1 in
        (omega arith, omega arith, at.2)

or_something : (x y : Bool) → y ≡ true → (x || y) ≡ true
or_something true y e = refl
or_something false y e = e

-- a note that suits
pub suits_at : (n : Needle) (len most : ℕ) (links : List NeedleLink) (place : ℕ) (d : NeedleLink) → place < length links →
    note_suits n len most (note_of (get_or links place d)) ≡ true → list_any (note_suits n len most) (map note_of links) ≡ true
suits_at n len most [] place d within so = absurd (omega arith)
suits_at n len most (l ∷ links) zero d within so = ap (λ b. b || list_any (note_suits n len most) (map note_of links)) so
suits_at n len most (l ∷ links) (suc place) d within so =
    or_something (note_suits n len most (note_of l)) (list_any (note_suits n len most) (map note_of links)) (suits_at n len most links place d (omega arith) so)

-- the needle of the link at a place
pub needle_of-get_or : (links : List NeedleLink) (i : ℕ) (d : NeedleLink) (n : Needle) → i < length links → get_or (link_needles links) i n ≡ (get_or links i d).needle
needle_of-get_or [] i d n within = absurd (omega arith)
needle_of-get_or (l ∷ links) zero d n within = refl
needle_of-get_or (l ∷ links) (suc i) d n within = needle_of-get_or links i d n (omega arith)

-- one link more is in the table
pub tells_more : (entries more : List ℕ) (links now : List NeedleLink) (l : NeedleLink) (place : ℕ) → place ≡ length links → IsPlaceWritten entries more l.needle place →
    now ≡ links ++ l ∷ [] → IsTableOf entries (link_needles links) → IsTableOf more (link_needles now)
tells_more entries more links now l place here written e h =
    let name : NeedleLink → Needle = λ (x : NeedleLink). x.needle in
    let at : place ≡ length (link_needles links) = here ∙ sym (length-map links name) in
    let now_is : link_needles now ≡ link_needles links ++ l.needle ∷ [] = ap link_needles e ∙ map-append name links (l ∷ []) in
    subst (λ ns. IsTableOf more ns) (sym now_is) (tells_push entries more (link_needles links) l.needle h (subst (IsPlaceWritten entries more l.needle) at written))

-- one link more leads on
pub linked_more : (links xs now : List NeedleLink) (l : NeedleLink) → xs ≡ links → now ≡ links ++ l ∷ [] → TableChainsLeadBack links → Leads (link_needles xs) l.needle l.next → TableChainsLeadBack now
linked_more links xs now l same e h last =
    subst TableChainsLeadBack (sym e) (linked_push links l h (subst (λ ys. Leads (link_needles ys) l.needle l.next) same last))

-- what is known in the middle of the walk back over the links of a needle
pub record Walks (links : List NeedleLink) (n : Needle) (len most limit place : ℕ) (whole : Bool) : Type 0 where
  pub within : limit ≤ length links
  pub leads : Leads (link_needles (take limit links)) n place
  pub same : list_any (note_suits n len most) (map note_of (take limit links)) ≡ whole

-- a walk from link to link begins
pub walk_begins : (links xs : List NeedleLink) (n : Needle) (len most place limit : ℕ) → xs ≡ links → limit ≡ length links → Leads (link_needles xs) n place →
    Walks links n len most limit place (list_any (note_suits n len most) (map note_of links))
walk_begins links xs n len most place limit same all h =
    let whole : take limit links ≡ links = take_all limit links (omega arith) in
    record {
      within = omega arith;
      leads = subst (λ ys. Leads (link_needles ys) n place) (same ∙ sym whole) h;
      same = ap (λ ys. list_any (note_suits n len most) (map note_of ys)) whole;
    }

and_false : (x y : Bool) → y ≡ false → (x && y) ≡ false
and_false true y e = e
and_false false y e = refl

and_true : (x y : Bool) → x ≡ true → y ≡ true → (x && y) ≡ true
and_true x y p q = ap (λ b. b && y) p ∙ q

at_read : (links : List NeedleLink) (limit place : ℕ) (x : NeedleLink) → place < limit → x ≡ get_or links place x → get_or (take limit links) place x ≡ x
at_read links limit place x before is = get_or-take limit links place x before ∙ sym is

-- goes on to the link before
pub walk_on : (links : List NeedleLink) (n : Needle) (len most limit place : ℕ) (whole : Bool) (x : NeedleLink) → Walks links n len most limit place whole → TableChainsLeadBack links →
    place < limit → x ≡ get_or links place x → x.needle ≡ n → (nat_le len x.len && nat_le x.most most) ≡ false → Walks links n len most place x.next whole
walk_on links n len most limit place whole x w linked before is mine refused =
    let within : limit ≤ length links = w.within in
    let few = length-take-le limit links within in
    let read = at_read links limit place x before is in
    let unfit : note_suits n len most (note_of (get_or (take limit links) place x)) ≡ false =
    ap (λ (l : NeedleLink). note_suits n len most (note_of l)) read ∙ and_false (same_needle x.needle n) (nat_le len x.len && nat_le x.most most) refused in
    record {
      within = omega arith;
      leads = subst (λ m. Leads (link_needles (take place links)) m x.next) mine (subst (λ (l : NeedleLink). Leads (link_needles (take place links)) l.needle l.next) (sym is) (linked place x (omega arith)));
      same = ap (λ ys. list_any (note_suits n len most) (map note_of ys)) (sym (take-take place limit links (omega arith)))
          ∙ sym (suits_before n len most (take limit links) place x w.leads (omega arith) unfit) ∙ w.same;
    }

-- finds a note that suits
pub walk_finds : (links : List NeedleLink) (n : Needle) (len most limit place : ℕ) (whole : Bool) (x : NeedleLink) → Walks links n len most limit place whole →
    place < limit → x ≡ get_or links place x → x.needle ≡ n → (nat_le len x.len && nat_le x.most most) ≡ true → true ≡ whole
walk_finds links n len most limit place whole x w before is mine so =
    let within : limit ≤ length links = w.within in
    let few = length-take-le limit links within in
    let read = at_read links limit place x before is in
    let fit : note_suits n len most (note_of (get_or (take limit links) place x)) ≡ true =
    ap (λ (l : NeedleLink). note_suits n len most (note_of l)) read ∙ and_true (same_needle x.needle n) (nat_le len x.len && nat_le x.most most) (same_needle-same x.needle n mine) so in
    sym (suits_at n len most (take limit links) place x (omega arith) fit) ∙ w.same

-- ends where no link is left
pub walk_ends : (links : List NeedleLink) (n : Needle) (len most limit place : ℕ) (whole : Bool) → Walks links n len most limit place whole →
    (place < limit → get_or (link_needles (take limit links)) place n ≡ n → ⊥) → false ≡ whole
walk_ends links n len most limit place whole w absent =
    let within : limit ≤ length links = w.within in
    let few = length-take-le limit links within in
    let len' = length-map (take limit links) (λ (l : NeedleLink). l.needle) in
    sym (suits_none n len most (take limit links) (leads_nowhere (link_needles (take limit links)) n place w.leads (λ small. absent (omega arith)))) ∙ w.same

-- or at the link of another needle
pub walk_ends_at : (links : List NeedleLink) (n : Needle) (len most limit place : ℕ) (whole : Bool) (x : NeedleLink) → Walks links n len most limit place whole →
    place < limit → x ≡ get_or links place x → (x.needle ≡ n → ⊥) → false ≡ whole
walk_ends_at links n len most limit place whole x w before is differ =
    let within : limit ≤ length links = w.within in
    let few = length-take-le limit links within in
    walk_ends links n len most limit place whole w
    (λ small here. differ (ap (λ (l : NeedleLink). l.needle) (sym (at_read links limit place x before is)) ∙ sym (needle_of-get_or (take limit links) place x n (omega arith)) ∙ here))
