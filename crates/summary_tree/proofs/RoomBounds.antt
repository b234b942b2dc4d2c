-- What the greatest of some rooms tells of them all.
use Rattle.std.proofs.Common.{◌≡◌, ℕ, ◌≤◌, max, List, [], ◌∷◌, ◌++◌, refl, ◌∙◌, ap, arith}
use Rattle.std.specs.List.{All}
use Rattle.std.proofs.lemmas.List.Elements.{All-nil, All-cons, All-head, All-tail}
use Rattle.summary_compose.specs.Composing.{IsNoGreater}
use Rattle.summary_compose.specs.declared.room.Room.{Room}
use Rattle.summary_tree.specs.declared.faces.FaceList.{FaceList}
use Rattle.summary_tree.specs.declared.faces.FaceList.TheVariants.{Checks, Names, Changes, Segs, Lasts}
use Rattle.summary_tree.specs.Faces.{length_in}
use Rattle.summary_compose.specs.Rooms.{greater_room}
use Rattle.summary_tree.specs.Rooms.{greatest_of}

pub no_greater_same : (r : Room) → IsNoGreater r r
no_greater_same r = record { checks = omega arith; names = omega arith; changes = omega arith; segs = omega arith; entries = omega arith; widest = omega arith; lasts = omega arith }

max_swap : (n : ℕ) → max n 0 ≡ max 0 n
max_swap n = omega arith

max_round : (a b c : ℕ) → max a (max b c) ≡ max (max a b) c
max_round a b c = omega arith

-- one room more
pub greatest_push : (rooms : List Room) (r : Room) → greatest_of (rooms ++ r ∷ []) ≡ greater_room (greatest_of rooms) r
greatest_push [] r = λ i. record {
  checks = max_swap r.checks i;
  names = max_swap r.names i;
  changes = max_swap r.changes i;
  segs = max_swap r.segs i;
  entries = max_swap r.entries i;
  widest = max_swap r.widest i;
  lasts = max_swap r.lasts i;
}
greatest_push (x ∷ rooms) r =
    let g = greatest_of rooms in
    ap (greater_room x) (greatest_push rooms r)
    ∙ λ i. record {
      checks = max_round x.checks g.checks r.checks i;
      names = max_round x.names g.names r.names i;
      changes = max_round x.changes g.changes r.changes i;
      segs = max_round x.segs g.segs r.segs i;
      entries = max_round x.entries g.entries r.entries i;
      widest = max_round x.widest g.widest r.widest i;
      lasts = max_round x.lasts g.lasts r.lasts i;
    }

-- all are within a room exactly if the greatest is
pub each_within : (rooms : List Room) (bound : Room) → IsNoGreater (greatest_of rooms) bound → All (λ r. IsNoGreater r bound) rooms
each_within [] bound h = All-nil (λ r. IsNoGreater r bound)
each_within (x ∷ rooms) bound h =
    let g = greatest_of rooms in
    All-cons (λ r. IsNoGreater r bound) x rooms
    (record { checks = omega (arith, h.checks); names = omega (arith, h.names); changes = omega (arith, h.changes); segs = omega (arith, h.segs); entries = omega (arith, h.entries); widest = omega (arith, h.widest); lasts = omega (arith, h.lasts) })
    (each_within rooms bound (record { checks = omega (arith, h.checks); names = omega (arith, h.names); changes = omega (arith, h.changes); segs = omega (arith, h.segs); entries = omega (arith, h.entries); widest = omega (arith, h.widest); lasts = omega (arith, h.lasts) }))

pub greatest_within : (rooms : List Room) (bound : Room) → All (λ r. IsNoGreater r bound) rooms → IsNoGreater (greatest_of rooms) bound
greatest_within [] bound all = record { checks = omega arith; names = omega arith; changes = omega arith; segs = omega arith; entries = omega arith; widest = omega arith; lasts = omega arith }
greatest_within (x ∷ rooms) bound all =
    let h = All-head (λ r. IsNoGreater r bound) x rooms all in
    let g = greatest_within rooms bound (All-tail (λ r. IsNoGreater r bound) x rooms all) in
    record {
      checks = omega (arith, h.checks, g.checks);
      names = omega (arith, h.names, g.names);
      changes = omega (arith, h.changes, g.changes);
      segs = omega (arith, h.segs, g.segs);
      entries = omega (arith, h.entries, g.entries);
      widest = omega (arith, h.widest, g.widest);
      lasts = omega (arith, h.lasts, g.lasts);
    }

-- the longer list of both rooms
longer : (list : FaceList) (a b : Room) → length_in list (greater_room a b) ≡ max (length_in list a) (length_in list b)
longer Checks a b = refl
longer Names a b = refl
longer Changes a b = refl
longer Segs a b = refl
longer Lasts a b = refl

none_long : (list : FaceList) → length_in list (greatest_of []) ≡ 0
none_long Checks = refl
none_long Names = refl
none_long Changes = refl
none_long Segs = refl
none_long Lasts = refl

-- no list is longer than a bound exactly if that of the greatest room isn't
pub each_short : (list : FaceList) (rooms : List Room) (bound : ℕ) → length_in list (greatest_of rooms) ≤ bound → All (λ r. length_in list r ≤ bound) rooms
each_short list [] bound h = All-nil (λ r. length_in list r ≤ bound)
each_short list (x ∷ rooms) bound h =
    let both = longer list x (greatest_of rooms) in
    All-cons (λ r. length_in list r ≤ bound) x rooms (omega (arith, h, both)) (each_short list rooms bound (omega (arith, h, both)))

pub greatest_short : (list : FaceList) (rooms : List Room) (bound : ℕ) → All (λ r. length_in list r ≤ bound) rooms → length_in list (greatest_of rooms) ≤ bound
greatest_short list [] bound all = omega (arith, none_long list)
greatest_short list (x ∷ rooms) bound all =
    omega (arith, longer list x (greatest_of rooms), All-head (λ r. length_in list r ≤ bound) x rooms all, greatest_short list rooms bound (All-tail (λ r. length_in list r ≤ bound) x rooms all))
