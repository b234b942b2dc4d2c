-- How many items a packed face has.
use Rattle.std.proofs.Common.{◌≡◌, ◌+◌, List, [], ◌∷◌, length, refl, arith}
use Rattle.std.proofs.lemmas.List.{length-map}
use Rattle.std.proofs.lemmas.List.Sums.{sum_by-cons}
use Rattle.face_data.specs.Conditions.{Ask}
use Rattle.face_data.specs.Conditions.Ask.{rack_is, carrier_in, carrier_out, hook_free, hook_is, hook_lacks, size_at_most, last_near}
use Rattle.face_data.specs.declared.face.FaceView.{FaceView}
use Rattle.face_data.specs.Goodness.{size_needles_in}
use Rattle.face_data.specs.Items.{ask_items, change_items, check_items, ending_items, items}
use Rattle.face_data.specs.Segments.{Changed}
use Rattle.face_data.specs.Summaries.{AskedCondition}
use Rattle.face_data.specs.View.{IsPacked, asked_of_check, changed_of, summary_of}
use Rattle.summary_compose.specs.Changes.{changes_in, segs_in}
use Rattle.summary_compose.specs.Known.{checks_in, names_count}
use Rattle.summary_compose.proofs.Checks.{named_size}
use Rattle.summary_compose.proofs.Parts.{packed_size}

ask_count : (q : Ask) → ask_items q ≡ 1 + length (size_needles_in q)
ask_count (size_at_most names most) = refl
ask_count (rack_is q) = refl
ask_count (carrier_in c) = refl
ask_count (carrier_out c) = refl
ask_count hook_free = refl
ask_count (hook_is set) = refl
ask_count (hook_lacks c) = refl
ask_count (last_near c at float) = refl

check_count : (cs : List AskedCondition) → check_items cs ≡ length cs + names_count cs
check_count [] = refl
check_count (c ∷ cs) =
    omega (arith, ask_count c.ask, check_count cs, sum_by-cons (λ (c : AskedCondition). ask_items c.ask) c cs, sum_by-cons (λ (c : AskedCondition). length (size_needles_in c.ask)) c cs)

change_count : (cs : List Changed) → change_items cs ≡ length cs + segs_in cs
change_count [] = refl
change_count (c ∷ cs) =
    omega (arith, change_count cs, sum_by-cons (λ (c : Changed). 1 + length c.1) c cs, sum_by-cons (λ (c : Changed). length c.1) c cs)

-- its items are those of its lists and of its ending
pub packed_items : (face : FaceView) → IsPacked face →
    items (summary_of face) ≡ length face.checks.now + length face.names.now + length face.changes.now + length face.segs.now + length face.lasts.now + ending_items face.ending
packed_items face p =
    omega (
      arith,
      check_count (checks_in face),
      change_count (changes_in face),
      length-map face.checks.now (asked_of_check face.names.now),
      length-map face.changes.now (changed_of face.segs.now),
      named_size face.names.now face.checks.now (record { fit = p.checks_fit; whole = p.names }),
      packed_size face.segs.now face.changes.now (record { fit = p.changes_fit; whole = p.segs }),
    )
