-- How many entries needles hold, and how many needles conditions name through that.
use Rattle.std.proofs.Common.{◌≡◌, ℕ, ◌+◌, ◌*◌, ◌-◌, ◌<◌, ◌≤◌, max, inl, inr, List, [], ◌∷◌, drop, length, map, get_or, sym, ap, ◌∙◌, subst, arith, length-append}
use Rattle.std.specs.List.{Contains}
use Rattle.std.proofs.Math.Nat.{add-mul, mul_comm, mul-le-mul}
use Rattle.std.proofs.lemmas.List.{drop_more, length-take}
use Rattle.std.proofs.lemmas.List.Sums.{sum_by-cons}
use Rattle.knit_base.specs.declared.needle.Needle.{Needle}
use Rattle.face_data.specs.declared.face.Change.{Change}
use Rattle.face_data.specs.declared.face.Part.{Part}
use Rattle.face_data.specs.declared.face.Seg.{Seg}
use Rattle.face_data.specs.Composition.{changes_merged}
use Rattle.face_data.specs.Conditions.{part_of}
use Rattle.face_data.specs.Goodness.{IsInOrder, entries_on, size_needles_in}
use Rattle.face_data.specs.Segments.{Changed, entry_needles_of, names_through}
use Rattle.face_data.specs.Summaries.{AskedCondition}
use Rattle.face_data.specs.Through.{changes_through}
use Rattle.face_data.specs.View.{changed_of}
use Rattle.face_data.proofs.ChangeLists.{order_merged, order_through}
use Rattle.face_data.proofs.Items.{all_entries, length-segs, segments_found}
use Rattle.face_data.proofs.Members.{Contains-none, Contains-head, Contains-tail, Contains-cons_cases}
use Rattle.face_data.proofs.Owners.{changed_or_own, entries_on-both}
use Rattle.summary_compose.specs.Known.{names_count, names_read_count}
use Rattle.summary_compose.specs.Rooms.{widest_of}

-- an unchanged needle holds one
pub widest_some : (cs : List Changed) → 1 ≤ widest_of cs
widest_some [] = omega arith
widest_some (c ∷ cs) = omega (arith, widest_some cs)

-- no change holds more
pub in_widest : (cs : List Changed) (c : Changed) → Contains cs c → length (entry_needles_of c.1) ≤ widest_of cs
in_widest [] c h = absurd (Contains-none c h)
in_widest (x ∷ cs) c h = elim (Contains-cons_cases x cs c h) [
  | inl same ↦ subst (λ (w : Changed). length (entry_needles_of w.1) ≤ max (length (entry_needles_of x.1)) (widest_of cs)) same (omega arith)
  | inr later ↦ omega (arith, in_widest cs c later)
]

-- what no change passes
pub widest_below : (cs : List Changed) (most : ℕ) → 1 ≤ most → ((c : Changed) → Contains cs c → length (entry_needles_of c.1) ≤ most) → widest_of cs ≤ most
widest_below [] most some h = some
widest_below (c ∷ cs) most some h = omega (arith, h c (Contains-head c cs), widest_below cs most some (λ d there. h d (Contains-tail c cs d there)))

-- no needle holds more
pub held_widest : (cs : List Changed) (n : Needle) → length (entries_on cs n) ≤ widest_of cs
held_widest cs n = elim (changed_or_own cs n) [
  | inl c ↦ subst (λ segs. length (entry_needles_of segs) ≤ widest_of cs) (sym c.3) (in_widest cs c.0 c.1)
  | inr own ↦ subst (λ segs. length (entry_needles_of segs) ≤ widest_of cs) (sym own) (widest_some cs)
]

-- no more than all changes hold together
pub widest_all : (cs : List Changed) → widest_of cs ≤ max 1 (length (all_entries cs))
widest_all [] = omega arith
widest_all (c ∷ cs) = omega (arith, widest_all cs, length-append (entry_needles_of c.1) (all_entries cs))

-- needles that are read through changes
pub read_wide : (ch : List Changed) (xs : List Needle) → length (names_through ch xs) ≤ length xs * widest_of ch
read_wide ch [] = omega arith
read_wide ch (x ∷ xs) = omega (arith, read_wide ch xs, held_widest ch x, length-append (entries_on ch x) (names_through ch xs))

-- and those of conditions
pub names_read_wide : (ch : List Changed) (cs : List AskedCondition) → names_read_count ch cs ≤ names_count cs * widest_of ch
names_read_wide ch [] = omega arith
names_read_wide ch (c ∷ cs) =
    let w = widest_of ch in
    let own = size_needles_in c.ask in
    let count : names_count (c ∷ cs) ≡ length own + names_count cs = sum_by-cons (λ (d : AskedCondition). length (size_needles_in d.ask)) c cs in
    let times : names_count (c ∷ cs) * w ≡ length own * w + names_count cs * w = ap (λ n. n * w) count ∙ add-mul (length own) (names_count cs) w in
    omega (arith, times, read_wide ch own, names_read_wide ch cs, sum_by-cons (λ (d : AskedCondition). length (names_through ch (size_needles_in d.ask))) c cs)

-- the changes of two faces together
pub widest_merged : (a b : List Changed) (lines : ℕ) → IsInOrder a → IsInOrder b → widest_of (changes_merged a (changes_through a lines b)) ≤ widest_of a * widest_of b
widest_merged a b lines order_a order_b =
    let m = changes_merged a (changes_through a lines b) in
    let order = order_merged a (changes_through a lines b) order_a (order_through a lines b order_b) in
    let some : 1 * 1 ≤ widest_of a * widest_of b = mul-le-mul (widest_some a) (widest_some b) in
    widest_below m (widest_of a * widest_of b) (omega (arith, some)) (λ c there.
    let here : entry_needles_of c.1 ≡ names_through a (entries_on b c.0) = ap entry_needles_of (sym (segments_found m c order there)) ∙ entries_on-both a b lines c.0 order_b in
    let few : length (entries_on b c.0) * widest_of a ≤ widest_of b * widest_of a = mul-le-mul (held_widest b c.0) (same (widest_of a)) in
    omega (arith, ap length here, read_wide a (entries_on b c.0), few, mul_comm (widest_of b) (widest_of a)))
  where
    same : (n : ℕ) → n ≤ n
    same n = omega arith

part_few : (segs : List Seg) (p : Part) → length (entry_needles_of (part_of segs p)) ≤ p.len
part_few segs p = omega (arith, length-segs (part_of segs p), length-take (p.start + p.len - p.start) (drop p.start segs))

-- one change more is read, or has no more segments than entries were found on one needle
module _ (segs : List Seg) (changes : List Change) (i : ℕ) (d : Change) (widest whole : ℕ) (within : i < length changes)
    (so_far : max widest (widest_of (map (changed_of segs) (drop i changes))) ≡ whole) where
  pub widest_step : (now : ℕ) → now ≡ max widest (length (entry_needles_of (part_of segs (get_or changes i d).part))) → max now (widest_of (map (changed_of segs) (drop (i + 1) changes))) ≡ whole
  widest_step now is =
      let rest : widest_of (map (changed_of segs) (drop i changes)) ≡ max (length (entry_needles_of (part_of segs (get_or changes i d).part))) (widest_of (map (changed_of segs) (drop (i + 1) changes)))
      = ap (λ (cs : List Change). widest_of (map (changed_of segs) cs)) (drop_more changes i d within) in
      omega (arith, is, rest, so_far)

  pub widest_left : (len : ℕ) → len ≡ (get_or changes i d).part.len → len ≤ widest → max widest (widest_of (map (changed_of segs) (drop (i + 1) changes))) ≡ whole
  widest_left len is few = widest_step widest (omega (arith, is, few, part_few segs (get_or changes i d).part))
