-- The lists of a face, as one check or one change after the other is put behind them.
use Rattle.std.proofs.Common.{◌≡◌, ◌+◌, ◌-◌, ◌≤◌, Bool, true, false, cond, List, [], ◌∷◌, ◌++◌, length, map, take, drop, get_or, Option, Some, None, refl, sym, ap, ◌∙◌, arith, length-append}
use Rattle.std.specs.List.{flat_map, Contains}
use Rattle.std.proofs.lemmas.List.{append-nil, drop-append-le, take-append-le, length-drop, map-append, take_all}
use Rattle.std.proofs.lemmas.List.Concat.{flat_map-append}
use Rattle.std.proofs.lemmas.List.Elements.{All-head, All-tail, All-push}
use Rattle.std.proofs.Math.Path.{ap₂}
use Rattle.std.proofs.Math.Seq.{drop-append_seam}
use Rattle.knit_base.specs.declared.needle.Needle.{Needle}
use Rattle.knit_base.specs.declared.rule.Fault.{Fault}
use Rattle.knit_base.specs.Needle.{same_needle, same_needle-true}
use Rattle.face_data.specs.declared.face.Change.{Change}
use Rattle.face_data.specs.declared.face.Check.{Check}
use Rattle.face_data.specs.declared.face.Cond.{Cond}
use Rattle.face_data.specs.declared.face.Cond.TheVariants.{RackIs, CarrierIn, CarrierOut, HookFree, HookIs, HookLacks, SizeAtMost, LastNear}
use Rattle.face_data.specs.declared.face.Part.{Part}
use Rattle.face_data.specs.declared.face.Seg.{Seg}
use Rattle.face_data.specs.Conditions.{ask_of, part_of}
use Rattle.face_data.specs.Conditions.Ask.{size_at_most}
use Rattle.face_data.specs.Segments.{Changed, change_at}
use Rattle.face_data.specs.Summaries.{AskedCondition}
use Rattle.face_data.specs.View.{asked_of_check, changed_of, size_needles_of, CondFits, ChecksFit, PartsFit}
use Rattle.face_data.proofs.Members.{Contains-head, Contains-tail}

-- a part that lies in a list is the same where more follows
pub part_of-append : {X : Type 0} (xs ys : List X) (p : Part) → p.start + p.len ≤ length xs → part_of (xs ++ ys) p ≡ part_of xs p
part_of-append xs ys p fits =
    let start : p.start ≤ length xs = omega (arith, fits) in
    let rest : (p.start + p.len) - p.start ≤ length (drop p.start xs) = omega (arith, fits, length-drop p.start xs) in
    ap (take ((p.start + p.len) - p.start)) (drop-append-le p.start xs ys start) ∙ take-append-le ((p.start + p.len) - p.start) (drop p.start xs) ys rest

-- the part that all of what follows makes up
abbrev pub last_part : {X : Type 0} → List X → List X → Part
last_part xs ys = record { start = length xs; len = length ys }

-- it is what follows
pub part_of-last : {X : Type 0} (xs ys : List X) → part_of (xs ++ ys) (last_part xs ys) ≡ ys
part_of-last xs ys =
    ap (take ((length xs + length ys) - length xs)) (drop-append_seam xs ys) ∙ take_all ((length xs + length ys) - length xs) ys (omega arith)

-- conditions stay as they are where more needles follow
pub cond_fits-more : (names more : List Needle) (c : Cond) → CondFits names c → CondFits (names ++ more) c
cond_fits-more names more (SizeAtMost p most) fits = omega (arith, fits, length-append names more)
cond_fits-more names more (RackIs q) fits = tt
cond_fits-more names more (CarrierIn c) fits = tt
cond_fits-more names more (CarrierOut c) fits = tt
cond_fits-more names more HookFree fits = tt
cond_fits-more names more (HookIs set) fits = tt
cond_fits-more names more (HookLacks c) fits = tt
cond_fits-more names more (LastNear c at float) fits = tt

-- a condition with its needles written out
pub ask_of-more : (names more : List Needle) (c : Cond) → CondFits names c → ask_of (names ++ more) c ≡ ask_of names c
ask_of-more names more (SizeAtMost p most) fits = ap (λ ns. size_at_most ns most) (part_of-append names more p fits)
ask_of-more names more (RackIs q) fits = refl
ask_of-more names more (CarrierIn c) fits = refl
ask_of-more names more (CarrierOut c) fits = refl
ask_of-more names more HookFree fits = refl
ask_of-more names more (HookIs set) fits = refl
ask_of-more names more (HookLacks c) fits = refl
ask_of-more names more (LastNear c at float) fits = refl

-- the needles of a condition
pub names_of-more : (names more : List Needle) (c : Cond) → CondFits names c → size_needles_of (names ++ more) c ≡ size_needles_of names c
names_of-more names more (SizeAtMost p most) fits = part_of-append names more p fits
names_of-more names more (RackIs q) fits = refl
names_of-more names more (CarrierIn c) fits = refl
names_of-more names more (CarrierOut c) fits = refl
names_of-more names more HookFree fits = refl
names_of-more names more (HookIs set) fits = refl
names_of-more names more (HookLacks c) fits = refl
names_of-more names more (LastNear c at float) fits = refl

-- all checks
pub checks-more : (checks : List Check) (names more : List Needle) → ChecksFit names checks → map (asked_of_check (names ++ more)) checks ≡ map (asked_of_check names) checks
checks-more [] names more fits = refl
checks-more (c ∷ cs) names more fits =
    ap₂ (λ (a : AskedCondition) (rest : List AskedCondition). a ∷ rest)
    (λ i. record { fault = c.fault; ask = ask_of-more names more c.cond (All-head (λ (d : Check). CondFits names d.cond) c cs fits) i })
    (checks-more cs names more (All-tail (λ (d : Check). CondFits names d.cond) c cs fits))

-- one more check, whose needles follow
pub checks-push : (checks : List Check) (names more : List Needle) (fault : Fault) (c : Cond) → ChecksFit names checks →
    map (asked_of_check (names ++ more)) (checks ++ record { fault = fault; cond = c } ∷ []) ≡ map (asked_of_check names) checks ++ record { fault = fault; ask = ask_of (names ++ more) c } ∷ []
checks-push checks names more fault c fits =
    map-append (asked_of_check (names ++ more)) checks (record { fault = fault; cond = c } ∷ [])
    ∙ ap (λ asked. asked ++ record { fault = fault; ask = ask_of (names ++ more) c } ∷ []) (checks-more checks names more fits)

-- the parts of the checks lie in a longer list
pub checks_fit-more : (checks : List Check) (names more : List Needle) → ChecksFit names checks → ChecksFit (names ++ more) checks
checks_fit-more checks names more fits k d below = cond_fits-more names more (get_or checks k d).cond (fits k d below)

-- all parts lie in the longer list
pub checks_fit-push : (checks : List Check) (names more : List Needle) (c : Check) → ChecksFit names checks → CondFits (names ++ more) c.cond →
    ChecksFit (names ++ more) (checks ++ c ∷ [])
checks_fit-push checks names more c fits last =
    All-push (λ (d : Check). CondFits (names ++ more) d.cond) checks c (checks_fit-more checks names more fits) last

-- the needles that all checks name
pub names-more : (checks : List Check) (names more : List Needle) → ChecksFit names checks →
    flat_map (λ (c : Check). size_needles_of (names ++ more) c.cond) checks ≡ flat_map (λ (c : Check). size_needles_of names c.cond) checks
names-more [] names more fits = refl
names-more (c ∷ cs) names more fits =
    ap₂ (λ (a rest : List Needle). a ++ rest) (names_of-more names more c.cond (All-head (λ (d : Check). CondFits names d.cond) c cs fits))
    (names-more cs names more (All-tail (λ (d : Check). CondFits names d.cond) c cs fits))

-- the parts still make up the list of names
pub names-push : (checks : List Check) (names more : List Needle) (c : Check) → ChecksFit names checks →
    flat_map (λ (d : Check). size_needles_of names d.cond) checks ≡ names → size_needles_of (names ++ more) c.cond ≡ more →
    flat_map (λ (d : Check). size_needles_of (names ++ more) d.cond) (checks ++ c ∷ []) ≡ names ++ more
names-push checks names more c fits packed last =
    flat_map-append (λ (d : Check). size_needles_of (names ++ more) d.cond) checks (c ∷ [])
    ∙ ap₂ (λ (a rest : List Needle). a ++ rest) (names-more checks names more fits ∙ packed) (append-nil (size_needles_of (names ++ more) c.cond) ∙ last)

-- all changes
pub changes-more : (changes : List Change) (segs more : List Seg) → PartsFit segs changes → map (changed_of (segs ++ more)) changes ≡ map (changed_of segs) changes
changes-more [] segs more fits = refl
changes-more (c ∷ cs) segs more fits =
    ap₂ (λ (a : Changed) (rest : List Changed). a ∷ rest)
    (λ i. (c.needle, part_of-append segs more c.part (All-head (λ (d : Change). d.part.start + d.part.len ≤ length segs) c cs fits) i))
    (changes-more cs segs more (All-tail (λ (d : Change). d.part.start + d.part.len ≤ length segs) c cs fits))

-- one more change, whose segments follow
pub changes-push : (changes : List Change) (segs more : List Seg) (n : Needle) → PartsFit segs changes →
    map (changed_of (segs ++ more)) (changes ++ record { needle = n; part = last_part segs more } ∷ []) ≡ map (changed_of segs) changes ++ (n, more) ∷ []
changes-push changes segs more n fits =
    map-append (changed_of (segs ++ more)) changes (record { needle = n; part = last_part segs more } ∷ [])
    ∙ ap₂ (λ (a rest : List Changed). a ++ rest) (changes-more changes segs more fits) (ap (λ (s : List Seg). (n, s) ∷ []) (part_of-last segs more))

-- the parts of the changes lie in a longer list
pub changes_fit-more : (changes : List Change) (segs more : List Seg) → PartsFit segs changes → PartsFit (segs ++ more) changes
changes_fit-more changes segs more fits k d below = let before = fits k d below in omega (arith, before, length-append segs more)

-- all parts lie in the longer list of segments
pub changes_fit-push : (changes : List Change) (segs more : List Seg) (n : Needle) → PartsFit segs changes →
    PartsFit (segs ++ more) (changes ++ record { needle = n; part = last_part segs more } ∷ [])
changes_fit-push changes segs more n fits =
    All-push (λ (c : Change). c.part.start + c.part.len ≤ length (segs ++ more)) changes (record { needle = n; part = last_part segs more })
    (changes_fit-more changes segs more fits) (omega (arith, length-append segs more))

-- the segments of all changes
pub segs-more : (changes : List Change) (segs more : List Seg) → PartsFit segs changes →
    flat_map (λ (c : Change). part_of (segs ++ more) c.part) changes ≡ flat_map (λ (c : Change). part_of segs c.part) changes
segs-more [] segs more fits = refl
segs-more (c ∷ cs) segs more fits =
    ap₂ (λ (a rest : List Seg). a ++ rest) (part_of-append segs more c.part (All-head (λ (d : Change). d.part.start + d.part.len ≤ length segs) c cs fits))
    (segs-more cs segs more (All-tail (λ (d : Change). d.part.start + d.part.len ≤ length segs) c cs fits))

-- the parts still make up the list of segments
pub segs-push : (changes : List Change) (segs more : List Seg) (n : Needle) → PartsFit segs changes →
    flat_map (λ (c : Change). part_of segs c.part) changes ≡ segs →
    flat_map (λ (c : Change). part_of (segs ++ more) c.part) (changes ++ record { needle = n; part = last_part segs more } ∷ []) ≡ segs ++ more
segs-push changes segs more n fits packed =
    flat_map-append (λ (c : Change). part_of (segs ++ more) c.part) changes (record { needle = n; part = last_part segs more } ∷ [])
    ∙ ap₂ (λ (a rest : List Seg). a ++ rest) (segs-more changes segs more fits ∙ packed) (append-nil (part_of (segs ++ more) (last_part segs more)) ∙ part_of-last segs more)

absent_here : (n : Needle) (c : Changed) (rest : Option (List Seg)) (here : Bool) → same_needle n c.0 ≡ here → (c.0 ≡ n → ⊥) → rest ≡ None → cond here (Some c.1) rest ≡ None
absent_here n c rest true same other none = absurd (other (sym (same_needle-true n c.0 same)))
absent_here n c rest false differs other none = none

-- a needle that no change names isn't changed
pub change_absent : (cs : List Changed) (n : Needle) → ((c : Changed) → Contains cs c → c.0 ≡ n → ⊥) → change_at cs n ≡ None
change_absent [] n other = refl
change_absent (c ∷ cs) n other =
    absent_here n c (change_at cs n) (same_needle n c.0) refl (other c (Contains-head c cs)) (change_absent cs n (λ d there. other d (Contains-tail c cs d there)))
