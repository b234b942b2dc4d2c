-- What an instruction makes of the stacks, by the segments on the needles.
use Rattle.std.proofs.Common.{◌≡◌, ℕ, ◌+◌, Bool, true, false, cond, List, [], ◌∷◌, ◌++◌, None, Some, unwrap_or, refl, sym, ap, ◌∙◌}
use Rattle.std.proofs.lemmas.Grind.{flat_map-append}
use Rattle.knit_base.proofs.Needles.{same_needle-comm}
use Rattle.knit_base.specs.declared.instr.Instr.{Instr}
use Rattle.knit_base.specs.declared.instr.Instr.TheVariants.{Knit, Tuck, Split, Xfer, Drop}
use Rattle.knit_base.specs.declared.needle.Needle.{Needle}
use Rattle.knit_base.specs.Needle.{same_needle, same_needle-true}
use Rattle.carriage_model.specs.State.{State}
use Rattle.carriage_model.specs.Steps.{step_instr}
use Rattle.face_data.specs.declared.face.Seg.{Seg}
use Rattle.face_data.specs.declared.face.Seg.TheVariants.{New}
use Rattle.knit_base.specs.Instr.{forming_needle}
use Rattle.face_data.specs.Segments.{Changed, AreRead, segments_on, read_seg, read_segs}
use Rattle.bed_rules.specs.Beds.{changes_of, AreReadAfter}

-- the needle is left with nothing
emptied : (s : State) (first : ℕ) (here : Bool) (segs : List Seg) → read_segs s first (unwrap_or (cond here (Some []) None) segs) ≡ cond here [] (read_segs s first segs)
emptied s first true segs = refl
emptied s first false segs = refl

-- the needle is left with a new loop
knitted : (s : State) (first offset : ℕ) (here : Bool) (segs : List Seg)
    → read_segs s first (cond here (unwrap_or (cond here (Some []) None) segs ++ New offset ∷ []) (unwrap_or (cond here (Some []) None) segs)) ≡ cond here ((first + offset) ∷ []) (read_segs s first segs)
knitted s first offset true segs = refl
knitted s first offset false segs = refl

-- a new loop comes behind those of the needle
tucked : (s : State) (first offset : ℕ) (here : Bool) (segs : List Seg)
    → read_segs s first (cond here (segs ++ New offset ∷ []) segs) ≡ cond here (read_segs s first segs ++ (first + offset) ∷ []) (read_segs s first segs)
tucked s first offset true segs = flat_map-append (read_seg s first) segs (New offset ∷ [])
tucked s first offset false segs = refl

-- the loops go over
gone_over : (s : State) (first : ℕ) (here there : Bool) (both segs : List Seg)
    → read_segs s first (unwrap_or (cond here (Some []) (cond there (Some both) None)) segs) ≡ cond here [] (cond there (read_segs s first both) (read_segs s first segs))
gone_over s first true there both segs = refl
gone_over s first false true both segs = refl
gone_over s first false false both segs = refl

-- the loops go over, and a new one stays
split_over : (s : State) (first offset : ℕ) (here there : Bool) (both segs : List Seg)
    → read_segs s first (cond here (unwrap_or (cond here (Some []) (cond there (Some both) None)) segs ++ New offset ∷ []) (unwrap_or (cond here (Some []) (cond there (Some both) None)) segs))
    ≡ cond here ((first + offset) ∷ []) (cond there (read_segs s first both) (read_segs s first segs))
split_over s first offset true there both segs = refl
split_over s first offset false true both segs = refl
split_over s first offset false false both segs = refl

-- a needle that is the same holds the same
tied : (stacks : Needle → List ℕ) (n m : Needle) (b : Bool) (more : List ℕ) → same_needle n m ≡ b → cond b (stacks n ++ more) (stacks m) ≡ cond b (stacks m ++ more) (stacks m)
tied stacks n m true more e = ap (λ q. stacks q ++ more) (same_needle-true n m e)
tied stacks n m false more e = refl

-- a needle holds other loops, by what stands on it and on the rest
put : (n m : Needle) (loops wanted old read : List ℕ) → loops ≡ wanted → old ≡ read → cond (same_needle n m) loops old ≡ cond (same_needle m n) wanted read
put n m loops wanted old read is same = λ i. cond (same_needle-comm n m i) (is i) (same i)

both_read : (segments : List Changed) (s t : State) (first : ℕ) (n n2 : Needle) → AreRead segments s first t.stacks
    → t.stacks n2 ++ t.stacks n ≡ read_segs s first (segments_on segments n2 ++ segments_on segments n)
both_read segments s t first n n2 read =
    (λ i. read n2 i ++ read n i) ∙ sym (flat_map-append (read_seg s first) (segments_on segments n2) (segments_on segments n))

-- what the instruction makes of the stacks
pub changed-read : (segments : List Changed) (instr : Instr) (s t : State) (first offset : ℕ) → AreRead segments s first t.stacks
    → AreReadAfter segments (changes_of instr segments) (forming_needle instr) s first offset (step_instr (first + offset) instr t).stacks
changed-read segments (Knit dir n []) s t first offset read m =
    put n m [] [] (t.stacks m) (read_segs s first (segments_on segments m)) refl (read m) ∙ sym (emptied s first (same_needle m n) (segments_on segments m))
changed-read segments (Knit dir n (c ∷ cs)) s t first offset read m =
    put n m ((first + offset) ∷ []) ((first + offset) ∷ []) (t.stacks m) (read_segs s first (segments_on segments m)) refl (read m)
    ∙ sym (knitted s first offset (same_needle m n) (segments_on segments m))
changed-read segments (Tuck dir n []) s t first offset read m = read m
changed-read segments (Tuck dir n (c ∷ cs)) s t first offset read m =
    tied t.stacks n m (same_needle n m) ((first + offset) ∷ []) refl
    ∙ put n m (t.stacks m ++ (first + offset) ∷ []) (read_segs s first (segments_on segments m) ++ (first + offset) ∷ []) (t.stacks m) (read_segs s first (segments_on segments m)) (ap (λ (l : List ℕ). l ++ (first + offset) ∷ []) (read m)) (read m)
    ∙ sym (tucked s first offset (same_needle m n) (segments_on segments m))
changed-read segments (Split dir n n2 []) s t first offset read m =
    put n m [] [] _ _ refl (put n2 m _ _ (t.stacks m) (read_segs s first (segments_on segments m)) (both_read segments s t first n n2 read) (read m))
    ∙ sym (gone_over s first (same_needle m n) (same_needle m n2) (segments_on segments n2 ++ segments_on segments n) (segments_on segments m))
changed-read segments (Split dir n n2 (c ∷ cs)) s t first offset read m =
    put n m ((first + offset) ∷ []) ((first + offset) ∷ []) _ _ refl (put n2 m _ _ (t.stacks m) (read_segs s first (segments_on segments m)) (both_read segments s t first n n2 read) (read m))
    ∙ sym (split_over s first offset (same_needle m n) (same_needle m n2) (segments_on segments n2 ++ segments_on segments n) (segments_on segments m))
changed-read segments (Xfer n n2) s t first offset read m =
    put n m [] [] _ _ refl (put n2 m _ _ (t.stacks m) (read_segs s first (segments_on segments m)) (both_read segments s t first n n2 read) (read m))
    ∙ sym (gone_over s first (same_needle m n) (same_needle m n2) (segments_on segments n2 ++ segments_on segments n) (segments_on segments m))
changed-read segments (Drop n) s t first offset read m =
    put n m [] [] (t.stacks m) (read_segs s first (segments_on segments m)) refl (read m) ∙ sym (emptied s first (same_needle m n) (segments_on segments m))
changed-read segments instr s t first offset read m = read m
