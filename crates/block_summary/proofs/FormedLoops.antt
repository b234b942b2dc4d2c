-- The loop that an instruction forms, by what the needles hold so far.
use Rattle.std.proofs.Common.{◌≡◌, ℕ, ◌+◌, List, [], ◌∷◌, Option, Some, refl, sym, ap, ◌∙◌}
use Rattle.knit_base.specs.declared.instr.Instr.{Instr}
use Rattle.knit_base.specs.declared.instr.Instr.TheVariants.{Knit, Tuck, Split}
use Rattle.knit_base.specs.declared.needle.Needle.{Needle}
use Rattle.knit_base.specs.Instr.{forming_needle}
use Rattle.carriage_model.specs.Loops.{loop_of_instr}
use Rattle.carriage_model.specs.State.{State}
use Rattle.carriage_model.specs.Steps.{step_instr}
use Rattle.face_data.specs.Segments.{Changed, AreRead, read_segs}
use Rattle.bed_rules.specs.Beds.{changes_of, segments_after}
use Rattle.bed_rules.proofs.Stacks.{changed-read}
use Rattle.block_summary.specs.declared.formed.FormedLoop.{FormedLoop}
use Rattle.block_summary.specs.Asks.{formed_loop, fact_of_formed, needle_of_formed}

-- it is the loop that the machine makes
pub loop-formed : (segments : List Changed) (instr : Instr) (s t : State) (first line : ℕ) → AreRead segments s first t.stacks
    → loop_of_instr line instr t ≡ fact_of_formed (formed_loop instr segments) s first line
loop-formed segments (Knit dir n []) s t first line read = refl
loop-formed segments (Knit dir n (c ∷ cs)) s t first line read = λ i. Some (record { line = line; needle = n; dir = dir; yarns = c ∷ cs; through = read n i })
loop-formed segments (Tuck dir n []) s t first line read = refl
loop-formed segments (Tuck dir n (c ∷ cs)) s t first line read = refl
loop-formed segments (Split dir n n2 []) s t first line read = refl
loop-formed segments (Split dir n n2 (c ∷ cs)) s t first line read = λ i. Some (record { line = line; needle = n; dir = dir; yarns = c ∷ cs; through = read n i })
loop-formed segments instr s t first line read = refl

-- it stands on the needle on which the instruction forms one
pub needle-formed : (segments : List Changed) (instr : Instr) → needle_of_formed (formed_loop instr segments) ≡ forming_needle instr
needle-formed segments (Knit dir n []) = refl
needle-formed segments (Knit dir n (c ∷ cs)) = refl
needle-formed segments (Tuck dir n []) = refl
needle-formed segments (Tuck dir n (c ∷ cs)) = refl
needle-formed segments (Split dir n n2 []) = refl
needle-formed segments (Split dir n n2 (c ∷ cs)) = refl
needle-formed segments instr = refl

-- the stacks that the machine makes are what the needles hold after the changes, the loop among them
pub stacks-read : (segments : List Changed) (instr : Instr) (s t : State) (first offset : ℕ) → AreRead segments s first t.stacks
    → (changed : List Changed) (formed : Option FormedLoop) → changed ≡ changes_of instr segments → formed ≡ formed_loop instr segments
    → (n : Needle) → (step_instr (first + offset) instr t).stacks n ≡ read_segs s first (segments_after segments changed (needle_of_formed formed) offset n)
stacks-read segments instr s t first offset read changed formed is one n =
    changed-read segments instr s t first offset read n
    ∙ ap (λ (on : Option Needle). read_segs s first (segments_after segments (changes_of instr segments) on offset n)) (sym (needle-formed segments instr))
    ∙ (λ i. read_segs s first (segments_after segments (sym is i) (needle_of_formed (sym one i)) offset n))
