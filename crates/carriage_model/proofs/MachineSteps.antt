-- One step of the machine is one step of the state that it stands for.
use Rattle.std.specs.Prelude.{Option, None, Some, true, false, ℤ, if◌then◌else◌, is_some, slice_index_or}
use Rattle.std.specs.List.{list_any}
use Rattle.std.proofs.lemmas.Bool.{true≢false}
use Rattle.std.proofs.Common.{◌≡◌, ◌<◌, ℕ, List, [], ◌∷◌, length, refl, sym, ap, subst, ◌∙◌, arith}
use Rattle.knit_base.specs.declared.instr.Instr.{Instr}
use Rattle.knit_base.specs.declared.instr.Instr.TheVariants.{CarryIn, CarryOut, HookIn, HookOut, Knit, Tuck, Split, Xfer}
use Rattle.knit_base.specs.declared.instr.Read.TheVariants as read
use Rattle.knit_base.specs.declared.profile.Profile.{Profile}
use Rattle.knit_base.specs.declared.needle.Needle.{Needle}
use Rattle.knit_base.specs.declared.yarns.CarrierNo.{CarrierNo}
use Rattle.carriage_model.specs.declared.machine.Machine.{Machine}
use Rattle.carriage_model.specs.State.{State, same_carrier, stacks_transferred, with_lasts}
use Rattle.carriage_model.specs.Steps.{given_lasts, kept_lasts, step, step_split, step_instr}
use Rattle.carriage_model.specs.Beds.{BedsHold}
use Rattle.carriage_model.specs.Machine.{Represents, HasNoted, IsSameKind, last_in, stack_of}

-- the state for which the machine stands
abbrev pub state_of : Machine → State
state_of machine = record { rack = machine.rack.0; ins = machine.ins; hook = machine.hook; lasts = last_in machine; stacks = stack_of machine }

pub state_of-represented : (machine : Machine) → Represents machine (state_of machine)
state_of-represented machine = record { rack = refl; ins = refl; hook = refl; lasts = λ keeps c fits. refl; stacks = λ n. refl }

-- the machines differ only in what their needles hold
pub record IsSameButBeds (old new : Machine) : Type 0 where
  pub rack : new.rack ≡ old.rack
  pub ins : new.ins ≡ old.ins
  pub hook : new.hook ≡ old.hook
  pub floats : new.keeps_lasts ≡ old.keeps_lasts
  pub lasts : new.lasts ≡ old.lasts

same_stacks : (machine : Machine) (s : State) → Represents machine s → stack_of machine ≡ s.stacks
same_stacks machine s here i n = here.stacks n i

transfer-represented : (old new : Machine) (n n2 : Needle) (left : List ℕ) (s : State) → Represents old s → IsSameButBeds old new
    → BedsHold old.beds new.beds (stacks_transferred n n2 left (stack_of old))
    → Represents new (record s { stacks = stacks_transferred n n2 left s.stacks })
transfer-represented old new n n2 left s before same holds = record {
  rack = ap (λ q. q.0) same.rack ∙ before.rack;
  ins = same.ins ∙ before.ins;
  hook = same.hook ∙ before.hook;
  lasts = λ keeps c fits. ap (λ ls. slice_index_or ls c.0 None) same.lasts ∙ before.lasts (sym same.floats ∙ keeps) c fits;
  stacks = λ q. holds.stacks_are q ∙ ap (λ stacks. stacks_transferred n n2 left stacks q) (same_stacks old s before);
}

-- a transfer on the beds is one of the state
pub transfer-step : (old new : Machine) (k : ℕ) (n n2 : Needle) (instr : Instr) → instr ≡ Xfer n n2 → IsSameButBeds old new → BedsHold old.beds new.beds (stacks_transferred n n2 [] (stack_of old))
    → (s : State) → Represents old s → Represents new (step_instr k instr s)
transfer-step old new k n n2 instr is same holds s before = subst (λ i. Represents new (step_instr k i s)) (sym is) (transfer-represented old new n n2 [] s before same holds)

-- a split with carriers leaves the new loop
pub split-step : (old new : Machine) (k : ℕ) (n n2 : Needle) (cs : List CarrierNo) → 0 < length cs → IsSameButBeds old new → BedsHold old.beds new.beds (stacks_transferred n n2 (k ∷ []) (stack_of old))
    → (s : State) → Represents old s → Represents new (step_split k n n2 cs s)
split-step old new k n n2 [] some same holds s before = absurd (omega arith)
split-step old new k n n2 (c ∷ cs) some same holds s before = transfer-represented old new n n2 (k ∷ []) s before same holds

with_lasts-same : (old new : CarrierNo → Option ℤ) (cs : List CarrierNo) (at : Option ℤ) (c : CarrierNo) → old c ≡ new c → with_lasts old cs at c ≡ with_lasts new cs at c
with_lasts-same old new cs at c same = ap (λ o. if list_any (same_carrier c) cs then at else o) same

-- what an instruction gives a carrier rests on what that carrier had
given-same : (instr : Instr) (old new : CarrierNo → Option ℤ) (c : CarrierNo) → old c ≡ new c → given_lasts instr old c ≡ given_lasts instr new c
given-same (CarryIn cs) old new c same = with_lasts-same old new cs None c same
given-same (CarryOut cs) old new c same = with_lasts-same old new cs None c same
given-same (HookIn cs) old new c same = with_lasts-same old new cs None c same
given-same (HookOut cs) old new c same = with_lasts-same old new cs None c same
given-same (Knit dir n cs) old new c same = with_lasts-same old new cs (Some n.at) c same
given-same (Tuck dir n cs) old new c same = with_lasts-same old new cs (Some n.at) c same
given-same (Split dir n n2 cs) old new c same = with_lasts-same old new cs (Some n.at) c same
given-same instr old new c same = same

-- all else that an instruction does leaves the last needles
lasts-still : (k : ℕ) (instr : Instr) (s : State) → (step_instr k instr s).lasts ≡ s.lasts
lasts-still k (Knit dir n []) s = refl
lasts-still k (Knit dir n (c ∷ cs)) s = refl
lasts-still k (Tuck dir n []) s = refl
lasts-still k (Tuck dir n (c ∷ cs)) s = refl
lasts-still k (Split dir n n2 []) s = refl
lasts-still k (Split dir n n2 (c ∷ cs)) s = refl
lasts-still k instr s = refl

limited : (limit : Option ℕ) (instr : Instr) (lasts : CarrierNo → Option ℤ) (c : CarrierNo) → true ≡ is_some limit → given_lasts instr lasts c ≡ kept_lasts limit instr lasts c
limited None instr lasts c some = absurd (true≢false some)
limited (Some float) instr lasts c some = refl

-- an instruction was carried out, and then the last needles were put
pub noted-represented : (profile : Profile) (k : ℕ) (instr : Instr) (s : State) (mid new : Machine) → mid.keeps_lasts ≡ is_some profile.float → Represents mid (step_instr k instr s)
    → HasNoted instr mid new → Represents new (step profile k (read.Instr instr) s)
noted-represented profile k instr s mid new keeps there noted = record {
  rack = ap (λ (m : Machine). m.rack.0) noted.rest ∙ there.rack;
  ins = ap (λ (m : Machine). m.ins) noted.rest ∙ there.ins;
  hook = ap (λ (m : Machine). m.hook) noted.rest ∙ there.hook;
  lasts = λ kept c fits.
      let mine : mid.keeps_lasts ≡ true = sym (ap (λ (m : Machine). m.keeps_lasts) noted.rest) ∙ kept in
      noted.lasts mine c fits
      ∙ given-same instr (last_in mid) s.lasts c (there.lasts mine c fits ∙ ap (λ (lasts : CarrierNo → Option ℤ). lasts c) (lasts-still k instr s))
      ∙ limited profile.float instr s.lasts c (sym mine ∙ keeps);
  stacks = λ q. ap (λ (m : Machine). stack_of m q) noted.rest ∙ there.stacks q;
}

-- the same where none are kept
pub unnoted-represented : (profile : Profile) (k : ℕ) (instr : Instr) (s : State) (new : Machine) → new.keeps_lasts ≡ false → Represents new (step_instr k instr s)
    → Represents new (step profile k (read.Instr instr) s)
unnoted-represented profile k instr s new none there = record {
  rack = there.rack;
  ins = there.ins;
  hook = there.hook;
  lasts = λ kept c fits. absurd (true≢false (sym kept ∙ none));
  stacks = there.stacks;
}

-- a machine that is like another but for the last needles is of its kind
pub noted-kind : (instr : Instr) (old mid new : Machine) → IsSameKind old mid → HasNoted instr mid new → IsSameKind old new
noted-kind instr old mid new same noted = record {
  beds = record {
    low = ap (λ (m : Machine). m.beds.low) noted.rest ∙ same.beds.low;
    width = ap (λ (m : Machine). m.beds.width) noted.rest ∙ same.beds.width;
  };
  floats = ap (λ (m : Machine). m.keeps_lasts) noted.rest ∙ same.floats;
}
