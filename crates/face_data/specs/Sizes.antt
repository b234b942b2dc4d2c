-- Conditions on the sizes of needles now, as conditions on the block's entry.
use Rattle.std.specs.Prelude.{◌≡◌, ℕ, ◌+◌, ◌-◌, nat_le, pos, ◌-ℤ◌, List, map}
use Rattle.knit_base.specs.declared.needle.Needle.{Needle}
use Rattle.knit_base.specs.declared.rule.Reason.{Reason}
use Rattle.carriage_model.specs.State.{State}
use Rattle.face_data.specs.declared.sizes.SizeAsk.{SizeAsk}
use Rattle.face_data.specs.Conditions.{size_of, broken_unless, unmet_size}
use Rattle.face_data.specs.Segments.{Changed, AreRead, names_through, new_through}

-- these needles hold together at most so many loops, and the reason where they hold more
pub record SizeRule : Type 0 where
  pub reason : Reason
  pub needles : List Needle
  pub most : ℕ

-- the rule after the changes, as a condition on the entry: on the needles whose entry stands on these, with so many loops less as new ones stand there
abbrev pub size_ask : List Changed → SizeRule → SizeAsk
size_ask changes rule = record {
  reason = rule.reason;
  entries = names_through changes rule.needles;
  max = pos ((rule.most + 1) - new_through changes rule.needles) -ℤ pos 1;
}

-- the same of several rules
abbrev pub size_asks : List Changed → List SizeRule → List SizeAsk
size_asks changes rules = map (size_ask changes) rules

-- The condition names the needles whose entry stands on these needles. It is met exactly where these hold together at most so
-- many loops after the changes, whatever the state at entry.
pub record IsSizeAsk (reason : Reason) (most : ℕ) (needles : List Needle) (changes : List Changed) (ask : SizeAsk) : Type 0 where
  pub is : ask ≡ size_ask changes (record { reason = reason; needles = needles; most = most })
  pub entries : ask.entries ≡ names_through changes needles
  pub unmet : (s t : State) (first : ℕ) → AreRead changes s first t.stacks → unmet_size ask s ≡ broken_unless (nat_le (size_of needles t) most) reason
