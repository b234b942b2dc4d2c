-- Conditions on sizes that are kept, found by a needle that they name.
use Rattle.std.specs.Prelude.{ℕ, Bool, ◌&&◌, nat_le, List, [], ◌∷◌, length, if◌then◌else◌}
use Rattle.std.specs.List.{flat_map, list_any}
use Rattle.knit_base.specs.declared.needle.Needle.{Needle}
use Rattle.knit_base.specs.Needle.{same_needle}
use Rattle.face_data.specs.declared.bearing.Bearing.{Bearing}
use Rattle.face_data.specs.declared.bearing.Bearing.TheVariants.{Implied, Silent}
use Rattle.face_data.specs.declared.digest.Digest.{Digest}
use Rattle.face_data.specs.Answers.{ConditionAnswer}
use Rattle.face_data.specs.Answers.ConditionAnswer.{yes_it_does, no_it_does_not, asks}
use Rattle.face_data.specs.Bearings.{if_so}
use Rattle.face_data.specs.Composition.{from_bearing, answer_of_kept}
use Rattle.face_data.specs.Digests.{digest_bearing}
use Rattle.face_data.specs.Conditions.{Ask}
use Rattle.face_data.specs.Conditions.Ask.{last_near, size_at_most}
use Rattle.face_data.specs.Summaries.{AskedCondition}

-- a condition on sizes, by how many needles it names and how many loops it allows them
pub record SizeMark : Type 0 where
  pub len : ℕ
  pub most : ℕ

-- the mark of a condition that names the needle
abbrev pub marks_in : Needle → Ask → List SizeMark
marks_in n (size_at_most names most) = if list_any (same_needle n) names then record { len = length names; most = most } ∷ [] else []
marks_in n ask = []

-- the marks of all conditions that name the needle, in the order of the conditions
abbrev pub chain_at : List AskedCondition → Needle → List SizeMark
chain_at kept n = flat_map (λ (c : AskedCondition). marks_in n c.ask) kept

-- a condition of at least so many needles allows at most so many loops
abbrev pub size_mark_covers : ℕ → ℕ → SizeMark → Bool
size_mark_covers len most mark = nat_le len mark.len && nat_le mark.most most

-- some condition of the chain does
abbrev pub is_covered : List SizeMark → ℕ → ℕ → Bool
is_covered chain len most = list_any (size_mark_covers len most) chain

-- what the chain of the first needle says of a condition on sizes
abbrev pub chain_bearing : (Needle → List SizeMark) → List Needle → ℕ → Bearing
chain_bearing chains [] most = Silent
chain_bearing chains (n ∷ names) most = if_so (is_covered (chains n) (length (n ∷ names)) most) Implied

-- what a digest and chains of kept conditions say of a condition; one on a last needle is looked for among those that are kept
abbrev pub known_of : Digest → (Needle → List SizeMark) → List AskedCondition → Ask → ConditionAnswer
known_of digest chains kept (size_at_most names most) = from_bearing (chain_bearing chains names most) (asks (size_at_most names most))
known_of digest chains kept (last_near c at float) = answer_of_kept kept (last_near c at float)
known_of digest chains kept ask = from_bearing (digest_bearing digest ask) (asks ask)

-- the same of an answer: only a condition is left to ask
abbrev pub answer_known : Digest → (Needle → List SizeMark) → List AskedCondition → ConditionAnswer → ConditionAnswer
answer_known digest chains kept yes_it_does = yes_it_does
answer_known digest chains kept no_it_does_not = no_it_does_not
answer_known digest chains kept (asks ask) = known_of digest chains kept ask
