-- What is known while conditions are read and kept.
use Rattle.std.specs.Prelude.{◌≤◌, ◌<◌, ◌^◌, ◌≡◌, ℕ, ℤ, ◌-◌, ◌&&◌, nat_eq, nat_lt, All, List, [], ◌∷◌, drop, length, map, if◌then◌else◌, ◌++◌, Bool, true, false}
use Rattle.std.specs.List.{flat_map, list_any, sum_by}
use Rattle.std.specs.Ordering.{int_eq}
use Rattle.knit_base.specs.declared.needle.Needle.{Needle}
use Rattle.knit_base.specs.declared.yarns.CarrierNo.{CarrierNo}
use Rattle.knit_base.specs.declared.rule.Fault.{Fault}
use Rattle.face_data.specs.declared.bearing.Bearing.TheVariants.{Implied}
use Rattle.face_data.specs.declared.face.Cond.{Cond}
use Rattle.face_data.specs.declared.face.Effect.{Effect}
use Rattle.face_data.specs.declared.face.Cond.TheVariants.{SizeAtMost, LastNear}
use Rattle.face_data.specs.declared.digest.Digest.{Digest}
use Rattle.face_data.specs.Bearings.{if_so}
use Rattle.face_data.specs.Conditions.{Ask}
use Rattle.face_data.specs.Conditions.Ask.{size_at_most}
use Rattle.face_data.specs.Digests.{CarrierFits, digest_of}
use Rattle.face_data.specs.Segments.{Changed, names_through, new_through}
use Rattle.face_data.specs.Goodness.{IsGood, size_needles_in}
use Rattle.face_data.specs.Summaries.{AskedCondition}
use Rattle.face_data.specs.declared.face.FaceView.{FaceView}
use Rattle.summary_compose.specs.Changes.{changes_in}
use Rattle.face_data.specs.Answers.{ConditionAnswer}
use Rattle.face_data.specs.Answers.ConditionAnswer.{yes_it_does, no_it_does_not, asks}
use Rattle.face_data.specs.Composition.{from_bearing, reads}
use Rattle.face_data.specs.View.{asked_of_check, summary_of, CondFits, size_needles_of}
use Rattle.face_data.specs.Spots.{IsNumbered}
use Rattle.summary_compose.specs.Tables.{Note, note_suits}
use Rattle.summary_compose.specs.declared.sizes.SizeWord.{SizeWord}
use Rattle.summary_compose.specs.declared.sizes.SizeWord.TheVariants.{Holds, Fails, Asks}

-- the condition is that the last needle of the carrier is near the number
abbrev pub asks_near : Cond → CarrierNo → ℤ → ℕ → Bool
asks_near (LastNear d n f) c at float = nat_eq d.0 c.0 && (int_eq n at && nat_eq f float)
asks_near cond c at float = false

-- the condition isn't on sizes or on a last needle
abbrev pub IsPlainCond : Cond → Type 0
IsPlainCond (SizeAtMost p most) = ⊥
IsPlainCond (LastNear c at float) = ⊥
IsPlainCond cond = Unit {0}

-- a note for each needle of a condition on sizes
abbrev pub notes_in : Ask → List Note
notes_in (size_at_most names most) = map (λ n. record { needle = n; len = length names; most = most }) names
notes_in ask = []

-- the notes of all conditions, in their order
abbrev pub notes_of : List AskedCondition → List Note
notes_of kept = flat_map (λ (c : AskedCondition). notes_in c.ask) kept

-- the digest and the notes are those of the kept conditions
pub record Knows (digest : Digest) (notes : List Note) (kept : List AskedCondition) : Type 0 where
  pub digest_is : digest ≡ digest_of kept
  pub notes_are : notes ≡ notes_of kept

-- what the notes say of so many loops on these needles
abbrev pub noted_left : List Note → List Needle → ℕ → ConditionAnswer
noted_left notes [] left = yes_it_does
noted_left notes (n ∷ ns) left = from_bearing (if_so (list_any (note_suits n (length (n ∷ ns)) left) notes) Implied) (asks (size_at_most (n ∷ ns) left))

-- what they say of these needles and so many new loops together
unfoldable pub noted_answer : List Note → List Needle → ℕ → ℕ → ConditionAnswer
noted_answer notes names new most = if nat_lt most new then no_it_does_not else noted_left notes names (most - new)

-- what the code knows of a condition on the sizes of these needles
abbrev pub answer_in : List Needle → SizeWord → ConditionAnswer
answer_in names Holds = yes_it_does
answer_in names Fails = no_it_does_not
answer_in names (Asks left) = asks (size_at_most names left)

-- how many needles the conditions name
abbrev pub names_count : List AskedCondition → ℕ
names_count kept = sum_by (λ (c : AskedCondition). length (size_needles_in c.ask)) kept

-- how many needles the conditions name when they are read through the changes
abbrev pub names_read_count : List Changed → List AskedCondition → ℕ
names_read_count changes more = sum_by (λ (c : AskedCondition). length (names_through changes (size_needles_in c.ask))) more

-- what contracts see of conditions that are kept: the conditions, and for how many of them and of their needles there is room
pub record KeptView : Type 0 where
  pub checks : List AskedCondition
  pub check_room : ℕ
  pub name_room : ℕ

-- What becomes of the kept conditions by one more with this answer and this fault: whether the reading goes on, and what is kept
-- then.
abbrev pub StepIs : ConditionAnswer → List AskedCondition → Fault → Bool → List AskedCondition → Type 0
StepIs yes_it_does kept fault goes_on now = (goes_on ≡ true) × (now ≡ kept)
StepIs no_it_does_not kept fault goes_on now = (goes_on ≡ false) × (now ≡ kept)
StepIs (asks ask) kept fault goes_on now = (goes_on ≡ true) × (now ≡ kept ++ record { fault = fault; ask = ask } ∷ [])

-- the needles of the condition, read through the face, are few, and so are the new loops on them
pub record IsFewThrough (a : FaceView) (needles : List Needle) : Type 0 where
  pub names : length (names_through (changes_in a) needles) < 2 ^ 32
  pub new : new_through (changes_in a) needles < 2 ^ 64

-- the condition, whose needles stand in the list of names, can be read through the face
pub record IsReadable (a : FaceView) (names : List Needle) (c : Cond) : Type 0 where
  pub fit : CondFits names c
  pub carrier : CarrierFits c
  pub few : IsFewThrough a (size_needles_of names c)

-- the conditions of a face with their needles written out
abbrev pub checks_in : FaceView → List AskedCondition
checks_in face = map (asked_of_check face.names.now) face.checks.now

-- Both faces are good for the same number of carriers, of which there are at most 64, and the same limit on loops, of 8 bits. The
-- numbers of the known needles have 16 bits.
pub record AreGoodFaces (a b : FaceView) : Type 0 where
  pub carriers : ℕ
  pub limit : ℕ
  pub first_known : List Needle
  pub second_known : List Needle
  pub few : carriers ≤ 64
  pub few_loops : limit < 2 ^ 8
  pub first_numbers : All IsNumbered first_known
  pub second_numbers : All IsNumbered second_known
  pub first : IsGood carriers limit first_known (summary_of a)
  pub second : IsGood carriers limit second_known (summary_of b)

-- so many of the second face's first conditions hold for what those of the first face ask, so that the others alone are to be read
pub record AreImpliedChecks (a b : FaceView) (effect : Effect) (count : ℕ) : Type 0 where
  pub within : count ≤ length b.checks.now
  pub others : reads effect a.lasts.now (changes_in a) a.lines (checks_in a) (drop count (checks_in b)) ≡ reads effect a.lasts.now (changes_in a) a.lines (checks_in a) (checks_in b)
