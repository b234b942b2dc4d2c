-- The faces of texts, one behind the other.
use Rattle.std.proofs.Common.{◌≡◌, ℕ, List, [], ◌∷◌, ◌++◌, length, refl, sym, ap, subst, ◌∙◌, inl, inr}
use Rattle.std.specs.List.{Contains}
use Rattle.std.proofs.lemmas.List.Elements.{Contains-append_cases, Contains-append_left, Contains-append_right}
use Rattle.std.proofs.lemmas.Slice.Zip.{AllZip-long}
use Rattle.knit_base.specs.declared.instr.Read.{Read}
use Rattle.knit_base.specs.declared.needle.Needle.{Needle}
use Rattle.knit_base.specs.declared.profile.Profile.{Profile}
use Rattle.knitout_reader.specs.Reading.{ReadsAs}
use Rattle.knitout_reader.proofs.SomeReading.{each-reads}
use Rattle.face_data.specs.Composition.{composed}
use Rattle.face_data.specs.Sets.{AreNeedlesWithin}
use Rattle.face_data.specs.Stands.{StandsFor}
use Rattle.face_data.specs.Summaries.{Summary}
use Rattle.face_data.proofs.Goodness.{composed_good, good_within}
use Rattle.face_data.proofs.Stands.{stands_both}
use Rattle.block_summary.specs.Prepared.{AreNeedlesKnown, AreReadings}
use Rattle.block_summary.specs.NamedNeedles.{needles_named}
use Rattle.block_summary.proofs.Blocks.{named_known}
use Rattle.check_workers.specs.Faces.{IsFaceOf}

-- readings of two texts, one behind the other, and which of them are of the first
pub record SplitReadings (profile : Profile) (names first second : List (List ℕ)) (lines : List Read) : Type 0 where
  pub xs : List Read
  pub ys : List Read
  pub both : lines ≡ xs ++ ys
  pub of_first : AreReadings profile names first xs
  pub of_second : AreReadings profile names second ys

pub split_readings : (profile : Profile) (names first second : List (List ℕ)) (lines : List Read) → AreReadings profile names (first ++ second) lines
    → SplitReadings profile names first second lines
split_readings profile names [] second lines read = record { xs = []; ys = lines; both = refl; of_first = tt; of_second = read }
split_readings profile names (line ∷ first) second [] read = absurd read
split_readings profile names (line ∷ first) second (r ∷ lines) read =
    let later = split_readings profile names first second lines read.1 in
    record { xs = r ∷ later.xs; ys = later.ys; both = ap (λ rs. r ∷ rs) later.both; of_first = (read.0, later.of_first); of_second = later.of_second }

-- needles of both lists among those of one
within_one : (known : List Needle) → AreNeedlesWithin (known ++ known) known
within_one known n there = elim (Contains-append_cases known known n there) [ inl here ↦ here | inr here ↦ here ]

-- the face of one text, and of the one behind it
pub face_both : (profile : Profile) (names first second : List (List ℕ)) (a b : Summary) → IsFaceOf profile names first a → IsFaceOf profile names second b
    → IsFaceOf profile names (first ++ second) (composed a b)
face_both profile names first second a b of_first of_second = record {
  stands = λ lines read. (let split = split_readings profile names first second lines read in
      subst (StandsFor profile (composed a b)) (sym split.both)
      (stands_both profile (length names) profile.hold (needles_named split.xs) (needles_named split.ys) a b split.xs split.ys
      (of_first.good split.xs split.of_first (needles_named split.xs) (named_known split.xs)) (of_second.good split.ys split.of_second (needles_named split.ys) (named_known split.ys))
      (of_first.stands split.xs split.of_first) (of_second.stands split.ys split.of_second)));
  good = λ lines read known knows. (let split = split_readings profile names first second lines read in
      let knows_both : AreNeedlesKnown known (split.xs ++ split.ys) = subst (AreNeedlesKnown known) split.both knows in
      good_within (length names) profile.hold (known ++ known) known (composed a b) (within_one known)
      (composed_good (length names) profile.hold known known a b
      (of_first.good split.xs split.of_first known (λ r there. knows_both r (Contains-append_left split.xs split.ys r there)))
      (of_second.good split.ys split.of_second known (λ r there. knows_both r (Contains-append_right split.xs split.ys r there)))));
}

-- how many lines it has
pub face_lines : (profile : Profile) (names text : List (List ℕ)) (face : Summary) → IsFaceOf profile names text face → face.lines ≡ length text
face_lines profile names text face of_text =
    let some = each-reads profile names text in
    (of_text.stands some.0 some.1).lines_are ∙ AllZip-long (ReadsAs profile names) text some.0 some.1
