-- The face at the root.
use Rattle.std.proofs.Common.{◌≡◌, List, [], ◌∷◌, Option, Some, None, refl, sym, ◌∙◌, arith}
use Rattle.knit_base.specs.declared.instr.Read.{Read}
use Rattle.knit_base.specs.declared.profile.Profile.{Profile}
use Rattle.face_data.proofs.Drafts.{no_lines-applied, no_lines_stand, no_lines_good}
use Rattle.face_data.specs.Drafts.{no_lines}
use Rattle.face_data.specs.Stands.{StandsFor}
use Rattle.summary_tree.specs.Leaves.{EachStandsFor, all_lines, IsWholeOf, StandTogether}

-- no leaf has the face of no line
pub no_leaves : IsWholeOf [] no_lines
no_leaves = record {
  lines = refl;
  runs_all = λ s first. no_lines-applied s first;
  good = λ carriers limit known g. no_lines_good carriers limit known;
  stands = λ profile blocks e. no_text profile blocks e;
}
  where
    no_text : (profile : Profile) (blocks : List (List Read)) → EachStandsFor profile [] blocks → StandsFor profile no_lines (all_lines blocks)
    no_text profile [] e = no_lines_stand profile
    no_text profile (block ∷ blocks) e = absurd e

-- what is there is no none
pub there_and_none : {X : Type 0} {Y : Type 0} (o : Option X) (a : X) → o ≡ Some a → o ≡ None → Y
there_and_none o a e f = let no : Some a ≡ None = sym e ∙ f in absurd (cc)

-- no leaves may stand in a tree
pub none_sound : StandTogether []
none_sound = record { carriers = 0; limit = 0; known = []; few_carriers = omega arith; few_loops = omega arith; numbered = λ k d h. absurd (omega arith); good = tt; few_lines = omega arith }
