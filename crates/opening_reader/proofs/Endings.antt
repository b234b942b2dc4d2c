-- What is told where the input ends.
use Rattle.std.proofs.Common.{◌≡◌, ℕ, ◌+◌, ◌<◌, List, [], ◌∷◌, ◌++◌, length, map, ap, ◌∙◌, append-nil, sym, refl, subst, arith}
use Rattle.std.specs.Prelude.{Result, Err}
use Rattle.knit_base.specs.Lines.{without_return}
use Rattle.opening_reader.specs.Fronts.{HoldsFront, IsFinished, IsOpeningUnfinished, StopsAt, at_last, behind_last}
use Rattle.opening_reader.specs.HeardOpenings.{last_line}
use Rattle.opening_reader.specs.Openings.{cause_at_end}
use Rattle.opening_reader.specs.declared.front.Front.{Front}
use Rattle.opening_reader.specs.declared.opening.OpeningFault.{OpeningFault}
use Rattle.opening_reader.specs.declared.opening.OpeningFault.TheVariants as fault
use Rattle.opening_reader.specs.declared.opening.OpeningText.{OpeningText}
use Rattle.opening_reader.proofs.TakenLines.{front-of}

abbrev refusal : OpeningFault → Result OpeningText OpeningFault
refusal told = Err told

-- a last line that has bytes is a line
pub last-some : (came : List (List ℕ)) (last : List ℕ) → 0 < length last → map without_return (last_line last) ≡ without_return last ∷ []
last-some came [] some = absurd (omega (arith, some))
last-some came (byte ∷ bytes) some = refl

-- an opening would go on behind all lines
unfinished-behind : (front : Front) (lines text all : List (List ℕ)) (last : List ℕ) (told : OpeningFault) → all ≡ lines ++ map without_return (last_line last) → HoldsFront front all text → IsOpeningUnfinished front.wanted
    → told ≡ fault.At (length all + 1) (cause_at_end all) → IsFinished (refusal told) lines last
unfinished-behind front lines text all last told is h wanted same =
    subst (λ (f : OpeningFault). IsFinished (refusal f) lines last) (sym same) (behind_last all is (front-of front all text h wanted) refl refl)

-- there is no last line
pub none-behind : (front : Front) (lines text : List (List ℕ)) (last : List ℕ) (told : OpeningFault) → HoldsFront front lines text → IsOpeningUnfinished front.wanted → last ≡ []
    → told ≡ fault.At (length lines + 1) (cause_at_end lines) → IsFinished (refusal told) lines last
none-behind front lines text last told h wanted none same =
    unfinished-behind front lines text lines last told (sym (append-nil lines) ∙ ap (λ (l : List ℕ). lines ++ map without_return (last_line l)) (sym none)) h wanted same

-- one was taken, and more are wanted
pub more-wanted : (front : Front) (lines text : List (List ℕ)) (last : List ℕ) (told : OpeningFault) → HoldsFront front (lines ++ without_return last ∷ []) text → IsOpeningUnfinished front.wanted → 0 < length last
    → told ≡ fault.At (length (lines ++ without_return last ∷ []) + 1) (cause_at_end (lines ++ without_return last ∷ [])) → IsFinished (refusal told) lines last
more-wanted front lines text last told h wanted some same =
    unfinished-behind front lines text (lines ++ without_return last ∷ []) last told (ap (λ (l : List (List ℕ)). lines ++ l) (sym (last-some lines last some))) h wanted same

-- it can't be taken
pub last-stops : (lines : List (List ℕ)) (last : List ℕ) (told : OpeningFault) → 0 < length last → StopsAt lines (without_return last) told → IsFinished (refusal told) lines last
last-stops lines last (fault.At number cause) some stops = at_last some stops
last-stops lines last fault.TooManyBytes some stops = (some, stops)
last-stops lines last fault.Failed some stops = absurd stops
last-stops lines last fault.NoMemory some stops = (some, stops)
