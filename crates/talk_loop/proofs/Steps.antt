-- A conversation goes on in step.
use Rattle.std.proofs.Common.{◌≡◌, ℕ, ◌≤◌, List, [], ◌∷◌, ◌++◌, length, ap, ◌∙◌, append_assoc, append-nil, subst, sym, refl, arith, length-append}
use Rattle.std.specs.Prelude.{All, flat_map}
use Rattle.std.proofs.lemmas.List.Elements.{All-head, All-tail}
use Rattle.knit_base.specs.Lines.{HasNoLineEnd}
use Rattle.knit_ports.specs.Pieces.{Piece, Heard, Said, AreSaid, heard_in, said_in}
use Rattle.knit_ports.specs.Ears.{AreWaitedFor}
use Rattle.knit_ports.specs.WholeLines.{rest_behind, rest_of, whole_lines, with_feed}
use Rattle.knit_ports.proofs.WholeLines.{rest-more, taken-ends, taken-lines, taken-more}
use Rattle.talk_loop.specs.InStep.{Asking, AreDeskAnswers, IsInStep, due, state_behind, text_of}

-- lines with their feeds have these lines
flat-lines : (lines : List (List ℕ)) → All HasNoLineEnd lines → whole_lines (flat_map with_feed lines) ≡ lines
flat-lines [] ones = refl
flat-lines (line ∷ lines) ones =
    ap whole_lines (append_assoc line (10 ∷ []) (flat_map with_feed lines)) ∙ taken-more [] line (flat_map with_feed lines) refl (All-head HasNoLineEnd line lines ones)
    ∙ ap (λ (l : List (List ℕ)). line ∷ l) (flat-lines lines (All-tail HasNoLineEnd line lines ones))

flat-rest : (lines : List (List ℕ)) → All HasNoLineEnd lines → rest_of (flat_map with_feed lines) ≡ []
flat-rest [] ones = refl
flat-rest (line ∷ lines) ones =
    rest-more [] (with_feed line) (flat_map with_feed lines) ∙ ap (λ (f : List ℕ). rest_behind f (flat_map with_feed lines)) (taken-ends [] line refl (All-head HasNoLineEnd line lines ones))
    ∙ flat-rest lines (All-tail HasNoLineEnd line lines ones)

-- and behind them bytes without a feed have none
pub lines-heard : (lines : List (List ℕ)) (rest : List ℕ) → All HasNoLineEnd lines → HasNoLineEnd rest → whole_lines (flat_map with_feed lines ++ rest) ≡ lines
lines-heard lines rest ones one = taken-lines (flat_map with_feed lines) rest (flat-rest lines ones) one ∙ flat-lines lines ones

-- what is waited for says nothing
pub waited-silent : (before : List ℕ) (ps : List Piece) → AreWaitedFor before ps → said_in ps ≡ []
waited-silent before [] w = refl
waited-silent before (Heard bytes ∷ ps) w = waited-silent (before ++ bytes) ps w.1
waited-silent before (Said bytes ∷ ps) w = absurd w

pub said-deaf : (ps : List Piece) → AreSaid ps → heard_in ps ≡ []
said-deaf [] h = refl
said-deaf (Said bytes ∷ ps) h = said-deaf ps h
said-deaf (Heard bytes ∷ ps) h = absurd h

module _ {Order Answer State : Type 0} (asking : Asking Order Answer State) where
  pub answers-many : (s : State) (os : List Order) (as_ : List Answer) → AreDeskAnswers asking s os as_ → length os ≡ length as_
  answers-many s [] [] h = refl
  answers-many s [] (a ∷ as_) h = absurd h
  answers-many s (o ∷ os) [] h = absurd h
  answers-many s (o ∷ os) (a ∷ as_) h = let rest : length os ≡ length as_ = answers-many (asking.behind s o a) os as_ h.1 in omega (arith, rest)

  pub answers-more : (s : State) (os : List Order) (as_ : List Answer) (more : List Order) (bs : List Answer) → AreDeskAnswers asking s os as_ → AreDeskAnswers asking (state_behind asking s os as_) more bs → AreDeskAnswers asking s (os ++ more) (as_ ++ bs)
  answers-more s [] [] more bs h k = k
  answers-more s [] (a ∷ as_) more bs h k = absurd h
  answers-more s (o ∷ os) [] more bs h k = absurd h
  answers-more s (o ∷ os) (a ∷ as_) more bs h k = (h.0, answers-more (asking.behind s o a) os as_ more bs h.1 k)

  pub text-more : (s : State) (os : List Order) (as_ : List Answer) (more : List Order) (bs : List Answer) → AreDeskAnswers asking s os as_ → text_of asking s (os ++ more) (as_ ++ bs) ≡ text_of asking s os as_ ++ text_of asking (state_behind asking s os as_) more bs
  text-more s [] [] more bs h = refl
  text-more s [] (a ∷ as_) more bs h = absurd h
  text-more s (o ∷ os) [] more bs h = absurd h
  text-more s (o ∷ os) (a ∷ as_) more bs h =
      ap (λ (l : List ℕ). asking.text s o a ++ l) (text-more (asking.behind s o a) os as_ more bs h.1) ∙ sym (append_assoc (asking.text s o a) (text_of asking (asking.behind s o a) os as_) (text_of asking (state_behind asking (asking.behind s o a) os as_) more bs))

  -- answers to later orders don't change what is said for earlier ones
  text-same : (s : State) (os : List Order) (as_ bs : List Answer) → length os ≤ length as_ → text_of asking s os (as_ ++ bs) ≡ text_of asking s os as_
  text-same s [] as_ bs few = refl
  text-same s (o ∷ os) [] bs few = absurd (omega (arith, few))
  text-same s (o ∷ os) (a ∷ as_) bs few = ap (λ (l : List ℕ). asking.text s o a ++ l) (text-same (asking.behind s o a) os as_ bs (omega (arith, few)))

  pub step-answers : (as_ bs : List Answer) (heard said : List ℕ) (ps : List Piece) → IsInStep asking as_ heard said ps → IsInStep asking (as_ ++ bs) heard said ps
  step-answers as_ bs heard said [] h = tt
  step-answers as_ bs heard said (Said bytes ∷ ps) h = step-answers as_ bs heard (said ++ bytes) ps h
  step-answers as_ bs heard said (Heard bytes ∷ ps) h =
      (omega (arith, h.0, length-append as_ bs), h.1 ∙ sym (text-same asking.start (asking.orders (whole_lines heard)) as_ bs h.0), step-answers as_ bs (heard ++ bytes) said ps h.2)

  -- more pieces
  pub step-append : (as_ : List Answer) (heard said : List ℕ) (ps qs : List Piece) → IsInStep asking as_ heard said ps → IsInStep asking as_ (heard ++ heard_in ps) (said ++ said_in ps) qs → IsInStep asking as_ heard said (ps ++ qs)
  step-append as_ heard said [] qs h k = subst (λ (l : List ℕ). IsInStep asking as_ l said qs) (append-nil heard) (subst (λ (l : List ℕ). IsInStep asking as_ (heard ++ []) l qs) (append-nil said) k)
  step-append as_ heard said (Said bytes ∷ ps) qs h k = step-append as_ heard (said ++ bytes) ps qs h (subst (λ (l : List ℕ). IsInStep asking as_ (heard ++ heard_in ps) l qs) (sym (append_assoc said bytes (said_in ps))) k)
  step-append as_ heard said (Heard bytes ∷ ps) qs h k =
      (h.0, h.1, step-append as_ (heard ++ bytes) said ps qs h.2 (subst (λ (l : List ℕ). IsInStep asking as_ l (said ++ said_in ps) qs) (sym (append_assoc heard bytes (heard_in ps))) k))

  -- what is said alone is in step
  pub said-steps : (as_ : List Answer) (heard said : List ℕ) (ps : List Piece) → AreSaid ps → IsInStep asking as_ heard said ps
  said-steps as_ heard said [] h = tt
  said-steps as_ heard said (Said bytes ∷ ps) h = said-steps as_ heard (said ++ bytes) ps h
  said-steps as_ heard said (Heard bytes ∷ ps) h = absurd h

  -- so is what is waited for where all lines are answered, and it was said
  pub waited-steps : (lines : List (List ℕ)) (as_ : List Answer) (heard said before : List ℕ) (ps : List Piece) → All HasNoLineEnd lines → length (asking.orders lines) ≤ length as_ → heard ≡ flat_map with_feed lines ++ before
      → said ≡ due asking lines as_ → AreWaitedFor before ps → IsInStep asking as_ heard said ps
  waited-steps lines as_ heard said before [] ones few is all w = tt
  waited-steps lines as_ heard said before (Said bytes ∷ ps) ones few is all w = absurd w
  waited-steps lines as_ heard said before (Heard bytes ∷ ps) ones few is all w =
      let known : whole_lines heard ≡ lines = ap whole_lines is ∙ lines-heard lines before ones w.0 in (
        subst (λ (l : List (List ℕ)). length (asking.orders l) ≤ length as_) (sym known) few,
        all ∙ ap (λ (l : List (List ℕ)). due asking l as_) (sym known),
        waited-steps lines as_ (heard ++ bytes) said (before ++ bytes) ps ones few (ap (λ (l : List ℕ). l ++ bytes) is ∙ append_assoc (flat_map with_feed lines) before bytes) all w.1,
      )
