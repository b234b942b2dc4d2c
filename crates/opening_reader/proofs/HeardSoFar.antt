-- What the loop keeps that hears the lines of an opening.
use Rattle.std.proofs.Common.{◌≡◌, ℕ, ◌+◌, ◌-◌, ◌^◌, ◌<◌, ◌≤◌, List, [], ◌∷◌, ◌++◌, length, map, None, Some, ap, ◌∙◌, append_assoc, append-nil, sym, refl, subst, arith, length-append}
use Rattle.std.specs.Prelude.{All, IfOk, Result, Ok, Err, flat_map}
use Rattle.std.specs.declared.option.Option.{Option}
use Rattle.std.proofs.lemmas.List.{length-map, map-append}
use Rattle.std.proofs.lemmas.List.Concat.{flat_map-append}
use Rattle.std.proofs.lemmas.List.Elements.{All-head, All-nil, All-push, All-tail}
use Rattle.knit_base.specs.Lines.{HasNoLineEnd, IsLine, without_return}
use Rattle.knit_ports.specs.Ears.{AreWaitedFor, EarView, IsFrontHeard, IsLineHeard}
use Rattle.knit_ports.specs.Pieces.{Piece, Heard, Said, PiecesGoOn, heard_in}
use Rattle.knit_ports.specs.WholeLines.{rest_behind, rest_of, whole_lines, with_feed}
use Rattle.knit_ports.specs.declared.ear.LineEnd.{LineEnd}
use Rattle.knit_ports.specs.declared.limit.TheConstants.{HEARD_LIMIT}
use Rattle.knit_ports.specs.declared.ear.LineEnd.TheVariants.{LineFeed, InputEnd, Endless}
use Rattle.knit_ports.proofs.HeardLines.{heard_in-append}
use Rattle.knit_ports.proofs.SaidPieces.{goes-trans}
use Rattle.knit_ports.proofs.WholeLines.{rest-more, taken-ends, taken-lines, taken-more}
use Rattle.opening_reader.specs.Fronts.{HoldsFront, IsFinished, IsOpeningUnfinished, IsWanted, IsWholeOpening, StopsAt, StopsAtEnd, at_last, behind_last, lines_told_by}
use Rattle.opening_reader.specs.HeardOpenings.{AreAll, ArePiecesHeard, AreLinesHeard, EndsIn, EndsOpening, IsAwaited, IsHearingOver, IsOpeningRefused, OpeningCause, at_end, at_line, behind_all, broken_off, endless, last_line, whole}
use Rattle.opening_reader.specs.Openings.{CantStand, IsOpeningFront, IsNextText, IsTooMuch}
use Rattle.opening_reader.specs.declared.front.Front.{Front}
use Rattle.opening_reader.specs.declared.opening.OpeningFault.{OpeningFault}
use Rattle.opening_reader.specs.declared.opening.OpeningFault.TheVariants as fault
use Rattle.opening_reader.specs.declared.opening.OpeningText.{OpeningText}
use Rattle.opening_reader.specs.declared.opening.Wanted.{Wanted}
use Rattle.script_reader.specs.declared.fault.Cause.{Cause}
use Rattle.opening_reader.proofs.Endings.{last-some}
use Rattle.opening_reader.proofs.TakenLines.{front-of, has-room}

-- lines with their feeds have these lines
flat-lines : (lines : List (List ℕ)) → All HasNoLineEnd lines → whole_lines (flat_map with_feed lines) ≡ lines
flat-lines [] ones = refl
flat-lines (line ∷ lines) ones =
    ap whole_lines (append_assoc line (10 ∷ []) (flat_map with_feed lines)) ∙ taken-more [] line (flat_map with_feed lines) refl (All-head HasNoLineEnd line lines ones)
    ∙ ap (λ (l : List (List ℕ)). line ∷ l) (flat-lines lines (All-tail HasNoLineEnd line lines ones))

flat-rest : (lines : List (List ℕ)) → All HasNoLineEnd lines → rest_of (flat_map with_feed lines) ≡ []
flat-rest [] ones = refl
flat-rest (line ∷ lines) ones =
    rest-more [] (with_feed line) (flat_map with_feed lines) ∙ ap (λ (f : List ℕ). rest_behind f (flat_map with_feed lines)) (taken-ends [] line refl (All-head HasNoLineEnd line lines ones))
    ∙ flat-rest lines (All-tail HasNoLineEnd line lines ones)

-- and behind them bytes without a feed have none
lines-heard : (lines : List (List ℕ)) (rest : List ℕ) → All HasNoLineEnd lines → HasNoLineEnd rest → whole_lines (flat_map with_feed lines ++ rest) ≡ lines
lines-heard lines rest ones one = taken-lines (flat_map with_feed lines) rest (flat-rest lines ones) one ∙ flat-lines lines ones

-- more lines may be waited for
awaited-more : (count : ℕ) (heard : List ℕ) (ps : List Piece) → IsAwaited count heard ps → IsAwaited (count + 1) heard ps
awaited-more count heard [] a = tt
awaited-more count heard (Said bytes ∷ ps) a = absurd a
awaited-more count heard (Heard bytes ∷ ps) a = (let few = a.0 in omega (arith, few), awaited-more count (heard ++ bytes) ps a.1)

awaited-append : (count : ℕ) (heard : List ℕ) (ps qs : List Piece) → IsAwaited count heard ps → IsAwaited count (heard ++ heard_in ps) qs → IsAwaited count heard (ps ++ qs)
awaited-append count heard [] qs a b = subst (λ (l : List ℕ). IsAwaited count l qs) (append-nil heard) b
awaited-append count heard (Said bytes ∷ ps) qs a b = absurd a
awaited-append count heard (Heard bytes ∷ ps) qs a b =
    (a.0, awaited-append count (heard ++ bytes) ps qs a.1 (subst (λ (l : List ℕ). IsAwaited count l qs) (sym (append_assoc heard bytes (heard_in ps))) b))

-- what is waited for behind whole lines is awaited with one more
awaited-behind : (lines : List (List ℕ)) (heard before : List ℕ) (ps : List Piece) → All HasNoLineEnd lines → heard ≡ flat_map with_feed lines ++ before → AreWaitedFor before ps → IsAwaited (length lines + 1) heard ps
awaited-behind lines heard before [] ones is w = tt
awaited-behind lines heard before (Said bytes ∷ ps) ones is w = absurd w
awaited-behind lines heard before (Heard bytes ∷ ps) ones is w =
    let known : length (whole_lines heard) ≡ length lines = ap length (ap whole_lines is ∙ lines-heard lines before ones w.0) in (
      omega (arith, known),
      awaited-behind lines (heard ++ bytes) (before ++ bytes) ps ones (ap (λ (l : List ℕ). l ++ bytes) is ∙ append_assoc (flat_map with_feed lines) before bytes) w.1,
    )

goes-none : (a : Option (List Piece)) → PiecesGoOn a a []
goes-none None = tt
goes-none (Some ps) = sym (append-nil ps)

-- So many lines were heard, with which an opening begins and isn't whole.
pub record SoFar (old now : Option (List Piece)) (pending : List ℕ) (text : List (List ℕ)) (front : Front) (count : ℕ) : Type 0 where
  pub pieces : List Piece
  pub came : List (List ℕ)
  pub goes : PiecesGoOn old now pieces
  pub heard : ArePiecesHeard pieces came pending (length came)
  pub holds : HoldsFront front (map without_return came) text
  pub wanted : IsOpeningUnfinished front.wanted
  pub counted : count ≡ length came

abbrev pub Ended : Option (List Piece) → Option (List Piece) → List ℕ → Result OpeningText OpeningFault → Type 0
Ended old new pending r = (pieces : List Piece) × PiecesGoOn old new pieces × EndsOpening pieces pending r

-- there aren't so many lines that no more are heard
pub never-over : (old now : Option (List Piece)) (pending : List ℕ) (text : List (List ℕ)) (front : Front) (count : ℕ) → SoFar old now pending text front count → 16777217 ≤ count → ⊥
never-over old now pending text front count s many =
    let room = has-room front (map without_return s.came) text s.holds in
    let lines = room.lines in
    let bytes = room.bytes in
    let counted = s.counted in
    let held = s.holds.counted in omega (arith, many, lines, bytes, counted, held, length-map s.came without_return)

-- more was heard where no whole line was pending
hears : (old now : Option (List Piece)) (pending : List ℕ) (text : List (List ℕ)) (front : Front) (count : ℕ) (s : SoFar old now pending text front count) (ps : List Piece) → AreWaitedFor pending ps
    → ArePiecesHeard (s.pieces ++ ps) s.came (pending ++ heard_in ps) (length s.came + 1)
hears old now pending text front count s ps w =
    let h = s.heard in
    record {
      heard = heard_in-append s.pieces ps ∙ ap (λ (l : List ℕ). l ++ heard_in ps) h.heard ∙ append_assoc (flat_map with_feed s.came) pending (heard_in ps);
      ones = h.ones;
      awaited = awaited-append (length s.came + 1) [] s.pieces ps (awaited-more (length s.came) [] s.pieces h.awaited) (awaited-behind s.came (heard_in s.pieces) pending ps h.ones h.heard w);
    }

-- nothing was heard yet
pub nothing_heard_so_far : (old : Option (List Piece)) (pending : List ℕ) (text : List (List ℕ)) (front : Front) → pending ≡ [] → text ≡ [] → front.lines ≡ 0 → front.bytes ≡ 0 → front.wanted ≡ None → SoFar old old pending text front 0
nothing_heard_so_far old pending text front none no_text no_lines no_bytes unknown = record {
  pieces = [];
  came = [];
  goes = goes-none old;
  heard = record { heard = sym none; ones = All-nil HasNoLineEnd; awaited = tt };
  holds = record {
    counted = no_lines;
    bytes = no_bytes;
    good = record { readable = tt; few = omega arith };
    wanted = subst (IsWanted []) (sym unknown) refl;
    text_is = no_text ∙ ap (λ (o : Option Wanted). lines_told_by o []) (sym unknown);
    texts = subst (All IsLine) (sym no_text) (All-nil IsLine);
    short = subst (All (λ (l : List ℕ). length l ≤ HEARD_LIMIT)) (sym no_text) (All-nil (λ (l : List ℕ). length l ≤ HEARD_LIMIT));
  };
  wanted = subst IsOpeningUnfinished (sym unknown) tt;
  counted = refl;
}

-- one more line has its feed
line-more : (pieces : List Piece) (came : List (List ℕ)) (line pending : List ℕ) (count : ℕ) → ArePiecesHeard pieces came (line ++ 10 ∷ pending) count → HasNoLineEnd line → ArePiecesHeard pieces (came ++ line ∷ []) pending count
line-more pieces came line pending count h one = record {
  heard = h.heard ∙ ap (λ (l : List ℕ). flat_map with_feed came ++ l) (sym (append_assoc line (10 ∷ []) pending)) ∙ sym (append_assoc (flat_map with_feed came) (with_feed line) pending)
      ∙ ap (λ (l : List ℕ). (flat_map with_feed came ++ l) ++ pending) (sym (append-nil (with_feed line))) ∙ ap (λ (l : List ℕ). l ++ pending) (sym (flat_map-append with_feed came (line ∷ [])));
  ones = All-push HasNoLineEnd came line h.ones one;
  awaited = h.awaited;
}

module _ (old now heard : Option (List Piece)) (before after : EarView) (text : List (List ℕ)) (front : Front) (count : ℕ) (s : SoFar old now before.pending text front count) where
  open-front : IsOpeningFront (map without_return s.came)
  open-front = front-of front (map without_return s.came) text s.holds s.wanted

  line-heard : (h : IsLineHeard now heard before after LineFeed) → ArePiecesHeard (s.pieces ++ (h.pieces ++ [])) (s.came ++ h.line ∷ []) after.pending (length (s.came ++ h.line ∷ []))
  line-heard h =
      let ps : List Piece = h.pieces ++ [] in
      let parted : before.pending ++ heard_in ps ≡ h.line ++ 10 ∷ after.pending = ap (λ (l : List Piece). before.pending ++ heard_in l) (append-nil h.pieces) ∙ h.ends in
      let many : ArePiecesHeard (s.pieces ++ ps) s.came (h.line ++ 10 ∷ after.pending) (length s.came + 1) =
      subst (λ (l : List ℕ). ArePiecesHeard (s.pieces ++ ps) s.came l (length s.came + 1)) parted (hears old now before.pending text front count s ps h.waited) in
      subst (ArePiecesHeard (s.pieces ++ ps) (s.came ++ h.line ∷ []) after.pending) (sym (length-append s.came (h.line ∷ []))) (line-more (s.pieces ++ ps) s.came h.line after.pending (length s.came + 1) many h.one)

  line-taken : (h : IsLineHeard now heard before after LineFeed) → AreLinesHeard (s.pieces ++ (h.pieces ++ [])) (map without_return s.came ++ without_return h.line ∷ []) after.pending
  line-taken h = whole (s.came ++ h.line ∷ []) (sym (map-append without_return s.came (h.line ∷ []))) (line-heard h)

  goes-to : (h : IsLineHeard now heard before after LineFeed) → PiecesGoOn old heard (s.pieces ++ (h.pieces ++ []))
  goes-to h = goes-trans old now heard s.pieces (h.pieces ++ []) s.goes h.goes

  -- one more line is taken
  pub goes-on : (h : IsLineHeard now heard before after LineFeed) (next : Front) (new : List (List ℕ)) → HoldsFront next (map without_return s.came ++ without_return h.line ∷ []) new → IsOpeningUnfinished next.wanted
      → SoFar old heard after.pending new next (count + 1)
  goes-on h next new holds wanted = record {
    pieces = s.pieces ++ (h.pieces ++ []);
    came = s.came ++ h.line ∷ [];
    goes = goes-to h;
    heard = line-heard h;
    holds = subst (λ (l : List (List ℕ)). HoldsFront next l new) (sym (map-append without_return s.came (h.line ∷ []))) holds;
    wanted = wanted;
    counted = ap (λ (n : ℕ). n + 1) s.counted ∙ sym (length-append s.came (h.line ∷ []));
  }

  ends-in : (h : IsLineHeard now heard before after LineFeed) (IsLast : List (List ℕ) → List ℕ → Type 0) → IsLast (map without_return s.came) (without_return h.line) → EndsIn (s.pieces ++ (h.pieces ++ [])) after.pending IsLast
  ends-in h IsLast last = record { lines = map without_return s.came; line = without_return h.line; heard = line-taken h; front = open-front; last = last }

  stops-by : (h : IsLineHeard now heard before after LineFeed) (f : OpeningFault) → StopsAt (map without_return s.came) (without_return h.line) f → EndsOpening (s.pieces ++ (h.pieces ++ [])) after.pending (Err f)
  stops-by h (fault.At number cause) stops = at_line (ends-in h (λ lines line. (number ≡ length lines + 1) × CantStand lines line cause) stops)
  stops-by h fault.TooManyBytes stops = ends-in h IsTooMuch stops
  stops-by h fault.Failed stops = absurd stops
  stops-by h fault.NoMemory stops = ends-in h IsNextText stops

  -- it can't be taken
  pub ended_by_refused_line : (h : IsLineHeard now heard before after LineFeed) (f : OpeningFault) → StopsAt (map without_return s.came) (without_return h.line) f → Ended old heard after.pending (Err f)
  ended_by_refused_line h f stops = (s.pieces ++ (h.pieces ++ []), goes-to h, stops-by h f stops)

  -- the opening is whole with it
  pub ended_by_whole_opening : (h : IsLineHeard now heard before after LineFeed) (opening : OpeningText) → IsWholeOpening (map without_return s.came ++ without_return h.line ∷ []) opening → Ended old heard after.pending (Ok opening)
  ended_by_whole_opening h opening w = (
    s.pieces ++ (h.pieces ++ []),
    goes-to h,
    record { lines = map without_return s.came ++ without_return h.line ∷ []; heard = line-taken h; counted = w.counted; is_opening = w.is_opening },
  )

  -- the call failed
  pub ended_by_failure : IsFrontHeard now heard before after → Ended old heard after.pending (Err fault.Failed)
  ended_by_failure h = (
    s.pieces ++ h.pieces,
    goes-trans old now heard s.pieces h.pieces s.goes h.goes,
    record {
      came = s.came;
      rest = before.pending ++ heard_in h.pieces;
      heard = hears old now before.pending text front count s h.pieces h.waited;
      one = h.one;
      front = open-front;
      none = h.none;
    },
  )

-- what is told where the input ends
module _ (pieces : List Piece) (came : List (List ℕ)) (last pending : List ℕ) (front : IsOpeningFront (map without_return came)) (a : ArePiecesHeard pieces came (last ++ pending) (length came + 1)) (one : HasNoLineEnd last) (over : IsHearingOver pieces pending) where
  all-heard : AreAll pieces (map without_return came ++ map without_return (last_line last)) last pending
  all-heard = record { came = came; lines_are = sym (map-append without_return came (last_line last)); heard = a; one = one; over = over }

  last-taken : 0 < length last → AreLinesHeard pieces (map without_return came ++ without_return last ∷ []) pending
  last-taken some = broken_off last some (subst (λ (l : List (List ℕ)). AreAll pieces (map without_return came ++ l) last pending) (last-some came last some) all-heard)

  last-in : (IsLast : List (List ℕ) → List ℕ → Type 0) → 0 < length last → IsLast (map without_return came) (without_return last) → EndsIn pieces pending IsLast
  last-in IsLast some is = record { lines = map without_return came; line = without_return last; heard = last-taken some; front = front; last = is }

  refused-at : (number : ℕ) (cause : Cause) → StopsAtEnd (map without_return came) last number cause → IsOpeningRefused pieces pending number cause
  refused-at number cause (at_last some stops) = at_line (last-in (λ lines line. (number ≡ length lines + 1) × CantStand lines line cause) some stops)
  refused-at number cause (behind_last all is front_all counted same) = behind_all all last (subst (λ (l : List (List ℕ)). AreAll pieces l last pending) (sym is) all-heard) front_all counted same

  finished-by : (r : Result OpeningText OpeningFault) → IsFinished r (map without_return came) last → EndsOpening pieces pending r
  finished-by (Ok opening) f = record { lines = map without_return came ++ without_return last ∷ []; heard = last-taken f.0; counted = f.1.counted; is_opening = f.1.is_opening }
  finished-by (Err (fault.At number cause)) f = refused-at number cause f
  finished-by (Err fault.TooManyBytes) f = last-in IsTooMuch f.0 f.1
  finished-by (Err fault.Failed) f = absurd f
  finished-by (Err fault.NoMemory) f = last-in IsNextText f.0 f.1

module _ (old now heard : Option (List Piece)) (before after : EarView) (text : List (List ℕ)) (front : Front) (count : ℕ) (s : SoFar old now before.pending text front count) where
  ends-by : (ps : List Piece) (line : List ℕ) (r : Result OpeningText OpeningFault) → PiecesGoOn now heard ps → AreWaitedFor before.pending ps → before.pending ++ heard_in ps ≡ line ++ after.pending → HasNoLineEnd line
      → IsHearingOver (s.pieces ++ ps) after.pending → IsFinished r (map without_return s.came) line → Ended old heard after.pending r
  ends-by ps line r goes waited parted one over f = (
    s.pieces ++ ps,
    goes-trans old now heard s.pieces ps s.goes goes,
    finished-by (s.pieces ++ ps) s.came line after.pending (front-of front (map without_return s.came) text s.holds s.wanted)
        (subst (λ (l : List ℕ). ArePiecesHeard (s.pieces ++ ps) s.came l (length s.came + 1)) parted (hears old now before.pending text front count s ps waited)) one over r f,
  )

  -- the input came to its end, or no feed to the line
  pub input-over : (end : LineEnd) (h : IsLineHeard now heard before after end) (r : Result OpeningText OpeningFault) → (end ≡ LineFeed → ⊥) → IsFinished r (map without_return s.came) h.line → Ended old heard after.pending r
  input-over LineFeed h r not f = absurd (not refl)
  input-over InputEnd h r not f =
      ends-by (h.pieces ++ Heard [] ∷ []) h.line r h.goes h.waited
      (ap (λ (l : List ℕ). before.pending ++ l) (heard_in-append h.pieces (Heard [] ∷ []) ∙ append-nil (heard_in h.pieces)) ∙ h.ends.0 ∙ sym (append-nil h.line) ∙ ap (λ (l : List ℕ). h.line ++ l) (sym h.ends.1)) h.one
      (at_end (s.pieces ++ h.pieces) (sym (append_assoc s.pieces h.pieces (Heard [] ∷ []))) h.ends.1) f
  input-over Endless h r not f =
      ends-by (h.pieces ++ []) h.line r h.goes h.waited (ap (λ (l : List Piece). before.pending ++ heard_in l) (append-nil h.pieces) ∙ h.ends.0) h.one
      (endless (
      let all : length (s.pieces ++ (h.pieces ++ [])) ≡ length s.pieces + (length h.pieces + 0) = length-append s.pieces (h.pieces ++ []) ∙ ap (λ (n : ℕ). length s.pieces + n) (length-append h.pieces []) in
      let many : length h.pieces ≡ 2 ^ 64 - 1 = h.ends.1 in omega (arith, all, many))) f

-- the texts of an opening are lines, short ones, and not too many
pub texts-told : (r : Result OpeningText OpeningFault) (lines : List (List ℕ)) (last : List ℕ) → IsFinished r lines last → IfOk r (λ opening. All IsLine opening.text)
texts-told (Ok opening) lines last f = f.1.texts.texts
texts-told (Err f) lines last is = tt

pub short-told : (r : Result OpeningText OpeningFault) (lines : List (List ℕ)) (last : List ℕ) → IsFinished r lines last → IfOk r (λ opening. All (λ (line : List ℕ). length line ≤ HEARD_LIMIT) opening.text)
short-told (Ok opening) lines last f = f.1.texts.short
short-told (Err f) lines last is = tt

pub few-told : (r : Result OpeningText OpeningFault) (lines : List (List ℕ)) (last : List ℕ) → IsFinished r lines last → IfOk r (λ opening. length opening.text ≤ 16777216)
few-told (Ok opening) lines last f = f.1.texts.few
few-told (Err f) lines last is = tt

-- no call failed, and no failure is told
pub calm-told : (before after : ℕ) (r : Result OpeningText OpeningFault) (lines : List (List ℕ)) (last : List ℕ) → IsFinished r lines last → after ≡ before → OpeningCause before after r
calm-told before after (Ok opening) lines last f calm = calm
calm-told before after (Err (fault.At number cause)) lines last f calm = calm
calm-told before after (Err fault.TooManyBytes) lines last f calm = calm
calm-told before after (Err fault.Failed) lines last f calm = absurd f
calm-told before after (Err fault.NoMemory) lines last f calm = calm

pub calm-stopped : (before after : ℕ) (f : OpeningFault) (lines : List (List ℕ)) (line : List ℕ) → StopsAt lines line f → after ≡ before → OpeningCause before after (Err f)
calm-stopped before after (fault.At number cause) lines line stops calm = calm
calm-stopped before after fault.TooManyBytes lines line stops calm = calm
calm-stopped before after fault.Failed lines line stops calm = absurd stops
calm-stopped before after fault.NoMemory lines line stops calm = calm
