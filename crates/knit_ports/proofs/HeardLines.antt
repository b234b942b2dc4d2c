-- What the loop keeps that hears a line.
use Rattle.std.proofs.Common.{◌≡◌, ◌≢◌, ℕ, zero, suc, ◌+◌, ◌-◌, ◌<◌, ◌≤◌, min, List, [], ◌∷◌, ◌++◌, length, take, drop, None, Some, ap, ◌∙◌, append_assoc, append-nil, subst, sym, refl, arith, length-append}
use Rattle.std.specs.Prelude.{Result, Ok, Err, OnErr}
use Rattle.std.proofs.lemmas.List.{drop-drop, drop-take, length-take, take_min}
use Rattle.std.proofs.Math.Seq.{take-append-add}
use Rattle.std.proofs.lemmas.List.Elements.{All-append}
use Rattle.std.specs.declared.option.Option.{Option}
use Rattle.knit_base.specs.Lines.{HasNoLineEnd}
use Rattle.knit_ports.specs.declared.ear.LineEnd.TheVariants.{LineFeed, InputEnd}
use Rattle.knit_ports.specs.Pieces.{Piece, Heard, Said, PiecesGoOn, heard_in}
use Rattle.knit_ports.specs.Ears.{AreWaitedFor, EarView, HaveBytes, IsFrontHeard, IsLineHeard, kept_front, kept_limit}
use Rattle.knit_ports.proofs.SaidPieces.{goes-trans}

take-front : (n : ℕ) (a b : List ℕ) → take n (take n a ++ b) ≡ take n (a ++ b)
take-front zero a b = refl
take-front (suc n) [] b = refl
take-front (suc n) (x ∷ a) b = ap (λ l. x ∷ l) (take-front n a b)

-- what is kept of a line is told by what was kept of its front
kept-more : (a b : List ℕ) → kept_front (kept_front a ++ b) ≡ kept_front (a ++ b)
kept-more a b = take-front kept_limit a b

pub heard_in-append : (ps qs : List Piece) → heard_in (ps ++ qs) ≡ heard_in ps ++ heard_in qs
heard_in-append [] qs = refl
heard_in-append (Said bytes ∷ ps) qs = heard_in-append ps qs
heard_in-append (Heard bytes ∷ ps) qs = ap (λ l. bytes ++ l) (heard_in-append ps qs) ∙ sym (append_assoc bytes (heard_in ps) (heard_in qs))

-- one more piece, where no whole line was there
waited-more : (before : List ℕ) (ps : List Piece) (bytes : List ℕ) → AreWaitedFor before ps → HasNoLineEnd (before ++ heard_in ps) → AreWaitedFor before (ps ++ Heard bytes ∷ [])
waited-more before [] bytes w free = (subst HasNoLineEnd (append-nil before) free, tt)
waited-more before (Said piece ∷ ps) bytes w free = absurd w
waited-more before (Heard piece ∷ ps) bytes w free =
    (w.0, waited-more (before ++ piece) ps bytes w.1 (subst HasNoLineEnd (sym (append_assoc before piece (heard_in ps))) free))

have-more : (ps : List Piece) (bytes : List ℕ) → HaveBytes ps → 0 < length bytes → HaveBytes (ps ++ Heard bytes ∷ [])
have-more [] bytes h some = (some, tt)
have-more (Heard piece ∷ ps) bytes h some = (h.0, have-more ps bytes h.1 some)
have-more (Said piece ∷ ps) bytes h some = (h.0, have-more ps bytes h.1 some)

-- a front of a line was heard in so many pieces, and its bytes are kept
pub record HearingSoFar (old now : Option (List Piece)) (before after : EarView) (faults still count : ℕ) : Type 0 where
  pub pieces : List Piece
  pub front : List ℕ
  pub goes : PiecesGoOn old now pieces
  pub waited : AreWaitedFor before.pending pieces
  pub some : HaveBytes pieces
  pub one : HasNoLineEnd front
  pub all : before.pending ++ heard_in pieces ≡ front ++ after.pending
  pub kept : after.line ≡ kept_front front
  pub counted : length pieces ≡ count
  pub calm : still ≡ faults

stays : (a : Option (List Piece)) → PiecesGoOn a a []
stays None = tt
stays (Some ps) = sym (append-nil ps)

pub hearing-starts : (a : Option (List Piece)) (before after : EarView) (faults : ℕ) → after.pending ≡ before.pending → after.line ≡ []
    → HearingSoFar a a before after faults faults 0
hearing-starts a before after faults same none = record {
  pieces = [];
  front = [];
  goes = stays a;
  waited = tt;
  some = tt;
  one = λ k d lt e. omega (arith, lt);
  all = append-nil before.pending ∙ sym same;
  kept = none;
  counted = refl;
  calm = refl;
}

-- the line's end is among the pending bytes
pub hearing-ends : (old now : Option (List Piece)) (before between after : EarView) (faults still count : ℕ) (more : List ℕ)
    → HearingSoFar old now before between faults still count → HasNoLineEnd more
    → between.pending ≡ more ++ 10 ∷ after.pending → after.line ≡ kept_front (between.line ++ more) → IsLineHeard old now before after LineFeed
hearing-ends old now before between after faults still count more h free is line = record {
  pieces = h.pieces;
  line = h.front ++ more;
  goes = subst (PiecesGoOn old now) (sym (append-nil h.pieces)) h.goes;
  waited = subst (AreWaitedFor before.pending) (sym (append-nil h.pieces)) h.waited;
  some = h.some;
  one = All-append (λ (byte : ℕ). byte ≢ 10) h.front more h.one free;
  ends = h.all ∙ ap (λ l. h.front ++ l) is ∙ sym (append_assoc h.front more (10 ∷ after.pending));
  kept = line ∙ ap (λ l. kept_front (l ++ more)) h.kept ∙ kept-more h.front more;
}

-- no end is among them: they belong to the line's front
pub hearing-goes : (old now : Option (List Piece)) (before between after : EarView) (faults still count : ℕ)
    → HearingSoFar old now before between faults still count → HasNoLineEnd between.pending
    → after.pending ≡ [] → after.line ≡ kept_front (between.line ++ between.pending) → HearingSoFar old now before after faults still count
hearing-goes old now before between after faults still count h free none line = record {
  pieces = h.pieces;
  front = h.front ++ between.pending;
  goes = h.goes;
  waited = h.waited;
  some = h.some;
  one = All-append (λ (byte : ℕ). byte ≢ 10) h.front between.pending h.one free;
  all = h.all ∙ sym (append-nil (h.front ++ between.pending)) ∙ ap (λ l. (h.front ++ between.pending) ++ l) (sym none);
  kept = line ∙ ap (λ l. kept_front (l ++ between.pending)) h.kept ∙ kept-more h.front between.pending;
  counted = h.counted;
  calm = h.calm;
}

-- all that was heard is the line's front
whole-front : (old now : Option (List Piece)) (before after : EarView) (faults still count : ℕ)
    (h : HearingSoFar old now before after faults still count) → after.pending ≡ [] → before.pending ++ heard_in h.pieces ≡ h.front
whole-front old now before after faults still count h none = h.all ∙ ap (λ l. h.front ++ l) none ∙ append-nil h.front

-- more bytes were waited for
pub hearing-waits : (old now new : Option (List Piece)) (before between after : EarView) (faults still after_faults count : ℕ)
    → HearingSoFar old now before between faults still count → between.pending ≡ [] → PiecesGoOn now new (Heard after.pending ∷ [])
    → 0 < length after.pending → after.line ≡ between.line → after_faults ≡ still → HearingSoFar old new before after faults after_faults (count + 1)
hearing-waits old now new before between after faults still after_faults count h none said some line calm =
    let whole : before.pending ++ heard_in h.pieces ≡ h.front = whole-front old now before between faults still count h none in
    record {
      pieces = h.pieces ++ Heard after.pending ∷ [];
      front = h.front;
      goes = goes-trans old now new h.pieces (Heard after.pending ∷ []) h.goes said;
      waited = waited-more before.pending h.pieces after.pending h.waited (subst HasNoLineEnd (sym whole) h.one);
      some = have-more h.pieces after.pending h.some some;
      one = h.one;
      all = ap (λ l. before.pending ++ l) (heard_in-append h.pieces (Heard after.pending ∷ []) ∙ ap (λ l. heard_in h.pieces ++ l) (append-nil after.pending))
          ∙ sym (append_assoc before.pending (heard_in h.pieces) after.pending) ∙ ap (λ l. l ++ after.pending) whole;
      kept = line ∙ h.kept;
      counted = length-append h.pieces (Heard after.pending ∷ []) ∙ ap (λ (n : ℕ). n + 1) h.counted;
      calm = calm ∙ h.calm;
    }

-- there were none: the input's end is the line's
pub hearing-last : (old now new : Option (List Piece)) (before between after : EarView) (faults still count : ℕ)
    → HearingSoFar old now before between faults still count → between.pending ≡ [] → PiecesGoOn now new (Heard after.pending ∷ [])
    → after.pending ≡ [] → after.line ≡ between.line → IsLineHeard old new before after InputEnd
hearing-last old now new before between after faults still count h none said ended line =
    let whole : before.pending ++ heard_in h.pieces ≡ h.front = whole-front old now before between faults still count h none in
    record {
      pieces = h.pieces;
      line = h.front;
      goes = goes-trans old now new h.pieces (Heard [] ∷ []) h.goes (subst (λ (l : List ℕ). PiecesGoOn now new (Heard l ∷ [])) ended said);
      waited = waited-more before.pending h.pieces [] h.waited (subst HasNoLineEnd (sym whole) h.one);
      some = h.some;
      one = h.one;
      ends = (whole, ended);
      kept = line ∙ h.kept;
    }

-- the call failed
pub hearing-fails : (old now new : Option (List Piece)) (before between after : EarView) (faults still count : ℕ)
    → HearingSoFar old now before between faults still count → between.pending ≡ [] → PiecesGoOn now new []
    → after.pending ≡ [] → after.line ≡ between.line → IsFrontHeard old new before after
hearing-fails old now new before between after faults still count h none said gone line =
    let whole : before.pending ++ heard_in h.pieces ≡ h.front = whole-front old now before between faults still count h none in
    record {
      pieces = h.pieces;
      goes = subst (PiecesGoOn old new) (append-nil h.pieces) (goes-trans old now new h.pieces [] h.goes said);
      waited = h.waited;
      some = h.some;
      one = subst HasNoLineEnd (sym whole) h.one;
      none = gone;
      kept = line ∙ h.kept ∙ ap kept_front (sym whole);
    }

-- the pending bytes behind a line feed
rest-behind : (bytes : List ℕ) (at end n : ℕ) → at + (n + 1) ≤ end
    → drop (n + 1) (take (end - at) (drop at bytes)) ≡ take (end - (at + (n + 1))) (drop (at + (n + 1)) bytes)
rest-behind bytes at end n within =
    let parts : end - at ≡ (n + 1) + (end - (at + (n + 1))) = omega (arith, within) in
    ap (λ k. drop (n + 1) (take k (drop at bytes))) parts ∙ drop-take (n + 1) (end - (at + (n + 1))) (drop at bytes)
    ∙ ap (take (end - (at + (n + 1)))) (drop-drop (n + 1) at bytes)

-- the first line feed of what is pending
pub pending-parts : (bytes rest pending : List ℕ) (at end n : ℕ) → pending ≡ take (end - at) (drop at bytes) → rest ≡ take (end - at) (drop at bytes) → n < length rest
    → rest ≡ take n rest ++ 10 ∷ drop (n + 1) rest → pending ≡ take n rest ++ 10 ∷ take (end - (at + (n + 1))) (drop (at + (n + 1)) bytes)
pending-parts bytes rest pending at end n same is place split =
    let room : at + (n + 1) ≤ end = omega (arith, place, ap length is, length-take (end - at) (drop at bytes)) in
    same ∙ sym is ∙ split ∙ ap (λ l. take n rest ++ 10 ∷ l) (ap (drop (n + 1)) is ∙ rest-behind bytes at end n room)

-- what is kept of a line that goes on
pub kept-of : (a b new : List ℕ) (room n : ℕ) → length a ≤ kept_limit → room ≡ kept_limit - length a → n ≡ min room (length b) → new ≡ a ++ take n b → new ≡ kept_front (a ++ b)
kept-of a b new room n short is least made =
    let parts : length a + room ≡ kept_limit = omega (arith, short, is) in
    made ∙ ap (λ (k : ℕ). a ++ take k b) least ∙ ap (λ (l : List ℕ). a ++ l) (take_min room b) ∙ sym (take-append-add a b room)
    ∙ ap (λ (k : ℕ). take k (a ++ b)) parts

-- what holds, holds where there is an error
pub on_err-anyhow : {T E P : Type 0} (r : Result T E) → P → OnErr r P
on_err-anyhow (Ok x) p = tt
on_err-anyhow (Err e) p = p
