-- What a loop keeps that says a text.
use Rattle.std.proofs.Common.{◌≡◌, ℕ, ◌+◌, ◌≤◌, List, [], ◌∷◌, ◌++◌, length, take, drop, None, Some, ap, ◌∙◌, append_assoc, append-nil, ◌-◌, subst, sym, refl, arith, length-drop}
use Rattle.std.proofs.Math.Seq.{take-add}
use Rattle.std.proofs.lemmas.List.{take_all}
use Rattle.std.specs.declared.option.Option.{Option}
use Rattle.knit_ports.specs.Pieces.{Piece, Heard, Said, AreSaid, PiecesGoOn, Says, said_in}

-- so many bytes of the text were said, and nothing was heard
pub record SaidSoFar (old now : Option (List Piece)) (before after : ℕ) (text : List ℕ) (done : ℕ) : Type 0 where
  pub within : done ≤ length text
  pub says : Says old now (take done text)
  pub calm : after ≡ before

-- pieces, and then more of them
pub goes-trans : (a b c : Option (List Piece)) (ps qs : List Piece) → PiecesGoOn a b ps → PiecesGoOn b c qs → PiecesGoOn a c (ps ++ qs)
goes-trans None b c ps qs first second = tt
goes-trans (Some u) None c ps qs first second = absurd first
goes-trans (Some u) (Some v) None ps qs first second = absurd second
goes-trans (Some u) (Some v) (Some w) ps qs first second = second ∙ ap (λ l. l ++ qs) first ∙ append_assoc u ps qs

said-both : (ps qs : List Piece) → AreSaid ps → AreSaid qs → AreSaid (ps ++ qs)
said-both [] qs a b = b
said-both (Heard bytes ∷ ps) qs a b = absurd a
said-both (Said bytes ∷ ps) qs a b = said-both ps qs a b

pub said_in-append : (ps qs : List Piece) → said_in (ps ++ qs) ≡ said_in ps ++ said_in qs
said_in-append [] qs = refl
said_in-append (Heard bytes ∷ ps) qs = said_in-append ps qs
said_in-append (Said bytes ∷ ps) qs = ap (λ l. bytes ++ l) (said_in-append ps qs) ∙ sym (append_assoc bytes (said_in ps) (said_in qs))

-- nothing yet
pub said-none : (a : Option (List Piece)) → Says a a []
said-none None = ([], tt, tt, refl)
said-none (Some ps) = ([], sym (append-nil ps), tt, refl)

-- one more call
pub said-more : (old now new : Option (List Piece)) (before between after : ℕ) (text : List ℕ) (done n : ℕ)
    → SaidSoFar old now before between text done
    → n ≤ length (take (length text - done) (drop done text))
    → PiecesGoOn now new (Said (take n (take (length text - done) (drop done text))) ∷ [])
    → after ≡ between
    → SaidSoFar old new before after text (done + n)
said-more old now new before between after text done n so_far bound said still =
    let left : List ℕ = take (length text - done) (drop done text) in
    let piece : List Piece = Said (take n left) ∷ [] in
    let rest : left ≡ drop done text = take_all (length text - done) (drop done text) (omega (arith, length-drop done text)) in
    let count : n ≤ length (drop done text) = subst (λ l. n ≤ length l) rest bound in
    record {
      within = omega (arith, length-drop done text, count, so_far.within);
      says = (
        so_far.says.0 ++ piece,
        goes-trans old now new so_far.says.0 piece so_far.says.1 said,
        said-both so_far.says.0 piece so_far.says.2 tt,
        said_in-append so_far.says.0 piece
            ∙ ap (λ l. l ++ (take n left ++ [])) so_far.says.3
            ∙ ap (λ l. take done text ++ l) (append-nil (take n left) ∙ ap (take n) rest)
            ∙ sym (take-add done n text),
      );
      calm = still ∙ so_far.calm;
    }

-- a call that failed said nothing
pub said-same : (old now new : Option (List Piece)) (text : List ℕ) → Says old now text → PiecesGoOn now new [] → Says old new text
said-same old now new text s g = (s.0 ++ [], goes-trans old now new s.0 [] s.1 g, said-both s.0 [] s.2 tt, said_in-append s.0 [] ∙ append-nil (said_in s.0) ∙ s.3)
