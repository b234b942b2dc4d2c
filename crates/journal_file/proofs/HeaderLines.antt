-- Lines of entries that give the header other names, from what is found at their front.
use Rattle.std.proofs.Common.{◌≡◌, ◌≢◌, ◌∙◌, ℕ, ◌<◌, ◌≤◌, List, [], ◌∷◌, ◌++◌, codes, ap, sym, subst, refl, arith, decimal}
use Rattle.std.proofs.lemmas.List.{append_cancel_left}
use Rattle.std.proofs.lemmas.List.Elements.{All-tail}
use Rattle.knit_base.specs.Lines.{HasNoLineEnd}
use Rattle.knit_base.specs.Names.{spaced_names}
use Rattle.knit_base.specs.Spelling.{labelled_number}
use Rattle.edit_journal.specs.EntryLine.{head_text}
use Rattle.journal_file.specs.Headers.{IsHeadEntry, IsHeadFront, IsNames}
use Rattle.journal_file.specs.Words.{EndsNumber, IsLabelled}
use Rattle.journal_file.proofs.EntryLines.{labelled_is, labelled_one, labelled_spelt}

space : (rest : List ℕ) → EndsNumber (32 ∷ rest)
space rest = λ digit. omega (arith, digit.0)

-- no front where its session is another's, or too great, or where something else stands behind it
pub no_session : (line rest : List ℕ) (n : ℕ) → IsLabelled line (codes "session ") n rest → 64 ≤ n → (session seen : ℕ) (text : List ℕ) → IsHeadFront session seen text line → ⊥
no_session line rest n it great session seen text front = let same = labelled_one line (codes "session ") n session rest front.behind it front.session_is in
    let few = front.session_few in omega (arith, same.0, few, great)

front_behind : (line rest : List ℕ) (n : ℕ) → IsLabelled line (codes "session ") n rest → (session seen : ℕ) (text : List ℕ) → IsHeadFront session seen text line
    → (n ≡ session) × IsLabelled rest (codes " put head seen ") seen (codes " carriers" ++ text)
front_behind line rest n it session seen text front =
    let same = labelled_one line (codes "session ") n session rest front.behind it front.session_is in
    (same.0, subst (λ t. IsLabelled t (codes " put head seen ") seen (codes " carriers" ++ text)) (sym same.1) front.seen_is)

pub no_seen : (line rest : List ℕ) (n : ℕ) → IsLabelled line (codes "session ") n rest → ((m : ℕ) (more : List ℕ) → IsLabelled rest (codes " put head seen ") m more → ⊥) → (session seen : ℕ) (text : List ℕ) → IsHeadFront session seen text line → ⊥
no_seen line rest n it none session seen text front = none seen (codes " carriers" ++ text) (front_behind line rest n it session seen text front).1

pub no_carriers : (line rest more : List ℕ) (n m : ℕ) → IsLabelled line (codes "session ") n rest → IsLabelled rest (codes " put head seen ") m more → ((text : List ℕ) → more ≢ codes " carriers" ++ text) → (session seen : ℕ) (text : List ℕ) → IsHeadFront session seen text line → ⊥
no_carriers line rest more n m it next none session seen text front =
    none text (labelled_one rest (codes " put head seen ") m seen more (codes " carriers" ++ text) next (front_behind line rest n it session seen text front).1).1

pub front_found : (line rest more text : List ℕ) (n m : ℕ) → IsLabelled line (codes "session ") n rest → n < 64 → IsLabelled rest (codes " put head seen ") m more → more ≡ codes " carriers" ++ text → IsHeadFront n m text line
front_found line rest more text n m it few next is = record { behind = rest; session_is = it; session_few = few; seen_is = subst (IsLabelled rest (codes " put head seen ") m) is next }

pub front_one : (line : List ℕ) (s n : ℕ) (a : List ℕ) (t m : ℕ) (b : List ℕ) → IsHeadFront s n a line → IsHeadFront t m b line → (s ≡ t) × (n ≡ m) × (a ≡ b)
front_one line s n a t m b p q =
    let w = front_behind line p.behind s p.session_is t m b q in
    let v = labelled_one p.behind (codes " put head seen ") n m (codes " carriers" ++ a) (codes " carriers" ++ b) p.seen_is w.1 in
    (w.0, v.0, append_cancel_left (codes " carriers") a b v.1)

-- the session of an entry, and its front
pub session_of_entry : (line : List ℕ) (session seen : ℕ) (names : List (List ℕ)) → IsHeadEntry session seen names line → IsLabelled line (codes "session ") session (head_text seen names)
session_of_entry line session seen names is =
    labelled_is line (codes "session ") session (head_text seen names) is.spelt (let few = is.session_few in omega (arith, few)) (space (codes "put head seen " ++ (decimal seen ++ (codes " carriers" ++ spaced_names names))))

pub front_of_entry : (line : List ℕ) (session seen : ℕ) (names : List (List ℕ)) → IsHeadEntry session seen names line → IsHeadFront session seen (spaced_names names) line
front_of_entry line session seen names is = record {
  behind = head_text seen names;
  session_is = session_of_entry line session seen names is;
  session_few = is.session_few;
  seen_is = labelled_is (head_text seen names) (codes " put head seen ") seen (codes " carriers" ++ spaced_names names) refl is.seen_fits (space (codes "carriers" ++ spaced_names names));
}

pub entry_found : (line text : List ℕ) (session seen : ℕ) (names : List (List ℕ)) → IsHeadFront session seen text line → IsNames names text → IsHeadEntry session seen names line
entry_found line text session seen names front is = record {
  spelt =
      labelled_spelt line (codes "session ") session front.behind front.session_is
      ∙ ap (λ t. labelled_number (codes "session ") session ++ t)
      (labelled_spelt front.behind (codes " put head seen ") seen (codes " carriers" ++ text) front.seen_is ∙ ap (λ t. labelled_number (codes " put head seen ") seen ++ (codes " carriers" ++ t)) is.spelt);
  session_few = front.session_few;
  seen_fits = front.seen_is.front.fits;
  are = subst (IsNames names) is.spelt is;
}

pub no_entry : (line text : List ℕ) (s n : ℕ) → IsHeadFront s n text line → ((names : List (List ℕ)) → IsNames names text → ⊥) → (session seen : ℕ) (names : List (List ℕ)) → IsHeadEntry session seen names line → ⊥
no_entry line text s n front none session seen names is =
    let same = front_one line s n text session seen (spaced_names names) front (front_of_entry line session seen names is) in
    none names (subst (IsNames names) (sym same.2) is.are)

-- the text of the names has no line feed, either
last_one : (front rest : List ℕ) → HasNoLineEnd (front ++ rest) → HasNoLineEnd rest
last_one [] rest one = one
last_one (byte ∷ front) rest one = last_one front rest (All-tail (λ b. b ≢ 10) byte (front ++ rest) one)

pub names_one : (line text : List ℕ) (session seen : ℕ) → IsHeadFront session seen text line → HasNoLineEnd line → HasNoLineEnd text
names_one line text session seen front one =
    let behind : HasNoLineEnd front.behind = last_one (labelled_number (codes "session ") session) front.behind (subst HasNoLineEnd (labelled_spelt line (codes "session ") session front.behind front.session_is) one) in
    last_one (codes " carriers") text
    (last_one (labelled_number (codes " put head seen ") seen) (codes " carriers" ++ text) (subst HasNoLineEnd (labelled_spelt front.behind (codes " put head seen ") seen (codes " carriers" ++ text) front.seen_is) behind))
