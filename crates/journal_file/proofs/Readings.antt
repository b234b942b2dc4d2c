-- How far the reading of text lines has come, and where it stops.
use Rattle.std.proofs.Common.{◌≡◌, ◌≢◌, ◌∙◌, ℕ, zero, suc, ◌+◌, List, [], ◌∷◌, ◌++◌, sym, subst, refl, arith, codes}
use Rattle.std.proofs.lemmas.List.Elements.{All-tail}
use Rattle.std.proofs.lemmas.Str.{IsUtf8-from_ascii, is_utf8-from_IsUtf8}
use Rattle.knit_base.specs.Lines.{HasNoLineEnd}
use Rattle.journal_file.specs.Grammars.{Lines, IsUnambiguous, Chain}
use Rattle.journal_file.specs.Lines.{IsBarredLine}
use Rattle.journal_file.specs.Reading.{FormHasRead, IsFormStop, IsFirstLineTaken, NoneTaken}
use Rattle.journal_file.specs.Texts.{TextLinesForm, text_form, same_state}
use Rattle.journal_file.proofs.Grammars.{line_one}
use Rattle.journal_file.proofs.FormReadings.{chain_more, chain_none, chain_stops, line_read, line_stops}
use Rattle.journal_file.proofs.Lines.{none_inside, one_feed}
use Rattle.knitout_reader.proofs.Signs.{other_bytes}

-- a text line tells one text
pub one_text : (a b line : List ℕ) → IsBarredLine a line → IsBarredLine b line → a ≡ b
one_text a b line p q = other_bytes _ _ _ _ (sym p.barred ∙ q.barred)

pub text_form_is_one : (s : Unit {0}) → IsUnambiguous (text_form s)
text_form_is_one s = line_one IsBarredLine one_text

empty_line : IsBarredLine [] (codes "|")
empty_line = record { barred = refl; is_short = record { utf8 = is_utf8-from_IsUtf8 [] (IsUtf8-from_ascii [] (λ k. omega arith)); short = omega arith } }

-- so many text lines can be
pub some_texts : (n : ℕ) (s : Unit {0}) → (xs : List (List ℕ)) × (u : Lines) × Chain text_form same_state n s xs u
some_texts zero s = ([], [], refl)
some_texts (suc n) s =
    let w = some_texts n s in
    ([] ∷ w.0, codes "|" ∷ w.1, record { first = codes "|" ∷ []; second = w.1; lines_are = refl; says_first = record { line = codes "|"; lines_are = refl; says = empty_line }; says_second = w.2 })

-- nothing was read yet
pub read-none : (bytes : List ℕ) (taken : ℕ) → FormHasRead (TextLinesForm 0) bytes taken [] bytes taken
read-none bytes taken = chain_none text_form same_state tt bytes taken

-- one more text line was read
pub read-more : (n : ℕ) (bytes : List ℕ) (taken : ℕ) (xs : List (List ℕ)) (rest : List ℕ) (now : ℕ) (x behind : List ℕ) → FormHasRead (TextLinesForm n) bytes taken xs rest now
    → IsFirstLineTaken IsBarredLine rest x behind → FormHasRead (TextLinesForm (n + 1)) bytes taken (xs ++ x ∷ []) behind (now + 1)
read-more n bytes taken xs rest now x behind r took = chain_more text_form same_state n tt bytes taken xs rest now x behind (now + 1) r (line_read IsBarredLine rest now x behind took)

-- no text line is next
pub stop-here : (done left : ℕ) (bytes : List ℕ) (taken : ℕ) (xs : List (List ℕ)) (rest : List ℕ) (now : ℕ) → FormHasRead (TextLinesForm done) bytes taken xs rest now → NoneTaken IsBarredLine rest
    → IsFormStop (TextLinesForm (done + suc left)) bytes taken (now + 1)
stop-here done left bytes taken xs rest now r none =
    chain_stops text_form same_state text_form_is_one done left tt bytes taken xs rest now (now + 1) (λ a t p. some_texts left _) r (line_stops IsBarredLine [] (codes "|") empty_line rest now none)

-- what stands behind the bar has no line feed, either
pub text_has_none : (bytes text rest : List ℕ) → IsFirstLineTaken IsBarredLine bytes text rest → HasNoLineEnd text
text_has_none bytes text rest took = All-tail (λ byte. byte ≢ 10) 124 text (subst HasNoLineEnd took.says.barred took.one)

-- the first line is none of the kind
pub taken-bad : {A : Type 0} (L : A → List ℕ → Type 0) (bytes line rest : List ℕ) → HasNoLineEnd line → bytes ≡ line ++ 10 ∷ rest → ((a : A) → L a line → ⊥) → NoneTaken L bytes
taken-bad L bytes line rest one is bad other behind one' is' a says =
    let same : (other ≡ line) × (behind ≡ rest) = one_feed other line behind rest one' one (sym is' ∙ is) in
    bad a (subst (L a) same.0 says)

-- there is no first line
pub taken-none : {A : Type 0} (L : A → List ℕ → Type 0) (bytes : List ℕ) → HasNoLineEnd bytes → NoneTaken L bytes
taken-none L bytes none other behind one is a says = none_inside other behind (subst HasNoLineEnd is none)
