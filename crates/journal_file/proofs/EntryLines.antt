-- Lines of entries, from what is found at their front.
use Rattle.std.proofs.Common.{◌≡◌, ◌≢◌, ◌∙◌, ℕ, ◌<◌, ◌≤◌, ◌^◌, List, ◌∷◌, ◌++◌, get_or, ap, sym, subst, refl, arith, append_assoc, codes, decimal}
use Rattle.std.proofs.lemmas.List.{append_cancel_left, get_or_append_left}
use Rattle.std.proofs.lemmas.Fmt.{decimal_nonempty, digits_decimal}
use Rattle.knitout_reader.specs.Numbers.{IsDigit}
use Rattle.edit_journal.specs.declared.edit.Anchor.{Anchor}
use Rattle.edit_journal.specs.declared.edit.Anchor.TheVariants.{Start, After}
use Rattle.edit_journal.specs.EntryLine.{anchor_text}
use Rattle.knit_base.specs.Spelling.{labelled_number}
use Rattle.journal_file.specs.declared.entry_words.EditWords.{EditWords}
use Rattle.journal_file.specs.declared.entry_words.EditWords.TheVariants.{Put, Add, Cut}
use Rattle.journal_file.specs.declared.entry_words.EntryWords.{EntryWords}
use Rattle.journal_file.specs.CountLines.{IsCount}
use Rattle.journal_file.specs.Entries.{IsAdd, IsEdit, IsEntry, IsLawfulAnchor, IsPair, edit_line}
use Rattle.journal_file.specs.Words.{EndsNumber, BeginsWithNumber, IsLabelled}
use Rattle.journal_file.proofs.Numbers.{front_one, own_numeral_model}

-- a label, a number and the rest, as they are spelt
pub labelled_is : (text label : List ℕ) (n : ℕ) (rest : List ℕ) → text ≡ labelled_number label n ++ rest → n < 2 ^ 32 → EndsNumber rest → IsLabelled text label n rest
labelled_is text label n rest is fits ends = record { behind = decimal n ++ rest; begins = is ∙ append_assoc label (decimal n) rest; front = record { spelt = refl; fits = fits; ends = ends } }

-- as they are found
pub labelled_spelt : (text label : List ℕ) (n : ℕ) (rest : List ℕ) → IsLabelled text label n rest → text ≡ labelled_number label n ++ rest
labelled_spelt text label n rest it = it.begins ∙ ap (λ t. label ++ t) it.front.spelt ∙ sym (append_assoc label (decimal n) rest)

-- there is one of them
pub labelled_one : (text label : List ℕ) (n m : ℕ) (rest more : List ℕ) → IsLabelled text label n rest → IsLabelled text label m more → (n ≡ m) × (rest ≡ more)
labelled_one text label n m rest more p q =
    let same : p.behind ≡ q.behind = append_cancel_left label p.behind q.behind (sym p.begins ∙ q.begins) in
    front_one p.behind n m rest more p.front (subst (λ t. BeginsWithNumber t m more) (sym same) q.front)

no_digit : (rest : List ℕ) → EndsNumber (32 ∷ rest)
no_digit rest = λ digit. omega (arith, digit.0)

-- two numbers

pub pair_found : (first second text rest : List ℕ) (most a b : ℕ) → IsLabelled text first a rest → IsCount second 0 most b rest → IsPair first second most a b text
pair_found first second text rest most a b p q = record { spelt = labelled_spelt text first a rest p ∙ ap (λ t. labelled_number first a ++ t) q.spelt; fits = p.front.fits; few = q.few }

pub pair_no_first : (first second text : List ℕ) (most : ℕ) → ((more : List ℕ) → EndsNumber (second ++ more)) → ((n : ℕ) (rest : List ℕ) → IsLabelled text first n rest → ⊥) → (a b : ℕ) → IsPair first second most a b text → ⊥
pair_no_first first second text most plain none a b it = none a (labelled_number second b) (labelled_is text first a (labelled_number second b) it.spelt it.fits (plain (decimal b)))

pub pair_no_second : (first second text rest : List ℕ) (most n : ℕ) → ((more : List ℕ) → EndsNumber (second ++ more)) → IsLabelled text first n rest → ((m : ℕ) → IsCount second 0 most m rest → ⊥) → (a b : ℕ) → IsPair first second most a b text → ⊥
pair_no_second first second text rest most n plain p none a b it =
    let w = labelled_one text first n a rest (labelled_number second b) p (labelled_is text first a (labelled_number second b) it.spelt it.fits (plain (decimal b))) in
    none b (record { spelt = w.1; enough = omega arith; few = it.few })

-- adds

pub anchor_none : (text : List ℕ) → ((rest : List ℕ) → text ≢ codes "start" ++ rest) → ((n : ℕ) (rest : List ℕ) → BeginsWithNumber text n rest → ⊥) → (anchor : Anchor) (rest : List ℕ) → IsLawfulAnchor anchor → EndsNumber rest → text ≡ anchor_text anchor ++ rest → ⊥
anchor_none text no_start none Start rest lawful ends is = no_start rest is
anchor_none text no_start none (After id) rest lawful ends is = none id rest (record { spelt = is; fits = lawful; ends = ends })

pub first_digit : (id : ℕ) (rest : List ℕ) → id < 2 ^ 32 → IsDigit (get_or (decimal id ++ rest) 0 0)
first_digit id rest fits =
    let small : id < 2 ^ 64 = omega (arith, fits) in
    let some = decimal_nonempty id small in
    subst IsDigit (sym (get_or_append_left (decimal id) rest 0 0 some)) (digits_decimal own_numeral_model id small 0 0 some)

-- behind `start` stands one rest
pub start_one : (text behind : List ℕ) → text ≡ codes "start" ++ behind → (anchor : Anchor) (rest : List ℕ) → IsLawfulAnchor anchor → EndsNumber rest → text ≡ anchor_text anchor ++ rest → rest ≡ behind
start_one text behind is Start rest lawful ends same = append_cancel_left (codes "start") rest behind (sym same ∙ is)
start_one text behind is (After id) rest lawful ends same =
    let digit = first_digit id rest lawful in
    let first : get_or (decimal id ++ rest) 0 0 ≡ 115 = ap (λ (t : List ℕ). get_or t 0 0) (sym same ∙ is) in
    absurd (omega (arith, digit.1, first))

-- behind an id, too
pub id_one : (text : List ℕ) (n : ℕ) (behind : List ℕ) → ((rest : List ℕ) → text ≢ codes "start" ++ rest) → BeginsWithNumber text n behind → (anchor : Anchor) (rest : List ℕ) → IsLawfulAnchor anchor → EndsNumber rest → text ≡ anchor_text anchor ++ rest → rest ≡ behind
id_one text n behind no_start front Start rest lawful ends same = absurd (no_start rest same)
id_one text n behind no_start front (After id) rest lawful ends same = sym (front_one text n id behind rest front (record { spelt = same; fits = lawful; ends = ends })).1

-- what stands behind the word of an add is none
pub add_no_pair : (text rest : List ℕ) → ((anchor : Anchor) (more : List ℕ) → IsLawfulAnchor anchor → EndsNumber more → text ≡ anchor_text anchor ++ more → more ≡ rest)
    → ((a b : ℕ) → IsPair (codes " block ") (codes " lines ") 4096 a b rest → ⊥) → (anchor : Anchor) (block lines : ℕ) → IsAdd anchor block lines text → ⊥
add_no_pair text rest one none anchor block lines it =
    let same = one anchor (labelled_number (codes " block ") block ++ labelled_number (codes " lines ") lines) it.lawful_anchor (λ digit. omega (arith, digit.0)) it.spelt in
    none block lines (record { spelt = sym same; fits = it.fits; few = it.few })

-- edits

pub other_word : (text x y : List ℕ) (b c : ℕ) → text ≡ x → text ≡ y → get_or x 1 0 ≡ b → get_or y 1 0 ≡ c → b ≢ c → ⊥
other_word text x y b c p q e f differ = differ (sym e ∙ ap (λ (t : List ℕ). get_or t 1 0) (sym p ∙ q) ∙ f)

-- the word of a put, and no put behind it
pub edit_no_put : (text rest : List ℕ) (block : ℕ) → IsLabelled text (codes " put ") block rest → ((a b : ℕ) → IsPair (codes " seen ") (codes " lines ") 4096 a b rest → ⊥) → (e : EditWords) → IsEdit e text → ⊥
edit_no_put text rest block p none (Put b seen lines) it =
    let w = labelled_one text (codes " put ") block b rest _ p (labelled_is text (codes " put ") b (labelled_number (codes " seen ") seen ++ labelled_number (codes " lines ") lines) it.spelt it.lawful.0 (λ digit. omega (arith, digit.0))) in
    none seen lines (record { spelt = w.1; fits = it.lawful.1; few = it.lawful.2 })
edit_no_put text rest block p none (Add anchor b lines) it = other_word text _ _ 97 112 it.spelt p.begins refl refl (λ e. omega (arith, e))
edit_no_put text rest block p none (Cut b seen) it = other_word text _ _ 99 112 it.spelt p.begins refl refl (λ e. omega (arith, e))

-- the word of an add, and no add behind it
pub edit_no_add : (text rest : List ℕ) → text ≡ codes " add " ++ rest → ((anchor : Anchor) (block lines : ℕ) → IsAdd anchor block lines rest → ⊥) → (e : EditWords) → IsEdit e text → ⊥
edit_no_add text rest is none (Put b seen lines) it = other_word text _ _ 112 97 it.spelt is refl refl (λ e. omega (arith, e))
edit_no_add text rest is none (Add anchor b lines) it =
    none anchor b lines (record { spelt = append_cancel_left (codes " add ") rest _ (sym is ∙ it.spelt); lawful_anchor = it.lawful.0; fits = it.lawful.1; few = it.lawful.2 })
edit_no_add text rest is none (Cut b seen) it = other_word text _ _ 99 97 it.spelt is refl refl (λ e. omega (arith, e))

-- none of the three
pub edit_none : (text : List ℕ) → ((n : ℕ) (rest : List ℕ) → IsLabelled text (codes " put ") n rest → ⊥) → ((rest : List ℕ) → text ≢ codes " add " ++ rest) → ((a b : ℕ) → IsPair (codes " cut ") (codes " seen ") 4294967295 a b text → ⊥)
    → (e : EditWords) → IsEdit e text → ⊥
edit_none text no_put no_add no_cut (Put b seen lines) it =
    no_put b _ (labelled_is text (codes " put ") b (labelled_number (codes " seen ") seen ++ labelled_number (codes " lines ") lines) it.spelt it.lawful.0 (λ digit. omega (arith, digit.0)))
edit_none text no_put no_add no_cut (Add anchor b lines) it = no_add _ it.spelt
edit_none text no_put no_add no_cut (Cut b seen) it = no_cut b seen (record { spelt = it.spelt; fits = it.lawful.0; few = omega (arith, it.lawful.1) })

-- entries

edit_ends : (e : EditWords) → EndsNumber (edit_line e)
edit_ends (Put b seen lines) = λ digit. omega (arith, digit.0)
edit_ends (Add anchor b lines) = λ digit. omega (arith, digit.0)
edit_ends (Cut b seen) = λ digit. omega (arith, digit.0)

pub entry_front : (e : EntryWords) (line : List ℕ) → IsEntry e line → IsLabelled line (codes "session ") e.session (edit_line e.edit)
entry_front e line it = labelled_is line (codes "session ") e.session (edit_line e.edit) it.spelt (omega (arith, it.session)) (edit_ends e.edit)

-- the session is too great
pub entry_no_session : (line rest : List ℕ) (session : ℕ) → IsLabelled line (codes "session ") session rest → 64 ≤ session → (e : EntryWords) → IsEntry e line → ⊥
entry_no_session line rest session p great e it =
    let w = labelled_one line (codes "session ") session e.session rest (edit_line e.edit) p (entry_front e line it) in
    omega (arith, w.0, great, it.session)

-- there is no edit behind it
pub entry_no_edit : (line rest : List ℕ) (session : ℕ) → IsLabelled line (codes "session ") session rest → ((e : EditWords) → IsEdit e rest → ⊥) → (e : EntryWords) → IsEntry e line → ⊥
entry_no_edit line rest session p none e it =
    let w = labelled_one line (codes "session ") session e.session rest (edit_line e.edit) p (entry_front e line it) in
    none e.edit (record { spelt = w.1; lawful = it.lawful })

-- there is no session
pub entry_none : (line : List ℕ) → ((n : ℕ) (rest : List ℕ) → IsLabelled line (codes "session ") n rest → ⊥) → (e : EntryWords) → IsEntry e line → ⊥
entry_none line none e it = none e.session (edit_line e.edit) (entry_front e line it)
