-- A line tells one entry.
use Rattle.std.proofs.Common.{◌≡◌, ◌∙◌, ℕ, ◌<◌, ◌^◌, List, ◌∷◌, ◌++◌, Some, get_or, ap, sym, refl, arith, codes, decimal}
use Rattle.std.proofs.lemmas.Fmt.{decimal_injective}
use Rattle.std.proofs.lemmas.List.{append_cancel_left}
use Rattle.edit_journal.specs.declared.edit.Anchor.{Anchor}
use Rattle.edit_journal.specs.declared.edit.Anchor.TheVariants.{Start, After}
use Rattle.edit_journal.specs.EntryLine.{anchor_text, head_text}
use Rattle.knit_base.specs.Names.{AreNames, spaced_names}
use Rattle.knit_base.specs.Spelling.{labelled_number}
use Rattle.knitout_reader.specs.Head.{names_in_line}
use Rattle.knitout_reader.proofs.HeaderLines.{declared_again}
use Rattle.journal_file.specs.declared.entry_line.EntryLine.{EntryLine}
use Rattle.journal_file.specs.declared.entry_line.EntryLine.TheVariants.{Block, Header}
use Rattle.journal_file.specs.declared.entry_words.EditWords.{EditWords}
use Rattle.journal_file.specs.declared.entry_words.EditWords.TheVariants.{Put, Add, Cut}
use Rattle.journal_file.specs.declared.entry_words.EntryWords.{EntryWords}
use Rattle.journal_file.specs.declared.head_words.HeadWords.{HeadWords}
use Rattle.journal_file.specs.Entries.{IsEntry, IsLawfulAnchor, IsLawfulEdit, edit_line}
use Rattle.journal_file.specs.EntryForms.{IsEntryLine}
use Rattle.journal_file.specs.Grammars.{IsUnambiguous, OneLine}
use Rattle.journal_file.specs.Headers.{IsHeadEntry}
use Rattle.journal_file.specs.Words.{EndsNumber}
use Rattle.journal_file.proofs.EntryLines.{entry_front, first_digit, labelled_is, labelled_one, other_word}
use Rattle.journal_file.proofs.Grammars.{line_one}
use Rattle.journal_file.proofs.HeaderLines.{front_of_entry, front_one, session_of_entry}
use Rattle.journal_file.proofs.Numbers as numbers

-- neither an entry of a block nor one of the header
pub no_line : (line : List ℕ) → ((e : EntryWords) → IsEntry e line → ⊥) → ((session seen : ℕ) (names : List (List ℕ)) → IsHeadEntry session seen names line → ⊥) → (said : EntryLine) → IsEntryLine said line → ⊥
no_line line no_block no_header (Block words) it = no_block words it
no_line line no_block no_header (Header words) it = no_header words.session words.seen words.names it

space : (rest : List ℕ) → EndsNumber (32 ∷ rest)
space rest = λ digit. omega (arith, digit.0)

-- two numbers behind their labels, of which the second ends the text
two_numbers : (first second : List ℕ) (a b c d : ℕ) → a < 2 ^ 32 → b < 2 ^ 32 → c < 2 ^ 32 → d < 2 ^ 32 → ((more : List ℕ) → EndsNumber (second ++ more)) → labelled_number first a ++ labelled_number second b ≡ labelled_number first c ++ labelled_number second d → (a ≡ c) × (b ≡ d)
two_numbers first second a b c d af bf cf df plain same =
    let w = labelled_one (labelled_number first a ++ labelled_number second b) first a c (labelled_number second b) (labelled_number second d)
    (labelled_is (labelled_number first a ++ labelled_number second b) first a (labelled_number second b) refl af (plain (decimal b))) (labelled_is (labelled_number first a ++ labelled_number second b) first c (labelled_number second d) same cf (plain (decimal d))) in
    (w.0, decimal_injective b d (omega (arith, bf)) (omega (arith, df)) (append_cancel_left second (decimal b) (decimal d) w.1))

no_start : (j : ℕ) (x y : List ℕ) → j < 2 ^ 32 → codes "start" ++ 32 ∷ x ≡ decimal j ++ 32 ∷ y → ⊥
no_start j x y fits same =
    let digit = first_digit j (32 ∷ y) fits in
    let first : get_or (decimal j ++ 32 ∷ y) 0 0 ≡ 115 = ap (λ (t : List ℕ). get_or t 0 0) (sym same) in
    omega (arith, digit.1, first)

anchors : (a b : Anchor) (x y : List ℕ) → IsLawfulAnchor a → IsLawfulAnchor b → anchor_text a ++ 32 ∷ x ≡ anchor_text b ++ 32 ∷ y → (a ≡ b) × (32 ∷ x ≡ 32 ∷ y)
anchors Start Start x y p q same = (refl, append_cancel_left (codes "start") (32 ∷ x) (32 ∷ y) same)
anchors (After i) (After j) x y p q same =
    let w = numbers.front_one (decimal i ++ 32 ∷ x) i j (32 ∷ x) (32 ∷ y) (record { spelt = refl; fits = p; ends = space x }) (record { spelt = same; fits = q; ends = space y }) in
    (ap After w.0, w.1)
anchors Start (After j) x y p q same = absurd (no_start j x y q same)
anchors (After i) Start x y p q same = absurd (no_start i y x p (sym same))

edit_one : (e f : EditWords) → IsLawfulEdit e → IsLawfulEdit f → edit_line e ≡ edit_line f → e ≡ f
edit_one (Put b s l) (Put c t m) p q same =
    let w = labelled_one (edit_line (Put b s l)) (codes " put ") b c (labelled_number (codes " seen ") s ++ labelled_number (codes " lines ") l) (labelled_number (codes " seen ") t ++ labelled_number (codes " lines ") m)
    (labelled_is (edit_line (Put b s l)) (codes " put ") b (labelled_number (codes " seen ") s ++ labelled_number (codes " lines ") l) refl p.0 (space (codes "seen " ++ (decimal s ++ labelled_number (codes " lines ") l))))
    (labelled_is (edit_line (Put b s l)) (codes " put ") c (labelled_number (codes " seen ") t ++ labelled_number (codes " lines ") m) same q.0 (space (codes "seen " ++ (decimal t ++ labelled_number (codes " lines ") m)))) in
    let v = two_numbers (codes " seen ") (codes " lines ") s l t m p.1 (let few = p.2 in omega (arith, few)) q.1 (let few = q.2 in omega (arith, few)) (λ more. space (codes "lines " ++ more)) w.1 in
    (λ i. Put (w.0 i) (v.0 i) (v.1 i))
edit_one (Add a b l) (Add c d m) p q same =
    let behind = append_cancel_left (codes " add ") (anchor_text a ++ (labelled_number (codes " block ") b ++ labelled_number (codes " lines ") l)) (anchor_text c ++ (labelled_number (codes " block ") d ++ labelled_number (codes " lines ") m)) same in
    let w = anchors a c (codes "block " ++ (decimal b ++ labelled_number (codes " lines ") l)) (codes "block " ++ (decimal d ++ labelled_number (codes " lines ") m)) p.0 q.0 behind in
    let v = two_numbers (codes " block ") (codes " lines ") b l d m p.1 (let few = p.2 in omega (arith, few)) q.1 (let few = q.2 in omega (arith, few)) (λ more. space (codes "lines " ++ more)) w.1 in
    (λ i. Add (w.0 i) (v.0 i) (v.1 i))
edit_one (Cut b s) (Cut c t) p q same =
    let v = two_numbers (codes " cut ") (codes " seen ") b s c t p.0 p.1 q.0 q.1 (λ more. space (codes "seen " ++ more)) same in
    (λ i. Cut (v.0 i) (v.1 i))
edit_one (Put b s l) (Add c d m) p q same = absurd (other_word (edit_line (Put b s l)) _ _ 112 97 refl same refl refl (λ e. omega (arith, e)))
edit_one (Put b s l) (Cut c t) p q same = absurd (other_word (edit_line (Put b s l)) _ _ 112 99 refl same refl refl (λ e. omega (arith, e)))
edit_one (Add a b l) (Put c t m) p q same = absurd (other_word (edit_line (Add a b l)) _ _ 97 112 refl same refl refl (λ e. omega (arith, e)))
edit_one (Add a b l) (Cut c t) p q same = absurd (other_word (edit_line (Add a b l)) _ _ 97 99 refl same refl refl (λ e. omega (arith, e)))
edit_one (Cut b s) (Put c t m) p q same = absurd (other_word (edit_line (Cut b s)) _ _ 99 112 refl same refl refl (λ e. omega (arith, e)))
edit_one (Cut b s) (Add c d m) p q same = absurd (other_word (edit_line (Cut b s)) _ _ 99 97 refl same refl refl (λ e. omega (arith, e)))

entry_one : (a b : EntryWords) (line : List ℕ) → IsEntry a line → IsEntry b line → a ≡ b
entry_one a b line p q =
    let w = labelled_one line (codes "session ") a.session b.session (edit_line a.edit) (edit_line b.edit) (entry_front a line p) (entry_front b line q) in
    let e = edit_one a.edit b.edit p.lawful q.lawful w.1 in
    (λ i. record { session = w.0 i; edit = e i })

names_one : (a b : List (List ℕ)) → AreNames a → AreNames b → spaced_names a ≡ spaced_names b → a ≡ b
names_one a b p q same =
    let told : Some a ≡ Some b = sym (declared_again a p) ∙ ap (λ t. names_in_line (codes ";;Carriers:" ++ t)) same ∙ declared_again b q in
    cc

header_one : (a b : HeadWords) (line : List ℕ) → IsHeadEntry a.session a.seen a.names line → IsHeadEntry b.session b.seen b.names line → a ≡ b
header_one a b line p q =
    let w = front_one line a.session a.seen (spaced_names a.names) b.session b.seen (spaced_names b.names) (front_of_entry line a.session a.seen a.names p) (front_of_entry line b.session b.seen b.names q) in
    let n = names_one a.names b.names p.are.are q.are.are w.2 in
    (λ i. record { session = w.0 i; seen = w.1 i; names = n i })

-- the word behind the session
no_put : (b s l n : ℕ) (names : List (List ℕ)) → b < 2 ^ 32 → edit_line (Put b s l) ≡ head_text n names → ⊥
no_put b s l n names fits same =
    let digit = first_digit b (labelled_number (codes " seen ") s ++ labelled_number (codes " lines ") l) fits in
    let cut = append_cancel_left (codes " put ") (decimal b ++ (labelled_number (codes " seen ") s ++ labelled_number (codes " lines ") l)) (codes "head seen " ++ (decimal n ++ (codes " carriers" ++ spaced_names names))) same in
    let first : get_or (decimal b ++ (labelled_number (codes " seen ") s ++ labelled_number (codes " lines ") l)) 0 0 ≡ 104 = ap (λ (t : List ℕ). get_or t 0 0) cut in
    omega (arith, digit.1, first)

edit_no_head : (e : EditWords) (n : ℕ) (names : List (List ℕ)) → IsLawfulEdit e → edit_line e ≡ head_text n names → ⊥
edit_no_head (Put b s l) n names p same = no_put b s l n names p.0 same
edit_no_head (Add a b l) n names p same = other_word (edit_line (Add a b l)) _ _ 97 112 refl same refl refl (λ e. omega (arith, e))
edit_no_head (Cut b s) n names p same = other_word (edit_line (Cut b s)) _ _ 99 112 refl same refl refl (λ e. omega (arith, e))

block_no_header : (a : EntryWords) (b : HeadWords) (line : List ℕ) → IsEntry a line → IsHeadEntry b.session b.seen b.names line → ⊥
block_no_header a b line p q =
    let w = labelled_one line (codes "session ") a.session b.session (edit_line a.edit) (head_text b.seen b.names) (entry_front a line p) (session_of_entry line b.session b.seen b.names q) in
    edit_no_head a.edit b.seen b.names p.lawful w.1

pub said_one : (a b : EntryLine) (line : List ℕ) → IsEntryLine a line → IsEntryLine b line → a ≡ b
said_one (Block a) (Block b) line p q = ap Block (entry_one a b line p q)
said_one (Header a) (Header b) line p q = ap Header (header_one a b line p q)
said_one (Block a) (Header b) line p q = absurd (block_no_header a b line p q)
said_one (Header a) (Block b) line p q = absurd (block_no_header b a line q p)

pub one_line : IsUnambiguous (OneLine IsEntryLine)
one_line = line_one IsEntryLine said_one
