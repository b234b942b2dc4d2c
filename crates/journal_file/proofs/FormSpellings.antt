-- The lines of a form are a spelling of what they say.
use Rattle.std.proofs.Common.{◌≡◌, ◌∙◌, ℕ, zero, suc, ◌+◌, List, [], ◌∷◌, ◌++◌, length, map, flat_map, ap, sym, refl, arith, append_assoc, codes}
use Rattle.std.proofs.lemmas.List.{length-map}
use Rattle.std.proofs.lemmas.List.Concat.{flat_map-cons}
use Rattle.knit_base.specs.Spelling.{labelled_number}
use Rattle.knit_base.specs.declared.profile.Profile.{Profile}
use Rattle.edit_journal.specs.EntryLine.{add_text, edit_text, entry_line, put_text}
use Rattle.journal_file.specs.declared.entry_line.EntryLine.{EntryLine}
use Rattle.journal_file.specs.declared.entry_line.EntryLine.TheVariants.{Block, Header}
use Rattle.journal_file.specs.declared.entry_words.EditWords.{EditWords}
use Rattle.journal_file.specs.declared.entry_words.EditWords.TheVariants.{Put, Add, Cut}
use Rattle.journal_file.specs.BlockForms.{BlocksSoFar, IsBlock, block_form, most_lines, no_block_yet, with_block}
use Rattle.journal_file.specs.CountLines.{IsCount}
use Rattle.journal_file.specs.Entries.{edit_line}
use Rattle.journal_file.specs.EntryForms.{AreEntries, IsEntryLine, IsEntryText, edit_lines, entry_form, same_entries, text_lines_behind}
use Rattle.journal_file.specs.Fronts.{AreFront}
use Rattle.journal_file.specs.Grammars.{Lines, OneLine, Chain}
use Rattle.journal_file.specs.HeadForms.{IsHeadLine, head_form, no_line_yet, head_with_line}
use Rattle.journal_file.specs.Lines.{IsBarredLine, lines_with_ends}
use Rattle.journal_file.specs.SavedForms.{AreFirst, BlocksSaid, EntrySaid, HeadSaid, HeadForm, OpeningSaid, SavedForm, blocks_told, count_said, edit_said, entry_said, head_said, line_edit, profile_said}
use Rattle.journal_file.specs.SavedParts.{numbered_from}
use Rattle.journal_file.specs.Spelling.{block_lines, blocks_lines, count_spelling, entry_lines, head_lines, profile_line, saved_spelling, text_given, text_line, text_lines}
use Rattle.journal_file.specs.Texts.{TextLinesForm, same_state, text_form}
use Rattle.journal_file.proofs.FormReadings.{chain_length}

pub ended-append : (a b : Lines) → lines_with_ends (a ++ b) ≡ lines_with_ends a ++ lines_with_ends b
ended-append [] b = refl
ended-append (line ∷ a) b = ap (λ t. line ++ 10 ∷ t) (ended-append a b) ∙ sym (append_assoc line (10 ∷ lines_with_ends a) (lines_with_ends b))

-- the line of a count
pub count_spelt : (label : List ℕ) (least most n : ℕ) (t : Lines) → OneLine (IsCount label least most) n t → lines_with_ends t ≡ count_spelling label n
count_spelt label least most n t p = ap lines_with_ends p.lines_are ∙ ap (λ line. line ++ 10 ∷ []) p.says.spelt

-- text lines, whatever else is said of them
pub texts_spelt : {S : Type 0} (L : S → List ℕ → List ℕ → Type 0) (next : S → List ℕ → S) → ((s : S) (x line : List ℕ) → L s x line → IsBarredLine x line) → (n : ℕ) (s : S) (xs : List (List ℕ)) (t : Lines)
    → Chain (λ z. OneLine (L z)) next n s xs t → lines_with_ends t ≡ text_lines xs
texts_spelt L next tells zero s [] t p = ap lines_with_ends p
texts_spelt L next tells zero s (x ∷ xs) t p = absurd p
texts_spelt L next tells (suc n) s [] t p = absurd p
texts_spelt L next tells (suc n) s (x ∷ xs) t p =
    let line_is = (tells s x p.says_first.line p.says_first.says).barred in
    ap lines_with_ends (p.lines_are ∙ ap (λ f. f ++ p.second) (p.says_first.lines_are ∙ ap (λ line. line ∷ []) line_is))
    ∙ ap (λ r. 124 ∷ (x ++ 10 ∷ r)) (texts_spelt L next tells n (next s x) xs p.second p.says_second)
    ∙ ap (λ r. 124 ∷ r) (sym (append_assoc x (10 ∷ []) (text_lines xs)))
    ∙ sym (flat_map-cons text_line x xs)

pub lines_spelt : (n : ℕ) (xs : List (List ℕ)) (t : Lines) → TextLinesForm n xs t → (lines_with_ends t ≡ text_lines xs) × (length xs ≡ n)
lines_spelt n xs t p = (texts_spelt (λ s. IsBarredLine) same_state (λ s x line is. is) n tt xs t p, chain_length text_form same_state n tt xs t p)

-- the head
pub head_spelt : (said : HeadSaid) (t : Lines) → HeadForm said t → lines_with_ends t ≡ head_lines said.1
head_spelt said t p =
    let many : length said.1 ≡ said.0 = chain_length head_form head_with_line said.0 (no_line_yet said.0) said.1 p.second p.says_second in
    ap lines_with_ends p.lines_are ∙ ended-append p.first p.second
    ∙ (λ i. count_spelt (codes "head ") 2 16777217 said.0 p.first p.says_first i ++ texts_spelt IsHeadLine head_with_line (λ s x line is. is.barred) said.0 (no_line_yet said.0) said.1 p.second p.says_second i)
    ∙ ap (λ n. count_spelling (codes "head ") n ++ text_lines said.1) (sym many)

-- a block, whatever its id
pub block_spelt : (most id : ℕ) (said : ℕ × List (List ℕ)) (t : Lines) → IsBlock most said t → (lines_with_ends t ≡ block_lines (record { block = id; stamp = 0; text = said.1 })) × (said.0 ≡ length said.1)
block_spelt most id said t p =
    let lines = lines_spelt said.0 said.1 p.second p.says_second in (
      ap lines_with_ends p.lines_are ∙ ended-append p.first p.second ∙ (λ i. count_spelt (codes "block ") 1 most said.0 p.first p.says_first i ++ lines.0 i) ∙ ap (λ n. count_spelling (codes "block ") n ++ text_lines said.1) (sym lines.1),
      sym lines.1,
    )

-- blocks, with the ids from this one on
pub blocks_spelt : (n : ℕ) (s : BlocksSoFar) (id : ℕ) (said : List (ℕ × List (List ℕ))) (t : Lines) → Chain block_form with_block n s said t → lines_with_ends t ≡ flat_map block_lines (numbered_from id (map (λ block. block.1) said))
blocks_spelt zero s id [] t p = ap lines_with_ends p
blocks_spelt zero s id (x ∷ xs) t p = absurd p
blocks_spelt (suc n) s id [] t p = absurd p
blocks_spelt (suc n) s id (x ∷ xs) t p =
    ap lines_with_ends p.lines_are ∙ ended-append p.first p.second
    ∙ (λ i. (block_spelt (most_lines s) id x p.first p.says_first).0 i ++ blocks_spelt n (with_block s x) (id + 1) xs p.second p.says_second i)
    ∙ sym (flat_map-cons block_lines (record { block = id; stamp = 0; text = x.1 }) (numbered_from (id + 1) (map (λ block. block.1) xs)))

pub numbered_length : (id : ℕ) (texts : List (List (List ℕ))) → length (numbered_from id texts) ≡ length texts
numbered_length id [] = refl
numbered_length id (text ∷ texts) = let rest = numbered_length (id + 1) texts in omega (arith, rest)

pub numbered_push : (id : ℕ) (texts : List (List (List ℕ))) (text : List (List ℕ)) → numbered_from id (texts ++ text ∷ []) ≡ numbered_from id texts ++ record { block = id + length texts; stamp = 0; text = text } ∷ []
numbered_push id [] text = let same : id ≡ id + 0 = omega arith in ap (λ n. record { block = n; stamp = 0; text = text } ∷ []) same
numbered_push id (first ∷ texts) text =
    let same : id + 1 + length texts ≡ id + length (first ∷ texts) = omega arith in
    ap (λ bs. record { block = id; stamp = 0; text = first } ∷ bs) (numbered_push (id + 1) texts text ∙ ap (λ n. numbered_from (id + 1) texts ++ record { block = n; stamp = 0; text = text } ∷ []) same)

-- the first blocks
pub first_spelt : (said : BlocksSaid) (t : Lines) → AreFirst said t → lines_with_ends t ≡ blocks_lines (numbered_from 0 (map (λ block. block.1) said.1))
first_spelt said t p =
    let many : length (numbered_from 0 (map (λ block. block.1) said.1)) ≡ said.0 = numbered_length 0 (map (λ block. block.1) said.1) ∙ length-map said.1 (λ block. block.1) ∙ chain_length block_form with_block said.0 (no_block_yet said.0) said.1 p.second p.says_second in
    ap lines_with_ends p.lines_are ∙ ended-append p.first p.second
    ∙ (λ i. count_spelt (codes "blocks ") 0 65536 said.0 p.first p.says_first i ++ blocks_spelt said.0 (no_block_yet said.0) 0 said.1 p.second p.says_second i)
    ∙ ap (λ n. count_spelling (codes "blocks ") n ++ flat_map block_lines (numbered_from 0 (map (λ block. block.1) said.1))) (sym many)

-- an edit tells the number of the lines that it gives
edit_spelt : (e : EditWords) (text : List (List ℕ)) → length text ≡ edit_lines e → (edit_line e ≡ edit_text (edit_said e text)) × (text ≡ text_given (edit_said e text))
edit_spelt (Put block seen lines) text is = (ap (λ n. put_text block seen n) (sym is), refl)
edit_spelt (Add anchor block lines) text is = (ap (λ n. add_text anchor block n) (sym is), refl)
edit_spelt (Cut block seen) [] is = (refl, refl)
edit_spelt (Cut block seen) (x ∷ text) is = absurd (omega (arith, is))

no_text : (text : List (List ℕ)) → length text ≡ 0 → text ≡ []
no_text [] is = refl
no_text (x ∷ text) is = absurd (omega (arith, is))

line_spelt : (said : EntryLine) (text : List (List ℕ)) (line : List ℕ) → IsEntryLine said line → length text ≡ text_lines_behind said → (line ≡ entry_line (entry_said (said, text))) × (text ≡ text_given (line_edit said text))
line_spelt (Block words) text line it is = let w = edit_spelt words.edit text is in (it.spelt ∙ ap (λ t. labelled_number (codes "session ") words.session ++ t) w.0, w.1)
line_spelt (Header words) text line it is = (it.spelt, no_text text is)

-- an entry
pub entry_spelt : (said : EntrySaid) (t : Lines) → IsEntryText said t → lines_with_ends t ≡ entry_lines (entry_said said)
entry_spelt said t p =
    let lines = lines_spelt (text_lines_behind said.0) said.1 p.second p.says_second in
    let w = line_spelt said.0 said.1 p.says_first.line p.says_first.says lines.1 in
    ap lines_with_ends (p.lines_are ∙ ap (λ f. f ++ p.second) p.says_first.lines_are)
    ∙ (λ i. w.0 i ++ 10 ∷ (lines.0 ∙ ap text_lines w.1) i)

pub entries_spelt : (n : ℕ) (said : List EntrySaid) (t : Lines) → AreEntries n said t → lines_with_ends t ≡ flat_map entry_lines (map entry_said said)
entries_spelt zero [] t p = ap lines_with_ends p
entries_spelt zero (x ∷ xs) t p = absurd p
entries_spelt (suc n) [] t p = absurd p
entries_spelt (suc n) (x ∷ xs) t p =
    ap lines_with_ends p.lines_are ∙ ended-append p.first p.second ∙ (λ i. entry_spelt x p.first p.says_first i ++ entries_spelt n xs p.second p.says_second i) ∙ sym (flat_map-cons entry_lines (entry_said x) (map entry_said xs))

-- the first two lines
front_spelt : (said : Unit {0} × Profile) (t : Lines) → AreFront said t → lines_with_ends t ≡ codes "journal 1\n" ++ profile_line said.1
front_spelt said t p =
    ap lines_with_ends (p.lines_are ∙ (λ i. p.says_first.lines_are i ++ p.says_second.lines_are i)) ∙ (λ i. p.says_first.says i ++ 10 ∷ (p.says_second.says.spelt i ++ 10 ∷ []))

joined : (front profile head blocks count entries : List ℕ) → ((front ++ profile) ++ (head ++ (blocks ++ count))) ++ entries ≡ front ++ (profile ++ (head ++ (blocks ++ (count ++ entries))))
joined front profile head blocks count entries = simp append_assoc

-- a saved text
pub saved_spelt : (said : OpeningSaid × List EntrySaid) (t : Lines) → SavedForm said t → lines_with_ends t ≡ saved_spelling (head_said said.0) (profile_said said.0) (blocks_told said.0) (map entry_said said.1)
saved_spelt said t p =
    let o = p.says_first in
    let many : length (map entry_said said.1) ≡ count_said said.0 = length-map said.1 entry_said ∙ chain_length entry_form same_entries (count_said said.0) tt said.1 p.second p.says_second in
    ap lines_with_ends p.lines_are ∙ ended-append p.first p.second
    ∙ (λ i. (ap lines_with_ends o.lines_are ∙ ended-append o.first o.second ∙ (λ j. front_spelt said.0.0 o.first o.says_first j ++ behind_front j)) i ++ entries_spelt (count_said said.0) said.1 p.second p.says_second i)
    ∙ joined (codes "journal 1\n") (profile_line (profile_said said.0)) (head_lines (head_said said.0)) (blocks_lines (blocks_told said.0)) (count_spelling (codes "entries ") (count_said said.0)) (flat_map entry_lines (map entry_said said.1))
    ∙ ap (λ n. codes "journal 1\n" ++ (profile_line (profile_said said.0) ++ (head_lines (head_said said.0) ++ (blocks_lines (blocks_told said.0) ++ (count_spelling (codes "entries ") n ++ flat_map entry_lines (map entry_said said.1)))))) (sym many)
  where
    behind_front : lines_with_ends p.says_first.second ≡ head_lines (head_said said.0) ++ (blocks_lines (blocks_told said.0) ++ count_spelling (codes "entries ") (count_said said.0))
    behind_front =
        let h = p.says_first.says_second in
        ap lines_with_ends h.lines_are ∙ ended-append h.first h.second
        ∙ (λ i. head_spelt said.0.1.0 h.first h.says_first i ++ (ap lines_with_ends h.says_second.lines_are ∙ ended-append h.says_second.first h.says_second.second
        ∙ (λ j. first_spelt said.0.1.1.0 h.says_second.first h.says_second.says_first j ++ count_spelt (codes "entries ") 0 4294967295 (count_said said.0) h.says_second.second h.says_second.says_second j)) i)
