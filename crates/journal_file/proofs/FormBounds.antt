-- What the lines of a form say keeps the bounds of a saved text.
use Rattle.std.proofs.Common.{◌≡◌, ◌≢◌, ◌∙◌, ℕ, zero, suc, ◌+◌, ◌-◌, ◌≤◌, min, List, [], ◌∷◌, ◌++◌, All, length, map, flat_map, ap, sym, subst, refl, arith, length-append}
use Rattle.std.proofs.lemmas.List.{length-map}
use Rattle.std.proofs.lemmas.List.Elements.{All-cons, All-head, All-nil, All-tail}
use Rattle.knit_base.specs.Lines.{HasNoLineEnd}
use Rattle.edit_journal.specs.declared.edit.BlockAt.{BlockAt}
use Rattle.journal_file.specs.declared.entry_line.EntryLine.{EntryLine}
use Rattle.journal_file.specs.declared.entry_line.EntryLine.TheVariants.{Block, Header}
use Rattle.journal_file.specs.declared.entry_words.EditWords.{EditWords}
use Rattle.journal_file.specs.declared.entry_words.EditWords.TheVariants.{Put, Add, Cut}
use Rattle.journal_file.specs.BlockForms.{BlocksSoFar, block_form, no_block_yet, with_block}
use Rattle.journal_file.specs.Entries.{IsLawfulEdit}
use Rattle.journal_file.specs.EntryForms.{AreEntries, IsEntryLine, IsEntryText, text_lines_behind}
use Rattle.journal_file.specs.Grammars.{Lines, OneLine, Chain}
use Rattle.journal_file.specs.HeadForms.{IsHeadLine, head_form, no_line_yet, head_with_line}
use Rattle.journal_file.specs.Lines.{IsBarredLine}
use Rattle.journal_file.specs.SavedForms.{EntrySaid, OpeningForm, OpeningSaid, SavedForm, blocks_said, blocks_told, count_said, edit_said, entry_said, head_said, profile_said}
use Rattle.edit_book.specs.Outlines.{block_texts_of}
use Rattle.journal_file.specs.SavedParts.{IsFirstText, IsShortLine, IsWritable, IsSpelledEntry, KeepsBounds, numbered_from}
use Rattle.journal_file.specs.Texts.{TextLinesForm, same_state}
use Rattle.journal_file.proofs.EntryReadings.{few_lines}
use Rattle.journal_file.proofs.FormReadings.{chain_length}
use Rattle.journal_file.proofs.FormSpellings.{block_spelt, lines_spelt, numbered_length}
use Rattle.journal_file.proofs.HeadLaws.{head_law}

-- of lines without line feeds so are the first, and the others
pub all_first : (a b : Lines) → All HasNoLineEnd (a ++ b) → All HasNoLineEnd a
all_first [] b each = All-nil HasNoLineEnd
all_first (line ∷ a) b each = All-cons HasNoLineEnd line a (All-head HasNoLineEnd line (a ++ b) each) (all_first a b (All-tail HasNoLineEnd line (a ++ b) each))

all_second : (a b : Lines) → All HasNoLineEnd (a ++ b) → All HasNoLineEnd b
all_second [] b each = each
all_second (line ∷ a) b each = all_second a b (All-tail HasNoLineEnd line (a ++ b) each)

-- texts of text lines are short
texts_short : {S : Type 0} (L : S → List ℕ → List ℕ → Type 0) (next : S → List ℕ → S) → ((s : S) (x line : List ℕ) → L s x line → IsBarredLine x line) → (n : ℕ) (s : S) (xs : List (List ℕ)) (t : Lines)
    → Chain (λ z. OneLine (L z)) next n s xs t → All HasNoLineEnd t → All IsShortLine xs
texts_short L next tells zero s [] t p each = All-nil IsShortLine
texts_short L next tells zero s (x ∷ xs) t p each = absurd p
texts_short L next tells (suc n) s [] t p each = absurd p
texts_short L next tells (suc n) s (x ∷ xs) t p each =
    let is = tells s x p.says_first.line p.says_first.says in
    let whole : All HasNoLineEnd (p.says_first.line ∷ p.second) = subst (All HasNoLineEnd) (p.lines_are ∙ ap (λ f. f ++ p.second) p.says_first.lines_are) each in
    let one : HasNoLineEnd x = All-tail (λ byte. byte ≢ 10) 124 x (subst HasNoLineEnd is.barred (All-head HasNoLineEnd p.says_first.line p.second whole)) in
    All-cons IsShortLine x xs (record { utf8 = is.is_short.utf8; one = one; short = is.is_short.short }) (texts_short L next tells n (next s x) xs p.second p.says_second (All-tail HasNoLineEnd p.says_first.line p.second whole))

lines_short : (n : ℕ) (xs : List (List ℕ)) (t : Lines) → TextLinesForm n xs t → All HasNoLineEnd t → All IsShortLine xs
lines_short n xs t p each = texts_short (λ s. IsBarredLine) same_state (λ s x line is. is) n tt xs t p each

pub texts_numbered : (id : ℕ) (texts : List (List (List ℕ))) → block_texts_of (numbered_from id texts) ≡ texts
texts_numbered id [] = refl
texts_numbered id (text ∷ texts) = ap (λ ts. text ∷ ts) (texts_numbered (id + 1) texts)

-- the lines of the blocks
abbrev lines_from : ℕ → List (ℕ × List (List ℕ)) → List (List ℕ)
lines_from id said = flat_map (λ (block : BlockAt). block.text) (numbered_from id (map (λ block. block.1) said))

blocks_within : (n : ℕ) (s : BlocksSoFar) (id : ℕ) (said : List (ℕ × List (List ℕ))) (t : Lines) → Chain block_form with_block n s said t → s.lines ≤ 1048576 → s.lines + length (lines_from id said) ≤ 1048576
blocks_within zero s id [] t p few = omega (arith, few)
blocks_within zero s id (x ∷ xs) t p few = absurd p
blocks_within (suc n) s id [] t p few = absurd p
blocks_within (suc n) s id (x ∷ xs) t p few =
    let count = p.says_first.says_first.says in
    let enough = count.enough in
    let most = count.few in
    let same = (block_spelt (min 4096 (1048576 - s.lines - (s.left - 1))) id x p.first p.says_first).1 in
    let rest = blocks_within n (with_block s x) (id + 1) xs p.second p.says_second (omega (arith, enough, most)) in
    omega (arith, same, rest, length-append x.1 (lines_from (id + 1) xs))

blocks_texts : (n : ℕ) (s : BlocksSoFar) (said : List (ℕ × List (List ℕ))) (t : Lines) → Chain block_form with_block n s said t → All HasNoLineEnd t → All IsFirstText (map (λ block. block.1) said)
blocks_texts zero s [] t p each = All-nil IsFirstText
blocks_texts zero s (x ∷ xs) t p each = absurd p
blocks_texts (suc n) s [] t p each = absurd p
blocks_texts (suc n) s (x ∷ xs) t p each =
    let whole : All HasNoLineEnd (p.first ++ p.second) = subst (All HasNoLineEnd) p.lines_are each in
    let block = p.says_first in
    let first : All HasNoLineEnd (block.first ++ block.second) = subst (All HasNoLineEnd) block.lines_are (all_first p.first p.second whole) in
    let count = block.says_first.says in
    let enough = count.enough in
    let most = count.few in
    let same = (lines_spelt x.0 x.1 block.second block.says_second).1 in
    All-cons IsFirstText x.1 (map (λ b. b.1) xs) (record { some = omega (arith, same, enough); few = omega (arith, same, most); lines = lines_short x.0 x.1 block.second block.says_second (all_second block.first block.second first) })
    (blocks_texts n (with_block s x) xs p.second p.says_second (all_second p.first p.second whole))

edit_writable : (e : EditWords) (text : List (List ℕ)) → IsLawfulEdit e → length text ≤ 4096 → All IsShortLine text → IsWritable (edit_said e text)
edit_writable (Put block seen lines) text lawful few short = (lawful.0, lawful.1, record { few = few; lines = short })
edit_writable (Add anchor block lines) text lawful few short = (lawful.0, lawful.1, record { few = few; lines = short })
edit_writable (Cut block seen) text lawful few short = lawful

line_written : (said : EntryLine) (text : List (List ℕ)) (line : List ℕ) → IsEntryLine said line → length text ≤ 4096 → All IsShortLine text → IsSpelledEntry (entry_said (said, text))
line_written (Block words) text line it few short = record { session = it.session; given = edit_writable words.edit text it.lawful few short }
line_written (Header words) text line it few short = record { session = it.session_few; given = (it.seen_fits, record { are = it.are.are; utf8 = it.are.utf8 }) }

-- an entry that was read has a spelling
pub entry_written : (said : EntrySaid) (t : Lines) → IsEntryText said t → All HasNoLineEnd t → IsSpelledEntry (entry_said said)
entry_written said t p each =
    let whole : All HasNoLineEnd (p.first ++ p.second) = subst (All HasNoLineEnd) p.lines_are each in
    let lines = lines_spelt (text_lines_behind said.0) said.1 p.second p.says_second in
    let few = few_lines said.0 p.says_first.line p.says_first.says in
    line_written said.0 said.1 p.says_first.line p.says_first.says (omega (arith, few, lines.1)) (lines_short (text_lines_behind said.0) said.1 p.second p.says_second (all_second p.first p.second whole))

pub entries_written : (n : ℕ) (said : List EntrySaid) (t : Lines) → AreEntries n said t → All HasNoLineEnd t → All IsSpelledEntry (map entry_said said)
entries_written zero [] t p each = All-nil IsSpelledEntry
entries_written zero (x ∷ xs) t p each = absurd p
entries_written (suc n) [] t p each = absurd p
entries_written (suc n) (x ∷ xs) t p each =
    let whole : All HasNoLineEnd (p.first ++ p.second) = subst (All HasNoLineEnd) p.lines_are each in
    All-cons IsSpelledEntry (entry_said x) (map entry_said xs) (entry_written x p.first p.says_first (all_first p.first p.second whole)) (entries_written n xs p.second p.says_second (all_second p.first p.second whole))

-- what stands before the entries keeps its bounds
pub opening_keeps : (said : OpeningSaid) (t : Lines) → OpeningForm said t → All HasNoLineEnd t → KeepsBounds (head_said said) (profile_said said) (blocks_told said) []
opening_keeps said t o each =
    let opening : All HasNoLineEnd (o.first ++ o.second) = subst (All HasNoLineEnd) o.lines_are each in
    let h = o.says_second in
    let behind_front : All HasNoLineEnd (h.first ++ h.second) = subst (All HasNoLineEnd) h.lines_are (all_second o.first o.second opening) in
    let head = h.says_first in
    let head_each : All HasNoLineEnd (head.first ++ head.second) = subst (All HasNoLineEnd) head.lines_are (all_first h.first h.second behind_front) in
    let b = h.says_second in
    let behind_head : All HasNoLineEnd (b.first ++ b.second) = subst (All HasNoLineEnd) b.lines_are (all_second h.first h.second behind_front) in
    let blocks = b.says_first in
    let blocks_each : All HasNoLineEnd (blocks.first ++ blocks.second) = subst (All HasNoLineEnd) blocks.lines_are (all_first b.first b.second behind_head) in
    let texts = map (λ block. block.1) (blocks_said said) in
    let many = chain_length head_form head_with_line said.1.0.0 (no_line_yet said.1.0.0) (head_said said) head.second head.says_second in
    let head_most = head.says_first.says.few in
    let blocks_many = chain_length block_form with_block said.1.1.0.0 (no_block_yet said.1.1.0.0) (blocks_said said) blocks.second blocks.says_second in
    let blocks_most = blocks.says_first.says.few in
    let lines = blocks_within said.1.1.0.0 (no_block_yet said.1.1.0.0) 0 (blocks_said said) blocks.second blocks.says_second (omega arith) in
    record {
      limits = o.says_first.says_second.says.lawful;
      whole = (head_law said.1.0.0 head.says_first.says.enough (head_said said) head.second head.says_second).0;
      head_few = omega (arith, many, head_most);
      head_lines = texts_short IsHeadLine head_with_line (λ s x line is. is.barred) said.1.0.0 (no_line_yet said.1.0.0) (head_said said) head.second head.says_second (all_second head.first head.second head_each);
      numbered = ap (numbered_from 0) (sym (texts_numbered 0 texts));
      blocks_few = omega (arith, numbered_length 0 texts, length-map (blocks_said said) (λ block. block.1), blocks_many, blocks_most);
      lines_few = omega (arith, lines);
      texts = subst (All IsFirstText) (sym (texts_numbered 0 texts)) (blocks_texts said.1.1.0.0 (no_block_yet said.1.1.0.0) (blocks_said said) blocks.second blocks.says_second (all_second blocks.first blocks.second blocks_each));
      written = All-nil IsSpelledEntry;
    }

-- a saved text tells parts that keep their bounds
pub saved_keeps : (said : OpeningSaid × List EntrySaid) (t : Lines) → SavedForm said t → All HasNoLineEnd t → KeepsBounds (head_said said.0) (profile_said said.0) (blocks_told said.0) (map entry_said said.1)
saved_keeps said t p each =
    let whole : All HasNoLineEnd (p.first ++ p.second) = subst (All HasNoLineEnd) p.lines_are each in
    let o = opening_keeps said.0 p.first p.says_first (all_first p.first p.second whole) in
    record {
      limits = o.limits;
      whole = o.whole;
      head_few = o.head_few;
      head_lines = o.head_lines;
      numbered = o.numbered;
      blocks_few = o.blocks_few;
      lines_few = o.lines_few;
      texts = o.texts;
      written = entries_written (count_said said.0) said.1 p.second p.says_second (all_second p.first p.second whole);
    }
