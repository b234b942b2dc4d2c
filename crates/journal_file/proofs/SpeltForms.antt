-- What keeps the bounds of a saved text is told by lines of the form.
use Rattle.std.proofs.Common.{◌≡◌, ◌≢◌, ◌∙◌, ℕ, ◌+◌, ◌<◌, ◌≤◌, List, [], ◌∷◌, ◌++◌, All, length, map, flat_map, ap, sym, subst, refl, arith, codes, length-append}
use Rattle.std.proofs.lemmas.List.{length-map}
use Rattle.std.proofs.lemmas.List.Elements.{All-append, All-cons, All-head, All-nil, All-tail, All-weaker, recursion_from_All}
use Rattle.knit_base.specs.Lines.{HasNoLineEnd}
use Rattle.knit_base.specs.Names.{spaced_names}
use Rattle.knit_base.specs.Spelling.{labelled_number}
use Rattle.knit_base.specs.declared.profile.Profile.{Profile}
use Rattle.edit_journal.specs.declared.edit.Anchor.{Anchor}
use Rattle.edit_journal.specs.declared.edit.Anchor.TheVariants.{Start, After}
use Rattle.edit_journal.specs.declared.edit.BlockAt.{BlockAt}
use Rattle.edit_journal.specs.declared.edit.Edit.{Edit}
use Rattle.edit_journal.specs.declared.edit.Edit.TheVariants as edit
use Rattle.edit_journal.specs.declared.edit.Entry.{Entry}
use Rattle.edit_journal.specs.EntryLine.{anchor_text, edit_text, entry_line}
use Rattle.journal_file.specs.declared.entry_line.EntryLine.{EntryLine}
use Rattle.journal_file.specs.declared.entry_line.EntryLine.TheVariants.{Block, Header}
use Rattle.journal_file.specs.declared.entry_words.EditWords.TheVariants.{Put, Add, Cut}
use Rattle.journal_file.specs.BlockForms.{BlocksSoFar, IsBlock, block_form, most_lines, no_block_yet, with_block}
use Rattle.journal_file.specs.Entries.{IsLawfulAnchor}
use Rattle.journal_file.specs.EntryForms.{AreEntries, IsEntryLine, IsEntryText, text_lines_behind}
use Rattle.journal_file.specs.Grammars.{Lines, Chain}
use Rattle.journal_file.specs.Lines.{IsShort}
use Rattle.journal_file.specs.SavedForms.{EntrySaid, OpeningSaid, SavedForm, block_words, blocks_told, entry_said, head_said, profile_said}
use Rattle.edit_book.specs.Outlines.{block_texts_of}
use Rattle.journal_file.specs.SavedParts.{IsFirstText, IsShortLine, IsWritable, IsSpelledEntry, KeepsBounds, numbered_from}
use Rattle.journal_file.specs.Spelling.{profile_text}
use Rattle.journal_file.specs.Texts.{TextLinesForm}
use Rattle.journal_file.proofs.HeadLaws.{barred_text_line, head_again}
use Rattle.journal_file.proofs.PlainLines.{both_plain, decimal_plain, labelled_plain, names_plain, no_feed, profile_plain}

short_of : (line : List ℕ) → IsShortLine line → IsShort line
short_of line is = record { utf8 = is.utf8; short = is.short }

-- text lines tell texts
texts_form : (texts : List (List ℕ)) → All IsShortLine texts → TextLinesForm (length texts) texts (map barred_text_line texts)
texts_form [] each = refl
texts_form (x ∷ xs) each = record {
  first = barred_text_line x ∷ [];
  second = map barred_text_line xs;
  lines_are = refl;
  says_first = record { line = barred_text_line x; lines_are = refl; says = record { barred = refl; is_short = short_of x (All-head IsShortLine x xs each) } };
  says_second = texts_form xs (All-tail IsShortLine x xs each);
}

texts_plain : (texts : List (List ℕ)) → All IsShortLine texts → All HasNoLineEnd (map barred_text_line texts)
texts_plain [] each = All-nil HasNoLineEnd
texts_plain (x ∷ xs) each =
    All-cons HasNoLineEnd (barred_text_line x) (map barred_text_line xs) (All-cons (λ byte. byte ≢ 10) 124 x (λ is. absurd (omega (arith, is))) (All-head IsShortLine x xs each).one) (texts_plain xs (All-tail IsShortLine x xs each))

-- the lines of a block
abbrev block_told : List (List ℕ) → Lines
block_told text = labelled_number (codes "block ") (length text) ∷ map barred_text_line text

block_is : (most : ℕ) (text : List (List ℕ)) → IsFirstText text → length text ≤ most → IsBlock most (block_words text) (block_told text)
block_is most text is few = record {
  first = labelled_number (codes "block ") (length text) ∷ [];
  second = map barred_text_line text;
  lines_are = refl;
  says_first = record { line = labelled_number (codes "block ") (length text); lines_are = refl; says = record { spelt = refl; enough = is.some; few = few } };
  says_second = texts_form text is.lines;
}

block_plain : (text : List (List ℕ)) → IsFirstText text → All HasNoLineEnd (block_told text)
block_plain text is =
    let few = is.few in
    All-cons HasNoLineEnd (labelled_number (codes "block ") (length text)) (map barred_text_line text) (labelled_plain (codes "block ") (length text) refl (omega (arith, few))) (texts_plain text is.lines)

-- how many lines these texts have
abbrev lines_in : List (List (List ℕ)) → ℕ
lines_in [] = 0
lines_in (text ∷ texts) = length text + lines_in texts

lines_counted : (id : ℕ) (texts : List (List (List ℕ))) → length (flat_map (λ (block : BlockAt). block.text) (numbered_from id texts)) ≡ lines_in texts
lines_counted id [] = refl
lines_counted id (text ∷ texts) =
    let rest = lines_counted (id + 1) texts in
    omega (arith, rest, length-append text (flat_map (λ (block : BlockAt). block.text) (numbered_from (id + 1) texts)))

pub texts_joined : (id : ℕ) (texts : List (List (List ℕ))) → flat_map (λ (block : BlockAt). block.text) (numbered_from id texts) ≡ flat_map (λ (text : List (List ℕ)). text) texts
texts_joined id [] = refl
texts_joined id (text ∷ texts) = ap (λ lines. text ++ lines) (texts_joined (id + 1) texts)

-- each block has a line
lines_enough : (texts : List (List (List ℕ))) → All IsFirstText texts → length texts ≤ lines_in texts
lines_enough [] each = omega arith
lines_enough (text ∷ texts) each =
    let some = (All-head IsFirstText text texts each).some in
    let rest = lines_enough texts (All-tail IsFirstText text texts each) in
    omega (arith, some, rest)

abbrev blocks_lines_told : List (List (List ℕ)) → Lines
blocks_lines_told [] = []
blocks_lines_told (text ∷ texts) = block_told text ++ blocks_lines_told texts

blocks_form : (texts : List (List (List ℕ))) (s : BlocksSoFar) → All IsFirstText texts → s.left ≡ length texts → s.lines + lines_in texts ≤ 1048576 → Chain block_form with_block (length texts) s (map block_words texts) (blocks_lines_told texts)
blocks_form [] s each left few = refl
blocks_form (text ∷ texts) s each left few =
    let first = All-head IsFirstText text texts each in
    let rest = All-tail IsFirstText text texts each in
    let most = first.few in
    record {
      first = block_told text;
      second = blocks_lines_told texts;
      lines_are = refl;
      says_first = block_is (most_lines s) text first (let more = lines_enough texts rest in omega (arith, most, left, few, more));
      says_second = blocks_form texts (with_block s (block_words text)) rest (omega (arith, left)) (omega (arith, few));
    }

blocks_plain : (texts : List (List (List ℕ))) → All IsFirstText texts → All HasNoLineEnd (blocks_lines_told texts)
blocks_plain [] each = All-nil HasNoLineEnd
blocks_plain (text ∷ texts) each =
    All-append HasNoLineEnd (block_told text) (blocks_lines_told texts) (block_plain text (All-head IsFirstText text texts each)) (blocks_plain texts (All-tail IsFirstText text texts each))

-- an entry, as the form says it
abbrev words_of : ℕ → Edit → EntrySaid
words_of session (edit.Put block seen text) = (Block (record { session = session; edit = Put block seen (length text) }), text)
words_of session (edit.Add anchor block text) = (Block (record { session = session; edit = Add anchor block (length text) }), text)
words_of session (edit.Cut block seen) = (Block (record { session = session; edit = Cut block seen }), [])
words_of session (edit.Head seen names) = (Header (record { session = session; seen = seen; names = names }), [])

words_again : (session : ℕ) (e : Edit) → entry_said (words_of session e) ≡ record { session = session; edit = e }
words_again session (edit.Put block seen text) = refl
words_again session (edit.Add anchor block text) = refl
words_again session (edit.Cut block seen) = refl
words_again session (edit.Head seen names) = refl

-- a line and the lines of its text
told : (said : EntryLine) (text : List (List ℕ)) (line : List ℕ) → IsEntryLine said line → length text ≡ text_lines_behind said → All IsShortLine text → IsEntryText (said, text) (line ∷ map barred_text_line text)
told said text line is many each = record {
  first = line ∷ [];
  second = map barred_text_line text;
  lines_are = refl;
  says_first = record { line = line; lines_are = refl; says = is };
  says_second = subst (λ n. TextLinesForm n text (map barred_text_line text)) many (texts_form text each);
}

entry_told : (session : ℕ) (e : Edit) → session < 64 → IsWritable e → IsEntryText (words_of session e) (entry_line (record { session = session; edit = e }) ∷ map barred_text_line (words_of session e).1)
entry_told session (edit.Put block seen text) few is =
    told (words_of session (edit.Put block seen text)).0 text (entry_line (record { session = session; edit = edit.Put block seen text })) (record { spelt = refl; session = few; lawful = (is.0, is.1, is.2.few) }) refl is.2.lines
entry_told session (edit.Add anchor block text) few is =
    told (words_of session (edit.Add anchor block text)).0 text (entry_line (record { session = session; edit = edit.Add anchor block text })) (record { spelt = refl; session = few; lawful = (is.0, is.1, is.2.few) }) refl is.2.lines
entry_told session (edit.Cut block seen) few is =
    told (words_of session (edit.Cut block seen)).0 [] (entry_line (record { session = session; edit = edit.Cut block seen })) (record { spelt = refl; session = few; lawful = is }) refl (All-nil IsShortLine)
entry_told session (edit.Head seen names) few is =
    told (words_of session (edit.Head seen names)).0 [] (entry_line (record { session = session; edit = edit.Head seen names })) (record { spelt = refl; session_few = few; seen_fits = is.0; are = record { spelt = refl; are = is.1.are; utf8 = is.1.utf8 } }) refl (All-nil IsShortLine)

anchor_plain : (anchor : Anchor) → IsLawfulAnchor anchor → HasNoLineEnd (anchor_text anchor)
anchor_plain Start is = no_feed (codes "start") refl
anchor_plain (After id) is = decimal_plain id (omega (arith, is))

edit_plain : (e : Edit) → IsWritable e → HasNoLineEnd (edit_text e)
edit_plain (edit.Put block seen text) is =
    let few = is.2.few in
    both_plain (labelled_number (codes " put ") block) (labelled_number (codes " seen ") seen ++ labelled_number (codes " lines ") (length text)) (labelled_plain (codes " put ") block refl (omega (arith, is.0)))
    (both_plain (labelled_number (codes " seen ") seen) (labelled_number (codes " lines ") (length text)) (labelled_plain (codes " seen ") seen refl (omega (arith, is.1))) (labelled_plain (codes " lines ") (length text) refl (omega (arith, few))))
edit_plain (edit.Add anchor block text) is =
    let few = is.2.few in
    both_plain (codes " add ") (anchor_text anchor ++ (labelled_number (codes " block ") block ++ labelled_number (codes " lines ") (length text))) (no_feed (codes " add ") refl)
    (both_plain (anchor_text anchor) (labelled_number (codes " block ") block ++ labelled_number (codes " lines ") (length text)) (anchor_plain anchor is.0)
    (both_plain (labelled_number (codes " block ") block) (labelled_number (codes " lines ") (length text)) (labelled_plain (codes " block ") block refl (omega (arith, is.1))) (labelled_plain (codes " lines ") (length text) refl (omega (arith, few)))))
edit_plain (edit.Cut block seen) is =
    both_plain (labelled_number (codes " cut ") block) (labelled_number (codes " seen ") seen) (labelled_plain (codes " cut ") block refl (omega (arith, is.0))) (labelled_plain (codes " seen ") seen refl (omega (arith, is.1)))
edit_plain (edit.Head seen names) is =
    both_plain (labelled_number (codes " put head seen ") seen) (codes " carriers" ++ spaced_names names) (labelled_plain (codes " put head seen ") seen refl (omega (arith, is.0)))
    (both_plain (codes " carriers") (spaced_names names) (no_feed (codes " carriers") refl) (names_plain names is.1.are.each))

given_plain : (session : ℕ) (e : Edit) → IsWritable e → All IsShortLine (words_of session e).1
given_plain session (edit.Put block seen text) is = is.2.lines
given_plain session (edit.Add anchor block text) is = is.2.lines
given_plain session (edit.Cut block seen) is = All-nil IsShortLine
given_plain session (edit.Head seen names) is = All-nil IsShortLine

abbrev entry_words : Entry → EntrySaid
entry_words entry = words_of entry.session entry.edit

abbrev entry_lines_told : Entry → Lines
entry_lines_told entry = entry_line entry ∷ map barred_text_line (entry_words entry).1

entry_plain : (entry : Entry) → IsSpelledEntry entry → All HasNoLineEnd (entry_lines_told entry)
entry_plain entry is =
    let few = is.session in
    All-cons HasNoLineEnd (entry_line entry) (map barred_text_line (entry_words entry).1)
    (both_plain (labelled_number (codes "session ") entry.session) (edit_text entry.edit) (labelled_plain (codes "session ") entry.session refl (omega (arith, few))) (edit_plain entry.edit is.given))
    (texts_plain (entry_words entry).1 (given_plain entry.session entry.edit is.given))

abbrev entries_told : List Entry → Lines
entries_told [] = []
entries_told (entry ∷ entries) = entry_lines_told entry ++ entries_told entries

entries_form : (entries : List Entry) → All IsSpelledEntry entries → AreEntries (length entries) (map entry_words entries) (entries_told entries)
entries_form [] each = refl
entries_form (entry ∷ entries) each =
    let first = All-head IsSpelledEntry entry entries each in
    record { first = entry_lines_told entry; second = entries_told entries; lines_are = refl; says_first = entry_told entry.session entry.edit first.session first.given; says_second = entries_form entries (All-tail IsSpelledEntry entry entries each) }

entries_plain : (entries : List Entry) → All IsSpelledEntry entries → All HasNoLineEnd (entries_told entries)
entries_plain [] each = All-nil HasNoLineEnd
entries_plain (entry ∷ entries) each =
    All-append HasNoLineEnd (entry_lines_told entry) (entries_told entries) (entry_plain entry (All-head IsSpelledEntry entry entries each)) (entries_plain entries (All-tail IsSpelledEntry entry entries each))

entries_again : (entries : List Entry) → map entry_said (map entry_words entries) ≡ entries
entries_again [] = refl
entries_again (entry ∷ entries) = (λ i. words_again entry.session entry.edit i ∷ entries_again entries i)

pub texts_again : (texts : List (List (List ℕ))) → map (λ block. block.1) (map block_words texts) ≡ texts
texts_again [] = refl
texts_again (text ∷ texts) = ap (λ ts. text ∷ ts) (texts_again texts)

-- the parts, as lines of the form tell them
pub record IsTold (head : List (List ℕ)) (profile : Profile) (blocks : List BlockAt) (entries : List Entry) : Type 0 where
  pub opening : OpeningSaid
  pub said : List EntrySaid
  pub lines : Lines
  pub form : SavedForm (opening, said) lines
  pub each : All HasNoLineEnd lines
  pub head_is : head_said opening ≡ head
  pub profile_is : profile_said opening ≡ profile
  pub blocks_are : blocks_told opening ≡ blocks
  pub entries_are : map entry_said said ≡ entries

-- what keeps its bounds is told
pub told_whole : (head : List (List ℕ)) (profile : Profile) (blocks : List BlockAt) (entries : List Entry) → KeepsBounds head profile blocks entries → length entries ≤ 4294967295 → IsTold head profile blocks entries
told_whole head profile blocks entries keeps few =
    let texts = block_texts_of blocks in
    let head_is = head_again head keeps.whole (recursion_from_All IsShort head (All-weaker IsShortLine IsShort short_of head keeps.head_lines)) in
    let head_few = keeps.head_few in
    let blocks_few = keeps.blocks_few in
    let lines_few = keeps.lines_few in
    let many : length texts ≡ length blocks = length-map blocks (λ (block : BlockAt). block.text) in
    let lines : length (flat_map (λ (block : BlockAt). block.text) blocks) ≡ lines_in texts = ap (λ bs. length (flat_map (λ (block : BlockAt). block.text) bs)) keeps.numbered ∙ lines_counted 0 texts in
    let head_line = labelled_number (codes "head ") (length head) in
    let blocks_line = labelled_number (codes "blocks ") (length texts) in
    let entries_line = labelled_number (codes "entries ") (length entries) in
    let front = codes "journal 1" ∷ profile_text profile ∷ [] in
    record {
      opening = ((tt, profile), ((length head, head), ((length texts, map block_words texts), length entries)));
      said = map entry_words entries;
      lines = (front ++ ((head_line ∷ map barred_text_line head) ++ ((blocks_line ∷ blocks_lines_told texts) ++ entries_line ∷ []))) ++ entries_told entries;
      form = record {
        first = front ++ ((head_line ∷ map barred_text_line head) ++ ((blocks_line ∷ blocks_lines_told texts) ++ entries_line ∷ []));
        second = entries_told entries;
        lines_are = refl;
        says_first = record {
          first = front;
          second = (head_line ∷ map barred_text_line head) ++ ((blocks_line ∷ blocks_lines_told texts) ++ entries_line ∷ []);
          lines_are = refl;
          says_first = record {
            first = codes "journal 1" ∷ [];
            second = profile_text profile ∷ [];
            lines_are = refl;
            says_first = record { line = codes "journal 1"; lines_are = refl; says = refl };
            says_second = record { line = profile_text profile; lines_are = refl; says = record { spelt = refl; lawful = keeps.limits } };
          };
          says_second = record {
            first = head_line ∷ map barred_text_line head;
            second = (blocks_line ∷ blocks_lines_told texts) ++ entries_line ∷ [];
            lines_are = refl;
            says_first = record {
              first = head_line ∷ [];
              second = map barred_text_line head;
              lines_are = refl;
              says_first = record { line = head_line; lines_are = refl; says = record { spelt = refl; enough = head_is.0; few = head_few } };
              says_second = head_is.1;
            };
            says_second = record {
              first = blocks_line ∷ blocks_lines_told texts;
              second = entries_line ∷ [];
              lines_are = refl;
              says_first = record {
                first = blocks_line ∷ [];
                second = blocks_lines_told texts;
                lines_are = refl;
                says_first = record { line = blocks_line; lines_are = refl; says = record { spelt = refl; enough = omega arith; few = omega (arith, many, blocks_few) } };
                says_second = blocks_form texts (no_block_yet (length texts)) keeps.texts refl (omega (arith, lines, lines_few));
              };
              says_second = record { line = entries_line; lines_are = refl; says = record { spelt = refl; enough = omega arith; few = few } };
            };
          };
        };
        says_second = entries_form entries keeps.written;
      };
      each =
          All-append HasNoLineEnd (front ++ ((head_line ∷ map barred_text_line head) ++ ((blocks_line ∷ blocks_lines_told texts) ++ entries_line ∷ []))) (entries_told entries)
          (All-append HasNoLineEnd front ((head_line ∷ map barred_text_line head) ++ ((blocks_line ∷ blocks_lines_told texts) ++ entries_line ∷ []))
          (All-cons HasNoLineEnd (codes "journal 1") (profile_text profile ∷ []) (no_feed (codes "journal 1") refl) (only (profile_text profile) (profile_plain profile keeps.limits)))
          (All-append HasNoLineEnd (head_line ∷ map barred_text_line head) ((blocks_line ∷ blocks_lines_told texts) ++ entries_line ∷ [])
          (All-cons HasNoLineEnd head_line (map barred_text_line head) (labelled_plain (codes "head ") (length head) refl (omega (arith, head_few))) (texts_plain head keeps.head_lines))
          (All-append HasNoLineEnd (blocks_line ∷ blocks_lines_told texts) (entries_line ∷ [])
          (All-cons HasNoLineEnd blocks_line (blocks_lines_told texts) (labelled_plain (codes "blocks ") (length texts) refl (omega (arith, many, blocks_few))) (blocks_plain texts keeps.texts))
          (only entries_line (labelled_plain (codes "entries ") (length entries) refl (omega (arith, few)))))))
          (entries_plain entries keeps.written);
      head_is = refl;
      profile_is = refl;
      blocks_are = ap (numbered_from 0) (texts_again texts) ∙ sym keeps.numbered;
      entries_are = entries_again entries;
    }
  where
    only : (line : List ℕ) → HasNoLineEnd line → All HasNoLineEnd (line ∷ [])
    only line plain = All-cons HasNoLineEnd line [] plain (All-nil HasNoLineEnd)
