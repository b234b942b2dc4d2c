-- What a document of a script begins with can be saved.
use Rattle.std.proofs.Common.{◌≡◌, ℕ, suc, ◌+◌, ◌≤◌, Ok, Err, List, [], ◌∷◌, ◌++◌, All, length, take, sym, ap, ◌∙◌, refl, subst, arith, if◌then◌else◌}
use Rattle.std.specs.List.{AllByRecursion, flat_map, prefix_len}
use Rattle.std.proofs.lemmas.Bool.{cond-false, cond-true}
use Rattle.std.proofs.lemmas.List.{length-map, take_all}
use Rattle.std.proofs.lemmas.List.Elements.{All-drop, All-from_recursion, All-take, recursion_from_All}
use Rattle.std.proofs.lemmas.List.Folds.{length-prefix_len}
use Rattle.knit_base.specs.Limits.{IsLawfulProfile}
use Rattle.knit_base.proofs.Places.{by_test}
use Rattle.knitout_reader.specs.declared.head.Head.{Head}
use Rattle.knitout_reader.specs.declared.head.HeadFault.TheVariants.{BadMagic}
use Rattle.knitout_reader.specs.Head.{IsHead, carriers_headers, declared_names, head_len, head_of, is_head_line, is_magic, one_declared}
use Rattle.machine_profile.specs.declared.Chosen.{Chosen}
use Rattle.edit_journal.specs.declared.edit.BlockAt.{BlockAt}
use Rattle.edit_journal.specs.declared.opening.Opening.{Opening}
use Rattle.edit_journal.specs.Documents.{lines_in, opened_from}
use Rattle.edit_sessions.specs.Laws.{KeepsLimits}
use Rattle.journal_file.specs.Heads.{IsWholeHead, names_in_head}
use Rattle.edit_book.specs.Outlines.{block_texts_of}
use Rattle.journal_file.specs.SavedParts.{IsFirstText, IsShortLine, numbered_from, opening_of_saved, first_blocks}
use Rattle.journal_file.proofs.HeadLaws.{names_known}
use Rattle.input_answers.specs.Asked.{IsLawfulChosen}
use Rattle.file_run.specs.Bodies.{body_of}
use Rattle.input_answers.specs.Due.{BodyFits, blocks_of}
use Rattle.input_answers.specs.DueLive.{AreOpeningBlocks, IsScriptOpening}
use Rattle.input_answers.proofs.Openings.{blocks-count}

-- the lines with which a head goes on are all of their own head
prefix_taken : (lines : List (List ℕ)) → prefix_len is_head_line (take (prefix_len is_head_line lines) lines) ≡ prefix_len is_head_line lines
prefix_taken [] = refl
prefix_taken (line ∷ lines) =
    let n : ℕ = prefix_len is_head_line lines in
    by_test (is_head_line line)
    (λ is.
    let count : prefix_len is_head_line (line ∷ lines) ≡ suc n = cond-true (is_head_line line) (1 + n) 0 is ∙ omega arith in
    let first : prefix_len is_head_line (line ∷ take n lines) ≡ 1 + prefix_len is_head_line (take n lines) = cond-true (is_head_line line) (1 + prefix_len is_head_line (take n lines)) 0 is in
    ap (λ k. prefix_len is_head_line (take k (line ∷ lines))) count ∙ omega (arith, first, prefix_taken lines, count))
    (λ isnt. let none : prefix_len is_head_line (line ∷ lines) ≡ 0 = cond-false (is_head_line line) (1 + n) 0 isnt in ap (λ k. prefix_len is_head_line (take k (line ∷ lines))) none ∙ sym none)

-- the head of a text, whose lines behind the first are these
module _ (first : List ℕ) (lines : List (List ℕ)) where
  abbrev going : List (List ℕ)
  going = take (prefix_len is_head_line lines) lines

  head_lines_are : head_of (first ∷ lines) ≡ first ∷ going
  head_lines_are = let n : ℕ = prefix_len is_head_line lines in let count : 1 + n ≡ suc n = omega arith in ap (λ k. take k (first ∷ lines)) count

  going_len : head_len (first ∷ going) ≡ length (first ∷ going)
  going_len = omega (arith, prefix_taken lines, length-prefix_len is_head_line lines)

  head_long : length (head_of (first ∷ lines)) ≡ head_len (first ∷ lines)
  head_long = ap length head_lines_are ∙ omega (arith, length-prefix_len is_head_line lines)

  head_again : head_of (first ∷ going) ≡ head_of (first ∷ lines)
  head_again = take_all (head_len (first ∷ going)) (first ∷ going) (omega (arith, going_len)) ∙ sym head_lines_are

  names_again : declared_names (head_of (first ∷ lines)) ≡ declared_names (first ∷ lines)
  names_again = ap declared_names head_lines_are ∙ ap (λ ls. if is_magic first then one_declared (carriers_headers 1 ls) else Err BadMagic) head_again

-- the head of a text is one whole head
pub record IsHeadOf (text : List (List ℕ)) (head : Head) : Type 0 where
  pub whole : IsWholeHead (head_of text)
  pub names : names_in_head (head_of text) ≡ head.declared
  pub long : length (head_of text) ≡ head_len text

pub whole_head : (text : List (List ℕ)) (head : Head) → IsHead text head → IsHeadOf text head
whole_head [] head is = absurd (let none = is.names in cc)
whole_head (first ∷ lines) head is =
    let declared : declared_names (head_of (first ∷ lines)) ≡ Ok head.declared = names_again first lines ∙ is.names in
    let known = names_known (head_of (first ∷ lines)) head.declared declared in
    record {
      whole = record {
        whole = ap head_len (head_lines_are first lines) ∙ going_len first lines ∙ sym (ap length (head_lines_are first lines));
        declared = declared ∙ ap Ok (sym known);
      };
      names = known;
      long = head_long first lines;
    }

-- the first blocks
numbered_texts : (id : ℕ) (texts : List (List (List ℕ))) → block_texts_of (numbered_from id texts) ≡ texts
numbered_texts id [] = refl
numbered_texts id (text ∷ texts) = ap (λ (ts : List (List (List ℕ))). text ∷ ts) (numbered_texts (id + 1) texts)

pub first_texts : (o : Opening) → block_texts_of (first_blocks o) ≡ o.texts
first_texts o = numbered_texts 0 o.texts

pub first_numbered : (o : Opening) → first_blocks o ≡ numbered_from 0 (block_texts_of (first_blocks o))
first_numbered o = ap (numbered_from 0) (sym (first_texts o))

block_lines : (id : ℕ) (texts : List (List (List ℕ))) → flat_map (λ (b : BlockAt). b.text) (numbered_from id texts) ≡ flat_map (λ (text : List (List ℕ)). text) texts
block_lines id [] = refl
block_lines id (text ∷ texts) = ap (λ (lines : List (List ℕ)). text ++ lines) (block_lines (id + 1) texts)

opened_lines : (id : ℕ) (texts : List (List (List ℕ))) → lines_in (opened_from id texts) ≡ flat_map (λ (text : List (List ℕ)). text) texts
opened_lines id [] = refl
opened_lines id (text ∷ texts) = ap (λ (lines : List (List ℕ)). text ++ lines) (opened_lines (id + 1) texts)

-- the parts of lines, text by text
front_short : (front more : List (List ℕ)) → AllByRecursion IsShortLine (front ++ more) → AllByRecursion IsShortLine front × AllByRecursion IsShortLine more
front_short [] more each = (tt, each)
front_short (line ∷ front) more each = let rest = front_short front more each.1 in ((each.0, rest.0), rest.1)

first_text : (text : List (List ℕ)) → 1 ≤ length text → length text ≤ 4096 → AllByRecursion IsShortLine text → IsFirstText text
first_text text some few short = record { some = some; few = few; lines = All-from_recursion IsShortLine text short }

all_first : (size : ℕ) (texts : List (List (List ℕ))) → 1 ≤ size → size ≤ 4096 → AreOpeningBlocks size texts → AllByRecursion IsShortLine (flat_map (λ (text : List (List ℕ)). text) texts) → AllByRecursion IsFirstText texts
all_first size [] some few are short = tt
all_first size (text ∷ []) some few are short = (first_text text (omega (arith, are.0)) (omega (arith, few, are.1)) (front_short text [] short).0, tt)
all_first size (text ∷ next ∷ texts) some few are short =
    let parts = front_short text (flat_map (λ (text : List (List ℕ)). text) (next ∷ texts)) short in
    (first_text text (omega (arith, some, are.0)) (omega (arith, few, are.0)) parts.0, all_first size (next ∷ texts) some few are.1 parts.1)

module _ (chosen : Chosen) (head : Head) (text : List (List ℕ)) (o : Opening) (lawful : IsLawfulChosen chosen) (fits : BodyFits chosen.block (length (body_of text))) (opens : IsScriptOpening chosen head text o) where
  blocks_few : length o.texts ≤ 65536
  blocks_few =
      let some = lawful.block.some in
      let counted = blocks-count chosen.block o.texts (omega (arith, some)) opens.blocks in
      let few = fits.blocks in
      omega (arith, counted, ap (λ (lines : List (List ℕ)). blocks_of chosen.block (length lines)) opens.lines, few)

  lines_few : length (flat_map (λ (text : List (List ℕ)). text) o.texts) ≤ 1048576
  lines_few = let few = fits.lines in omega (arith, ap length opens.lines, few)

  -- the opening is as large as a document may be at most
  pub keeps_limits : KeepsLimits o
  keeps_limits = record { blocks = blocks_few; lines = omega (arith, ap length (opened_lines 0 o.texts), lines_few) }

  pub first_few : length (first_blocks o) ≤ 65536
  first_few = omega (arith, ap length (first_texts o), length-map (first_blocks o) (λ (b : BlockAt). b.text), blocks_few)

  pub first_lines_few : length (flat_map (λ (b : BlockAt). b.text) (first_blocks o)) ≤ 1048576
  first_lines_few = omega (arith, ap length (block_lines 0 o.texts), lines_few)

  pub first_fit : AllByRecursion IsShortLine text → All IsFirstText (block_texts_of (first_blocks o))
  first_fit short =
      let behind : AllByRecursion IsShortLine (body_of text) = recursion_from_All IsShortLine (body_of text) (All-drop IsShortLine (head_len text) text (All-from_recursion IsShortLine text short)) in
      subst (All IsFirstText) (sym (first_texts o))
      (All-from_recursion IsFirstText o.texts (all_first chosen.block o.texts lawful.block.some lawful.block.few opens.blocks (subst (AllByRecursion IsShortLine) (sym opens.lines) behind)))

  pub head_fit : AllByRecursion IsShortLine text → All IsShortLine (head_of text)
  head_fit short = All-take IsShortLine (head_len text) text (All-from_recursion IsShortLine text short)

  pub profile_lawful : IsLawfulProfile o.setting.profile
  profile_lawful = subst IsLawfulProfile (sym opens.profile) lawful.profile

  -- what was saved opens the same document
  pub opens_again : IsHeadOf text head → opening_of_saved (head_of text) o.setting.profile (first_blocks o) ≡ o
  opens_again is =
      let declared : names_in_head (head_of text) ≡ o.setting.declared = is.names ∙ sym opens.declared in
      let first : length (head_of text) + 1 ≡ o.setting.first = ap (λ (n : ℕ). n + 1) is.long ∙ sym opens.first in
      λ i. record { setting = record { profile = o.setting.profile; declared = declared i; first = first i }; texts = first_texts o i }
