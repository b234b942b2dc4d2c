-- A text that is cut into blocks, one after the other.
use Rattle.std.proofs.Common.{◌≡◌, ℕ, ◌+◌, ◌-◌, ◌*◌, ◌<◌, ◌≤◌, min, List, [], ◌∷◌, ◌++◌, length, take, drop, refl, ap, subst, sym, ◌∙◌, arith, length-append, append-nil}
use Rattle.std.specs.List.{flat_map, slice_range}
use Rattle.std.proofs.lemmas.Grind.{flat_map-append}
use Rattle.std.proofs.lemmas.List.{length-map}
use Rattle.std.proofs.lemmas.List.Folds.{flat_map-map}
use Rattle.std.proofs.Math.Nat.{le-div_iff_mul-le}
use Rattle.knit_base.specs.declared.setting.Setting.{Setting}
use Rattle.knitout_reader.specs.declared.head.Head.{Head}
use Rattle.knitout_reader.specs.Head.{IsHead}
use Rattle.machine_profile.specs.declared.Chosen.{Chosen}
use Rattle.block_summary.specs.declared.prepared.Prepared.{Prepared}
use Rattle.block_summary.proofs.LinePlaces.{part_len}
use Rattle.edit_journal.specs.declared.opening.Opening.{Opening}
use Rattle.file_run.specs.Bodies.{body_of}
use Rattle.input_answers.specs.Due.{BodyFits, blocks_of}
use Rattle.input_answers.specs.DueLive.{AreOpeningBlocks, IsScriptOpening}
use Rattle.input_answers.specs.Openings.{AreFull, IsCut, texts_of}
use Rattle.check_workers.proofs.LineRanges.{both_ranges, range_rest}

-- a last block behind full ones
blocks-last : (size : ℕ) (blocks : List (List (List ℕ))) (last : List (List ℕ)) → AreFull size blocks → 0 < length last → length last ≤ size → AreOpeningBlocks size (blocks ++ last ∷ [])
blocks-last size [] last full some few = (some, few)
blocks-last size (b ∷ []) last full some few = (full.0, (some, few))
blocks-last size (b ∷ c ∷ bs) last full some few = (full.0, blocks-last size (c ∷ bs) last full.1 some few)

-- a full block behind full ones
full-more : (size : ℕ) (blocks : List (List (List ℕ))) (block : List (List ℕ)) → AreFull size blocks → length block ≡ size → AreFull size (blocks ++ block ∷ [])
full-more size [] block full is = (is, tt)
full-more size (b ∷ bs) block full is = (full.0, full-more size bs block full.1 is)

-- so many blocks of this size have no more lines than there are, but for what the last one is short of
blocks-times : (size : ℕ) (blocks : List (List (List ℕ))) → AreOpeningBlocks size blocks → length blocks * size ≤ length (flat_map (λ block. block) blocks) + (size - 1)
blocks-times size [] are = omega arith
blocks-times size (b ∷ []) are = omega (arith, are.0, length-append b [])
blocks-times size (b ∷ c ∷ bs) are = omega (arith, are.0, blocks-times size (c ∷ bs) are.1, length-append b (flat_map (λ block. block) (c ∷ bs)))

-- so there are no more blocks than so many lines make
pub blocks-count : (size : ℕ) (blocks : List (List (List ℕ))) → 0 < size → AreOpeningBlocks size blocks → length blocks ≤ blocks_of size (length (flat_map (λ block. block) blocks))
blocks-count size blocks some are =
    (le-div_iff_mul-le {k = size} {x = length blocks} {y = length (flat_map (λ block. block) blocks) + (size - 1)} some).1 (blocks-times size blocks are)

-- no text
pub cut_none : (size : ℕ) (text : List (List ℕ)) (from : ℕ) → from ≤ length text → IsCut size text from from []
cut_none size text from inside =
    let none : from - from ≡ 0 = omega arith in
    record {
      ordered = omega arith;
      inside = inside;
      lines = sym (ap (λ (n : ℕ). take n (drop from text)) none);
      sizes = tt;
      full = (λ left. tt);
    }

-- one text more, as long as it can be
pub cut_more : (size : ℕ) (text : List (List ℕ)) (from mid to : ℕ) (old new : List (List (List ℕ))) → 0 < size → mid < length text → to ≡ mid + min size (length text - mid)
    → IsCut size text from mid old → new ≡ old ++ slice_range text mid to ∷ [] → IsCut size text from to new
cut_more size text from mid to old new some left reached here added =
    let ordered : from ≤ to = omega (arith, here.ordered, reached) in
    let inside : to ≤ length text = omega (arith, reached, left) in
    let behind : mid ≤ to = omega (arith, reached) in
    let piece : List (List ℕ) = slice_range text mid to in
    let long : length (slice_range text mid to) ≡ to - mid = part_len text mid to inside in
    record {
      ordered = ordered;
      inside = inside;
      lines = ap (flat_map (λ (ls : List (List ℕ)). ls)) added ∙ flat_map-append (λ (ls : List (List ℕ)). ls) old (piece ∷ [])
          ∙ ap (λ (ls : List (List ℕ)). flat_map (λ (l : List (List ℕ)). l) old ++ ls) (append-nil piece)
          ∙ ap (λ (ls : List (List ℕ)). ls ++ piece) here.lines ∙ both_ranges text from mid to here.ordered behind;
      sizes = subst (AreOpeningBlocks size) (sym added) (blocks-last size old piece (here.full left) (omega (arith, long, reached, some, left)) (omega (arith, long, reached)));
      full = (λ further. subst (AreFull size) (sym added) (full-more size old piece (here.full left) (omega (arith, long, reached, left, further))));
    }

-- the texts of a body
cut_lines : (size : ℕ) (text : List (List ℕ)) (head : Head) (texts : List (List (List ℕ))) → IsHead text head → IsCut size text head.lines (length text) texts
    → flat_map (λ (ls : List (List ℕ)). ls) texts ≡ body_of text
cut_lines size text head texts headed is = is.lines ∙ range_rest text head.lines (length text) refl ∙ ap (λ (n : ℕ). drop n text) headed.len

same_lines : (blocks : List Prepared) → flat_map (λ (b : List (List ℕ)). b) (texts_of blocks) ≡ flat_map (λ (b : Prepared). b.text) blocks
same_lines blocks = flat_map-map (λ (b : List (List ℕ)). b) (λ (b : Prepared). b.text) blocks

-- are few, and have few lines
pub record AreFew (blocks : List Prepared) : Type 0 where
  pub count : length blocks ≤ 65536
  pub lines : length (flat_map (λ (b : Prepared). b.text) blocks) ≤ 1048576

pub blocks_few : (size : ℕ) (text : List (List ℕ)) (head : Head) (texts : List (List (List ℕ))) (blocks : List Prepared) → 0 < size → IsHead text head → BodyFits size (length (body_of text))
    → IsCut size text head.lines (length text) texts → texts_of blocks ≡ texts → AreFew blocks
blocks_few size text head texts blocks some headed fits cut same =
    let is = subst (IsCut size text head.lines (length text)) (sym same) cut in
    let lines : flat_map (λ (b : List (List ℕ)). b) (texts_of blocks) ≡ body_of text = cut_lines size text head (texts_of blocks) headed is in
    let counted = blocks-count size (texts_of blocks) some is.sizes in
    let body : blocks_of size (length (flat_map (λ (b : List (List ℕ)). b) (texts_of blocks))) ≡ blocks_of size (length (body_of text)) =
    ap (λ (ls : List (List ℕ)). blocks_of size (length ls)) lines in
    record {
      count = omega (arith, counted, body, fits.blocks, length-map blocks (λ (b : Prepared). b.text));
      lines = omega (arith, ap length (sym (same_lines blocks) ∙ lines), fits.lines);
    }

-- they are the opening of the document
pub blocks_open : (chosen : Chosen) (text : List (List ℕ)) (head : Head) (setting : Setting) (texts : List (List (List ℕ))) (blocks : List Prepared) (opening : Opening) → IsHead text head
    → setting.profile ≡ chosen.profile → setting.declared ≡ head.declared → setting.first ≡ head.lines + 1
    → IsCut chosen.block text head.lines (length text) texts → texts_of blocks ≡ texts → opening.setting ≡ setting → opening.texts ≡ texts_of blocks → IsScriptOpening chosen head text opening
blocks_open chosen text head setting texts blocks opening headed profile declared first cut same set kept =
    let are : opening.texts ≡ texts = kept ∙ same in
    record {
      profile = ap (λ (s : Setting). s.profile) set ∙ profile;
      declared = ap (λ (s : Setting). s.declared) set ∙ declared;
      first = ap (λ (s : Setting). s.first) set ∙ first ∙ ap (λ (n : ℕ). n + 1) headed.len;
      lines = ap (flat_map (λ (b : List (List ℕ)). b)) are ∙ cut_lines chosen.block text head texts headed cut;
      blocks = subst (AreOpeningBlocks chosen.block) (sym are) cut.sizes;
    }
