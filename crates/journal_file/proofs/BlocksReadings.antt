-- How far the reading of the first blocks has come, and where it stops.
use Rattle.std.proofs.Common.{◌≡◌, ◌∙◌, ℕ, zero, suc, ◌+◌, ◌-◌, ◌<◌, ◌≤◌, min, List, [], ◌∷◌, ◌++◌, ap, sym, subst, refl, arith, codes}
use Rattle.knit_base.specs.Spelling.{labelled_number}
use Rattle.journal_file.specs.BlockForms.{BlocksForm, BlocksSoFar, IsBlock, block_form, most_lines, no_block_yet, with_block}
use Rattle.journal_file.specs.CountLines.{IsCount}
use Rattle.journal_file.specs.Grammars.{Lines, IsUnambiguous, OneLine, Chain, behind_all}
use Rattle.journal_file.specs.Reading.{FormHasRead, IsFault}
use Rattle.journal_file.specs.Texts.{TextLinesForm, same_state, text_form}
use Rattle.journal_file.specs.declared.fault.JournalFault.{JournalFault}
use Rattle.journal_file.proofs.BlockReadings.{one_count}
use Rattle.journal_file.proofs.FormReadings.{behind_more, chain_fault, chain_more, chain_none}
use Rattle.journal_file.proofs.Grammars.{both_one, chain_one}
use Rattle.journal_file.proofs.Readings.{text_form_is_one, some_texts}

pub block_one : (s : BlocksSoFar) → IsUnambiguous (block_form s)
block_one s =
    both_one (OneLine (IsCount (codes "block ") 1 (most_lines s))) (λ count. TextLinesForm count) (one_count (codes "block ") 1 (most_lines s) (omega arith)) (λ count. chain_one text_form same_state text_form_is_one count tt)

-- where there are lines enough, so many blocks can be
pub some_blocks : (n : ℕ) (s : BlocksSoFar) → s.left ≡ n → s.lines + n ≤ 1048576 → (xs : List (ℕ × List (List ℕ))) × (u : Lines) × Chain block_form with_block n s xs u
some_blocks zero s left few = ([], [], refl)
some_blocks (suc n) s left few =
    let texts = some_texts 1 tt in
    let w = some_blocks n (with_block s (1, texts.0)) (omega (arith, left)) (omega (arith, few)) in
    let enough : 1 ≤ most_lines s = omega (arith, left, few) in (
      (1, texts.0) ∷ w.0,
      (labelled_number (codes "block ") 1 ∷ texts.1) ++ w.1,
      record {
        first = labelled_number (codes "block ") 1 ∷ texts.1;
        second = w.1;
        lines_are = refl;
        says_first = record {
          first = labelled_number (codes "block ") 1 ∷ [];
          second = texts.1;
          lines_are = refl;
          says_first = record { line = labelled_number (codes "block ") 1; lines_are = refl; says = record { spelt = refl; enough = omega arith; few = enough } };
          says_second = texts.2;
        };
        says_second = w.2;
      },
    )

-- the blocks so far, as the reading knows them
abbrev pub AreSoFar : ℕ → ℕ → ℕ → List (ℕ × List (List ℕ)) → Type 0
AreSoFar many done lines said = behind_all with_block (no_block_yet many) said ≡ record { lines = lines; left = many - done }

-- nothing was read yet
pub blocks_none : (many : ℕ) (bytes : List ℕ) (taken : ℕ) → FormHasRead (Chain block_form with_block 0 (no_block_yet many)) bytes taken [] bytes taken
blocks_none many bytes taken = chain_none block_form with_block (no_block_yet many) bytes taken

-- one more block was read
pub blocks_more : (many done lines : ℕ) (bytes : List ℕ) (taken : ℕ) (said : List (ℕ × List (List ℕ))) (rest : List ℕ) (now most count : ℕ) (texts : List (List ℕ)) (behind : List ℕ) (then_ : ℕ)
    → AreSoFar many done lines said → most ≡ min 4096 (1048576 - lines - (many - done - 1)) → FormHasRead (Chain block_form with_block done (no_block_yet many)) bytes taken said rest now
    → FormHasRead (IsBlock most) rest now (count, texts) behind then_ → FormHasRead (Chain block_form with_block (done + 1) (no_block_yet many)) bytes taken (said ++ (count, texts) ∷ []) behind then_
blocks_more many done lines bytes taken said rest now most count texts behind then_ so_far is p q =
    chain_more block_form with_block done (no_block_yet many) bytes taken said rest now (count, texts) behind then_ p
    (subst (λ s. FormHasRead (block_form s) rest now (count, texts) behind then_) (sym so_far) (subst (λ m. FormHasRead (IsBlock m) rest now (count, texts) behind then_) is q))

-- the fault of the next block is that of all
pub blocks_fault : (many done lines : ℕ) (bytes : List ℕ) (taken : ℕ) (said : List (ℕ × List (List ℕ))) (rest : List ℕ) (now most : ℕ) → done < many → lines + (many - done) ≤ 1048576
    → AreSoFar many done lines said → most ≡ min 4096 (1048576 - lines - (many - done - 1)) → FormHasRead (Chain block_form with_block done (no_block_yet many)) bytes taken said rest now
    → (fault : JournalFault) → IsFault (IsBlock most) rest now fault → IsFault (BlocksForm many) bytes taken fault
blocks_fault many done lines bytes taken said rest now most below few so_far is p fault stops =
    let all : done + suc (many - done - 1) ≡ many = omega (arith, below) in
    subst (λ n. IsFault (Chain block_form with_block n (no_block_yet many)) bytes taken fault) all
    (chain_fault block_form with_block block_one done (many - done - 1) (no_block_yet many) bytes taken said rest now
    (λ a t it. later a t (subst (λ s. block_form s a t) so_far it))
    p fault (subst (λ s. IsFault (block_form s) rest now fault) (sym so_far) (subst (λ m. IsFault (IsBlock m) rest now fault) is stops)))
  where
    at : BlocksSoFar
    at = record { lines = lines; left = many - done }

    later : (a : ℕ × List (List ℕ)) (t : Lines) → block_form (record { lines = lines; left = many - done }) a t
        → (ys : List (ℕ × List (List ℕ))) × (u : Lines) × Chain block_form with_block (many - done - 1) (with_block (behind_all with_block (no_block_yet many) said) a) ys u
    later a t it =
        let bound = it.says_first.says.few in
        subst (λ s. (ys : List (ℕ × List (List ℕ))) × (u : Lines) × Chain block_form with_block (many - done - 1) (with_block s a) ys u) (sym so_far)
        (some_blocks (many - done - 1) (with_block (record { lines = lines; left = many - done }) a) refl (omega (arith, few, below, bound)))

-- the blocks so far, with one more
pub so_far_more : (many done lines count : ℕ) (said : List (ℕ × List (List ℕ))) (texts : List (List ℕ)) → AreSoFar many done lines said → AreSoFar many (done + 1) (lines + count) (said ++ (count, texts) ∷ [])
so_far_more many done lines count said texts so_far =
    let left : many - done - 1 ≡ many - (done + 1) = omega arith in
    behind_more block_form with_block (no_block_yet many) said (count, texts)
    ∙ ap (λ s. with_block s (count, texts)) so_far
    ∙ (λ i. record { lines = lines + count; left = left i })
