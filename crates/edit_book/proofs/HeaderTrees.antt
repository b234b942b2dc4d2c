-- The tree under other names of the header.
use Rattle.std.proofs.Common.{◌≡◌, ℕ, zero, suc, ◌+◌, ◌*◌, ◌<◌, ◌≤◌, List, [], ◌∷◌, ◌++◌, length, drop, append_assoc, append-nil, Option, Some, sym, subst, ap, ◌∙◌, refl, arith}
use Rattle.std.specs.List.{slice_get}
use Rattle.knit_base.specs.declared.needle.Needle.{Needle}
use Rattle.knit_base.specs.declared.setting.Setting.{Setting}
use Rattle.edit_journal.specs.Documents.{Block, Document, body, lines_in}
use Rattle.face_data.specs.Items.{most_items}
use Rattle.edit_book.specs.declared.reply.Again.{Again}
use Rattle.edit_book.specs.Books.{BookView, IsLawfulBook, IsLawfulSetting, IsLeafOf, document}
use Rattle.edit_book.specs.Headers.{ArePreparedAgain}
use Rattle.edit_book.specs.HeaderTrees.{AreLeavesOf, AreLeavesTaken, FitBlocks, FitsBlock, lines_for, lines_left}
use Rattle.edit_book.specs.Verdicts.{setting_of}
use Rattle.edit_book.specs.Work.{header_limit, lines_anew, start_limit, with_names}
use Rattle.edit_book.proofs.HandedOver.{left_anew, own_leaves}
use Rattle.edit_book.proofs.Trees.{zip_count, zip_good, zip_lines}
use Rattle.edit_book.proofs.Work.{leaves_work}
use Rattle.summary_tree.specs.Leaves.{AreGoodFor, AreSound, Leaf}

-- How far the leaves are made: those of so many blocks are there, what was taken for the other blocks is left, and no more steps were taken than there are lines to read.
pub record AreMade (setting : Setting) (bs : List Block) (rest : List (Option Leaf)) (leaves : List Leaf) (at before now most : ℕ) : Type 0 where
  pub made : (more : List Leaf) → AreLeavesOf setting more (drop at bs) → AreLeavesOf setting (leaves ++ more) bs
  pub fit : FitBlocks setting rest (drop at bs)
  pub steps : now + lines_left rest (drop at bs) ≤ before + most

-- the block whose turn it is
pub record NextBlock (setting : Setting) (bs : List Block) (t : Option Leaf) (rest : List (Option Leaf)) (at : ℕ) : Type 0 where
  pub block : Block
  pub there : slice_get bs at ≡ Some block
  pub within : at < length bs
  pub front : drop at bs ≡ block ∷ drop (at + 1) bs
  pub fits : FitsBlock setting t block
  pub others : FitBlocks setting rest (drop (at + 1) bs)

split_at : (bs : List Block) (at : ℕ) (b : Block) (more : List Block) → drop at bs ≡ b ∷ more → (slice_get bs at ≡ Some b) × (at < length bs) × (drop (at + 1) bs ≡ more)
split_at [] zero b more is = absurd (cc)
split_at [] (suc at) b more is = absurd (cc)
split_at (x ∷ bs) zero b more is = let first : x ≡ b = cc in let others : bs ≡ more = cc in (ap Some first, omega arith, others)
split_at (x ∷ bs) (suc at) b more is =
    let rest = split_at bs at b more is in
    (rest.0, omega (arith, rest.1), ap (λ (n : ℕ). drop n (x ∷ bs)) (let e : suc at + 1 ≡ suc (at + 1) = omega arith in e) ∙ rest.2)

pub next_block : (setting : Setting) (bs : List Block) (t : Option Leaf) (rest all : List (Option Leaf)) (leaves : List Leaf) (at before now most : ℕ) → all ≡ t ∷ rest → AreMade setting bs all leaves at before now most → NextBlock setting bs t rest at
next_block setting bs t rest all leaves at before now most all_are h = go (drop at bs) refl (subst (λ (l : List (Option Leaf)). FitBlocks setting l (drop at bs)) all_are h.fit)
  where
    go : (l : List Block) → drop at bs ≡ l → FitBlocks setting (t ∷ rest) l → NextBlock setting bs t rest at
    go [] is h = absurd h
    go (b ∷ l) is h =
        let parts = split_at bs at b l is in
        record {
          block = b;
          there = parts.0;
          within = parts.1;
          front = is ∙ ap (λ (more : List Block). b ∷ more) (sym parts.2);
          fits = h.0;
          others = subst (FitBlocks setting rest) (sym parts.2) h.1;
        }

module _ (setting : Setting) (bs : List Block) (t : Option Leaf) (rest : List (Option Leaf)) (at : ℕ) (n : NextBlock setting bs t rest at) where
  -- what was taken for it fits the block at the place
  pub taken_fits : (b : Block) → slice_get bs at ≡ Some b → FitsBlock setting t b
  taken_fits b there = let two : Some n.block ≡ Some b = sym n.there ∙ there in let same : n.block ≡ b = cc in subst (FitsBlock setting t) same n.fits

  module _ (all : List (Option Leaf)) (leaves : List Leaf) (before now most later : ℕ) (all_are : all ≡ t ∷ rest) (h : AreMade setting bs all leaves at before now most) (less : later ≤ now + lines_for t n.block) where
    left_is : later + lines_left rest (drop (at + 1) bs) ≤ before + most
    left_is =
        let here : now + (lines_for t n.block + lines_left rest (drop (at + 1) bs)) ≤ before + most =
        subst (λ (p : List (Option Leaf) × List Block). now + lines_left p.0 p.1 ≤ before + most) (λ i. (all_are i, n.front i)) h.steps in
        omega (arith, less, here)

    -- the steps, where its leaf isn't made
    pub steps_so_far : later ≤ before + most
    steps_so_far = omega (arith, left_is)

    -- and where it is
    pub made_more : (leaf : Leaf) (longer : List Leaf) → longer ≡ leaves ++ leaf ∷ [] → IsLeafOf setting leaf n.block.lines → AreMade setting bs rest longer (at + 1) before later most
    made_more leaf longer longer_is is = record {
      made = λ more others.
          subst (λ (l : List Leaf). AreLeavesOf setting (l ++ more) bs) (sym longer_is)
          (subst (λ (l : List Leaf). AreLeavesOf setting l bs) (sym (append_assoc leaves (leaf ∷ []) more))
          (h.made (leaf ∷ more) (subst (AreLeavesOf setting (leaf ∷ more)) (sym n.front) (is, others))));
      fit = n.others;
      steps = left_is;
    }

-- all of them
pub made_all : (setting : Setting) (bs : List Block) (rest : List (Option Leaf)) (leaves : List Leaf) (at before now most : ℕ) → rest ≡ [] → AreMade setting bs rest leaves at before now most
    → AreLeavesOf setting leaves bs × (now ≤ before + most)
made_all setting bs rest leaves at before now most none h =
    (subst (λ (l : List Leaf). AreLeavesOf setting l bs) (append-nil leaves) (h.made [] (ended (drop at bs) (subst (λ (l : List (Option Leaf)). FitBlocks setting l (drop at bs)) none h.fit))), omega (arith, h.steps))
  where
    ended : (l : List Block) → FitBlocks setting [] l → AreLeavesOf setting [] l
    ended [] h = tt
    ended (b ∷ l) h = absurd h

-- leaves of the blocks may stand in one tree
sound_under : (setting : Setting) (leaves : List Leaf) (bs : List Block) → IsLawfulSetting setting → AreLeavesOf setting leaves bs → length bs ≤ 65536 → length (lines_in bs) ≤ 1048576 → AreSound leaves
sound_under setting leaves bs lawful h few lines = record {
  carriers = length setting.declared;
  limit = setting.profile.hold;
  few_carriers = lawful.carriers;
  few_loops = omega (arith, lawful.profile.hold);
  good = zip_good setting leaves bs lawful h;
  few_leaves = omega (arith, zip_count (λ (l : Leaf) (b : Block). IsLeafOf setting l b.lines) leaves bs h, few);
  few_lines = omega (arith, zip_lines setting leaves bs h, lines);
}

-- the lines without a summary are read once, and the tree is made
header_work : (setting : Setting) (leaves : List Leaf) (d : Document) (again : List Again) (before read now : ℕ) → AreLeavesOf setting leaves d.blocks → read ≤ before + lines_anew again d.blocks
    → ((carriers limit : ℕ) (known : List Needle) → AreGoodFor carriers limit known leaves → now ≤ read + 3 * most_items carriers limit (length known) * length leaves)
    → now ≤ before + header_limit setting d again
header_work setting leaves d again before read now h less steps =
    within before read now (start_limit setting (length d.blocks) (body d)) (lines_anew again d.blocks) less (leaves_work setting leaves d.blocks read now h steps)
  where
    within : (before read now most anew : ℕ) → read ≤ before + anew → now ≤ read + most → now ≤ before + (anew + most)
    within before read now most anew h k = omega arith

-- the tree that is made of the blocks of a book, under other names
module _ (v : BookView) (lawful : IsLawfulBook v) (names : List (List ℕ)) (again : List Again) (setting : Setting) (setting_is : setting ≡ with_names names (setting_of v.opening (document v)))
    (taken : List (Option Leaf)) (h : AreLeavesTaken again taken (document v).blocks) where
  pub all_fit : ArePreparedAgain v.opening v.entries names again → FitBlocks setting taken (document v).blocks
  all_fit all =
      subst (λ (s : Setting). FitBlocks s taken (document v).blocks) (sym setting_is)
      (own_leaves v.opening v.entries (with_names names (setting_of v.opening (document v))) again refl all taken (document v).blocks lawful.texts h)

  lines_read : (before read : ℕ) → read ≤ before + lines_left taken (document v).blocks → read ≤ before + lines_anew again (document v).blocks
  lines_read before read less = omega (arith, less, left_anew again taken (document v).blocks h)

  -- the steps, where the tree isn't made
  pub read_work : (before read : ℕ) → read ≤ before + lines_left taken (document v).blocks → read ≤ before + header_limit (with_names names (setting_of v.opening (document v))) (document v) again
  read_work before read less = omega (arith, lines_read before read less)

  module _ (leaves : List Leaf) (made : AreLeavesOf setting leaves (document v).blocks) where
    leaves_made : AreLeavesOf (with_names names (setting_of v.opening (document v))) leaves (document v).blocks
    leaves_made = subst (λ (s : Setting). AreLeavesOf s leaves (document v).blocks) setting_is made

    pub all_sound : length names ≤ 64 → AreSound leaves
    all_sound few =
        sound_under (with_names names (setting_of v.opening (document v))) leaves (document v).blocks (record { profile = lawful.setting.profile; carriers = few; first = lawful.setting.first }) leaves_made
        lawful.fits.blocks_fit lawful.fits.lines_fit

    -- and where it is
    pub tree_work : (before read now : ℕ) → read ≤ before + lines_left taken (document v).blocks
        → ((carriers limit : ℕ) (known : List Needle) → AreGoodFor carriers limit known leaves → now ≤ read + 3 * most_items carriers limit (length known) * length leaves)
        → now ≤ before + header_limit (with_names names (setting_of v.opening (document v))) (document v) again
    tree_work before read now less steps = header_work (with_names names (setting_of v.opening (document v))) leaves (document v) again before read now leaves_made (lines_read before read less) steps
