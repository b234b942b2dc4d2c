-- The document of an opening, by what is kept of its first blocks.
use Rattle.std.proofs.Common.{◌≡◌, ℕ, zero, suc, ◌+◌, ◌<◌, ◌≤◌, Bool, true, false, cond, ◌==◌, List, [], ◌∷◌, ◌++◌, length, map, find, replicate, All, Option, Some, None, IfSome, sym, subst, ap, ◌∙◌, refl, length-append, append_assoc, add-one, arith}
use Rattle.std.specs.List.{AllZip, flat_map, slice_get}
use Rattle.std.specs.Option.{option_map_or}
use Rattle.std.proofs.lemmas.Bool.{eqb-false, ne_eqb}
use Rattle.std.proofs.lemmas.List.{length-map, length-replicate, map-append}
use Rattle.std.proofs.lemmas.List.Elements.{All-cons, All-head, All-nil, All-tail}
use Rattle.knit_base.specs.declared.setting.Setting.{Setting}
use Rattle.block_summary.specs.declared.prepared.Prepared.{Prepared}
use Rattle.block_summary.specs.Prepared.{IsPreparedFor}
use Rattle.edit_journal.specs.declared.edit.Entry.{Entry}
use Rattle.edit_journal.specs.declared.opening.Opening.{Opening}
use Rattle.edit_journal.specs.Documents.{Block, block_of, body, document_of, lines_in, opened_from, text_at}
use Rattle.edit_book.specs.declared.block_state.BlockState.{BlockState}
use Rattle.edit_book.specs.declared.block_state.BlockState.TheVariants.{There, CutBy}
use Rattle.edit_book.specs.declared.header.Header.{Header}
use Rattle.edit_book.specs.declared.start.StartedBlocks.{StartedBlocks}
use Rattle.edit_book.specs.Books.{AreDistinct, Each, HasText, IsLawfulSetting, IsLeafOf, OutlineStands, ids_of, block_state_of}
use Rattle.edit_book.specs.HeaderTrees.{AreLeavesOf}
use Rattle.edit_book.specs.Outlines.{OutlineView, outline_document}
use Rattle.edit_book.specs.Headers.{HasHeader}
use Rattle.edit_book.specs.Opened.{HasKept, IsBlockAdded, leaves_of, prepared_texts}
use Rattle.edit_book.specs.Replies.{block_limit, cut_number, line_limit}
use Rattle.edit_book.specs.Verdicts.{setting_of}
use Rattle.edit_book.specs.Work.{start_limit}
use Rattle.summary_tree.specs.Leaves.{Leaf}
use Rattle.tree_shape.specs.Building.{numbers_from}
use Rattle.tree_shape.specs.Changes.{numbers_below}
use Rattle.tree_shape.proofs.Halves.{below_from}

-- the ids of an opening's blocks
opened_from_ids : (n : ℕ) (texts : List (List (List ℕ))) → ids_of (opened_from n texts) ≡ numbers_from n (length texts)
opened_from_ids n [] = refl
opened_from_ids n (t ∷ texts) = ap (λ (l : List ℕ). n ∷ l) (ap (λ (k : ℕ). ids_of (opened_from k texts)) (add-one n) ∙ opened_from_ids (suc n) texts)

opened_ids : (texts : List (List (List ℕ))) → numbers_below (length texts) ≡ ids_of (opened_from 0 texts)
opened_ids texts = sym (below_from (length texts)) ∙ sym (opened_from_ids 0 texts)

opened_count : (n : ℕ) (texts : List (List (List ℕ))) → length (opened_from n texts) ≡ length texts
opened_count n [] = refl
opened_count n (t ∷ texts) = ap suc (opened_count (n + 1) texts)

opened_drawn : (n : ℕ) (texts : List (List (List ℕ))) → Each (λ id. id < n + length texts) (ids_of (opened_from n texts))
opened_drawn n [] = tt
opened_drawn n (t ∷ texts) = (omega arith, later (n + 1) texts (opened_drawn (n + 1) texts))
  where
    later : (k : ℕ) (ts : List (List (List ℕ))) → Each (λ id. id < n + 1 + length texts) (ids_of (opened_from (n + 1) texts)) → Each (λ id. id < n + suc (length texts)) (ids_of (opened_from (n + 1) texts))
    later k ts h = subst (λ (m : ℕ). Each (λ id. id < m) (ids_of (opened_from (n + 1) texts))) (let e : n + 1 + length texts ≡ n + suc (length texts) = omega arith in e) h

not_below : (k n : ℕ) (texts : List (List (List ℕ))) → k < n → find (λ y. y == k) (ids_of (opened_from n texts)) ≡ None
not_below k n [] below = refl
not_below k n (t ∷ texts) below = ap (λ (u : Bool). cond u (Some n) (find (λ y. y == k) (ids_of (opened_from (n + 1) texts)))) (ne_eqb n k (λ e. omega (arith, e, below))) ∙ not_below k (n + 1) texts (omega (arith, below))

opened_distinct : (n : ℕ) (texts : List (List (List ℕ))) → AreDistinct (ids_of (opened_from n texts))
opened_distinct n [] = tt
opened_distinct n (t ∷ texts) = (not_below n (n + 1) texts (omega arith), opened_distinct (n + 1) texts)

pub opened_lines : (n : ℕ) (texts : List (List (List ℕ))) → lines_in (opened_from n texts) ≡ flat_map (λ (text : List (List ℕ)). text) texts
opened_lines n [] = refl
opened_lines n (t ∷ texts) = ap (λ (l : List (List ℕ)). t ++ l) (opened_lines (n + 1) texts)

-- the lines of the first blocks
pub lines_of_texts : (blocks : List Prepared) → flat_map (λ (text : List (List ℕ)). text) (prepared_texts blocks) ≡ flat_map (λ (block : Prepared). block.text) blocks
lines_of_texts [] = refl
lines_of_texts (b ∷ blocks) = ap (λ (l : List (List ℕ)). b.text ++ l) (lines_of_texts blocks)

-- the block with an id
opened_block : (n id : ℕ) (texts : List (List (List ℕ))) → n ≤ id → id < n + length texts → (b : Block) × (block_of (opened_from n texts) id ≡ Some b) × (b.stamp ≡ 0)
opened_block n id [] low high = absurd (omega (arith, low, high))
opened_block n id (t ∷ texts) low high = go (n == id) refl (λ other. opened_block (n + 1) id texts (omega (arith, low, other)) (omega (arith, high)))
  where
    go : (u : Bool) → (n == id) ≡ u → ((n ≡ id → ⊥) → (b : Block) × (block_of (opened_from (n + 1) texts) id ≡ Some b) × (b.stamp ≡ 0))
        → (b : Block) × (cond u (Some (record { id = n; stamp = 0; lines = t })) (block_of (opened_from (n + 1) texts) id) ≡ Some b) × (b.stamp ≡ 0)
    go true is rest = (record { id = n; stamp = 0; lines = t }, refl, refl)
    go false is rest = rest (eqb-false n id is)

opened_states : (count id : ℕ) → id < count → slice_get (replicate count (There 0)) id ≡ Some (There 0)
opened_states zero id high = absurd (omega (arith, high))
opened_states (suc count) zero high = refl
opened_states (suc count) (suc id) high = opened_states count id (omega (arith, high))

got_at : {X : Type 0} (xs ys : List X) (x : X) → slice_get (xs ++ x ∷ ys) (length xs) ≡ Some x
got_at [] ys x = refl
got_at (z ∷ xs) ys x = got_at xs ys x

opened_texts : (o : Opening) (before after : List (List (List ℕ))) → o.texts ≡ before ++ after → Each (HasText o []) (opened_from (length before) after)
opened_texts o before [] is = tt
opened_texts o before (t ∷ after) is = (
  ap (λ (l : List (List (List ℕ))). slice_get l (length before)) is ∙ got_at before after t,
  subst (λ (k : ℕ). Each (HasText o []) (opened_from k after)) (length-append before (t ∷ []))
      (opened_texts o (before ++ t ∷ []) after (is ∙ sym (append_assoc before (t ∷ []) after))),
)

texts_short : (texts : List (List (List ℕ))) (id : ℕ) → All (λ (text : List (List ℕ)). length text ≤ 4096) texts → IfSome (slice_get texts id) (λ text. length text ≤ 4096)
texts_short [] zero all = tt
texts_short [] (suc id) all = tt
texts_short (t ∷ texts) zero all = All-head (λ (text : List (List ℕ)). length text ≤ 4096) t texts all
texts_short (t ∷ texts) (suc id) all = texts_short texts id (All-tail (λ (text : List (List ℕ)). length text ≤ 4096) t texts all)

-- the texts of blocks that were prepared are short
pub prepared_short : (setting : Setting) (blocks : List Prepared) → All (IsPreparedFor setting.profile setting.declared) blocks → All (λ (text : List (List ℕ)). length text ≤ 4096) (prepared_texts blocks)
prepared_short setting [] all = All-nil (λ (text : List (List ℕ)). length text ≤ 4096)
prepared_short setting (b ∷ blocks) all =
    All-cons (λ (text : List (List ℕ)). length text ≤ 4096) b.text (prepared_texts blocks) (All-head (IsPreparedFor setting.profile setting.declared) b blocks all).few
    (prepared_short setting blocks (All-tail (IsPreparedFor setting.profile setting.declared) b blocks all))

pub opened_leaves : (setting : Setting) (n : ℕ) (blocks : List Prepared) → All (IsPreparedFor setting.profile setting.declared) blocks
    → AllZip (λ (l : Leaf) (b : Block). IsLeafOf setting l b.lines) (leaves_of blocks) (opened_from n (prepared_texts blocks))
opened_leaves setting n [] all = tt
opened_leaves setting n (b ∷ blocks) all =
    (All-head (IsPreparedFor setting.profile setting.declared) b blocks all, opened_leaves setting (n + 1) blocks (All-tail (IsPreparedFor setting.profile setting.declared) b blocks all))

-- what is kept of no block, and of one more
pub kept_more : (blocks : List Prepared) (block : Prepared) (old new : StartedBlocks) → HasKept blocks old → IsBlockAdded old new block → HasKept (blocks ++ block ∷ []) new
kept_more blocks block old new h added = record {
  texts = added.texts ∙ ap (λ (l : List (List (List ℕ))). l ++ block.text ∷ []) h.texts ∙ sym (map-append (λ (b : Prepared). b.text) blocks (block ∷ []));
  leaves = added.leaves ∙ ap (λ (l : List Leaf). l ++ (block.face, block.loops) ∷ []) h.leaves ∙ sym (map-append (λ (b : Prepared). let leaf : Leaf = (b.face, b.loops) in leaf) blocks (block ∷ []));
}

-- the outline of these texts
pub opened_stands : (setting : Setting) (texts : List (List (List ℕ))) (states : List BlockState) (ids : List ℕ) (count : ℕ) → IsLawfulSetting setting → All (λ (text : List (List ℕ)). length text ≤ 4096) texts → length texts ≤ block_limit
    → length (flat_map (λ (text : List (List ℕ)). text) texts) ≤ line_limit → states ≡ replicate (length texts) (There 0) → ids ≡ numbers_below (length texts) → count ≡ length (flat_map (λ (text : List (List ℕ)). text) texts)
    → OutlineStands (record { setting = setting; texts = texts }) [] states ids count
opened_stands setting texts states ids count lawful all few lines states_is ids_is count_is =
    subst (λ (p : List BlockState × List ℕ). OutlineStands o [] p.0 p.1 count) (λ i. (sym states_is i, sym (ids_is ∙ opened_ids texts) i)) here
  where
    o : Opening
    o = record { setting = setting; texts = texts }

    short : (id stamp : ℕ) → IfSome (text_at o [] id stamp) (λ text. length text ≤ 4096)
    short id zero = texts_short texts id all
    short id (suc zero) = tt
    short id (suc (suc n)) = tt

    there : (id : ℕ) → id < length texts → slice_get (replicate (length texts) (There 0)) id ≡ Some (block_state_of (document_of o []) [] id)
    there id within =
        let b = opened_block 0 id texts (omega arith) (omega (arith, within)) in
        opened_states (length texts) id within
        ∙ ap (λ (n : ℕ). Some (There n)) (sym b.2)
        ∙ ap (λ (x : Option Block). Some (option_map_or (λ y. There y.stamp) x (CutBy (cut_number [] id)))) (sym b.1)

    here : OutlineStands o [] (replicate (length texts) (There 0)) (ids_of (opened_from 0 texts)) count
    here = record {
      lawful = record {
        has_ids = record {
          differ = opened_distinct 0 texts;
          drawn = subst (λ (m : ℕ). Each (λ id. id < m) (ids_of (opened_from 0 texts))) (let e : 0 + length texts ≡ length texts = omega arith in e) (opened_drawn 0 texts);
        };
        fits = record {
          entries_fit = omega arith;
          blocks_fit = omega (arith, opened_count 0 texts, few);
          lines_fit = omega (arith, ap length (opened_lines 0 texts), lines);
          ids_fit = omega (arith, few);
        };
        texts = opened_texts o [] texts refl;
        short = short;
        setting = lawful;
      };
      drawn = length-replicate (length texts) (There 0);
      states_are = there;
      order = refl;
      lines = count_is ∙ ap length (sym (opened_lines 0 texts));
    }

-- what is kept of its header
pub opened_header : (o : Opening) (entries : List Entry) (made kept : Header) → entries ≡ [] → kept ≡ made → made.setting ≡ o.setting → made.entries.items ≡ [] → HasHeader o entries 0 kept
opened_header o entries made kept none is setting_is changed =
    subst (λ (p : List Entry × Header). HasHeader o p.0 0 p.1) (λ i. (sym none i, sym is i)) (record { stamp = refl; setting = setting_is; changed = changed })

-- blocks that were prepared for what a document is read by, with the texts of its blocks: as many as these, with their lines
pub prepared_count : (blocks : List Prepared) (bs : List Block) → prepared_texts blocks ≡ map (λ (b : Block). b.lines) bs → length blocks ≡ length bs
prepared_count blocks bs same = sym (length-map blocks (λ (b : Prepared). b.text)) ∙ ap length same ∙ length-map bs (λ (b : Block). b.lines)

prepared_lines : (bs : List Block) → flat_map (λ (text : List (List ℕ)). text) (map (λ (b : Block). b.lines) bs) ≡ lines_in bs
prepared_lines [] = refl
prepared_lines (b ∷ bs) = ap (λ (l : List (List ℕ)). b.lines ++ l) (prepared_lines bs)

-- and each leaf is made of the lines of its block
pub prepared_leaves : (setting : Setting) (blocks : List Prepared) (bs : List Block) → prepared_texts blocks ≡ map (λ (b : Block). b.lines) bs → All (IsPreparedFor setting.profile setting.declared) blocks → AreLeavesOf setting (leaves_of blocks) bs
prepared_leaves setting [] [] same all = tt
prepared_leaves setting [] (b ∷ bs) same all = absurd (cc)
prepared_leaves setting (p ∷ blocks) [] same all = absurd (cc)
prepared_leaves setting (p ∷ blocks) (b ∷ bs) same all =
    let first : p.text ≡ b.lines = cc in
    let rest : prepared_texts blocks ≡ map (λ (x : Block). x.lines) bs = cc in (
      subst (λ (text : List (List ℕ)). IsLeafOf setting (p.face, p.loops) text) first (All-head (IsPreparedFor setting.profile setting.declared) p blocks all),
      prepared_leaves setting blocks bs rest (All-tail (IsPreparedFor setting.profile setting.declared) p blocks all),
    )

pub prepared_work : (setting : Setting) (blocks : List Prepared) (bs : List Block) (before now : ℕ) → prepared_texts blocks ≡ map (λ (b : Block). b.lines) bs → now ≤ before + start_limit setting (length bs) (lines_in bs)
    → now ≤ before + start_limit setting (length blocks) (flat_map (λ (block : Prepared). block.text) blocks)
prepared_work setting blocks bs before now same steps =
    let lines : lines_in bs ≡ flat_map (λ (block : Prepared). block.text) blocks = sym (prepared_lines bs) ∙ ap (flat_map (λ (text : List (List ℕ)). text)) (sym same) ∙ lines_of_texts blocks in
    subst (λ (p : ℕ × List (List ℕ)). now ≤ before + start_limit setting p.0 p.1) (λ i. (sym (prepared_count blocks bs same) i, lines i)) steps

-- what an outline at version 0 is, by its parts
pub opened_as : (o : OutlineView) (setting : Setting) (texts : List (List (List ℕ))) → o.opening.setting ≡ setting → o.opening.texts ≡ texts → o.entries ≡ []
    → (setting_of o.opening (outline_document o) ≡ setting) × ((outline_document o).blocks ≡ opened_from 0 texts)
opened_as o setting texts setting_is texts_is none = (
  ap (λ (es : List Entry). setting_of o.opening (document_of o.opening es)) none ∙ setting_is,
  ap (λ (es : List Entry). (document_of o.opening es).blocks) none ∙ ap (opened_from 0) texts_is,
)

-- the leaves of the first blocks are made of the lines of its blocks
pub opened_made : (o : OutlineView) (setting : Setting) (blocks : List Prepared) (kept : StartedBlocks) → All (IsPreparedFor setting.profile setting.declared) blocks → HasKept blocks kept
    → o.opening.setting ≡ setting → o.opening.texts ≡ kept.texts → o.entries ≡ [] → AreLeavesOf (setting_of o.opening (outline_document o)) kept.leaves.items (outline_document o).blocks
opened_made o setting blocks kept all h setting_is texts_is none =
    let is = opened_as o setting (prepared_texts blocks) setting_is (texts_is ∙ h.texts) none in
    subst (λ (p : Setting × List Leaf × List Block). AreLeavesOf p.0 p.1 p.2) (λ i. (sym is.0 i, sym h.leaves i, sym is.1 i)) (opened_leaves setting 0 blocks all)

-- a start takes no more steps than it may
pub opened_work : (o : OutlineView) (setting : Setting) (blocks : List Prepared) (kept : StartedBlocks) (before now : ℕ) → HasKept blocks kept → o.opening.setting ≡ setting → o.opening.texts ≡ kept.texts → o.entries ≡ []
    → now ≤ before + start_limit (setting_of o.opening (outline_document o)) (length (outline_document o).blocks) (body (outline_document o))
    → now ≤ before + start_limit setting (length blocks) (flat_map (λ (block : Prepared). block.text) blocks)
opened_work o setting blocks kept before now h setting_is texts_is none steps =
    let is = opened_as o setting (prepared_texts blocks) setting_is (texts_is ∙ h.texts) none in
    let many : length (opened_from 0 (prepared_texts blocks)) ≡ length blocks = opened_count 0 (prepared_texts blocks) ∙ length-map blocks (λ (b : Prepared). b.text) in
    let lines : lines_in (opened_from 0 (prepared_texts blocks)) ≡ flat_map (λ (block : Prepared). block.text) blocks = opened_lines 0 (prepared_texts blocks) ∙ lines_of_texts blocks in
    subst (λ (p : Setting × ℕ × List (List ℕ)). now ≤ before + start_limit p.0 p.1 p.2) (λ i. (is.0 i, (ap length is.1 ∙ many) i, (ap lines_in is.1 ∙ lines) i)) steps

pub nothing_left : {X : Type 0} (l : List X) → length l ≡ 0 → l ≡ []
nothing_left [] h = refl
nothing_left (x ∷ xs) h = absurd (omega (arith, h))

-- there is room for one of the blocks behind those that were kept
pub room_left : (kept_blocks rest blocks : List Prepared) (block : Prepared) (kept : StartedBlocks) → kept_blocks ++ block ∷ rest ≡ blocks → HasKept kept_blocks kept → length blocks ≤ block_limit → length kept.texts < block_limit
room_left kept_blocks rest blocks block kept all h few =
    let texts : length kept.texts ≡ length kept_blocks = ap length h.texts ∙ length-map kept_blocks (λ (b : Prepared). b.text) in
    omega (arith, texts, ap length all, length-append kept_blocks (block ∷ rest), few)
