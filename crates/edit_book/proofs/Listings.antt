-- Where blocks, and lines in them, stand in the file.
use Rattle.std.proofs.Common.{◌≡◌, ℕ, zero, suc, ◌+◌, ◌-◌, ◌^◌, ◌<◌, ◌≤◌, Bool, true, false, cond, nat_lt, List, [], ◌∷◌, length, take, option_map, Option, Some, None, unwrap_or, sym, ap, ◌∙◌, refl, subst, arith}
use Rattle.std.specs.List.{AllZip, slice_get}
use Rattle.std.proofs.lemmas.Bool.{le-ltb, ltb-true}
use Rattle.knit_base.specs.declared.setting.Setting.{Setting}
use Rattle.edit_journal.specs.declared.edit.Entry.{Entry}
use Rattle.edit_journal.specs.declared.opening.Opening.{Opening}
use Rattle.edit_journal.specs.Documents.{Block, block_of, document_of, stamp_at}
use Rattle.value_tree.specs.Found.{found_in, place_further}
use Rattle.edit_book.specs.declared.listed.BlockPlace.{BlockPlace}
use Rattle.edit_book.specs.declared.listed.LinePlace.{LinePlace}
use Rattle.edit_book.specs.Books.{BookView, AreLawfulLeaves, IsLeafOf, document, ids_of}
use Rattle.edit_book.specs.Listing.{line_place_of, place_within, block_places, places_from}
use Rattle.edit_book.proofs.HeldTexts.{held_block_here, ids_are, stamp_here, text_here}
use Rattle.edit_book.proofs.LinePlaces.{lines_taken}
use Rattle.edit_book.proofs.Puts.{ids_count}
use Rattle.edit_book.proofs.Trees.{leaf_count, leaf_each, setting_at, zip_lines}
use Rattle.summary_tree.specs.Leaves.{Leaf, leaf_lines, leaf_line_count, place_of_line}
use Rattle.summary_tree.specs.Trees.{TreeView}

-- a block that begins at this line
abbrev row : ℕ → Block → BlockPlace
row first b = record { block = b.id; stamp = b.stamp; first = first; lines = length b.lines }

-- the block at a place begins behind the lines of the leaves before it
pub listed : (setting : Setting) (leaves : List Leaf) (bs : List Block) (first at : ℕ) (b : Block) → AllZip (λ (l : Leaf) (x : Block). IsLeafOf setting l x.lines) leaves bs → slice_get bs at ≡ Some b
    → slice_get (places_from first bs) at ≡ Some (row (first + leaf_line_count (take at leaves)) b)
listed setting [] [] first zero b h there = absurd (cc)
listed setting [] [] first (suc at) b h there = absurd (cc)
listed setting [] (x ∷ bs) first at b h there = absurd h
listed setting (l ∷ leaves) [] first at b h there = absurd h
listed setting (l ∷ leaves) (x ∷ bs) first zero b h there =
    let same : x ≡ b = cc in
    let begins : first ≡ first + leaf_line_count (take zero (l ∷ leaves)) = omega arith in
    λ i. Some (row (begins i) (same i))
listed setting (l ∷ leaves) (x ∷ bs) first (suc at) b h there =
    let begins : first + length x.lines + leaf_line_count (take at leaves) ≡ first + leaf_line_count (take (suc at) (l ∷ leaves)) = omega (arith, leaf_count setting l x.lines h.0) in
    listed setting leaves bs (first + length x.lines) at b h.1 there ∙ ap (λ (n : ℕ). Some (row n b)) begins

pub unlisted : (bs : List Block) (first at : ℕ) → slice_get (ids_of bs) at ≡ None → slice_get (places_from first bs) at ≡ None
unlisted [] first zero none = refl
unlisted [] first (suc at) none = refl
unlisted (b ∷ bs) first zero none = absurd (cc)
unlisted (b ∷ bs) first (suc at) none = unlisted bs (first + length b.lines) at none

-- a line stands in the block that its leaf is of
pub within : (setting : Setting) (leaves : List Leaf) (bs : List Block) (offset at inner id : ℕ) → AllZip (λ (l : Leaf) (x : Block). IsLeafOf setting l x.lines) leaves bs
    → place_of_line leaves offset ≡ Some (at, inner) → slice_get (ids_of bs) at ≡ Some id → place_within bs offset ≡ Some (record { block = id; line = inner + 1 })
within setting [] bs offset at inner id h found there = absurd (cc)
within setting (l ∷ leaves) [] offset at inner id h found there = absurd h
within setting (l ∷ leaves) (b ∷ bs) offset at inner id h found there =
    go (nat_lt offset (leaf_lines l)) refl (found_in leaf_lines leaves (offset - leaf_lines l)) refl found
    (λ k got is. within setting leaves bs (offset - leaf_lines l) k inner id h.1 got is)
  where
    own : leaf_lines l ≡ length b.lines
    own = leaf_count setting l b.lines h.0

    here : Bool → Option LinePlace → Option LinePlace
    here t rest = cond t (Some (record { block = b.id; line = offset + 1 })) rest

    go : (t : Bool) → nat_lt offset (leaf_lines l) ≡ t → (o : Option (ℕ × ℕ)) → found_in leaf_lines leaves (offset - leaf_lines l) ≡ o → cond t (Some (0, offset)) (place_further 1 o) ≡ Some (at, inner)
        → ((k : ℕ) → found_in leaf_lines leaves (offset - leaf_lines l) ≡ Some (k, inner) → slice_get (ids_of bs) k ≡ Some id → place_within bs (offset - leaf_lines l) ≡ Some (record { block = id; line = inner + 1 }))
        → place_within (b ∷ bs) offset ≡ Some (record { block = id; line = inner + 1 })
    go true is o got e rest =
        let first : 0 ≡ at = ap (λ (x : Option (ℕ × ℕ)). (unwrap_or x (0, 0)).0) e in
        let same : offset ≡ inner = ap (λ (x : Option (ℕ × ℕ)). (unwrap_or x (0, 0)).1) e in
        let named : Some b.id ≡ Some id = ap (slice_get (ids_of (b ∷ bs))) first ∙ there in
        let own_id : b.id ≡ id = cc in
        ap (λ (n : ℕ). here (nat_lt offset n) (place_within bs (offset - length b.lines))) (sym own)
        ∙ ap (λ (t : Bool). here t (place_within bs (offset - length b.lines))) is
        ∙ (λ i. Some (record { block = own_id i; line = same i + 1 }))
    go false is None got e rest = absurd (cc)
    go false is (Some p) got e rest =
        let place : 1 + p.0 ≡ at = ap (λ (x : Option (ℕ × ℕ)). (unwrap_or x (0, 0)).0) e in
        let same : p.1 ≡ inner = ap (λ (x : Option (ℕ × ℕ)). (unwrap_or x (0, 0)).1) e in
        let is_next : at ≡ suc p.0 = omega (arith, place) in
        let behind = rest p.0 (got ∙ ap (λ (n : ℕ). let q : ℕ × ℕ = (p.0, n) in Some q) same) (ap (slice_get (ids_of (b ∷ bs))) (sym is_next) ∙ there) in
        ap (λ (n : ℕ). here (nat_lt offset n) (place_within bs (offset - n))) (sym own)
        ∙ ap (λ (t : Bool). here t (place_within bs (offset - leaf_lines l))) is
        ∙ behind

-- and a line that no leaf has stands in no block
pub outside : (setting : Setting) (leaves : List Leaf) (bs : List Block) (offset : ℕ) → AllZip (λ (l : Leaf) (x : Block). IsLeafOf setting l x.lines) leaves bs
    → place_of_line leaves offset ≡ None → place_within bs offset ≡ None
outside setting [] [] offset h found = refl
outside setting [] (b ∷ bs) offset h found = absurd h
outside setting (l ∷ leaves) [] offset h found = absurd h
outside setting (l ∷ leaves) (b ∷ bs) offset h found =
    go (nat_lt offset (leaf_lines l)) refl (found_in leaf_lines leaves (offset - leaf_lines l)) refl found (outside setting leaves bs (offset - leaf_lines l) h.1)
  where
    own : leaf_lines l ≡ length b.lines
    own = leaf_count setting l b.lines h.0

    here : Bool → Option LinePlace → Option LinePlace
    here t rest = cond t (Some (record { block = b.id; line = offset + 1 })) rest

    go : (t : Bool) → nat_lt offset (leaf_lines l) ≡ t → (o : Option (ℕ × ℕ)) → found_in leaf_lines leaves (offset - leaf_lines l) ≡ o → cond t (Some (0, offset)) (place_further 1 o) ≡ None
        → (found_in leaf_lines leaves (offset - leaf_lines l) ≡ None → place_within bs (offset - leaf_lines l) ≡ None) → place_within (b ∷ bs) offset ≡ None
    go true is o got e rest = absurd (cc)
    go false is (Some p) got e rest = absurd (cc)
    go false is None got e rest =
        ap (λ (n : ℕ). here (nat_lt offset n) (place_within bs (offset - n))) (sym own)
        ∙ ap (λ (t : Bool). here t (place_within bs (offset - leaf_lines l))) is
        ∙ rest got

-- the number of a line within its leaf is one of the leaf's
inner_few : (leaves : List Leaf) (offset at inner : ℕ) → place_of_line leaves offset ≡ Some (at, inner) → inner < leaf_line_count leaves
inner_few [] offset at inner found = absurd (cc)
inner_few (l ∷ leaves) offset at inner found =
    go (nat_lt offset (leaf_lines l)) refl (found_in leaf_lines leaves (offset - leaf_lines l)) refl found (λ k got. inner_few leaves (offset - leaf_lines l) k inner got)
  where
    go : (t : Bool) → nat_lt offset (leaf_lines l) ≡ t → (o : Option (ℕ × ℕ)) → found_in leaf_lines leaves (offset - leaf_lines l) ≡ o → cond t (Some (0, offset)) (place_further 1 o) ≡ Some (at, inner)
        → ((k : ℕ) → found_in leaf_lines leaves (offset - leaf_lines l) ≡ Some (k, inner) → inner < leaf_line_count leaves) → inner < leaf_line_count (l ∷ leaves)
    go true is o got e rest =
        let same : offset ≡ inner = ap (λ (x : Option (ℕ × ℕ)). (unwrap_or x (0, 0)).1) e in
        omega (arith, ltb-true offset (leaf_lines l) is, same)
    go false is None got e rest = absurd (cc)
    go false is (Some p) got e rest =
        let same : p.1 ≡ inner = ap (λ (x : Option (ℕ × ℕ)). (unwrap_or x (0, 0)).1) e in
        omega (arith, rest p.0 (got ∙ ap (λ (n : ℕ). let q : ℕ × ℕ = (p.0, n) in Some q) same))

got_within : (ids : List ℕ) (at id : ℕ) → slice_get ids at ≡ Some id → at < length ids
got_within [] zero id there = absurd (cc)
got_within [] (suc at) id there = absurd (cc)
got_within (x ∷ ids) zero id there = omega arith
got_within (x ∷ ids) (suc at) id there = let rest = got_within ids at id there in omega (arith, rest)

module _ (o : Opening) (es : List Entry) (v : BookView) (room : Bool) (tree : TreeView)
    (s : AreLawfulLeaves o es tree.leaves) (view : record { opening = o; entries = es; journal_room = room; tree = tree } ≡ v) where
  -- the block of this id and text, at its place
  pub listed_here : (at id stamp before : ℕ) (text : List (List ℕ)) → slice_get (ids_of (document_of o es).blocks) at ≡ Some id → stamp_at (document v).blocks id ≡ Some stamp
      → option_map (λ (b : Block). b.lines) (block_of (document v).blocks id) ≡ Some text → before ≡ leaf_line_count (take at tree.leaves)
      → Some (record { block = id; stamp = stamp; first = o.setting.first + before; lines = length text }) ≡ slice_get (block_places v.opening (document v)) at
  listed_here at id stamp before text there stamp_is text_is told =
      let here = held_block_here o es v room tree s view at id there in
      let one : Some here.block.stamp ≡ Some stamp = sym (stamp_here (document v).blocks at id here) ∙ stamp_is in
      let two : Some here.block.lines ≡ Some text = sym (text_here (document v).blocks at id here) ∙ text_is in
      let stamps : here.block.stamp ≡ stamp = cc in
      let texts : here.block.lines ≡ text = cc in
      let all : (b : Block) → slice_get (document v).blocks at ≡ Some b → slice_get (block_places v.opening (document v)) at ≡ Some (row (o.setting.first + leaf_line_count (take at tree.leaves)) b) =
      subst
      (λ (w : BookView). (b : Block) → slice_get (document w).blocks at ≡ Some b → slice_get (block_places w.opening (document w)) at ≡ Some (row (o.setting.first + leaf_line_count (take at tree.leaves)) b))
      view (λ b got. listed (setting_at o es) tree.leaves (document_of o es).blocks o.setting.first at b s.leaves_are got) in
      sym (all here.block here.there ∙ (λ i. Some (record { block = here.own i; stamp = stamps i; first = o.setting.first + sym told i; lines = length (texts i) })))

  pub unlisted_here : (at : ℕ) → slice_get (ids_of (document_of o es).blocks) at ≡ None → None ≡ slice_get (block_places v.opening (document v)) at
  unlisted_here at none = sym (unlisted (document v).blocks v.opening.setting.first at (ap (λ (l : List ℕ). slice_get l at) (sym (ids_are o es v room tree s view)) ∙ none))

  -- and has a leaf
  pub at_leaf : (at id : ℕ) → slice_get (ids_of (document_of o es).blocks) at ≡ Some id → at < length tree.leaves
  at_leaf at id there =
      let within : at < length (ids_of (document_of o es).blocks) = got_within (ids_of (document_of o es).blocks) at id there in
      omega (arith, within, ids_count (document_of o es).blocks, leaf_each o es tree.leaves s)

  -- its first line has a number of 32 bits
  pub begins_within : (at before : ℕ) → before ≡ leaf_line_count (take at tree.leaves) → o.setting.first + before < 2 ^ 32
  begins_within at before told =
      let all : leaf_line_count tree.leaves ≤ 1048576 = omega (arith, zip_lines (setting_at o es) tree.leaves (document_of o es).blocks s.leaves_are, s.fits.lines_fit) in
      omega (arith, told, lines_taken at tree.leaves, all, s.setting.first)

  -- a line of the file that stands in the block of a leaf
  pub placed_here : (line at inner id : ℕ) → o.setting.first ≤ line → place_of_line tree.leaves (line - o.setting.first) ≡ Some (at, inner) → slice_get (ids_of (document_of o es).blocks) at ≡ Some id
      → Some (record { block = id; line = inner + 1 }) ≡ line_place_of v.opening (document v) line
  placed_here line at inner id later found there = sym
      (subst (λ (w : BookView). line_place_of w.opening (document w) line ≡ Some (record { block = id; line = inner + 1 })) view
      (ap (λ (t : Bool). cond t None (place_within (document_of o es).blocks (line - o.setting.first))) (le-ltb line o.setting.first later)
      ∙ within (setting_at o es) tree.leaves (document_of o es).blocks (line - o.setting.first) at inner id s.leaves_are found there))

  -- the number of the line within it
  pub inner_within : (offset at inner : ℕ) → place_of_line tree.leaves offset ≡ Some (at, inner) → inner + 1 < 2 ^ 32
  inner_within offset at inner found =
      let all : leaf_line_count tree.leaves ≤ 1048576 = omega (arith, zip_lines (setting_at o es) tree.leaves (document_of o es).blocks s.leaves_are, s.fits.lines_fit) in
      omega (arith, inner_few tree.leaves offset at inner found, all)

  pub unplaced_here : (line : ℕ) → o.setting.first ≤ line → place_of_line tree.leaves (line - o.setting.first) ≡ None → None ≡ line_place_of v.opening (document v) line
  unplaced_here line later found = sym
      (subst (λ (w : BookView). line_place_of w.opening (document w) line ≡ None) view
      (ap (λ (t : Bool). cond t None (place_within (document_of o es).blocks (line - o.setting.first))) (le-ltb line o.setting.first later)
      ∙ outside (setting_at o es) tree.leaves (document_of o es).blocks (line - o.setting.first) s.leaves_are found))
