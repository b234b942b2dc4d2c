-- The tree of a document's tallies: as it is made, and behind an entry.
use Rattle.std.proofs.Common.{◌≡◌, ◌∙◌, ℕ, ◌+◌, ◌<◌, ◌≤◌, List, [], ◌∷◌, ◌++◌, length, map, position, set, Option, None, Some, All, ap, sym, subst, refl, arith}
use Rattle.std.specs.Prelude.{flat_map, insert, remove}
use Rattle.std.specs.List.{AllZip}
use Rattle.std.proofs.lemmas.List.Elements.{All-cons, All-head, All-nil, All-tail}
use Rattle.std.proofs.lemmas.List.Folds.{flat_map-map}
use Rattle.knit_base.specs.declared.setting.Setting.{Setting}
use Rattle.edit_journal.specs.declared.edit.Anchor.{Anchor}
use Rattle.edit_journal.specs.declared.edit.Edit.{Edit}
use Rattle.edit_journal.specs.declared.edit.Edit.TheVariants as edit
use Rattle.edit_journal.specs.declared.edit.Entry.{Entry}
use Rattle.edit_journal.specs.Documents.{Block, Document, EditFits, HasAnchor, after, document_of, lines_in, stamp_at}
use Rattle.edit_book.specs.Books.{AreBlockwise, IsLawfulOutline, ids_of}
use Rattle.edit_book.specs.Orders.{is_id, anchor_position}
use Rattle.edit_book.specs.Outlines.{MayCome, OutlineView, next_document, outline_document}
use Rattle.edit_book.specs.Replies.{block_limit, line_limit}
use Rattle.edit_book.specs.Verdicts.{setting_of}
use Rattle.edit_book.specs.Work.{with_names}
use Rattle.edit_book.proofs.Adds.{add_items, add_longer}
use Rattle.edit_book.proofs.Cuts.{cut_items, removed_is}
use Rattle.edit_book.proofs.Puts.{doc_snoc, has_place, ids_count, place_is, put_items, stamped_there}
use Rattle.tree_shape.specs.Changes.{numbers_below}
use Rattle.tree_shape.specs.Fewest.{list_removed}
use Rattle.tree_shape.specs.Values.{AreThere, values_of_numbers, leaf_values}
use Rattle.tree_shape.specs.View.{ShapeView, leaf_count_of}
use Rattle.value_tree.proofs.LeafLists.{count_values}
use Rattle.tally_tree.specs.declared.tally.Tally.{Tally}
use Rattle.tally_tree.specs.Docs.{DocView, doc_view, document}
use Rattle.tally_tree.specs.Leaves.{AreLeaves, IsOnBeds, all_of, tallies_place_count, tally_at}
use Rattle.tally_tree.specs.Tallies.{TallyCounts}
use Rattle.tally_tree.specs.Trees.{HasLeaf, IsLeafIn, IsTallyIn, IsTallyTree, IsTreeOf, leaf_tallies}
use Rattle.tally_tree.proofs.BlockRanges.{as_many, blocks_read, lines_read}
use Rattle.tally_tree.proofs.StoredLeaves.{stored_below, stored_blocks, stored_on_beds}

-- tallies of blocks may be the leaves of one tree, where there are few names and few lines
pub may_stand : (setting : Setting) (vs : List TallyCounts) (blocks : List Block) → length setting.declared ≤ 64 → length (lines_in blocks) ≤ line_limit → All IsOnBeds vs
    → AllZip (λ (v : TallyCounts) (b : Block). IsTallyIn setting v b.lines) vs blocks → AreLeaves vs
may_stand setting vs blocks few lines on h =
    let r = blocks_read setting.profile setting.declared vs blocks h in
    record {
      carriers = length setting.declared;
      texts = r.texts;
      few = few;
      tallies = r.tallies;
      lines = omega (arith, lines, as_many _ (lines_in blocks) (all_of r.texts) (lines_read setting.profile setting.declared blocks r.texts r.read));
      on_beds = on;
    }

-- the tallies of all blocks, at the first leaves of a store
pub record IsStoreOf (setting : Setting) (slots nodes : List (Option Tally)) (blocks : List Block) (many : ℕ) : Type 0 where
  pub places : many ≤ tallies_place_count slots nodes
  pub there : AreThere (tally_at slots) (numbers_below many)
  pub sound : AreLeaves (values_of_numbers (tally_at slots) (numbers_below many))
  pub tallies : AllZip (λ (v : TallyCounts) (b : Block). IsTallyIn setting v b.lines) (values_of_numbers (tally_at slots) (numbers_below many)) blocks

count_of_map : (blocks : List Block) → length (map (λ (b : Block). b.lines) blocks) ≡ length blocks
count_of_map [] = omega arith
count_of_map (b ∷ blocks) = omega (arith, count_of_map blocks)

pub store_made : (setting : Setting) (slots nodes : List (Option Tally)) (texts : List (List (List ℕ))) (blocks : List Block) (many : ℕ) → AllZip (HasLeaf setting) slots texts → length nodes ≡ length slots
    → texts ≡ map (λ (b : Block). b.lines) blocks → many ≡ length blocks → length setting.declared ≤ 64 → length (flat_map (λ (text : List (List ℕ)). text) texts) ≤ line_limit → IsStoreOf setting slots nodes blocks many
store_made setting slots nodes texts blocks many h same are count names lines =
    let as_slots : many ≡ length slots = omega (arith, count, count_of_map blocks, ap length are, as_many (HasLeaf setting) slots texts h) in
    let s = stored_below setting slots texts many as_slots h in
    let values : List TallyCounts = values_of_numbers (tally_at slots) (numbers_below many) in
    let tallies = stored_blocks setting values blocks (subst (AllZip (IsLeafIn setting) values) are s.leaves) in
    let few : length (lines_in blocks) ≤ line_limit = omega (arith, lines, ap (λ (ts : List (List (List ℕ))). length (flat_map (λ (text : List (List ℕ)). text) ts)) are, ap length (flat_map-map (λ (text : List (List ℕ)). text) (λ (b : Block). b.lines) blocks)) in
    record {
      places = omega (arith, as_slots, same);
      there = s.there;
      sound = may_stand setting values blocks names few (stored_on_beds setting values texts s.leaves) tallies;
      tallies = tallies;
    }

-- tallies of blocks on beds, and what they are by parts
leaves_both : (setting : Setting) (vs : List TallyCounts) (bs : List Block) → AllZip (λ (v : TallyCounts) (b : Block). IsTallyIn setting v b.lines) vs bs → All IsOnBeds vs → AllZip (λ (v : TallyCounts) (b : Block). IsLeafIn setting v b.lines) vs bs
leaves_both setting [] [] h on = tt
leaves_both setting [] (b ∷ bs) h on = absurd h
leaves_both setting (v ∷ vs) [] h on = absurd h
leaves_both setting (v ∷ vs) (b ∷ bs) h on = (record { tally = h.0; on_beds = All-head IsOnBeds v vs on }, leaves_both setting vs bs h.1 (All-tail IsOnBeds v vs on))

leaves_on_beds : (setting : Setting) (vs : List TallyCounts) (bs : List Block) → AllZip (λ (v : TallyCounts) (b : Block). IsLeafIn setting v b.lines) vs bs → All IsOnBeds vs
leaves_on_beds setting [] bs h = All-nil IsOnBeds
leaves_on_beds setting (v ∷ vs) [] h = absurd h
leaves_on_beds setting (v ∷ vs) (b ∷ bs) h = All-cons IsOnBeds v vs h.0.on_beds (leaves_on_beds setting vs bs h.1)

leaves_tallies : (setting : Setting) (vs : List TallyCounts) (bs : List Block) → AllZip (λ (v : TallyCounts) (b : Block). IsLeafIn setting v b.lines) vs bs → AllZip (λ (v : TallyCounts) (b : Block). IsTallyIn setting v b.lines) vs bs
leaves_tallies setting [] [] h = tt
leaves_tallies setting [] (b ∷ bs) h = absurd h
leaves_tallies setting (v ∷ vs) [] h = absurd h
leaves_tallies setting (v ∷ vs) (b ∷ bs) h = (h.0.tally, leaves_tallies setting vs bs h.1)

-- there are as many leaves as blocks
pub leaf_count : (doc : DocView) (shape : ShapeView) (slots nodes : List (Option Tally)) → IsTreeOf doc shape slots nodes → leaf_count_of shape.tree ≡ length (document doc).blocks
leaf_count doc shape slots nodes t = sym (count_values (tally_at slots) shape.tree t.kept.there) ∙ as_many _ (leaf_tallies shape slots) (document doc).blocks t.tallies

-- so a block's place is that of a leaf
pub block_place : (doc : DocView) (shape : ShapeView) (slots nodes : List (Option Tally)) → IsTreeOf doc shape slots nodes → (id at : ℕ) → position (is_id id) (ids_of (document doc).blocks) ≡ Some at → at < leaf_count_of shape.tree
block_place doc shape slots nodes t id at place =
    omega (arith, leaf_count doc shape slots nodes t, ids_count (document doc).blocks, (place_is (ids_of (document doc).blocks) id at place).1)

-- memory was made for a change: the tree is that of the same document
pub tree_kept : (doc : DocView) (old new : ShapeView) (had had_nodes has has_nodes : List (Option Tally)) → IsTreeOf doc old had had_nodes → IsTallyTree new has has_nodes → new.tree ≡ old.tree → ((k : ℕ) → tally_at has k ≡ tally_at had k)
    → IsTreeOf doc new has has_nodes
tree_kept doc old new had had_nodes has has_nodes t kept same each = record {
  lawful = t.lawful;
  kept = kept;
  tallies = subst (AreBlockwise IsTallyIn doc.opening (document doc)) (λ i. leaf_values (λ (k : ℕ). sym (each k) i) (sym same i)) t.tallies;
}

-- the document is seen as before
pub tree_seen : (w v : OutlineView) (shape : ShapeView) (slots nodes : List (Option Tally)) → IsTreeOf (doc_view w) shape slots nodes → v.opening ≡ w.opening → v.entries ≡ w.entries → IsTreeOf (doc_view v) shape slots nodes
tree_seen w v shape slots nodes t opening entries = subst (λ (d : DocView). IsTreeOf d shape slots nodes) (λ i. record { opening = sym opening i; entries = sym entries i }) t

-- an entry that may come fits the document of the outline
module _ (w : OutlineView) (now : DocView) (e : Entry) (view : doc_view w ≡ now) (comes : MayCome now.opening now.entries e.edit) where
  pub comes_here : MayCome w.opening w.entries e.edit
  comes_here = subst (λ (d : DocView). MayCome d.opening d.entries e.edit) (sym view) comes

  stamped_here : (id seen : ℕ) → stamp_at (outline_document w).blocks id ≡ Some seen → position (is_id id) (ids_of (outline_document w).blocks) ≡ None → ⊥
  stamped_here id seen stamp none = let b = stamped_there (outline_document w).blocks id seen stamp in has_place (outline_document w).blocks id b.0 (ids_of (outline_document w).blocks) b.1 refl none

  -- the block of a put and of a cut is there
  pub put_placed : (id seen : ℕ) (text : List (List ℕ)) → e.edit ≡ edit.Put id seen text → position (is_id id) (ids_of (outline_document w).blocks) ≡ None → ⊥
  put_placed id seen text is none = stamped_here id seen (subst (EditFits (outline_document w)) is comes_here.fits) none

  pub cut_placed : (id seen : ℕ) → e.edit ≡ edit.Cut id seen → position (is_id id) (ids_of (outline_document w).blocks) ≡ None → ⊥
  cut_placed id seen is none = stamped_here id seen (subst (EditFits (outline_document w)) is comes_here.fits) none

  -- and so is the anchor of an add, which leaves no more blocks than there may be
  pub add_anchored : (id : ℕ) (anchor : Anchor) (text : List (List ℕ)) → e.edit ≡ edit.Add anchor id text → HasAnchor (outline_document w) anchor
  add_anchored id anchor text is = (subst (EditFits (outline_document w)) is comes_here.fits).1

  pub add_few : (id : ℕ) (anchor : Anchor) (text : List (List ℕ)) → e.edit ≡ edit.Add anchor id text → length (outline_document w).blocks < block_limit
  add_few id anchor text is =
      let d : Document = outline_document w in
      let few = subst (λ (x : Edit). length (next_document w.opening w.entries x).blocks ≤ block_limit) is comes_here.blocks in
      omega (arith, few, add_longer d anchor (record { id = id; stamp = length w.entries + 1; lines = text }) (add_anchored id anchor text is))

-- what the leaves are behind an entry
pub record AreNext (v : OutlineView) (vs : List TallyCounts) : Type 0 where
  pub sound : AreLeaves vs
  pub tallies : AreBlockwise IsTallyIn v.opening (outline_document v) vs

-- a tree with these leaves is that of the document then
pub next_tree : (v : OutlineView) (vs : List TallyCounts) (shape : ShapeView) (slots nodes : List (Option Tally)) → AreNext v vs → IsLawfulOutline v.opening v.entries → IsTallyTree shape slots nodes → leaf_tallies shape slots ≡ vs → IsTreeOf (doc_view v) shape slots nodes
next_tree v vs shape slots nodes next lawful kept are = record { lawful = lawful; kept = kept; tallies = subst (AreBlockwise IsTallyIn v.opening (outline_document v)) (sym are) next.tallies }

module _ (w v : OutlineView) (e : Entry) (opening_is : v.opening ≡ w.opening) (entries_are : v.entries ≡ w.entries ++ e ∷ []) (lawful : IsLawfulOutline v.opening v.entries) where
  moved : (vs : List TallyCounts) → AreBlockwise IsLeafIn w.opening (document_of w.opening (w.entries ++ e ∷ [])) vs → AreNext v vs
  moved vs are =
      let d : Document = outline_document v in
      let here = subst (λ (p : DocView). AreBlockwise IsLeafIn p.opening (document_of p.opening p.entries) vs) (λ i. record { opening = sym opening_is i; entries = sym entries_are i }) are in
      let tallies = leaves_tallies (setting_of v.opening d) vs d.blocks here in
      record { sound = may_stand (setting_of v.opening d) vs d.blocks lawful.setting.carriers lawful.fits.lines_fit (leaves_on_beds (setting_of v.opening d) vs d.blocks here) tallies; tallies = tallies }

  module _ (shape : ShapeView) (slots nodes : List (Option Tally)) (t : IsTreeOf (doc_view w) shape slots nodes) where
    abbrev had : List TallyCounts
    had = leaf_tallies shape slots

    leaves_now : AreBlockwise IsLeafIn w.opening (outline_document w) had
    leaves_now = leaves_both (setting_of w.opening (outline_document w)) had (outline_document w).blocks t.tallies t.kept.sound_leaves.on_beds

    -- a put
    pub put_next : (id seen at : ℕ) (text : List (List ℕ)) (x : TallyCounts) → e.edit ≡ edit.Put id seen text → position (is_id id) (ids_of (outline_document w).blocks) ≡ Some at → IsLeafIn (setting_of w.opening (outline_document w)) x text → AreNext v (set had at x)
    put_next id seen at text x is place leaf =
        moved (set had at x)
        (subst (λ (c : Edit). AreBlockwise IsLeafIn w.opening (document_of w.opening (w.entries ++ record { session = e.session; edit = c } ∷ [])) (set had at x)) (sym is)
        (put_items IsLeafIn w.opening w.entries had e.session id seen at text x leaves_now place leaf))

    -- an add
    pub add_next : (id at : ℕ) (anchor : Anchor) (text : List (List ℕ)) (x : TallyCounts) → e.edit ≡ edit.Add anchor id text → HasAnchor (outline_document w) anchor → at ≡ anchor_position anchor (ids_of (outline_document w).blocks) → IsLeafIn (setting_of w.opening (outline_document w)) x text
        → AreNext v (insert had at x)
    add_next id at anchor text x is has place leaf =
        subst (λ (k : ℕ). AreNext v (insert had k x)) (sym place)
        (moved (insert had (anchor_position anchor (ids_of (outline_document w).blocks)) x)
        (subst (λ (c : Edit). AreBlockwise IsLeafIn w.opening (document_of w.opening (w.entries ++ record { session = e.session; edit = c } ∷ [])) (insert had (anchor_position anchor (ids_of (outline_document w).blocks)) x)) (sym is)
        (add_items IsLeafIn w.opening w.entries had e.session id anchor text x leaves_now has leaf)))

    -- a cut
    pub cut_next : (id seen at : ℕ) → e.edit ≡ edit.Cut id seen → position (is_id id) (ids_of (outline_document w).blocks) ≡ Some at → AreNext v (list_removed at had)
    cut_next id seen at is place =
        subst (AreNext v) (sym (removed_is at had))
        (moved (remove had at)
        (subst (λ (c : Edit). AreBlockwise IsLeafIn w.opening (document_of w.opening (w.entries ++ record { session = e.session; edit = c } ∷ [])) (remove had at)) (sym is)
        (cut_items IsLeafIn w.opening w.entries had e.session id seen at leaves_now place)))

  -- other names of the header: the tallies of the same blocks under these
  pub head_next : (seen : ℕ) (names : List (List ℕ)) (setting : Setting) (vs : List TallyCounts) → e.edit ≡ edit.Head seen names → setting ≡ with_names names (setting_of w.opening (outline_document w))
      → AllZip (λ (x : TallyCounts) (b : Block). IsTallyIn setting x b.lines) vs (outline_document w).blocks → AreBlockwise IsTallyIn v.opening (outline_document v) vs
  head_next seen names setting vs is under tallies =
      let next : document_of w.opening (w.entries ++ e ∷ []) ≡ after (outline_document w) (length w.entries + 1) (edit.Head seen names) = doc_snoc w.opening w.entries e ∙ ap (after (outline_document w) (length w.entries + 1)) is in
      subst (λ (p : DocView). AreBlockwise IsTallyIn p.opening (document_of p.opening p.entries) vs) (λ i. record { opening = sym opening_is i; entries = sym entries_are i })
      (subst (λ (d : Document). AreBlockwise IsTallyIn w.opening d vs) (sym next)
      (subst (λ (s : Setting). AllZip (λ (x : TallyCounts) (b : Block). IsTallyIn s x b.lines) vs (outline_document w).blocks) under tallies))
