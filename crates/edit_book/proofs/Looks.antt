-- What is shown of a book.
use Rattle.std.proofs.Common.{◌≡◌, ℕ, zero, suc, ◌+◌, ◌<◌, ◌≤◌, ◌^◌, Option, Some, None, List, [], ◌∷◌, ◌++◌, length, take, position, option_map, inr, sym, subst, ap, ◌∙◌, refl, add-one, arith}
use Rattle.std.specs.List.{position_or_len, slice_get}
use Rattle.edit_journal.specs.declared.edit.Entry.{Entry}
use Rattle.edit_journal.specs.declared.opening.Opening.{Opening}
use Rattle.edit_journal.specs.Documents.{Block, Document, block_of, body, document_of, stamp_at}
use Rattle.edit_book.specs.declared.reply.Reply.{Reply}
use Rattle.edit_book.specs.declared.reply.Reply.TheVariants.{Shown}
use Rattle.edit_book.specs.Books.{BookView, AreLawfulLeaves, document, ids_of}
use Rattle.edit_book.specs.Orders.{is_id}
use Rattle.edit_book.specs.Replies.{Look, Request, IsAnswer, IsDue, IsGranted, lines_before, refusal_of, refused_name}
use Rattle.edit_book.proofs.LinePlaces.{StandsIn, block_at, id_at, line_none, line_there, lines_at, lines_taken}
use Rattle.edit_book.proofs.Puts.{has_place, named_there, place_is}
use Rattle.edit_book.proofs.Trees.{setting_at, zip_lines}
use Rattle.summary_tree.specs.Leaves.{leaf_line_count, place_of_line}
use Rattle.summary_tree.specs.Trees.{TreeView}
use Rattle.std.proofs.Common.{Bool}

take_suc : {X : Type 0} (xs : List X) (n : ℕ) (x : X) → slice_get xs n ≡ Some x → take (suc n) xs ≡ take n xs ++ x ∷ []
take_suc [] n x h = absurd (cc)
take_suc (y ∷ ys) zero x h = let same : y ≡ x = cc in ap (λ z. z ∷ []) same
take_suc (y ∷ ys) (suc n) x h = ap (λ zs. y ∷ zs) (take_suc ys n x h)

-- what was taken, with one more
pub take_next : {X : Type 0} (xs : List X) (n : ℕ) (x : X) → slice_get xs n ≡ Some x → take (n + 1) xs ≡ take n xs ++ x ∷ []
take_next xs n x h = rw add-one (take_suc xs n x h)

-- what is granted where nothing refuses it is an answer
pub granted : (o : Opening) (es : List Entry) (request : Request) (r : Reply) → refusal_of (document_of o es) es request ≡ None → IsGranted o (document_of o es) (length es) request r → IsAnswer o es request r
granted o es request r free h = inr (subst (λ (x : Option Reply). IsDue x (IsGranted o (document_of o es) (length es) request r) r) (sym free) h)

-- a block that is there has a stamp and a text
pub stamped : (d : Document) (es : List Entry) (id : ℕ) → refused_name d es id ≡ None → stamp_at d.blocks id ≡ None → ⊥
stamped d es id free none = let b = named_there d es id free in let e : Some b.0.stamp ≡ None = sym (ap (option_map (λ x. x.stamp)) b.1) ∙ none in absurd (cc)

pub has_text : (d : Document) (es : List Entry) (id : ℕ) → refused_name d es id ≡ None → option_map (λ x. x.lines) (block_of d.blocks id) ≡ None → ⊥
has_text d es id free none = let b = named_there d es id free in let e : Some b.0.lines ≡ None = sym (ap (option_map (λ x. x.lines)) b.1) ∙ none in absurd (cc)

pub shown : (o : Opening) (es : List Entry) (id stamp first version : ℕ) (text : List (List ℕ)) → refused_name (document_of o es) es id ≡ None → stamp_at (document_of o es).blocks id ≡ Some stamp
    → option_map (λ x. x.lines) (block_of (document_of o es).blocks id) ≡ Some text → first ≡ o.setting.first + lines_before id (document_of o es).blocks → version ≡ length es
    → IsGranted o (document_of o es) (length es) (Look id) (Shown version id stamp first text)
shown o es id stamp first version text free stamp_is text_is first_is version_is =
    let b = named_there (document_of o es) es id free in
    let one : Some b.0.stamp ≡ Some stamp = sym (ap (option_map (λ x. x.stamp)) b.1) ∙ stamp_is in
    let two : Some b.0.lines ≡ Some text = sym (ap (option_map (λ x. x.lines)) b.1) ∙ text_is in
    let same_stamp : stamp ≡ b.0.stamp = cc in
    let same_text : text ≡ b.0.lines = cc in
    (b.0, b.1, λ i. Shown (version_is i) id (same_stamp i) (first_is i) (same_text i))

-- the count of a block's lines
pub text_count : (d : Document) (id : ℕ) (text : List (List ℕ)) → option_map (λ x. x.lines) (block_of d.blocks id) ≡ Some text → (b : Block) × (block_of d.blocks id ≡ Some b) × (b.lines ≡ text)
text_count d id text is = go (block_of d.blocks id) refl is
  where
    go : (o : Option Block) → block_of d.blocks id ≡ o → option_map (λ x. x.lines) o ≡ Some text → (b : Block) × (block_of d.blocks id ≡ Some b) × (b.lines ≡ text)
    go None there is = absurd (cc)
    go (Some b) there is = let same : b.lines ≡ text = cc in (b, there, same)

module _ (o : Opening) (es : List Entry) (id : ℕ) (v : BookView) (room : Bool) (tree : TreeView)
    (s : AreLawfulLeaves o es tree.leaves) (view : record { opening = o; entries = es; journal_room = room; tree = tree } ≡ v) (free : refused_name (document v) v.entries id ≡ None) where
  free_here : refused_name (document_of o es) es id ≡ None
  free_here = subst (λ (w : BookView). refused_name (document w) w.entries id ≡ None) (sym view) free

  pub look_unplaced : position (is_id id) (ids_of (document_of o es).blocks) ≡ None → ⊥
  look_unplaced none = let b = named_there (document_of o es) es id free_here in has_place (document_of o es).blocks id b.0 (ids_of (document_of o es).blocks) b.1 refl none

  -- the number of the block's first line
  pub look_first : (at before : ℕ) → position (is_id id) (ids_of (document_of o es).blocks) ≡ Some at → before ≡ leaf_line_count (take at tree.leaves) → (o.setting.first + before ≡ v.opening.setting.first + lines_before id (document v).blocks) × (o.setting.first + before < 2 ^ 32)
  look_first at before place is =
      let b = named_there (document_of o es) es id free_here in
      let at_is : at ≡ position_or_len (is_id id) (ids_of (document_of o es).blocks) = (place_is (ids_of (document_of o es).blocks) id at place).0 in
      let told : before ≡ lines_before id (document_of o es).blocks =
      is ∙ ap (λ (n : ℕ). leaf_line_count (take n tree.leaves)) at_is ∙ lines_at (setting_at o es) tree.leaves (document_of o es).blocks id b.0 s.leaves_are b.1 in
      let all : leaf_line_count tree.leaves ≤ 1048576 = omega (arith, zip_lines (setting_at o es) tree.leaves (document_of o es).blocks s.leaves_are, s.fits.lines_fit) in (
        ap (λ (n : ℕ). o.setting.first + n) told ∙ ap (λ (w : BookView). w.opening.setting.first + lines_before id (document w).blocks) view,
        omega (arith, is, lines_taken at tree.leaves, all, s.setting.first),
      )

-- a line that stands in a block
module _ (o : Opening) (es : List Entry) (offset at within : ℕ) (v : BookView) (room : Bool) (tree : TreeView)
    (s : AreLawfulLeaves o es tree.leaves) (view : record { opening = o; entries = es; journal_room = room; tree = tree } ≡ v) (found : place_of_line tree.leaves offset ≡ Some (at, within)) where
  here : StandsIn (document_of o es).blocks offset at within
  here = line_there (setting_at o es) tree.leaves (document_of o es).blocks offset at within s.leaves_are found

  id_there : slice_get (ids_of (document_of o es).blocks) at ≡ Some here.block.id
  id_there = id_at (document_of o es).blocks at here.block here.there

  pub no_id : slice_get (ids_of (document_of o es).blocks) at ≡ None → ⊥
  no_id none = let e : Some here.block.id ≡ None = sym id_there ∙ none in absurd (cc)

  block_is : (id : ℕ) → slice_get (ids_of (document_of o es).blocks) at ≡ Some id → block_of (document v).blocks id ≡ Some here.block
  block_is id there =
      let same : here.block.id ≡ id = let e : Some here.block.id ≡ Some id = sym id_there ∙ there in cc in
      subst (λ (w : BookView). block_of (document w).blocks id ≡ Some here.block) view
      (subst (λ (k : ℕ). block_of (document_of o es).blocks k ≡ Some here.block) same (block_at (document_of o es).blocks at here.block s.has_ids.differ here.there))

  pub no_text : (id : ℕ) → slice_get (ids_of (document_of o es).blocks) at ≡ Some id → option_map (λ b. b.lines) (block_of (document v).blocks id) ≡ None → ⊥
  no_text id there none = let e : Some here.block.lines ≡ None = sym (ap (option_map (λ b. b.lines)) (block_is id there)) ∙ none in absurd (cc)

  text_is : (id : ℕ) (text : List (List ℕ)) → slice_get (ids_of (document_of o es).blocks) at ≡ Some id → Some text ≡ option_map (λ b. b.lines) (block_of (document v).blocks id) → text ≡ here.block.lines
  text_is id text there is = let e : Some text ≡ Some here.block.lines = is ∙ ap (option_map (λ b. b.lines)) (block_is id there) in cc

  pub line_inside : (id : ℕ) (text : List (List ℕ)) → slice_get (ids_of (document_of o es).blocks) at ≡ Some id → Some text ≡ option_map (λ b. b.lines) (block_of (document v).blocks id) → within < length text
  line_inside id text there is = subst (λ (t : List (List ℕ)). within < length t) (sym (text_is id text there is)) here.inside

  pub line_is : (id : ℕ) (text : List (List ℕ)) (line : List ℕ) → slice_get (ids_of (document_of o es).blocks) at ≡ Some id → Some text ≡ option_map (λ b. b.lines) (block_of (document v).blocks id) → slice_get text within ≡ Some line
      → slice_get (body (document v)) offset ≡ Some line
  line_is id text line there is got =
      subst (λ (w : BookView). slice_get (body (document w)) offset ≡ Some line) view (here.line ∙ ap (λ (t : List (List ℕ)). slice_get t within) (sym (text_is id text there is)) ∙ got)

-- a line that stands in none
pub no_line : (o : Opening) (es : List Entry) (offset : ℕ) (v : BookView) (room : Bool) (tree : TreeView) → AreLawfulLeaves o es tree.leaves
    → record { opening = o; entries = es; journal_room = room; tree = tree } ≡ v → place_of_line tree.leaves offset ≡ None → slice_get (body (document v)) offset ≡ None
no_line o es offset v room tree s view none =
    subst (λ (w : BookView). slice_get (body (document w)) offset ≡ None) view (line_none (setting_at o es) tree.leaves (document_of o es).blocks offset s.leaves_are none)
