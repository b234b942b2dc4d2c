-- Blocks by their ids: stamps, states and texts.
use Rattle.std.proofs.Common.{◌≡◌, ◌≢◌, ℕ, zero, suc, ◌<◌, ◌≤◌, ltb, Bool, true, false, cond, eq-eqb, ne_eqb, ◌==◌, List, [], ◌∷◌, length, Option, Some, None, IfSome, option_map, option_and_then, sym, subst, ap, ◌∙◌, refl, Bor, arith}
use Rattle.std.proofs.lemmas.Bool.{eqb-true, ltb-false}
use Rattle.std.specs.Option.{option_copied, option_map_or}
use Rattle.edit_journal.specs.declared.edit.Entry.{Entry}
use Rattle.edit_journal.specs.declared.opening.Opening.{Opening}
use Rattle.edit_journal.specs.Entries.{entry_at, text_for}
use Rattle.edit_journal.specs.Documents.{Block, Document, block_of, document_of, stamp_at, text_at}
use Rattle.summary_tree.specs.Leaves.{Leaf}
use Rattle.summary_tree.specs.Trees.{TreeView}
use Rattle.edit_book.specs.declared.block_state.BlockState.{BlockState}
use Rattle.edit_book.specs.declared.block_state.BlockState.TheVariants.{There, CutBy}
use Rattle.edit_book.specs.declared.reply.Reply.TheVariants.{Stale}
use Rattle.edit_book.specs.Books.{BookView, block_state_of, Each, ids_of, HasLeaves, HasText, HasShortTexts, AreLawfulLeaves, IsLawfulBook, IsLawfulOutline, OutlineStands}
use Rattle.edit_book.specs.Outlines.{OutlineView, outline_document}
use Rattle.edit_book.specs.Replies.{cut_number, refused_stamp}

-- a block that wasn't drawn isn't there
pub undrawn_block_absent : (bs : List Block) (drawn id : ℕ) → Each (λ i. i < drawn) (ids_of bs) → drawn ≤ id → block_of bs id ≡ None
undrawn_block_absent [] drawn id h le = refl
undrawn_block_absent (b ∷ bs) drawn id h le = go (b.id == id) refl (undrawn_block_absent bs drawn id h.1 le)
  where
    go : (t : Bool) → (b.id == id) ≡ t → block_of bs id ≡ None → cond t (Some b) (block_of bs id) ≡ None
    go true is rest = absurd (omega (arith, eqb-true b.id id is, h.0))
    go false is rest = rest

-- the stamp, by the state
there : (d : Document) (entries : List Entry) (id stamp : ℕ) → block_state_of d entries id ≡ There stamp → stamp_at d.blocks id ≡ Some stamp
there d entries id stamp h = go (block_of d.blocks id) h
  where
    go : (o : Option Block) → option_map_or (λ b. There b.stamp) o (CutBy (cut_number entries id)) ≡ There stamp → option_map (λ b. b.stamp) o ≡ Some stamp
    go None h = absurd (cc)
    go (Some b) h = let same : b.stamp ≡ stamp = cc in ap Some same

gone : (d : Document) (entries : List Entry) (id at : ℕ) → block_state_of d entries id ≡ CutBy at → stamp_at d.blocks id ≡ None
gone d entries id at h = go (block_of d.blocks id) h
  where
    go : (o : Option Block) → option_map_or (λ b. There b.stamp) o (CutBy (cut_number entries id)) ≡ CutBy at → option_map (λ b. b.stamp) o ≡ None
    go None h = refl
    go (Some b) h = absurd (cc)

pub stamp_there : (w : OutlineView) (id stamp : ℕ) → IsLawfulOutline w.opening w.entries → Some (There stamp) ≡ cond (ltb id (outline_document w).drawn) (Some (block_state_of (outline_document w) w.entries id)) None → stamp_at (outline_document w).blocks id ≡ Some stamp
stamp_there w id stamp lawful h = go (ltb id (outline_document w).drawn) h
  where
    go : (t : Bool) → Some (There stamp) ≡ cond t (Some (block_state_of (outline_document w) w.entries id)) None → stamp_at (outline_document w).blocks id ≡ Some stamp
    go true h = let is : There stamp ≡ block_state_of (outline_document w) w.entries id = cc in there (outline_document w) w.entries id stamp (sym is)
    go false h = absurd (cc)

pub stamp_cut : (w : OutlineView) (id at : ℕ) → IsLawfulOutline w.opening w.entries → Some (CutBy at) ≡ cond (ltb id (outline_document w).drawn) (Some (block_state_of (outline_document w) w.entries id)) None → stamp_at (outline_document w).blocks id ≡ None
stamp_cut w id at lawful h = go (ltb id (outline_document w).drawn) h
  where
    go : (t : Bool) → Some (CutBy at) ≡ cond t (Some (block_state_of (outline_document w) w.entries id)) None → stamp_at (outline_document w).blocks id ≡ None
    go true h = let is : CutBy at ≡ block_state_of (outline_document w) w.entries id = cc in gone (outline_document w) w.entries id at (sym is)
    go false h = absurd (cc)

pub stamp_undrawn : (w : OutlineView) (id : ℕ) → IsLawfulOutline w.opening w.entries → None ≡ cond (ltb id (outline_document w).drawn) (Some (block_state_of (outline_document w) w.entries id)) None → stamp_at (outline_document w).blocks id ≡ None
stamp_undrawn w id lawful h = go (ltb id (outline_document w).drawn) refl h
  where
    go : (t : Bool) → ltb id (outline_document w).drawn ≡ t → None ≡ cond t (Some (block_state_of (outline_document w) w.entries id)) None → stamp_at (outline_document w).blocks id ≡ None
    go true is h = absurd (cc)
    go false is h = ap (option_map (λ b. b.stamp)) (undrawn_block_absent (outline_document w).blocks (outline_document w).drawn id lawful.has_ids.drawn (ltb-false id (outline_document w).drawn is))

pub ruleset stamp_states = (stamp_there, stamp_cut, stamp_undrawn)

-- which refusal a stamp gives
stamp_by : (d : Document) (entries : List Entry) (id seen : ℕ) (o : Option ℕ) → stamp_at d.blocks id ≡ o → refused_stamp d entries id seen ≡ option_and_then (λ x. cond (x == seen) None (Some (Stale (length entries) id seen x))) o
stamp_by d entries id seen o is = go (block_of d.blocks id) ∙ ap (option_and_then (λ x. cond (x == seen) None (Some (Stale (length entries) id seen x)))) is
  where
    go : (b : Option Block) → option_and_then (λ y. cond (y.stamp == seen) None (Some (Stale (length entries) id seen y.stamp))) b ≡ option_and_then (λ x. cond (x == seen) None (Some (Stale (length entries) id seen x))) (option_map (λ y. y.stamp) b)
    go None = refl
    go (Some b) = refl

pub stamp_gone : (d : Document) (entries : List Entry) (id seen : ℕ) → stamp_at d.blocks id ≡ None → refused_stamp d entries id seen ≡ None
stamp_gone d entries id seen is = stamp_by d entries id seen None is

pub stamp_seen : (d : Document) (entries : List Entry) (id seen now : ℕ) → stamp_at d.blocks id ≡ Some now → now ≡ seen → refused_stamp d entries id seen ≡ None
stamp_seen d entries id seen now is same = stamp_by d entries id seen (Some now) is ∙ ap (λ (t : Bool). cond t None (Some (Stale (length entries) id seen now))) (eq-eqb now seen same)

pub stamp_stale : (d : Document) (entries : List Entry) (id seen now : ℕ) → stamp_at d.blocks id ≡ Some now → now ≢ seen → refused_stamp d entries id seen ≡ Some (Stale (length entries) id seen now)
stamp_stale d entries id seen now is other = stamp_by d entries id seen (Some now) is ∙ ap (λ (t : Bool). cond t None (Some (Stale (length entries) id seen now))) (ne_eqb now seen other)

pub ruleset stamps = (stamp_gone, stamp_seen, stamp_stale)

-- the text of a block, by its stamp
text_of_block : (opening : Opening) (entries : List Entry) (bs : List Block) (id stamp : ℕ) → Each (HasText opening entries) bs → stamp_at bs id ≡ Some stamp → text_at opening entries id stamp ≡ option_map (λ b. b.lines) (block_of bs id)
text_of_block opening entries [] id stamp h is = absurd (cc)
text_of_block opening entries (b ∷ bs) id stamp h is = go (b.id == id) refl (text_of_block opening entries bs id stamp h.1) is
  where
    go : (t : Bool) → (b.id == id) ≡ t → (stamp_at bs id ≡ Some stamp → text_at opening entries id stamp ≡ option_map (λ x. x.lines) (block_of bs id)) → option_map (λ x. x.stamp) (cond t (Some b) (block_of bs id)) ≡ Some stamp → text_at opening entries id stamp ≡ option_map (λ x. x.lines) (cond t (Some b) (block_of bs id))
    go true same rest is =
        let id_is : id ≡ b.id = sym (eqb-true b.id id same) in
        let stamp_is : stamp ≡ b.stamp = cc in
        ap (λ (k : ℕ). text_at opening entries k stamp) id_is ∙ (ap (λ (k : ℕ). text_at opening entries b.id k) stamp_is ∙ h.0)
    go false same rest is = rest is

pub block_text : (w : OutlineView) (id stamp : ℕ) → IsLawfulOutline w.opening w.entries → Some stamp ≡ stamp_at (outline_document w).blocks id → text_at w.opening w.entries id stamp ≡ option_map (λ b. b.lines) (block_of (outline_document w).blocks id)
block_text w id stamp lawful is = text_of_block w.opening w.entries (outline_document w).blocks id stamp lawful.texts (sym is)

pub no_block_text : (w : OutlineView) (id : ℕ) → IsLawfulOutline w.opening w.entries → None ≡ stamp_at (outline_document w).blocks id → option_map (λ b. b.lines) (block_of (outline_document w).blocks id) ≡ None
no_block_text w id lawful is = go (block_of (outline_document w).blocks id) is
  where
    go : (o : Option Block) → None ≡ option_map (λ b. b.stamp) o → option_map (λ b. b.lines) o ≡ None
    go None h = refl
    go (Some b) h = absurd (cc)

pub ruleset block_texts = (block_text, no_block_text)

-- what holds of the text behind a reference
pub short_text : (opening : Opening) (entries : List Entry) (id stamp : ℕ) (r : Option (Bor (List (List ℕ)))) → HasShortTexts opening entries → option_copied r ≡ text_at opening entries id stamp → IfSome r (λ text. length text.now ≤ 4096)
short_text opening entries id stamp None short is = tt
short_text opening entries id stamp (Some r) short is = subst (λ (o : Option (List (List ℕ))). IfSome o (λ text. length text ≤ 4096)) (sym is) (short id stamp)

pub outline_lawful : (o : Opening) (es : List Entry) (room : Bool) (w : OutlineView) (states : List BlockState) (ids : List ℕ) (count : ℕ) → OutlineStands o es states ids count → record { opening = o; entries = es; journal_room = room } ≡ w
    → IsLawfulOutline w.opening w.entries
outline_lawful o es room w states ids count s is = subst (λ (v : OutlineView). IsLawfulOutline v.opening v.entries) is s.lawful

pub lawful_of : (o : Opening) (es : List Entry) (tree : TreeView) (room : Bool) (w : BookView) → AreLawfulLeaves o es tree.leaves → record { opening = o; entries = es; journal_room = room; tree = tree } ≡ w → IsLawfulBook w
lawful_of o es tree room w s is = subst IsLawfulBook is s

pub ruleset lawful = (outline_lawful, lawful_of)

-- what holds of a book is what holds of its outline, and its leaves
pub with_leaves : (o : Opening) (es : List Entry) (leaves : List Leaf) → IsLawfulOutline o es → HasLeaves o (document_of o es) leaves → AreLawfulLeaves o es leaves
with_leaves o es leaves s leaves_are = record { has_ids = s.has_ids; fits = s.fits; texts = s.texts; short = s.short; leaves_are = leaves_are; setting = s.setting }

-- the text that an entry gave a block
pub text_later : (opening : Opening) (entries : List Entry) (id stamp : ℕ) (e : Entry) → stamp ≢ 0 → Some e ≡ entry_at entries stamp → text_at opening entries id stamp ≡ text_for id e
text_later opening entries id zero e h is = absurd (h refl)
text_later opening entries id (suc i) e h is = ap (option_and_then (text_for id)) (sym is)
