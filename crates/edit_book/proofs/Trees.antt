-- What the leaves of a book's tree say of its document.
use Rattle.std.proofs.Common.{◌≡◌, ℕ, suc, ◌+◌, ◌<◌, ◌^◌, List, [], ◌∷◌, length, All, ap, ◌∙◌, refl, length-append, arith}
use Rattle.std.specs.List.{AllZip}
use Rattle.std.proofs.lemmas.List.Elements.{All-cons, All-nil}
use Rattle.std.proofs.lemmas.Slice.Zip.{AllZip-long}
use Rattle.knit_base.specs.declared.instr.Read.{Read}
use Rattle.knit_base.specs.declared.setting.Setting.{Setting}
use Rattle.knitout_reader.specs.Reading.{ReadsAs}
use Rattle.knitout_reader.proofs.BodyReadings.{zip-append}
use Rattle.knitout_reader.proofs.SomeReading.{each-reads}
use Rattle.edit_journal.specs.declared.edit.Entry.{Entry}
use Rattle.edit_journal.specs.declared.opening.Opening.{Opening}
use Rattle.edit_journal.specs.Documents.{Block, document_of, body, lines_in}
use Rattle.face_data.specs.declared.face.FaceView.{FaceView}
use Rattle.face_data.specs.Goodness.{IsGoodFace}
use Rattle.face_data.specs.View.{summary_of}
use Rattle.loop_history.specs.Tables.{TableStandsFor}
use Rattle.block_summary.specs.Prepared.{AreReadings, IsMadeOf}
use Rattle.block_summary.specs.NamedNeedles.{needles_named}
use Rattle.block_summary.proofs.Blocks.{named_known}
use Rattle.edit_book.specs.Books.{AreLawfulLeaves, IsLawfulSetting, IsLeafOf}
use Rattle.edit_book.specs.Verdicts.{setting_of}
use Rattle.block_summary.proofs.BedNeedles.{named_numbered}
use Rattle.summary_tree.specs.Leaves.{Leaf, AreSound, EachStandsFor, IsGoodFor, IsRootOf, all_lines, leaf_line_count}

-- what the document of these entries is read by
abbrev pub setting_at : Opening → List Entry → Setting
setting_at o es = setting_of o (document_of o es)

pub zip_count : {A B : Type 0} (R : A → B → Type 0) (xs : List A) (ys : List B) → AllZip R xs ys → length xs ≡ length ys
zip_count R [] [] h = refl
zip_count R [] (y ∷ ys) h = absurd h
zip_count R (x ∷ xs) [] h = absurd h
zip_count R (x ∷ xs) (y ∷ ys) h = ap suc (zip_count R xs ys h.1)

-- the readings of a leaf's lines, and what was made of them
pub record ReadsOf (setting : Setting) (leaf : Leaf) (lines : List (List ℕ)) : Type 0 where
  pub readings : List Read
  pub read : AreReadings setting.profile setting.declared lines readings
  pub made : IsMadeOf setting.profile (length setting.declared) leaf.0 leaf.1 readings

pub reads_of : (setting : Setting) (leaf : Leaf) (lines : List (List ℕ)) → IsLeafOf setting leaf lines → ReadsOf setting leaf lines
reads_of setting leaf lines h =
    let rs = each-reads setting.profile setting.declared lines in
    record { readings = rs.0; read = rs.1; made = h.made rs.0 rs.1 }

good_leaf : (setting : Setting) (leaf : Leaf) (lines : List (List ℕ)) → IsLawfulSetting setting → IsLeafOf setting leaf lines → IsGoodFor (length setting.declared) setting.profile.hold leaf.0
good_leaf setting leaf lines lawful h =
    let r = reads_of setting leaf lines h in
    record {
      known = needles_named r.readings;
      numbered = named_numbered setting.profile setting.declared lines r.readings lawful.profile r.read;
      good = r.made.good (needles_named r.readings) (named_known r.readings);
    }

pub zip_good : (setting : Setting) (leaves : List Leaf) (bs : List Block) → IsLawfulSetting setting → AllZip (λ (l : Leaf) (b : Block). IsLeafOf setting l b.lines) leaves bs
    → All (λ (l : Leaf). IsGoodFor (length setting.declared) setting.profile.hold l.0) leaves
zip_good setting [] bs lawful h = All-nil (λ (l : Leaf). IsGoodFor (length setting.declared) setting.profile.hold l.0)
zip_good setting (l ∷ leaves) [] lawful h = absurd h
zip_good setting (l ∷ leaves) (b ∷ bs) lawful h =
    All-cons (λ (x : Leaf). IsGoodFor (length setting.declared) setting.profile.hold x.0) l leaves (good_leaf setting l b.lines lawful h.0) (zip_good setting leaves bs lawful h.1)

-- a leaf has the lines of its block
pub leaf_count : (setting : Setting) (leaf : Leaf) (lines : List (List ℕ)) → IsLeafOf setting leaf lines → leaf.0.lines ≡ length lines
leaf_count setting leaf lines h =
    let r = reads_of setting leaf lines h in
    r.made.stands.lines_are ∙ AllZip-long (ReadsAs setting.profile setting.declared) lines r.readings r.read

pub zip_lines : (setting : Setting) (leaves : List Leaf) (bs : List Block) → AllZip (λ (l : Leaf) (b : Block). IsLeafOf setting l b.lines) leaves bs → leaf_line_count leaves ≡ length (lines_in bs)
zip_lines setting [] [] h = refl
zip_lines setting [] (b ∷ bs) h = absurd h
zip_lines setting (l ∷ leaves) [] h = absurd h
zip_lines setting (l ∷ leaves) (b ∷ bs) h = omega (arith, leaf_count setting l b.lines h.0, zip_lines setting leaves bs h.1, length-append b.lines (lines_in bs))

-- there is a leaf for each block
pub leaf_each : (o : Opening) (es : List Entry) (leaves : List Leaf) → AreLawfulLeaves o es leaves → length leaves ≡ length (document_of o es).blocks
leaf_each o es leaves s = zip_count (λ (l : Leaf) (b : Block). IsLeafOf (setting_at o es) l b.lines) leaves (document_of o es).blocks s.leaves_are

pub sound_of : (o : Opening) (es : List Entry) (leaves : List Leaf) → AreLawfulLeaves o es leaves → AreSound leaves
sound_of o es leaves s = record {
  carriers = length (setting_at o es).declared;
  limit = o.setting.profile.hold;
  few_carriers = s.setting.carriers;
  few_loops = omega (arith, s.setting.profile.hold);
  good = zip_good (setting_at o es) leaves (document_of o es).blocks s.setting s.leaves_are;
  few_leaves = omega (arith, leaf_each o es leaves s, s.fits.blocks_fit);
  few_lines = omega (arith, zip_lines (setting_at o es) leaves (document_of o es).blocks s.leaves_are, s.fits.lines_fit);
}

-- the readings of all blocks, block by block
pub record AllRead (setting : Setting) (leaves : List Leaf) (bs : List Block) : Type 0 where
  pub blocks : List (List Read)
  pub stand : EachStandsFor setting.profile leaves blocks
  pub tables : AllZip (λ (leaf : Leaf) (reads : List Read). TableStandsFor setting.profile leaf.1 reads) leaves blocks
  pub read : AreReadings setting.profile setting.declared (lines_in bs) (all_lines blocks)

pub all_read : (setting : Setting) (leaves : List Leaf) (bs : List Block) → AllZip (λ (l : Leaf) (b : Block). IsLeafOf setting l b.lines) leaves bs → AllRead setting leaves bs
all_read setting [] [] h = record { blocks = []; stand = tt; tables = tt; read = tt }
all_read setting [] (b ∷ bs) h = absurd h
all_read setting (l ∷ leaves) [] h = absurd h
all_read setting (l ∷ leaves) (b ∷ bs) h =
    let here = reads_of setting l b.lines h.0 in
    let rest = all_read setting leaves bs h.1 in
    record {
      blocks = here.readings ∷ rest.blocks;
      stand = (here.made.stands, rest.stand);
      tables = (here.made.table, rest.tables);
      read = zip-append (ReadsAs setting.profile setting.declared) b.lines (lines_in bs) here.readings (all_lines rest.blocks) here.read rest.read;
    }

-- the root has the lines of the body
pub root_lines : (o : Opening) (es : List Entry) (leaves : List Leaf) (view : FaceView) → AreLawfulLeaves o es leaves → IsRootOf leaves view → view.lines ≡ length (body (document_of o es))
root_lines o es leaves view s root = root.whole.lines ∙ zip_lines (setting_at o es) leaves (document_of o es).blocks s.leaves_are

pub root_good : (o : Opening) (es : List Entry) (leaves : List Leaf) (view : FaceView) → AreLawfulLeaves o es leaves → IsRootOf leaves view → IsGoodFace (summary_of view)
root_good o es leaves view s root =
    let good = root.good (length (setting_at o es).declared) o.setting.profile.hold (zip_good (setting_at o es) leaves (document_of o es).blocks s.setting s.leaves_are) in
    record {
      carriers = length (setting_at o es).declared;
      limit = o.setting.profile.hold;
      known = good.known;
      few_loops = omega (arith, s.setting.profile.hold);
      numbers = good.numbered;
      good = good.good;
    }

pub root_fits : (o : Opening) (es : List Entry) (leaves : List Leaf) (view : FaceView) → AreLawfulLeaves o es leaves → IsRootOf leaves view → o.setting.first + view.lines < 2 ^ 32
root_fits o es leaves view s root = omega (arith, root_lines o es leaves view s root, s.fits.lines_fit, s.setting.first)

-- each line of the leaves has a number of 32 bits
pub lines_fit : (o : Opening) (es : List Entry) (leaves : List Leaf) → AreLawfulLeaves o es leaves → o.setting.first + leaf_line_count leaves < 2 ^ 32
lines_fit o es leaves s = omega (arith, zip_lines (setting_at o es) leaves (document_of o es).blocks s.leaves_are, s.fits.lines_fit, s.setting.first)
