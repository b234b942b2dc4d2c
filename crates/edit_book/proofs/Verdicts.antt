-- The verdict that the root of a book's tree tells is the one on the document's lines.
use Rattle.std.proofs.Common.{◌≡◌, ℕ, List, length, refl, sym, subst, ap, ◌∙◌}
use Rattle.knit_base.specs.declared.instr.Read.{Read}
use Rattle.knitout_reader.specs.Reading.{ReadsAs}
use Rattle.carriage_model.specs.declared.verdict.Brief.{Brief}
use Rattle.carriage_model.specs.declared.verdict.LoopFact.{LoopFact}
use Rattle.carriage_model.specs.declared.verdict.Verdict.{Verdict}
use Rattle.carriage_model.specs.Loops.{loops_made}
use Rattle.carriage_model.specs.Run.{run}
use Rattle.carriage_model.specs.State.{empty_state}
use Rattle.carriage_model.specs.Verdict.{IsVerdict, brief_of}
use Rattle.edit_journal.specs.declared.edit.Entry.{Entry}
use Rattle.edit_journal.specs.declared.opening.Opening.{Opening}
use Rattle.edit_journal.specs.Documents.{body, document_of}
use Rattle.face_data.specs.declared.face.FaceView.{FaceView}
use Rattle.face_data.specs.Verdicts.{verdict_of}
use Rattle.face_data.specs.View.{summary_of}
use Rattle.face_data.proofs.EmptyBeds.{told_verdict_holds}
use Rattle.edit_book.specs.Books.{AreLawfulLeaves}
use Rattle.edit_book.specs.Verdicts.{HasVerdict, IsBriefOn}
use Rattle.edit_book.proofs.Trees.{all_read, root_good, setting_at, zip_count}
use Rattle.summary_tree.specs.Leaves.{Leaf, IsRootOf, all_lines}

pub root_verdict : (o : Opening) (es : List Entry) (leaves : List Leaf) (view : FaceView) (told : Verdict) → AreLawfulLeaves o es leaves → IsRootOf leaves view → told ≡ verdict_of (summary_of view) o.setting.first
    → HasVerdict (setting_at o es) (body (document_of o es)) told
root_verdict o es leaves view told s root is =
    let all = all_read (setting_at o es) leaves (document_of o es).blocks s.leaves_are in
    let reads : List Read = all_lines all.blocks in
    let many : length (body (document_of o es)) ≡ length reads = zip_count (ReadsAs o.setting.profile (setting_at o es).declared) (body (document_of o es)) reads all.read in
    let made : List LoopFact = loops_made o.setting.profile empty_state o.setting.first reads in (
      made,
      record {
        readings = reads;
        read = all.read;
        made = refl;
        judged = subst (λ (n : ℕ). IsVerdict n told (run o.setting.profile empty_state o.setting.first reads) made) (sym many)
            (told_verdict_holds o.setting.profile (summary_of view) reads o.setting.first told (root_good o es leaves view s root).good.fair.in_order is (root.whole.stands o.setting.profile all.blocks all.stand));
      },
    )

pub root_brief : (o : Opening) (es : List Entry) (leaves : List Leaf) (view : FaceView) (brief : Brief) → AreLawfulLeaves o es leaves → IsRootOf leaves view
    → brief ≡ brief_of (verdict_of (summary_of view) o.setting.first) → IsBriefOn (setting_at o es) (body (document_of o es)) brief
root_brief o es leaves view brief s root is =
    (verdict_of (summary_of view) o.setting.first, root_verdict o es leaves view (verdict_of (summary_of view) o.setting.first) s root refl, is)

-- a verdict whose first line is told by another name
pub told_at : (view : FaceView) (first here : ℕ) (told : Verdict) → first ≡ here → told ≡ verdict_of (summary_of view) first → told ≡ verdict_of (summary_of view) here
told_at view first here told same is = is ∙ ap (verdict_of (summary_of view)) same

pub brief_at : (view : FaceView) (first here : ℕ) (brief : Brief) → first ≡ here → brief ≡ brief_of (verdict_of (summary_of view) first) → brief ≡ brief_of (verdict_of (summary_of view) here)
brief_at view first here brief same is = is ∙ ap (λ (n : ℕ). brief_of (verdict_of (summary_of view) n)) same
