-- What is said without a frame, from its parts.
use Rattle.std.proofs.Common.{◌≡◌, ◌∙◌, List, [], ◌++◌, length, codes, ap, append_assoc}
use Rattle.carriage_model.specs.declared.verdict.Brief.{Brief}
use Rattle.carriage_model.specs.declared.verdict.Verdict.{Verdict}
use Rattle.block_summary.specs.Verdicts.{broken_line}
use Rattle.edit_journal.specs.declared.edit.Entry.{Entry}
use Rattle.edit_journal.specs.declared.opening.Opening.{Opening}
use Rattle.edit_journal.specs.Documents.{Document, body, document_of}
use Rattle.edit_book.specs.Verdicts.{HasVerdict, IsBriefOn, setting_of}
use Rattle.verdict_report.specs.LiveText.{final_text}
use Rattle.verdict_report.specs.VerdictText.{Text}
use Rattle.reply_report.specs.TalkText.{IsFinalSaid, IsOpenedSaid, document_broken_text, line_of_verdict, opened_text}

-- the verdict in short was written into a text of its own, which was appended
pub opened_alone : (opening : Opening) (entries : List Entry) (told : Brief) (empty text old new : Text) → empty ≡ []
    → (let d = document_of opening entries in IsBriefOn (setting_of opening d) (body d) told) → text ≡ empty ++ opened_text opening entries told → new ≡ old ++ text
    → (said : Text) × (new ≡ old ++ said) × IsOpenedSaid opening entries said
opened_alone opening entries told empty text old new none judged is appended =
    (text, appended, record { brief_given = told; judged = judged; said = is ∙ ap (λ (t : Text). t ++ opened_text opening entries told) none })

-- the verdict and its place were written into a text of its own, which was appended with an empty line
pub final_alone : (opening : Opening) (entries : List Entry) (verdict : Verdict) (broken text old new : Text)
    → (let d = document_of opening entries in HasVerdict (setting_of opening d) (body d) verdict)
    → (let d = document_of opening entries in broken ≡ broken_line (setting_of opening d).first (body d) verdict)
    → text ≡ final_text (document_of opening entries).header.names (length entries) broken verdict ++ document_broken_text opening entries (line_of_verdict verdict)
    → new ≡ old ++ (text ++ codes "\n") → (said : Text) × (new ≡ old ++ said) × IsFinalSaid opening entries said
final_alone opening entries verdict broken text old new judged is_line is appended =
    let d : Document = document_of opening entries in
    let place : Text = document_broken_text opening entries (line_of_verdict verdict) in (
      text ++ codes "\n",
      appended,
      record {
        verdict_given = verdict;
        judged = judged;
        said = ap (λ (t : Text). t ++ codes "\n") is ∙ append_assoc (final_text d.header.names (length entries) broken verdict) place (codes "\n")
            ∙ ap (λ (line : Text). final_text d.header.names (length entries) line verdict ++ (place ++ codes "\n")) is_line;
      },
    )
