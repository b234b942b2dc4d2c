-- The report that is written part by part.
use Rattle.std.proofs.Common.{◌≡◌, ◌∙◌, List, [], ◌++◌, length, ap, refl}
use Rattle.carriage_model.specs.declared.verdict.Verdict.{Verdict}
use Rattle.edit_journal.specs.declared.edit.Entry.{Entry}
use Rattle.edit_journal.specs.declared.opening.Opening.{Opening}
use Rattle.edit_journal.specs.Documents.{Document, body, document_of, names_at}
use Rattle.edit_book.specs.declared.reply.Reply.{Reply}
use Rattle.block_summary.specs.Verdicts.{broken_line}
use Rattle.edit_book.specs.Verdicts.{HasVerdict, setting_of}
use Rattle.verdict_report.specs.VerdictText.{Text}
use Rattle.verdict_report.specs.LiveText.{IsEnd, IsFinalReport, IsLiveReport, final_text, journal_text, sessions_text}
use Rattle.knit_base.proofs.Chain.{after_two}

-- what was appended behind a text is the end of a report
abbrev pub EndsWith : Opening → List Entry → Text → Text → Type 0
EndsWith opening entries start whole = (end : Text) × (whole ≡ start ++ end) × IsEnd opening entries end

-- the journal and the verdict on the document, with its broken line, were appended in turn
pub ended : (opening : Opening) (entries journal : List Entry) (verdict : Verdict) (broken start second whole : Text)
    → (let d = document_of opening entries in HasVerdict (setting_of opening d) (body d) verdict)
    → (let d = document_of opening entries in broken ≡ broken_line (setting_of opening d).first (body d) verdict)
    → journal ≡ entries → second ≡ start ++ journal_text journal
    → whole ≡ second ++ final_text (document_of opening entries).header.names (length entries) broken verdict → EndsWith opening entries start whole
ended opening entries journal verdict broken start second whole judged is_line are_entries one two =
    let d : Document = document_of opening entries in
    let line : Text = broken_line (setting_of opening d).first (body d) verdict in
    let a : Text = journal_text entries in
    let b : Text = final_text d.header.names (length entries) line verdict in (
      a ++ b,
      after_two start second whole a b (one ∙ ap (λ (es : List Entry). start ++ journal_text es) are_entries)
          (two ∙ ap (λ (t : Text). second ++ final_text d.header.names (length entries) t verdict) is_line),
      (b, refl, record { verdict_given = verdict; judged = judged; ended = refl }),
    )

-- the version at the end and the verdict on its document, with its broken line, were appended to nothing
pub final_alone : (opening : Opening) (entries : List Entry) (verdict : Verdict) (broken empty whole : Text)
    → (let d = document_of opening entries in HasVerdict (setting_of opening d) (body d) verdict)
    → (let d = document_of opening entries in broken ≡ broken_line (setting_of opening d).first (body d) verdict)
    → empty ≡ [] → whole ≡ empty ++ final_text (document_of opening entries).header.names (length entries) broken verdict → IsFinalReport opening entries whole
final_alone opening entries verdict broken empty whole judged is_line none is =
    let d : Document = document_of opening entries in record {
      verdict_given = verdict;
      judged = judged;
      ended = is ∙ ap (λ (t : Text). t ++ final_text d.header.names (length entries) broken verdict) none
          ∙ ap (λ (t : Text). final_text d.header.names (length entries) t verdict) is_line;
    }

-- an end that stands in a text of its own
pub ended_alone : (opening : Opening) (entries : List Entry) (empty text old new : Text) → empty ≡ [] → EndsWith opening entries empty text → new ≡ old ++ text → EndsWith opening entries old new
ended_alone opening entries empty text old new none end appended =
    (end.0, appended ∙ ap (λ (t : Text). old ++ t) (end.1 ∙ ap (λ (t : Text). t ++ end.0) none), end.2)

-- the replies were appended, and behind them the end
pub told : (opening : Opening) (entries : List Entry) (replies sessions : List (List Reply)) (empty first whole : Text) → empty ≡ [] → sessions ≡ replies
    → first ≡ empty ++ sessions_text (names_at opening entries) 0 sessions → EndsWith opening entries first whole → IsLiveReport opening entries replies whole
told opening entries replies sessions empty first whole none are_replies one end =
    let a : Text = sessions_text (names_at opening entries) 0 replies in
    let front : first ≡ a = one ∙ ap (λ (rs : List (List Reply)). empty ++ sessions_text (names_at opening entries) 0 rs) are_replies ∙ ap (λ (t : Text). t ++ a) none in
    (end.0, end.1 ∙ ap (λ (t : Text). t ++ end.0) front, end.2)
