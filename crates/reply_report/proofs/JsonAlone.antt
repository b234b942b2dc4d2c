-- What is said without a frame as JSON, from its parts.
use Rattle.std.proofs.Common.{◌≡◌, ◌∙◌, ℕ, Option, false, List, [], ◌∷◌, ◌++◌, length, codes, ap}
use Rattle.carriage_model.specs.declared.verdict.Brief.{Brief}
use Rattle.carriage_model.specs.declared.verdict.Verdict.{Verdict}
use Rattle.block_summary.specs.Verdicts.{broken_line}
use Rattle.edit_journal.specs.declared.edit.Entry.{Entry}
use Rattle.edit_journal.specs.declared.opening.Opening.{Opening}
use Rattle.edit_journal.specs.Documents.{Document, body, document_of}
use Rattle.edit_book.specs.declared.listed.LinePlace.{LinePlace}
use Rattle.edit_book.specs.Verdicts.{HasVerdict, IsBriefOn, setting_of}
use Rattle.serde_json.specs.Data.{object}
use Rattle.serde_json.specs.Written.{compact_text, members_text}
use Rattle.verdict_report.specs.VerdictText.{Text}
use Rattle.reply_report.specs.TalkText.{broken_place, line_of_brief, line_of_verdict}
use Rattle.reply_report.specs.TalkJson.{IsFinalJson, IsOpenedJson, final_members, value_json_line, opened_members}

-- the members of an opening were written into an object of its own, which was appended as a line
pub opened_json : (opening : Opening) (entries : List Entry) (told : Brief) (version blocks : ℕ) (place : Option LinePlace) (opened text old new : Text)
    → (let d = document_of opening entries in IsBriefOn (setting_of opening d) (body d) told) → version ≡ length entries → blocks ≡ length (document_of opening entries).blocks
    → place ≡ broken_place opening entries (line_of_brief told) → opened ≡ 123 ∷ [] → text ≡ opened ++ members_text false (opened_members version blocks place told) → new ≡ old ++ (text ++ codes "\n")
    → (said : Text) × (new ≡ old ++ said) × IsOpenedJson opening entries said
opened_json opening entries told version blocks place opened text old new judged is_version is_blocks is_place is_opened is appended = (
  text ++ codes "\n",
  appended,
  record {
    brief_given = told;
    judged = judged;
    said = ap (λ (t : Text). t ++ codes "\n") (is ∙ ap (λ (t : Text). t ++ members_text false (opened_members version blocks place told)) is_opened)
        ∙ (λ i. value_json_line (object (opened_members (is_version i) (is_blocks i) (is_place i) told)));
  },
)

-- the verdict was written as an object of its own, which was appended as a line
pub final_json : (opening : Opening) (entries : List Entry) (verdict : Verdict) (broken text old new : Text)
    → (let d = document_of opening entries in HasVerdict (setting_of opening d) (body d) verdict)
    → (let d = document_of opening entries in broken ≡ broken_line (setting_of opening d).first (body d) verdict)
    → text ≡ compact_text (object (final_members (document_of opening entries).header.names (length entries) (broken_place opening entries (line_of_verdict verdict)) broken verdict))
    → new ≡ old ++ (text ++ codes "\n") → (said : Text) × (new ≡ old ++ said) × IsFinalJson opening entries said
final_json opening entries verdict broken text old new judged is_line is appended =
    let d : Document = document_of opening entries in (
      text ++ codes "\n",
      appended,
      record {
        verdict_given = verdict;
        judged = judged;
        said = ap (λ (t : Text). t ++ codes "\n") is
            ∙ ap (λ (line : Text). value_json_line (object (final_members d.header.names (length entries) (broken_place opening entries (line_of_verdict verdict)) line verdict))) is_line;
      },
    )
