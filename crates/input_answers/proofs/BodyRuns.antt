-- How many lines stand behind a head, and what is reported of them.
use Rattle.std.proofs.Common.{◌≡◌, ℕ, ◌+◌, ◌-◌, ◌≤◌, List, [], ◌∷◌, length, Bool, ap, arith, ◌∙◌}
use Rattle.std.proofs.lemmas.List.{length-drop}
use Rattle.std.proofs.lemmas.List.Sums.{prefix_len-le-length}
use Rattle.knit_base.specs.declared.profile.Profile.{Profile}
use Rattle.knitout_reader.specs.Head.{head_len, is_head_line}
use Rattle.block_summary.specs.Verdicts.{broken_line}
use Rattle.file_run.specs.declared.judgement.Judgement.{Judgement}
use Rattle.file_run.specs.Bodies.{body_of}
use Rattle.file_run.specs.Judgements.{IsJudgement}
use Rattle.input_answers.specs.declared.outcome.Status.{Status}
use Rattle.input_answers.specs.CheckReport.{IsCheckReport, report_of, status_of}

-- a head isn't longer than its file
pub head_len-le : (lines : List (List ℕ)) → head_len lines ≤ length lines
head_len-le [] = omega arith
head_len-le (first ∷ lines) = omega (arith, prefix_len-le-length is_head_line lines)

-- the length of the body
pub body_len : (lines : List (List ℕ)) (all head : ℕ) → all ≡ length lines → head ≡ head_len lines → all - head ≡ length (body_of lines)
body_len lines all head is_all is_head = omega (arith, length-drop (head_len lines) lines)

-- a report of what is made of the file is that of `check`
pub check-report : (profile : Profile) (loops json : Bool) (names lines : List (List ℕ)) (text broken : List ℕ) (judgement : Judgement) (made : Status)
    → IsJudgement loops profile names lines judgement → broken ≡ broken_line 1 lines judgement.verdict
    → text ≡ report_of json names broken judgement.verdict judgement.loops → made ≡ status_of judgement.verdict
    → IsCheckReport profile loops json names lines text made
check-report profile loops json names lines text broken judgement made is is_broken is_text ended = record {
  verdict_given = judgement.verdict;
  made = is.made;
  judged = is.judged;
  reported =
      is_text
      ∙ ap (λ b. report_of json names b judgement.verdict judgement.loops) is_broken
      ∙ ap (λ t. report_of json names (broken_line 1 lines judgement.verdict) judgement.verdict t) is.loops;
  ended = ended;
}
