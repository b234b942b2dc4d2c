-- What an answer says.
use Rattle.std.specs.Prelude.{◌≡◌, ℕ, List}
use Rattle.machine_profile.specs.declared.Chosen.{Chosen}
use Rattle.verdict_report.specs.declared.refusal.Refusal.{Refusal}
use Rattle.verdict_report.specs.Refusals.{refusal_text}
use Rattle.input_answers.specs.declared.ending.Answer.{Answer}
use Rattle.input_answers.specs.declared.live_text.LiveOutput.{LiveOutput}
use Rattle.input_answers.specs.declared.outcome.Status.{Status}
use Rattle.input_answers.specs.DueGroups.{DueGroups}
use Rattle.input_answers.specs.DueLive.{DueLive}
use Rattle.input_answers.specs.Played.{nothing_played, played_by}

-- the line of a refusal, with this status, and no script was carried out
pub record Refuses (said : Refusal) (status : Status) (answer : Answer) : Type 0 where
  pub told : answer.text.items ≡ refusal_text said
  pub ended : answer.outcome.status ≡ status
  pub played : played_by answer.outcome ≡ nothing_played

-- the answer is due for this script, with these limits, where this is to be written
abbrev pub IsDueLive : LiveOutput → Chosen → List ℕ → Answer → Type 0
IsDueLive output chosen input answer = DueLive output chosen input (played_by answer.outcome) answer.text.items answer.outcome.status

-- the same for a script of groups
abbrev pub IsDueGroups : Chosen → List ℕ → Answer → Type 0
IsDueGroups chosen input answer = DueGroups chosen input (played_by answer.outcome) answer.text.items answer.outcome.status
