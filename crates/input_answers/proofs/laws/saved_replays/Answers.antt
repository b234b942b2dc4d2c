use Rattle.std.proofs.Common.{refl}
use Rattle.input_answers.specs.declared.outcome.Status.TheVariants.{Done}
use Rattle.input_answers.proofs.Saves.{saves_replay}
use Rattle.input_answers.proofs.laws.saved_replays.Goals as goal

pub returns : goal.returns
returns c = λ chosen script_input played text lawful short due said ends replay. saves_replay chosen script_input played text Done lawful short refl due said ends replay
