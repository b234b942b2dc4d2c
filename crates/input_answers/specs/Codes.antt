-- The exit statuses.
use Rattle.std.specs.Prelude.{ℕ}
use Rattle.input_answers.specs.declared.outcome.Status.{Status}
use Rattle.input_answers.specs.declared.outcome.Status.TheVariants.{Done, Broken, Usage, BadInput, ReadFault, WriteFault, NoMemory, TooLarge}

abbrev pub code_of : Status → ℕ
code_of Done = 0
code_of Broken = 1
code_of Usage = 2
code_of BadInput = 3
code_of ReadFault = 4
code_of WriteFault = 5
code_of NoMemory = 6
code_of TooLarge = 7
