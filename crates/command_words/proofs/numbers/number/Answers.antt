use Rattle.std.proofs.Common.{◌∙◌, sym}
use Rattle.command_words.proofs.Digits.{number_parses}
use Rattle.command_words.proofs.numbers.number.Goals as goal

pub returns-in-Err : goal.returns-in-Err
returns-in-Err c = absurd (c.in-Err.ensures.value.0 (number_parses c.args.text.now (sym c.is_numeral.ensures ∙ c.if-not-is_numeral.false)))
