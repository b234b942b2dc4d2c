use Rattle.std.proofs.Common.{◌∙◌, ◌++◌, ap, sym}
use Rattle.std.proofs.lemmas.Result.{on_ok_weaker}
use Rattle.reply_report.proofs.Escapes.{escaped-control, escaped-plain, escaped-short}
use Rattle.reply_report.proofs.strings.append_byte.Goals as goal

pub returns-then-letter-gt0 : goal.returns-then-letter-gt0
returns-then-letter-gt0 c =
    on_ok_weaker c.append_short.result
    (λ written. written ∙ ap (λ t. c.args.out.now.items ++ t) (sym (escaped-short c.args.byte c.letter_of-letter.result c.letter_of-letter.ensures c.if-letter-gt0.true))) c.append_short.ensures

pub returns-then-byte-lt32 : goal.returns-then-byte-lt32
returns-then-byte-lt32 c =
    on_ok_weaker c.append_control.result
    (λ written. written ∙ ap (λ t. c.args.out.now.items ++ t) (sym (escaped-control c.args.byte c.letter_of-letter.result c.letter_of-letter.ensures c.if-letter-gt0.false c.if-byte-lt32.true))) c.append_control.ensures

pub returns : goal.returns
returns c =
    on_ok_weaker c.append_plain.result
    (λ written. written ∙ ap (λ t. c.args.out.now.items ++ t) (sym (escaped-plain c.args.byte c.letter_of-letter.result c.letter_of-letter.ensures c.if-letter-gt0.false c.if-byte-lt32.false))) c.append_plain.ensures
