use Rattle.std.proofs.lemmas.Str.{IsUtf8-from_is_utf8, is_utf8-from_IsUtf8}
use Rattle.journal_file.proofs.names.short_text.Goals as goal

pub returns-in-Ok : goal.returns-in-Ok
returns-in-Ok c = let h = c.in-Ok.ensures.cases in (h.0, is_utf8-from_IsUtf8 c.args.text.now h.1, c.if-text-gt-MOST_BYTES.false)

pub returns-in-Err : goal.returns-in-Err
returns-in-Err c = λ utf8 short. c.in-Err.ensures.cases.0 (IsUtf8-from_is_utf8 c.args.text.now utf8)
