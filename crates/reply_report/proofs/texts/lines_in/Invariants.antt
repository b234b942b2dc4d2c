use Rattle.std.proofs.Common.{◌≡◌, count_by, take}
use Rattle.knit_base.specs.Lines.{is_line_feed}
use Rattle.reply_report.proofs.texts.lines_in.Given as goal

abbrev pub invariant-bytes : goal.invariant-bytes
invariant-bytes l = l.lines ≡ count_by is_line_feed (take l.byte-index l.text)
