use Rattle.std.proofs.Common.{sym, ◌∙◌}
use Rattle.std.proofs.lemmas.Str.{IsUtf8-from_ascii, is_utf8-from_IsUtf8}
use Rattle.line_cutter.proofs.Texts.{text_decided}
use Rattle.line_cutter.proofs.line.is_text.Goals as goal

pub returns-then-is_ascii : goal.returns-then-is_ascii
returns-then-is_ascii c = sym (is_utf8-from_IsUtf8 c.args.line.now (IsUtf8-from_ascii c.args.line.now (c.requires c.if-is_ascii.true)))

pub returns-then-is_ascii-2 : goal.returns-then-is_ascii-2
returns-then-is_ascii-2 c =
    c.if-is_ascii-2.true ∙ sym (is_utf8-from_IsUtf8 c.args.line.now (IsUtf8-from_ascii c.args.line.now c.if-is_ascii-2.ensures.cases))

pub returns-else-is_ascii-2 : goal.returns-else-is_ascii-2
returns-else-is_ascii-2 c = text_decided c.args.line.now c.from_utf8.result _ _ c.is_ok.result c.from_utf8.ensures.cases (λ s h. h.1) (λ e h. h.0) c.is_ok.ensures.value
