use Rattle.std.proofs.Common.{Some, ap, sym, subst, ◌∙◌}
use Rattle.std.proofs.lemmas.Str.{IsUtf8-from_is_utf8}
use Rattle.knit_base.specs.Lines.{IsLine}
use Rattle.knit_base.proofs.Buffers.{got_line}
use Rattle.knit_base.proofs.lines.Lines.get.Goals as goal

pub from_utf8_unchecked-requires : goal.from_utf8_unchecked-requires
from_utf8_unchecked-requires c = IsUtf8-from_is_utf8 _ (got_line _ _ _ _ _ _ c.self.invariant c.self.view_is c.bytes.ensures (sym c.in_ok-span.ensures)).0.utf8

pub returns-clause-found : goal.returns-clause-found
returns-clause-found c = ap Some c.from_utf8_unchecked.ensures ∙ (got_line _ _ _ _ _ _ c.self.invariant c.self.view_is c.bytes.ensures (sym c.in_ok-span.ensures)).1

pub returns-clause-line : goal.returns-clause-line
returns-clause-line c = subst IsLine (sym c.from_utf8_unchecked.ensures) (got_line _ _ _ _ _ _ c.self.invariant c.self.view_is c.bytes.ensures (sym c.in_ok-span.ensures)).0
