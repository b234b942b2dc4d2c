use Rattle.std.proofs.lemmas.Str.{IsUtf8-from_is_utf8}
use Rattle.line_cutter.proofs.places.line_at.Goals as goal

pub from_utf8_unchecked-requires : goal.from_utf8_unchecked-requires
from_utf8_unchecked-requires c = IsUtf8-from_is_utf8 _ c.in_ok-found.ensures.ok.good.utf8
