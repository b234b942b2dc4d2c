use Rattle.knit_maker.proofs.PlainLines.{plain-utf8}
use Rattle.knit_maker.proofs.stitch.push_text.Goals as goal

pub from_utf8_unchecked-requires : goal.from_utf8_unchecked-requires
from_utf8_unchecked-requires c = plain-utf8 14 c.args.text.now c.requires.plain
