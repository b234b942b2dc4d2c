use Rattle.knitout_reader.proofs.Heads.{names_text-stripped}
use Rattle.knitout_reader.proofs.head.names_text.Goals as goal

pub returns-clause-text : goal.returns-clause-text
returns-clause-text c = names_text-stripped _ _ c.strip_prefix.result c.requires.line c.requires.short c.as_bytes.ensures.value c.strip_prefix.ensures.cases
