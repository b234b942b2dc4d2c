use Rattle.std.proofs.Common.{◌≤◌, List, ℕ, All, length, ap, arith, subst}
use Rattle.std.proofs.lemmas.List.Elements.{All-weaker}
use Rattle.journal_file.specs.SavedParts.{IsFirstText}
use Rattle.journal_file.proofs.FormBounds.{texts_numbered}
use Rattle.journal_file.proofs.FormSpellings.{numbered_length}
use Rattle.journal_file.proofs.SpeltForms.{texts_joined}
use Rattle.journal_file.proofs.read.open.Goals as goal

pub start-requires-clause-few : goal.start-requires-clause-few
start-requires-clause-few c = omega (arith, c.requires.blocks_few, numbered_length 0 c.args.texts)

pub start-requires-clause-lines : goal.start-requires-clause-lines
start-requires-clause-lines c = omega (arith, c.requires.lines_few, ap length (texts_joined 0 c.args.texts))

pub start-requires-clause-short : goal.start-requires-clause-short
start-requires-clause-short c =
    All-weaker IsFirstText (λ (text : List (List ℕ)). length text ≤ 4096) (λ text is. is.few) c.args.texts (subst (All IsFirstText) (texts_numbered 0 c.args.texts) c.requires.texts)
