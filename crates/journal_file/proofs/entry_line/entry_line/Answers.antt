use Rattle.std.proofs.Common.{rules, ℕ, List}
use Rattle.journal_file.specs.Headers.{IsHeadEntry}
use Rattle.journal_file.proofs.EntryOnes.{no_line}
use Rattle.journal_file.proofs.entry_line.entry_line.Goals as goal

pub returns-in-None-2 : goal.returns-in-None-2
returns-in-None-2 c =
    let none : (session seen : ℕ) (names : List (List ℕ)) → IsHeadEntry session seen names c.args.line.now → ⊥ = search rules in
    no_line c.args.line.now c.in-None.ensures none
