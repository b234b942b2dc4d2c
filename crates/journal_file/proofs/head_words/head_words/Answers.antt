use Rattle.std.proofs.Common.{rules, ℕ, List}
use Rattle.journal_file.specs.Headers.{IsNames}
use Rattle.journal_file.proofs.HeaderLines.{front_of_entry, names_one, no_entry}
use Rattle.journal_file.proofs.head_words.head_words.Goals as goal

pub names_of-requires : goal.names_of-requires
names_of-requires c = names_one c.args.line.now c.in-Some.text.now c.in-Some.session c.in-Some.seen c.in-Some.ensures c.requires

pub returns-in-None-2 : goal.returns-in-None-2
returns-in-None-2 c =
    let none : (names : List (List ℕ)) → IsNames names c.in-Some.text.now → ⊥ = search rules in
    no_entry c.args.line.now c.in-Some.text.now c.in-Some.session c.in-Some.seen c.in-Some.ensures none

pub returns-in-None : goal.returns-in-None
returns-in-None c = λ session seen names is. c.in-None.ensures session seen _ (front_of_entry c.args.line.now session seen names is)
