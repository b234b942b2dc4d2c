use Rattle.std.proofs.Common.{rules, ◌≡◌, length, sym, subst}
use Rattle.knit_base.specs.Lines.{HasNoLineEnd}
use Rattle.journal_file.specs.Headers.{IsNames}
use Rattle.journal_file.proofs.HeaderNames.{no_names, rest_one, rest_short, rest_utf8}
use Rattle.journal_file.proofs.names.names_of.Goals as goal

pub returns-then-is_empty : goal.returns-then-is_empty
returns-then-is_empty c =
    let none : length c.args.text.now ≡ 0 = search rules in
    subst (λ names. IsNames names c.args.text.now) (sym c.new.ensures) (no_names c.args.text.now none)

pub names_behind-requires-clause-one : goal.names_behind-requires-clause-one
names_behind-requires-clause-one c = subst HasNoLineEnd (sym c.in-Some-short_text.ensures.0) (rest_one c.args.text.now c.in-Some.rest.now c.in-Some.ensures c.requires)

pub returns-in-None-short_text : goal.returns-in-None-short_text
returns-in-None-short_text c = λ names is.
    c.in-None-short_text.ensures (rest_utf8 c.args.text.now c.in-Some.rest.now c.in-Some.ensures is.utf8) (rest_short c.args.text.now c.in-Some.rest.now c.in-Some.ensures names is)
