use Rattle.std.proofs.Common.{sym, ◌∙◌}
use Rattle.std.proofs.lemmas.Bool.{false≢true}
use Rattle.knitout_reader.proofs.ShortDigits.{one_shortest, two_shortest, three_shortest}
use Rattle.knitout_reader.proofs.shortest.behind_shortest_number.Goals as goal

pub returns-then-stands_alone : goal.returns-then-stands_alone
returns-then-stands_alone c = one_shortest c.args.text.now _ _ c.in_ok-a.ensures.0 c.in_ok-a.ensures.1

pub returns-in_default : goal.returns-in_default
returns-in_default c = one_shortest c.args.text.now _ _ c.in_ok-a.ensures.0 c.in_ok-a.ensures.1

pub returns-in_default-first_digit : goal.returns-in_default-first_digit
returns-in_default-first_digit c =
    two_shortest c.args.text.now _ _ _ _ c.in_ok-a.ensures.0 (λ e. false≢true (sym c.if-stands_alone.false ∙ c.stands_alone.ensures.1 e)) c.in-Some.ensures.0 c.in_ok-a.ensures.1 c.in-Some.ensures.1

pub returns : goal.returns
returns c =
    three_shortest c.args.text.now _ _ _ _ _ _ c.in_ok-a.ensures.0 (λ e. false≢true (sym c.if-stands_alone.false ∙ c.stands_alone.ensures.1 e)) c.in-Some.ensures.0 c.in-Some-first_digit.ensures.0
    c.in_ok-a.ensures.1 c.in-Some.ensures.1 c.in-Some-first_digit.ensures.1
