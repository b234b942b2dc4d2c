use Rattle.std.proofs.Common.{arith, ◌≡◌, inl, inr, sym, subst}
use Rattle.knitout_reader.specs.Numbers.{value_of_digits}
use Rattle.journal_file.specs.Words.{BeginsWithNumber}
use Rattle.journal_file.proofs.Numbers.{front-found, none-found}
use Rattle.journal_file.proofs.words.number.Goals as goal

pub returns-then-not-are_plain : goal.returns-then-not-are_plain
returns-then-not-are_plain c =
    none-found c.args.text.now _ _ c.split_digits.ensures.split c.split_digits.ensures.digits c.split_digits.ensures.ends
    (elim (c.are_plain.ensures.no c.if-not-are_plain.true) [ inl none ↦ inl none | inr idle ↦ inr (inl idle) ])

pub returns-then-value-eq-TOO_GREAT : goal.returns-then-value-eq-TOO_GREAT
returns-then-value-eq-TOO_GREAT c =
    none-found c.args.text.now _ _ c.split_digits.ensures.split c.split_digits.ensures.digits c.split_digits.ensures.ends
    (inr (inr (omega (arith, c.if-value-eq-TOO_GREAT.true, c.value_of-value.ensures))))

pub returns : goal.returns
returns c =
    let small : c.value_of-value.result ≡ value_of_digits c.split_digits.result.0.now = omega (arith, c.if-value-eq-TOO_GREAT.false, c.value_of-value.ensures) in
    let plain = c.are_plain.ensures.yes c.if-not-are_plain.false in
    subst (λ n. BeginsWithNumber c.args.text.now n c.split_digits.result.1.now) (sym small)
    (front-found c.args.text.now _ _ c.split_digits.ensures.split c.split_digits.ensures.digits c.split_digits.ensures.ends plain.0 plain.1
    (omega (arith, c.if-value-eq-TOO_GREAT.false, c.value_of-value.ensures)))
