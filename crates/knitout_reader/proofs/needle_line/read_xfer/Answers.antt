use Rattle.std.proofs.Common.{inl, inr, [], refl, subst}
use Rattle.knitout_reader.specs.Shapes.{BeginsWithNeedle, XferShape}
use Rattle.knitout_reader.specs.Tokens.{tokens_of}
use Rattle.knitout_reader.proofs.OperandShapes.{no_needle_no_xfer_shape, unmoved-2}
use Rattle.knitout_reader.proofs.TokenRuns.{none_found}
use Rattle.knitout_reader.proofs.needle_line.read_xfer.Goals as goal

pub returns-in_default : goal.returns-in_default
returns-in_default c = λ names. inr (no_needle_no_xfer_shape _ c.in_default.ensures, c.no_shape.ensures)

pub returns-in_default-next_needle : goal.returns-in_default-next_needle
returns-in_default-next_needle c = λ names.
    inr (unmoved-2 _ _ _ _ c.in-Some.ensures.1 (λ bed at. c.in_default-next_needle.ensures bed at []), c.no_shape-in_default-next_needle.ensures)

pub returns : goal.returns
returns c = λ names.
    let named = c.in-Some.ensures in
    let named2 = c.in-Some-next_needle.ensures in
    inl (
      XferShape c.in-Some.needle.bed named.0 c.in-Some-next_needle.needle2.bed named2.0,
      record {
        operands = tokens_of c.args.code.now;
        others = tokens_of c.in-Some.others.now;
        spelled = refl;
        first = named.1;
        second = subst (λ end. BeginsWithNeedle (tokens_of c.in-Some.others.now) c.in-Some-next_needle.needle2.bed named2.0 end) (none_found _ _ _ _ c.is_some.ensures c.if-is_some.false c.next_token.ensures.split) named2.1;
      },
      c.xfer.ensures names named.0 named2.0 named.2 named2.2,
    )
