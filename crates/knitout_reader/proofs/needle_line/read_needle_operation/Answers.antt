use Rattle.std.proofs.Common.{inr, [], refl, subst}
use Rattle.knitout_reader.specs.Shapes.{BeginsWithNeedle}
use Rattle.knitout_reader.specs.Tokens.{tokens_of}
use Rattle.knitout_reader.proofs.Marks.{needle-reading}
use Rattle.knitout_reader.proofs.OperandShapes.{more_tokens_no_needle_shape}
use Rattle.knitout_reader.proofs.TokenRuns.{none_found}
use Rattle.knitout_reader.proofs.needle_line.read_needle_operation.Goals as goal

pub returns-in_default : goal.returns-in_default
returns-in_default c = λ names. inr (more_tokens_no_needle_shape c.args.which _ (λ bed at. c.in_default.ensures bed at []), c.no_shape.ensures)

pub returns : goal.returns
returns c = λ names.
    let named = c.in-Some.ensures in
    needle-reading c.args.profile.now names c.args.which _ _ named.0 _ (record {
      operands = tokens_of c.args.code.now;
      spelled = refl;
      first = subst (λ end. BeginsWithNeedle (tokens_of c.args.code.now) c.in-Some.needle.bed named.0 end) (none_found _ _ _ _ c.is_some.ensures c.if-is_some.false c.next_token.ensures.split) named.1;
    }) (c.name.ensures named.0 named.2)
