use Rattle.std.proofs.Common.{◌∷◌, inl, inr, codes, ap, ◌∙◌}
use Rattle.knitout_reader.specs.Shapes.{RackShape}
use Rattle.knitout_reader.proofs.OperandShapes.{no_rack_no_shape}
use Rattle.knitout_reader.proofs.TokenRuns.{none_found}
use Rattle.knitout_reader.proofs.rack_line.read_rack.Goals as goal

pub returns-in_default-rack : goal.returns-in_default-rack
returns-in_default-rack c = λ names. inr (no_rack_no_shape _ _ _ c.in-Some.ensures.split c.in_default-rack.ensures, c.no_shape-in_default-rack.ensures)

pub returns : goal.returns
returns c = λ names.
    let named = c.in-Some-rack.ensures in
    inl (
      RackShape c.in-Some-rack.rack.negative named.0 c.in-Some-rack.rack.quarter,
      record {
        token = c.in-Some.token.now;
        fraction = named.1;
        spelled = ap (λ ts. codes "rack" ∷ ts) (c.in-Some.ensures.split ∙ ap (λ ts. c.in-Some.token.now ∷ ts) (none_found _ _ _ _ c.is_some.ensures c.if-is_some.false c.next_token-2.ensures.split));
        named = named.2;
        left = named.4;
      },
      c.rack_reading.ensures named.0 named.3,
    )
