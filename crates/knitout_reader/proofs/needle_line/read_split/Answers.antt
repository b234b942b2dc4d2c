use Rattle.std.proofs.Common.{◌∷◌, codes, inl, inr, ap}
use Rattle.std.proofs.lemmas.Result.{IfOk-weaker}
use Rattle.knitout_reader.specs.Shapes.{SplitShape}
use Rattle.knitout_reader.specs.Tokens.{tokens_of}
use Rattle.knitout_reader.proofs.FewCarriers.{few_at_split}
use Rattle.knitout_reader.proofs.OperandShapes.{no_needle_no_split_shape, undivided-2}
use Rattle.knitout_reader.proofs.needle_line.read_split.Goals as goal

pub returns-in_default-next_needle-clause-reads : goal.returns-in_default-next_needle-clause-reads
returns-in_default-next_needle-clause-reads c =
    inr (no_needle_no_split_shape _ _ _ c.in-Some.ensures c.in_default-next_needle.ensures, c.no_shape-in_default-next_needle.ensures)

pub returns-in_default-next_needle-2-clause-reads : goal.returns-in_default-next_needle-2-clause-reads
returns-in_default-next_needle-2-clause-reads c =
    inr (undivided-2 _ _ _ _ _ _ c.in-Some.ensures c.in-Some-next_needle.ensures.1 c.in_default-next_needle-2.ensures, c.no_shape-in_default-next_needle-2.ensures)

pub returns-clause-reads : goal.returns-clause-reads
returns-clause-reads c =
    let named = c.in-Some-next_needle.ensures in
    let named2 = c.in-Some-next_needle-2.ensures in
    IfOk-weaker c.split.result _ _
    (λ r is. inl (
      SplitShape c.in-Some.dir c.in-Some-next_needle.needle.bed named.0 c.in-Some-next_needle-2.needle2.bed named2.0 (tokens_of c.in-Some-next_needle-2.carriers.now),
      record {
        operands = tokens_of c.in-Some.operands.now;
        others = tokens_of c.in-Some-next_needle.others.now;
        spelled = ap (λ ts. codes "split" ∷ ts) c.in-Some.ensures;
        first = named.1;
        second = named2.1;
      },
      is named.0 named2.0 named.2 named2.2,
    ))
    c.split.ensures.reads

pub returns-clause-in_place : goal.returns-clause-in_place
returns-clause-in_place c few =
    let named = c.in-Some-next_needle.ensures in
    let named2 = c.in-Some-next_needle-2.ensures in
    c.split.ensures.in_place (few_at_split _ c.in-Some.dir c.in-Some-next_needle.needle.bed named.0 c.in-Some-next_needle-2.needle2.bed named2.0 (tokens_of c.in-Some-next_needle-2.carriers.now)
    (record {
      operands = tokens_of c.in-Some.operands.now;
      others = tokens_of c.in-Some-next_needle.others.now;
      spelled = ap (λ ts. codes "split" ∷ ts) c.in-Some.ensures;
      first = named.1;
      second = named2.1;
    }) few)
