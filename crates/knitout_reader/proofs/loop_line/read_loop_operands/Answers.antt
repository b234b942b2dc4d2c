use Rattle.std.proofs.Common.{inr, refl}
use Rattle.std.proofs.lemmas.Result.{IfOk-weaker}
use Rattle.knitout_reader.specs.Tokens.{tokens_of}
use Rattle.knitout_reader.proofs.FewCarriers.{few_at_loop}
use Rattle.knitout_reader.proofs.Marks.{loop-reading}
use Rattle.knitout_reader.proofs.OperandShapes.{no_needle_no_loop_shape}
use Rattle.knitout_reader.proofs.loop_line.read_loop_operands.Goals as goal

pub returns-in_default-clause-reads : goal.returns-in_default-clause-reads
returns-in_default-clause-reads c = inr (no_needle_no_loop_shape c.args.which _ _ c.args.dir refl c.in_default.ensures, c.no_shape.ensures)

pub returns-clause-reads : goal.returns-clause-reads
returns-clause-reads c =
    let named = c.in-Some.ensures in
    IfOk-weaker c.form.result _ _
    (λ r is. loop-reading c.args.profile.now c.args.declared.now c.args.which _ c.args.dir c.in-Some.needle.bed named.0 (tokens_of c.in-Some.carriers.now) r (record {
      operands = tokens_of c.args.operands.now;
      spelled = refl;
      first = named.1;
    }) (is named.0 named.2))
    c.form.ensures.reads

pub returns-clause-in_place : goal.returns-clause-in_place
returns-clause-in_place c few =
    let named = c.in-Some.ensures in
    c.form.ensures.in_place (few_at_loop c.args.which _ c.args.dir c.in-Some.needle.bed named.0 (tokens_of c.in-Some.carriers.now)
    (record { operands = tokens_of c.args.operands.now; spelled = refl; first = named.1 }) few)
