use Rattle.std.proofs.Common.{inr, ap, ◌∷◌, List, ℕ}
use Rattle.std.proofs.lemmas.Result.{IfOk-weaker}
use Rattle.knitout_reader.specs.Tokens.{tokens_of}
use Rattle.knitout_reader.proofs.FewCarriers.{few_along}
use Rattle.knitout_reader.proofs.Marks.{at_word, no_operation}
use Rattle.knitout_reader.proofs.read.read_tokens.Goals as goal

pub returns-in-Some-Loop-clause-in_place : goal.returns-in-Some-Loop-clause-in_place
returns-in-Some-Loop-clause-in_place c few =
    c.read_loop_operation.ensures.in_place (few_along _ _ (ap (λ (w : List ℕ). w ∷ tokens_of c.args.code.now) (rw c.in-Some-Loop.field-0-is at c.in-Some-Loop.ensures)) few)

pub returns-in-Some-Split-clause-in_place : goal.returns-in-Some-Split-clause-in_place
returns-in-Some-Split-clause-in_place c few =
    c.read_split.ensures.in_place (few_along _ _ (ap (λ (w : List ℕ). w ∷ tokens_of c.args.code.now) (rw c.in-Some-Split.field-0-is at c.in-Some-Split.ensures)) few)

pub returns-in-Some-Carrier-clause-in_place : goal.returns-in-Some-Carrier-clause-in_place
returns-in-Some-Carrier-clause-in_place c few =
    c.read_carrier_operation.ensures.in_place (few_along _ _ (ap (λ (w : List ℕ). w ∷ tokens_of c.args.code.now) (rw c.in-Some-Carrier.field-0-is at c.in-Some-Carrier.ensures)) few)

pub returns-in-Some-Xfer-clause-reads : goal.returns-in-Some-Xfer-clause-reads
returns-in-Some-Xfer-clause-reads c = at_word c.args.profile.now c.args.declared.now _ _ _ _ (rw c.in-Some-Xfer.field-0-is at c.in-Some-Xfer.ensures) (c.read_xfer.ensures c.args.declared.now)

pub returns-in-Some-Needle-clause-reads : goal.returns-in-Some-Needle-clause-reads
returns-in-Some-Needle-clause-reads c = at_word c.args.profile.now c.args.declared.now _ _ _ _ (rw c.in-Some-Needle.field-0-is at c.in-Some-Needle.ensures) (c.read_needle_operation.ensures c.args.declared.now)

pub returns-in-Some-Rack-clause-reads : goal.returns-in-Some-Rack-clause-reads
returns-in-Some-Rack-clause-reads c = at_word c.args.profile.now c.args.declared.now _ _ _ _ (rw c.in-Some-Rack.field-0-is at c.in-Some-Rack.ensures) (c.read_rack.ensures c.args.declared.now)

pub returns-in-Some-Carrier-clause-reads : goal.returns-in-Some-Carrier-clause-reads
returns-in-Some-Carrier-clause-reads c =
    IfOk-weaker c.read_carrier_operation.result _ _
    (λ r reads. at_word c.args.profile.now c.args.declared.now _ _ _ _ (rw c.in-Some-Carrier.field-0-is at c.in-Some-Carrier.ensures) (reads c.args.profile.now)) c.read_carrier_operation.ensures.reads

pub returns-in-Some-Free-clause-reads : goal.returns-in-Some-Free-clause-reads
returns-in-Some-Free-clause-reads c = c.read_free_operation.ensures c.args.profile.now c.args.declared.now _ _ (rw c.in-Some-Free.field-0-is at c.in-Some-Free.ensures)

pub returns-in-None-clause-reads : goal.returns-in-None-clause-reads
returns-in-None-clause-reads c = inr (no_operation _ _ c.in-None.ensures, c.no_shape.ensures)
