use Rattle.std.proofs.Common.{[]}
use Rattle.knit_base.specs.declared.yarns.CarrierNo.{CarrierNo}
use Rattle.face_data.specs.Conditions.Ask.{carrier_in}
use Rattle.block_summary.specs.DraftKnowledge.{HoldsAfter}
use Rattle.block_summary.proofs.KnownKnits.{knit_row, of_one}
use Rattle.block_summary.proofs.adding.add_knit.Goals as goal

pub returns : goal.returns
returns c profile free = (
  c.in_ok-through.ensures.summary profile c.args.dir c.args.c [] free
      (λ x. of_one (λ (y : CarrierNo). HoldsAfter c.args.draft.now (carrier_in y)) c.args.c x (c.knows_carrier.ensures c.if-not-knows_carrier.false)),
  knit_row c.args.loops.now c.push.new.self c.args.draft.now c.lines-offset.result c.args.dir c.args.n c.args.c c.one-yarns.result c.in_ok-through.through c.in_ok-push.ensures.ok c.lines-offset.ensures
      c.one-yarns.ensures c.in_ok-through.ensures.through,
)
