use Rattle.std.proofs.Common.{[], ◌∷◌, ap, ◌∙◌}
use Rattle.face_data.specs.Sizes.{size_ask}
use Rattle.bed_rules.specs.Beds.{crowded_needles}
use Rattle.block_summary.proofs.TransferSteps.{room_small, transfer_asked, transfer_roomy, transfer_stops}
use Rattle.block_summary.proofs.draft.Draft.ask_transfer.Goals as goal

pub returns-in-Some : goal.returns-in-Some
returns-in-Some c profile limit =
    transfer_stops profile c.args.instr.now c.args.n c.args.n2 c.args.self.now c.ask_rack.new.self c.ask.result c.in_ok-reason.field-0 c.in-Some.reason c.requires.transfer c.ask.ensures.is
    c.in_ok-reason.ensures c.in-Some.is

pub returns-then-has_room : goal.returns-then-has_room
returns-then-has_room c profile limit =
    transfer_roomy profile c.args.hold c.args.instr.now c.args.n c.args.n2 c.args.self.now c.ask_rack.new.self c.ask.result c.in_ok-reason.field-0 limit c.requires.transfer c.ask.ensures.is
    c.in_ok-reason.ensures c.in_default.is (c.has_room.ensures c.if-has_room.true)

pub ask_size-requires-2 : goal.ask_size-requires-2
ask_size-requires-2 c = room_small c.args.hold c.args.n c.args.n2 c.contents.result.now c.in_ok-ask.ask c.requires.hold c.in_ok-ask.ensures.is

pub returns : goal.returns
returns c profile limit =
    transfer_asked profile c.args.hold c.args.instr.now c.args.n c.args.n2 c.args.self.now c.ask_rack.new.self c.ask_size-2.new.self c.ask.result c.in_ok-reason.field-0 c.reason_unless.result c.in_ok-ask.ask
    c.in_ok-goes.goes limit c.requires.transfer c.ask.ensures.is c.in_ok-reason.ensures c.in_default.is
    (c.in_ok-ask.ensures.is ∙ ap (λ cs. size_ask cs (crowded_needles 2 (c.args.n2 ∷ c.args.n ∷ []) c.args.hold)) c.contents.ensures.contents) c.in_ok-goes.ensures.asked c.reason_unless.ensures
