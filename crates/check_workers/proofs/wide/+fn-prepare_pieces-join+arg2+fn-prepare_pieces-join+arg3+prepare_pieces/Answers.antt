use Rattle.std.proofs.Common.{ℕ, ◌+◌, ◌-◌, ◌/◌, arith}
use Rattle.std.proofs.lemmas.Result.{IfOk-weaker}
use Rattle.check_workers.specs.Pieces.{IsOfBoth, IsPieceOf, lines_of_pieces}
use Rattle.check_workers.specs.declared.wide.Made.{Made}
use Rattle.check_workers.proofs.Pieces.{pieces_both, pieces_can_join}
use Rattle.check_workers.proofs.wide.+fn-prepare_pieces-join+arg2+fn-prepare_pieces-join+arg3+prepare_pieces.Goals as goal

pub both-requires : goal.both-requires
both-requires g t c =
    let setting = c.args.setting.now in
    let text = c.args.text.now in
    let middle : ℕ = c.args.from + (c.args.to - c.args.from) / 2 in
    let front : IsPieceOf setting (lines_of_pieces text c.args.pieces c.args.from middle) (c.in_ok-front.field-0.face, c.in_ok-front.field-0.loops) = rw c.in_ok-front.was at c.join-front.ensures.first in
    let back : IsPieceOf setting (lines_of_pieces text c.args.pieces middle c.args.to) (c.in_ok-back.field-0.face, c.in_ok-back.field-0.loops) = rw c.in_ok-back.was at c.join-front.ensures.second in
    pieces_can_join setting text c.args.pieces c.args.from middle c.args.to (c.in_ok-front.field-0.face, c.in_ok-front.field-0.loops) (c.in_ok-back.field-0.face, c.in_ok-back.field-0.loops) (omega (arith, c.len-carriers.ensures.few)) c.requires (omega arith) (omega (arith, c.requires.ordered)) front back

pub returns : goal.returns
returns g t c =
    let setting = c.args.setting.now in
    let text = c.args.text.now in
    let middle : ℕ = c.args.from + (c.args.to - c.args.from) / 2 in
    let front : IsPieceOf setting (lines_of_pieces text c.args.pieces c.args.from middle) (c.in_ok-front.field-0.face, c.in_ok-front.field-0.loops) = rw c.in_ok-front.was at c.join-front.ensures.first in
    let back : IsPieceOf setting (lines_of_pieces text c.args.pieces middle c.args.to) (c.in_ok-back.field-0.face, c.in_ok-back.field-0.loops) = rw c.in_ok-back.was at c.join-front.ensures.second in
    IfOk-weaker c.both.result (λ (made : Made). IsOfBoth (c.in_ok-front.field-0.face, c.in_ok-front.field-0.loops) (c.in_ok-back.field-0.face, c.in_ok-back.field-0.loops) (made.face, made.loops))
    (λ (made : Made). IsPieceOf setting (lines_of_pieces text c.args.pieces c.args.from c.args.to) (made.face, made.loops))
    (λ (made : Made) is. pieces_both setting text c.args.pieces c.args.from middle c.args.to (c.in_ok-front.field-0.face, c.in_ok-front.field-0.loops) (c.in_ok-back.field-0.face, c.in_ok-back.field-0.loops) (made.face, made.loops) c.requires.some (omega arith) (omega (arith, c.requires.ordered)) front back is)
    c.both.ensures
