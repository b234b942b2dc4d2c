use Rattle.std.proofs.Common.{◌/◌, drop, take, take-append-drop}
use Rattle.check_workers.specs.Texts.{ArePrepared}
use Rattle.check_workers.proofs.Lots.{both_prepared}
use Rattle.check_workers.proofs.prepare.+fn-prepare_lots-join+arg2+fn-prepare_lots-join+arg3+prepare_lots.Goals as goal

pub returns : goal.returns
returns g t c =
    let setting = c.args.setting.now in
    let texts = c.args.texts.items in
    let middle = c.len-2.result / 2 in
    let cut = c.in_ok-rest.ensures in
    let front : ArePrepared setting (take middle texts) c.in_ok-all.all.items = rw (← cut.items) (rw c.in_ok-all.was at c.join-front.ensures.first) in
    let back : ArePrepared setting (drop middle texts) c.in_ok-back.field-0.items = rw (← cut.tail) (rw c.in_ok-back.was at c.join-front.ensures.second) in
    let both = both_prepared setting (take middle texts) (drop middle texts) c.in_ok-all.all.items c.in_ok-back.field-0.items front back in
    rw c.in_ok-append.ensures.items (rw (take-append-drop middle texts) at both)
