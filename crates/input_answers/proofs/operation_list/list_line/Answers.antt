use Rattle.std.proofs.Common.{length}
use Rattle.std.proofs.lemmas.Result.{on_ok_weaker}
use Rattle.pass_grouping.proofs.Racks.{read-lawful}
use Rattle.input_answers.proofs.operation_list.list_line.Goals as goal

pub take-requires-clause-rack : goal.take-requires-clause-rack
take-requires-clause-rack c = read-lawful c.args.profile.now (length c.args.names.now) c.in_ok-read.read c.requires.limits c.in_ok-read.ensures.lawful

pub returns : goal.returns
returns c =
    on_ok_weaker c.take.result
    (λ taken. record { reading = c.in_ok-read.read; read = c.in_ok-read.ensures.reads; taken = taken })
    c.take.ensures.ok
