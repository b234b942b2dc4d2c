use Rattle.script_reader.proofs.Commands.{command_at}
use Rattle.script_reader.proofs.one_command.read_command.Goals as goal

pub returns-clause-command : goal.returns-clause-command
returns-clause-command c =
    command_at c.args.lines.now c.args.at c.args.adds c.in_ok-command.next c.next_said.result c.in_ok-command.command c.in_ok-command.ensures.command c.next_said.ensures.passed c.next_said.ensures.said c.next_said.ensures.stays
