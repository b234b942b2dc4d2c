use Rattle.std.proofs.Common.{◌≡◌, sym, subst, ◌∙◌, get_or, [], ◌⊎◌, inl}
use Rattle.script_reader.specs.Command.{IsNoCommand}
use Rattle.script_reader.specs.Statements.{kind_of}
use Rattle.script_reader.specs.declared.line.Kind.{Kind}
use Rattle.script_reader.specs.declared.line.Kind.TheVariants as kind
use Rattle.script_reader.specs.declared.line.Mark as marks
use Rattle.script_reader.proofs.Commands.{command_read, other_refused, unknown_refused}
use Rattle.script_reader.proofs.Texts.{no_put_head}
use Rattle.script_reader.proofs.one_command.command_of_kind.Goals as goal

pub returns-then-not-names_known-clause-fault : goal.returns-then-not-names_known-clause-fault
returns-then-not-names_known-clause-fault c =
    let is : kind_of (get_or c.args.lines.now c.args.at []) ≡ kind.Command c.in-Command.command_line = sym c.requires.kind ∙ c.in-Command.is in
    inl (unknown_refused c.args.lines.now c.args.at c.requires.at c.args.adds c.in-Command.command_line is (sym c.names_known.ensures ∙ c.if-not-names_known.true))

pub read_operand-requires-clause-other : goal.read_operand-requires-clause-other
read_operand-requires-clause-other c = no_put_head (get_or c.args.lines.now c.args.at []) c.in-Command.command_line (sym c.requires.kind ∙ c.in-Command.is)

pub returns-in_ok-read-in-Command-clause-command : goal.returns-in_ok-read-in-Command-clause-command
returns-in_ok-read-in-Command-clause-command c =
    let is : kind_of (get_or c.args.lines.now c.args.at []) ≡ kind.Command c.in-Command.command_line = sym c.requires.kind ∙ c.in-Command.is in
    command_read c.args.lines.now c.args.at c.requires.at c.args.adds c.in-Command.command_line c.in_ok-read-in-Command.read.0 c.in_ok-read-in-Command.read.1 is
    (sym c.names_known.ensures ∙ c.if-not-names_known.false) c.in_ok-read-in-Command.ensures

pub returns-in-Skipped-clause-fault : goal.returns-in-Skipped-clause-fault
returns-in-Skipped-clause-fault c =
    subst (IsNoCommand c.args.lines.now c.args.at c.args.adds) (sym c.bad_line.ensures)
    (inl (other_refused c.args.lines.now c.args.at c.requires.at c.args.adds (subst (λ (k : Kind). (k ≡ kind.Skipped) ⊎ ((k ≡ kind.Text) ⊎ ((k ≡ kind.Session) ⊎ (((m : marks.Mark) × (k ≡ kind.Mark m)) ⊎ (k ≡ kind.Other))))) c.requires.kind c.in-Skipped.is)))
