use Rattle.std.proofs.Common.{ap, sym, subst, ◌∙◌, [], ◌∷◌, ◌++◌, None}
use Rattle.script_reader.specs.Groups.{group_grammar}
use Rattle.script_reader.specs.Reading.{IsGrammarStop, open_of}
use Rattle.script_reader.specs.declared.line.Kind.TheVariants as kinds
use Rattle.script_reader.proofs.GroupSessions.{closing_stops, undo_read}
use Rattle.script_reader.proofs.groups.read_marked.Goals as goal

pub returns-in-Undo-clause-step : goal.returns-in-Undo-clause-step
returns-in-Undo-clause-step c =
    undo_read c.args.lines.now c.args.at c.args.adds c.requires.at (c.requires.kind ∙ ap (λ m. kinds.Mark m) c.in-Undo.is)

pub returns-in-End-clause-fault : goal.returns-in-End-clause-fault
returns-in-End-clause-fault c = λ text done steps lawful counted.
    subst (IsGrammarStop group_grammar (open_of text (done ++ steps ∷ []) None) c.args.lines.now c.args.at) (sym c.bad_line.ensures)
    (closing_stops c.args.lines.now c.args.at c.requires.at (c.requires.kind ∙ ap (λ m. kinds.Mark m) c.in-End.is) text done steps lawful)
