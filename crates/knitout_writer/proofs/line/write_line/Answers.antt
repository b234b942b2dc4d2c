use Rattle.knitout_writer.proofs.SettledLines.{canonical_spelling_settles}
use Rattle.knitout_writer.proofs.line.write_line.Goals as goal

pub returns-in_err-append_line-clause-settled : goal.returns-in_err-append_line-clause-settled
returns-in_err-append_line-clause-settled c = λ profile lawful. canonical_spelling_settles profile c.args.declared.now c.args.raw.now lawful

pub returns-in_err-extend_from_slice-clause-settled : goal.returns-in_err-extend_from_slice-clause-settled
returns-in_err-extend_from_slice-clause-settled c = λ profile lawful. canonical_spelling_settles profile c.args.declared.now c.args.raw.now lawful

pub returns-clause-settled : goal.returns-clause-settled
returns-clause-settled c = λ profile lawful. canonical_spelling_settles profile c.args.declared.now c.args.raw.now lawful
