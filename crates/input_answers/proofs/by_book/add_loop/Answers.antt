use Rattle.std.proofs.Common.{◌≡◌, ◌++◌, ◌∙◌, List, Option, ap, append-nil, sym}
use Rattle.std.specs.Option.{option_to_list}
use Rattle.std.proofs.lemmas.Result.{on_ok_weaker}
use Rattle.carriage_model.specs.declared.verdict.LoopFact.{LoopFact}
use Rattle.edit_journal.specs.Documents.{body as document_lines}
use Rattle.edit_book.specs.Books.{document}
use Rattle.edit_book.specs.Verdicts.{setting_of}
use Rattle.input_answers.specs.BookLoops.{AreLoopsOn}
use Rattle.input_answers.proofs.BookLoops.{loop_told}
use Rattle.input_answers.proofs.by_book.add_loop.Goals as goal

pub returns-in-None : goal.returns-in-None
returns-in-None g c = λ made are.
    let told = loop_told (setting_of c.args.book.now.opening (document c.args.book.now)) (document_lines (document c.args.book.now)) c.args.line c.in_ok-fact_at.field-0 made c.in_ok-fact_at.ensures.fact are in
    sym (ap (λ (o : Option LoopFact). c.args.loops.now ++ option_to_list o) (sym told ∙ c.in-None.is) ∙ append-nil c.args.loops.now)

pub returns-in-Some : goal.returns-in-Some
returns-in-Some g c =
    on_ok_weaker c.push_fact.result
    (λ pushed made are.
    let told = loop_told (setting_of c.args.book.now.opening (document c.args.book.now)) (document_lines (document c.args.book.now)) c.args.line c.in_ok-fact_at.field-0 made c.in_ok-fact_at.ensures.fact are in
    pushed ∙ ap (λ (o : Option LoopFact). c.args.loops.now ++ option_to_list o) (sym c.in-Some.is ∙ told))
    c.push_fact.ensures
