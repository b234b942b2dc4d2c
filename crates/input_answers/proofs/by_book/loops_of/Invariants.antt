use Rattle.std.proofs.Common.{◌≡◌, ◌+◌, ◌-◌, ◌++◌, List}
use Rattle.carriage_model.specs.declared.verdict.LoopFact.{LoopFact}
use Rattle.edit_journal.specs.Documents.{body}
use Rattle.edit_book.specs.Books.{document}
use Rattle.edit_book.specs.Verdicts.{setting_of}
use Rattle.input_answers.specs.BookLoops.{AreLoopsOn}
use Rattle.input_answers.proofs.BookLoops.{facts_from}
use Rattle.input_answers.proofs.by_book.loops_of.Given as goal

abbrev pub invariant-loop-i : goal.invariant-loop-i
invariant-loop-i g l = (made : List LoopFact) → AreLoopsOn (setting_of l.book.opening (document l.book)) (body (document l.book)) made → l.loops ++ facts_from made (l.first + l.i) (l.count - l.i) ≡ made
