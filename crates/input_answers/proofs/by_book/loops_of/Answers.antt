use Rattle.std.proofs.Common.{ap, arith}
use Rattle.knit_base.specs.declared.setting.Setting.{Setting}
use Rattle.edit_journal.specs.Documents.{body as document_lines}
use Rattle.edit_book.specs.Books.{document}
use Rattle.edit_book.specs.Verdicts.{setting_of}
use Rattle.input_answers.proofs.BookLoops.{asked_all, asked_more, asked_none}
use Rattle.input_answers.proofs.by_book.loops_of.Goals as goal

pub loop-i-init : goal.loop-i-init
loop-i-init g c = λ made are.
    asked_none (setting_of c.args.book.now.opening (document c.args.book.now)) (document_lines (document c.args.book.now)) c.setting.result.now.first c.args.count c.new-loops.result made c.new-loops.ensures
    (ap (λ (s : Setting). s.first) c.setting.ensures.setting) c.requires.count are

pub loop-i-preserved : goal.loop-i-preserved
loop-i-preserved g c = λ made are.
    asked_more made c.loop-i.loops c.add_loop.new.loops c.setting.result.now.first c.loop-i.i c.args.count c.loop-i-test.true (c.loop-i.invariant made are) (c.in_ok-add_loop.ensures made are)

pub returns : goal.returns
returns g c = λ made are.
    asked_all made c.loop-i.loops c.setting.result.now.first c.loop-i.i c.args.count (omega (arith, c.loop-i-test.false, c.loop-i.auto.i-end)) (c.loop-i.invariant made are)
