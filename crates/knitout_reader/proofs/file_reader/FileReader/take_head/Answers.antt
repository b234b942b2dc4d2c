use Rattle.std.proofs.Common.{◌≡◌, ◌<◌, ◌≤◌, length, arith}
use Rattle.knitout_reader.proofs.FilesByLines.{entered_at_once, entered_in_body, entered_in_head}
use Rattle.knitout_reader.proofs.file_reader.FileReader.take_head.Goals as goal

pub returns-in_default : goal.returns-in_default
returns-in_default g c = record {
  ok = λ start lines read. entered_at_once _ g.W.FileWork.saw g.W.FileWork.took lines c.args.text.now start c.args.self.now c.in_default.not-InHead read;
  err = tt;
}

pub returns-then-start-text-clause-ok : goal.returns-then-start-text-clause-ok
returns-then-start-text-clause-ok g c =
    λ start lines read.
    entered_in_head _ g.W.FileWork.saw g.W.FileWork.took lines c.args.text.now c.in_ok-count.count c.in_ok-count.start start c.args.self.now c.in-InHead.reader c.take_front.new.reader c.take_front.new.work read c.in-InHead.is
    c.if-start-text.true c.in_ok-count.ensures.ok

pub returns-clause-ok : goal.returns-clause-ok
returns-clause-ok g c =
    λ start lines read.
    entered_in_body _ g.W.FileWork.saw g.W.FileWork.took lines c.args.text.now c.in_ok-count.count c.in_ok-count.start start c.args.self.now c.in-InHead.reader c.take_front.new.reader c.replace-reader.result c.take_front.new.work
    c.begin_body.new.work c.in_ok-self.field-0 read c.in-InHead.is c.if-start-text.false c.in_ok-count.ensures.ok c.replace-reader.ensures.value c.in_ok-self.ensures
