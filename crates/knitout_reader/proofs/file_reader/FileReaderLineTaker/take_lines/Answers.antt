use Rattle.std.proofs.Common.{◌≡◌, ◌++◌, List, ℕ, drop, sym, subst, arith}
use Rattle.std.proofs.lemmas.Result.{on_ok_weaker, IfErr-weaker}
use Rattle.knit_base.specs.Lines.{lines_of}
use Rattle.line_cutter.specs.Cut.{IsFirstBadBehind}
use Rattle.knitout_reader.specs.FileLines.{HasReadFront, HasReadLines}
use Rattle.knitout_reader.proofs.FilesByLines.{entered_all, entered_bad, entered_counted, entered_rest, rest_of}
use Rattle.knitout_reader.proofs.file_reader.FileReaderLineTaker.take_lines.Goals as goal

pub returns-then-start-text-clause-ok : goal.returns-then-start-text-clause-ok
returns-then-start-text-clause-ok g c =
    λ start lines read. entered_all _ g.W.FileWork.saw g.W.FileWork.took lines c.args.text.now c.in_ok-start.start start c.take_head.new.self c.if-start-text.true (c.in_ok-start.ensures.ok start lines read)

pub take_behind-requires-clause-few : goal.take_behind-requires-clause-few
take_behind-requires-clause-few g c =
    let reading = c.requires.taking in
    let enters = c.in_ok-start.ensures.ok reading.0 reading.1 reading.2 in
    omega (arith, entered_counted _ g.W.FileWork.saw g.W.FileWork.took reading.1 c.args.text.now c.in_ok-start.start reading.0 c.args.self.now c.take_head.new.self reading.2 enters, enters.few, c.requires.few, c.requires.size)

pub take_behind-requires-clause-reading : goal.take_behind-requires-clause-reading
take_behind-requires-clause-reading g c =
    let reading = c.requires.taking in
    let enters = c.in_ok-start.ensures.ok reading.0 reading.1 reading.2 in (
      reading.0,
      reading.1 ++ enters.front,
      subst (λ t. HasReadFront _ g.W.FileWork.saw g.W.FileWork.took (reading.1 ++ enters.front) (lines_of t) reading.0 c.take_head.new.self) (sym (rest_of c.args.text.now c.in_ok-start.start)) enters.read,
    )

pub returns-clause-ok : goal.returns-clause-ok
returns-clause-ok g c =
    on_ok_weaker c.take_behind.result
    (λ takes start lines read.
    entered_rest _ g.W.FileWork.saw g.W.FileWork.took lines c.args.text.now c.in_ok-start.start start c.take_head.new.self c.take_behind.new.self (c.in_ok-start.ensures.ok start lines read)
    (λ first ls front.
    subst (λ t. HasReadLines _ g.W.FileWork.saw g.W.FileWork.took (ls ++ lines_of t) first c.take_behind.new.self) (rest_of c.args.text.now c.in_ok-start.start)
    (takes first ls (subst (λ t. HasReadFront _ g.W.FileWork.saw g.W.FileWork.took ls (lines_of t) first c.take_head.new.self) (sym (rest_of c.args.text.now c.in_ok-start.start)) front))))
    c.take_behind.ensures.ok

pub returns-clause-err : goal.returns-clause-err
returns-clause-err g c =
    let reading = c.requires.taking in
    let enters = c.in_ok-start.ensures.ok reading.0 reading.1 reading.2 in
    IfErr-weaker c.take_behind.result _ _
    (λ fault bad.
    entered_bad _ g.W.FileWork.saw g.W.FileWork.took reading.1 c.args.text.now c.in_ok-start.start reading.0 c.args.self.now c.take_head.new.self fault reading.2 enters
    (subst (λ t. IsFirstBadBehind c.take_head.new.self.lines (lines_of t) fault) (rest_of c.args.text.now c.in_ok-start.start) bad))
    c.take_behind.ensures.err
