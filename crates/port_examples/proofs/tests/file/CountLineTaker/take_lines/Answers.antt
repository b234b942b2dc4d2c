use Rattle.std.proofs.Common.{length-append, arith}
use Rattle.std.proofs.lemmas.List.Elements.{All-append}
use Rattle.knit_base.specs.Lines.{lines_of}
use Rattle.line_cutter.specs.Cut.{IsGoodLine}
use Rattle.port_examples.proofs.tests.file.CountLineTaker.take_lines.Goals as goal

pub returns-clause-ok : goal.returns-clause-ok
returns-clause-ok c = λ start lines took.
    let found = c.in_ok-self.ensures.ok in (
      omega (arith, took.0, found.counted, length-append lines (lines_of c.args.text.now)),
      All-append IsGoodLine lines (lines_of c.args.text.now) took.1 found.good,
    )
