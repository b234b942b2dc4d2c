use Rattle.std.proofs.Common.{◌≡◌, ℕ, List, ◌∷◌, [], ◌++◌, sym, subst}
use Rattle.std.proofs.lemmas.Result.{on_ok_weaker}
use Rattle.knitout_reader.specs.Head.{carriers_headers}
use Rattle.knitout_reader.specs.HeadLines.{AreHeaders}
use Rattle.knitout_reader.proofs.HeadsByLines.{header_more, no_header}
use Rattle.knitout_reader.proofs.head_reader.Headers.take_line.Goals as goal

pub returns-in_default : goal.returns-in_default
returns-in_default c = λ lines is are. no_header lines c.args.line.now c.args.self.now c.in_default.ensures.header are

pub returns : goal.returns
returns c =
    on_ok_weaker c.add.result
    (λ added lines is are.
    subst (λ hs. AreHeaders hs c.add.new.self) (sym (header_more lines c.args.line.now c.in-Some.names.now c.args.number is c.in-Some.ensures.header.0 c.in-Some.ensures.header.1))
    (added (carriers_headers 1 lines) are))
    c.add.ensures
