use Rattle.std.proofs.Common.{◌+◌, ◌-◌, length, take, drop, refl, subst, arith, length-drop}
use Rattle.std.proofs.lemmas.List.{take_all}
use Rattle.knitout_writer.specs.Written.{AreSpacedNames}
use Rattle.knitout_writer.proofs.CopiedLines.{named-copied}
use Rattle.knitout_writer.proofs.copied_line.has_names.Goals as goal

pub returns : goal.returns
returns c = λ named.
    let line = c.args.line.now in
    let at = c.in-Some.at in
    let names : AreSpacedNames (drop at line) =
    subst AreSpacedNames (take_all (length line - at) (drop at line) (omega (arith, length-drop at line))) (c.are_names.ensures named) in
    named-copied line (take (at + 1) line) at c.in-Some.ensures.1 refl c.if-line-eq120.false (c.is_shortest_spelling.ensures c.if-not-is_shortest_spelling.false) names
