use Rattle.std.proofs.Common.{◌-◌, ◌∙◌, All, drop, sym, subst}
use Rattle.std.specs.List.{slice_range}
use Rattle.std.proofs.lemmas.List.{map-id}
use Rattle.std.proofs.lemmas.List.Elements.{All-drop, All-map, All-take}
use Rattle.knit_base.specs.Lines.{IsLine}
use Rattle.knit_base.proofs.Copied.{have_none, range_copied}
use Rattle.knit_base.proofs.lines.Lines.range.Goals as goal

pub lying_in-requires-clause-lines : goal.lying_in-requires-clause-lines
lying_in-requires-clause-lines c =
    let same = range_copied _ _ _ c.args.start c.args.end c.lines.view_is 0 _ _ (have_none _ _ c.args.start c.args.end c.lines.invariant.within) c.in_ok-held.ensures in
    let lines : All IsLine c.args.lines.now = subst (All IsLine) c.lines.view_is c.lines.invariant.lines in
    subst (All IsLine) (sym same)
    (All-map IsLine (drop 0) (slice_range c.args.lines.now c.args.start c.args.end)
    (All-take IsLine (c.args.end - c.args.start) (drop c.args.start c.args.lines.now) (All-drop IsLine c.args.start c.args.lines.now lines)))

pub returns : goal.returns
returns c =
    c.lying_in.ensures ∙ range_copied _ _ _ c.args.start c.args.end c.lines.view_is 0 _ _ (have_none _ _ c.args.start c.args.end c.lines.invariant.within) c.in_ok-held.ensures
    ∙ map-id (slice_range c.args.lines.now c.args.start c.args.end)
