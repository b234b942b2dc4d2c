use Rattle.std.proofs.Common.{◌∙◌, All, drop, sym, subst}
use Rattle.std.specs.List.{slice_range}
use Rattle.std.proofs.lemmas.List.Elements.{All-map}
use Rattle.knit_base.specs.Lines.{IsLine}
use Rattle.knit_base.proofs.Copied.{have_first, range_copied}
use Rattle.knit_base.proofs.lines.Lines.range_without_first.Goals as goal

pub range-requires-clause-long : goal.range-requires-clause-long
range-requires-clause-long c =
    have_first _ _ _ c.args.start c.args.end c.lines.view_is c.requires.first

pub lying_in-requires-clause-lines : goal.lying_in-requires-clause-lines
lying_in-requires-clause-lines c =
    let same = range_copied _ _ _ c.args.start c.args.end c.lines.view_is 1 _ _ (have_first _ _ _ c.args.start c.args.end c.lines.view_is c.requires.first) c.in_ok-held.ensures in
    subst (All IsLine) (sym same) (All-map IsLine (drop 1) (slice_range c.args.lines.now c.args.start c.args.end) (λ k d below. (c.requires.first k d below).rest))

pub returns : goal.returns
returns c =
    c.lying_in.ensures ∙ range_copied _ _ _ c.args.start c.args.end c.lines.view_is 1 _ _ (have_first _ _ _ c.args.start c.args.end c.lines.view_is c.requires.first) c.in_ok-held.ensures
