-- The slider holds its own entry alone.
use Rattle.std.proofs.Common.{◌∙◌, sym}
use Rattle.face_data.specs.Conditions.{part_of}
use Rattle.summary_compose.specs.Changes.{changes_in}
use Rattle.summary_compose.specs.Known.{checks_in}
use Rattle.summary_compose.proofs.AlikeConditions.{slider_own}
use Rattle.summary_compose.proofs.ImpliedChecks.{size_alike}
use Rattle.summary_compose.proofs.alike.slider_implied.Goals as goal

pub returns : goal.returns
returns c = λ yes.
    let a = c.args.a.now in
    size_alike (changes_in a) (checks_in a) c.in-Some.needle (part_of c.args.names.now c.args.part) c.args.most (c.find_size.ensures yes) c.in-Some.ensures
    (slider_own a.segs.now a.changes.now c.in-Some.needle c.requires.spared (sym c.is_slider.ensures ∙ c.if-not-is_slider.false))
