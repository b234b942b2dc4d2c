use Rattle.std.proofs.Common.{rules, ◌≡◌, w16}
use Rattle.std.proofs.lemmas.Int.{to_z-of_z}
use Rattle.face_data.specs.declared.bearing.Bearing.TheVariants.{Implied}
use Rattle.block_summary.proofs.NearSteps.{near_holds}
use Rattle.block_summary.proofs.draft.Draft.is_near.Goals as goal

pub returns : goal.returns
returns c = λ yes.
    let inside = c.self.inside in
    let implied : c.last_bearing.result ≡ Implied = search rules in
    near_holds c.args.self.now inside.lines inside.made inside.kept inside.symbols inside.lasts.lasts c.as_slice.result.now inside.effect c.args.c _ c.args.at c.args.float c.last_bearing.result
    c.self.view_is c.as_slice.ensures.items (to_z-of_z w16 c.args.at c.ranges.at) c.last_bearing.ensures implied
