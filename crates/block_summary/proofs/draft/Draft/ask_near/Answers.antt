use Rattle.std.proofs.Common.{w16, ℤ, to_z, of_z, refl, sym, ◌∙◌}
use Rattle.face_data.specs.Conditions.Ask.{last_near}
use Rattle.block_summary.proofs.NearSteps.{near_answered, told_by_kept, told_by_lasts}
use Rattle.block_summary.proofs.draft.Draft.ask_near.Goals.{in-Implied, in-Refuted, in-Silent}
use Rattle.block_summary.proofs.draft.Draft.ask_near.Goals as goal

pub keep_if_silent-requires-clause-known : goal.keep_if_silent-requires-clause-known
keep_if_silent-requires-clause-known c =
    let inside = c.self.inside in
    let at : ℤ = to_z w16 (of_z w16 c.args.at) in
    near_answered c.args.self.now inside.lines inside.made inside.kept inside.symbols inside.lasts.lasts c.as_slice.result.now inside.effect c.args.c _ at c.args.float c.last_bearing.result _
    c.self.view_is c.as_slice.ensures.items refl c.last_bearing.ensures
    (elim c.match-last_bearing.branch [
      | in-Implied w ↦ told_by_lasts inside.kept (last_near c.args.c at c.args.float) c.last_bearing.result c.match-last_bearing.bearing (λ silence. cc) (w.bearing-is ∙ sym w.in-Implied.is)
      | in-Refuted w ↦ told_by_lasts inside.kept (last_near c.args.c at c.args.float) c.last_bearing.result c.match-last_bearing.bearing (λ silence. cc) (w.bearing-is ∙ sym w.in-Refuted.is)
      | in-Silent w ↦ told_by_kept inside.kept (last_near c.args.c at c.args.float) c.last_bearing.result w.bearing_on_near-bearing.result c.match-last_bearing.bearing w.in-Silent.is w.bearing-is w.bearing_on_near-bearing.ensures
    ])
