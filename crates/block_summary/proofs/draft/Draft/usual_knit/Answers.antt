-- A knit of which all is known, where floats have no limit and where they have one.
use Rattle.std.proofs.Common.{◌≤◌, List, Some, length, sym, ◌∙◌, subst, arith}
use Rattle.std.specs.List.{Contains}
use Rattle.knit_base.specs.declared.yarns.CarrierNo.{CarrierNo}
use Rattle.face_data.specs.Conditions.Ask.{carrier_in}
use Rattle.block_summary.specs.DraftKnowledge.{AreNearIn, HoldsAfter}
use Rattle.block_summary.proofs.AskedHold.{knit_ends}
use Rattle.block_summary.proofs.draft.Draft.usual_knit.Goals.{in-None+in_ok-through-in-None, in-Some+in_ok-through-in-Some}
use Rattle.block_summary.proofs.draft.Draft.usual_knit.Goals as goal

pub returns : goal.returns
returns c profile limited near =
    let old = c.args.self.now in
    let cs = c.args.yarns.now in
    let some : 1 ≤ length cs = omega (arith, c.len.ensures, c.if-len-eq0.false) in
    let known = c.knows_in.ensures c.if-not-knows_in.false in
    elim c.match-limit.branch [
      | in-None+in_ok-through-in-None w ↦ knit_ends profile c.args.dir c.args.n cs c.in_ok-yarns.yarns c.match-limit.through old c.match-limit.self some
          (λ x xs are. w.self-is ∙ w.in_ok-through-in-None.ensures.summary profile c.args.dir x xs (limited ∙ w.in-None.is)
          (subst (λ (ys : List CarrierNo). (y : CarrierNo) → Contains ys y → HoldsAfter old (carrier_in y)) are known))
          c.in_ok-yarns.ensures.ok (w.through-is ∙ w.in_ok-through-in-None.ensures.through)
      | in-Some+in_ok-through-in-Some w ↦ knit_ends profile c.args.dir c.args.n cs c.in_ok-yarns.yarns c.match-limit.through old c.match-limit.self some
          (λ x xs are.
          let listed = w.as_slice.ensures.items ∙ c.in_ok-yarns.ensures.ok in
          w.self-is ∙ w.in_ok-through-in-Some.ensures.summary profile w.in-Some.field-0 c.args.dir x xs (listed ∙ are) (limited ∙ w.in-Some.is)
          (subst (λ (ys : List CarrierNo). AreNearIn old (Some w.in-Some.field-0) c.args.n ys) (sym listed)
          (subst (λ limit. AreNearIn old limit c.args.n cs) w.in-Some.is near)))
          c.in_ok-yarns.ensures.ok (w.through-is ∙ w.in_ok-through-in-Some.ensures.through)
    ]
