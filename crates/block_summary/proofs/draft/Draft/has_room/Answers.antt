-- The lines made all loops.
use Rattle.std.proofs.Common.{[], ◌∷◌, ◌+◌, subst, arith}
use Rattle.std.proofs.lemmas.Bool.{leb-true}
use Rattle.face_data.specs.Conditions.Ask.{size_at_most}
use Rattle.face_data.specs.Summaries.{Summary}
use Rattle.block_summary.specs.DraftKnowledge.{HoldsAfter}
use Rattle.block_summary.proofs.NewLoops.{new_loops_hold}
use Rattle.block_summary.proofs.draft.Draft.has_room.Goals as goal

pub returns : goal.returns
returns c = λ yes.
    let few = leb-true (c.from.result + c.from-2.result) c.from-3.result yes in
    subst (λ (s : Summary). HoldsAfter s (size_at_most (c.args.n ∷ c.args.n2 ∷ []) c.args.hold)) c.self.view_is
    (new_loops_hold c.self.inside.kept c.self.inside.effect c.self.inside.lasts.lasts c.self.inside.symbols c.args.n c.args.n2 c.in-Some.first c.in-Some-new_loops_on.second c.args.hold
    c.in-Some.ensures.entries c.in-Some.ensures.count c.in-Some-new_loops_on.ensures.entries c.in-Some-new_loops_on.ensures.count (omega (arith, few, c.from.ensures, c.from-2.ensures, c.from-3.ensures)))
