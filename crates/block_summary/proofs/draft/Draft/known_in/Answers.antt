use Rattle.std.proofs.Common.{subst}
use Rattle.face_data.specs.Conditions.Ask.{carrier_in}
use Rattle.face_data.specs.Summaries.{Summary}
use Rattle.block_summary.specs.DraftKnowledge.{HoldsAfter}
use Rattle.block_summary.proofs.DraftSteps.{carrier_held}
use Rattle.block_summary.proofs.draft.Draft.known_in.Goals as goal

pub returns : goal.returns
returns c x known =
    let inside = c.self.inside in
    subst (λ (s : Summary). HoldsAfter s (carrier_in x)) c.self.view_is
    (carrier_held inside.kept inside.effect inside.lasts.lasts inside.symbols c.digest-asked.result x c.digest-asked.ensures.digest c.digest-asked.ensures.irredundant known)
