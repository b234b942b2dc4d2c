use Rattle.std.proofs.Common.{◌≡◌, bit_and, subst}
use Rattle.std.proofs.lemmas.Bool.{eqb-true}
use Rattle.block_summary.proofs.DraftSteps.{in_set}
use Rattle.block_summary.proofs.draft.Draft.knows_in.Goals as goal

pub returns : goal.returns
returns c test x there =
    c.known_in-known.ensures x
    (in_set c.args.yarns.now c.known_in-known.result x (subst (λ m. bit_and m c.known_in-known.result ≡ m) c.mask-mask.ensures (eqb-true _ _ test)) there)
