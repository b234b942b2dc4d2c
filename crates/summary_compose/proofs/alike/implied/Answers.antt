-- What the code knows of the condition is that it holds.
use Rattle.std.proofs.Common.{rules, w16, ℤ, sym, ap, ◌∙◌, refl}
use Rattle.std.proofs.lemmas.Int.{to_z-of_z}
use Rattle.face_data.specs.Chains.{chain_at}
use Rattle.face_data.specs.Conditions.{part_of}
use Rattle.face_data.specs.Digests.{digest_of}
use Rattle.face_data.specs.Lasts.{last_bearing}
use Rattle.summary_compose.specs.Changes.{changes_in}
use Rattle.summary_compose.specs.Known.{checks_in, notes_of}
use Rattle.summary_compose.proofs.Answers.{near_yes, sized_known}
use Rattle.summary_compose.proofs.ImpliedChecks.{alike_next, implied_yes}
use Rattle.summary_compose.proofs.Readings.{first_check}
use Rattle.summary_compose.proofs.alike.implied.Goals as goal

pub returns-in-SizeAtMost-clause-alike : goal.returns-in-SizeAtMost-clause-alike
returns-in-SizeAtMost-clause-alike c = λ yes.
    let a = c.args.a.now in
    let b = c.args.b.now in
    let known = digest_of (checks_in a) in
    alike_next a b c.args.effect.now c.args.at first_check known c.requires.good c.requires.through c.requires.alike c.requires.there refl
    (sized_known known (notes_of (checks_in a)) c.args.effect.now a.lasts.now (changes_in a) b.names.now (part_of b.names.now c.in-SizeAtMost.part) _ c.in-SizeAtMost.part c.in-SizeAtMost.most (checks_in a)
    (record { digest_is = refl; notes_are = refl }) c.in-SizeAtMost.is refl ∙ c.size_holds.ensures.holds yes)

pub returns-clause-alike : goal.returns-clause-alike
returns-clause-alike c = λ yes.
    let a = c.args.a.now in
    let b = c.args.b.now in
    let known = digest_of (checks_in a) in
    alike_next a b c.args.effect.now c.args.at first_check known c.requires.good c.requires.through c.requires.alike c.requires.there refl
    (implied_yes known (chain_at (checks_in a)) (checks_in a) c.args.effect.now a.lasts.now (changes_in a) b.names.now _ (c.plain_implied.ensures yes))

pub returns-in-LastNear-clause-alike : goal.returns-in-LastNear-clause-alike
returns-in-LastNear-clause-alike c = λ yes.
    let a = c.args.a.now in
    let b = c.args.b.now in
    let known = digest_of (checks_in a) in
    alike_next a b c.args.effect.now c.args.at first_check known c.requires.good c.requires.through c.requires.alike c.requires.there refl
    (near_yes known (chain_at (checks_in a)) (checks_in a) c.args.effect.now a.lasts.now (changes_in a) b.names.now _ c.in-LastNear.c c.in-LastNear.number c.in-LastNear.float c.in-LastNear.is (ap (λ (n : ℤ). last_bearing a.lasts.now c.in-LastNear.c n c.in-LastNear.float) (sym (to_z-of_z w16 c.in-LastNear.number (search rules))) ∙ c.near_implied.ensures yes))
