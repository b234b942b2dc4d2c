use Rattle.std.proofs.Common.{rules, Some, refl, sym, subst, w16}
use Rattle.std.proofs.lemmas.Int.{to_z-of_z}
use Rattle.std.proofs.lemmas.Option.{MatchOption-at_none, MatchOption-at_some}
use Rattle.knit_base.specs.declared.instr.Instr.{Instr}
use Rattle.knit_base.specs.declared.instr.Read.TheVariants as read
use Rattle.face_data.specs.Conditions.Ask.{last_near}
use Rattle.face_data.specs.Summaries.{Summary}
use Rattle.block_summary.specs.declared.line.DraftedLineEnd.TheVariants.{GoesOn}
use Rattle.block_summary.specs.DraftKnowledge.{AreNearIn, HoldsAfter}
use Rattle.block_summary.specs.LineEnds.{EndsAs}
use Rattle.block_summary.proofs.draft.Draft.any_knit.Goals as goal

pub first_knit-requires-clause-near : goal.first_knit-requires-clause-near
first_knit-requires-clause-near c =
    let near : AreNearIn c.args.self.now c.args.profile.now.float c.args.n c.args.yarns.now =
    λ float x limited there. subst (λ at. HoldsAfter c.args.self.now (last_near x at float)) (to_z-of_z w16 c.args.n.at (search rules))
    (c.knows_each_near.ensures c.if-not-knows_each_near.false float x limited there) in
    subst (λ (s : Summary). AreNearIn s c.args.profile.now.float c.args.n c.args.yarns.now) (sym (MatchOption-at_none _ _ c.in-None.is c.in_ok-formed.ensures)) near

pub returns-in-Some : goal.returns-in-Some
returns-in-Some c =
    let profile = c.args.profile.now in
    let near : AreNearIn c.args.self.now profile.float c.args.n c.args.yarns.now =
    λ float x limited there. subst (λ at. HoldsAfter c.args.self.now (last_near x at float)) (to_z-of_z w16 c.args.n.at (search rules))
    (c.knows_each_near.ensures c.if-not-knows_each_near.false float x limited there) in
    let ends = MatchOption-at_some _ _ c.in-Some.formed c.in-Some.is c.in_ok-formed.ensures in
    subst (λ (i : Instr). EndsAs profile (read.Instr i) c.args.self.now c.usual_knit.new.self (GoesOn (Some c.in-Some.formed))) (sym c.requires.knit) (ends profile refl near)
