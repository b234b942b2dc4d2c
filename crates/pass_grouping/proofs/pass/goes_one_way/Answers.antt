use Rattle.std.proofs.Common.{refl, sym, ◌∙◌, arith}
use Rattle.std.proofs.lemmas.Bool.{true≢false}
use Rattle.std.proofs.lemmas.List.Elements.{pair_read}
use Rattle.pass_grouping.specs.Passes.{Follows}
use Rattle.pass_grouping.proofs.Passes.{goes-end, goes-last, goes-one, goes-shrink, goes-more, goes-pair}
use Rattle.pass_grouping.proofs.pass.goes_one_way.Goals as goal

pub loop-i-init : goal.loop-i-init
loop-i-init c = goes-one _ _ _ _ (omega arith)

pub loop-i-preserved : goal.loop-i-preserved
loop-i-preserved c =
    goes-more _ _ _ _ (omega arith) c.loop-i.invariant
    (pair_read c.args.ops.now (Follows c.args.way) _ _ c.index-ops-i.result c.index-ops-i-in-loop-i.result (omega arith) (omega arith) c.index-ops-i.is c.index-ops-i-in-loop-i.is (c.follows-in-loop-i.ensures.0 c.if-not-follows-2.false))

pub returns-then-not-follows : goal.returns-then-not-follows
returns-then-not-follows c = (
  λ passes. absurd (true≢false (sym passes)),
  λ goes. sym c.if-not-follows.true ∙ c.follows.ensures.1
      (goes-last _ _ _ _ c.index-ops-to.result c.index-ops-to-2.result c.requires.some c.requires.within c.index-ops-to.is c.index-ops-to-2.is goes),
)

pub returns-then-not-follows-2 : goal.returns-then-not-follows-2
returns-then-not-follows-2 c = (
  λ passes. absurd (true≢false (sym passes)),
  λ goes. sym c.if-not-follows-2.true ∙ c.follows-in-loop-i.ensures.1
      (goes-pair _ _ _ _ _ c.index-ops-i.result c.index-ops-i-in-loop-i.result (omega arith) (omega arith) c.requires.within c.index-ops-i.is c.index-ops-i-in-loop-i.is goes),
)

pub returns : goal.returns
returns c = (
  λ _. goes-end _ _ _ _ c.requires.some (goes-shrink _ _ _ _ _ _ (omega arith) (omega arith) c.loop-i.invariant)
      (pair_read c.args.ops.now (Follows c.args.way) _ _ c.index-ops-to.result c.index-ops-to-2.result (omega arith) c.requires.within c.index-ops-to.is c.index-ops-to-2.is (c.follows.ensures.0 c.if-not-follows.false)),
  λ _. refl,
)
