use Rattle.std.proofs.Common.{sym, ◌∙◌, arith}
use Rattle.std.proofs.lemmas.Bool.{true≢false}
use Rattle.std.proofs.lemmas.List.Elements.{pair_read}
use Rattle.pass_grouping.specs.Passes.{Follows}
use Rattle.pass_grouping.proofs.Passes.{goes-one, goes-shrink, goes-more, goes-pair}
use Rattle.pass_grouping.proofs.pass.run_end.Goals as goal

pub loop-last-init : goal.loop-last-init
loop-last-init c = goes-one _ _ _ _ (omega arith)

pub loop-last-preserved : goal.loop-last-preserved
loop-last-preserved c =
    goes-more _ _ _ _ (omega arith) c.loop-last.invariant
    (pair_read c.args.ops.now (Follows c.args.way) _ _ c.index-ops-last.result c.index-ops-last-in-loop-last.result (omega arith) (omega arith) c.index-ops-last.is c.index-ops-last-in-loop-last.is (c.follows.ensures.0 c.if-not-follows.false))

pub returns-then-not-follows : goal.returns-then-not-follows
returns-then-not-follows c = record {
  some = omega arith;
  within = omega arith;
  pass = goes-shrink _ _ _ _ _ _ (omega arith) (omega arith) c.loop-last.invariant;
  longest = λ to past inside goes. absurd (true≢false (sym (c.follows.ensures.1
      (goes-pair _ _ _ to c.loop-last.last c.index-ops-last.result c.index-ops-last-in-loop-last.result (omega arith) (omega arith) inside c.index-ops-last.is c.index-ops-last-in-loop-last.is goes)) ∙ c.if-not-follows.true));
}

pub returns : goal.returns
returns c = record {
  some = c.requires;
  within = omega arith;
  pass = goes-shrink _ _ _ _ _ _ (omega arith) (omega arith) c.loop-last.invariant;
  longest = λ to past inside goes. absurd (omega arith);
}
