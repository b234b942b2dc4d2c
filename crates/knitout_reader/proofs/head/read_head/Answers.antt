use Rattle.std.proofs.Common.{◌≡◌, ◌<◌, ◌≤◌, ℕ, List, [], length, take, drop, false, subst, sym, arith, append-nil, ◌∙◌, ap, take-append-drop}
use Rattle.std.proofs.lemmas.List.{take_all}
use Rattle.std.proofs.lemmas.Result.{IfErr-weaker, IfOk-weaker}
use Rattle.knitout_reader.specs.Head.{is_head_line, IsHead, IsHeadFault}
use Rattle.knitout_reader.specs.HeadLines.{AreBehindHead, HasHeadLines}
use Rattle.knitout_reader.proofs.HeadsByLines.{behind_part}
use Rattle.knitout_reader.proofs.head.read_head.Goals as goal

pub returns-then-not-branch-clause-head : goal.returns-then-not-branch-clause-head
returns-then-not-branch-clause-head c =
    let ended = c.in_ok-take.ensures.ended c.if-not-branch.true in
    let read : HasHeadLines (take c.loop-i.i c.args.lines.now) c.take.new.self = subst (HasHeadLines (take c.loop-i.i c.args.lines.now)) (sym ended.0) c.loop-i.invariant in
    let behind : AreBehindHead (drop c.loop-i.i c.args.lines.now) = behind_part c.args.lines.now c.loop-i.i c.nth_line.result.now (omega (arith, c.loop-i-test.true, c.len-i-end.ensures.len)) c.nth_line.ensures.text ended.2 in
    IfOk-weaker c.finish.result _ _
    (λ head is. subst (λ ls. IsHead ls head) (take-append-drop c.loop-i.i c.args.lines.now) (is (take c.loop-i.i c.args.lines.now) (drop c.loop-i.i c.args.lines.now) read behind))
    c.finish.ensures.head

pub returns-then-not-branch-clause-fault : goal.returns-then-not-branch-clause-fault
returns-then-not-branch-clause-fault c =
    let ended = c.in_ok-take.ensures.ended c.if-not-branch.true in
    let read : HasHeadLines (take c.loop-i.i c.args.lines.now) c.take.new.self = subst (HasHeadLines (take c.loop-i.i c.args.lines.now)) (sym ended.0) c.loop-i.invariant in
    let behind : AreBehindHead (drop c.loop-i.i c.args.lines.now) = behind_part c.args.lines.now c.loop-i.i c.nth_line.result.now (omega (arith, c.loop-i-test.true, c.len-i-end.ensures.len)) c.nth_line.ensures.text ended.2 in
    IfErr-weaker c.finish.result _ _
    (λ fault is. subst (λ ls. IsHeadFault ls fault) (take-append-drop c.loop-i.i c.args.lines.now) (is (take c.loop-i.i c.args.lines.now) (drop c.loop-i.i c.args.lines.now) read behind))
    c.finish.ensures.fault

pub returns-clause-head : goal.returns-clause-head
returns-clause-head c =
    let all : take c.loop-i.i c.args.lines.now ≡ c.args.lines.now = take_all c.loop-i.i c.args.lines.now (omega (arith, c.loop-i-test.false, c.len-i-end.ensures.len)) in
    let read : HasHeadLines c.args.lines.now c.loop-i.reader = subst (λ ls. HasHeadLines ls c.loop-i.reader) all c.loop-i.invariant in
    IfOk-weaker c.finish-2.result _ _ (λ head is. subst (λ ls. IsHead ls head) (append-nil c.args.lines.now) (is c.args.lines.now [] read tt)) c.finish-2.ensures.head

pub returns-clause-fault : goal.returns-clause-fault
returns-clause-fault c =
    let all : take c.loop-i.i c.args.lines.now ≡ c.args.lines.now = take_all c.loop-i.i c.args.lines.now (omega (arith, c.loop-i-test.false, c.len-i-end.ensures.len)) in
    let read : HasHeadLines c.args.lines.now c.loop-i.reader = subst (λ ls. HasHeadLines ls c.loop-i.reader) all c.loop-i.invariant in
    IfErr-weaker c.finish-2.result _ _ (λ fault is. subst (λ ls. IsHeadFault ls fault) (append-nil c.args.lines.now) (is c.args.lines.now [] read tt)) c.finish-2.ensures.fault
