-- Each condition read is one step of the definition.
use Rattle.std.proofs.Common.{◌∙◌, ap, arith, refl, sym}
use Rattle.face_data.specs.Chains.{chain_at}
use Rattle.face_data.specs.Digests.{digest_of}
use Rattle.summary_compose.specs.Changes.{changes_in}
use Rattle.summary_compose.specs.Known.{checks_in, notes_of}
use Rattle.summary_compose.proofs.Answers.{plain_step}
use Rattle.summary_compose.proofs.Readings.{first_check, next_room, reads_begin, reads_on, reads_stop, reads_end}
use Rattle.summary_compose.proofs.reading.read_checks.Goals as goal

pub loop-i-init : goal.loop-i-init
loop-i-init c = record {
  reads = reads_begin c.args.a.now c.args.b.now c.args.effect.now c.args.start c.args.kept.now.checks c.args.digest.now (notes_of (checks_in c.args.a.now)) c.requires.good c.requires.alike c.requires.begun
      (record { digest_is = c.requires.digest ∙ ap digest_of (sym c.requires.begun); notes_are = ap notes_of (sym c.requires.begun) });
  check_room = refl;
  name_room = refl;
}

pub returns-then-not-ask_plain-clause-read : goal.returns-then-not-ask_plain-clause-read
returns-then-not-ask_plain-clause-read c =
    reads_stop c.args.a.now c.args.b.now c.args.effect.now c.loop-i.i _ c.loop-i.kept.checks c.ask_plain.new.kept.checks c.loop-i.digest (notes_of (checks_in c.args.a.now)) c.raised-fault.result c.ask_plain.result c.requires.good c.requires.through
    c.loop-i.invariant.reads c.loop-i-test.true c.if-not-ask_plain.true c.raised-fault.ensures
    (plain_step c.loop-i.digest (chain_at c.loop-i.kept.checks) c.args.effect.now c.args.a.now.lasts.now (changes_in c.args.a.now) c.args.b.now.names.now _ c.loop-i.kept.checks c.ask_plain.new.kept.checks c.raised-fault.result c.ask_plain.result
    (c.is_plain.ensures c.if-is_plain.true) c.ask_plain.ensures.step)

pub loop-i-preserved : goal.loop-i-preserved
loop-i-preserved c = record {
  reads = reads_on c.args.a.now c.args.b.now c.args.effect.now c.loop-i.i _ c.loop-i.kept.checks c.ask_plain.new.kept.checks c.loop-i.digest c.ask_plain.new.digest (notes_of (checks_in c.args.a.now)) (notes_of (checks_in c.args.a.now)) c.raised-fault.result c.ask_plain.result
      c.requires.good c.requires.through c.loop-i.invariant.reads c.loop-i-test.true c.if-not-ask_plain.false c.raised-fault.ensures
      (plain_step c.loop-i.digest (chain_at c.loop-i.kept.checks) c.args.effect.now c.args.a.now.lasts.now (changes_in c.args.a.now) c.args.b.now.names.now _ c.loop-i.kept.checks c.ask_plain.new.kept.checks c.raised-fault.result c.ask_plain.result
      (c.is_plain.ensures c.if-is_plain.true) c.ask_plain.ensures.step)
      (c.ask_plain.ensures.knows (notes_of (checks_in c.args.a.now)) c.loop-i.invariant.reads.knows c.if-not-ask_plain.false);
  check_room = c.ask_plain.ensures.check_room ∙ c.loop-i.invariant.check_room;
  name_room = c.ask_plain.ensures.name_room ∙ c.loop-i.invariant.name_room;
}

pub returns-then-i-b-clause-read : goal.returns-then-i-b-clause-read
returns-then-i-b-clause-read c =
    reads_end c.args.a.now c.args.b.now c.args.effect.now c.loop-i.i c.loop-i.kept.checks c.loop-i.digest (notes_of (checks_in c.args.a.now)) c.loop-i.invariant.reads c.if-i-b.true

pub ask-requires-clause-name_room : goal.ask-requires-clause-name_room
ask-requires-clause-name_room c =
    let room = next_room c.args.a.now c.args.b.now c.args.effect.now c.loop-i-2.i first_check c.loop-i-2.kept.checks c.loop-i-2.digest c.loop-i-2.index.notes c.loop-i-2.invariant.reads c.loop-i-2-test.true in
    omega (arith, room, c.requires.name_room, c.loop-i-2.invariant.name_room)

pub ask-requires-clause-index_room : goal.ask-requires-clause-index_room
ask-requires-clause-index_room c =
    let room = next_room c.args.a.now c.args.b.now c.args.effect.now c.loop-i-2.i first_check c.loop-i-2.kept.checks c.loop-i-2.digest c.loop-i-2.index.notes c.loop-i-2.invariant.reads c.loop-i-2-test.true in
    omega (arith, room, c.requires.index_room, c.loop-i-2.invariant.index_room)

pub returns-then-not-ask-clause-read : goal.returns-then-not-ask-clause-read
returns-then-not-ask-clause-read c =
    reads_stop c.args.a.now c.args.b.now c.args.effect.now c.loop-i-2.i _ c.loop-i-2.kept.checks c.ask.new.kept.checks c.loop-i-2.digest c.loop-i-2.index.notes c.raised-fault-in-loop-i-2.result c.ask.result c.requires.good c.requires.through
    c.loop-i-2.invariant.reads c.loop-i-2-test.true c.if-not-ask.true c.raised-fault-in-loop-i-2.ensures c.ask.ensures.step

pub loop-i-2-preserved : goal.loop-i-2-preserved
loop-i-2-preserved c = record {
  reads = reads_on c.args.a.now c.args.b.now c.args.effect.now c.loop-i-2.i _ c.loop-i-2.kept.checks c.ask.new.kept.checks c.loop-i-2.digest c.ask.new.digest c.loop-i-2.index.notes c.ask.new.index.notes c.raised-fault-in-loop-i-2.result c.ask.result
      c.requires.good c.requires.through c.loop-i-2.invariant.reads c.loop-i-2-test.true c.if-not-ask.false c.raised-fault-in-loop-i-2.ensures c.ask.ensures.step (c.ask.ensures.knows c.if-not-ask.false);
  check_room = c.ask.ensures.check_room ∙ c.loop-i-2.invariant.check_room;
  name_room = c.ask.ensures.name_room ∙ c.loop-i-2.invariant.name_room;
  index_room = c.ask.ensures.index_room ∙ c.loop-i-2.invariant.index_room;
}

pub returns-clause-read : goal.returns-clause-read
returns-clause-read c = reads_end c.args.a.now c.args.b.now c.args.effect.now c.loop-i-2.i c.loop-i-2.kept.checks c.loop-i-2.digest c.loop-i-2.index.notes c.loop-i-2.invariant.reads c.loop-i-2-test.false
