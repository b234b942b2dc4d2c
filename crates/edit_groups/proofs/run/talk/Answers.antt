use Rattle.std.proofs.Common.{arith, ap, sym, ◌∙◌, ◌++◌, ◌∷◌, [], take}
use Rattle.std.proofs.lemmas.List.{take_all, take_more}
use Rattle.script_reader.specs.Groups.{is_lawful_step}
use Rattle.turn_book.specs.Passes.{view_of}
use Rattle.edit_groups.specs.Shared.{group_book_opening}
use Rattle.edit_groups.proofs.GroupAsked.{all_got}
use Rattle.edit_groups.proofs.SessionRuns.{session_begins, session_ends, session_goes_on}
use Rattle.edit_groups.proofs.run.talk.Goals as goal

pub loop-i-init : goal.loop-i-init
loop-i-init g c = record {
  of_this = c.requires.of_this;
  room = c.requires.ready.room;
  so_far =
      session_begins (group_book_opening c.args.shared.now) c.args.script.now (view_of c.args.pass.now) c.args.talk.now.session c.args.talk.now.replies.items (let range = c.requires.range in omega arith)
      c.requires.ready.number c.requires.ready.stands c.requires.ready.empty;
}

pub do_step-reply-requires-clause-step : goal.do_step-reply-requires-clause-step
do_step-reply-requires-clause-step g c κs within = ap is_lawful_step c.index-script-i.is ∙ all_got is_lawful_step c.args.script.now c.loop-i.i c.index-script-i.result c.requires.ready.lawful c.loop-i-test.true

pub loop-i-preserved : goal.loop-i-preserved
loop-i-preserved g c = record {
  of_this = c.do_step-reply.ensures.of_this;
  room = rw c.push_reserved.ensures.capacity c.loop-i.invariant.room;
  so_far =
      session_goes_on (group_book_opening c.args.shared.now) c.args.script.now c.loop-i.i (view_of c.args.pass.now) (view_of c.loop-i.pass) (view_of c.do_step-reply.new.pass) c.loop-i.session c.do_step-reply.new.session
      c.loop-i.replies.items c.push_reserved.new.self.items c.index-script-i.result c.do_step-reply.result c.loop-i-test.true (let range = c.requires.range in omega arith) c.loop-i.invariant.so_far
      (take_more c.args.script.now c.loop-i.i c.index-script-i.result c.loop-i-test.true ∙ ap (λ x. take c.loop-i.i c.args.script.now ++ x ∷ []) (sym c.index-script-i.is))
      c.do_step-reply.ensures.number c.do_step-reply.ensures.done c.push_reserved.ensures.items;
}

pub returns-clause-heard : goal.returns-clause-heard
returns-clause-heard g c = λ fresh.
    session_ends (group_book_opening c.args.shared.now) c.args.script.now c.loop-i.i (view_of c.args.pass.now) (view_of c.loop-i.pass) c.loop-i.session c.loop-i.replies.items
    (take_all c.loop-i.i c.args.script.now c.loop-i-test.false) c.loop-i.invariant.so_far fresh
