use Rattle.std.proofs.Common.{arith, ap, sym, ◌∙◌, ◌++◌, ◌∷◌, [], take}
use Rattle.std.proofs.lemmas.List.{take_more}
use Rattle.turn_book.specs.Passes.{view_of}
use Rattle.edit_sessions.specs.Shared.{shared_opening}
use Rattle.edit_sessions.proofs.Talked.{session_begins, session_goes_on}
use Rattle.edit_sessions.proofs.run.talk.Goals as goal

pub loop-i-init : goal.loop-i-init
loop-i-init g c = record {
  of_this = c.requires.of_this;
  room = c.requires.ready.room;
  so_far =
      session_begins (shared_opening c.args.shared.now) c.args.script.now (view_of c.args.pass.now) c.args.talk.now.session c.args.talk.now.replies.items (let range = c.requires.range in omega arith)
      c.requires.ready.number c.requires.ready.remembers c.requires.ready.names c.requires.ready.empty;
}

pub loop-i-preserved : goal.loop-i-preserved
loop-i-preserved g c = record {
  of_this = c.do_command-reply.ensures.of_this;
  room = rw c.push_reserved.ensures.capacity c.loop-i.invariant.room;
  so_far =
      session_goes_on (shared_opening c.args.shared.now) c.args.script.now c.loop-i.i (view_of c.args.pass.now) (view_of c.loop-i.pass) (view_of c.do_command-reply.new.pass) c.loop-i.session c.do_command-reply.new.session
      c.loop-i.replies.items c.push_reserved.new.self.items c.index-script-i.result c.do_command-reply.result c.loop-i-test.true (let range = c.requires.range in omega arith) c.loop-i.invariant.so_far
      (take_more c.args.script.now c.loop-i.i c.index-script-i.result c.loop-i-test.true ∙ ap (λ x. take c.loop-i.i c.args.script.now ++ x ∷ []) (sym c.index-script-i.is))
      c.do_command-reply.ensures.number c.do_command-reply.ensures.names c.do_command-reply.ensures.taken c.do_command-reply.ensures.learned c.push_reserved.ensures.items;
}
