use Rattle.std.proofs.Common.{List, ℕ, Ok, Some, sym, ap, ◌∙◌, subst}
use Rattle.knit_base.specs.declared.setting.Setting.{Setting}
use Rattle.script_reader.specs.declared.command.Command.TheVariants as command
use Rattle.edit_book.specs.declared.reply.BookCommand.TheVariants as ask
use Rattle.edit_book.specs.Replies.{PutHead}
use Rattle.edit_book.specs.Turns.{AreFitAgain}
use Rattle.edit_sessions.specs.Shared.{shared_opening}
use Rattle.edit_sessions.proofs.Turns.{names_put, names_refused, names_seen}
use Rattle.edit_sessions.specs.Core.{document_core}
use Rattle.edit_sessions.proofs.Takes.{taken_turn}
use Rattle.turn_book.proofs.Takes.{taken_behind}
use Rattle.turn_book.specs.Passes.{view_of}
use Rattle.edit_sessions.proofs.head.put_head.Goals as goal
use Rattle.edit_sessions.proofs.head.put_head.Goals.{in-Accepted, in_default-reply}

pub turn-reply-requires-clause-fits : goal.turn-reply-requires-clause-fits
turn-reply-requires-clause-fits g c = let o = shared_opening c.args.shared.now in let seen = (view_of c.all_texts.new.pass).seen in
    subst (λ (names : List (List ℕ)). AreFitAgain o seen names c.in-Ok-summarised.again) (c.in-Ok.ensures ∙ sym c.in-Ok-try_clone.ensures)
    (c.in-Ok-summarised.ensures.fits o seen c.requires.setting c.in-Some.ensures.given)

pub returns-clause-names : goal.returns-clause-names
returns-clause-names g c = λ had.
    let o = shared_opening c.args.shared.now in let v = view_of c.args.pass.now in let u = view_of c.all_texts.new.pass in let w = view_of c.turn-reply.new.pass in
    let names = c.in-Ok-try_clone.declared in let again = c.in-Ok-summarised.again in elim c.match-reply.branch [
      | in-Accepted a ↦
          names_put o c.args.number c.turn-reply.result _ u w c.args.seen c.args.declared.now names again a.in-Accepted.version a.in-Accepted.block a.in-Accepted.brief a.in-Accepted.is c.turn-reply.ensures.turned
          ∙ ap Some (c.in-Ok-try_clone.ensures ∙ (sym c.in-Ok.ensures ∙ sym (ap (λ (s : Setting). s.declared) a.header-is)))
      | in_default-reply a ↦
          names_refused o c.args.number c.turn-reply.result _ u w c.args.seen c.args.declared.now names c.args.header.now.declared again (λ version block brief. a.in_default-reply.not-Accepted version block brief) c.turn-reply.ensures.turned
          (names_seen o v u c.args.seen c.args.header.now.declared c.all_texts.ensures.more had)
          ∙ ap Some (sym (ap (λ (s : Setting). s.declared) a.header-is))
    ]

pub returns-clause-taken : goal.returns-clause-taken
returns-clause-taken g c = λ m head.
    let o = shared_opening c.args.shared.now in let u = view_of c.all_texts.new.pass in let w = view_of c.turn-reply.new.pass in
    let put = command.PutHead c.args.declared.now in
    taken_behind (document_core o) c.args.number m put c.turn-reply.result (view_of c.args.pass.now) u w c.all_texts.ensures.more
    (taken_turn o c.args.number m put c.turn-reply.result u w (ask.PutHead c.args.seen c.in-Ok-try_clone.declared c.in-Ok-summarised.again) _ (λ i. Ok (PutHead (head i) (sym c.in-Ok-try_clone.ensures i))) c.turn-reply.ensures.turned)
