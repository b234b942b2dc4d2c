use Rattle.std.proofs.Common.{List, ℕ, Ok, Some, sym, ap, ◌∙◌, subst}
use Rattle.knit_base.specs.declared.setting.Setting.{Setting}
use Rattle.script_reader.specs.declared.command.Command.TheVariants as command
use Rattle.edit_book.specs.declared.reply.BookCommand.TheVariants as ask
use Rattle.edit_book.specs.Replies.{PutHead}
use Rattle.edit_book.specs.Turns.{AreFitAgain}
use Rattle.edit_groups.specs.Chunks.{entries_of_chunks}
use Rattle.edit_groups.specs.Shared.{group_book_opening}
use Rattle.edit_groups.proofs.OneHeard.{heard_behind, heard_short, heard_turn, heard_unnamed}
use Rattle.edit_groups.proofs.OneTurns.{names_put, names_refused, names_seen}
use Rattle.turn_book.specs.Passes.{view_of}
use Rattle.edit_groups.proofs.session.header.put_head.Goals as goal
use Rattle.edit_groups.proofs.session.header.put_head.Goals.{in-Accepted, in_default-reply}

pub turn_one-reply-requires-clause-fits : goal.turn_one-reply-requires-clause-fits
turn_one-reply-requires-clause-fits g c = let o = group_book_opening c.args.shared.now in let seen = entries_of_chunks (view_of c.all_texts.new.pass).seen in
    subst (λ (names : List (List ℕ)). AreFitAgain o seen names c.in-Ok-summarised.again) (c.in-Ok.ensures ∙ sym c.in-Ok-try_clone.ensures)
    (c.in-Ok-summarised.ensures.fits o seen c.requires.setting c.in-Some.ensures.given)

pub returns-clause-range : goal.returns-clause-range
returns-clause-range g c = (c.turn_one-reply.ensures.turned.first ∙ c.all_texts.ensures.more.first, c.turn_one-reply.ensures.turned.past ∙ c.all_texts.ensures.more.past)

pub returns-in_default-all_texts-clause-range : goal.returns-in_default-all_texts-clause-range
returns-in_default-all_texts-clause-range g c = (c.all_texts.ensures.more.first, c.all_texts.ensures.more.past)

pub returns-in_default-summarised-clause-range : goal.returns-in_default-summarised-clause-range
returns-in_default-summarised-clause-range g c = (c.all_texts.ensures.more.first, c.all_texts.ensures.more.past)

pub returns-clause-names : goal.returns-clause-names
returns-clause-names g c = λ had.
    let o = group_book_opening c.args.shared.now in let v = view_of c.args.pass.now in let u = view_of c.all_texts.new.pass in let w = view_of c.turn_one-reply.new.pass in
    let names = c.in-Ok-try_clone.declared in let again = c.in-Ok-summarised.again in elim c.match-reply.branch [
      | in-Accepted a ↦
          names_put o c.args.number c.turn_one-reply.result u w c.args.seen c.args.declared.now names again a.in-Accepted.version a.in-Accepted.block a.in-Accepted.brief a.in-Accepted.is c.turn_one-reply.ensures.turned
          ∙ ap Some (c.in-Ok-try_clone.ensures ∙ (sym c.in-Ok.ensures ∙ sym (ap (λ (s : Setting). s.declared) a.header-is)))
      | in_default-reply a ↦
          names_refused o c.args.number c.turn_one-reply.result u w c.args.seen c.args.declared.now names c.args.header.now.declared again (λ version block brief. a.in_default-reply.not-Accepted version block brief) c.turn_one-reply.ensures.turned
          (names_seen o v u c.args.seen c.args.header.now.declared c.all_texts.ensures.more had)
          ∙ ap Some (sym (ap (λ (s : Setting). s.declared) a.header-is))
    ]

pub returns-clause-heard : goal.returns-clause-heard
returns-clause-heard g c = λ m head.
    let o = group_book_opening c.args.shared.now in let u = view_of c.all_texts.new.pass in let w = view_of c.turn_one-reply.new.pass in
    let put = command.PutHead c.args.declared.now in
    heard_behind o c.args.number m put c.turn_one-reply.result (view_of c.args.pass.now) u w c.all_texts.ensures.more
    (heard_turn o c.args.number m put c.turn_one-reply.result u w (ask.PutHead c.args.seen c.in-Ok-try_clone.declared c.in-Ok-summarised.again) (λ i. Ok (PutHead (head i) (sym c.in-Ok-try_clone.ensures i))) c.turn_one-reply.ensures.turned)

pub returns-in_default-clause-heard : goal.returns-in_default-clause-heard
returns-in_default-clause-heard g c = λ m head. heard_short (group_book_opening c.args.shared.now) c.args.number m (command.PutHead c.args.declared.now) (view_of c.args.pass.now)

pub returns-in_default-try_clone-clause-heard : goal.returns-in_default-try_clone-clause-heard
returns-in_default-try_clone-clause-heard g c = λ m head. heard_short (group_book_opening c.args.shared.now) c.args.number m (command.PutHead c.args.declared.now) (view_of c.args.pass.now)

pub returns-in_default-all_texts-clause-names : goal.returns-in_default-all_texts-clause-names
returns-in_default-all_texts-clause-names g c = λ had. names_seen (group_book_opening c.args.shared.now) (view_of c.args.pass.now) (view_of c.all_texts.new.pass) c.args.seen c.args.header.now.declared c.all_texts.ensures.more had

pub returns-in_default-all_texts-clause-heard : goal.returns-in_default-all_texts-clause-heard
returns-in_default-all_texts-clause-heard g c = λ m head.
    heard_unnamed (group_book_opening c.args.shared.now) c.args.number m (command.PutHead c.args.declared.now) (view_of c.args.pass.now) (view_of c.all_texts.new.pass) c.all_texts.ensures.more

pub returns-in_default-summarised-clause-names : goal.returns-in_default-summarised-clause-names
returns-in_default-summarised-clause-names g c = λ had. names_seen (group_book_opening c.args.shared.now) (view_of c.args.pass.now) (view_of c.all_texts.new.pass) c.args.seen c.args.header.now.declared c.all_texts.ensures.more had

pub returns-in_default-summarised-clause-heard : goal.returns-in_default-summarised-clause-heard
returns-in_default-summarised-clause-heard g c = λ m head.
    heard_unnamed (group_book_opening c.args.shared.now) c.args.number m (command.PutHead c.args.declared.now) (view_of c.args.pass.now) (view_of c.all_texts.new.pass) c.all_texts.ensures.more
