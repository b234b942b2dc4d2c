use Rattle.std.proofs.Common.{◌≡◌, ⊎_elim, sym, subst}
use Rattle.edit_book.specs.declared.reply.Reply.{Reply}
use Rattle.edit_groups.specs.Shared.{group_book_opening}
use Rattle.edit_groups.specs.Turns.{IsOneTurn}
use Rattle.edit_groups.proofs.OneTurns.{one_or_other, one_turn, short_turn}
use Rattle.turn_book.specs.Passes.{view_of}
use Rattle.edit_groups.proofs.session.one.turn_one.Goals as goal

pub returns-clause-turned : goal.returns-clause-turned
returns-clause-turned g c =
    let o = group_book_opening c.args.shared.now in let v = view_of c.args.pass.now in let w = view_of c.turn-told.new.pass in let told = c.turn-told.result in
    ⊎_elim
    (λ one. subst (λ (x : Reply). IsOneTurn o c.args.number c.args.command x v w) (sym (c.one_in.ensures.one one.0 one.1)) (one_turn o c.args.number c.args.command told _ v w one.0 one.1 c.turn-told.ensures.turned))
    (λ other. subst (λ (x : Reply). IsOneTurn o c.args.number c.args.command x v w) (sym (c.one_in.ensures.other other)) (short_turn o c.args.number c.args.command told _ v w other c.turn-told.ensures.turned))
    (one_or_other told.reply)
