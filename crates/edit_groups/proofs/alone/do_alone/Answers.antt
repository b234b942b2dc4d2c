use Rattle.std.proofs.Common.{◌≡◌, ◌∙◌, ap, refl, sym, arith}
use Rattle.edit_groups.specs.Shared.{group_book_opening}
use Rattle.edit_groups.proofs.AnsweredAlone.{answered_whole}
use Rattle.turn_book.specs.Passes.{view_of}
use Rattle.edit_groups.proofs.alone.do_alone.Goals as goal

pub do_step-reply-requires-clause-number : goal.do_step-reply-requires-clause-number
do_step-reply-requires-clause-number g c κs within = (let low = c.requires.whole.0 in omega (arith, low), c.requires.number)

pub returns : goal.returns
returns g c =
    let o = group_book_opening c.args.shared.now in let v = view_of c.args.pass.now in let u = view_of c.do_step-reply.new.pass in let w = view_of c.newest.new.pass in
    let s = c.args.session.now in
    let counts : u.count ≡ v.count = c.do_step-reply.ensures.of_this.2 ∙ sym c.requires.of_this.2 in
    let low : u.first ≡ 0 = c.do_step-reply.ensures.range.0 ∙ c.requires.whole.0 in
    let high : u.past ≡ u.count = c.do_step-reply.ensures.range.1 ∙ c.requires.whole.1 ∙ sym counts in
    let seen = c.newest.ensures.seen in
    record {
      of_this = c.newest.ensures.of_this;
      whole = (ap (λ x. x.first) seen ∙ low, ap (λ x. x.past) seen ∙ high ∙ sym (ap (λ x. x.count) seen));
      number = c.do_step-reply.ensures.number;
      answered = λ m at.
          answered_whole o s.session.number m c.args.step.now c.do_step-reply.result v u w.seen s c.do_step-reply.new.session c.requires.whole.0 c.requires.whole.1 low high counts c.newest.ensures.catches refl at
          (c.do_step-reply.ensures.done m at.remembers);
    }
