use Rattle.std.proofs.Common.{◌≡◌, ℕ, ◌+◌, nat_le, true, false, length, subst, ap, sym, ◌∙◌, arith}
use Rattle.edit_journal.specs.Documents.{body}
use Rattle.edit_book.specs.Outlines.{OutlineView, outline_document}
use Rattle.edit_book.proofs.Comings.{add_full, add_over, add_yes}
use Rattle.edit_book.proofs.outline.Outline.may_add.Goals as goal

pub returns-then-len-ge65536-clause-not : goal.returns-then-len-ge65536-clause-not
returns-then-len-ge65536-clause-not c = λ text long no comes. add_full c.args.self.now c.args.anchor c.args.block text (let full = c.if-len-ge65536.true in omega (arith, full, c.len.ensures)) comes

pub returns-clause-yes : goal.returns-clause-yes
returns-clause-yes c = λ text long enough.
    add_yes c.args.self.now c.ids.ensures.lawful (let early = c.if-version-ge1048576.false in omega (arith, early, c.version.ensures.version)) c.args.anchor c.args.block c.self.inside.lines text
    (c.if-block-ids.false ∙ c.ids.ensures.ids) (c.has_anchor.ensures.yes c.if-not-has_anchor.false) (let few = c.if-len-ge65536.false in omega (arith, few, c.len.ensures))
    (c.self.invariant.0.lines ∙ ap (λ (w : OutlineView). length (body (outline_document w))) c.self.view_is) (subst (λ (n : ℕ). nat_le (c.self.inside.lines + n) 1048576 ≡ true) (sym long) enough)

pub returns-clause-not : goal.returns-clause-not
returns-clause-not c = λ text long over comes.
    add_over c.args.self.now c.args.anchor c.args.block c.self.inside.lines text (c.self.invariant.0.lines ∙ ap (λ (w : OutlineView). length (body (outline_document w))) c.self.view_is)
    (subst (λ (n : ℕ). nat_le (c.self.inside.lines + n) 1048576 ≡ false) (sym long) over) comes
