use Rattle.std.proofs.Common.{ℕ, List, [], Option, ap, sym, ◌∙◌, unwrap_or}
use Rattle.std.specs.Option.{option_copied}
use Rattle.std.proofs.lemmas.Result.{IfOk-weaker}
use Rattle.edit_book.proofs.Looks.{line_inside, line_is, no_id, no_line, no_text}
use Rattle.edit_book.proofs.Boxes.{place_of}
use Rattle.edit_book.proofs.book.Book.line_text.Goals as goal

pub returns-in_default-clause-text : goal.returns-in_default-clause-text
returns-in_default-clause-text g c =
    let none = no_line _ _ c.args.offset c.args.self.now _ _ c.self.invariant c.self.view_is (sym (place_of _ _ c.deref.ensures c.args.offset _ c.leaf_of_line.ensures) ∙ c.in_default.is) in
    IfOk-weaker c.of.result _ _ (λ text is. is ∙ sym (ap (λ (o : Option (List ℕ)). unwrap_or o []) none)) c.of.ensures

pub unreachable-requires : goal.unreachable-requires
unreachable-requires g c =
    no_id _ _ c.args.offset c.in-Some.at c.in-Some.within c.args.self.now _ _ c.self.invariant c.self.view_is (sym (place_of _ _ c.deref.ensures c.args.offset _ c.leaf_of_line.ensures) ∙ c.in-Some.is) (sym c.id_at.ensures ∙ c.in_default-id_at.is)

pub unreachable-requires-in_default-text_of : goal.unreachable-requires-in_default-text_of
unreachable-requires-in_default-text_of g c =
    no_text _ _ c.args.offset c.in-Some.at c.in-Some.within c.args.self.now _ _ c.self.invariant c.self.view_is (sym (place_of _ _ c.deref.ensures c.args.offset _ c.leaf_of_line.ensures) ∙ c.in-Some.is) c.in-Some-id_at.id
    (sym c.id_at.ensures ∙ c.in-Some-id_at.is) (sym c.text_of.ensures.text ∙ ap option_copied c.in_default-text_of.is)

pub line-requires : goal.line-requires
line-requires g c =
    line_inside _ _ c.args.offset c.in-Some.at c.in-Some.within c.args.self.now _ _ c.self.invariant c.self.view_is (sym (place_of _ _ c.deref.ensures c.args.offset _ c.leaf_of_line.ensures) ∙ c.in-Some.is) c.in-Some-id_at.id c.in-Some-text_of.text.now
    (sym c.id_at.ensures ∙ c.in-Some-id_at.is) (sym (ap option_copied c.in-Some-text_of.is) ∙ c.text_of.ensures.text)

pub returns-clause-text : goal.returns-clause-text
returns-clause-text g c =
    let there = line_is _ _ c.args.offset c.in-Some.at c.in-Some.within c.args.self.now _ _ c.self.invariant c.self.view_is (sym (place_of _ _ c.deref.ensures c.args.offset _ c.leaf_of_line.ensures) ∙ c.in-Some.is) c.in-Some-id_at.id c.in-Some-text_of.text.now
    c.line.result.now (sym c.id_at.ensures ∙ c.in-Some-id_at.is) (sym (ap option_copied c.in-Some-text_of.is) ∙ c.text_of.ensures.text) c.line.ensures.line in
    IfOk-weaker c.of-2.result _ _ (λ text is. is ∙ sym (ap (λ (o : Option (List ℕ)). unwrap_or o []) there)) c.of-2.ensures
