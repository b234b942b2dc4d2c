use Rattle.std.proofs.Common.{◌≡◌, ◌∙◌, sym, ap, subst, List, Option, Some, map, string_bytes}
use Rattle.std.proofs.lemmas.Bool.{true≢false}
use Rattle.std.specs.Prelude.{unwrap_or}
use Rattle.command_words.specs.Grammar.{Item}
use Rattle.command_words.specs.Given.{IsGivenByItems}
use Rattle.command_words.proofs.Agreement.{lawful_from, read_from, taken_from, test_from}
use Rattle.command_words.proofs.given.read_words.Goals as goal

-- the items are one list
same_items : {xs ys : List Item} {o : Option (List Item)} → o ≡ Some xs → o ≡ Some ys → xs ≡ ys
same_items {xs} p q = ap (λ o. unwrap_or o xs) (sym p ∙ q)

pub returns-in-Err-clause-usage : goal.returns-in-Err-clause-usage
returns-in-Err-clause-usage c = λ usage items is lawful. c.in-Err.ensures.usage usage items (taken_from (map string_bytes c.args.words.now) items is) lawful.fit

pub returns-then-not-is_lawful-clause-usage : goal.returns-then-not-is_lawful-clause-usage
returns-then-not-is_lawful-clause-usage c = λ usage items is lawful.
    let found = c.in-Ok.ensures.ok in
    let same = same_items found.1 (taken_from (map string_bytes c.args.words.now) items is) in
    let given : IsGivenByItems items c.in-Ok.given = subst (λ l. IsGivenByItems l c.in-Ok.given) same found.4 in
    true≢false (sym (test_from items c.in-Ok.given given lawful) ∙ sym c.is_lawful.ensures ∙ c.if-not-is_lawful.true)

pub returns-clause-ok : goal.returns-clause-ok
returns-clause-ok c =
    let found = c.in-Ok.ensures.ok in
    let lawful = lawful_from found.0 c.in-Ok.given found.2 found.3 found.4 (sym c.if-not-is_lawful.ensures) in
    (found.0, read_from (map string_bytes c.args.words.now) found.0 found.1 lawful, lawful, found.4)
