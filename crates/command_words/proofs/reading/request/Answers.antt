use Rattle.std.proofs.Common.{◌∙◌, sym, map, string_bytes}
use Rattle.command_words.proofs.Faults.{same_error}
use Rattle.command_words.proofs.Requests.{asked_is, nothing_asked}
use Rattle.command_words.proofs.reading.request.Goals as goal

pub returns-in-Err-clause-usage : goal.returns-in-Err-clause-usage
returns-in-Err-clause-usage c = λ usage. nothing_asked (map string_bytes c.args.words.now) (c.in-Err.ensures.usage (same_error _ _ usage))

pub returns-in-Some-clause-ok : goal.returns-in-Some-clause-ok
returns-in-Some-clause-ok c =
    let found = c.in-Ok.ensures.ok in
    asked_is (map string_bytes c.args.words.now) found.0 c.in-Ok.given found.1 found.2 found.3 ∙ sym c.in-Some.ensures.value

pub returns-in-None-clause-usage : goal.returns-in-None-clause-usage
returns-in-None-clause-usage c = λ usage.
    let found = c.in-Ok.ensures.ok in
    asked_is (map string_bytes c.args.words.now) found.0 c.in-Ok.given found.1 found.2 found.3 ∙ sym c.in-None.ensures.value
