use Rattle.std.proofs.Common.{◌≡◌, ◌∙◌, ◌-◌, ℕ, Bool, List, [], take, ap, subst, arith}
use Rattle.edit_journal.specs.declared.edit.Entry.{Entry}
use Rattle.input_answers.proofs.BodyRuns.{head_len-le}
use Rattle.live_talk.specs.Begins.{HasBegun}
use Rattle.live_talk.specs.declared.begin.Begun.{Begun}
use Rattle.live_talk.proofs.Documents.{if-ok}
use Rattle.live_talk.proofs.begin.begin_with.Goals as goal

pub range-requires-clause-inside : goal.range-requires-clause-inside
range-requires-clause-inside g c = omega (arith, c.requires.head.len, head_len-le c.args.text.now)

pub returns : goal.returns
returns g c =
    let count : c.args.head.now.lines - 0 ≡ c.args.head.now.lines = omega arith in
    let head = c.in_ok-range.ensures ∙ ap (λ (n : ℕ). take n c.args.text.now) (count ∙ c.requires.head.len) in
    let opening = c.in_ok-book.book.opening in
    if-ok c.begin_at.result
    (λ (begun : Begun) has. (
      opening,
      c.in_ok-book.ensures.opening,
      subst (λ (p : Bool × List (List ℕ) × List Entry). HasBegun p.0 p.1 opening p.2 begun) (λ i. (c.as_json.ensures i, head i, c.in_ok-book.ensures.entries i)) has,
    )) c.begin_at.ensures
