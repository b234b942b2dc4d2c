use Rattle.std.proofs.Common.{◌≡◌, ◌+◌, ◌-◌, ◌∙◌, ℕ, List, ap, arith, None, refl, subst, sym, take}
use Rattle.edit_journal.specs.declared.edit.Entry.{Entry}
use Rattle.edit_journal.specs.declared.opening.Opening.{Opening}
use Rattle.edit_sessions.specs.Laws.{IsLegal}
use Rattle.knitout_reader.specs.Head.{head_len, head_of}
use Rattle.input_answers.specs.declared.live_text.LiveOutput.{LiveOutput}
use Rattle.input_answers.specs.DueLive.{edited}
use Rattle.input_answers.specs.LiveText.{IsLiveText, output_of}
use Rattle.input_answers.proofs.BodyRuns.{head_len-le}
use Rattle.input_answers.proofs.live.carry_out.Goals as goal

pub told_of-requires-clause-first : goal.told_of-requires-clause-first
told_of-requires-clause-first g c =
    let is : c.in_ok-book.book.opening.setting.first ≡ head_len c.args.script.text + 1 = ap (λ (o : Opening). o.setting.first) c.in_ok-book.ensures.opening ∙ c.in_ok-opened.ensures.opening.first in
    omega (arith, is)

pub told_of-requires-clause-head : goal.told_of-requires-clause-head
told_of-requires-clause-head g c =
    let is : c.in_ok-book.book.opening.setting.first ≡ head_len c.args.script.text + 1 = ap (λ (o : Opening). o.setting.first) c.in_ok-book.ensures.opening ∙ c.in_ok-opened.ensures.opening.first in
    omega (arith, is, head_len-le c.args.script.text)

pub returns : goal.returns
returns g c = λ input has.
    let opening : Opening = c.in_ok-opened.opened.book.opening in
    let output : LiveOutput = output_of c.args.plan.now.command in
    let text : List (List ℕ) = c.args.script.text in
    let first : c.in_ok-book.book.opening.setting.first ≡ head_len text + 1 = ap (λ (o : Opening). o.setting.first) c.in_ok-book.ensures.opening ∙ c.in_ok-opened.ensures.opening.first in
    let behind : c.in_ok-book.book.opening.setting.first - 1 ≡ head_len text = omega (arith, first) in
    let head : take (c.in_ok-book.book.opening.setting.first - 1) text ≡ head_of text = ap (λ (n : ℕ). take n text) behind in
    edited c.args.head.now opening (record { script = c.args.script; entries = c.in_ok-text.journal.entries; replies = c.in_ok-book.replies; groups = None }) c.in_ok-text.text.items has c.requires.fits
    c.in_ok-opened.ensures.opening
    (subst (λ (entries : List Entry). IsLegal opening c.args.script.sessions entries c.in_ok-book.replies) (sym c.in_ok-text.ensures.entries) c.in_ok-book.ensures.legal) refl
    (subst (λ (h : List (List ℕ)). IsLiveText output h opening c.in_ok-text.journal.entries c.in_ok-book.replies c.in_ok-text.text.items) head
    (subst (λ (o : Opening). IsLiveText output (take (c.in_ok-book.book.opening.setting.first - 1) text) o c.in_ok-text.journal.entries c.in_ok-book.replies c.in_ok-text.text.items) c.in_ok-book.ensures.opening
    (subst (λ (entries : List Entry). IsLiveText output (take (c.in_ok-book.book.opening.setting.first - 1) text) c.in_ok-book.book.opening entries c.in_ok-book.replies c.in_ok-text.text.items) (sym c.in_ok-text.ensures.entries)
    (subst (λ (out : LiveOutput). IsLiveText out (take (c.in_ok-book.book.opening.setting.first - 1) text) c.in_ok-book.book.opening c.in_ok-book.book.entries c.in_ok-book.replies c.in_ok-text.text.items) c.output_of.ensures c.in_ok-text.ensures.text))))
