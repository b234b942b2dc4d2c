use Rattle.std.proofs.Common.{◌<◌, arith, ap, sym, subst, ◌∙◌, ◌≡◌, ◌≢◌, ℕ, List, get_or, [], drop, length, true, false, inl, inr}
use Rattle.knitout_reader.specs.Head.{names_in_line}
use Rattle.script_reader.specs.Command.{IsNoCommand}
use Rattle.script_reader.specs.Statements.{is_text_line, kind_of}
use Rattle.script_reader.specs.declared.line.Kind.TheVariants as kind
use Rattle.script_reader.proofs.Headers.{gives_names, no_names, none_at_end, none_here}
use Rattle.script_reader.proofs.Texts.{text_kind, text_line_kind}
use Rattle.script_reader.proofs.one_command.read_names.Goals as goal

pub returns-then-text_at-count-clause-fault : goal.returns-then-text_at-count-clause-fault
returns-then-text_at-count-clause-fault c = λ adds.
    subst (IsNoCommand c.args.lines.now c.args.at adds) (sym c.bad_line.ensures)
    (inl (none_at_end c.args.lines.now c.args.at c.requires.at c.requires.kind c.next_said-text_at.result c.next_said-text_at.ensures.passed adds (omega arith)))

pub returns-then-not-is_text_line-clause-fault : goal.returns-then-not-is_text_line-clause-fault
returns-then-not-is_text_line-clause-fault c = λ adds.
    let lines : List (List ℕ) = c.args.lines.now in
    let place : ℕ = c.next_said-text_at.result in
    let high = c.next_said-text_at.ensures.passed.high in
    let within : place < length lines = omega arith in
    let is : c.is_text_line.result ≡ is_text_line (get_or lines place []) = c.is_text_line.ensures ∙ ap is_text_line (c.as_bytes.ensures.value ∙ c.nth_line-line.ensures.text) in
    let not_text : kind_of (get_or lines place []) ≢ kind.Text = λ e. let clash : true ≡ false = sym (text_kind (get_or lines place []) e) ∙ (sym is ∙ c.if-not-is_text_line.true) in cc in
    subst (IsNoCommand lines c.args.at adds) (sym c.bad_line-then-not-is_text_line.ensures)
    (inl (none_here lines c.args.at c.requires.at c.requires.kind place c.next_said-text_at.ensures.passed adds within (c.next_said-text_at.ensures.said within) not_text))

pub returns-in-Ok-Some-clause-command : goal.returns-in-Ok-Some-clause-command
returns-in-Ok-Some-clause-command c =
    let lines : List (List ℕ) = c.args.lines.now in
    let place : ℕ = c.next_said-text_at.result in
    let high = c.next_said-text_at.ensures.passed.high in
    let within : place < length lines = omega arith in
    let is : c.is_text_line.result ≡ is_text_line (get_or lines place []) = c.is_text_line.ensures ∙ ap is_text_line (c.as_bytes.ensures.value ∙ c.nth_line-line.ensures.text) in
    gives_names lines c.args.at c.requires.at c.requires.kind place c.next_said-text_at.ensures.passed within
    (text_line_kind (get_or lines place []) (sym is ∙ c.if-not-is_text_line.false)) c.in-Ok-Some.declared
    (let found : names_in_line (drop 1 (get_or lines place [])) ≡ c.in-Ok-Some.field-0 = sym (c.in-Ok-Some.ensures ∙ ap names_in_line (c.text_of.ensures.text ∙ ap (drop 1) c.nth_line-line.ensures.text)) in
    let is = c.in-Ok-Some.field-0-is in cc)

pub returns-in-Ok-None-clause-fault : goal.returns-in-Ok-None-clause-fault
returns-in-Ok-None-clause-fault c = λ adds.
    let lines : List (List ℕ) = c.args.lines.now in
    let place : ℕ = c.next_said-text_at.result in
    let high = c.next_said-text_at.ensures.passed.high in
    let within : place < length lines = omega arith in
    let is : c.is_text_line.result ≡ is_text_line (get_or lines place []) = c.is_text_line.ensures ∙ ap is_text_line (c.as_bytes.ensures.value ∙ c.nth_line-line.ensures.text) in
    subst (IsNoCommand lines c.args.at adds) (sym c.bad_line-in-Ok-None.ensures)
    (inr (no_names lines c.args.at c.requires.at c.requires.kind place c.next_said-text_at.ensures.passed within
    (text_line_kind (get_or lines place []) (sym is ∙ c.if-not-is_text_line.false))
    (let found : names_in_line (drop 1 (get_or lines place [])) ≡ c.in-Ok-None.field-0 = sym (c.in-Ok-None.ensures ∙ ap names_in_line (c.text_of.ensures.text ∙ ap (drop 1) c.nth_line-line.ensures.text)) in
    let is = c.in-Ok-None.field-0-is in cc)))
