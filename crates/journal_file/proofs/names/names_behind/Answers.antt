use Rattle.std.proofs.Common.{rules, ◌≡◌, ◌∙◌, ◌++◌, None, Some, codes, ap, sym, subst}
use Rattle.knit_base.specs.Lines.{IsLine}
use Rattle.knit_base.specs.Names.{spaced_names}
use Rattle.knitout_reader.specs.Head.{names_in_line}
use Rattle.journal_file.proofs.HeaderNames.{carriers_line, text_utf8, told_again}
use Rattle.journal_file.proofs.names.names_behind.Goals as goal

pub declared_in-requires-clause-line : goal.declared_in-requires-clause-line
declared_in-requires-clause-line c =
    let is : c.as_str.result.now ≡ codes ";;Carriers:" ++ c.args.names.now = search rules in
    subst IsLine (sym is) (carriers_line c.args.names.now c.requires.one c.requires.utf8 c.requires.short)

pub returns-then-branch : goal.returns-then-branch
returns-then-branch c = let h = c.in_ok-is_spelt-in-Some.ensures.yes c.if-branch.true in record { spelt = h.0; are = h.1; utf8 = text_utf8 c.args.text.now c.args.names.now c.requires.behind c.requires.utf8 }

pub returns-in-Some : goal.returns-in-Some
returns-in-Some c = λ names is.
    let line : c.as_str.result.now ≡ codes ";;Carriers:" ++ c.args.names.now = search rules in
    let found : names_in_line c.as_str.result.now ≡ Some c.in-Some.declared = search rules in
    let told : Some c.in-Some.declared ≡ Some names = sym found ∙ ap names_in_line line ∙ told_again c.args.text.now c.args.names.now c.requires.behind names is in
    let same : c.in-Some.declared ≡ names = cc in
    c.in_ok-is_spelt-in-Some.ensures.no c.if-branch.false (subst (λ ns. c.args.text.now ≡ spaced_names ns) (sym same) is.spelt)

pub returns : goal.returns
returns c = λ names is.
    let line : c.as_str.result.now ≡ codes ";;Carriers:" ++ c.args.names.now = search rules in
    let found : names_in_line c.as_str.result.now ≡ None = search rules in
    let told : None ≡ Some names = sym found ∙ ap names_in_line line ∙ told_again c.args.text.now c.args.names.now c.requires.behind names is in
    absurd (cc)
