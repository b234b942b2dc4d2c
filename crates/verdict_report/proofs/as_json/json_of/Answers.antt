use Rattle.std.proofs.Common.{◌≡◌, ◌∙◌, ◌≤◌, ◌++◌, length, map, string_bytes, ap, subst, sym, ℕ}
use Rattle.std.specs.Option.{option_copied}
use Rattle.json.specs.Print.{quoted}
use Rattle.verdict_report.specs.JsonText.{verdict_json_line}
use Rattle.verdict_report.proofs.CompactText.{line_is}
use Rattle.verdict_report.proofs.as_json.json_of.Goals as goal

pub append_json-requires : goal.append_json-requires
append_json-requires c =
    let few : length c.in_ok-strings.strings.items ≤ 64 = c.in_ok-strings.ensures.few in
    let P : ℕ → Type 0 = λ n. n ≤ 64 in
    subst P (ap length (sym c.deref.ensures.value)) few

pub returns : goal.returns
returns c =
    let strings : map string_bytes c.deref.result.now ≡ map quoted c.args.declared.now = ap (map string_bytes) c.deref.ensures.value ∙ c.in_ok-strings.ensures.strings in
    c.in_ok-append_json.ensures
    ∙ ap (λ start. start ++ verdict_json_line (map string_bytes c.deref.result.now) c.args.broken.now c.args.verdict.now (option_copied c.args.facts)) c.new-text.ensures.items
    ∙ ap (λ names. verdict_json_line names c.args.broken.now c.args.verdict.now (option_copied c.args.facts)) strings
    ∙ line_is c.args.declared.now c.args.broken.now c.args.verdict.now (option_copied c.args.facts)
