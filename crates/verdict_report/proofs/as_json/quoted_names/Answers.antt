use Rattle.std.proofs.Common.{◌≡◌, ◌∙◌, ◌<◌, ◌≤◌, ◌++◌, [], ◌∷◌, length, map, string_bytes, ap, arith}
use Rattle.std.proofs.lemmas.List.{length-map, take_all}
use Rattle.json.specs.Print.{quoted}
use Rattle.verdict_report.specs.Carriers.{carrier, carrier_name_of}
use Rattle.verdict_report.proofs.Names.{quoted_more}
use Rattle.verdict_report.proofs.as_json.quoted_names.Goals as goal

pub names-preserved : goal.names-preserved
names-preserved c =
    let within : c.names.number < length c.args.declared.now = omega arith in
    c.in_ok-push_quoted.ensures
    ∙ ap (λ strings. strings ++ quoted (carrier_name_of c.args.declared.now (carrier c.names.number)) ∷ []) c.names.invariant
    ∙ quoted_more c.args.declared.now c.names.number within

pub returns-clause-few : goal.returns-clause-few
returns-clause-few c =
    let past : length c.args.declared.now ≤ c.names.number = omega arith in
    let whole : map string_bytes c.names.strings.items ≡ map quoted c.args.declared.now =
    c.names.invariant ∙ ap (map quoted) (take_all c.names.number c.args.declared.now past) in
    omega (arith, c.len-number-end.ensures.few, length-map c.names.strings.items string_bytes, length-map c.args.declared.now quoted, ap length whole)
