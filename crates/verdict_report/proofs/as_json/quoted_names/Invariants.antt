use Rattle.std.proofs.Common.{◌≡◌, map, take, string_bytes}
use Rattle.json.specs.Print.{quoted}
use Rattle.verdict_report.proofs.as_json.quoted_names.Given as goal

abbrev pub invariant-names : goal.invariant-names
invariant-names l = map string_bytes l.strings.items ≡ map quoted (take l.number l.declared)
