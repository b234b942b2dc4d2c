use Rattle.std.proofs.Common.{◌≡◌, ◌++◌, codes, map, string_bytes, take}
use Rattle.knit_base.specs.Names.{spaced_names}
use Rattle.knit_base.proofs.declared.Declared.header_line.Given as goal

abbrev pub invariant-loop-name : goal.invariant-loop-name
invariant-loop-name l = string_bytes l.line ≡ codes ";;Carriers:" ++ spaced_names (map string_bytes (take l.name-index l.names))
