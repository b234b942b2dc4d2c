use Rattle.std.proofs.Common.{◌≡◌, ◌++◌, ◌-◌, List, ℕ, take, drop}
use Rattle.std.specs.List.{AllZip}
use Rattle.knitout_writer.specs.Canonical.{IsCanonicalLine, with_line_feeds}
use Rattle.knitout_writer.proofs.text.append_body.Given as goal

abbrev pub invariant-loop-i : goal.invariant-loop-i
invariant-loop-i l = (texts : List (List ℕ)) × AllZip (IsCanonicalLine l.profile l.head.declared) (take (l.i - l.head.lines) (drop l.head.lines l.lines)) texts × (l.out.items ≡ l.fn.out.items ++ with_line_feeds texts)
