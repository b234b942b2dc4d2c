-- The needle holds its own entry alone, or the needles new loops.
use Rattle.std.proofs.Common.{rules}
use Rattle.face_data.specs.Conditions.{part_of}
use Rattle.summary_compose.specs.Changes.{changes_in}
use Rattle.summary_compose.specs.Known.{checks_in}
use Rattle.summary_compose.proofs.ImpliedChecks.{size_alike}
use Rattle.summary_compose.proofs.alike.size_implied.Goals as goal

pub returns-then-is_none : goal.returns-then-is_none
returns-then-is_none c = λ yes.
    let a = c.args.a.now in
    size_alike (changes_in a) (checks_in a) c.in-Some.needle (part_of c.args.names.now c.args.part) c.args.most (c.find_size.ensures yes) c.in-Some.ensures (search rules)
