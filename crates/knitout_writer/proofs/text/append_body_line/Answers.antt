use Rattle.std.proofs.Common.{◌++◌, List, ℕ, ap, subst, ◌∙◌}
use Rattle.knitout_reader.specs.Shortest.{IsShortestSpelling}
use Rattle.knitout_writer.proofs.ShortestSpellings.{shortest-canonical}
use Rattle.knitout_writer.proofs.text.append_body_line.Goals as goal

pub returns-then-is_shortest_spelling : goal.returns-then-is_shortest_spelling
returns-then-is_shortest_spelling c =
    let is : IsShortestSpelling c.args.line.now = subst IsShortestSpelling c.as_bytes-bytes.ensures.value (c.is_shortest_spelling.ensures c.if-is_shortest_spelling.true) in (
      c.args.line.now,
      shortest-canonical c.args.profile.now c.args.declared.now c.args.line.now is,
      c.in_ok-extend_from_slice.ensures.items ∙ ap (λ (l : List ℕ). c.args.out.now.items ++ l) c.as_bytes-bytes.ensures.value,
    )
