use Rattle.std.proofs.Common.{◌≡◌, ◌∙◌, ℕ, ◌+◌, List, [], length, drop, Some, None, flat_map, slice_get, ap, sym, arith, length-append}
use Rattle.std.specs.Option.{option_copied}
use Rattle.knit_base.proofs.Rests.{rest-at, written-none}
use Rattle.knit_ports.specs.WholeLines.{with_feed}
use Rattle.opening_reader.specs.Openings.{bytes_of}
use Rattle.opening_reader.proofs.bytes.line_bytes.Goals as goal

some-bytes : (lines : List (List ℕ)) (i : ℕ) (line : List ℕ) → slice_get lines i ≡ Some line → length line + 1 + bytes_of (drop (i + 1) lines) ≡ bytes_of (drop i lines)
some-bytes lines i line is =
    let whole : bytes_of (drop i lines) ≡ length (with_feed line) + bytes_of (drop (i + 1) lines) = ap bytes_of (rest-at lines i line is) ∙ length-append (with_feed line) (flat_map with_feed (drop (i + 1) lines)) in
    let fed : length (with_feed line) ≡ length line + 1 = length-append line _ in omega (arith, whole, fed)

none-bytes : (lines : List (List ℕ)) (i : ℕ) → slice_get lines i ≡ None → 0 + bytes_of (drop (i + 1) lines) ≡ bytes_of (drop i lines)
none-bytes lines i none = let same : bytes_of (drop (i + 1) lines) ≡ bytes_of (drop i lines) = ap length (written-none with_feed lines i [] none) in omega (arith, same)

pub returns-in-Some-clause-count : goal.returns-in-Some-clause-count
returns-in-Some-clause-count c = some-bytes c.args.text.now c.args.at c.in-Some.line.now (sym c.get.ensures.found ∙ ap option_copied c.in-Some.is)

pub returns-in-None-clause-count : goal.returns-in-None-clause-count
returns-in-None-clause-count c = none-bytes c.args.text.now c.args.at (sym c.get.ensures.found ∙ ap option_copied c.in-None.is)
