use Rattle.std.proofs.Common.{◌≡◌, ◌≤◌, decimal, length, ap, drop, arith, length-append}
use Rattle.std.proofs.lemmas.Fmt.{length-decimal-le}
use Rattle.std.proofs.lemmas.List.{length-drop}
use Rattle.verdict_report.proofs.strip.Strip.put_number.Goals as goal

pub write_digits-self-inside-requires : goal.write_digits-self-inside-requires
write_digits-self-inside-requires c =
    let short : length (decimal c.from.result) ≤ 10 = length-decimal-le 10 c.from.result (omega arith) (omega (arith, c.from.ensures, c.ranges.number.fits)) (omega (arith, c.from.ensures, c.ranges.number.fits)) in
    let len : length (drop c.self.inside.start c.self.inside.bytes) ≡ length c.args.self.now = ap length c.self.view_is in (
      omega (arith, short, len, length-drop c.self.inside.start c.self.inside.bytes, c.self.told, c.self.invariant, c.requires.room),
      omega (arith, c.self.told, c.self.invariant),
    )

pub returns-clause-len : goal.returns-clause-len
returns-clause-len c =
    let short : length (decimal c.from.result) ≤ 10 = length-decimal-le 10 c.from.result (omega arith) (omega (arith, c.from.ensures, c.ranges.number.fits)) (omega (arith, c.from.ensures, c.ranges.number.fits)) in
    let len : length (drop c.self.inside.start c.self.inside.bytes) ≡ length c.args.self.now = ap length c.self.view_is in
    omega (arith, short, len, ap length c.write_digits-self-inside.ensures.written, length-append (decimal c.from.result) (drop c.self.inside.start c.self.inside.bytes))
