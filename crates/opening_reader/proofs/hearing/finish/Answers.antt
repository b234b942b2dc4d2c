use Rattle.std.proofs.Common.{◌≡◌, ◌==◌, ◌∙◌, ℕ, ◌+◌, ◌<◌, false, [], ◌∷◌, ◌++◌, length, ap, sym, refl, rules, arith, length-append}
use Rattle.knit_base.specs.Lines.{without_return}
use Rattle.opening_reader.proofs.Endings.{last-stops, more-wanted, none-behind}
use Rattle.opening_reader.proofs.ReadLines.{none-kept, some-kept}
use Rattle.opening_reader.proofs.TakenLines.{front-of, whole-of}
use Rattle.opening_reader.proofs.hearing.finish.Goals as goal

some-bytes : (n : ℕ) → (n == 0) ≡ false → 0 < n
some-bytes n isnt = grind arith

pub returns-then-is_empty : goal.returns-then-is_empty
returns-then-is_empty c = λ lines last holds kept.
    none-behind c.args.front lines c.args.text last c.unfinished.result holds c.requires.wanted (none-kept last c.args.line.now kept (search rules))
    (c.unfinished.ensures lines c.args.text holds (ap (λ (n : ℕ). n + 1) holds.counted))

pub returns-in-Err : goal.returns-in-Err
returns-in-Err c = λ lines last holds kept.
    let some = some-bytes (length c.args.line.now) (sym c.is_empty.ensures ∙ c.if-is_empty.false) in
    last-stops lines last c.in-Err.fault (some-kept last c.args.line.now kept some) (c.in-Err.ensures lines last holds kept)

pub returns-in-Some : goal.returns-in-Some
returns-in-Some c = λ lines last holds kept.
    let some = some-bytes (length c.args.line.now) (sym c.is_empty.ensures ∙ c.if-is_empty.false) in (
      some-kept last c.args.line.now kept some,
      whole-of c.in-Ok.front lines _ c.take.new.text c.in-Some.kind _ (c.in-Ok.ensures lines last holds kept) c.in-Some.ensures (front-of c.args.front lines c.args.text holds c.requires.wanted).unfinished refl refl refl,
    )

pub returns : goal.returns
returns c = λ lines last holds kept.
    let some = some-bytes (length c.args.line.now) (sym c.is_empty.ensures ∙ c.if-is_empty.false) in
    let held = c.in-Ok.ensures lines last holds kept in
    let counted = holds.counted in
    more-wanted c.in-Ok.front lines c.take.new.text last c.unfinished-2.result held c.in_default.ensures (some-kept last c.args.line.now kept some)
    (c.unfinished-2.ensures (lines ++ without_return last ∷ []) c.take.new.text held (omega (arith, counted, length-append lines (without_return last ∷ []))))
