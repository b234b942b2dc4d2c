-- The bytes of a file that are held.
use Rattle.std.proofs.Common.{◌≡◌, ℕ, ◌+◌, ◌-◌, ◌<◌, ◌≤◌, List, ◌++◌, length, take, drop, Option, Result, Ok, Err, IfOk, ap, sym, ◌∙◌, arith, length-drop, length-append, append_assoc}
use lib.Seq.{paste}
use Rattle.std.proofs.Math.Seq.{take-append-add}
use Rattle.std.proofs.KnownBytes.{Consumes-trans}
use Rattle.std.proofs.lemmas.List.{drop-take, take-append-le, take-take, length-take}
use Rattle.std.proofs.lemmas.List.Edits.{take-paste}
use Rattle.std.specs.Io.{ReadsAtMost}
use Rattle.std.specs.Io.KnownBytes.{Consumes, ReadConsumes}
use Rattle.knit_ports.specs.declared.limit.TheConstants.{INPUT_LIMIT}
use Rattle.knit_ports.specs.declared.port.Failed.{Failed}
use Rattle.knit_ports.specs.Whole.{GavePiece}

-- the first bytes are let go, and the others moved to the front
pub window_front_dropped : (bytes now moved : List ℕ) (len end count : ℕ) → now ≡ bytes → length now ≡ count → moved ≡ paste now 0 (drop len now) (end - len) → len ≤ end → end ≤ length bytes
    → take (end - len) (take count (moved ++ drop (length moved) bytes)) ≡ drop len (take end bytes)
window_front_dropped bytes now moved len end count same all is within inside =
    let wide : end ≤ length now = omega (arith, ap length same) in
    let rest : end - len ≤ length (drop len now) = omega (arith, length-drop len now) in
    let front : take (0 + (end - len)) moved ≡ take (end - len) (drop len now) = ap (take (0 + (end - len))) is ∙ take-paste now 0 (drop len now) (end - len) (omega arith) rest in
    let zero : end - len ≡ 0 + (end - len) = omega arith in
    let fits : end - len ≤ length moved = omega (arith, ap length front, length-take (0 + (end - len)) moved, length-take (end - len) (drop len now)) in
    let whole : len + (end - len) ≡ end = omega arith in
    take-take (end - len) count (moved ++ drop (length moved) bytes) (omega arith)
    ∙ take-append-le (end - len) moved (drop (length moved) bytes) fits
    ∙ ap (λ (k : ℕ). take k moved) zero ∙ front
    ∙ sym (drop-take len (end - len) now) ∙ ap (λ (k : ℕ). drop len (take k now)) whole ∙ ap (λ (l : List ℕ). drop len (take end l)) same

-- one read behind so many bytes
pub gave-behind : (result : Result ℕ Failed) (old new : Option (List ℕ)) (before now given behind more : List ℕ) (end room count : ℕ) → now ≡ before → length now ≡ count → end + room ≤ count
    → length given ≡ room → ReadsAtMost result given → ReadConsumes old new result given
    → IfOk result (λ n. GavePiece old new (take end before) (take (end + n) (take count ((take end now ++ (given ++ behind)) ++ more))) room n)
gave-behind (Ok n) old new before now given behind more end room count same all inside len bound read =
    let few : n ≤ length given = bound.0 in
    let front : length (take end now) ≡ end = omega (arith, length-take end now) in
    record {
      given = take n given;
      count = omega (arith, length-take n given);
      within = omega arith;
      consumed = read.0;
      appended = take-take (end + n) count ((take end now ++ (given ++ behind)) ++ more) (omega arith)
          ∙ ap (take (end + n)) (append_assoc (take end now) (given ++ behind) more ∙ ap (λ (l : List ℕ). take end now ++ l) (append_assoc given behind more))
          ∙ ap (λ (k : ℕ). take (k + n) (take end now ++ (given ++ (behind ++ more)))) (sym front)
          ∙ take-append-add (take end now) (given ++ (behind ++ more)) n
          ∙ ap (λ (l : List ℕ). take end now ++ l) (take-append-le n given (behind ++ more) few)
          ∙ ap (λ (l : List ℕ). take end l ++ take n given) same;
      end = λ none some. read.1 none (omega arith);
    }
gave-behind (Err failed) old new before now given behind more end room count same all inside len bound read = tt

-- what is left of a file was read, up to here
pub record ReadOutSoFar (old now : Option (List ℕ)) (before after start count room : ℕ) : Type 0 where
  pub given : List ℕ
  pub consumed : Consumes old now given
  pub counted : count ≡ start + length given
  pub within : count ≤ INPUT_LIMIT + 1
  pub some : 0 < room
  pub calm : after ≡ before

-- one more read
pub out-more : (old now new : Option (List ℕ)) (before between after start count room length' : ℕ) (held held' : List ℕ) (most n : ℕ) → ReadOutSoFar old now before between start count room
    → GavePiece now new held held' most n → most ≤ INPUT_LIMIT + 1 - count → count ≤ INPUT_LIMIT → length' ≡ room → after ≡ between
    → ReadOutSoFar old new before after start (count + n) length'
out-more old now new before between after start count room length' held held' most n so_far gave fits below same still = record {
  given = so_far.given ++ gave.given;
  consumed = Consumes-trans old now new so_far.given gave.given so_far.consumed gave.consumed;
  counted = omega (arith, so_far.counted, gave.count, length-append so_far.given gave.given);
  within = omega (arith, gave.within);
  some = omega (arith, so_far.some);
  calm = still ∙ so_far.calm;
}
