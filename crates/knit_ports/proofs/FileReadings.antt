-- What is known of a file while its lines are taken.
use Rattle.std.proofs.Common.{◌≡◌, ◌≢◌, ⊎_elim, inl, inr, ℕ, zero, suc, ◌+◌, ◌-◌, ◌<◌, ◌≤◌, List, [], ◌∷◌, ◌++◌, length, take, drop, All, Option, ap, sym, subst, ◌∙◌, refl, arith, length-drop, length-append, append_assoc, append-nil, take-append-drop}
use Rattle.std.specs.List.{after_first, position_or_len}
use Rattle.std.proofs.KnownBytes.{Consumes-kept, Consumes-nil, Consumes-trans}
use Rattle.std.specs.Io.KnownBytes.{Consumes, IsAtEnd, Keeps}
use Rattle.knit_base.specs.Lines.{is_line_feed, lines_of}
use Rattle.knit_base.proofs.FirstLine.{lines_of-front}
use Rattle.line_cutter.specs.declared.fault.CutFault.{CutFault}
use Rattle.line_cutter.specs.declared.fault.CutFault.TheVariants as refused
use Rattle.line_cutter.specs.Cut.{IsFirstBad, IsFirstBadBehind, IsFirstBadLine, IsGoodLine}
use Rattle.line_cutter.proofs.Pieces.{lines_of-next}
use Rattle.knit_ports.specs.declared.limit.TheConstants.{INPUT_LIMIT}
use Rattle.knit_ports.specs.FileReadings.{IsLongFile, IsRefusedFile, IsTakenFile, IsWholeFile, TakingLines}
use Rattle.knit_ports.specs.Whole.{GaveAtMost, GavePiece}
use Rattle.knit_ports.specs.WholeLines.{AreWholeLines}
use Rattle.knit_ports.specs.Windows.{IsReadOut}
use Rattle.knit_ports.proofs.Progress.{gave-more}

-- the lines of whole lines, and those of what stands behind them
lines-behind : (front text : List ℕ) → AreWholeLines front → lines_of (front ++ text) ≡ lines_of front ++ lines_of text
lines-behind front text whole =
    ⊎_elim
    (λ (none : front ≡ []). ap (λ (l : List ℕ). lines_of (l ++ text)) none ∙ ap (λ (l : List ℕ). lines_of l ++ lines_of text) (sym none))
    (λ (some : (line : List ℕ) × (front ≡ line ++ 10 ∷ [])).
    ap (λ (l : List ℕ). lines_of (l ++ text)) some.1 ∙ ap lines_of (append_assoc some.0 (10 ∷ []) text) ∙ lines_of-front some.0 text
    ∙ ap (λ (l : List ℕ). lines_of l ++ lines_of text) (sym some.1))
    whole

-- whole lines behind whole lines
whole-more : (front text : List ℕ) → AreWholeLines front → AreWholeLines text → AreWholeLines (front ++ text)
whole-more front text whole more =
    ⊎_elim
    (λ (none : text ≡ []). subst AreWholeLines (sym (ap (λ (l : List ℕ). front ++ l) none ∙ append-nil front)) whole)
    (λ (some : (line : List ℕ) × (text ≡ line ++ 10 ∷ [])).
    inr (front ++ some.0, ap (λ (l : List ℕ). front ++ l) some.1 ∙ sym (append_assoc front some.0 (10 ∷ []))))
    more

lines_by : (most : ℕ) (text : List ℕ) → length text ≤ most → length (lines_of text) ≤ length text
lines_by most [] few = omega arith
lines_by zero (byte ∷ bytes) few = absurd (omega arith)
lines_by (suc most) (byte ∷ bytes) few =
    let text : List ℕ = byte ∷ bytes in
    let rest : List ℕ = after_first is_line_feed text in
    let shorter : length rest < length text = omega (arith, length-drop (position_or_len is_line_feed text + 1) text) in
    omega (arith, ap length (lines_of-next text (omega arith)), lines_by most rest (omega arith))

-- a text has at most as many lines as bytes
lines-within : (text : List ℕ) → length (lines_of text) ≤ length text
lines-within text = lines_by (length text) text (omega arith)

bad-line-before : (IsBad : List ℕ → Type 0) (lines more : List (List ℕ)) (number : ℕ) → IsFirstBadLine IsBad lines number → IsFirstBadLine IsBad (lines ++ more) number
bad-line-before IsBad lines more number bad = record {
  before = bad.before;
  bad = bad.bad;
  after = bad.after ++ more;
  lines_are = ap (λ (ls : List (List ℕ)). ls ++ more) bad.lines_are ∙ append_assoc bad.before (bad.bad ∷ bad.after) more;
  counted = bad.counted;
  good_before = bad.good_before;
  is_bad = bad.is_bad;
}

-- the first bad line stays the first, whatever lines come behind it
bad-before : (lines more : List (List ℕ)) (fault : CutFault) → IsFirstBad lines fault → IsFirstBad (lines ++ more) fault
bad-before lines more (refused.NotUtf8 number) bad = bad-line-before _ lines more number bad
bad-before lines more (refused.LineLong number) bad = bad-line-before _ lines more number bad
bad-before lines more refused.NoMemory bad = bad

-- the source gave what was passed and what is held, and the lines of what was passed were taken
pub record ReadingSoFar (T : Type 0) (Took : TakingLines T) (start taker : T) (old now : Option (List ℕ)) (before after : ℕ) (held : List ℕ) (count : ℕ) : Type 0 where
  pub passed : List ℕ
  pub consumed : Consumes old now (passed ++ held)
  pub whole : AreWholeLines passed
  pub took : Took (lines_of passed) start taker
  pub counted : count ≡ length (passed ++ held)
  pub calm : after ≡ before

-- what the taker tells of the lines that it took, and what it makes of some more
abbrev pub TakesMore : (T : Type 0) → TakingLines T → T → T → List ℕ → Type 0
TakesMore T Took old new text = (start : T) (lines : List (List ℕ)) → Took lines start old → Took (lines ++ lines_of text) start new

abbrev pub IsCounted : (T : Type 0) → TakingLines T → (T → ℕ) → Type 0
IsCounted T Took number = (lines : List (List ℕ)) (start now : T) → Took lines start now → number now ≡ length lines

abbrev pub AreGood : (T : Type 0) → TakingLines T → Type 0
AreGood T Took = (lines : List (List ℕ)) (start now : T) → Took lines start now → All IsGoodLine lines

-- nothing was read
pub reading-starts : (T : Type 0) (Took : TakingLines T) (taker : T) (old : Option (List ℕ)) (faults : ℕ) (held : List ℕ) (count : ℕ) → Took [] taker taker → held ≡ [] → count ≡ 0
    → ReadingSoFar T Took taker taker old old faults faults held count
reading-starts T Took taker old faults held count none empty zero_is = record {
  passed = [];
  consumed = subst (Consumes old old) (sym empty) (Consumes-nil old);
  whole = inl refl;
  took = none;
  counted = zero_is ∙ ap length (sym empty);
  calm = refl;
}

-- one more read
pub reading-more : (T : Type 0) (Took : TakingLines T) (start taker : T) (old now new : Option (List ℕ)) (before between after : ℕ) (held held' : List ℕ) (count count' room n : ℕ)
    → ReadingSoFar T Took start taker old now before between held count → GavePiece now new held held' room n → count' ≡ count + n → after ≡ between
    → ReadingSoFar T Took start taker old new before after held' count'
reading-more T Took start taker old now new before between after held held' count count' room n so_far gave more still =
    let all : (so_far.passed ++ held) ++ gave.given ≡ so_far.passed ++ held' = append_assoc so_far.passed held gave.given ∙ ap (λ (l : List ℕ). so_far.passed ++ l) (sym gave.appended) in
    record {
      passed = so_far.passed;
      consumed = subst (Consumes old new) all (Consumes-trans old now new (so_far.passed ++ held) gave.given so_far.consumed gave.consumed);
      whole = so_far.whole;
      took = so_far.took;
      counted = omega (arith, more, so_far.counted, gave.count, ap length all, length-append (so_far.passed ++ held) gave.given);
      calm = still ∙ so_far.calm;
    }

-- some whole lines more were taken
pub reading-passes : (T : Type 0) (Took : TakingLines T) (start taker taker' : T) (old now : Option (List ℕ)) (before after : ℕ) (held held' : List ℕ) (count count' n : ℕ)
    → ReadingSoFar T Took start taker old now before after held count → TakesMore T Took taker taker' (take n held) → AreWholeLines (take n held) → held' ≡ drop n held → count' ≡ count
    → ReadingSoFar T Took start taker' old now before after held' count'
reading-passes T Took start taker taker' old now before after held held' count count' n so_far takes whole left same =
    let text : List ℕ = take n held in
    let all : so_far.passed ++ held ≡ (so_far.passed ++ text) ++ held' =
    ap (λ (l : List ℕ). so_far.passed ++ l) (sym (take-append-drop n held) ∙ ap (λ (l : List ℕ). text ++ l) (sym left)) ∙ sym (append_assoc so_far.passed text held') in
    record {
      passed = so_far.passed ++ text;
      consumed = subst (Consumes old now) all so_far.consumed;
      whole = whole-more so_far.passed text so_far.whole whole;
      took = subst (λ (ls : List (List ℕ)). Took ls start taker') (sym (lines-behind so_far.passed text so_far.whole)) (takes start (lines_of so_far.passed) so_far.took);
      counted = same ∙ so_far.counted ∙ ap length all;
      calm = so_far.calm;
    }

-- what is held is no longer than what was read
pub held-few : (T : Type 0) (Took : TakingLines T) (start taker : T) (old now : Option (List ℕ)) (before after : ℕ) (held : List ℕ) (count : ℕ)
    → ReadingSoFar T Took start taker old now before after held count → length held ≤ count
held-few T Took start taker old now before after held count so_far = omega (arith, so_far.counted, length-append so_far.passed held)

-- so many lines were taken at most
pub taken-few : (T : Type 0) (Took : TakingLines T) (number : T → ℕ) (start taker : T) (old now : Option (List ℕ)) (before after : ℕ) (held : List ℕ) (count : ℕ)
    → IsCounted T Took number → ReadingSoFar T Took start taker old now before after held count → number taker ≤ count
taken-few T Took number start taker old now before after held count counts so_far =
    omega (arith, counts (lines_of so_far.passed) start taker so_far.took, lines-within so_far.passed, so_far.counted, length-append so_far.passed held)

-- what was read is at most so much
pub reading-gave : (T : Type 0) (Took : TakingLines T) (start taker : T) (old now new : Option (List ℕ)) (before after : ℕ) (held : List ℕ) (count : ℕ)
    → ReadingSoFar T Took start taker old now before after held count → count ≤ INPUT_LIMIT → Keeps now new → GaveAtMost INPUT_LIMIT old new
reading-gave T Took start taker old now new before after held count so_far few kept =
    (so_far.passed ++ held, omega (arith, so_far.counted), Consumes-kept old now new (so_far.passed ++ held) so_far.consumed kept)

-- the same where some more was read
pub reading-gave-more : (T : Type 0) (Took : TakingLines T) (start taker : T) (old now new : Option (List ℕ)) (before after : ℕ) (held : List ℕ) (count : ℕ)
    → ReadingSoFar T Took start taker old now before after held count → count ≤ INPUT_LIMIT → GaveAtMost (INPUT_LIMIT - count) now new → GaveAtMost INPUT_LIMIT old new
reading-gave-more T Took start taker old now new before after held count so_far few more =
    gave-more old now new (so_far.passed ++ held) (INPUT_LIMIT - count) INPUT_LIMIT so_far.consumed more (omega (arith, so_far.counted))

-- a byte more than the limit was read
pub reading-long : (T : Type 0) (Took : TakingLines T) (start taker : T) (old now : Option (List ℕ)) (before after : ℕ) (held : List ℕ) (count : ℕ)
    → ReadingSoFar T Took start taker old now before after held count → count ≡ INPUT_LIMIT + 1 → IsLongFile old now
reading-long T Took start taker old now before after held count so_far past = record {
  input = so_far.passed ++ held;
  consumed = so_far.consumed;
  past = sym so_far.counted ∙ past;
}

-- the file is read whole
reading-whole : (T : Type 0) (Took : TakingLines T) (start taker : T) (old now : Option (List ℕ)) (before after : ℕ) (held : List ℕ) (count : ℕ)
    → (so_far : ReadingSoFar T Took start taker old now before after held count) → count ≤ INPUT_LIMIT → IsAtEnd now → IsWholeFile old now (so_far.passed ++ held)
reading-whole T Took start taker old now before after held count so_far few ends = record {
  consumed = so_far.consumed;
  ended = ends;
  within = omega (arith, so_far.counted);
}

-- the last line was taken, if there was any
pub reading-taken : (T : Type 0) (Took : TakingLines T) (start taker taker' : T) (old now : Option (List ℕ)) (before after : ℕ) (held : List ℕ) (count : ℕ)
    → ReadingSoFar T Took start taker old now before after held count → count ≤ INPUT_LIMIT → IsAtEnd now → TakesMore T Took taker taker' held → IsTakenFile T Took start taker' old now
reading-taken T Took start taker taker' old now before after held count so_far few ends takes = record {
  input = so_far.passed ++ held;
  whole = reading-whole T Took start taker old now before after held count so_far few ends;
  took = subst (λ (ls : List (List ℕ)). Took ls start taker') (sym (lines-behind so_far.passed held so_far.whole)) (takes start (lines_of so_far.passed) so_far.took);
}

-- a bad line is the first of what was passed and these
bad-behind : (T : Type 0) (Took : TakingLines T) (number : T → ℕ) (start taker : T) (old now : Option (List ℕ)) (before after : ℕ) (held text : List ℕ) (count : ℕ) (fault : CutFault)
    → IsCounted T Took number → AreGood T Took → (so_far : ReadingSoFar T Took start taker old now before after held count) → IsFirstBadBehind (number taker) (lines_of text) fault
    → IsFirstBad (lines_of (so_far.passed ++ text)) fault
bad-behind T Took number start taker old now before after held text count fault counts good so_far bad =
    subst (λ (ls : List (List ℕ)). IsFirstBad ls fault) (sym (lines-behind so_far.passed text so_far.whole))
    (bad (lines_of so_far.passed) (sym (counts (lines_of so_far.passed) start taker so_far.took)) (good (lines_of so_far.passed) start taker so_far.took))

-- the last line is bad
pub reading-refused : (T : Type 0) (Took : TakingLines T) (number : T → ℕ) (start taker : T) (old now : Option (List ℕ)) (before after : ℕ) (held : List ℕ) (count : ℕ) (fault : CutFault)
    → IsCounted T Took number → AreGood T Took → ReadingSoFar T Took start taker old now before after held count → count ≤ INPUT_LIMIT → IsAtEnd now
    → IsFirstBadBehind (number taker) (lines_of held) fault → fault ≢ refused.NoMemory → IsRefusedFile fault old now
reading-refused T Took number start taker old now before after held count fault counts good so_far few ends bad named = record {
  input = so_far.passed ++ held;
  whole = reading-whole T Took start taker old now before after held count so_far few ends;
  bad = bad-behind T Took number start taker old now before after held held count fault counts good so_far bad;
  named = named;
}

-- what is left of the file was read behind what is held
pub record ReadBehind (old new : Option (List ℕ)) (bytes : List ℕ) (count : ℕ) : Type 0 where
  pub more : List ℕ
  pub consumed : Consumes old new (bytes ++ more)
  pub counted : count ≡ length (bytes ++ more)
  pub ended : count ≤ INPUT_LIMIT → IsAtEnd new

read-behind : (T : Type 0) (Took : TakingLines T) (start taker : T) (old now new : Option (List ℕ)) (before after : ℕ) (held : List ℕ) (count count' : ℕ)
    → (so_far : ReadingSoFar T Took start taker old now before after held count) → IsReadOut now new count count' → ReadBehind old new (so_far.passed ++ held) count'
read-behind T Took start taker old now new before after held count count' so_far out = record {
  more = out.given;
  consumed = Consumes-trans old now new (so_far.passed ++ held) out.given so_far.consumed out.consumed;
  counted = omega (arith, out.counted, so_far.counted, length-append (so_far.passed ++ held) out.given);
  ended = out.ended;
}

-- the file is too long behind a bad line
pub reading-long-behind : (T : Type 0) (Took : TakingLines T) (start taker : T) (old now new : Option (List ℕ)) (before after : ℕ) (held : List ℕ) (count count' : ℕ)
    → ReadingSoFar T Took start taker old now before after held count → IsReadOut now new count count' → count' ≡ INPUT_LIMIT + 1 → IsLongFile old new
reading-long-behind T Took start taker old now new before after held count count' so_far out past =
    let behind = read-behind T Took start taker old now new before after held count count' so_far out in
    record { input = (so_far.passed ++ held) ++ behind.more; consumed = behind.consumed; past = sym behind.counted ∙ past }

-- one of these lines is bad, and what is left of the file was read
pub reading-refused-behind : (T : Type 0) (Took : TakingLines T) (number : T → ℕ) (start taker : T) (old now new : Option (List ℕ)) (before after : ℕ) (held : List ℕ) (count count' n : ℕ) (fault : CutFault)
    → IsCounted T Took number → AreGood T Took → ReadingSoFar T Took start taker old now before after held count → IsReadOut now new count count' → count' ≤ INPUT_LIMIT
    → AreWholeLines (take n held) → IsFirstBadBehind (number taker) (lines_of (take n held)) fault → fault ≢ refused.NoMemory → IsRefusedFile fault old new
reading-refused-behind T Took number start taker old now new before after held count count' n fault counts good so_far out few whole bad named =
    let behind = read-behind T Took start taker old now new before after held count count' so_far out in
    let text : List ℕ = take n held in
    let front : List ℕ = so_far.passed ++ text in
    let rest : List ℕ = drop n held ++ behind.more in
    let all : (so_far.passed ++ held) ++ behind.more ≡ front ++ rest =
    ap (λ (l : List ℕ). (so_far.passed ++ l) ++ behind.more) (sym (take-append-drop n held))
    ∙ ap (λ (l : List ℕ). l ++ behind.more) (sym (append_assoc so_far.passed text (drop n held)))
    ∙ append_assoc front (drop n held) behind.more in
    let lines : lines_of ((so_far.passed ++ held) ++ behind.more) ≡ lines_of front ++ lines_of rest =
    ap lines_of all ∙ lines-behind front rest (whole-more so_far.passed text so_far.whole whole) in
    record {
      input = (so_far.passed ++ held) ++ behind.more;
      whole = record { consumed = behind.consumed; ended = behind.ended few; within = omega (arith, behind.counted) };
      bad = subst (λ (ls : List (List ℕ)). IsFirstBad ls fault) (sym lines)
          (bad-before (lines_of front) (lines_of rest) fault
          (bad-behind T Took number start taker old now before after held text count fault counts good so_far bad));
      named = named;
    }
