-- What more lines of a conversation ask for, and what a line asks for that is cut.
use Rattle.std.proofs.Common.{◌≡◌, ℕ, zero, suc, ◌+◌, ◌<◌, ◌≤◌, Bool, true, false, nat_le, List, [], ◌∷◌, ◌++◌, length, take, drop, Option, Some, if◌then◌else◌, ap, ◌∙◌, append_assoc, sym, refl, arith}
use Rattle.std.proofs.lemmas.List.{length-take-le, take_all}
use Rattle.script_reader.specs.Hearing.{Awaiting, Hearing, Nothing, Order, Passing, Text, fault_of, heard, hearing_behind, orders_from, other_heard, text_heard}
use Rattle.script_reader.specs.Statements.{is_text_line}
use Rattle.script_reader.specs.declared.fault.Cause.{Cause}
use Rattle.script_reader.specs.declared.fault.Cause.TheVariants.{LineLong}

-- they ask for what the first of them ask for, and then for what the others do behind these
pub orders-more : (h : Hearing) (number : ℕ) (lines more : List (List ℕ)) → orders_from h number (lines ++ more) ≡ orders_from h number lines ++ orders_from (hearing_behind h number lines) (number + length lines) more
orders-more h number [] more = ap (λ (n : ℕ). orders_from h n more) (omega arith)
orders-more h number (line ∷ lines) more =
    ap (λ (l : List Order). (heard h number line).0 ++ l) (orders-more (heard h number line).1 (number + 1) lines more)
    ∙ sym (append_assoc (heard h number line).0 (orders_from (heard h number line).1 (number + 1) lines) (orders_from (hearing_behind h number (line ∷ lines)) (number + 1 + length lines) more))
    ∙ ap (λ (n : ℕ). orders_from h number (line ∷ lines) ++ orders_from (hearing_behind h number (line ∷ lines)) n more) (omega arith)

-- of a text line that can't be read nothing else counts
unread : (h : Hearing) (a : Awaiting) (number : ℕ) (cause : Cause) (text other : List ℕ) → text_heard h a number (Some cause) text ≡ text_heard h a number (Some cause) other
unread h Nothing number cause text other = refl
unread h Passing number cause text other = refl
unread h (Text edits missing before) number cause text other = refl

too_long : (line : List ℕ) → 4096 < length line → fault_of line ≡ Some LineLong
too_long line long = let e : nat_le (length line) 4096 ≡ false = grind arith in rw e

-- a line that isn't empty begins as its fronts do
begins : (count : ℕ) (line : List ℕ) → 0 < count → is_text_line (take count line) ≡ is_text_line line
begins zero line some = absurd (omega (arith, some))
begins (suc count) [] some = refl
begins (suc count) (byte ∷ line) some = refl

-- two lines that can't be read, and begin in the same way, are heard alike
alike : (h : Hearing) (number : ℕ) (line other : List ℕ) (text other_text : Bool) (fault other_fault : Option Cause) → text ≡ other_text → fault ≡ Some LineLong → other_fault ≡ Some LineLong
    → (if text then text_heard h h.awaiting number fault (drop 1 line) else other_heard h number fault line) ≡ (if other_text then text_heard h h.awaiting number other_fault (drop 1 other) else other_heard h number other_fault other)
alike h number line other true true fault other_fault same long other_long = rw (long, other_long) (unread h h.awaiting number LineLong (drop 1 line) (drop 1 other))
alike h number line other true false fault other_fault same long other_long = grind arith
alike h number line other false true fault other_fault same long other_long = grind arith
alike h number line other false false fault other_fault same long other_long = rw (long, other_long) refl

-- a front of over 4,096 bytes is heard as the whole line is
pub line-cut : (h : Hearing) (number count : ℕ) (line : List ℕ) → 4096 < count → heard h number (take count line) ≡ heard h number line
line-cut h number count line long = cut (nat_le (length line) count) refl
  where
    cut : (fits : Bool) → nat_le (length line) count ≡ fits → heard h number (take count line) ≡ heard h number line
    cut true e = ap (heard h number) (take_all count line (grind arith))
    cut false e =
        let longer : count ≤ length line = grind arith in
        let cut_len : length (take count line) ≡ count = length-take-le count line longer in
        alike h number (take count line) line (is_text_line (take count line)) (is_text_line line) (fault_of (take count line)) (fault_of line)
        (begins count line (omega arith)) (too_long (take count line) (omega arith)) (too_long line (omega arith))
