-- What one more line of a conversation asks for, behind others.
use Rattle.std.proofs.Common.{◌≡◌, ℕ, ◌+◌, List, [], ◌∷◌, ◌++◌, length, map, ap, ◌∙◌, arith, append-nil}
use Rattle.std.proofs.lemmas.List.{length-map, map-append}
use Rattle.knit_base.specs.Lines.{without_return}
use Rattle.script_reader.specs.Hearing.{OrdersAndHearing, Hearing, Order, heard, hearing_behind, orders_from}
use Rattle.script_reader.proofs.Hearings.{orders-more}

pub orders_more : (h : Hearing) (number : ℕ) (lines : List (List ℕ)) (line : List ℕ)
    → orders_from h number (lines ++ line ∷ [])
    ≡ orders_from h number lines ++ (heard (hearing_behind h number lines) (number + length lines) line).0
orders_more h number lines line =
    orders-more h number lines (line ∷ [])
    ∙ ap (λ (more : List Order). orders_from h number lines ++ more)
    (append-nil (heard (hearing_behind h number lines) (number + length lines) line).0)

pub hearing_more : (h : Hearing) (number : ℕ) (lines : List (List ℕ)) (line : List ℕ)
    → hearing_behind h number (lines ++ line ∷ []) ≡ (heard (hearing_behind h number lines) (number + length lines) line).1
hearing_more h number [] line = ap (λ (n : ℕ). (heard h n line).1) (omega arith)
hearing_more h number (first ∷ lines) line =
    hearing_more (heard h number first).1 (number + 1) lines line
    ∙ ap (λ (n : ℕ). (heard (hearing_behind h number (first ∷ lines)) n line).1) (omega arith)

-- the same of lines without the carriage return at the end of each
pub returned_more : (lines : List (List ℕ)) (line : List ℕ)
    → map without_return (lines ++ line ∷ []) ≡ map without_return lines ++ without_return line ∷ []
returned_more lines line = map-append without_return lines (line ∷ [])

pub returned_count : (lines : List (List ℕ)) → length (map without_return lines) ≡ length lines
returned_count lines = length-map lines without_return

-- one more of them is heard behind the others
abbrev last_heard : Hearing → ℕ → List (List ℕ) → List ℕ → ℕ → OrdersAndHearing
last_heard h number lines line count = heard (hearing_behind h number (map without_return lines)) (number + count) (without_return line)

pub orders_returned : (h : Hearing) (number : ℕ) (lines : List (List ℕ)) (line : List ℕ)
    → orders_from h number (map without_return (lines ++ line ∷ []))
    ≡ orders_from h number (map without_return lines)
    ++ (heard (hearing_behind h number (map without_return lines)) (number + length lines) (without_return line)).0
orders_returned h number lines line =
    ap (orders_from h number) (returned_more lines line)
    ∙ orders_more h number (map without_return lines) (without_return line)
    ∙ ap (λ (n : ℕ). orders_from h number (map without_return lines) ++ (last_heard h number lines line n).0) (returned_count lines)

pub hearing_returned : (h : Hearing) (number : ℕ) (lines : List (List ℕ)) (line : List ℕ)
    → hearing_behind h number (map without_return (lines ++ line ∷ []))
    ≡ (heard (hearing_behind h number (map without_return lines)) (number + length lines) (without_return line)).1
hearing_returned h number lines line =
    ap (hearing_behind h number) (returned_more lines line)
    ∙ hearing_more h number (map without_return lines) (without_return line)
    ∙ ap (λ (n : ℕ). (last_heard h number lines line n).1) (returned_count lines)
