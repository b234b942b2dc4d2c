-- The first line of a saved text, and those of what stands behind it.
use Rattle.std.proofs.Common.{◌≡◌, ◌∙◌, ℕ, ◌+◌, ◌-◌, ◌<◌, ◌≤◌, false, nat_lt, cond, None, Some, List, [], ◌∷◌, length, take, drop, position, All, ap, refl, sym, arith, length-drop}
use Rattle.std.specs.List.{position_or_len, slice_split}
use Rattle.std.proofs.lemmas.Bool.{ltb-false}
use Rattle.std.proofs.lemmas.List.{take_all}
use Rattle.std.proofs.lemmas.List.Quantifiers.{position-Some}
use Rattle.std.proofs.lemmas.List.Splits.{length-slice_split, slice_split_first, slice_split_none}
use Rattle.std.proofs.lemmas.List.Sums.{fails_before_first, position_or_len_is}
use Rattle.std.proofs.lemmas.Option.{none-some}
use Rattle.knit_base.specs.Lines.{is_line_feed, without_empty_end}
use Rattle.knit_base.proofs.Places.{by_test}
use Rattle.verdict_report.specs.VerdictText.{Text}
use Rattle.reply_report.specs.TalkJson.{saved_lines}

-- a piece that others follow stays, also where it is empty
not_last : (piece : Text) (pieces : List Text) → 0 < length pieces → without_empty_end (piece ∷ pieces) ≡ piece ∷ without_empty_end pieces
not_last piece [] some = absurd (omega arith)
not_last [] (next ∷ pieces) some = refl
not_last (byte ∷ bytes) (next ∷ pieces) some = refl

last_piece : (text : Text) → 0 < length text → without_empty_end (text ∷ []) ≡ text ∷ []
last_piece [] some = absurd (omega arith)
last_piece (byte ∷ bytes) some = refl

-- a line feed was found
pub line-found : (text : Text) (end : ℕ) → position is_line_feed text ≡ Some end
    → saved_lines text ≡ take end text ∷ saved_lines (take (length text - (end + 1)) (drop (end + 1) text))
line-found text end found =
    let is = position-Some is_line_feed text end 0 found in
    let at : position_or_len is_line_feed text ≡ end = position_or_len_is is_line_feed text end 0 (omega (arith, is.0)) is.2 (λ below. is.1) in
    let first : slice_split is_line_feed text ≡ take end text ∷ slice_split is_line_feed (drop (end + 1) text) =
    slice_split_first is_line_feed text 0 (omega (arith, at, is.0)) ∙ (λ i. take (at i) text ∷ slice_split is_line_feed (drop (at i + 1) text)) in
    ap without_empty_end first
    ∙ not_last (take end text) (slice_split is_line_feed (drop (end + 1) text)) (omega (arith, length-slice_split is_line_feed (drop (end + 1) text)))
    ∙ ap (λ rest. take end text ∷ saved_lines rest) (sym (take_all (length text - (end + 1)) (drop (end + 1) text) (omega (arith, length-drop (end + 1) text))))

no_feed : (text : Text) → position is_line_feed text ≡ None → All (λ byte. is_line_feed byte ≡ false) text
no_feed text none =
    let at : ℕ = position_or_len is_line_feed text in
    let past : length text ≤ at =
    by_test (nat_lt at (length text))
    (λ below. absurd (none-some at (sym none ∙ ap (λ b. cond b (Some at) None) below)))
    (λ above. ltb-false at (length text) above) in
    λ k d below. fails_before_first is_line_feed text k d (omega (arith, below, past))

-- none was found: all that is left is one line
pub line-left : (text : Text) → 0 < length text → position is_line_feed text ≡ None → saved_lines text ≡ text ∷ []
line-left text some none = ap without_empty_end (slice_split_none is_line_feed text (no_feed text none)) ∙ last_piece text some
