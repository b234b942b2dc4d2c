-- The names that an entry gives the header, from what a header line with them gives.
use Rattle.std.proofs.Common.{◌≡◌, ◌≢◌, ◌∙◌, ℕ, ◌+◌, ◌<◌, ◌≤◌, true, List, [], ◌∷◌, ◌++◌, length, Some, codes, ap, sym, subst, refl, rules, arith, length-append}
use Rattle.std.specs.List.{AllByRecursion}
use Rattle.std.specs.Str.{IsUtf8, is_utf8}
use Rattle.std.proofs.lemmas.List.Elements.{All-append, All-cons, All-from_recursion, All-nil, All-tail}
use Rattle.std.proofs.lemmas.List.Sums.{sum_by-cons}
use Rattle.std.proofs.lemmas.Str.{IsCharBoundary-after_ascii, IsUtf8-append, IsUtf8-drop, IsUtf8-from_ascii, IsUtf8-from_is_utf8, is_utf8-from_IsUtf8}
use Rattle.std.proofs.lemmas.Str.Ascii.{IsAscii-from_all}
use Rattle.knit_base.specs.Lines.{HasNoLineEnd, IsLine}
use Rattle.knit_base.specs.Names.{IsName, names_len, spaced_names}
use Rattle.knitout_reader.specs.Head.{names_declared, names_in_line, names_or_none}
use Rattle.knitout_reader.proofs.HeaderLines.{declared_again}
use Rattle.knitout_reader.proofs.TokenRuns.{Blank, tokens_of-blanks}
use Rattle.journal_file.specs.Headers.{IsNames}

-- a space before the names is one blank more
names_after_space : (rest : List ℕ) → names_in_line (codes ";;Carriers:" ++ (codes " " ++ rest)) ≡ names_in_line (codes ";;Carriers:" ++ rest)
names_after_space rest = ap (λ ns. names_or_none (names_declared (record { line = 1; names = ns }))) (tokens_of-blanks (32 ∷ []) rest (All-cons Blank 32 [] refl (All-nil Blank)))

-- the names that the text tells are those that the line gives
pub told_again : (text rest : List ℕ) → text ≡ codes " " ++ rest → (names : List (List ℕ)) → IsNames names text → names_in_line (codes ";;Carriers:" ++ rest) ≡ Some names
told_again text rest behind names is =
    sym (names_after_space rest)
    ∙ ap (λ t. names_in_line (codes ";;Carriers:" ++ t)) (sym behind ∙ is.spelt)
    ∙ declared_again names is.are

-- what stands behind the space is UTF-8, and so is the whole
pub rest_utf8 : (text rest : List ℕ) → text ≡ codes " " ++ rest → is_utf8 text ≡ true → is_utf8 rest ≡ true
rest_utf8 text rest behind utf8 =
    let whole : IsUtf8 (32 ∷ rest) = subst IsUtf8 behind (IsUtf8-from_is_utf8 text utf8) in
    is_utf8-from_IsUtf8 rest (IsUtf8-drop (32 ∷ rest) 1 whole (IsCharBoundary-after_ascii (32 ∷ rest) 0 whole (omega arith) (omega arith)))

pub text_utf8 : (text rest : List ℕ) → text ≡ codes " " ++ rest → is_utf8 rest ≡ true → is_utf8 text ≡ true
text_utf8 text rest behind utf8 =
    is_utf8-from_IsUtf8 text (subst IsUtf8 (sym behind) (IsUtf8-append (codes " ") rest (IsUtf8-from_ascii (codes " ") (IsAscii-from_all (codes " ") (All-from_recursion (λ byte. byte < 128) (codes " ") plain))) (IsUtf8-from_is_utf8 rest utf8)))
  where
    plain : AllByRecursion (λ byte. byte < 128) (codes " ")
    plain = search rules

-- and short enough
spaced_length : (names : List (List ℕ)) → length (spaced_names names) ≡ names_len names
spaced_length [] = refl
spaced_length (name ∷ names) = omega (arith, length-append name (spaced_names names), spaced_length names, sum_by-cons (λ (each : List ℕ). length each + 1) name names)

pub rest_short : (text rest : List ℕ) → text ≡ codes " " ++ rest → (names : List (List ℕ)) → IsNames names text → length rest ≤ 65523
rest_short text rest behind names is = let room = is.are.room in omega (arith, ap length behind, ap length is.spelt, spaced_length names, room)

-- no names
pub no_names : (text : List ℕ) → length text ≡ 0 → IsNames [] text
no_names [] none = record {
  spelt = refl;
  are = record { few = omega arith; differ = λ i j d less within. absurd (omega (arith, within)); each = All-nil IsName; room = omega arith };
  utf8 = is_utf8-from_IsUtf8 [] (IsUtf8-from_ascii [] (λ k. omega arith));
}
no_names (b ∷ text) none = absurd (omega (arith, none))

pub names_behind_space : (text : List ℕ) → 0 < length text → ((rest : List ℕ) → text ≢ codes " " ++ rest) → (names : List (List ℕ)) → IsNames names text → ⊥
names_behind_space text some never [] is = omega (arith, some, ap length is.spelt)
names_behind_space text some never (name ∷ names) is = never (name ++ spaced_names names) is.spelt

pub rest_one : (text rest : List ℕ) → text ≡ codes " " ++ rest → HasNoLineEnd text → HasNoLineEnd rest
rest_one text rest behind one = All-tail (λ byte. byte ≢ 10) 32 rest (subst HasNoLineEnd behind one)

-- the line that is read for them
pub carriers_line : (rest : List ℕ) → HasNoLineEnd rest → is_utf8 rest ≡ true → length rest ≤ 65523 → IsLine (codes ";;Carriers:" ++ rest)
carriers_line rest one utf8 short = record {
  utf8 = is_utf8-from_IsUtf8 (codes ";;Carriers:" ++ rest) (IsUtf8-append (codes ";;Carriers:") rest (IsUtf8-from_ascii (codes ";;Carriers:") (IsAscii-from_all (codes ";;Carriers:") (All-from_recursion (λ byte. byte < 128) (codes ";;Carriers:") plain))) (IsUtf8-from_is_utf8 rest utf8));
  one = All-append (λ byte. byte ≢ 10) (codes ";;Carriers:") rest (All-from_recursion (λ byte. byte ≢ 10) (codes ";;Carriers:") whole) one;
  short = omega (arith, short, length-append (codes ";;Carriers:") rest);
}
  where
    plain : AllByRecursion (λ byte. byte < 128) (codes ";;Carriers:")
    plain = search rules

    whole : AllByRecursion (λ byte. byte ≢ 10) (codes ";;Carriers:")
    whole = search rules
