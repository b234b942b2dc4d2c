-- The first token of a text, and how many tokens there can be.
use Rattle.std.proofs.Common.{◌≡◌, ℕ, ◌+◌, ◌-◌, ◌*◌, ◌<◌, ◌≤◌, Bool, true, false, List, [], ◌∷◌, ◌++◌, length, take, drop, get_or, filter, nat_lt, All, ap, sym, subst, ◌∙◌, refl, arith, ⊎_elim, append-nil, take-append-drop, length-drop, Option, None, Some, is_some, position, MatchOption}
use Rattle.std.specs.List.{slice_split, onto_first, position_or_len, list_any}
use Rattle.std.proofs.lemmas.List.{drop_all, length-take, get_or-drop, take_rest}
use Rattle.std.proofs.lemmas.Bool.{cond-true, cond-false, lt-ltb, ltb-true, false≢true, cases_lt}
use Rattle.std.proofs.lemmas.List.Elements.{All-cons, All-head, All-nil, All-tail}
use Rattle.std.proofs.lemmas.List.Folds.{list_any_at}
use Rattle.std.proofs.lemmas.List.Quantifiers.{position-Some}
use Rattle.std.proofs.lemmas.List.Splits.{slice_split-cons_yes, slice_split-cons_no, slice_split_none, slice_split_at, length-slice_split}
use Rattle.knit_base.proofs.Places.{by_test}
use Rattle.knitout_reader.specs.Tokens.{tokens_of, before_comment, is_blank, is_semicolon, IsToken}

-- the run has some bytes
abbrev pub run_has_bytes : List ℕ → Bool
run_has_bytes run = nat_lt 0 (length run)

-- the byte is a blank
abbrev pub Blank : ℕ → Type 0
Blank byte = is_blank byte ≡ true

-- the byte is none
abbrev pub Plain : ℕ → Type 0
Plain byte = is_blank byte ≡ false

-- a run that isn't empty is kept
kept : (run : List ℕ) (runs : List (List ℕ)) → 0 < length run → filter run_has_bytes (run ∷ runs) ≡ run ∷ filter run_has_bytes runs
kept run runs some = cond-true (run_has_bytes run) (run ∷ filter run_has_bytes runs) (filter run_has_bytes runs) (lt-ltb 0 (length run) some)

-- blanks in front are no part of any token
pub tokens_of-blanks : (blanks text : List ℕ) → All Blank blanks → tokens_of (blanks ++ text) ≡ tokens_of text
tokens_of-blanks [] text are = refl
tokens_of-blanks (b ∷ blanks) text are =
    ap (filter run_has_bytes) (slice_split-cons_yes is_blank b (blanks ++ text) (All-head Blank b blanks are))
    ∙ tokens_of-blanks blanks text (All-tail Blank b blanks are)

-- a token that ends the text
tokens_of-last : (token : List ℕ) → 0 < length token → All Plain token → tokens_of token ≡ token ∷ []
tokens_of-last token some are = ap (filter run_has_bytes) (slice_split_none is_blank token are) ∙ kept token [] some

-- a token before a blank
tokens_of-before : (token : List ℕ) (b : ℕ) (text : List ℕ) → 0 < length token → All Plain token → Blank b
    → tokens_of (token ++ b ∷ text) ≡ token ∷ tokens_of (b ∷ text)
tokens_of-before token b text some are blank =
    ap (filter run_has_bytes) (slice_split_at is_blank token b text are blank)
    ∙ kept token (slice_split is_blank text) some
    ∙ ap (λ ts. token ∷ ts) (sym (ap (filter run_has_bytes) (slice_split-cons_yes is_blank b text blank)))

-- a token that goes on as long as it can
pub tokens_of-token : (token text : List ℕ) → 0 < length token → All Plain token → (0 < length text → Blank (get_or text 0 0))
    → tokens_of (token ++ text) ≡ token ∷ tokens_of text
tokens_of-token token [] some are ends = ap tokens_of (append-nil token) ∙ tokens_of-last token some are
tokens_of-token token (b ∷ text) some are ends = tokens_of-before token b text some are (ends (omega arith))

-- a token with a space behind it
pub tokens_of-spaced : (token text : List ℕ) → 0 < length token → All Plain token → tokens_of (token ++ 32 ∷ text) ≡ token ∷ tokens_of text
tokens_of-spaced token text some are =
    tokens_of-before token 32 text some are refl
    ∙ ap (λ ts. token ∷ ts) (tokens_of-blanks (32 ∷ []) text (All-cons Blank 32 [] refl (All-nil Blank)))

-- what the first token of a text is, and what stands behind it
pub record IsFirstToken (code token behind : List ℕ) : Type 0 where
  pub split : tokens_of code ≡ token ∷ tokens_of behind
  pub stands : IsToken token

starts_plain : (rest : List ℕ) (end : ℕ) → 0 < length rest → Plain (get_or rest 0 0) → (end < length rest → Blank (get_or rest end 0)) → 0 < end
starts_plain rest end some plain ends =
    ⊎_elim
    (λ (before : 0 < end). before)
    (λ (at : end ≤ 0).
    let none : 0 ≡ end = omega arith in
    absurd (false≢true (sym plain ∙ ap (λ n. is_blank (get_or rest n 0)) none ∙ ends (omega arith))))
    (cases_lt 0 end)

at_start : (code rest : List ℕ) (start : ℕ) → rest ≡ drop start code → Plain (get_or code start 0) → Plain (get_or rest 0 0)
at_start code rest start is plain = subst Plain (ap (λ n. get_or code n 0) (omega arith) ∙ sym (get_or-drop start code 0 0) ∙ ap (λ (r : List ℕ). get_or r 0 0) (sym is)) plain

-- the text is blanks, then a token, then a text that begins with a blank or is empty
pub first_token : (code rest token behind : List ℕ) (start end : ℕ) → All Blank (take start code) → start < length code → Plain (get_or code start 0)
    → rest ≡ drop start code → All Plain (take end rest) → end ≤ length rest → (end < length rest → Blank (get_or rest end 0))
    → token ≡ take end rest → behind ≡ drop end rest
    → IsFirstToken code token behind
first_token code rest token behind start end blanks left starts is_rest plain within ends is_token is_behind =
    let long : 0 < length rest = omega (arith, ap length is_rest, length-drop start code) in
    let some : 0 < end = starts_plain rest end long (at_start code rest start is_rest starts) ends in
    let token_some : 0 < length (take end rest) = omega (arith, length-take end rest) in
    record {
      split =
          sym (ap tokens_of (take-append-drop start code))
          ∙ tokens_of-blanks (take start code) (drop start code) blanks
          ∙ ap tokens_of (sym is_rest)
          ∙ sym (ap tokens_of (take-append-drop end rest))
          ∙ tokens_of-token (take end rest) (drop end rest) token_some plain
          (λ more. subst Blank (ap (λ n. get_or rest n 0) (omega arith) ∙ sym (get_or-drop end rest 0 0)) (ends (omega (arith, more, length-drop end rest))))
          ∙ ap (λ t. t ∷ tokens_of (drop end rest)) (sym is_token)
          ∙ ap (λ b. token ∷ tokens_of b) (sym is_behind);
      stands = subst IsToken (sym is_token) (record { some = token_some; plain = plain });
    }

-- what a slice from this place on holds
abbrev pub rest_from : List ℕ → ℕ → List ℕ
rest_from text i = take (length text - i) (drop i text)

-- the same, as the code takes the text apart
pub first_token_at : (code : List ℕ) (start end : ℕ) → All Blank (take start code) → start < length code → (start < length code → Plain (get_or code start 0))
    → All Plain (take end (rest_from code start)) → end ≤ length (rest_from code start)
    → (end < length (rest_from code start) → Blank (get_or (rest_from code start) end 0))
    → IsFirstToken code (take end (rest_from code start)) (rest_from (rest_from code start) end)
first_token_at code start end blanks left starts plain within ends =
    first_token code (rest_from code start) (take end (rest_from code start)) (rest_from (rest_from code start) end) start end
    blanks left (starts left) (take_rest code start) plain within ends refl (take_rest (rest_from code start) end)

-- a text of blanks has no token
pub no_token : (code : List ℕ) (start : ℕ) → All Blank (take start code) → length code ≤ start → tokens_of code ≡ []
no_token code start blanks past =
    sym (ap tokens_of (take-append-drop start code))
    ∙ tokens_of-blanks (take start code) (drop start code) blanks
    ∙ ap tokens_of (drop_all start code past)

-- the bytes of the runs, and one blank for each
abbrev pub runs_len : List (List ℕ) → ℕ
runs_len [] = 0
runs_len (run ∷ runs) = (length run + 1) + runs_len runs

two_each : (runs : List (List ℕ)) → 2 * length (filter run_has_bytes runs) ≤ runs_len runs
two_each [] = omega arith
two_each (run ∷ runs) =
    by_test (run_has_bytes run)
    (λ is. omega (arith, two_each runs, ltb-true 0 (length run) is, ap length (cond-true (run_has_bytes run) (run ∷ filter run_has_bytes runs) (filter run_has_bytes runs) is)))
    (λ isnt. omega (arith, two_each runs, ap length (cond-false (run_has_bytes run) (run ∷ filter run_has_bytes runs) (filter run_has_bytes runs) isnt)))

longer_first : (b : ℕ) (runs : List (List ℕ)) → 0 < length runs → runs_len (onto_first b runs) ≡ runs_len runs + 1
longer_first b [] some = absurd (omega arith)
longer_first b (run ∷ runs) some = omega arith

split_len : (text : List ℕ) → runs_len (slice_split is_blank text) ≡ length text + 1
split_len [] = omega arith
split_len (b ∷ text) =
    let some : 0 < length (slice_split is_blank text) = omega (arith, length-slice_split is_blank text) in
    by_test (is_blank b)
    (λ is. omega (arith, split_len text, ap runs_len (slice_split-cons_yes is_blank b text is)))
    (λ isnt. omega (arith, split_len text, longer_first b (slice_split is_blank text) some, ap runs_len (slice_split-cons_no is_blank b text isnt)))

-- the most tokens that a text can have: one byte each, with a blank between two
pub few_tokens : (code : List ℕ) → 2 * length (tokens_of code) ≤ length code + 1
few_tokens code = omega (arith, two_each (slice_split is_blank code), split_len code)

-- what stands before the comment is no longer than the line
pub short_code : (line : List ℕ) → length (before_comment line) ≤ length line
short_code line = omega (arith, length-take (position_or_len is_semicolon line) line)

no_place : (line : List ℕ) (place : Option ℕ) → list_any is_semicolon line ≡ false → position is_semicolon line ≡ place → None ≡ place
no_place line None none is = refl
no_place line (Some i) none is =
    let found = position-Some is_semicolon line i 0 is in
    absurd (false≢true (sym none ∙ list_any_at is_semicolon line i 0 found.0 found.1))

-- where no byte is a `;`, no comment begins
pub no_semicolon : (line : List ℕ) → list_any is_semicolon line ≡ false → None ≡ position is_semicolon line
no_semicolon line none = no_place line (position is_semicolon line) none refl

-- what holds where nothing was found
pub none_found : {A : Type 0} (found : Option A) (P : Type 0) (Q : A → Type 0) (some : Bool) → some ≡ is_some found → some ≡ false → MatchOption found P Q → P
none_found None P Q some is none holds = holds
none_found (Some x) P Q some is none holds = absurd (false≢true (sym none ∙ is))
