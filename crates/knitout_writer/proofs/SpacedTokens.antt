-- Tokens that were written with one space between two, and the comment behind them.
use Rattle.std.proofs.Common.{◌≡◌, ℕ, ◌+◌, ◌<◌, ◌⊎◌, ⊎_elim, inl, inr, Bool, true, false, List, [], ◌∷◌, ◌++◌, length, take, drop, get_or, All, Option, None, Some, is_some, position, nat_lt, cond, ap, sym, subst, ◌∙◌, refl, arith, length-append, append_assoc, append-nil}
use Rattle.std.specs.List.{position_or_len}
use Rattle.std.proofs.lemmas.Bool.{cond-true, cond-false, lt-ltb}
use Rattle.std.proofs.lemmas.List.{drop_more, take_all}
use Rattle.std.proofs.lemmas.List.Elements.{All-nil, All-cons, All-head, All-tail, All-append, All-weaker}
use Rattle.std.proofs.lemmas.List.Quantifiers.{position-Some}
use Rattle.std.proofs.lemmas.List.Sums.{position_or_len_is}
use Rattle.std.proofs.Math.ListN.{get_or-append}
use Rattle.std.proofs.Math.Seq.{get_or-append_seam, take-append_seam, drop-append_seam}
use Rattle.std.proofs.lemmas.Bool.{eqb-true, ltb-true}
use Rattle.knit_base.proofs.Places.{by_test}
use Rattle.knitout_reader.specs.Tokens.{tokens_of, before_comment, has_comment, is_blank, is_semicolon}
use Rattle.knitout_reader.proofs.TokenRuns.{Blank, Plain, tokens_of-blanks, tokens_of-token}
use Rattle.knitout_writer.specs.Canonical.{tokens_spaced, each_spaced, comment_of, comment_from, comment_behind}

-- no comment begins in the text
abbrev pub Clear : List ℕ → Type 0
Clear text = All (λ byte. is_semicolon byte ≡ false) text

-- the byte is no blank and begins no comment
abbrev pub IsWordByte : ℕ → Type 0
IsWordByte byte = (is_blank byte ≡ false) × (is_semicolon byte ≡ false)

-- a token that can stand before a comment
pub record IsWord (token : List ℕ) : Type 0 where
  pub some : 0 < length token
  pub bytes : All IsWordByte token

plain_of : (token : List ℕ) → IsWord token → All Plain token
plain_of token word = All-weaker IsWordByte Plain (λ b both. both.0) token word.bytes

clear_of : (token : List ℕ) → IsWord token → Clear token
clear_of token word = All-weaker IsWordByte (λ b. is_semicolon b ≡ false) (λ b both. both.1) token word.bytes

-- the text is empty or begins with a blank
abbrev pub Starts : List ℕ → Type 0
Starts rest = 0 < length rest → Blank (get_or rest 0 0)

starts_each : (tokens : List (List ℕ)) (rest : List ℕ) → Starts rest → Starts (each_spaced tokens ++ rest)
starts_each [] rest starts = starts
starts_each (token ∷ tokens) rest starts = λ some. refl

tokens-each : (tokens : List (List ℕ)) (rest : List ℕ) → All IsWord tokens → Starts rest → tokens_of (each_spaced tokens ++ rest) ≡ tokens ++ tokens_of rest
tokens-each [] rest are starts = refl
tokens-each (token ∷ tokens) rest are starts =
    let word : IsWord token = All-head IsWord token tokens are in
    ap (λ t. tokens_of (32 ∷ t)) (append_assoc token (each_spaced tokens) rest)
    ∙ tokens_of-blanks (32 ∷ []) (token ++ (each_spaced tokens ++ rest)) (All-cons Blank 32 [] refl (All-nil Blank))
    ∙ tokens_of-token token (each_spaced tokens ++ rest) word.some (plain_of token word) (starts_each tokens rest starts)
    ∙ ap (λ ts. token ∷ ts) (tokens-each tokens rest (All-tail IsWord token tokens are) starts)

-- words with one space between two are the tokens of their text
pub tokens-spaced : (token : List ℕ) (tokens : List (List ℕ)) (rest : List ℕ) → All IsWord (token ∷ tokens) → Starts rest
    → tokens_of (tokens_spaced (token ∷ tokens) ++ rest) ≡ token ∷ (tokens ++ tokens_of rest)
tokens-spaced token tokens rest are starts =
    let word : IsWord token = All-head IsWord token tokens are in
    ap tokens_of (append_assoc token (each_spaced tokens) rest)
    ∙ tokens_of-token token (each_spaced tokens ++ rest) word.some (plain_of token word) (starts_each tokens rest starts)
    ∙ ap (λ ts. token ∷ ts) (tokens-each tokens rest (All-tail IsWord token tokens are) starts)

clear-each : (tokens : List (List ℕ)) → All IsWord tokens → Clear (each_spaced tokens)
clear-each [] are = All-nil (λ byte. is_semicolon byte ≡ false)
clear-each (token ∷ tokens) are =
    All-append (λ byte. is_semicolon byte ≡ false) (32 ∷ token) (each_spaced tokens)
    (All-cons (λ byte. is_semicolon byte ≡ false) 32 token refl (clear_of token (All-head IsWord token tokens are)))
    (clear-each tokens (All-tail IsWord token tokens are))

-- no comment begins among them
pub clear-spaced : (token : List ℕ) (tokens : List (List ℕ)) → All IsWord (token ∷ tokens) → Clear (tokens_spaced (token ∷ tokens))
clear-spaced token tokens are =
    All-append (λ byte. is_semicolon byte ≡ false) token (each_spaced tokens) (clear_of token (All-head IsWord token tokens are)) (clear-each tokens (All-tail IsWord token tokens are))

-- where the comment of a line begins
pub record Commented (line code comment : List ℕ) (some : Bool) : Type 0 where
  pub before : before_comment line ≡ code
  pub has : has_comment line ≡ some
  pub behind : comment_of line ≡ comment

first_semicolon : (code more : List ℕ) → Clear code → position_or_len is_semicolon (code ++ 59 ∷ more) ≡ length code
first_semicolon code more clear =
    position_or_len_is is_semicolon (code ++ 59 ∷ more) (length code) 0 (omega (arith, length-append code (59 ∷ more)))
    (λ k below. subst (λ b. is_semicolon b ≡ false) (sym (get_or-append code (59 ∷ more) 0 k below)) (clear k 0 below))
    (λ inside. ap is_semicolon (get_or-append_seam code 59 more 0))

position-first : (line : List ℕ) (n : ℕ) → position_or_len is_semicolon line ≡ n → n < length line → position is_semicolon line ≡ Some n
position-first line n is inside =
    ap (λ i. cond (nat_lt i (length line)) (Some i) None) is ∙ cond-true (nat_lt n (length line)) (Some n) None (lt-ltb n (length line) inside)

-- what stands before a `;` is the code of the line
pub commented : (code more : List ℕ) → Clear code → Commented (code ++ 59 ∷ more) code (59 ∷ more) true
commented code more clear =
    let at : position is_semicolon (code ++ 59 ∷ more) ≡ Some (length code) =
    position-first (code ++ 59 ∷ more) (length code) (first_semicolon code more clear) (omega (arith, length-append code (59 ∷ more))) in
    record {
      before = ap (λ n. take n (code ++ 59 ∷ more)) (first_semicolon code more clear) ∙ take-append_seam code (59 ∷ more);
      has = ap is_some at;
      behind = ap (λ o. comment_from o (code ++ 59 ∷ more)) at ∙ drop-append_seam code (59 ∷ more);
    }

no_semicolon : (code : List ℕ) → Clear code → position_or_len is_semicolon code ≡ length code
no_semicolon code clear = position_or_len_is is_semicolon code (length code) 0 (omega arith) (λ k below. clear k 0 below) (λ inside. absurd (omega arith))

-- a line without a `;` is all code
pub no_semicolon_all_code : (code : List ℕ) → Clear code → Commented code code [] false
no_semicolon_all_code code clear =
    let none : position is_semicolon code ≡ None =
    ap (λ i. cond (nat_lt i (length code)) (Some i) None) (no_semicolon code clear)
    ∙ by_test (nat_lt (length code) (length code)) (λ is. absurd (omega (arith, ltb-true (length code) (length code) is))) (λ isnt. cond-false (nat_lt (length code) (length code)) (Some (length code)) None isnt) in
    record {
      before = ap (λ n. take n code) (no_semicolon code clear) ∙ take_all (length code) code (omega arith);
      has = ap is_some none;
      behind = ap (λ o. comment_from o code) none;
    }

-- a comment begins with its semicolon
pub comment_cases : (line : List ℕ) (place : Option ℕ) → position is_semicolon line ≡ place
    → ((has_comment line ≡ false) × (comment_of line ≡ [])) ⊎ ((more : List ℕ) × (has_comment line ≡ true) × (comment_of line ≡ 59 ∷ more))
comment_cases line None is = inl (ap is_some is, ap (λ o. comment_from o line) is)
comment_cases line (Some i) is =
    let found = position-Some is_semicolon line i 0 is in
    let semicolon : get_or line i 0 ≡ 59 = eqb-true (get_or line i 0) 59 found.1 in
    inr (drop (i + 1) line, ap is_some is, ap (λ o. comment_from o line) is ∙ drop_more line i 0 found.0 ∙ ap (λ b. b ∷ drop (i + 1) line) semicolon)

-- a line whose tokens are these, and whose comment is that of another line
pub record IsRespaced (line new : List ℕ) (tokens : List (List ℕ)) : Type 0 where
  pub spelled : tokens_of (before_comment new) ≡ tokens
  pub has : has_comment new ≡ has_comment line
  pub comment : comment_of new ≡ comment_of line

-- a line of words with one space between two is its own spelling
pub spaced_words_canonical : (line token : List ℕ) (tokens : List (List ℕ)) → All IsWord (token ∷ tokens)
    → IsRespaced line (tokens_spaced (token ∷ tokens) ++ comment_behind (comment_of line)) (token ∷ tokens)
spaced_words_canonical line token tokens are =
    let clear : Clear (tokens_spaced (token ∷ tokens)) = clear-spaced token tokens are in
    ⊎_elim
    (λ (none : (has_comment line ≡ false) × (comment_of line ≡ [])).
    let bare : IsRespaced line (tokens_spaced (token ∷ tokens) ++ []) (token ∷ tokens) =
    let plain : Commented (tokens_spaced (token ∷ tokens) ++ []) (tokens_spaced (token ∷ tokens)) [] false = subst (λ l. Commented l (tokens_spaced (token ∷ tokens)) [] false) (sym (append-nil (tokens_spaced (token ∷ tokens)))) (no_semicolon_all_code (tokens_spaced (token ∷ tokens)) clear) in
    record {
      spelled =
          ap tokens_of (plain.before ∙ sym (append-nil (tokens_spaced (token ∷ tokens))))
          ∙ tokens-spaced token tokens [] are (λ some. absurd (omega arith)) ∙ ap (λ ts. token ∷ ts) (append-nil tokens);
      has = plain.has ∙ sym none.0;
      comment = plain.behind ∙ sym none.1;
    } in
    subst (λ c. IsRespaced line (tokens_spaced (token ∷ tokens) ++ comment_behind c) (token ∷ tokens)) (sym none.1) bare)
    (λ (some : (more : List ℕ) × (has_comment line ≡ true) × (comment_of line ≡ 59 ∷ more)).
    let clear_before : Clear (tokens_spaced (token ∷ tokens) ++ 32 ∷ []) =
    All-append (λ byte. is_semicolon byte ≡ false) (tokens_spaced (token ∷ tokens)) (32 ∷ []) clear (All-cons (λ byte. is_semicolon byte ≡ false) 32 [] refl (All-nil (λ byte. is_semicolon byte ≡ false))) in
    let behind : Commented ((tokens_spaced (token ∷ tokens) ++ 32 ∷ []) ++ 59 ∷ some.0) (tokens_spaced (token ∷ tokens) ++ 32 ∷ []) (59 ∷ some.0) true = commented (tokens_spaced (token ∷ tokens) ++ 32 ∷ []) some.0 clear_before in
    let joined : IsRespaced line ((tokens_spaced (token ∷ tokens) ++ 32 ∷ []) ++ 59 ∷ some.0) (token ∷ tokens) = record {
      spelled = ap tokens_of behind.before ∙ tokens-spaced token tokens (32 ∷ []) are (λ inside. refl) ∙ ap (λ ts. token ∷ ts) (append-nil tokens);
      has = behind.has ∙ sym some.1;
      comment = behind.behind ∙ sym some.2;
    } in
    subst (λ c. IsRespaced line (tokens_spaced (token ∷ tokens) ++ comment_behind c) (token ∷ tokens)) (sym some.2)
    (subst (λ l. IsRespaced line l (token ∷ tokens)) (append_assoc (tokens_spaced (token ∷ tokens)) (32 ∷ []) (59 ∷ some.0)) joined))
    (comment_cases line (position is_semicolon line) refl)
