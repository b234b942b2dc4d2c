-- The line of a header that is spelled from names gives these names.
use Rattle.std.proofs.Common.{◌≡◌, ◌≢◌, ℕ, zero, suc, ◌<◌, ◌≤◌, ◌==◌, Bool, true, false, ◌||◌, nat_lt, List, [], ◌∷◌, ◌++◌, length, get_or, Some, All, ap, sym, ◌∙◌, refl, arith}
use Rattle.std.specs.List.{list_any, AllPairs}
use Rattle.std.specs.Str.{bytes_eq}
use Rattle.std.proofs.lemmas.Bool.{cond-false, ltb-true, eqb-true}
use Rattle.std.proofs.lemmas.List.Elements.{All-cons, All-head, All-nil, All-tail, All-weaker}
use Rattle.std.proofs.lemmas.Slice.Eq.{bytes_eq-Decides}
use Rattle.knit_base.proofs.Places.{by_test}
use Rattle.knit_base.specs.Names.{header_line, spaced_names, AreNames, IsName, IsNameByte}
use Rattle.knitout_reader.specs.Head.{has_name_twice, names_declared, names_in_line, names_or_none}
use Rattle.knitout_reader.specs.Tokens.{is_blank, tokens_of}
use Rattle.knitout_reader.proofs.TokenRuns.{Blank, Plain, tokens_of-blanks, tokens_of-token}

-- a byte of a name is no blank
plain_byte : (byte : ℕ) → IsNameByte byte → Plain byte
plain_byte byte is =
    by_test (byte == 32) (λ space. absurd (is.0 (eqb-true byte 32 space)))
    (λ none.
    ap (λ b. b || (byte == 9)) none
    ∙ by_test (byte == 9) (λ tab. absurd (is.1 (eqb-true byte 9 tab))) (λ none. none))

-- behind names there is a space, or the end
ends : (names : List (List ℕ)) → 0 < length (spaced_names names) → Blank (get_or (spaced_names names) 0 0)
ends [] some = absurd (omega arith)
ends (name ∷ names) some = refl

-- the tokens of names behind spaces
spaced_tokens : (names : List (List ℕ)) → All IsName names → tokens_of (spaced_names names) ≡ names
spaced_tokens [] are = refl
spaced_tokens (name ∷ names) are =
    let first : IsName name = All-head IsName name names are in
    tokens_of-blanks (32 ∷ []) (name ++ spaced_names names) (All-cons Blank 32 [] refl (All-nil Blank))
    ∙ tokens_of-token name (spaced_names names) first.some (All-weaker IsNameByte Plain plain_byte name first.plain) (ends names)
    ∙ ap (λ ts. name ∷ ts) (spaced_tokens names (All-tail IsName name names are))

-- a name that differs from each of these isn't among them
none_same : (name : List ℕ) (names : List (List ℕ)) → ((k : ℕ) (d : List ℕ) → k < length names → name ≢ get_or names k d) → list_any (bytes_eq name) names ≡ false
none_same name [] differ = refl
none_same name (n ∷ names) differ =
    by_test (bytes_eq name n) (λ same. absurd (differ 0 [] (omega arith) ((bytes_eq-Decides name n).0 same)))
    (λ other. ap (λ b. b || list_any (bytes_eq name) names) other ∙ none_same name names (λ k d within. differ (suc k) d (omega arith)))

differ_once : (names : List (List ℕ)) → AllPairs (λ name later. name ≢ later) names → has_name_twice names ≡ false
differ_once [] differ = refl
differ_once (name ∷ names) differ =
    ap (λ b. b || has_name_twice names) (none_same name names (λ k d within. differ 0 (suc k) d (omega arith) (omega arith)))
    ∙ differ_once names (λ i j d less within. differ (suc i) (suc j) d (omega arith) (omega arith))

-- what a header's line is spelled from is what it declares
pub declared_again : (names : List (List ℕ)) → AreNames names → names_in_line (header_line names) ≡ Some names
declared_again names are =
    let few : nat_lt 64 (length names) ≡ false =
    by_test (nat_lt 64 (length names)) (λ more. absurd (omega (arith, ltb-true 64 (length names) more, are.few))) (λ none. none) in
    ap (λ ns. names_or_none (names_declared (record { line = 1; names = ns }))) (spaced_tokens names are.each)
    ∙ ap names_or_none (cond-false (has_name_twice names) _ _ (differ_once names are.differ) ∙ cond-false (nat_lt 64 (length names)) _ _ few)
