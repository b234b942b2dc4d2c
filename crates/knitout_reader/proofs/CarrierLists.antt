-- Where a list of carriers has been read to.
use Rattle.std.proofs.Common.{◌≡◌, ℕ, ◌+◌, ◌-◌, ◌<◌, ◌≤◌, ◌^◌, Bool, true, false, cond, List, [], ◌∷◌, ◌++◌, length, drop, Option, Some, All, is_none, ap, sym, subst, ◌∙◌, refl, arith, length-append, length-drop, nat_eq, ◌*◌, ◌%◌, ◌||◌, ◌≢◌, bit_or, append_assoc, ⊎_elim}
use Rattle.std.specs.Option.{option_map}
use Rattle.std.specs.List.{position_from, cons_option}
use Rattle.std.specs.Int.{bit_at, w64}
use Rattle.std.proofs.lemmas.Iterator.Adapters.{position_from-zero}
use Rattle.std.proofs.lemmas.List.{take_rest, drop-drop}
use Rattle.std.proofs.lemmas.List.Elements.{All-push}
use Rattle.std.proofs.lemmas.List.Folds.{list_any-append}
use Rattle.std.proofs.lemmas.Bool.Decides.{eqb_tells}
use Rattle.std.proofs.lemmas.Nat.Bits.{bit_at_set_same, bit_at_set_other}
use Rattle.std.proofs.Math.Bool.{or-false}
use Rattle.knit_base.specs.declared.yarns.CarrierNo.{CarrierNo}
use Rattle.knit_base.specs.declared.rule.Reason.{Reason}
use Rattle.knit_base.specs.declared.rule.Rule.{Rule}
use Rattle.knit_base.specs.declared.rule.Rule.TheVariants.{NoCarrier, CarrierTwice}
use Rattle.knit_base.specs.Names.{carrier_of}
use Rattle.knit_base.specs.Reasons.{first_broken, or_else}
use Rattle.knit_base.specs.Yarns.{contains_carrier}
use Rattle.knit_base.proofs.Places.{by_test}
use Rattle.knitout_reader.specs.Carriers.{is_undeclared, carriers_of, no_carrier, is_among, twice_behind, carrier_rule}
use Rattle.knitout_reader.specs.Tokens.{tokens_of}
use Rattle.knitout_reader.proofs.TokenRuns.{rest_from}

-- the rule is broken at this token
abbrev pub broken_at : Rule → ℕ → Reason
broken_at rule at = record { rule = rule; at = at }

-- a place counted from one item later
shifted : {A : Type 0} (fails : A → Bool) (rule : Rule) (at i : ℕ) (xs : List A)
    → option_map (λ j. broken_at rule (at + j)) (position_from fails (i + 1) xs) ≡ option_map (λ j. broken_at rule ((at + 1) + j)) (position_from fails i xs)
shifted fails rule at i [] = refl
shifted fails rule at i (x ∷ xs) =
    by_test (fails x)
    (λ is.
    ap (λ b. option_map (λ j. broken_at rule (at + j)) (cond b (Some (i + 1)) (position_from fails (i + 1 + 1) xs))) is
    ∙ ap (λ n. Some (broken_at rule n)) (omega arith)
    ∙ sym (ap (λ b. option_map (λ j. broken_at rule ((at + 1) + j)) (cond b (Some i) (position_from fails (i + 1) xs))) is))
    (λ isnt.
    ap (λ b. option_map (λ j. broken_at rule (at + j)) (cond b (Some (i + 1)) (position_from fails (i + 1 + 1) xs))) isnt
    ∙ shifted fails rule at (i + 1) xs
    ∙ sym (ap (λ b. option_map (λ j. broken_at rule ((at + 1) + j)) (cond b (Some i) (position_from fails (i + 1) xs))) isnt))

-- the first item decides, or the others
pub first_broken-cons : {A : Type 0} (fails : A → Bool) (rule : Rule) (at : ℕ) (x : A) (xs : List A)
    → first_broken fails rule at (x ∷ xs) ≡ cond (fails x) (Some (broken_at rule at)) (first_broken fails rule (at + 1) xs)
first_broken-cons fails rule at x xs =
    ap (option_map (λ j. broken_at rule (at + j))) (position_from-zero fails (x ∷ xs))
    ∙ by_test (fails x)
    (λ is.
    ap (λ b. option_map (λ j. broken_at rule (at + j)) (cond b (Some 0) (position_from fails 1 xs))) is
    ∙ ap (λ n. Some (broken_at rule n)) (omega arith)
    ∙ sym (ap (λ b. cond b (Some (broken_at rule at)) (first_broken fails rule (at + 1) xs)) is))
    (λ isnt.
    ap (λ b. option_map (λ j. broken_at rule (at + j)) (cond b (Some 0) (position_from fails 1 xs))) isnt
    ∙ shifted fails rule at 0 xs
    ∙ ap (option_map (λ j. broken_at rule ((at + 1) + j))) (sym (position_from-zero fails xs))
    ∙ sym (ap (λ b. cond b (Some (broken_at rule at)) (first_broken fails rule (at + 1) xs)) isnt))

-- a name that a carrier has, in front
named_first : (names : List (List ℕ)) (at : ℕ) (t : List ℕ) (ts : List (List ℕ)) → is_undeclared names t ≡ false → no_carrier names at (t ∷ ts) ≡ no_carrier names (at + 1) ts
named_first names at t ts is =
    first_broken-cons (is_undeclared names) NoCarrier at t ts
    ∙ ap (λ b. cond b (Some (broken_at NoCarrier at)) (no_carrier names (at + 1) ts)) is

-- what one call of `next_token` found in what is left of the code
pub record IsNext (code : List ℕ) (start : ℕ) (name behind : List ℕ) : Type 0 where
  pub split : tokens_of (rest_from code start) ≡ name ∷ tokens_of behind
  pub shorter : length name + length behind ≤ length (rest_from code start)
  pub suffix : behind ≡ drop (length (rest_from code start) - length behind) (rest_from code start)

-- how long the rest is
pub left_len : (code : List ℕ) (start : ℕ) → length (rest_from code start) ≡ length code - start
left_len code start = ap length (take_rest code start) ∙ length-drop start code

-- the place in the code at which the rest begins
pub next_start : (code : List ℕ) (start : ℕ) (name behind : List ℕ) → start ≤ length code → IsNext code start name behind → rest_from code (length code - length behind) ≡ behind
next_start code start name behind within next =
    let len : length (rest_from code start) ≡ length code - start = left_len code start in
    let shorter : length name + length behind ≤ length (rest_from code start) = next.shorter in
    let far : start + (length (rest_from code start) - length behind) ≡ length code - length behind = omega arith in
    take_rest code (length code - length behind)
    ∙ ap (λ n. drop n code) (sym far)
    ∙ sym (drop-drop (length (rest_from code start) - length behind) start code)
    ∙ ap (drop (length (rest_from code start) - length behind)) (sym (take_rest code start))
    ∙ sym next.suffix

next_tokens : (code : List ℕ) (start : ℕ) (name behind : List ℕ) → start ≤ length code → IsNext code start name behind
    → tokens_of (rest_from code start) ≡ name ∷ tokens_of (rest_from code (length code - length behind))
next_tokens code start name behind within next = next.split ∙ ap (λ b. name ∷ tokens_of b) (sym (next_start code start name behind within next))

-- every name so far is a carrier's
pub record SoughtSoFar (names : List (List ℕ)) (code : List ℕ) (at place start : ℕ) : Type 0 where
  pub within : start ≤ length code
  pub room : place + length (tokens_of (rest_from code start)) < 2 ^ 16
  pub goes_on : no_carrier names at (tokens_of code) ≡ no_carrier names place (tokens_of (rest_from code start))

or_true : (b : Bool) → (b || true) ≡ true
or_true true = refl
or_true false = refl

-- a set with one more carrier, and a list with one more
seen-more : (seen : ℕ) (yarns : List CarrierNo) (c : CarrierNo) → c.0 < 64 → ((d : CarrierNo) → contains_carrier seen d ≡ is_among yarns d)
    → (d : CarrierNo) → contains_carrier (bit_or seen (1 * 2 ^ c.0 % 2 ^ 64)) d ≡ is_among (yarns ++ c ∷ []) d
seen-more seen yarns c small so_far d =
    ⊎_elim
    (λ (same : (nat_eq c.0 d.0 ≡ true) × (c.0 ≡ d.0)).
    ap (λ n. nat_eq n 1) (ap (bit_at (bit_or seen (1 * 2 ^ c.0 % 2 ^ 64))) (sym same.1) ∙ bit_at_set_same w64 seen c.0 small)
    ∙ sym (or_true (is_among yarns d))
    ∙ ap (λ b. is_among yarns d || (b || false)) (sym same.0)
    ∙ sym (list_any-append (λ (e : CarrierNo). nat_eq e.0 d.0) yarns (c ∷ [])))
    (λ (other : (nat_eq c.0 d.0 ≡ false) × (c.0 ≢ d.0)).
    ap (λ n. nat_eq n 1) (bit_at_set_other w64 seen c.0 small d.0 (λ e. other.1 (sym e)))
    ∙ so_far d
    ∙ sym (or-false (is_among yarns d))
    ∙ ap (λ b. is_among yarns d || (b || false)) (sym other.0)
    ∙ sym (list_any-append (λ (e : CarrierNo). nat_eq e.0 d.0) yarns (c ∷ [])))
    (eqb_tells c.0 d.0)

twice_later : (before : List CarrierNo) (at : ℕ) (c : CarrierNo) (cs : List CarrierNo) → is_among before c ≡ false → twice_behind before at (c ∷ cs) ≡ twice_behind (before ++ c ∷ []) (at + 1) cs
twice_later before at c cs isnt = ap (λ b. cond b (Some (broken_at CarrierTwice at)) (twice_behind (before ++ c ∷ []) (at + 1) cs)) isnt

-- what the rules say of tokens behind these carriers
abbrev pub rule_behind : List (List ℕ) → List CarrierNo → ℕ → List (List ℕ) → Option Reason
rule_behind names before at tokens = or_else (no_carrier names at tokens) (twice_behind before at (carriers_of names tokens))

carriers_first : (names : List (List ℕ)) (t : List ℕ) (ts : List (List ℕ)) (c : CarrierNo) → Some c ≡ carrier_of names t → carriers_of names (t ∷ ts) ≡ c ∷ carriers_of names ts
carriers_first names t ts c is = ap (λ o. cons_option o (carriers_of names ts)) (sym is)

-- the carriers of the tokens so far; none is undeclared, and none stands twice
pub record GatheredSoFar (names : List (List ℕ)) (code : List ℕ) (at place start : ℕ) (yarns : List CarrierNo) (seen : ℕ) : Type 0 where
  pub within : start ≤ length code
  pub room : place + length (tokens_of (rest_from code start)) < 2 ^ 16
  pub counted : place ≡ at + length yarns
  pub taken : length yarns + length (tokens_of (rest_from code start)) ≡ length (tokens_of code)
  pub each : All (λ c. c.0 < length names) yarns
  pub set : (c : CarrierNo) → contains_carrier seen c ≡ is_among yarns c
  pub rule : carrier_rule names at (tokens_of code) ≡ rule_behind names yarns place (tokens_of (rest_from code start))
  pub found : yarns ++ carriers_of names (tokens_of (rest_from code start)) ≡ carriers_of names (tokens_of code)

-- one carrier more
pub gathered-more : (names : List (List ℕ)) (code : List ℕ) (at place start : ℕ) (yarns after : List CarrierNo) (seen : ℕ) (name behind : List ℕ) (c : CarrierNo)
    → GatheredSoFar names code at place start yarns seen → IsNext code start name behind → Some c ≡ carrier_of names name → c.0 < length names → c.0 < 64
    → contains_carrier seen c ≡ false → after ≡ yarns ++ c ∷ []
    → GatheredSoFar names code at (place + 1) (length code - length behind) after (bit_or seen (1 * 2 ^ c.0 % 2 ^ 64))
gathered-more names code at place start yarns after seen name behind c so_far next is declared small new pushed =
    let start' : ℕ = length code - length behind in
    let tokens : tokens_of (rest_from code start) ≡ name ∷ tokens_of (rest_from code start') = next_tokens code start name behind so_far.within next in
    let later : List (List ℕ) = tokens_of (rest_from code start') in
    subst (λ ys. GatheredSoFar names code at (place + 1) start' ys (bit_or seen (1 * 2 ^ c.0 % 2 ^ 64))) (sym pushed) (record {
      within = omega arith;
      room = omega (arith, so_far.room, ap length tokens);
      counted = omega (arith, so_far.counted, length-append yarns (c ∷ []));
      taken = omega (arith, so_far.taken, ap length tokens, length-append yarns (c ∷ []));
      each = All-push (λ d. d.0 < length names) yarns c so_far.each declared;
      set = seen-more seen yarns c small so_far.set;
      rule = so_far.rule
          ∙ ap (rule_behind names yarns place) tokens
          ∙ ap (λ o. or_else o (twice_behind yarns place (carriers_of names (name ∷ later)))) (named_first names place name later (ap is_none (sym is)))
          ∙ ap (λ cs. or_else (no_carrier names (place + 1) later) (twice_behind yarns place cs)) (carriers_first names name later c is)
          ∙ ap (or_else (no_carrier names (place + 1) later)) (twice_later yarns place c (carriers_of names later) (sym (so_far.set c) ∙ new));
      found = append_assoc yarns (c ∷ []) (carriers_of names later)
          ∙ ap (λ cs. yarns ++ cs) (sym (carriers_first names name later c is))
          ∙ ap (λ ts. yarns ++ carriers_of names ts) (sym tokens)
          ∙ so_far.found;
    })
