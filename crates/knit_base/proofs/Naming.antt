-- The names of carriers, as the code keeps them.
use Rattle.std.proofs.Common.{rules, ◌≡◌, ◌≢◌, ℕ, ◌+◌, ◌<◌, ◌≤◌, List, get_or, [], ◌∷◌, ◌++◌, All, codes, length, map, sum_by, Option, None, Some, position, true, false, ap, sym, ◌∙◌, refl, arith, length-append}
use Rattle.std.specs.Option.{option_map}
use Rattle.std.specs.List.{list_any, AllByRecursion, AllZip}
use Rattle.std.specs.Str.{bytes_eq}
use Rattle.std.specs.String.{string_bytes, string_eq}
use Rattle.std.specs.Bool.{if◌then◌else◌}
use Rattle.std.proofs.lemmas.List.{map-append}
use Rattle.std.proofs.lemmas.List.Elements.{All-append, All-cons, All-from_recursion, All-head, All-nil, All-push, All-tail, All-weaker}
use Rattle.std.proofs.lemmas.List.Folds.{list_any_at}
use Rattle.std.proofs.lemmas.List.Sums.{sum_by-cons}
use Rattle.std.proofs.lemmas.List.Quantifiers.{all_pairs_push}
use Rattle.std.proofs.lemmas.Slice.Eq.{bytes_eq-Decides}
use Rattle.std.proofs.lemmas.Bool.{true≢false}
use Rattle.std.proofs.Common.{Global, String}
use Rattle.knit_base.specs.Names.{carrier_of, header_line, spaced_names, IsName, AreNames, IsNameByte, names_len}
use Rattle.knit_base.specs.Lines.{HasNoLineEnd}
use Rattle.knit_base.proofs.Places.{position-map, list_any-none}

abbrev pub texts : List (String Global) → List (List ℕ)
texts keys = map string_bytes keys

-- a place among the keys is the carrier
pub carrier_of-place : (keys seen : List (String Global)) (names : List (List ℕ)) (name : List ℕ) (place : Option ℕ) → texts keys ≡ names → seen ≡ keys
    → place ≡ position (λ d. bytes_eq name (string_bytes d)) seen → option_map (λ i. record { 0 = i }) place ≡ carrier_of names name
carrier_of-place keys seen names name place view same is =
    ap (option_map (λ i. record { 0 = i }))
    (is ∙ ap (position (λ d. bytes_eq name (string_bytes d))) same ∙ sym (position-map (bytes_eq name) string_bytes keys) ∙ ap (position (bytes_eq name)) view)

no_place : {A : Type 0} (o : Option ℕ) (f : ℕ → A) → option_map f o ≡ None → o ≡ None
no_place None f e = refl
no_place (Some i) f e = cc

-- a name that no carrier has is no key
pub no_key : (keys : List (String Global)) (names : List (List ℕ)) (name : List ℕ) → texts keys ≡ names → carrier_of names name ≡ None
    → list_any (λ d. bytes_eq name (string_bytes d)) keys ≡ false
no_key keys names name view none =
    list_any-none (λ d. bytes_eq name (string_bytes d)) keys
    (sym (position-map (bytes_eq name) string_bytes keys) ∙ ap (position (bytes_eq name)) view ∙ no_place (position (bytes_eq name) names) _ none)

-- a name that no carrier has is another than each of theirs
other_name : (names : List (List ℕ)) (name : List ℕ) → carrier_of names name ≡ None → (k : ℕ) (d : List ℕ) → k < length names → get_or names k d ≢ name
other_name names name none k d within same =
    let here : list_any (bytes_eq name) names ≡ true = list_any_at (bytes_eq name) names k d within ((bytes_eq-Decides name (get_or names k d)).1 (sym same)) in
    true≢false (sym here ∙ list_any-none (bytes_eq name) names (no_place (position (bytes_eq name) names) _ none))

-- names with a new one behind them
pub names-push : (names : List (List ℕ)) (name : List ℕ) → AreNames names → IsName name → length names < 64 → names_len (names ++ name ∷ []) ≤ 65524 → carrier_of names name ≡ None
    → AreNames (names ++ name ∷ [])
names-push names name are is few room new = record {
  few = omega (arith, length-append names (name ∷ []));
  differ = all_pairs_push (λ name later. name ≢ later) names name are.differ (other_name names name new);
  each = All-push IsName names name are.each is;
  room = room;
}

-- a copy has the same names
pub texts-clone : (keys copy : List (String Global)) → AllZip (λ k l. string_bytes l ≡ string_bytes k) keys copy → texts copy ≡ texts keys
texts-clone [] [] all = refl
texts-clone [] (l ∷ ls) all = absurd all
texts-clone (k ∷ ks) [] all = absurd all
texts-clone (k ∷ ks) (l ∷ ls) all = ap (λ t. t ∷ texts ls) all.0 ∙ ap (λ ts. string_bytes k ∷ ts) (texts-clone ks ls all.1)

-- a key that isn't there goes to the end
pub texts-insert : (keys after : List (String Global)) (new : String Global) (names : List (List ℕ)) (name : List ℕ) → texts keys ≡ names → string_bytes new ≡ name
    → after ≡ (if list_any (string_eq new) keys then keys else keys ++ new ∷ []) → carrier_of names name ≡ None → texts after ≡ names ++ name ∷ []
texts-insert keys after new names name view same is none =
    let other : list_any (string_eq new) keys ≡ false =
    ap (λ n. list_any (λ d. bytes_eq n (string_bytes d)) keys) same ∙ no_key keys names name view none in
    ap texts (is ∙ ap (λ b. if b then keys else keys ++ new ∷ []) other)
    ∙ map-append string_bytes keys (new ∷ [])
    ∙ ap (λ ts. ts ++ string_bytes new ∷ []) view
    ∙ ap (λ t. names ++ t ∷ []) same

-- the line of a header with these names is one line
module _ where
  abbrev passes : ℕ → Type 0
  passes byte = byte ≢ 10

  spaced_one : (names : List (List ℕ)) → All IsName names → HasNoLineEnd (spaced_names names)
  spaced_one [] are = All-nil passes
  spaced_one (name ∷ names) are =
      let first : IsName name = All-head IsName name names are in
      All-append passes (codes " " ++ name) (spaced_names names)
      (All-cons passes 32 name (λ is. absurd (cc)) (All-weaker IsNameByte passes (λ byte is. is.2) name first.plain))
      (spaced_one names (All-tail IsName name names are))

  pub line_one : (names : List (List ℕ)) → AreNames names → HasNoLineEnd (header_line names)
  line_one names are = All-append passes (codes ";;Carriers:") (spaced_names names) (All-from_recursion passes (codes ";;Carriers:") plain) (spaced_one names are.each)
    where
      plain : AllByRecursion passes (codes ";;Carriers:")
      plain = search rules

-- and not too long
pub line_short : (names : List (List ℕ)) → AreNames names → length (header_line names) < 65536
line_short names are = omega (arith, length-append (codes ";;Carriers:") (spaced_names names), length-spaced names, are.room)
  where
    length-spaced : (names : List (List ℕ)) → length (spaced_names names) ≡ names_len names
    length-spaced [] = refl
    length-spaced (name ∷ names) =
        omega (arith, length-append name (spaced_names names), length-spaced names, sum_by-cons (λ (each : List ℕ). length each + 1) name names)
