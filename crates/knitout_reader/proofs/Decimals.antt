-- A rack's text has one sign, one whole and one fraction.
use Rattle.std.proofs.Common.{◌≡◌, ◌≢◌, ⊎_elim, ℕ, ◌+◌, ◌<◌, ◌≤◌, Bool, true, false, List, [], ◌∷◌, ◌++◌, length, get_or, All, ap, sym, subst, ◌∙◌, refl, arith, codes, length-append, Option, None, Some, MatchOption, min}
use Rattle.std.proofs.lemmas.List.Elements.{All-head, All-tail}
use Rattle.knitout_reader.specs.declared.number.TheConstants.{FAR}
use Rattle.knitout_reader.specs.declared.rack.RackToken.{RackToken}
use Rattle.knitout_reader.specs.Numbers.{IsDecimal, IsDigit, IsNoPoint, IsQuarter, IsRack, IsSign, value_of_digits}
use Rattle.knitout_reader.proofs.Signs.{first_byte, other_bytes}

no_points : (digits : List ℕ) → All IsDigit digits → All IsNoPoint digits
no_points digits are = λ k d below e. let digit : IsDigit (get_or digits k d) = are k d below in omega (arith, digit.0, e)

-- the first point of a text is at one place
one_point : (whole front fraction behind : List ℕ) → All IsNoPoint whole → All IsNoPoint front → whole ++ 46 ∷ fraction ≡ front ++ 46 ∷ behind → (whole ≡ front) × (fraction ≡ behind)
one_point [] [] fraction behind none none' same = (refl, other_bytes _ _ _ _ same)
one_point [] (b ∷ front) fraction behind none none' same = absurd (All-head IsNoPoint b front none' (sym (first_byte _ _ _ _ same)))
one_point (b ∷ whole) [] fraction behind none none' same = absurd (All-head IsNoPoint b whole none (first_byte _ _ _ _ same))
one_point (b ∷ whole) (d ∷ front) fraction behind none none' same =
    let others : (whole ≡ front) × (fraction ≡ behind) =
    one_point whole front fraction behind (All-tail IsNoPoint b whole none) (All-tail IsNoPoint d front none') (other_bytes _ _ _ _ same) in
    ((λ i. first_byte _ _ _ _ same i ∷ others.0 i), others.1)

-- a text with a point isn't digits alone
point_stays : (whole fraction : List ℕ) → All IsNoPoint (whole ++ 46 ∷ fraction) → ⊥
point_stays [] fraction none = All-head IsNoPoint 46 fraction none refl
point_stays (b ∷ whole) fraction none = point_stays whole fraction (All-tail IsNoPoint b (whole ++ 46 ∷ fraction) none)

-- digits without a point
abbrev pub Alone : List ℕ → List ℕ → List ℕ → Type 0
Alone text whole fraction = (text ≡ whole) × (fraction ≡ []) × (0 < length whole)

-- digits with a point among them or beside them
abbrev pub Pointed : List ℕ → List ℕ → List ℕ → Type 0
Pointed text whole fraction = (text ≡ whole ++ 46 ∷ fraction) × (0 < length whole + length fraction)

-- the parts before and behind the first point are the whole and the fraction
pub at_point : (text front behind whole fraction : List ℕ) → text ≡ front ++ 46 ∷ behind → All IsNoPoint front → IsDecimal text whole fraction
    → (front ≡ whole) × (behind ≡ fraction) × (0 < length whole + length fraction)
at_point text front behind whole fraction parts none decimal =
    ⊎_elim
    (λ (alone : Alone text whole fraction). absurd (point_stays front behind (subst (All IsNoPoint) (sym alone.0 ∙ parts) (no_points whole decimal.0))))
    (λ (pointed : Pointed text whole fraction).
    let same : (front ≡ whole) × (behind ≡ fraction) = one_point front whole behind fraction none (no_points whole decimal.0) (sym parts ∙ pointed.0) in
    (same.0, same.1, pointed.1))
    decimal.2

-- a text without a point is the whole
pub no_point : (text whole fraction : List ℕ) → All IsNoPoint text → IsDecimal text whole fraction → Alone text whole fraction
no_point text whole fraction none decimal =
    ⊎_elim
    (λ (alone : Alone text whole fraction). alone)
    (λ (pointed : Pointed text whole fraction). absurd (point_stays whole fraction (subst (All IsNoPoint) pointed.0 none)))
    decimal.2

one_decimal : (text whole fraction whole' fraction' : List ℕ) → IsDecimal text whole fraction → IsDecimal text whole' fraction' → (whole ≡ whole') × (fraction ≡ fraction')
one_decimal text whole fraction whole' fraction' one other =
    ⊎_elim
    (λ (alone : Alone text whole fraction).
    let alone' : Alone text whole' fraction' = no_point text whole' fraction' (subst (All IsNoPoint) (sym alone.0) (no_points whole one.0)) other in
    (sym alone.0 ∙ alone'.0, alone.1 ∙ sym alone'.1))
    (λ (pointed : Pointed text whole fraction).
    let same : (whole ≡ whole') × (fraction ≡ fraction') × (0 < length whole' + length fraction') = at_point text whole fraction whole' fraction' pointed.0 (no_points whole one.0) other in
    (same.0, same.1))
    one.2

-- a point alone is no decimal
pub point_alone : (text front behind whole fraction : List ℕ) → length text ≡ 1 → text ≡ front ++ 46 ∷ behind → All IsNoPoint front → IsDecimal text whole fraction → ⊥
point_alone text front behind whole fraction one parts none decimal =
    let same : (front ≡ whole) × (behind ≡ fraction) × (0 < length whole + length fraction) = at_point text front behind whole fraction parts none decimal in
    absurd (omega (arith, one, ap length parts, length-append front (46 ∷ behind), ap length same.0, ap length same.1, same.2))

whole_front : (whole fraction : List ℕ) → All IsDigit whole → 46 ≤ get_or (whole ++ 46 ∷ fraction) 0 0
whole_front [] fraction are = omega arith
whole_front (d ∷ whole) fraction are = let digit : IsDigit d = All-head IsDigit d whole are in omega (arith, digit.0)

-- a decimal begins with a digit or a point, and so with no sign
decimal_front : (text whole fraction : List ℕ) → IsDecimal text whole fraction → 46 ≤ get_or text 0 0
decimal_front text whole fraction decimal =
    ⊎_elim
    (λ (alone : Alone text whole fraction).
    let digit : IsDigit (get_or whole 0 0) = decimal.0 0 0 alone.2 in
    omega (arith, digit.0, ap (λ (t : List ℕ). get_or t 0 0) alone.0))
    (λ (pointed : Pointed text whole fraction). subst (λ (t : List ℕ). 46 ≤ get_or t 0 0) (sym pointed.0) (whole_front whole fraction decimal.0))
    decimal.2

-- the sign that a text begins with is its sign
minus_sign : (negative : Bool) (sign text rest : List ℕ) → IsSign sign negative → 46 ≤ get_or rest 0 0 → 45 ∷ text ≡ sign ++ rest → (true ≡ negative) × (text ≡ rest)
minus_sign true sign text rest is front same = (refl, other_bytes _ _ _ _ (same ∙ ap (λ s. s ++ rest) is))
minus_sign false sign text rest is front same =
    ⊎_elim
    (λ (none : sign ≡ []).
    let begins : 45 ≡ get_or rest 0 0 = ap (λ (t : List ℕ). get_or t 0 0) (same ∙ ap (λ s. s ++ rest) none) in
    absurd (omega (arith, begins, front)))
    (λ (plus : sign ≡ codes "+"). let begins : 45 ≡ 43 = first_byte _ _ _ _ (same ∙ ap (λ s. s ++ rest) plus) in absurd (omega (arith, begins)))
    is

plus_sign : (negative : Bool) (sign text rest : List ℕ) → IsSign sign negative → 46 ≤ get_or rest 0 0 → 43 ∷ text ≡ sign ++ rest → (false ≡ negative) × (text ≡ rest)
plus_sign true sign text rest is front same =
    let begins : 43 ≡ 45 = first_byte _ _ _ _ (same ∙ ap (λ s. s ++ rest) is) in absurd (omega (arith, begins))
plus_sign false sign text rest is front same =
    ⊎_elim
    (λ (none : sign ≡ []).
    let begins : 43 ≡ get_or rest 0 0 = ap (λ (t : List ℕ). get_or t 0 0) (same ∙ ap (λ s. s ++ rest) none) in
    absurd (omega (arith, begins, front)))
    (λ (plus : sign ≡ codes "+"). (refl, other_bytes _ _ _ _ (same ∙ ap (λ s. s ++ rest) plus)))
    is

no_sign : (negative : Bool) (sign text rest : List ℕ) → IsSign sign negative → ((more : List ℕ) → text ≢ 45 ∷ more) → ((more : List ℕ) → text ≢ 43 ∷ more) → text ≡ sign ++ rest
    → (false ≡ negative) × (text ≡ rest)
no_sign true sign text rest is no_minus no_plus same = absurd (no_minus rest (same ∙ ap (λ s. s ++ rest) is))
no_sign false sign text rest is no_minus no_plus same =
    ⊎_elim
    (λ (none : sign ≡ []). (refl, same ∙ ap (λ s. s ++ rest) none))
    (λ (plus : sign ≡ codes "+"). absurd (no_plus rest (same ∙ ap (λ s. s ++ rest) plus)))
    is

-- the token has this sign, and text behind it: no other rack
abbrev pub OneSign : List ℕ → Bool → List ℕ → Type 0
OneSign token negative text = (n : Bool) (whole fraction : List ℕ) → IsRack token n whole fraction → (negative ≡ n) × IsDecimal text whole fraction

-- what the code found of a text without sign, and of a token
abbrev pub UnsignedFound : Bool → List ℕ → Option RackToken → Type 0
UnsignedFound negative text found = MatchOption found ((whole fraction : List ℕ) → IsDecimal text whole fraction → ⊥)
    (λ r. (r.negative ≡ negative) × ((whole : List ℕ) × (fraction : List ℕ) × IsDecimal text whole fraction × (r.whole ≡ min (value_of_digits whole) FAR)
    × MatchOption r.quarter ((q : ℕ) → IsQuarter fraction q → ⊥) (λ q. IsQuarter fraction q)))

-- what is found of a rack is the rack that the token spells
abbrev pub Found : List ℕ → Option RackToken → Type 0
Found token found = MatchOption found ((negative : Bool) (whole fraction : List ℕ) → IsRack token negative whole fraction → ⊥)
    (λ r. (whole : List ℕ) × (fraction : List ℕ) × IsRack token r.negative whole fraction × (r.whole ≡ min (value_of_digits whole) FAR)
    × MatchOption r.quarter ((q : ℕ) → IsQuarter fraction q → ⊥) (λ q. IsQuarter fraction q))

-- a sign and what is found behind it
pub rack-found : (token sign text : List ℕ) (negative : Bool) (found : Option RackToken) → token ≡ sign ++ text → IsSign sign negative → OneSign token negative text
    → UnsignedFound negative text found → Found token found
rack-found token sign text negative None is signed one none = λ n whole fraction rack. none whole fraction (one n whole fraction rack).1
rack-found token sign text negative (Some r) is signed one found =
    (found.1.0, found.1.1, (sign, text, is, subst (IsSign sign) (sym found.0) signed, found.1.2), found.1.3, found.1.4)

-- other bytes than digits before or behind the point
pub bad-front : (text front behind : List ℕ) → text ≡ front ++ 46 ∷ behind → All IsNoPoint front → ¬ All IsDigit front → (whole fraction : List ℕ) → IsDecimal text whole fraction → ⊥
bad-front text front behind parts none bad whole fraction decimal =
    bad (subst (All IsDigit) (sym (at_point text front behind whole fraction parts none decimal).0) decimal.0)

-- what stands behind the point are no digits
pub bad-behind : (text front behind : List ℕ) → text ≡ front ++ 46 ∷ behind → All IsNoPoint front → ¬ All IsDigit behind → (whole fraction : List ℕ) → IsDecimal text whole fraction → ⊥
bad-behind text front behind parts none bad whole fraction decimal =
    bad (subst (All IsDigit) (sym (at_point text front behind whole fraction parts none decimal).1) decimal.1)

-- the sign of a token that begins with a `-`
pub minus-first : (token text : List ℕ) → token ≡ 45 ∷ text → OneSign token true text
minus-first token text begins n whole fraction rack =
    let found : (true ≡ n) × (text ≡ rack.1) = minus_sign n rack.0 text rack.1 rack.3 (decimal_front rack.1 whole fraction rack.4) (sym begins ∙ rack.2) in
    (found.0, subst (λ t. IsDecimal t whole fraction) (sym found.1) rack.4)

-- the sign of a token that begins with a `+`
pub plus-first : (token text : List ℕ) → token ≡ 43 ∷ text → OneSign token false text
plus-first token text begins n whole fraction rack =
    let found : (false ≡ n) × (text ≡ rack.1) = plus_sign n rack.0 text rack.1 rack.3 (decimal_front rack.1 whole fraction rack.4) (sym begins ∙ rack.2) in
    (found.0, subst (λ t. IsDecimal t whole fraction) (sym found.1) rack.4)

-- a token that begins with neither has no sign
pub sign-absent : (token : List ℕ) → ((more : List ℕ) → token ≢ 45 ∷ more) → ((more : List ℕ) → token ≢ 43 ∷ more) → OneSign token false token
sign-absent token no_minus no_plus n whole fraction rack =
    let found : (false ≡ n) × (token ≡ rack.1) = no_sign n rack.0 token rack.1 rack.3 no_minus no_plus rack.2 in
    (found.0, subst (λ t. IsDecimal t whole fraction) (sym found.1) rack.4)

starts_other : (text more : List ℕ) (byte : ℕ) → 46 ≤ get_or text 0 0 → byte < 46 → text ≡ byte ∷ more → ⊥
starts_other text more byte front low is = absurd (omega (arith, front, low, ap (λ (t : List ℕ). get_or t 0 0) is))

sign_first : (token sign text whole fraction : List ℕ) (negative : Bool) → token ≡ sign ++ text → IsSign sign negative → IsDecimal text whole fraction → OneSign token negative text
sign_first token sign text whole fraction true is signed decimal = minus-first token text (is ∙ ap (λ s. s ++ text) signed)
sign_first token sign text whole fraction false is signed decimal =
    ⊎_elim
    (λ (none : sign ≡ []).
    let front : 46 ≤ get_or text 0 0 = decimal_front text whole fraction decimal in
    let same : token ≡ text = is ∙ ap (λ s. s ++ text) none in
    subst (OneSign token false) same
    (sign-absent token (λ more e. starts_other text more 45 front (omega arith) (sym same ∙ e)) (λ more e. starts_other text more 43 front (omega arith) (sym same ∙ e))))
    (λ (plus : sign ≡ codes "+"). plus-first token text (is ∙ ap (λ s. s ++ text) plus))
    signed

-- a token spells one rack
pub one_rack : (token whole fraction whole' fraction' : List ℕ) (negative negative' : Bool) → IsRack token negative whole fraction → IsRack token negative' whole' fraction'
    → (negative ≡ negative') × (whole ≡ whole') × (fraction ≡ fraction')
one_rack token whole fraction whole' fraction' negative negative' one other =
    let found : (negative ≡ negative') × IsDecimal one.1 whole' fraction' = sign_first token one.0 one.1 whole fraction negative one.2 one.3 one.4 negative' whole' fraction' other in
    let parts : (whole ≡ whole') × (fraction ≡ fraction') = one_decimal one.1 whole fraction whole' fraction' one.4 found.1 in
    (found.0, parts.0, parts.1)
