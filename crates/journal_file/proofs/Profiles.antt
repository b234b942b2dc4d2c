-- The line of the machine's limits, from what is found at the fronts of its parts.
use Rattle.std.proofs.Common.{◌≡◌, ◌≢◌, ◌∙◌, ℕ, zero, suc, ◌≤◌, ℤ, pos, ◌-ℤ◌, ◌≤ℤ◌, List, ◌∷◌, ◌++◌, Option, None, Some, IfSome, unwrap_or, codes, ap, sym, subst, refl, arith, append_assoc, decimal, to_z, of_z, w16}
use Rattle.std.specs.Fmt.{signed_decimal}
use Rattle.std.proofs.lemmas.Int.{ints}
use Rattle.std.proofs.lemmas.List.{append_cancel_left}
use Rattle.knit_base.specs.Limits.{IsFloatLimit}
use Rattle.knit_base.specs.Spelling.{labelled_number}
use Rattle.knit_base.specs.declared.profile.Profile.{Profile}
use Rattle.journal_file.specs.CountLines.{IsCount}
use Rattle.journal_file.specs.Profiles.{AreLimits, AreNeedles, IsLimit, BeginsWithNeedleNumber, IsProfile}
use Rattle.journal_file.specs.Spelling.{needle_limits, other_limits}
use Rattle.journal_file.specs.Words.{EndsNumber}
use Rattle.journal_file.proofs.EntryLines.{labelled_is, labelled_one, labelled_spelt}
use Rattle.journal_file.proofs.Signed.{signed_is, signed_one, signed_spelt}

space : (rest : List ℕ) → EndsNumber (32 ∷ rest)
space rest = λ digit. omega (arith, digit.0)

-- what stands behind a space is one text
pub behind_space : (text a b : List ℕ) → text ≡ codes " " ++ a → text ≡ codes " " ++ b → a ≡ b
behind_space text a b p q = append_cancel_left (codes " ") a b (sym p ∙ q)

pub needle_one : (text : List ℕ) (n m : ℤ) (rest more : List ℕ) → BeginsWithNeedleNumber text n rest → BeginsWithNeedleNumber text m more → (n ≡ m) × (rest ≡ more)
needle_one text n m rest more p q = signed_one text n m rest more p.front q.front

-- the lowest needle, and then a space
pub needles_behind : (text : List ℕ) (low : ℤ) (rest : List ℕ) → BeginsWithNeedleNumber text low rest → (l h : ℤ) (more : List ℕ) (it : AreNeedles text l h more) → (low ≡ l) × (rest ≡ codes " " ++ it.behind)
needles_behind text low rest p l h more it = needle_one text low l rest (codes " " ++ it.behind) p it.first

pub needles_found : (text rest other more : List ℕ) (low high : ℤ) → BeginsWithNeedleNumber text low rest → rest ≡ codes " " ++ other → BeginsWithNeedleNumber other high more → low ≤ℤ high → AreNeedles text low high more
needles_found text rest other more low high p is q ordered = record { behind = other; first = subst (BeginsWithNeedleNumber text low) is p; second = q; ordered = ordered }

-- there is one of them
pub needles_high : (text rest other : List ℕ) (low : ℤ) → BeginsWithNeedleNumber text low rest → rest ≡ codes " " ++ other → (l h : ℤ) (more : List ℕ) → AreNeedles text l h more → (low ≡ l) × BeginsWithNeedleNumber other h more
needles_high text rest other low p is l h more it =
    let w = needles_behind text low rest p l h more it in
    (w.0, subst (λ t. BeginsWithNeedleNumber t h more) (behind_space rest it.behind other w.1 is) it.second)

pub needles_one : (text : List ℕ) (l h l' h' : ℤ) (rest more : List ℕ) → AreNeedles text l h rest → AreNeedles text l' h' more → (l ≡ l') × (h ≡ h') × (rest ≡ more)
needles_one text l h l' h' rest more p q =
    let w = needles_high text (codes " " ++ p.behind) p.behind l p.first refl l' h' more q in
    let high = needle_one p.behind h h' rest more p.second w.1 in
    (w.0, high.0, high.1)

pub limit_one : (text : List ℕ) (n m : ℕ) (rest more : List ℕ) → IsLimit text n rest → IsLimit text m more → (n ≡ m) × (rest ≡ more)
limit_one text n m rest more p q = labelled_one text (codes " ") n m rest more p.front q.front

pub limits_behind : (text : List ℕ) (rack : ℕ) (rest : List ℕ) → IsLimit text rack rest → (r h : ℕ) (more : List ℕ) → AreLimits text r h more → (rack ≡ r) × IsLimit rest h more
limits_behind text rack rest p r h more it =
    let w = limit_one text rack r rest it.behind p it.first in
    (w.0, subst (λ t. IsLimit t h more) (sym w.1) it.second)

pub limits_one : (text : List ℕ) (r h r' h' : ℕ) (rest more : List ℕ) → AreLimits text r h rest → AreLimits text r' h' more → (r ≡ r') × (h ≡ h') × (rest ≡ more)
limits_one text r h r' h' rest more p q =
    let w = limits_behind text r p.behind p.first r' h' more q in
    let hold = limit_one p.behind h h' rest more p.second w.1 in
    (w.0, hold.0, hold.1)

-- the parts of the line that tells these limits
pub record HasParts (p : Profile) (text : List ℕ) : Type 0 where
  pub behind : List ℕ
  pub last : List ℕ
  pub needles : AreNeedles text p.low p.high behind
  pub limits : AreLimits behind p.rack p.hold last
  pub float : IsCount (codes " ") 0 8192 (unwrap_or p.float 0) last

float_few : (float : Option ℕ) → IfSome float IsFloatLimit → unwrap_or float 0 ≤ 8192
float_few None lawful = omega arith
float_few (Some n) lawful = lawful.most

pub parts_of : (p : Profile) (line text : List ℕ) → IsProfile p line → line ≡ codes "profile " ++ text → HasParts p text
parts_of p line text is begins =
    let last = labelled_number (codes " ") (unwrap_or p.float 0) in
    let holds = labelled_number (codes " ") p.hold ++ last in
    let behind = other_limits p in
    let same : text ≡ needle_limits p ++ behind = append_cancel_left (codes "profile ") text (needle_limits p ++ behind) (sym begins ∙ is.spelt) in
    let lawful = is.lawful in
    record {
      behind = behind;
      last = last;
      needles = record {
        behind = signed_decimal p.high ++ behind;
        first = record {
          front = signed_is text p.low (codes " " ++ (signed_decimal p.high ++ behind)) (same ∙ append_assoc (signed_decimal p.low) (codes " " ++ signed_decimal p.high) behind) (omega (arith, ints, lawful.lowest, lawful.ordered, lawful.highest)) (omega (arith, ints, lawful.lowest)) (space (signed_decimal p.high ++ behind));
          least = lawful.lowest;
          most = omega (arith, ints, lawful.ordered, lawful.highest);
        };
        second = record {
          front = signed_is (signed_decimal p.high ++ behind) p.high behind refl (omega (arith, ints, lawful.highest)) (omega (arith, ints, lawful.lowest, lawful.ordered)) (space (decimal p.rack ++ holds));
          least = omega (arith, ints, lawful.lowest, lawful.ordered);
          most = lawful.highest;
        };
        ordered = lawful.ordered;
      };
      limits = record {
        behind = holds;
        first = record { front = labelled_is behind (codes " ") p.rack holds refl (let most = lawful.rack in omega (arith, most)) (space (decimal p.hold ++ last)); few = lawful.rack };
        second = record { front = labelled_is holds (codes " ") p.hold last refl (let most = lawful.hold in omega (arith, most)) (space (decimal (unwrap_or p.float 0))); few = lawful.hold };
        some = lawful.some;
      };
      float = record { spelt = refl; enough = omega arith; few = float_few p.float lawful.float };
    }

-- what was found is the spelling
pub profile_found : (line text behind last : List ℕ) (p : Profile) (float : ℕ) → line ≡ codes "profile " ++ text → AreNeedles text p.low p.high behind → AreLimits behind p.rack p.hold last → IsCount (codes " ") 0 8192 float last
    → (float ≡ 0 → p.float ≡ None) → (float ≢ 0 → p.float ≡ Some float) → IsProfile p line
profile_found line text behind last p float begins n l c none some = record {
  spelt = begins ∙ ap (λ t. codes "profile " ++ t) needles;
  lawful = record {
    lowest = n.first.least;
    ordered = n.ordered;
    highest = n.second.most;
    rack = l.first.few;
    some = l.some;
    hold = l.second.few;
    float = lawful float none some c.few;
  };
}
  where
    told : (float : ℕ) → (float ≡ 0 → p.float ≡ None) → (float ≢ 0 → p.float ≡ Some float) → float ≡ unwrap_or p.float 0
    told zero none some = sym (ap (λ (o : Option ℕ). unwrap_or o 0) (none refl))
    told (suc n) none some = sym (ap (λ (o : Option ℕ). unwrap_or o 0) (some (λ is. omega (arith, is))))

    lawful : (float : ℕ) → (float ≡ 0 → p.float ≡ None) → (float ≢ 0 → p.float ≡ Some float) → float ≤ 8192 → IfSome p.float IsFloatLimit
    lawful zero none some few = subst (λ (o : Option ℕ). IfSome o IsFloatLimit) (sym (none refl)) tt
    lawful (suc n) none some few = subst (λ (o : Option ℕ). IfSome o IsFloatLimit) (sym (some (λ is. omega (arith, is)))) (record { some = omega arith; most = few })

    limits : behind ≡ other_limits p
    limits =
        labelled_spelt behind (codes " ") p.rack l.behind l.first.front
        ∙ ap (λ t. labelled_number (codes " ") p.rack ++ t) (labelled_spelt l.behind (codes " ") p.hold last l.second.front ∙ ap (λ t. labelled_number (codes " ") p.hold ++ t) (c.spelt ∙ ap (labelled_number (codes " ")) (told float none some)))

    needles : text ≡ needle_limits p ++ other_limits p
    needles =
        signed_spelt text p.low (codes " " ++ n.behind) n.first.front
        ∙ ap (λ t. signed_decimal p.low ++ (codes " " ++ t)) (signed_spelt n.behind p.high behind n.second.front ∙ ap (λ t. signed_decimal p.high ++ t) limits)
        ∙ sym (append_assoc (signed_decimal p.low) (codes " " ++ signed_decimal p.high) (other_limits p))

-- the number of a needle fits 16 bits
abbrev pub same_needle : ℤ → ℤ
same_needle n = to_z w16 (of_z w16 n)

pub needle_kept : (n : ℤ) → (pos 0 -ℤ pos 4096) ≤ℤ n → n ≤ℤ pos 4096 → same_needle n ≡ n
needle_kept n least most = omega (arith, ints, least, most)
