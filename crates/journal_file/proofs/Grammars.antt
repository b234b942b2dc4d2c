-- The first line with which no text goes on, of a form that is made of several.
use Rattle.std.proofs.Common.{◌≡◌, ◌∙◌, ◌⊎◌, inl, inr, ℕ, zero, suc, ◌+◌, List, [], ◌∷◌, ◌++◌, length, ap, sym, subst, refl, arith, append_assoc, append-nil, length-append}
use Rattle.std.proofs.lemmas.List.{append_cancel_left}
use Rattle.journal_file.specs.Grammars.{Lines, Form, IsUnambiguous, FormStopsBehind, Both, OneLine, Chain, behind_all}

abbrev tail_of : {A : Type 0} → List A → List A
tail_of [] = []
tail_of (x ∷ xs) = xs

abbrev head_or : {A : Type 0} → A → List A → A
head_or d [] = d
head_or d (x ∷ xs) = x

pub same_head : {A : Type 0} (x y : A) (t u : List A) → x ∷ t ≡ y ∷ u → x ≡ y
same_head x y t u same = ap (head_or x) same

pub same_tail : {A : Type 0} (x y : A) (t u : List A) → x ∷ t ≡ y ∷ u → t ≡ u
same_tail x y t u same = ap tail_of same

pub no_items : {A : Type 0} (xs : List A) → length xs ≡ 0 → xs ≡ []
no_items [] none = refl
no_items (x ∷ xs) none = absurd (omega (arith, none))

-- of two fronts of the same lines one is a front of the other
pub two_fronts : (t r u s : Lines) → t ++ r ≡ u ++ s
    → ((more : Lines) × (u ≡ t ++ more)) ⊎ ((line : List ℕ) × (more : Lines) × (t ≡ u ++ line ∷ more))
two_fronts [] r u s same = inl (u, refl)
two_fronts (x ∷ t) r [] s same = inr (x, t, refl)
two_fronts (x ∷ t) r (y ∷ u) s same =
    let first : x ≡ y = same_head x y (t ++ r) (u ++ s) same in
    elim (two_fronts t r u s (same_tail x y (t ++ r) (u ++ s) same)) [
      | inl w ↦ inl (w.0, (λ i. sym first i ∷ w.1 i))
      | inr w ↦ inr (w.0, w.1, (λ i. first i ∷ w.2 i))
    ]

-- a front that is as long as the whole
whole_front : (first second before more : Lines) → before ≡ first ++ second → before ++ more ≡ first → first ≡ before
whole_front first second before more is same =
    let none : second ≡ [] = no_items second (omega (arith, ap length is ∙ length-append first second, sym (length-append before more) ∙ ap length same)) in
    sym (is ∙ ap (λ s. first ++ s) none ∙ append-nil first)

module _ {A B : Type 0} (P : Form A) (Q : A → Form B) (one : IsUnambiguous P) where
  -- A text stops within its first part.
  pub stop_first : (lines : Lines) (number : ℕ) → ((a : A) (t : Lines) → P a t → (b : B) × (u : Lines) × Q a b u) → FormStopsBehind P lines number → FormStopsBehind (Both P Q) lines number
  stop_first lines number some s =
      let w = some s.said (s.before ++ s.more) s.goes_on in
      record {
        before = s.before;
        after = s.after;
        lines_are = s.lines_are;
        counted = s.counted;
        said = (s.said, w.0);
        more = s.more ++ w.1;
        goes_on = record { first = s.before ++ s.more; second = w.1; lines_are = sym (append_assoc s.before s.more w.1); says_first = s.goes_on; says_second = w.2 };
        unfinished = λ ab both. s.unfinished ab.0 (subst (P ab.0) (whole_front both.first both.second s.before s.more both.lines_are (longer ab.0 both.first both.second both.lines_are both.says_first)) both.says_first);
        ends = λ line rest e ab tail both. go line rest e ab.0 tail both.first both.second both.lines_are both.says_first;
      }
    where
      longer : (a : A) (first second : Lines) → s.before ≡ first ++ second → P a first → s.before ++ s.more ≡ first
      longer a first second is says =
          (one s.said a (s.before ++ s.more) first [] (second ++ s.more) s.goes_on says
          (append-nil (s.before ++ s.more) ∙ ap (λ t. t ++ s.more) is ∙ append_assoc first second s.more)).1

      go : (line : List ℕ) (rest : Lines) → s.after ≡ line ∷ rest → (a : A) (tail first second : Lines) → s.before ++ line ∷ tail ≡ first ++ second → P a first → ⊥
      go line rest e a tail first second is says = elim (two_fronts s.before (line ∷ tail) first second is) [
        | inl w ↦ within line rest e a tail first second is says w.0 w.1
        | inr w ↦
            let same : s.before ++ s.more ≡ first = longer a first (w.0 ∷ w.1) w.2 says in
            omega (arith, sym (length-append s.before s.more) ∙ ap length same, ap length w.2 ∙ length-append first (w.0 ∷ w.1))
      ]
        where
          within : (line : List ℕ) (rest : Lines) → s.after ≡ line ∷ rest → (a : A) (tail first second : Lines) → s.before ++ line ∷ tail ≡ first ++ second → P a first → (m : Lines) → first ≡ s.before ++ m → ⊥
          within line rest e a tail first second is says [] more = s.unfinished a (subst (P a) (more ∙ append-nil s.before) says)
          within line rest e a tail first second is says (l ∷ m) more =
              let same : line ∷ tail ≡ l ∷ (m ++ second) = append_cancel_left s.before (line ∷ tail) (l ∷ (m ++ second)) (is ∙ ap (λ t. t ++ second) more ∙ append_assoc s.before (l ∷ m) second) in
              s.ends line rest e a m (subst (P a) (more ∙ ap (λ x. s.before ++ x ∷ m) (sym (same_head line l tail (m ++ second) same))) says)

  -- A text stops behind its first part.
  pub stop_second : (a : A) (t lines rest : Lines) (number : ℕ) → P a t → lines ≡ t ++ rest → FormStopsBehind (Q a) rest number → FormStopsBehind (Both P Q) lines (length t + number)
  stop_second a t lines rest number says is s = record {
    before = t ++ s.before;
    after = s.after;
    lines_are = is ∙ ap (λ r. t ++ r) s.lines_are ∙ sym (append_assoc t s.before s.after);
    counted = omega (arith, s.counted, length-append t s.before);
    said = (a, s.said);
    more = s.more;
    goes_on = record { first = t; second = s.before ++ s.more; lines_are = append_assoc t s.before s.more; says_first = says; says_second = s.goes_on };
    unfinished = λ ab both. s.unfinished ab.1 (behind ab.0 ab.1 both.first both.second s.before both.says_first both.says_second both.lines_are);
    ends = λ line rest e ab tail both. s.ends line rest e ab.1 tail (behind ab.0 ab.1 both.first both.second (s.before ++ line ∷ tail) both.says_first both.says_second (sym (append_assoc t s.before (line ∷ tail)) ∙ both.lines_are));
  }
    where
      behind : (b : A) (c : B) (first second back : Lines) → P b first → Q b c second → t ++ back ≡ first ++ second → Q a c back
      behind b c first second back p q same =
          let w = one a b t first back second says p same in
          let rests : back ≡ second = append_cancel_left t back second (same ∙ ap (λ f. f ++ second) (sym w.1)) in
          subst (λ d. Q d c back) (sym w.0) (subst (Q b c) (sym rests) q)

  pub both_one : ((a : A) → IsUnambiguous (Q a)) → IsUnambiguous (Both P Q)
  both_one ones = λ ab cd t u r s p q same.
      let w = one ab.0 cd.0 p.first q.first (p.second ++ r) (q.second ++ s) p.says_first q.says_first
      (sym (append_assoc p.first p.second r) ∙ ap (λ x. x ++ r) (sym p.lines_are) ∙ same ∙ ap (λ x. x ++ s) q.lines_are ∙ append_assoc q.first q.second s) in
      let rest : p.second ++ r ≡ q.second ++ s = append_cancel_left p.first (p.second ++ r) (q.second ++ s)
      (sym (append_assoc p.first p.second r) ∙ ap (λ x. x ++ r) (sym p.lines_are) ∙ same ∙ ap (λ x. x ++ s) q.lines_are ∙ append_assoc q.first q.second s ∙ ap (λ x. x ++ (q.second ++ s)) (sym w.1)) in
      let v = ones cd.0 ab.1 cd.1 p.second q.second r s (subst (λ a. Q a ab.1 p.second) w.0 p.says_second) q.says_second rest in
      ((λ i. (w.0 i, v.0 i)), p.lines_are ∙ (λ i. w.1 i ++ v.1 i) ∙ sym q.lines_are)

-- a line that says nothing of the kind, or none, where one is to stand
pub stop_line : {A : Type 0} (L : A → List ℕ → Type 0) (a : A) (line : List ℕ) → L a line → (lines : Lines) → ((other : List ℕ) (rest : Lines) → lines ≡ other ∷ rest → (b : A) → L b other → ⊥)
    → FormStopsBehind (OneLine L) lines 0
stop_line L a line says lines bad = record {
  before = [];
  after = lines;
  lines_are = refl;
  counted = refl;
  said = a;
  more = line ∷ [];
  goes_on = record { line = line; lines_are = refl; says = says };
  unfinished = λ b it. absurd (omega (arith, ap length it.lines_are));
  ends = λ other rest e b tail it. bad other rest e b (subst (L b) (sym (same_head other it.line tail [] it.lines_are)) it.says);
}

pub line_one : {A : Type 0} (L : A → List ℕ → Type 0) → ((a b : A) (line : List ℕ) → L a line → L b line → a ≡ b) → IsUnambiguous (OneLine L)
line_one L same a b t u r s p q e =
    let lines : p.line ∷ r ≡ q.line ∷ s = sym (ap (λ x. x ++ r) p.lines_are) ∙ e ∙ ap (λ x. x ++ s) q.lines_are in
    let line : p.line ≡ q.line = same_head p.line q.line r s lines in
    (same a b q.line (subst (L a) line p.says) q.says, p.lines_are ∙ ap (λ x. x ∷ []) line ∙ sym q.lines_are)

module _ {S A : Type 0} (P : S → Form A) (next : S → A → S) (ones : (s : S) → IsUnambiguous (P s)) where
  pub chain_one : (n : ℕ) (s : S) → IsUnambiguous (Chain P next n s)
  chain_one zero s [] [] t u r v p q e = (refl, p ∙ sym q)
  chain_one zero s [] (b ∷ ys) t u r v p q e = absurd q
  chain_one zero s (a ∷ xs) ys t u r v p q e = absurd p
  chain_one (suc n) s [] ys t u r v p q e = absurd p
  chain_one (suc n) s (a ∷ xs) [] t u r v p q e = absurd q
  chain_one (suc n) s (a ∷ xs) (b ∷ ys) t u r v p q e =
      let w = both_one (P s) (λ y. Chain P next n (next s y)) (ones s) (λ y. chain_one n (next s y)) (a, xs) (b, ys) t u r v p q e in
      ((λ i. (w.0 i).0 ∷ (w.0 i).1), w.1)

  -- What stops a text and then a chain stops a chain of one more.
  pub chained : (n : ℕ) (s : S) (lines : Lines) (number : ℕ) → FormStopsBehind (Both (P s) (λ y. Chain P next n (next s y))) lines number → FormStopsBehind (Chain P next (suc n) s) lines number
  chained n s lines number it = record {
    before = it.before;
    after = it.after;
    lines_are = it.lines_are;
    counted = it.counted;
    said = it.said.0 ∷ it.said.1;
    more = it.more;
    goes_on = it.goes_on;
    unfinished = λ xs c. not_here xs it.before (λ y ys d. it.unfinished (y, ys) d) c;
    ends = λ line rest e xs tail c. not_here xs (it.before ++ line ∷ tail) (λ y ys d. it.ends line rest e (y, ys) tail d) c;
  }
    where
      not_here : (xs : List A) (t : Lines) → ((y : A) (ys : List A) → Both (P s) (λ z. Chain P next n (next s z)) (y, ys) t → ⊥) → Chain P next (suc n) s xs t → ⊥
      not_here [] t none c = absurd c
      not_here (y ∷ ys) t none c = none y ys c

  -- The first text of a chain stops.
  pub stop_now : (n : ℕ) (s : S) (lines : Lines) (number : ℕ) → ((a : A) (t : Lines) → P s a t → (xs : List A) × (u : Lines) × Chain P next n (next s a) xs u) → FormStopsBehind (P s) lines number → FormStopsBehind (Chain P next (suc n) s) lines number
  stop_now n s lines number some stops = chained n s lines number (stop_first (P s) (λ y. Chain P next n (next s y)) (ones s) lines number some stops)

  -- Texts of a chain stop in one behind others.
  pub stop_later : (i j : ℕ) (s : S) (xs : List A) (t lines rest : Lines) (number : ℕ) → Chain P next i s xs t → lines ≡ t ++ rest
      → FormStopsBehind (Chain P next j (behind_all next s xs)) rest number → FormStopsBehind (Chain P next (i + j) s) lines (length t + number)
  stop_later zero j s [] t lines rest number p is stops =
      let many : j ≡ 0 + j = omega arith in
      let counted : number ≡ length t + number = omega (arith, ap length p) in
      subst (λ k. FormStopsBehind (Chain P next k s) lines (length t + number)) many
      (subst (λ ls. FormStopsBehind (Chain P next j s) ls (length t + number)) (sym (is ∙ ap (λ x. x ++ rest) p))
      (subst (λ n. FormStopsBehind (Chain P next j s) rest n) counted stops))
  stop_later zero j s (x ∷ xs) t lines rest number p is stops = absurd p
  stop_later (suc i) j s [] t lines rest number p is stops = absurd p
  stop_later (suc i) j s (x ∷ xs) t lines rest number p is stops =
      let later = stop_later i j (next s x) xs p.second (p.second ++ rest) rest number p.says_second refl stops in
      let first = stop_second (P s) (λ y. Chain P next (i + j) (next s y)) (ones s) x p.first lines (p.second ++ rest) (length p.second + number) p.says_first
      (is ∙ ap (λ y. y ++ rest) p.lines_are ∙ append_assoc p.first p.second rest) later in
      let many : suc (i + j) ≡ suc i + j = omega arith in
      let counted : length p.first + (length p.second + number) ≡ length t + number = omega (arith, ap length p.lines_are, length-append p.first p.second) in
      subst (λ k. FormStopsBehind (Chain P next k s) lines (length t + number)) many
      (subst (λ n. FormStopsBehind (Chain P next (suc (i + j)) s) lines n) counted
      (chained (i + j) s lines (length p.first + (length p.second + number)) first))
