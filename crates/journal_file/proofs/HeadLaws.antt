-- A chain of head lines is one whole head, and one whole head is such a chain.
use Rattle.std.proofs.Common.{◌≡◌, ◌∙◌, ℕ, zero, suc, ◌+◌, ◌≤◌, Bool, true, false, ◌||◌, ◌&&◌, nat_eq, nat_lt, if◌then◌else◌, None, IsSome, unwrap_or, Ok, Err, List, [], ◌∷◌, ◌++◌, length, drop, get_or, map, ap, sym, subst, refl, arith, codes}
use Rattle.std.specs.List.{AllByRecursion, prefix_len, starts_with}
use Rattle.std.proofs.Math.Bool.{or-true}
use Rattle.std.proofs.lemmas.Bool.{cond-false, cond-true, false_from_ne_true, false≢true, ltb-false}
use Rattle.std.proofs.lemmas.Bool.Decides.{Decides-eqb}
use Rattle.std.proofs.lemmas.List.{take_all}
use Rattle.std.proofs.lemmas.Slice.Eq.{starts_is}
use Rattle.knit_base.proofs.Places.{by_test}
use Rattle.knitout_reader.specs.declared.head.HeadFault.{HeadFault}
use Rattle.knitout_reader.specs.declared.head.HeadFault.TheVariants.{BadMagic, CarrierNameTwice, ManyCarriers}
use Rattle.knitout_reader.specs.Head.{CarriersHeader, carriers_headers, declared_names, has_name_twice, head_len, is_carriers_line, is_head_line, is_magic, magic, carriers_word, names_declared, names_in_line, names_of, names_or_none, one_declared}
use Rattle.journal_file.specs.declared.head.HeadSoFar.{HeadSoFar}
use Rattle.journal_file.specs.Grammars.{Lines, Chain}
use Rattle.journal_file.specs.HeadForms.{AreHeadLines, has_kind, head_form, no_line_yet, head_with_line}
use Rattle.journal_file.specs.Lines.{IsShort, IsBarredLine}
use Rattle.journal_file.specs.Heads.{IsWholeHead, names_in_head}

-- no line names the carriers behind one that does
no_headers : (n : ℕ) (s : HeadSoFar) (texts : List (List ℕ)) (t : Lines) (number : ℕ) → Chain head_form head_with_line n s texts t → s.named ≡ true → carriers_headers number texts ≡ []
no_headers zero s [] t number p named = refl
no_headers zero s (x ∷ xs) t number p named = absurd p
no_headers (suc n) s [] t number p named = absurd p
no_headers (suc n) s (x ∷ xs) t number p named =
    let none : is_carriers_line x ≡ false = false_from_ne_true (is_carriers_line x) (λ yes. false≢true (sym (p.says_first.says.stands.once yes) ∙ named)) in
    cond-false (is_carriers_line x) _ _ none ∙ no_headers n (head_with_line s x) xs p.second (number + 1) p.says_second (ap (λ b. b || is_carriers_line x) named)

-- every line goes on with a head
all_go_on : (n : ℕ) (s : HeadSoFar) (texts : List (List ℕ)) (t : Lines) → Chain head_form head_with_line n s texts t → s.first ≡ false → prefix_len is_head_line texts ≡ length texts
all_go_on zero s [] t p first = refl
all_go_on zero s (x ∷ xs) t p first = absurd p
all_go_on (suc n) s [] t p first = absurd p
all_go_on (suc n) s (x ∷ xs) t p first =
    let kind : is_head_line x ≡ true = ap (λ b. if b then is_magic x else is_head_line x) (sym first) ∙ p.says_first.says.stands.kind in
    let rest = all_go_on n (head_with_line s x) xs p.second p.says_second refl in
    cond-true (is_head_line x) (1 + prefix_len is_head_line xs) 0 kind ∙ omega (arith, rest)

-- one line of these names the carriers, and gives these names
pub record OneNames (number : ℕ) (texts : List (List ℕ)) : Type 0 where
  pub header : CarriersHeader
  pub names : List (List ℕ)
  pub headers : carriers_headers number texts ≡ header ∷ []
  pub given : names_declared header ≡ Ok names

given_again : (twice many : Bool) (names : List (List ℕ)) (a b c d : HeadFault) → IsSome (names_or_none (if twice then Err a else (if many then Err b else Ok names))) → (if twice then Err c else (if many then Err d else Ok names)) ≡ Ok names
given_again true many names a b c d some = absurd (false≢true some)
given_again false true names a b c d some = absurd (false≢true some)
given_again false false names a b c d some = refl

-- what a line gives, it gives wherever it stands
given_in : (x : List ℕ) (number : ℕ) → is_carriers_line x ≡ true → IsSome (names_in_line x) → names_declared (record { line = number; names = names_of x }) ≡ Ok (names_of x)
given_in x number is some =
    given_again (has_name_twice (names_of x)) (nat_lt 64 (length (names_of x))) (names_of x) (CarrierNameTwice 1) (ManyCarriers 1) (CarrierNameTwice number) (ManyCarriers number)
    (subst IsSome (cond-true (is_carriers_line x) _ None is) some)

-- its first line names the carriers
named_first : (n : ℕ) (s : HeadSoFar) (x : List ℕ) (xs : List (List ℕ)) (t : Lines) (number : ℕ) → Chain head_form head_with_line (suc n) s (x ∷ xs) t → is_carriers_line x ≡ true → OneNames number (x ∷ xs)
named_first n s x xs t number p is = record {
  header = record { line = number; names = names_of x };
  names = names_of x;
  headers = cond-true (is_carriers_line x) _ _ is ∙ ap (λ hs. record { line = number; names = names_of x } ∷ hs) (no_headers n (head_with_line s x) xs p.second (number + 1) p.says_second (ap (λ b. s.named || b) is ∙ or-true s.named));
  given = given_in x number is (p.says_first.says.stands.names is);
}

-- a line behind its first names them
named_later : (x : List ℕ) (xs : List (List ℕ)) (number : ℕ) → is_carriers_line x ≡ false → OneNames (number + 1) xs → OneNames number (x ∷ xs)
named_later x xs number isnt w = record { header = w.header; names = w.names; headers = cond-false (is_carriers_line x) _ _ isnt ∙ w.headers; given = w.given }

one_names : (n : ℕ) (s : HeadSoFar) (texts : List (List ℕ)) (t : Lines) (number : ℕ) → Chain head_form head_with_line n s texts t → s.left ≡ n → 1 ≤ n → s.named ≡ false → OneNames number texts
one_names zero s texts t number p left some named = absurd (omega (arith, some))
one_names (suc n) s [] t number p left some named = absurd p
one_names (suc zero) s (x ∷ xs) t number p left some named =
    by_test (is_carriers_line x) (λ is. named_first zero s x xs t number p is)
    (λ isnt. absurd (false≢true (sym isnt ∙ sym (ap (λ b. b || is_carriers_line x) named) ∙ p.says_first.says.stands.last left)))
one_names (suc (suc n)) s (x ∷ xs) t number p left some named =
    by_test (is_carriers_line x) (λ is. named_first (suc n) s x xs t number p is)
    (λ isnt. named_later x xs number isnt (one_names (suc n) (head_with_line s x) xs p.second (number + 1) p.says_second (omega (arith, left)) (omega arith) (ap (λ b. b || is_carriers_line x) named ∙ isnt)))

begins : (x front : List ℕ) → starts_with nat_eq x front ≡ true → x ≡ front ++ drop (length front) x
begins x front is = (starts_is Decides-eqb x front (starts_with nat_eq x front) refl).0 is

both_true : (a b : Bool) → (a && b) ≡ true → a ≡ true
both_true true b is = refl
both_true false b is = is

-- the magic line names no carriers
magic_first : (x : List ℕ) → is_magic x ≡ true → is_carriers_line x ≡ false
magic_first x is =
    false_from_ne_true (is_carriers_line x)
    (λ yes.
    let magic_is = begins x magic (both_true _ _ is) in
    let carriers_is = begins x carriers_word yes in
    let second : 33 ≡ 59 = ap (λ (t : List ℕ). get_or t 1 0) (sym magic_is ∙ carriers_is) in
    absurd (omega (arith, second)))

-- a given name list is the one that was looked at, and isn't long
given_few : (twice many : Bool) (ns names : List (List ℕ)) (a b : HeadFault) → (if twice then Err a else (if many then Err b else Ok ns)) ≡ Ok names → (many ≡ false) × (ns ≡ names)
given_few true many ns names a b is = absurd (cc)
given_few false true ns names a b is = absurd (cc)
given_few false false ns names a b is = (refl, cc)

-- the names that a header declares are few
few_names : (header : CarriersHeader) (names : List (List ℕ)) → names_declared header ≡ Ok names → length names ≤ 64
few_names header names is =
    let w = given_few (has_name_twice header.names) (nat_lt 64 (length header.names)) header.names names (CarrierNameTwice header.line) (ManyCarriers header.line) is in
    omega (arith, ltb-false 64 (length header.names) w.0, ap length w.1)

pub names_known : (head names : List (List ℕ)) → declared_names head ≡ Ok names → names_in_head head ≡ names
names_known head names is = ap (λ answer. unwrap_or (names_or_none answer) []) is

-- so many head lines are one whole head
pub head_law : (many : ℕ) → 2 ≤ many → (texts : List (List ℕ)) (t : Lines) → AreHeadLines many texts t → IsWholeHead texts × (length (names_in_head texts) ≤ 64)
head_law zero two texts t p = absurd (omega (arith, two))
head_law (suc n) two [] t p = absurd p
head_law (suc n) two (x ∷ xs) t p =
    let kind : is_magic x ≡ true = p.says_first.says.stands.kind in
    let none : is_carriers_line x ≡ false = magic_first x kind in
    let w = one_names n (head_with_line (no_line_yet (suc n)) x) xs p.second 2 p.says_second (omega arith) (omega (arith, two)) none in
    let rest = all_go_on n (head_with_line (no_line_yet (suc n)) x) xs p.second p.says_second refl in
    let whole : head_len (x ∷ xs) ≡ length (x ∷ xs) = omega (arith, rest) in
    let declared : declared_names (x ∷ xs) ≡ Ok w.names = cond-true (is_magic x) _ _ kind ∙ ap (λ ls. one_declared (carriers_headers 1 ls)) (take_all (head_len (x ∷ xs)) (x ∷ xs) (omega (arith, whole))) ∙ ap one_declared (cond-false (is_carriers_line x) _ _ none ∙ w.headers) ∙ w.given in
    let names_are : names_in_head (x ∷ xs) ≡ w.names = names_known (x ∷ xs) w.names declared in
    (record { whole = whole; declared = declared ∙ ap Ok (sym names_are) }, subst (λ (ns : List (List ℕ)). length ns ≤ 64) (sym names_are) (few_names w.header w.names w.given))

-- the text line that tells a text
abbrev pub barred_text_line : List ℕ → List ℕ
barred_text_line text = codes "|" ++ text

text_line_is : (text : List ℕ) → IsShort text → IsBarredLine text (barred_text_line text)
text_line_is text short = record { barred = refl; is_short = short }

-- with these lines a head goes on
goes_on_first : (x : List ℕ) (xs : List (List ℕ)) → prefix_len is_head_line (x ∷ xs) ≡ length (x ∷ xs) → (is_head_line x ≡ true) × (prefix_len is_head_line xs ≡ length xs)
goes_on_first x xs all =
    by_test (is_head_line x)
    (λ is. let here = cond-true (is_head_line x) (1 + prefix_len is_head_line xs) 0 is in (is, omega (arith, all, here)))
    (λ isnt. let here = cond-false (is_head_line x) (1 + prefix_len is_head_line xs) 0 isnt in absurd (omega (arith, all, here)))

-- lines that name no carriers, behind one that does
chain_named : (texts : List (List ℕ)) (s : HeadSoFar) (number : ℕ) → s.first ≡ false → s.named ≡ true → AllByRecursion IsShort texts → prefix_len is_head_line texts ≡ length texts → carriers_headers number texts ≡ []
    → Chain head_form head_with_line (length texts) s texts (map barred_text_line texts)
chain_named [] s number first named short all headers = refl
chain_named (x ∷ xs) s number first named short all headers =
    let go = goes_on_first x xs all in
    let none : is_carriers_line x ≡ false = false_from_ne_true (is_carriers_line x) (λ yes. let some = sym (cond-true (is_carriers_line x) _ _ yes) ∙ headers in absurd (cc)) in
    record {
      first = barred_text_line x ∷ [];
      second = map barred_text_line xs;
      lines_are = refl;
      says_first = record {
        line = barred_text_line x;
        lines_are = refl;
        says = record {
          barred = text_line_is x short.0;
          stands = record { kind = ap (λ b. if b then is_magic x else is_head_line x) first ∙ go.0; once = λ yes. absurd (false≢true (sym none ∙ yes)); names = λ yes. absurd (false≢true (sym none ∙ yes)); last = λ is. ap (λ b. b || is_carriers_line x) named };
        };
      };
      says_second = chain_named xs (head_with_line s x) (number + 1) refl (ap (λ b. b || is_carriers_line x) named) short.1 go.1 (sym (cond-false (is_carriers_line x) _ _ none) ∙ headers);
    }

-- what is given at some line is given in the line by itself
some_given : (twice many : Bool) (ns names : List (List ℕ)) (a b c d : HeadFault) → (if twice then Err a else (if many then Err b else Ok ns)) ≡ Ok names → IsSome (names_or_none (if twice then Err c else (if many then Err d else Ok ns)))
some_given true many ns names a b c d is = absurd (cc)
some_given false true ns names a b c d is = absurd (cc)
some_given false false ns names a b c d is = refl

same_header : (a b : CarriersHeader) (hs : List CarriersHeader) → a ∷ hs ≡ b ∷ [] → (b ≡ a) × (hs ≡ [])
same_header a b hs same = (cc, cc)

-- lines of which one names the carriers
chain_unnamed : (texts : List (List ℕ)) (s : HeadSoFar) (number : ℕ) → s.first ≡ false → s.named ≡ false → s.left ≡ length texts → AllByRecursion IsShort texts → prefix_len is_head_line texts ≡ length texts
    → (header : CarriersHeader) (names : List (List ℕ)) → carriers_headers number texts ≡ header ∷ [] → names_declared header ≡ Ok names → Chain head_form head_with_line (length texts) s texts (map barred_text_line texts)
chain_unnamed [] s number first named left short all header names headers given = absurd (cc)
chain_unnamed (x ∷ xs) s number first named left short all header names headers given =
    let go = goes_on_first x xs all in
    let kind : has_kind s.first x ≡ true = ap (λ b. if b then is_magic x else is_head_line x) first ∙ go.0 in
    by_test (is_carriers_line x)
    (λ is.
    let same = same_header (record { line = number; names = names_of x }) header (carriers_headers (number + 1) xs) (sym (cond-true (is_carriers_line x) _ _ is) ∙ headers) in
    let here : names_declared (record { line = number; names = names_of x }) ≡ Ok names = ap names_declared (sym same.0) ∙ given in
    let some = some_given (has_name_twice (names_of x)) (nat_lt 64 (length (names_of x))) (names_of x) names (CarrierNameTwice number) (ManyCarriers number) (CarrierNameTwice 1) (ManyCarriers 1) here in
    let now_named : (s.named || is_carriers_line x) ≡ true = ap (λ b. s.named || b) is ∙ or-true s.named in
    record {
      first = barred_text_line x ∷ [];
      second = map barred_text_line xs;
      lines_are = refl;
      says_first = record {
        line = barred_text_line x;
        lines_are = refl;
        says = record {
          barred = text_line_is x short.0;
          stands = record { kind = kind; once = λ yes. named; names = λ yes. subst IsSome (sym (cond-true (is_carriers_line x) _ None is)) some; last = λ one. now_named };
        };
      };
      says_second = chain_named xs (head_with_line s x) (number + 1) refl now_named short.1 go.1 same.1;
    })
    (λ isnt.
    let behind = sym (cond-false (is_carriers_line x) _ _ isnt) ∙ headers in
    record {
      first = barred_text_line x ∷ [];
      second = map barred_text_line xs;
      lines_are = refl;
      says_first = record {
        line = barred_text_line x;
        lines_are = refl;
        says = record {
          barred = text_line_is x short.0;
          stands = record { kind = kind; once = λ yes. absurd (false≢true (sym isnt ∙ yes)); names = λ yes. absurd (false≢true (sym isnt ∙ yes)); last = λ one. absurd (none_left xs (omega (arith, left, one)) behind) };
        };
      };
      says_second = chain_unnamed xs (head_with_line s x) (number + 1) refl (ap (λ b. b || is_carriers_line x) named ∙ isnt) (omega (arith, left)) short.1 go.1 header names behind given;
    })
  where
    none_left : (ys : List (List ℕ)) → length ys ≡ 0 → carriers_headers (number + 1) ys ≡ header ∷ [] → ⊥
    none_left [] none is = cc
    none_left (y ∷ ys) none is = omega (arith, none)

-- the names are declared by one header behind the magic line
declared_by : (magic_is : Bool) (names : List (List ℕ)) (hs : List CarriersHeader) → (if magic_is then one_declared hs else Err BadMagic) ≡ Ok names → (magic_is ≡ true) × (header : CarriersHeader) × (hs ≡ header ∷ []) × (names_declared header ≡ Ok names)
declared_by false names hs is = absurd (cc)
declared_by true names [] is = absurd (cc)
declared_by true names (header ∷ []) is = (refl, header, refl, is)
declared_by true names (header ∷ second ∷ more) is = absurd (cc)

-- one whole head is so many head lines
pub head_again : (texts : List (List ℕ)) → IsWholeHead texts → AllByRecursion IsShort texts → (2 ≤ length texts) × AreHeadLines (length texts) texts (map barred_text_line texts)
head_again [] whole short = absurd (let bad = whole.declared in cc)
head_again (x ∷ xs) whole short =
    let names = names_in_head (x ∷ xs) in
    let all : prefix_len is_head_line xs ≡ length xs = omega (arith, whole.whole) in
    let d = declared_by (is_magic x) names (carriers_headers 1 (x ∷ xs)) (sym (ap (λ ls. if is_magic x then one_declared (carriers_headers 1 ls) else Err BadMagic) (take_all (head_len (x ∷ xs)) (x ∷ xs) (omega (arith, all)))) ∙ whole.declared) in
    let none : is_carriers_line x ≡ false = magic_first x d.0 in
    let behind : carriers_headers 2 xs ≡ d.1 ∷ [] = sym (cond-false (is_carriers_line x) _ _ none) ∙ d.2 in (
      some_behind xs d.1 behind,
      record {
        first = barred_text_line x ∷ [];
        second = map barred_text_line xs;
        lines_are = refl;
        says_first = record {
          line = barred_text_line x;
          lines_are = refl;
          says = record { barred = text_line_is x short.0; stands = record { kind = d.0; once = λ yes. refl; names = λ yes. absurd (false≢true (sym none ∙ yes)); last = λ one. absurd (let two = some_behind xs d.1 behind in omega (arith, one, two)) } };
        };
        says_second = chain_unnamed xs (head_with_line (no_line_yet (length (x ∷ xs))) x) 2 refl none (omega arith) short.1 all d.1 names behind d.3;
      },
    )
  where
    some_behind : (ys : List (List ℕ)) (header : CarriersHeader) → carriers_headers 2 ys ≡ header ∷ [] → 2 ≤ length (x ∷ ys)
    some_behind [] header is = absurd (cc)
    some_behind (y ∷ ys) header is = omega arith
