-- The text and the names of a header.
use Rattle.std.proofs.Common.{◌≡◌, ◌≢◌, ℕ, zero, suc, ◌+◌, ◌<◌, ◌≤◌, ⊎_elim, ◌↔◌, Bool, true, false, ◌||◌, not, nat_eq, ◌==◌, nat_lt, List, [], ◌∷◌, ◌++◌, length, take, drop, get_or, filter, All, Option, None, Some, IsSome, IsErrOf, Result, Ok, Err, MatchResult, MatchOption, IfSome, is_ok, is_some, take-append-drop, append-nil, position, ap, sym, subst, ◌∙◌, refl, arith, length-append, length-drop}
use Rattle.std.specs.List.{slice_split, onto_first, position_or_len, list_any}
use Rattle.std.specs.Str.{bytes_eq, IsUtf8}
use Rattle.std.specs.Option.{option_map}
use Rattle.std.proofs.lemmas.Bool.{eq-eqb, cond-true, cond-false, ltb-true, eqb-true, cases_lt, false≢true}
use Rattle.std.proofs.Math.Bool.{or-true}
use Rattle.std.proofs.lemmas.List.{length-take, get_or-take}
use Rattle.std.proofs.lemmas.List.Elements.{All-nil, All-cons, All-head, All-tail, All-drop}
use Rattle.std.proofs.lemmas.List.Folds.{list_any_at, list_any-append}
use Rattle.std.proofs.lemmas.List.Quantifiers.{position-Some}
use Rattle.std.proofs.lemmas.List.Splits.{slice_split_first, slice_split_none, slice_split-cons_yes, slice_split-cons_no, length-slice_split}
use Rattle.std.proofs.lemmas.List.Sums.{prefix_len_stops, fails_before_first, sum_by-append, sum_by-cons}
use Rattle.std.proofs.lemmas.Slice.Eq.{bytes_eq-Decides}
use Rattle.std.proofs.lemmas.Str.{IsUtf8-from_is_utf8, is_utf8-from_IsUtf8, IsUtf8-drop, IsUtf8-take, IsCharBoundary-before_ascii, IsCharBoundary-after_ascii}
use denote.Ref.{Bor}
use Rattle.knit_base.specs.declared.declared.AddName.{AddName}
use Rattle.knit_base.specs.declared.declared.AddName.TheVariants.{Twice, Many}
use Rattle.knit_base.specs.Lines.{IsLine, HasNoLineEnd}
use Rattle.knit_base.specs.Names.{carrier_of, IsName, IsNameByte, names_len}
use Rattle.knit_base.proofs.Places.{by_test}
use Rattle.knitout_reader.specs.Tokens.{is_blank, tokens_of}
use Rattle.knitout_reader.specs.Head.{carriers_word, has_name_twice, names_declared, IsNamesText}
use Rattle.knitout_reader.specs.declared.head.HeadFault.TheVariants.{CarrierNameTwice}
use Rattle.knitout_reader.proofs.TokenRuns.{run_has_bytes}

-- what stands behind the colon is a text
names_text-within : (line text : List ℕ) → IsLine line → length line < 65535 → bytes_eq (take 11 line) carriers_word ≡ true → text ≡ drop 11 line → IsNamesText text
names_text-within line text is short begins behind =
    let split : line ≡ carriers_word ++ drop 11 line = sym (take-append-drop 11 line) ∙ ap (λ t. t ++ drop 11 line) ((bytes_eq-Decides (take 11 line) carriers_word).0 begins) in
    let long : 11 ≤ length line = omega (arith, ap length split, length-append carriers_word (drop 11 line)) in
    let colon : get_or line 10 0 ≡ 58 = ap (λ (l : List ℕ). get_or l 10 0) split in
    let utf8 : IsUtf8 line = IsUtf8-from_is_utf8 line is.utf8 in
    subst IsNamesText (sym behind) (record {
      utf8 = is_utf8-from_IsUtf8 (drop 11 line) (IsUtf8-drop line 11 utf8 (IsCharBoundary-after_ascii line 10 utf8 (omega arith) (omega arith)));
      one = All-drop (λ byte. byte ≢ 10) 11 line is.one;
      short = omega (arith, length-drop 11 line);
    })

-- what stands behind the colon is a part of the line
pub names_text-stripped : (line bytes : List ℕ) (r : Option (Bor (List ℕ))) → IsLine line → length line < 65535 → bytes ≡ line
    → MatchOption r (bytes_eq (take 11 bytes) carriers_word ≡ false) (λ text. (bytes_eq (take 11 bytes) carriers_word ≡ true) × (text.now ≡ drop 11 bytes) × (length text.now + 11 ≡ length bytes))
    → IfSome r (λ text. IsNamesText text.now)
names_text-stripped line bytes None is short same stripped = tt
names_text-stripped line bytes (Some text) is short same stripped =
    names_text-within line text.now is short (sym (ap (λ l. bytes_eq (take 11 l) carriers_word) same) ∙ stripped.0) (stripped.1 ∙ ap (drop 11) same)

-- a result that can have no error is a value
pub ok_result : {T E : Type 0} (r : Result T E) (P : T → Type 0) (Q : E → Type 0) → MatchResult r P Q → ((e : E) → Q e → ⊥) → is_ok r ≡ true
ok_result (Ok x) P Q is none = refl
ok_result (Err e) P Q is none = absurd (none e is)

-- a part between blanks
pub record IsPart (part : List ℕ) : Type 0 where
  pub utf8 : IsUtf8 part
  pub plain : All IsNameByte part

-- a token of a header
pub record IsNameText (token : List ℕ) : Type 0 where
  pub utf8 : IsUtf8 token
  pub name : IsName token

low_blank : (byte : ℕ) → is_blank byte ≡ true → byte < 128
low_blank byte is =
    by_test (nat_eq byte 32)
    (λ space. omega (arith, eqb-true byte 32 space))
    (λ other. omega (arith, eqb-true byte 9 (sym (ap (λ b. b || nat_eq byte 9) other) ∙ is)))

name_byte : (byte : ℕ) → is_blank byte ≡ false → byte ≢ 10 → IsNameByte byte
name_byte byte isnt other = (
  λ (e : byte ≡ 32). false≢true (sym isnt ∙ ap is_blank e),
  λ (e : byte ≡ 9). false≢true (sym isnt ∙ ap is_blank e),
  other,
)

-- what isn't false is true
pub not_false : (b : Bool) → not b ≡ false → b ≡ true
not_false true e = refl
not_false false e = sym e

before_blank : (text : List ℕ) (n : ℕ) → n ≤ position_or_len is_blank text → HasNoLineEnd text → All IsNameByte (take n text)
before_blank text n within one =
    λ k d below.
    let before : k < n = omega (arith, length-take n text, below) in
    let inside : k < length text = omega (arith, length-take n text, below) in
    subst IsNameByte (sym (get_or-take n text k d before)) (name_byte (get_or text k d) (fails_before_first is_blank text k d (omega arith)) (one k d inside))

-- the parts between the blanks of a text
parts : (fuel : ℕ) (text : List ℕ) → length text < fuel → IsUtf8 text → HasNoLineEnd text → All IsPart (slice_split is_blank text)
parts zero text below utf8 one = absurd (omega arith)
parts (suc fuel) text below utf8 one =
    let n : ℕ = position_or_len is_blank text in
    ⊎_elim
    (λ (within : n < length text).
    let blank : is_blank (get_or text n 0) ≡ true = not_false _ (prefix_len_stops (λ b. not (is_blank b)) text 0 within) in
    let low : get_or text n 0 < 128 = low_blank (get_or text n 0) blank in
    let first : IsPart (take n text) = record { utf8 = IsUtf8-take text n utf8 (IsCharBoundary-before_ascii text n within low); plain = before_blank text n (omega arith) one } in
    let shorter : length (drop (n + 1) text) < fuel = omega (arith, length-drop (n + 1) text) in
    let rest : All IsPart (slice_split is_blank (drop (n + 1) text)) = parts fuel (drop (n + 1) text) shorter (IsUtf8-drop text (n + 1) utf8 (IsCharBoundary-after_ascii text n utf8 within low)) (All-drop (λ b. b ≢ 10) (n + 1) text one) in
    subst (All IsPart) (sym (slice_split_first is_blank text 0 within)) (All-cons IsPart (take n text) (slice_split is_blank (drop (n + 1) text)) first rest))
    (λ (past : length text ≤ n).
    let no_blank : All (λ b. is_blank b ≡ false) text = λ k d inside. fails_before_first is_blank text k d (omega arith) in
    let whole : IsPart text = record { utf8 = utf8; plain = λ k d inside. name_byte (get_or text k d) (no_blank k d inside) (one k d inside) } in
    subst (All IsPart) (sym (slice_split_none is_blank text no_blank)) (All-cons IsPart text [] whole (All-nil IsPart)))
    (cases_lt n (length text))

names_kept : (parts : List (List ℕ)) → All IsPart parts → All IsNameText (filter run_has_bytes parts)
names_kept [] are = All-nil IsNameText
names_kept (part ∷ parts) are =
    let first : IsPart part = All-head IsPart part parts are in
    let rest : All IsNameText (filter run_has_bytes parts) = names_kept parts (All-tail IsPart part parts are) in
    by_test (run_has_bytes part)
    (λ is.
    let name : IsNameText part = record { utf8 = first.utf8; name = record { some = ltb-true 0 (length part) is; plain = first.plain } } in
    subst (All IsNameText) (sym (cond-true (run_has_bytes part) (part ∷ filter run_has_bytes parts) (filter run_has_bytes parts) is)) (All-cons IsNameText part (filter run_has_bytes parts) name rest))
    (λ isnt. subst (All IsNameText) (sym (cond-false (run_has_bytes part) (part ∷ filter run_has_bytes parts) (filter run_has_bytes parts) isnt)) rest)

-- the tokens of such a text can be names
pub tokens_are_names : (text : List ℕ) → IsNamesText text → All IsNameText (tokens_of text)
tokens_are_names text is = names_kept (slice_split is_blank text) (parts (suc (length text)) text (omega arith) (IsUtf8-from_is_utf8 text is.utf8) is.one)

-- the bytes of a name, with a space
abbrev pub size : List ℕ → ℕ
size name = length name + 1

kept_len : (parts : List (List ℕ)) → names_len (filter run_has_bytes parts) ≤ names_len parts
kept_len [] = omega arith
kept_len (part ∷ parts) =
    by_test (run_has_bytes part)
    (λ is. omega (arith, kept_len parts, ap names_len (cond-true (run_has_bytes part) (part ∷ filter run_has_bytes parts) (filter run_has_bytes parts) is), sum_by-cons size part parts, sum_by-cons size part (filter run_has_bytes parts)))
    (λ isnt. omega (arith, kept_len parts, ap names_len (cond-false (run_has_bytes part) (part ∷ filter run_has_bytes parts) (filter run_has_bytes parts) isnt), sum_by-cons size part parts))

longer_first : (b : ℕ) (parts : List (List ℕ)) → 0 < length parts → names_len (onto_first b parts) ≡ names_len parts + 1
longer_first b [] some = absurd (omega arith)
longer_first b (part ∷ parts) some = omega (arith, sum_by-cons size part parts, sum_by-cons size (b ∷ part) parts)

split_len : (text : List ℕ) → names_len (slice_split is_blank text) ≡ length text + 1
split_len [] = refl
split_len (b ∷ text) =
    let some : 0 < length (slice_split is_blank text) = omega (arith, length-slice_split is_blank text) in
    by_test (is_blank b)
    (λ is. omega (arith, split_len text, ap names_len (slice_split-cons_yes is_blank b text is), sum_by-cons size [] (slice_split is_blank text)))
    (λ isnt. omega (arith, split_len text, longer_first b (slice_split is_blank text) some, ap names_len (slice_split-cons_no is_blank b text isnt)))

-- the names, with a space for each, take no more bytes than the text
pub tokens_len : (text : List ℕ) → names_len (tokens_of text) ≤ length text + 1
tokens_len text = omega (arith, kept_len (slice_split is_blank text), split_len text)

-- what holds of all holds of the one in the middle
pub in_the_middle : (P : List ℕ → Type 0) (names : List (List ℕ)) (name : List ℕ) (more : List (List ℕ)) → All P (names ++ name ∷ more) → P name
in_the_middle P [] name more are = All-head P name more are
in_the_middle P (n ∷ names) name more are = in_the_middle P names name more (All-tail P n (names ++ name ∷ more) are)

-- the names of a header so far, and the next of them
pub record IsNext (text : List ℕ) (names : List (List ℕ)) (name : List ℕ) (more : List (List ℕ)) : Type 0 where
  pub so_far : names ++ name ∷ more ≡ tokens_of text

-- the next token can be a name
pub next_is_name : (text : List ℕ) (names : List (List ℕ)) (name : List ℕ) (more : List (List ℕ)) → IsNamesText text → IsNext text names name more → IsNameText name
next_is_name text names name more is next = in_the_middle IsNameText names name more (subst (All IsNameText) (sym next.so_far) (tokens_are_names text is))

-- there is room for it
pub next_has_room : (text : List ℕ) (names : List (List ℕ)) (name : List ℕ) (more : List (List ℕ)) → IsNamesText text → IsNext text names name more → names_len (names ++ name ∷ []) ≤ 65524
next_has_room text names name more is next =
    omega (arith, is.short, tokens_len text, ap names_len next.so_far, sum_by-append size names (name ∷ more), sum_by-append size names (name ∷ []), sum_by-cons size name more, sum_by-cons size name [])

twice_there : (names : List (List ℕ)) (name : List ℕ) (more : List (List ℕ)) → list_any (bytes_eq name) names ≡ true → has_name_twice (names ++ name ∷ more) ≡ true
twice_there [] name more is = absurd (false≢true is)
twice_there (n ∷ names) name more is =
    by_test (bytes_eq name n)
    (λ same.
    let equal : bytes_eq n name ≡ true = (bytes_eq-Decides n name).1 (sym ((bytes_eq-Decides name n).0 same)) in
    let here : list_any (bytes_eq n) (names ++ name ∷ more) ≡ true =
    list_any-append (bytes_eq n) names (name ∷ more) ∙ ap (λ b. list_any (bytes_eq n) names || (b || list_any (bytes_eq n) more)) equal ∙ or-true (list_any (bytes_eq n) names) in
    ap (λ b. b || has_name_twice (names ++ name ∷ more)) here)
    (λ other.
    let later : list_any (bytes_eq name) names ≡ true = sym (ap (λ b. b || list_any (bytes_eq name) names) other) ∙ is in
    ap (λ b. list_any (bytes_eq n) (names ++ name ∷ more) || b) (twice_there names name more later) ∙ or-true (list_any (bytes_eq n) (names ++ name ∷ more)))

placed : (names : List (List ℕ)) (name : List ℕ) (place : Option ℕ) → position (bytes_eq name) names ≡ place → IsSome place → list_any (bytes_eq name) names ≡ true
placed names name None is some = absurd (false≢true some)
placed names name (Some i) is some =
    let found = position-Some (bytes_eq name) names i [] is in
    list_any_at (bytes_eq name) names i [] found.0 found.1

is_placed : {A : Type 0} (f : ℕ → A) (place : Option ℕ) → IsSome (option_map f place) → IsSome place
is_placed f None some = some
is_placed f (Some i) some = some

-- a name that is there stands twice
pub next_is_twice : (text : List ℕ) (names : List (List ℕ)) (name : List ℕ) (more : List (List ℕ)) → IsNext text names name more → IsSome (carrier_of names name) → has_name_twice (tokens_of text) ≡ true
next_is_twice text names name more next some =
    sym (ap has_name_twice next.so_far) ∙ twice_there names name more (placed names name (position (bytes_eq name) names) refl (is_placed _ (position (bytes_eq name) names) some))

-- what holds of each value holds of this one
pub ok_at : {T E : Type 0} (r : Result T E) (x : T) (P : T → Type 0) (Q : E → Type 0) → r ≡ Ok x → MatchResult r P Q → P x
ok_at r x P Q is holds = subst (λ r. MatchResult r P Q) is holds

-- a text that was read as UTF-8 is the next name
pub next_read : {E : Type 0} (text : List ℕ) (names : List (List ℕ)) (token : Bor (List ℕ)) (rest more : List ℕ) (r : Result (Bor (List ℕ)) E) (name : Bor (List ℕ)) (Q : E → Type 0)
    → names ++ tokens_of rest ≡ tokens_of text → tokens_of rest ≡ token.now ∷ tokens_of more → r ≡ Ok name → MatchResult r (λ s. (s.now ≡ token.now) × IsUtf8 token.now) Q
    → IsNext text names name.now (tokens_of more)
next_read text names token rest more r name Q so_far split is read =
    let same : name.now ≡ token.now = (ok_at r name (λ s. (s.now ≡ token.now) × IsUtf8 token.now) Q is read).0 in
    record { so_far = ap (λ t. names ++ t ∷ tokens_of more) same ∙ sym (ap (λ ts. names ++ ts) split) ∙ so_far }

none_there : {A : Type 0} (o : Option A) → is_some o ≡ false → o ≡ None
none_there None new = refl
none_there (Some x) new = absurd (false≢true (sym new))

apart : {T E : Type 0} (r : Result T E) (x : T) (e : E) {P : Type 0} → r ≡ Ok x → r ≡ Err e → P
apart r x e is other = cc

-- a name that was added is one of at most 64
pub still_few : {T : Type 0} (names : List (List ℕ)) (name : List ℕ) (r : Result T AddName) (x : T) → r ≡ Ok x
    → IsErrOf r Twice ↔ IsSome (carrier_of names name) → IsErrOf r Many ↔ ((carrier_of names name ≡ None) × (length names ≡ 64))
    → length names ≤ 64 → length (names ++ name ∷ []) ≤ 64
still_few names name r x is twice many few =
    ⊎_elim
    (λ (below : length names < 64). omega (arith, length-append names (name ∷ [])))
    (λ (past : 64 ≤ length names).
    by_test (is_some (carrier_of names name))
    (λ there. apart r x Twice is (twice.1 there))
    (λ new. apart r x Many is (many.1 (none_there (carrier_of names name) new, omega arith))))
    (cases_lt (length names) 64)

-- a header that gives a name twice is refused
pub declared_twice : (line : ℕ) (names : List (List ℕ)) → has_name_twice names ≡ true → names_declared (record { line = line; names = names }) ≡ Err (CarrierNameTwice line)
declared_twice line names is = cond-true (has_name_twice names) _ _ is

-- a header whose names are different and few declares them
pub declared_all : (line : ℕ) (text : List ℕ) (names : List (List ℕ)) (rest : List ℕ) → has_name_twice (tokens_of text) ≡ false → names ++ tokens_of rest ≡ tokens_of text
    → tokens_of rest ≡ [] → length names ≤ 64 → names_declared (record { line = line; names = tokens_of text }) ≡ Ok names
declared_all line text names rest isnt so_far none few =
    let all : names ≡ tokens_of text = sym (append-nil names) ∙ ap (λ ts. names ++ ts) (sym none) ∙ so_far in
    let lawful : nat_lt 64 (length (tokens_of text)) ≡ false =
    by_test (nat_lt 64 (length (tokens_of text))) (λ is. absurd (omega (arith, ltb-true 64 (length (tokens_of text)) is, ap length all))) (λ isnt. isnt) in
    cond-false (has_name_twice (tokens_of text)) _ _ isnt ∙ cond-false (nat_lt 64 (length (tokens_of text))) _ _ lawful ∙ ap Ok (sym all)

-- a text without a line feed
pub no_line_feed : (text : List ℕ) → list_any (λ byte. byte == 10) text ≡ false → HasNoLineEnd text
no_line_feed text none k d inside e = false≢true (sym none ∙ list_any_at (λ byte. byte == 10) text k d inside (eq-eqb (get_or text k d) 10 e))

-- what isn't true is false
pub not_true : (b : Bool) → not b ≡ true → b ≡ false
not_true true e = sym e
not_true false e = refl
