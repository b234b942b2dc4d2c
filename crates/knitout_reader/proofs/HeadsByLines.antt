-- Heads whose lines come one by one.
use Rattle.std.proofs.Common.{◌≡◌, ◌≢◌, ℕ, suc, ◌+◌, ◌<◌, ◌≤◌, ◌⊎◌, inl, inr, ⊎_elim, Bool, true, false, ◌||◌, ◌&&◌, nat_eq, List, [], ◌∷◌, ◌++◌, length, take, drop, get_or, Result, Ok, Err, IfOk, ap, sym, subst, ◌∙◌, refl, arith, append-nil, append_assoc, take-append-drop, length-append}
use Rattle.std.specs.Cmp.Lexicographic.{pointwise}
use Rattle.std.specs.List.{prefix_len, list_all}
use Rattle.std.proofs.lemmas.Bool.{cond-true, cond-false, eq-eqb, false≢true}
use Rattle.std.proofs.lemmas.List.{drop_more, length-take, take_all, take_more}
use Rattle.std.proofs.lemmas.List.Folds.{prefix_len-append}
use Rattle.std.proofs.Math.Seq.{take-append_seam}
use Rattle.knit_base.proofs.Places.{by_test}
use Rattle.knitout_reader.specs.declared.head.Head.{Head}
use Rattle.knitout_reader.specs.declared.head.HeadFault.{HeadFault}
use Rattle.knitout_reader.specs.declared.head.HeadFault.TheVariants.{BadMagic}
use Rattle.knitout_reader.specs.declared.head_reader.HeadReader.{HeadReader}
use Rattle.knitout_reader.specs.declared.head_reader.Headers.{Headers}
use Rattle.knitout_reader.specs.Tokens.{is_blank, tokens_of}
use Rattle.knitout_reader.specs.Head.{carriers_headers, carriers_word, declared_names, head_len, is_carriers_line, is_head_line, is_magic, names_of, one_declared, CarriersHeader, IsHead, IsHeadFault, IsHeadRefusal}
use Rattle.knitout_reader.specs.HeadLines.{has_magic, AreBehindHead, AreHeaders, HasHeadLines}

-- the headers among lines, and among those behind them
pub headers-append : (number next : ℕ) (lines later : List (List ℕ)) → next ≡ number + length lines → carriers_headers number (lines ++ later) ≡ carriers_headers number lines ++ carriers_headers next later
headers-append number next [] later is = ap (λ n. carriers_headers n later) (omega arith)
headers-append number next (line ∷ lines) later is =
    let rest : carriers_headers (number + 1) (lines ++ later) ≡ carriers_headers (number + 1) lines ++ carriers_headers next later = headers-append (number + 1) next lines later (omega arith) in
    by_test (is_carriers_line line)
    (λ names.
    cond-true (is_carriers_line line) _ _ names ∙ ap (λ hs. record { line = number; names = names_of line } ∷ hs) rest
    ∙ ap (λ hs. hs ++ carriers_headers next later) (sym (cond-true (is_carriers_line line) (record { line = number; names = names_of line } ∷ carriers_headers (number + 1) lines) (carriers_headers (number + 1) lines) names)))
    (λ other.
    cond-false (is_carriers_line line) _ _ other ∙ rest
    ∙ ap (λ hs. hs ++ carriers_headers next later) (sym (cond-false (is_carriers_line line) (record { line = number; names = names_of line } ∷ carriers_headers (number + 1) lines) (carriers_headers (number + 1) lines) other)))

-- a line more that names no carriers
pub no_header : (lines : List (List ℕ)) (line : List ℕ) (headers : Headers) → is_carriers_line line ≡ false → AreHeaders (carriers_headers 1 lines) headers → AreHeaders (carriers_headers 1 (lines ++ line ∷ [])) headers
no_header lines line headers other are =
    subst (λ hs. AreHeaders hs headers)
    (sym (headers-append 1 (1 + length lines) lines (line ∷ []) refl
    ∙ ap (λ hs. carriers_headers 1 lines ++ hs) (cond-false (is_carriers_line line) (record { line = 1 + length lines; names = names_of line } ∷ []) [] other) ∙ append-nil (carriers_headers 1 lines)))
    are

-- a line more that names carriers
pub header_more : (lines : List (List ℕ)) (line text : List ℕ) (number : ℕ) → number ≡ length lines + 1 → is_carriers_line line ≡ true → text ≡ drop (length carriers_word) line
    → carriers_headers 1 (lines ++ line ∷ []) ≡ carriers_headers 1 lines ++ record { line = number; names = tokens_of text } ∷ []
header_more lines line text number is names behind =
    headers-append 1 number lines (line ∷ []) (omega arith)
    ∙ ap (λ hs. carriers_headers 1 lines ++ hs)
    (cond-true (is_carriers_line line) (record { line = number; names = names_of line } ∷ []) [] names ∙ ap (λ t. record { line = number; names = tokens_of t } ∷ []) (sym behind))

-- all of these lines are of the head, so those behind them are counted on
all_of : (lines later : List (List ℕ)) → prefix_len is_head_line lines ≡ length lines → prefix_len is_head_line (lines ++ later) ≡ length lines + prefix_len is_head_line later
all_of lines later all = prefix_len-append is_head_line lines later ∙ cond-true _ _ _ (eq-eqb (prefix_len is_head_line lines) (length lines) all)

-- a reader that has looked whether the next line is of the head
pub record HasLooked (line : List ℕ) (old mid : HeadReader) : Type 0 where
  pub lines : mid.lines ≡ old.lines
  pub headers : mid.headers ≡ old.headers
  pub first : old.lines ≡ 0 → mid.has_magic ≡ is_magic line
  pub later : 0 < old.lines → (is_head_line line ≡ true) × (mid.has_magic ≡ old.has_magic)

-- it is the first line
pub looked_first : (line bytes : List ℕ) (old mid : HeadReader) (magic : Bool) → old.lines ≡ 0 → bytes ≡ line → magic ≡ is_magic bytes → mid ≡ record old { has_magic = magic } → HasLooked line old mid
looked_first line bytes old mid magic none same is mid_is = record {
  lines = ap (λ (r : HeadReader). r.lines) mid_is;
  headers = ap (λ (r : HeadReader). r.headers) mid_is;
  first = λ _. ap (λ (r : HeadReader). r.has_magic) mid_is ∙ is ∙ ap is_magic same;
  later = λ some. absurd (omega arith);
}

-- it is a later line of the head
pub looked_later : (line bytes : List ℕ) (old mid : HeadReader) (goes_on : Bool) → old.lines ≢ 0 → bytes ≡ line → goes_on ≡ is_head_line bytes → goes_on ≡ true → mid ≡ old → HasLooked line old mid
looked_later line bytes old mid goes_on some same is goes mid_is = record {
  lines = ap (λ (r : HeadReader). r.lines) mid_is;
  headers = ap (λ (r : HeadReader). r.headers) mid_is;
  first = λ none. absurd (some none);
  later = λ _. (sym (is ∙ ap is_head_line same) ∙ goes, ap (λ (r : HeadReader). r.has_magic) mid_is);
}

-- what is said of the headers of one line more
abbrev pub AddsLine : List ℕ → HeadReader → Headers → Type 0
AddsLine line mid headers = (lines : List (List ℕ)) → mid.lines + 1 ≡ length lines + 1 → AreHeaders (carriers_headers 1 lines) mid.headers → AreHeaders (carriers_headers 1 (lines ++ line ∷ [])) headers

-- a line more of the head
pub head_more : (lines : List (List ℕ)) (line : List ℕ) (old mid : HeadReader) (headers : Headers) → HasHeadLines lines old → HasLooked line old mid → AddsLine line mid headers
    → HasHeadLines (lines ++ line ∷ []) (record { lines = mid.lines + 1; has_magic = mid.has_magic; headers = headers })
head_more [] line old mid headers has looked adds = record {
  counted = omega (arith, looked.lines, has.counted);
  all = refl;
  magic = looked.first has.counted;
  headers = adds [] (omega (arith, looked.lines, has.counted)) (subst (AreHeaders (carriers_headers 1 [])) (sym looked.headers) has.headers);
}
head_more (first ∷ lines) line old mid headers has looked adds =
    let further : 0 < old.lines = omega (arith, has.counted) in
    let all : prefix_len is_head_line lines ≡ length lines = omega (arith, has.all) in
    let one : prefix_len is_head_line (line ∷ []) ≡ 1 = cond-true (is_head_line line) 1 0 (looked.later further).0 in
    record {
      counted = omega (arith, looked.lines, has.counted, length-append lines (line ∷ []));
      all = omega (arith, all_of lines (line ∷ []) all, one, length-append lines (line ∷ []));
      magic = (looked.later further).1 ∙ has.magic;
      headers = adds (first ∷ lines) (omega (arith, looked.lines, has.counted)) (subst (AreHeaders (carriers_headers 1 (first ∷ lines))) (sym looked.headers) has.headers);
    }

-- the head's lines are counted whatever stands behind them
none_behind : (more : List (List ℕ)) → AreBehindHead more → prefix_len is_head_line more ≡ 0
none_behind [] are = refl
none_behind (line ∷ more) are = cond-false (is_head_line line) (1 + prefix_len is_head_line more) 0 are

front_len : (first : List ℕ) (lines more : List (List ℕ)) → head_len (first ∷ lines) ≡ length (first ∷ lines) → AreBehindHead more → head_len (first ∷ lines ++ more) ≡ length (first ∷ lines)
front_len first lines more all behind =
    let rest : prefix_len is_head_line lines ≡ length lines = omega (arith, all) in
    omega (arith, all_of lines more rest, none_behind more behind)

both_fail : (a b c : Bool) → a ≡ false → (a && b) && c ≡ false
both_fail true b c other = absurd (false≢true (sym other))
both_fail false b c other = refl

-- a line with which a file begins goes on with a head
magic_goes_on : (line : List ℕ) → is_head_line line ≡ false → is_magic line ≡ false
magic_goes_on [] isnt = refl
magic_goes_on (byte ∷ line) isnt =
    by_test (nat_eq 59 byte)
    (λ is. absurd (false≢true (sym isnt ∙ ap (λ b. (b && true) || list_all is_blank (byte ∷ line)) is)))
    (λ other. both_fail (nat_eq 59 byte) _ _ other)

-- the names of the carriers, whatever stands behind the head
pub names_known : (lines more : List (List ℕ)) (reader : HeadReader) → HasHeadLines lines reader → reader.has_magic ≡ true → AreBehindHead more → declared_names (lines ++ more) ≡ one_declared (carriers_headers 1 lines)
names_known [] more reader has magic behind = absurd (false≢true (sym has.magic ∙ magic))
names_known (first ∷ lines) more reader has magic behind =
    cond-true (is_magic first) _ _ (sym has.magic ∙ magic)
    ∙ ap (λ ls. one_declared (carriers_headers 1 ls))
    (ap (λ n. take n (first ∷ lines ++ more)) (front_len first lines more has.all behind) ∙ take-append_seam (first ∷ lines) more)

-- a head that doesn't begin as a file
pub no_magic_is_refused : (lines more : List (List ℕ)) (reader : HeadReader) → HasHeadLines lines reader → reader.has_magic ≡ false → AreBehindHead more → declared_names (lines ++ more) ≡ Err BadMagic
no_magic_is_refused [] [] reader has magic behind = refl
no_magic_is_refused [] (line ∷ more) reader has magic behind = cond-false (is_magic line) _ _ (magic_goes_on line behind)
no_magic_is_refused (first ∷ lines) more reader has magic behind = cond-false (is_magic first) _ _ (sym has.magic ∙ magic)

-- the head of these lines, whatever stands behind them
pub head_known : (lines more : List (List ℕ)) (reader : HeadReader) (head : Head) → HasHeadLines lines reader → reader.has_magic ≡ true → AreBehindHead more → head.lines ≡ reader.lines
    → one_declared (carriers_headers 1 lines) ≡ Ok head.declared → IsHead (lines ++ more) head
head_known [] more reader head has magic behind len names = absurd (false≢true (sym has.magic ∙ magic))
head_known (first ∷ lines) more reader head has magic behind len names = record {
  len = len ∙ has.counted ∙ sym (front_len first lines more has.all behind);
  names = names_known (first ∷ lines) more reader has magic behind ∙ names;
}

-- one line more of the lines of a text
pub taken_more : (lines : List (List ℕ)) (i : ℕ) (line : List ℕ) → i < length lines → line ≡ get_or lines i [] → take i lines ++ line ∷ [] ≡ take (i + 1) lines
taken_more lines i line within is = ap (λ l. take i lines ++ l ∷ []) is ∙ sym (take_more lines i [] within)

-- the lines from one on that isn't of the head
pub behind_part : (lines : List (List ℕ)) (i : ℕ) (line : List ℕ) → i < length lines → line ≡ get_or lines i [] → is_head_line line ≡ false → AreBehindHead (drop i lines)
behind_part lines i line within is outside = subst AreBehindHead (sym (drop_more lines i [] within)) (sym (ap is_head_line is) ∙ outside)

-- what holds of a value by two clauses
pub ok_of_both : {T E : Type 0} (r : Result T E) (P Q R : T → Type 0) → ((x : T) → P x → Q x → R x) → IfOk r P → IfOk r Q → IfOk r R
ok_of_both (Ok x) P Q R f p q = f x p q
ok_of_both (Err e) P Q R f p q = tt
