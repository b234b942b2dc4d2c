-- The names that a short line gives to a header have a spelling.
use Rattle.std.proofs.Common.{◌≡◌, ◌≢◌, ℕ, ◌<◌, ◌≤◌, Bool, true, false, cond, ◌||◌, nat_eq, nat_lt, List, [], ◌∷◌, ◌++◌, All, AllPairs, length, drop, get_or, Option, None, Some, unwrap_or, Ok, Err, codes, ap, refl, subst, arith, rules, length-append, length-drop}
use Rattle.std.specs.List.{AllByRecursion, list_any, starts_with}
use Rattle.std.specs.Str.{IsUtf8, bytes_eq}
use Rattle.std.proofs.lemmas.Bool.{ltb-false}
use Rattle.std.proofs.lemmas.Bool.Decides.{Decides-eqb}
use Rattle.std.proofs.lemmas.List.Elements.{All-drop, All-from_recursion, All-head, All-tail, All-weaker}
use Rattle.std.proofs.lemmas.List.Kept.{AllPairs-cons}
use Rattle.std.proofs.lemmas.Slice.Eq.{bytes_eq-Decides, starts_is}
use Rattle.std.proofs.lemmas.Str.{IsCharBoundary-after_ascii, IsUtf8-append, IsUtf8-drop, IsUtf8-from_ascii, IsUtf8-from_is_utf8, IsUtf8-nil, is_utf8-from_IsUtf8}
use Rattle.std.proofs.lemmas.Str.Ascii.{IsAscii-from_all}
use Rattle.knit_base.specs.Names.{IsName, spaced_names}
use Rattle.knitout_reader.specs.declared.head.HeadFault.{HeadFault}
use Rattle.knitout_reader.specs.declared.head.HeadFault.TheVariants.{CarrierNameTwice, ManyCarriers}
use Rattle.knitout_reader.specs.Head.{IsNamesText, carriers_word, has_name_twice, is_carriers_line, names_declared, names_in_line, names_of, names_or_none}
use Rattle.knitout_reader.proofs.Heads.{IsNameText, tokens_are_names, tokens_len}
use Rattle.journal_file.specs.SavedParts.{AreGivenNames, IsShortLine}
use Rattle.journal_file.proofs.HeaderNames.{no_names}

-- what stands behind the colon of a header
names_text : (line : List ℕ) → IsShortLine line → is_carriers_line line ≡ true → IsNamesText (drop 11 line)
names_text line is begins =
    let split : line ≡ carriers_word ++ drop 11 line = (starts_is Decides-eqb line carriers_word (starts_with nat_eq line carriers_word) refl).0 begins in
    let long : 11 ≤ length line = omega (arith, ap length split, length-append carriers_word (drop 11 line)) in
    let colon : get_or line 10 0 ≡ 58 = ap (λ (l : List ℕ). get_or l 10 0) split in
    let utf8 : IsUtf8 line = IsUtf8-from_is_utf8 line is.utf8 in
    let short = is.short in
    record {
      utf8 = is_utf8-from_IsUtf8 (drop 11 line) (IsUtf8-drop line 11 utf8 (IsCharBoundary-after_ascii line 10 utf8 (omega arith) (omega arith)));
      one = All-drop (λ byte. byte ≢ 10) 11 line is.one;
      short = omega (arith, length-drop 11 line, short);
    }

-- no name stands twice
either_false : (a b : Bool) → (a || b) ≡ false → (a ≡ false) × (b ≡ false)
either_false true b is = absurd (cc)
either_false false b is = (refl, is)

none_equal : (name : List ℕ) (names : List (List ℕ)) → list_any (bytes_eq name) names ≡ false → AllByRecursion (λ later. name ≢ later) names
none_equal name [] none = tt
none_equal name (next ∷ names) none =
    let each = either_false (bytes_eq name next) (list_any (bytes_eq name) names) none in
    (λ same. let yes : bytes_eq name next ≡ true = (bytes_eq-Decides name next).1 same in let other = each.0 in absurd (cc), none_equal name names each.1)

all_differ : (names : List (List ℕ)) → has_name_twice names ≡ false → AllPairs (λ name later. name ≢ later) names
all_differ [] none = λ i j d less within. absurd (omega (arith, within))
all_differ (name ∷ names) none =
    let each = either_false (list_any (bytes_eq name) names) (has_name_twice names) none in
    AllPairs-cons (λ name later. name ≢ later) name names (All-from_recursion (λ later. name ≢ later) names (none_equal name names each.0)) (all_differ names each.1)

-- names behind spaces are UTF-8
space_utf8 : IsUtf8 (codes " ")
space_utf8 = IsUtf8-from_ascii (codes " ") (IsAscii-from_all (codes " ") (All-from_recursion (λ byte. byte < 128) (codes " ") plain))
  where
    plain : AllByRecursion (λ byte. byte < 128) (codes " ")
    plain = search rules

spaced_utf8 : (names : List (List ℕ)) → All IsNameText names → IsUtf8 (spaced_names names)
spaced_utf8 [] are = IsUtf8-nil
spaced_utf8 (name ∷ names) are =
    IsUtf8-append (codes " " ++ name) (spaced_names names) (IsUtf8-append (codes " ") name space_utf8 (All-head IsNameText name names are).utf8)
    (spaced_utf8 names (All-tail IsNameText name names are))

-- the names of a header are those behind its colon, where they are different and few
record AreDeclared (twice many : Bool) (names given : List (List ℕ)) : Type 0 where
  once : twice ≡ false
  few : many ≡ false
  same : given ≡ names

declared : (twice many : Bool) (names given : List (List ℕ)) (a b : HeadFault) → names_or_none (cond twice (Err a) (cond many (Err b) (Ok given))) ≡ Some names → AreDeclared twice many names given
declared true many names given a b is = absurd (cc)
declared false true names given a b is = absurd (cc)
declared false false names given a b is = record { once = refl; few = refl; same = cc }

some_given : (line : List ℕ) (names : List (List ℕ)) → IsShortLine line → names_in_line line ≡ Some names → AreGivenNames names
some_given line names short is = go (is_carriers_line line) refl is
  where
    go : (t : Bool) → is_carriers_line line ≡ t → cond t (names_or_none (names_declared (record { line = 1; names = names_of line }))) None ≡ Some names → AreGivenNames names
    go false other none = absurd (cc)
    go true begins some =
        let d = declared (has_name_twice (names_of line)) (nat_lt 64 (length (names_of line))) names (names_of line) (CarrierNameTwice 1) (ManyCarriers 1) some in
        let text = names_text line short begins in
        let are : All IsNameText (names_of line) = tokens_are_names (drop 11 line) text in
        let room = text.short in
        subst AreGivenNames d.same (record {
          are = record {
            few = ltb-false 64 (length (names_of line)) d.few;
            differ = all_differ (names_of line) d.once;
            each = All-weaker IsNameText IsName (λ name n. n.name) (names_of line) are;
            room = omega (arith, tokens_len (drop 11 line), room);
          };
          utf8 = is_utf8-from_IsUtf8 (spaced_names (names_of line)) (spaced_utf8 (names_of line) are);
        })

-- the names that a line gives; a line that is no header gives none
pub names_given : (line : List ℕ) → IsShortLine line → AreGivenNames (unwrap_or (names_in_line line) [])
names_given line short = go (names_in_line line) refl
  where
    go : (o : Option (List (List ℕ))) → names_in_line line ≡ o → AreGivenNames (unwrap_or o [])
    go None is = let none = no_names [] refl in record { are = none.are; utf8 = none.utf8 }
    go (Some names) is = some_given line names short is
