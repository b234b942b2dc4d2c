-- The first line of bytes.
use Rattle.std.proofs.Common.{◌≡◌, ◌≢◌, ◌∙◌, ◌==◌, ℕ, ◌+◌, ◌<◌, List, [], ◌∷◌, ◌++◌, ◌-◌, length, take, drop, get_or, length-drop, ap, sym, subst, refl, arith, append_assoc}
use Rattle.std.proofs.lemmas.List.{drop_more, get_or-take, get_or_default, length-take-le, take-append-drop, take_all}
use Rattle.std.proofs.lemmas.List.Elements.{All-cons, All-head, All-nil, All-tail}
use Rattle.std.proofs.lemmas.Bool.{eqb-true, false≢true}
use Rattle.std.proofs.lemmas.Bool.Decides.{Decides-eqb}
use Rattle.knit_base.proofs.Places.{by_test}
use Rattle.knit_base.specs.Lines.{HasNoLineEnd}
use Rattle.knitout_reader.proofs.Signs.{first_byte, other_bytes}
use Rattle.journal_file.specs.Lines.{HasLines, lines_with_ends}

-- bytes without a line feed have none behind some of them
pub none_inside : (line more : List ℕ) → HasNoLineEnd (line ++ 10 ∷ more) → ⊥
none_inside [] more none = All-head (λ byte. byte ≢ 10) 10 more none refl
none_inside (b ∷ line) more none = none_inside line more (All-tail (λ byte. byte ≢ 10) b (line ++ 10 ∷ more) none)

-- the first line feed is at one place
pub one_feed : (line front rest behind : List ℕ) → HasNoLineEnd line → HasNoLineEnd front → line ++ 10 ∷ rest ≡ front ++ 10 ∷ behind → (line ≡ front) × (rest ≡ behind)
one_feed [] [] rest behind none none' same = (refl, other_bytes _ _ _ _ same)
one_feed [] (b ∷ front) rest behind none none' same = absurd (All-head (λ byte. byte ≢ 10) b front none' (sym (first_byte _ _ _ _ same)))
one_feed (b ∷ line) [] rest behind none none' same = absurd (All-head (λ byte. byte ≢ 10) b line none (first_byte _ _ _ _ same))
one_feed (b ∷ line) (d ∷ front) rest behind none none' same =
    let others : (line ≡ front) × (rest ≡ behind) =
    one_feed line front rest behind (All-tail (λ byte. byte ≢ 10) b line none) (All-tail (λ byte. byte ≢ 10) d front none') (other_bytes _ _ _ _ same) in
    ((λ i. first_byte _ _ _ _ same i ∷ others.0 i), others.1)

-- bytes that have no line feed have no line
pub no_line : (bytes last : List ℕ) (lines : List (List ℕ)) → HasNoLineEnd bytes → HasLines bytes lines last → lines ≡ []
no_line bytes last [] none h = refl
no_line bytes last (line ∷ lines) none h =
    absurd (none_inside line (lines_with_ends lines ++ last) (subst HasNoLineEnd (h.bytes_are ∙ append_assoc line (10 ∷ lines_with_ends lines) last) none))

-- the first line of bytes, and those behind it
pub line_first : (bytes line rest last : List ℕ) (lines : List (List ℕ)) → HasNoLineEnd line → bytes ≡ line ++ 10 ∷ rest → HasLines bytes lines last
    → (more : List (List ℕ)) × (lines ≡ line ∷ more) × HasLines rest more last
line_first bytes line rest last [] one is h = absurd (none_inside line rest (subst HasNoLineEnd (sym h.bytes_are ∙ is) h.none))
line_first bytes line rest last (first ∷ lines) one is h =
    let same : (line ≡ first) × (rest ≡ lines_with_ends lines ++ last) = one_feed line first rest (lines_with_ends lines ++ last) one (All-head HasNoLineEnd first lines h.each)
    (sym is ∙ h.bytes_are ∙ append_assoc first (10 ∷ lines_with_ends lines) last) in
    (lines, (λ i. sym same.0 i ∷ lines), record { bytes_are = same.1; each = All-tail HasNoLineEnd first lines h.each; none = h.none })

before_feed : (text : List ℕ) (end : ℕ) → end < length text → ((k : ℕ) → k < end → get_or text k 0 ≢ 10) → HasNoLineEnd (take end text)
before_feed text end within none = λ k d below is.
    let low : k < end = omega (arith, below, length-take-le end text (omega (arith, within))) in
    none k low (sym (get_or_default text k d 0 (omega (arith, low, within))) ∙ sym (get_or-take end text k d low) ∙ is)

-- what stands before the first line feed, and behind it
pub feed_found : (text : List ℕ) (end : ℕ) → end < length text → ((k : ℕ) → k < end → get_or text k 0 ≢ 10) → get_or text end 0 ≡ 10
    → HasNoLineEnd (take end text) × (text ≡ take end text ++ 10 ∷ take (length text - (end + 1)) (drop (end + 1) text))
feed_found text end within none is = (
  before_feed text end within none,
  sym (take-append-drop end text)
      ∙ ap (λ t. take end text ++ t) (drop_more text end 0 within ∙ ap (λ b. b ∷ drop (end + 1) text) is ∙ ap (λ t. 10 ∷ t) (sym (take_all (length text - (end + 1)) (drop (end + 1) text) (omega (arith, length-drop (end + 1) text))))),
)

-- bytes have lines
pub lines_exist : (bytes : List ℕ) → (lines : List (List ℕ)) × (last : List ℕ) × HasLines bytes lines last
lines_exist [] = ([], [], record { bytes_are = refl; each = All-nil HasNoLineEnd; none = All-nil (λ byte. byte ≢ 10) })
lines_exist (byte ∷ bytes) =
    let w = lines_exist bytes in
    by_test (byte == 10)
    (λ feed. ([] ∷ w.0, w.1, record { bytes_are = (λ i. eqb-true byte 10 feed i ∷ w.2.bytes_are i); each = All-cons HasNoLineEnd [] w.0 (All-nil (λ b. b ≢ 10)) w.2.each; none = w.2.none }))
    (λ other. with_byte w.0 w.1 w.2 (λ ten. false≢true (sym other ∙ (Decides-eqb byte 10).1 ten)))
  where
    with_byte : (lines : List (List ℕ)) (last : List ℕ) → HasLines bytes lines last → byte ≢ 10 → (ls : List (List ℕ)) × (l : List ℕ) × HasLines (byte ∷ bytes) ls l
    with_byte [] last h other = ([], byte ∷ last, record { bytes_are = ap (λ b. byte ∷ b) h.bytes_are; each = h.each; none = All-cons (λ b. b ≢ 10) byte last other h.none })
    with_byte (line ∷ lines) last h other = (
      (byte ∷ line) ∷ lines,
      last,
      record {
        bytes_are = ap (λ b. byte ∷ b) h.bytes_are;
        each = All-cons HasNoLineEnd (byte ∷ line) lines (All-cons (λ b. b ≢ 10) byte line other (All-head HasNoLineEnd line lines h.each)) (All-tail HasNoLineEnd line lines h.each);
        none = h.none;
      },
    )

-- bytes have one list of lines
pub lines_one : (lines : List (List ℕ)) (bytes last : List ℕ) (others : List (List ℕ)) (end : List ℕ) → HasLines bytes lines last → HasLines bytes others end → lines ≡ others
lines_one [] bytes last others end h g = sym (no_line bytes end others (subst HasNoLineEnd (sym h.bytes_are) h.none) g)
lines_one (line ∷ lines) bytes last others end h g =
    let rest = lines_with_ends lines ++ last in
    let w = line_first bytes line rest end others (All-head HasNoLineEnd line lines h.each) (h.bytes_are ∙ append_assoc line (10 ∷ lines_with_ends lines) last) g in
    ap (λ ls. line ∷ ls) (lines_one lines rest last w.0 end (record { bytes_are = refl; each = All-tail HasNoLineEnd line lines h.each; none = h.none }) w.2) ∙ sym w.1
