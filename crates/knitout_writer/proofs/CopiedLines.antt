-- Lines that are copied.
use Rattle.std.proofs.Common.{◌≡◌, ◌≢◌, ◌⊎◌, ⊎_elim, ℕ, ◌+◌, ◌-◌, ◌<◌, List, [], ◌∷◌, ◌++◌, length, take, drop, get_or, All, codes, ap, sym, subst, ◌∙◌, refl, arith, lit<, append_assoc, append-nil, length-drop, take-append-drop}
use Rattle.std.proofs.lemmas.List.{drop_more, get_or-take, length-take, take_all}
use Rattle.std.proofs.lemmas.List.Elements.{All-append, All-cons, All-head, All-nil, All-tail, All-weaker}
use Rattle.knitout_reader.specs.Shortest.{AreShortestNeedles, AreShortestOperands, IsShortestSpelling}
use Rattle.knitout_writer.specs.Canonical.{tokens_spaced}
use Rattle.knitout_writer.specs.Written.{AreSpacedNames, IsCopiedLine, IsCopiedName, IsCopiedNameByte, IsPlainByte}
use Rattle.knitout_writer.proofs.PlainBytes.{IsPlainBefore, knit-plain, shortest-plain, tuck-plain}
use Rattle.knitout_writer.proofs.ShortestSpellings.{knit-canonical, shortest-canonical, tuck-canonical}
use Rattle.knitout_writer.proofs.SpacedTokens.{IsWord}

-- a line in its shortest spelling whose last byte is plain
pub shortest-copied : (line : List ℕ) → IsShortestSpelling line → IsPlainByte (get_or line (length line - 1) 0) → IsCopiedLine line
shortest-copied line is plain = record { bytes = shortest-plain line is plain; canonical = λ profile names. shortest-canonical profile names line is }

plain_name : (text : List ℕ) → All IsCopiedNameByte text → All IsPlainByte text
plain_name text are = λ k d below. (are k d below).plain

-- one name
pub names-one : (text : List ℕ) (len : ℕ) → 0 < len → len ≡ length text → All IsCopiedNameByte (take len text) → AreSpacedNames text
names-one text len some is are =
    let bytes : All IsCopiedNameByte text = subst (All IsCopiedNameByte) (take_all len text (omega arith)) are in
    record {
      names = text ∷ [];
      some = omega arith;
      each = All-cons IsCopiedName text [] (record { some = omega arith; bytes = bytes }) (All-nil IsCopiedName);
      spelt = sym (append-nil text);
      bytes = plain_name text bytes;
    }

names_spelt : (name : List ℕ) (names : List (List ℕ)) → 0 < length names → name ++ 32 ∷ tokens_spaced names ≡ tokens_spaced (name ∷ names)
names_spelt name [] some = absurd (omega arith)
names_spelt name (next ∷ names) some = refl

-- a name before others
pub names-more : (text rest : List ℕ) (len : ℕ) → 0 < len → len < length text → get_or text len 0 ≡ 32 → All IsCopiedNameByte (take len text)
    → rest ≡ take (length text - (len + 1)) (drop (len + 1) text) → AreSpacedNames rest → AreSpacedNames text
names-more text rest len some within space are is later =
    let behind : rest ≡ drop (len + 1) text = is ∙ take_all (length text - (len + 1)) (drop (len + 1) text) (omega (arith, length-drop (len + 1) text)) in
    let whole : take len text ++ 32 ∷ rest ≡ text =
    ap (λ l. take len text ++ 32 ∷ l) behind ∙ ap (λ byte. take len text ++ byte ∷ drop (len + 1) text) (sym space)
    ∙ ap (λ l. take len text ++ l) (sym (drop_more text len 0 within)) ∙ take-append-drop len text in
    record {
      names = take len text ∷ later.names;
      some = omega arith;
      each = All-cons IsCopiedName (take len text) later.names (record { some = omega (arith, some, within, length-take len text); bytes = are }) later.each;
      spelt = sym whole ∙ ap (λ l. take len text ++ 32 ∷ l) later.spelt ∙ names_spelt (take len text) later.names later.some;
      bytes = subst (All IsPlainByte) whole
          (All-append IsPlainByte (take len text) (32 ∷ rest) (plain_name (take len text) are)
          (All-cons IsPlainByte 32 rest (record { ascii = lit< tt; feed = λ e. omega arith; back = λ e. omega arith }) later.bytes));
    }

word_of : (name : List ℕ) → IsCopiedName name → IsWord name
word_of name is = record { some = is.some; bytes = λ k d below. ((is.bytes k d below).blank, (is.bytes k d below).comment) }

words_of : (text : List ℕ) (are : AreSpacedNames text) → All IsWord are.names
words_of text are = All-weaker IsCopiedName IsWord word_of are.names are.each

-- a line, cut behind the first byte of its names
record IsCutAt (line front : List ℕ) (name at : ℕ) : Type 0 where
  pub whole : line ≡ front ++ drop (at + 1) line
  pub names : drop at line ≡ name ∷ drop (at + 1) line

cut_at : (line front : List ℕ) (name at : ℕ) → at < length line → front ≡ take (at + 1) line → IsPlainBefore name front → IsCutAt line front name at
cut_at line front name at within is ends =
    let count : length front ≡ at + 1 = ap length is ∙ omega (arith, length-take (at + 1) line) in
    let place : length front - 1 ≡ at = omega arith in
    let first : get_or line at 0 ≡ name =
    sym (get_or-take (at + 1) line at 0 (omega arith)) ∙ ap (λ (l : List ℕ). get_or l at 0) (sym is) ∙ ap (λ k. get_or front k 0) (sym place) ∙ ends.is_last in
    record {
      whole = sym (take-append-drop (at + 1) line) ∙ ap (λ (l : List ℕ). l ++ drop (at + 1) line) (sym is);
      names = drop_more line at 0 within ∙ ap (λ byte. byte ∷ drop (at + 1) line) first;
    }

cut_bytes : (line front : List ℕ) (name at : ℕ) → IsCutAt line front name at → IsPlainBefore name front → AreSpacedNames (drop at line) → All IsPlainByte line
cut_bytes line front name at cut ends are =
    let named : All IsPlainByte (name ∷ drop (at + 1) line) = subst (All IsPlainByte) cut.names are.bytes in
    subst (All IsPlainByte) (sym cut.whole)
    (All-append IsPlainByte front (drop (at + 1) line) (ends.bytes (All-head IsPlainByte name (drop (at + 1) line) named)) (All-tail IsPlainByte name (drop (at + 1) line) named))

-- a line with the names of carriers, whose front is in its shortest spelling and no transfer
pub named-copied : (line front : List ℕ) (at : ℕ) → at < length line → front ≡ take (at + 1) line → get_or line 0 0 ≢ 120 → IsShortestSpelling front → AreSpacedNames (drop at line) → IsCopiedLine line
named-copied line front at within is other spelled are =
    ⊎_elim
    (λ (knit : (operands : List ℕ) × (front ≡ codes "knit" ++ operands) × AreShortestOperands operands).
    let ends : IsPlainBefore knit.2.last.name front = knit-plain front knit.0 knit.1 knit.2 in
    let cut : IsCutAt line front knit.2.last.name at = cut_at line front knit.2.last.name at within is ends in
    record {
      bytes = cut_bytes line front knit.2.last.name at cut ends are;
      canonical = λ profile names.
          knit-canonical profile names line knit.0 (drop (at + 1) line) are.names
          (cut.whole ∙ ap (λ (l : List ℕ). l ++ drop (at + 1) line) knit.1 ∙ append_assoc (codes "knit") knit.0 (drop (at + 1) line))
          knit.2 (sym cut.names ∙ are.spelt) are.some (words_of (drop at line) are);
    })
    (λ (others : ((operands : List ℕ) × (front ≡ codes "tuck" ++ operands) × AreShortestOperands operands)
    ⊎ ((operands : List ℕ) × (front ≡ codes "xfer" ++ operands) × AreShortestNeedles operands)).
    ⊎_elim
    (λ (tuck : (operands : List ℕ) × (front ≡ codes "tuck" ++ operands) × AreShortestOperands operands).
    let ends : IsPlainBefore tuck.2.last.name front = tuck-plain front tuck.0 tuck.1 tuck.2 in
    let cut : IsCutAt line front tuck.2.last.name at = cut_at line front tuck.2.last.name at within is ends in
    record {
      bytes = cut_bytes line front tuck.2.last.name at cut ends are;
      canonical = λ profile names.
          tuck-canonical profile names line tuck.0 (drop (at + 1) line) are.names
          (cut.whole ∙ ap (λ (l : List ℕ). l ++ drop (at + 1) line) tuck.1 ∙ append_assoc (codes "tuck") tuck.0 (drop (at + 1) line))
          tuck.2 (sym cut.names ∙ are.spelt) are.some (words_of (drop at line) are);
    })
    (λ (xfer : (operands : List ℕ) × (front ≡ codes "xfer" ++ operands) × AreShortestNeedles operands).
    absurd (other (sym (get_or-take (at + 1) line 0 0 (omega arith)) ∙ ap (λ (l : List ℕ). get_or l 0 0) (sym is) ∙ ap (λ (l : List ℕ). get_or l 0 0) xfer.1)))
    others)
    spelled
