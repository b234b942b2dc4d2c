-- Lines of bytes that come one after the other.
use Rattle.std.proofs.Common.{◌≡◌, ◌≢◌, ℕ, if◌then◌else◌, Bool, true, false, ne_eqb, List, [], ◌∷◌, ◌++◌, ap, ◌∙◌, append_assoc, append-nil, subst, sym, refl}
use Rattle.std.specs.Prelude.{flat_map}
use Rattle.std.proofs.lemmas.Bool.{eqb-true, false≢true}
use Rattle.std.proofs.lemmas.List.Elements.{All-cons, All-head, All-nil, All-push, All-tail}
use Rattle.knit_base.specs.Lines.{HasNoLineEnd, is_line_feed}
use Rattle.knit_base.proofs.Places.{by_test}
use Rattle.knit_ports.specs.WholeLines.{ArePartsOf, lines_behind, rest_behind, rest_of, whole_lines, with_feed}

no-feed-head : (byte : ℕ) (line : List ℕ) → HasNoLineEnd (byte ∷ line) → is_line_feed byte ≡ false
no-feed-head byte line free = ne_eqb byte 10 (All-head (λ (x : ℕ). x ≢ 10) byte line free)

no-feed-tail : (byte : ℕ) (line : List ℕ) → HasNoLineEnd (byte ∷ line) → HasNoLineEnd line
no-feed-tail byte line free = All-tail (λ (x : ℕ). x ≢ 10) byte line free

-- a line with its end is the first
line-first : (front line rest : List ℕ) → HasNoLineEnd line → lines_behind front (line ++ 10 ∷ rest) ≡ (front ++ line) ∷ lines_behind [] rest
line-first front [] rest free = ap (λ (l : List ℕ). l ∷ lines_behind [] rest) (sym (append-nil front))
line-first front (byte ∷ line) rest free =
    ap (λ (b : Bool). if b then front ∷ lines_behind [] (line ++ 10 ∷ rest) else lines_behind (front ++ byte ∷ []) (line ++ 10 ∷ rest)) (no-feed-head byte line free)
    ∙ line-first (front ++ byte ∷ []) line rest (no-feed-tail byte line free)
    ∙ ap (λ (l : List ℕ). l ∷ lines_behind [] rest) (append_assoc front (byte ∷ []) line)

-- and the rest is that of what stands behind it
rest-first : (front line rest : List ℕ) → HasNoLineEnd line → rest_behind front (line ++ 10 ∷ rest) ≡ rest_behind [] rest
rest-first front [] rest free = refl
rest-first front (byte ∷ line) rest free =
    ap (λ (b : Bool). if b then rest_behind [] (line ++ 10 ∷ rest) else rest_behind (front ++ byte ∷ []) (line ++ 10 ∷ rest)) (no-feed-head byte line free)
    ∙ rest-first (front ++ byte ∷ []) line rest (no-feed-tail byte line free)

-- bytes without a feed have no line
no-line : (front line : List ℕ) → HasNoLineEnd line → lines_behind front line ≡ []
no-line front [] free = refl
no-line front (byte ∷ line) free =
    ap (λ (b : Bool). if b then front ∷ lines_behind [] line else lines_behind (front ++ byte ∷ []) line) (no-feed-head byte line free)
    ∙ no-line (front ++ byte ∷ []) line (no-feed-tail byte line free)

lines-by : (b : Bool) (front : List ℕ) (byte : ℕ) (bytes more : List ℕ)
    → ((f : List ℕ) → lines_behind f (bytes ++ more) ≡ lines_behind f bytes ++ lines_behind (rest_behind f bytes) more)
    → (if b then front ∷ lines_behind [] (bytes ++ more) else lines_behind (front ++ byte ∷ []) (bytes ++ more))
    ≡ (if b then front ∷ lines_behind [] bytes else lines_behind (front ++ byte ∷ []) bytes)
    ++ lines_behind (if b then rest_behind [] bytes else rest_behind (front ++ byte ∷ []) bytes) more
lines-by true front byte bytes more next = ap (λ (l : List (List ℕ)). front ∷ l) (next [])
lines-by false front byte bytes more next = next (front ++ byte ∷ [])

-- more bytes have the lines of the first ones, and then those of what these left and the others
pub lines-more : (front bytes more : List ℕ) → lines_behind front (bytes ++ more) ≡ lines_behind front bytes ++ lines_behind (rest_behind front bytes) more
lines-more front [] more = refl
lines-more front (byte ∷ bytes) more = lines-by (is_line_feed byte) front byte bytes more (λ f. lines-more f bytes more)

rest-by : (b : Bool) (front : List ℕ) (byte : ℕ) (bytes more : List ℕ)
    → ((f : List ℕ) → rest_behind f (bytes ++ more) ≡ rest_behind (rest_behind f bytes) more)
    → (if b then rest_behind [] (bytes ++ more) else rest_behind (front ++ byte ∷ []) (bytes ++ more))
    ≡ rest_behind (if b then rest_behind [] bytes else rest_behind (front ++ byte ∷ []) bytes) more
rest-by true front byte bytes more next = next []
rest-by false front byte bytes more next = next (front ++ byte ∷ [])

-- and their rest is that of what the first ones left and the others
pub rest-more : (front bytes more : List ℕ) → rest_behind front (bytes ++ more) ≡ rest_behind (rest_behind front bytes) more
rest-more front [] more = refl
rest-more front (byte ∷ bytes) more = rest-by (is_line_feed byte) front byte bytes more (λ f. rest-more f bytes more)

-- So many bytes were taken as lines and end with a feed, and the pending ones have none: the lines are those that were taken.
pub taken-lines : (taken pending : List ℕ) → rest_of taken ≡ [] → HasNoLineEnd pending → whole_lines (taken ++ pending) ≡ whole_lines taken
taken-lines taken pending none free =
    lines-more [] taken pending ∙ ap (λ (f : List ℕ). whole_lines taken ++ lines_behind f pending) none
    ∙ ap (λ (l : List (List ℕ)). whole_lines taken ++ l) (no-line [] pending free) ∙ append-nil (whole_lines taken)

-- one more line is taken
pub taken-more : (taken line rest : List ℕ) → rest_of taken ≡ [] → HasNoLineEnd line
    → whole_lines (taken ++ (line ++ 10 ∷ rest)) ≡ whole_lines taken ++ line ∷ whole_lines rest
taken-more taken line rest none free =
    lines-more [] taken (line ++ 10 ∷ rest) ∙ ap (λ (f : List ℕ). whole_lines taken ++ lines_behind f (line ++ 10 ∷ rest)) none
    ∙ ap (λ (l : List (List ℕ)). whole_lines taken ++ l) (line-first [] line rest free)

-- and what was taken ends with a feed again
pub taken-ends : (taken line : List ℕ) → rest_of taken ≡ [] → HasNoLineEnd line → rest_of (taken ++ with_feed line) ≡ []
taken-ends taken line none free =
    rest-more [] taken (with_feed line) ∙ ap (λ (f : List ℕ). rest_behind f (with_feed line)) none ∙ rest-first [] line [] free

not-feed : (byte : ℕ) → is_line_feed byte ≡ false → byte ≢ 10
not-feed byte isnt is = absurd (false≢true (sym isnt ∙ ap is_line_feed is))

-- a line feed ends the front, and lines begin anew
at-feed : (front : List ℕ) (byte : ℕ) (bytes : List ℕ) → byte ≡ 10 → HasNoLineEnd front → ArePartsOf bytes (whole_lines bytes) (rest_of bytes)
    → ArePartsOf (front ++ byte ∷ bytes) (front ∷ whole_lines bytes) (rest_of bytes)
at-feed front byte bytes feed free next =
    let later : List ℕ = flat_map with_feed (whole_lines bytes) in
    record {
      joined = ap (λ (x : ℕ). front ++ x ∷ bytes) feed ∙ ap (λ (l : List ℕ). front ++ 10 ∷ l) next.joined
          ∙ sym (append_assoc front (10 ∷ []) (later ++ rest_of bytes)) ∙ sym (append_assoc (with_feed front) later (rest_of bytes));
      ones = All-cons HasNoLineEnd front (whole_lines bytes) free next.ones;
      last = next.last;
    }

-- what is told of one truth value is told of an equal one
parts-by : (all front : List ℕ) (byte : ℕ) (bytes : List ℕ) (b c : Bool) → c ≡ b
    → ArePartsOf all (if b then front ∷ whole_lines bytes else lines_behind (front ++ byte ∷ []) bytes) (if b then rest_of bytes else rest_behind (front ++ byte ∷ []) bytes)
    → ArePartsOf all (if c then front ∷ whole_lines bytes else lines_behind (front ++ byte ∷ []) bytes) (if c then rest_of bytes else rest_behind (front ++ byte ∷ []) bytes)
parts-by all front byte bytes b c same are =
    subst
    (λ (x : Bool).
    ArePartsOf all (if x then front ∷ whole_lines bytes else lines_behind (front ++ byte ∷ []) bytes)
    (if x then rest_of bytes else rest_behind (front ++ byte ∷ []) bytes))
    (sym same) are

-- the lines and the rest are the bytes, behind a front
parts : (front bytes : List ℕ) → HasNoLineEnd front → ArePartsOf (front ++ bytes) (lines_behind front bytes) (rest_behind front bytes)
parts front [] free = record {
  joined = append-nil front;
  ones = All-nil HasNoLineEnd;
  last = free;
}
parts front (byte ∷ bytes) free =
    by_test (is_line_feed byte)
    (λ is.
    parts-by (front ++ byte ∷ bytes) front byte bytes true (is_line_feed byte) is
    (at-feed front byte bytes (eqb-true byte 10 is) free (parts [] bytes (All-nil (λ (x : ℕ). x ≢ 10)))))
    (λ isnt.
    let longer : HasNoLineEnd (front ++ byte ∷ []) = All-push (λ (x : ℕ). x ≢ 10) front byte free (not-feed byte isnt) in
    parts-by (front ++ byte ∷ bytes) front byte bytes false (is_line_feed byte) isnt
    (subst (λ (l : List ℕ). ArePartsOf l (lines_behind (front ++ byte ∷ []) bytes) (rest_behind (front ++ byte ∷ []) bytes))
    (append_assoc front (byte ∷ []) bytes) (parts (front ++ byte ∷ []) bytes longer)))

-- what whole lines and a rest are: the bytes, parted at each line feed
pub whole-parts : (bytes : List ℕ) → ArePartsOf bytes (whole_lines bytes) (rest_of bytes)
whole-parts bytes = parts [] bytes (All-nil (λ (x : ℕ). x ≢ 10))
