-- Lines without a line feed behind them: what is read of them is what is read of them with one.
use Rattle.std.proofs.Common.{◌≡◌, ℕ, ℤ, false, List, [], ◌∷◌, ◌++◌, Option, None, Some, IfSome, codes, ap, sym, ◌∙◌, refl, append_assoc, arith}
use Rattle.std.proofs.lemmas.List.Elements.{All-cons, All-nil}
use Rattle.knit_base.specs.declared.needle.Dir.{Dir}
use Rattle.knit_base.specs.declared.needle.Needle.{Needle}
use Rattle.knit_base.specs.declared.profile.Profile.{Profile}
use Rattle.knit_base.specs.declared.usual.Usual.TheVariants.{Knit, Tuck, Xfer}
use Rattle.knit_base.specs.declared.yarns.CarrierNo.{CarrierNo}
use Rattle.knit_base.specs.Lawful.{IsOnBed}
use Rattle.knit_base.specs.Names.{carrier_of}
use Rattle.knit_base.specs.Needle.{is_front, is_slider}
use Rattle.knit_base.specs.Spelling.{bed_word, dir_word}
use Rattle.knitout_reader.specs.Usual.{BeginsWithUsualName, BeginsWithUsualNeedle, BeginsWithUsualNeedles, BeginsWithUsualNumber, BeginsWithUsualOperands, IsByteName, IsShortToken, IsTokenByte}
use Rattle.knitout_reader.proofs.UsualLines.{IsReadingOf, usual_line_reading, knit_spaced, tuck_spaced, xfer_spaced}

number_longer : (text rest more : List ℕ) (at : ℤ) (end : ℕ) → BeginsWithUsualNumber text at end rest → BeginsWithUsualNumber (text ++ more) at end (rest ++ more)
number_longer text rest more at end h = record {
  digits = h.digits;
  are = h.are;
  few = h.few;
  at_is = h.at_is;
  text_is = ap (λ (l : List ℕ). l ++ more) h.text_is ∙ append_assoc h.digits (end ∷ rest) more;
}

needle_longer : (profile : Profile) (text rest more : List ℕ) (n : Needle) (end : ℕ) → BeginsWithUsualNeedle profile text n end rest → BeginsWithUsualNeedle profile (text ++ more) n end (rest ++ more)
needle_longer profile text rest more n end h = record {
  behind = h.behind ++ more;
  number = number_longer h.behind rest more n.at end h.number;
  on = h.on;
  hook = h.hook;
  text_is = ap (λ (l : List ℕ). l ++ more) h.text_is ∙ append_assoc (bed_word n.bed) h.behind more;
}

-- a needle at the end of a line
pub whole_needle_is : (profile : Profile) (text behind : List ℕ) (n : Needle) → text ≡ bed_word n.bed ++ behind → is_slider n.bed ≡ false → IsOnBed profile n
    → BeginsWithUsualNumber (behind ++ 10 ∷ []) n.at 10 [] → BeginsWithUsualNeedle profile (text ++ 10 ∷ []) n 10 []
whole_needle_is profile text behind n is hook on number = record {
  behind = behind ++ 10 ∷ [];
  number = number;
  on = on;
  hook = hook;
  text_is = ap (λ (l : List ℕ). l ++ 10 ∷ []) is ∙ append_assoc (bed_word n.bed) behind (10 ∷ []);
}

-- the carrier with this name, if there is one
pub whole_name_is : (names : List (List ℕ)) (name : List ℕ) (found : Option CarrierNo) → IsShortToken name → found ≡ carrier_of names name
    → IfSome found (λ c. BeginsWithUsualName names (name ++ 10 ∷ []) c [])
whole_name_is names name None token is = tt
whole_name_is names name (Some c) token is = record { name = name; some = token.some; short = token.short; bytes = token.bytes; named = sym is; text_is = refl }

-- the carrier whose name is this one byte, if there is one
pub byte_name_is : (names : List (List ℕ)) (name : List ℕ) (byte : ℕ) (found : Option CarrierNo) → name ≡ byte ∷ [] → IfSome found (λ c. IsByteName names byte c.0)
    → IfSome found (λ c. BeginsWithUsualName names (name ++ 10 ∷ []) c [])
byte_name_is names name byte None is found = tt
byte_name_is names name byte (Some c) is found = record {
  name = byte ∷ [];
  some = omega arith;
  short = omega arith;
  bytes = All-cons IsTokenByte byte [] found.token (All-nil IsTokenByte);
  named = found.named;
  text_is = ap (λ (l : List ℕ). l ++ 10 ∷ []) is;
}

-- the operands of a whole line that forms a loop
pub whole_operands_are : (profile : Profile) (names : List (List ℕ)) (text behind name : List ℕ) (dir : Dir) (n : Needle) (c : CarrierNo)
    → text ≡ 32 ∷ (dir_word dir ++ 32 ∷ behind) → BeginsWithUsualNeedle profile behind n 32 name → BeginsWithUsualName names (name ++ 10 ∷ []) c []
    → BeginsWithUsualOperands profile names (text ++ 10 ∷ []) dir n c []
whole_operands_are profile names text behind name dir n c is needle named = record {
  behind = behind ++ 10 ∷ [];
  behind2 = name ++ 10 ∷ [];
  text_is = ap (λ (l : List ℕ). l ++ 10 ∷ []) is ∙ ap (λ (l : List ℕ). 32 ∷ l) (append_assoc (dir_word dir) (32 ∷ behind) (10 ∷ []));
  needle = needle_longer profile behind name (10 ∷ []) n 32 needle;
  name = named;
}

-- and those of a transfer
pub whole_needles_are : (profile : Profile) (text needles behind : List ℕ) (n n2 : Needle) → text ≡ 32 ∷ needles → BeginsWithUsualNeedle profile needles n 32 behind
    → BeginsWithUsualNeedle profile (behind ++ 10 ∷ []) n2 10 [] → (is_front n.bed ≡ is_front n2.bed → ⊥) → BeginsWithUsualNeedles profile (text ++ 10 ∷ []) n n2 []
whole_needles_are profile text needles behind n n2 is needle needle2 sides = record {
  behind = needles ++ 10 ∷ [];
  behind2 = behind ++ 10 ∷ [];
  text_is = ap (λ (l : List ℕ). l ++ 10 ∷ []) is;
  needle = needle_longer profile needles behind (10 ∷ []) n 32 needle;
  needle2 = needle2;
  sides = sides;
}

longer : (word line operands : List ℕ) → line ≡ word ++ operands → line ++ 10 ∷ [] ≡ word ++ (operands ++ 10 ∷ [])
longer word line operands is = ap (λ (l : List ℕ). l ++ 10 ∷ []) is ∙ append_assoc word operands (10 ∷ [])

pub whole_knit : (profile : Profile) (names : List (List ℕ)) (line operands : List ℕ) (dir : Dir) (n : Needle) (c : CarrierNo) → line ≡ codes "knit" ++ operands
    → BeginsWithUsualOperands profile names (operands ++ 10 ∷ []) dir n c [] → IsReadingOf profile names line (Knit dir n c)
whole_knit profile names line operands dir n c is front =
    usual_line_reading profile names line (Knit dir n c)
    (knit_spaced profile names (line ++ 10 ∷ []) (operands ++ 10 ∷ []) [] dir n c (longer (codes "knit") line operands is) front)

pub whole_tuck : (profile : Profile) (names : List (List ℕ)) (line operands : List ℕ) (dir : Dir) (n : Needle) (c : CarrierNo) → line ≡ codes "tuck" ++ operands
    → BeginsWithUsualOperands profile names (operands ++ 10 ∷ []) dir n c [] → IsReadingOf profile names line (Tuck dir n c)
whole_tuck profile names line operands dir n c is front =
    usual_line_reading profile names line (Tuck dir n c)
    (tuck_spaced profile names (line ++ 10 ∷ []) (operands ++ 10 ∷ []) [] dir n c (longer (codes "tuck") line operands is) front)

pub whole_xfer : (profile : Profile) (names : List (List ℕ)) (line operands : List ℕ) (n n2 : Needle) → line ≡ codes "xfer" ++ operands
    → BeginsWithUsualNeedles profile (operands ++ 10 ∷ []) n n2 [] → IsReadingOf profile names line (Xfer n n2)
whole_xfer profile names line operands n n2 is front =
    usual_line_reading profile names line (Xfer n n2)
    (xfer_spaced profile names (line ++ 10 ∷ []) (operands ++ 10 ∷ []) [] n n2 (longer (codes "xfer") line operands is) front)
