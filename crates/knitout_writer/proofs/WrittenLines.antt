-- Lines of a text that were written in their canonical spelling, one after another.
use Rattle.std.proofs.Common.{◌≡◌, ℕ, ◌+◌, ◌-◌, ◌<◌, ◌≤◌, List, [], ◌∷◌, ◌++◌, length, take, drop, get_or, All, ap, sym, subst, ◌∙◌, refl, arith, append_assoc, append-nil, length-append, length-drop, take-append-drop}
use Rattle.std.specs.List.{AllZip}
use Rattle.std.proofs.lemmas.Grind.{flat_map-append}
use Rattle.std.proofs.lemmas.List.{drop-drop, drop_all, length-take, take_all, take_more}
use Rattle.std.proofs.lemmas.List.Elements.{All-append, All-cons, All-nil}
use Rattle.std.proofs.lemmas.Str.{IsUtf8-from_ascii, is_utf8-from_IsUtf8}
use Rattle.std.proofs.lemmas.Str.Ascii.{IsAscii-from_all}
use Rattle.std.proofs.Math.Seq.{drop-append_seam, take-add, take-append_seam}
use Rattle.knit_base.specs.declared.profile.Profile.{Profile}
use Rattle.knit_base.specs.Lines.{lines_of}
use Rattle.knit_base.proofs.FirstLine.{lines_of-line}
use Rattle.line_cutter.specs.Cut.{IsPlaceBehind, IsGoodLine, GoodLineStandsAt}
use Rattle.knitout_writer.specs.Canonical.{IsCanonicalLine, with_line_feeds}
use Rattle.knitout_writer.specs.Written.{BeginsWithCopy, IsCopiedLine, IsPlainByte, IsWrittenCanonically, WroteAll, WroteOn}

-- a line that is copied, and a line feed behind it
pub copy-begins : (text line : List ℕ) (len : ℕ) → len < length text → len ≤ 32 → get_or text len 0 ≡ 10 → line ≡ take len text → IsCopiedLine line → BeginsWithCopy text (len + 1)
copy-begins text line len within few feed is copied =
    let count : length line ≡ len = ap length is ∙ omega (arith, length-take len text) in
    let bytes : All IsPlainByte line = copied.bytes in
    let front : take (len + 1) text ≡ line ++ 10 ∷ [] = take_more text len 0 within ∙ ap (λ byte. take len text ++ byte ∷ []) feed ∙ ap (λ l. l ++ 10 ∷ []) (sym is) in
    let whole : text ≡ line ++ 10 ∷ drop (len + 1) text =
    sym (take-append-drop (len + 1) text) ∙ ap (λ l. l ++ drop (len + 1) text) front ∙ append_assoc line (10 ∷ []) (drop (len + 1) text) in
    record {
      line = line;
      some = omega arith;
      within = omega arith;
      bytes = front;
      lines = ap lines_of whole ∙ lines_of-line line (drop (len + 1) text) (λ k d below. record { feed = (bytes k d below).feed; back = (bytes k d below).back });
      good = record {
        utf8 = is_utf8-from_IsUtf8 line (IsUtf8-from_ascii line (IsAscii-from_all line (λ k d below. (bytes k d below).ascii)));
        short = omega (arith, count);
      };
      copied = copied;
    }

-- lists that go on
pub zip-append : {X Y : Type 0} (R : X → Y → Type 0) (xs zs : List X) (ys ws : List Y) → AllZip R xs ys → AllZip R zs ws → AllZip R (xs ++ zs) (ys ++ ws)
zip-append R [] zs [] ws a b = b
zip-append R [] zs (y ∷ ys) ws a b = absurd a
zip-append R (x ∷ xs) zs [] ws a b = absurd a
zip-append R (x ∷ xs) zs (y ∷ ys) ws a b = (a.0, zip-append R xs zs ys ws a.1 b)

-- no line
pub written-none : (profile : Profile) (names : List (List ℕ)) (text : List ℕ) (at : ℕ) → at ≤ length text → IsWrittenCanonically profile names text at at 0 []
written-none profile names text at inside =
    record { lines = []; texts = []; first = refl; counted = refl; few = omega arith; within = omega arith; good = All-nil IsGoodLine; canonical = tt; spelt = refl }

-- what was written of the lines up to a place, and of those from there on
pub written-append : (profile : Profile) (names : List (List ℕ)) (text : List ℕ) (from mid to count more : ℕ) (front back : List ℕ)
    → IsWrittenCanonically profile names text from mid count front → IsWrittenCanonically profile names text mid to more back → IsWrittenCanonically profile names text from to (count + more) (front ++ back)
written-append profile names text from mid to count more front back a b = record {
  lines = a.lines ++ b.lines;
  texts = a.texts ++ b.texts;
  first = a.first ∙ ap (λ l. a.lines ++ l) b.first ∙ sym (append_assoc a.lines b.lines (lines_of (drop to text)));
  counted = length-append a.lines b.lines ∙ omega (arith, a.counted, b.counted);
  few = omega (arith, a.few, b.few);
  within = omega (arith, a.few, b.within);
  good = All-append IsGoodLine a.lines b.lines a.good b.good;
  canonical = zip-append (IsCanonicalLine profile names) a.lines b.lines a.texts b.texts a.canonical b.canonical;
  spelt = ap (λ l. l ++ back) a.spelt ∙ ap (λ l. with_line_feeds a.texts ++ l) b.spelt ∙ sym (flat_map-append (λ line. line ++ 10 ∷ []) a.texts b.texts);
}

-- one line
pub written-line : (profile : Profile) (names : List (List ℕ)) (text line spelling : List ℕ) (start next : ℕ) → start < length text → GoodLineStandsAt text start line next
    → IsCanonicalLine profile names line spelling → IsWrittenCanonically profile names text start next 1 (spelling ++ 10 ∷ [])
written-line profile names text line spelling start next some stands canonical = record {
  lines = line ∷ [];
  texts = spelling ∷ [];
  first = stands.first;
  counted = refl;
  few = omega (arith, stands.further);
  within = omega arith;
  good = All-cons IsGoodLine line [] stands.good (All-nil IsGoodLine);
  canonical = (canonical, tt);
  spelt = sym (append-nil (spelling ++ 10 ∷ []));
}

-- a line that is copied
pub written-copy : (profile : Profile) (names : List (List ℕ)) (text rest : List ℕ) (start len : ℕ) → start ≤ length text → rest ≡ take (length text - start) (drop start text)
    → BeginsWithCopy rest len → IsWrittenCanonically profile names text start (start + len) 1 (take len (drop start text))
written-copy profile names text rest start len inside is begins =
    let left : rest ≡ drop start text = is ∙ take_all (length text - start) (drop start text) (omega (arith, length-drop start text)) in
    let behind : drop len rest ≡ drop (start + len) text = ap (drop len) left ∙ drop-drop len start text ∙ ap (λ k. drop k text) (omega arith) in
    record {
      lines = begins.line ∷ [];
      texts = begins.line ∷ [];
      first = ap lines_of (sym left) ∙ begins.lines ∙ ap (λ (l : List ℕ). begins.line ∷ lines_of l) behind;
      counted = refl;
      few = omega (arith, begins.some);
      within = omega (arith, begins.some, begins.within, ap length left, length-drop start text);
      good = All-cons IsGoodLine begins.line [] begins.good (All-nil IsGoodLine);
      canonical = (begins.copied.canonical profile names, tt);
      spelt = ap (take len) (sym left) ∙ begins.bytes ∙ sym (append-nil (begins.line ++ 10 ∷ []));
    }

-- the bytes between two places are the canonical text of the lines there, which are so many
pub record AreCopied (text : List ℕ) (start end count : ℕ) : Type 0 where
  pub few : start + count ≤ end
  pub within : end ≤ length text
  pub written : (profile : Profile) (names : List (List ℕ)) → IsWrittenCanonically profile names text start end count (take (end - start) (drop start text))

pub copied-none : (text : List ℕ) (start : ℕ) → start ≤ length text → AreCopied text start start 0
copied-none text start within = record {
  few = omega arith;
  within = within;
  written = λ profile names.
      let zero : 0 ≡ start - start = omega arith in
      let nothing : [] ≡ take (start - start) (drop start text) = ap (λ k. take k (drop start text)) zero in
      subst (IsWrittenCanonically profile names text start start 0) nothing (written-none profile names text start within);
}

-- one line more
pub copied-more : (text rest : List ℕ) (start end count len : ℕ) → AreCopied text start end count → rest ≡ take (length text - end) (drop end text) → BeginsWithCopy rest len
    → AreCopied text start (end + len) (count + 1)
copied-more text rest start end count len here is begins =
    let left : length rest ≡ length text - end = ap length is ∙ omega (arith, length-take (length text - end) (drop end text), length-drop end text) in
    record {
      few = omega (arith, here.few, begins.some);
      within = omega (arith, here.within, begins.within, left);
      written = λ profile names.
          let bytes : take (end - start) (drop start text) ++ take len (drop end text) ≡ take (end + len - start) (drop start text) =
          ap (λ l. take (end - start) (drop start text) ++ take len l) (ap (λ k. drop k text) (omega (arith, here.few)) ∙ sym (drop-drop (end - start) start text))
          ∙ sym (take-add (end - start) len (drop start text)) ∙ ap (λ k. take k (drop start text)) (omega (arith, here.few)) in
          subst (IsWrittenCanonically profile names text start (end + len) (count + 1)) bytes
          (written-append profile names text start end (end + len) count 1 (take (end - start) (drop start text)) (take len (drop end text)) (here.written profile names)
          (written-copy profile names text rest end len here.within is begins));
    }

-- nothing was appended
pub wrote-none : (profile : Profile) (names : List (List ℕ)) (text old : List ℕ) → WroteOn profile names text 0 0 old old
wrote-none profile names text old = record { written = []; is = written-none profile names text 0 (omega arith); appended = sym (append-nil old) }

-- more was appended
pub wrote-more : (profile : Profile) (names : List (List ℕ)) (text : List ℕ) (mid to count more : ℕ) (old so_far new back : List ℕ)
    → WroteOn profile names text mid count old so_far → IsWrittenCanonically profile names text mid to more back → new ≡ so_far ++ back → WroteOn profile names text to (count + more) old new
wrote-more profile names text mid to count more old so_far new back here is appended = record {
  written = here.written ++ back;
  is = written-append profile names text 0 mid to count more here.written back here.is is;
  appended = appended ∙ ap (λ l. l ++ back) here.appended ∙ append_assoc old here.written back;
}

-- the lines that were written stand before this place
pub wrote-behind : (profile : Profile) (names : List (List ℕ)) (text : List ℕ) (to count : ℕ) (old new : List ℕ) → WroteOn profile names text to count old new → IsPlaceBehind text count to
wrote-behind profile names text to count old new here =
    let lines = here.is.lines in
    let rest = lines_of (drop to text) in
    let all : lines_of text ≡ lines ++ rest = here.is.first in
    let counted : count ≡ length lines = sym here.is.counted in
    record {
      left = ap (drop count) all ∙ ap (λ n. drop n (lines ++ rest)) counted ∙ drop-append_seam lines rest;
      within = omega (arith, ap length all, length-append lines rest, counted);
      few = omega (arith, here.is.few);
      fit = omega (arith, here.is.within);
      good = subst (All IsGoodLine) (sym (ap (take count) all ∙ ap (λ n. take n (lines ++ rest)) counted ∙ take-append_seam lines rest)) here.is.good;
    }

-- no line is left
pub wrote-all : (profile : Profile) (names : List (List ℕ)) (text : List ℕ) (to count : ℕ) (old new : List ℕ) → length text ≤ to → WroteOn profile names text to count old new
    → WroteAll profile names (lines_of text) old new
wrote-all profile names text to count old new past here = record {
  texts = here.is.texts;
  canonical = subst (λ ls. AllZip (IsCanonicalLine profile names) ls here.is.texts)
      (sym (here.is.first ∙ ap (λ (l : List ℕ). here.is.lines ++ lines_of l) (drop_all to text past) ∙ append-nil here.is.lines)) here.is.canonical;
  appended = here.appended ∙ ap (λ (l : List ℕ). old ++ l) here.is.spelt;
}
