-- The lines of an opening, one more at a time.
use Rattle.std.proofs.Common.{◌≡◌, ◌≢◌, ℕ, suc, ◌+◌, ◌-◌, ◌<◌, ◌≤◌, Bool, true, false, List, [], ◌∷◌, ◌++◌, length, drop, Option, Some, None, if◌then◌else◌, inl, inr, ap, ◌∙◌, append-nil, sym, refl, subst, arith, length-append, length-drop}
use Rattle.std.specs.Option.{option_map_or}
use Rattle.std.specs.Prelude.{All, flat_map}
use Rattle.std.proofs.lemmas.List.Concat.{flat_map-append}
use Rattle.std.proofs.lemmas.List.Elements.{All-nil, All-push}
use Rattle.knit_base.specs.Lines.{IsLine}
use Rattle.knit_ports.specs.WholeLines.{with_feed}
use Rattle.knit_ports.specs.declared.limit.TheConstants.{HEARD_LIMIT}
use Rattle.opening_reader.specs.Fronts.{HasLineRoom, HoldsFront, IsFrontCounted, IsOpeningUnfinished, IsWanted, IsWholeOpening, limit_for, lines_told_by}
use Rattle.opening_reader.specs.Openings.{AreReadable, AskFor, CanBeRead, CantStand, IsOpeningFront, IsNextText, IsTooMuch, IsUnfinished, MayFollow, bytes_of, kind_in, limit_behind, limit_of, no_first, no_other, nothing_yet, texts_in_lines, told_in, wanted_in, wanting}
use Rattle.opening_reader.specs.declared.front.Front.{Front}
use Rattle.opening_reader.specs.declared.front.TheConstants.{OPENING_LIMIT}
use Rattle.opening_reader.specs.declared.opening.OpeningKind.{OpeningKind}
use Rattle.opening_reader.specs.declared.opening.OpeningKind.TheVariants.{Saved, Text}
use Rattle.opening_reader.specs.declared.opening.OpeningText.{OpeningText}
use Rattle.opening_reader.specs.declared.opening.Wanted.{Wanted}
use Rattle.script_reader.specs.declared.fault.Cause.TheVariants.{BadLine, NoServe}
use Rattle.script_reader.specs.Statements.{is_skipped, is_text_line}

abbrev pub wanted_of_kind : OpeningKind → ℕ → Wanted
wanted_of_kind kind missing = record { kind = kind; missing = missing }

texts-by : (b : Bool) (text : List ℕ) (all front more : List (List ℕ)) → all ≡ front ++ more → (if b then text ∷ all else all) ≡ (if b then text ∷ front else front) ++ more
texts-by true text all front more is = ap (λ (l : List (List ℕ)). text ∷ l) is
texts-by false text all front more is = is

pub texts-more : (lines more : List (List ℕ)) → texts_in_lines (lines ++ more) ≡ texts_in_lines lines ++ texts_in_lines more
texts-more [] more = refl
texts-more (line ∷ lines) more = texts-by (is_text_line line) (drop 1 line) (texts_in_lines (lines ++ more)) (texts_in_lines lines) (texts_in_lines more) (texts-more lines more)

text-one : (line : List ℕ) → is_text_line line ≡ true → texts_in_lines (line ∷ []) ≡ drop 1 line ∷ []
text-one line is = ap (λ (b : Bool). if b then drop 1 line ∷ [] else []) is

text-none : (line : List ℕ) → is_text_line line ≡ false → texts_in_lines (line ∷ []) ≡ []
text-none line isnt = ap (λ (b : Bool). if b then drop 1 line ∷ [] else []) isnt

few-by : (b : Bool) (text : List ℕ) (texts : List (List ℕ)) (count : ℕ) → length texts ≤ count → length (if b then text ∷ texts else texts) ≤ suc count
few-by true text texts count few = omega (arith, few)
few-by false text texts count few = omega (arith, few)

texts-few : (lines : List (List ℕ)) → length (texts_in_lines lines) ≤ length lines
texts-few [] = omega arith
texts-few (line ∷ lines) = few-by (is_text_line line) (drop 1 line) (texts_in_lines lines) (length lines) (texts-few lines)

pub bytes-more : (lines : List (List ℕ)) (line : List ℕ) → bytes_of (lines ++ line ∷ []) ≡ bytes_of lines + length line + 1
bytes-more lines line =
    ap length (flat_map-append with_feed lines (line ∷ []) ∙ ap (λ (l : List ℕ). flat_map with_feed lines ++ l) (append-nil (with_feed line)))
    ∙ length-append (flat_map with_feed lines) (with_feed line) ∙ ap (λ (n : ℕ). bytes_of lines + n) (length-append line (10 ∷ [])) ∙ omega arith

lines-few : (lines : List (List ℕ)) → length lines ≤ bytes_of lines
lines-few [] = omega arith
lines-few (line ∷ lines) =
    let rest : length lines ≤ bytes_of lines = lines-few lines in
    let all : bytes_of (line ∷ lines) ≡ length (with_feed line) + bytes_of lines = length-append (with_feed line) (flat_map with_feed lines) in
    let fed : length (with_feed line) ≡ length line + 1 = length-append line (10 ∷ []) in omega (arith, rest, all, fed)

-- what one list of lines tells behind the other
pub told-more : (kind : OpeningKind) (lines more : List (List ℕ)) → told_in kind (lines ++ more) ≡ told_in kind lines ++ told_in kind more
told-more Text lines more = texts-more lines more
told-more Saved lines more = refl

told-none : (kind : OpeningKind) → told_in kind [] ≡ []
told-none Text = refl
told-none Saved = refl

told-few : (kind : OpeningKind) (lines : List (List ℕ)) → length (told_in kind lines) ≤ length lines
told-few Text lines = texts-few lines
told-few Saved lines = omega arith

told-by-few : (wanted : Option Wanted) (lines : List (List ℕ)) → length (lines_told_by wanted lines) ≤ length lines
told-by-few None lines = omega arith
told-by-few (Some wanted) lines = told-few wanted.kind lines

-- a text line tells its text
pub text-told : (kind : OpeningKind) (line : List ℕ) → kind ≡ Text → is_text_line line ≡ true → (told_in kind (line ∷ []) ≡ drop 1 line ∷ []) × MayFollow kind line
text-told kind line is begins = subst (λ (k : OpeningKind). (told_in k (line ∷ []) ≡ drop 1 line ∷ []) × MayFollow k line) (sym is) (text-one line begins, inl begins)

-- a line that is passed over tells nothing
pub text-passed : (kind : OpeningKind) (line : List ℕ) → kind ≡ Text → is_text_line line ≡ false → is_skipped line ≡ true → (told_in kind (line ∷ []) ≡ []) × MayFollow kind line
text-passed kind line is isnt skipped = subst (λ (k : OpeningKind). (told_in k (line ∷ []) ≡ []) × MayFollow k line) (sym is) (text-none line isnt, inr skipped)

-- a line of a saved text tells itself
pub saved-told : (kind : OpeningKind) (line : List ℕ) → kind ≡ Saved → (told_in kind (line ∷ []) ≡ line ∷ []) × MayFollow kind line
saved-told kind line is = subst (λ (k : OpeningKind). (told_in k (line ∷ []) ≡ line ∷ []) × MayFollow k line) (sym is) (refl, tt)

-- the numbers of a front are small enough for one more line
pub has-room : (front : Front) (lines text : List (List ℕ)) → HoldsFront front lines text → HasLineRoom front text
has-room front lines text h =
    let counted = h.counted in
    let bytes = h.bytes in
    let few = h.good.few in
    let texts : length text ≤ length (drop 1 lines) = subst (λ (l : List (List ℕ)). length l ≤ length (drop 1 lines)) (sym h.text_is) (told-by-few front.wanted (drop 1 lines)) in
    record {
      texts = omega (arith, counted, texts, length-drop 1 lines);
      lines = omega (arith, counted, bytes, lines-few lines);
      bytes = omega (arith, bytes, few);
    }

pub few-of : (front : Front) (lines text : List (List ℕ)) → HoldsFront front lines text → length text ≤ 16777216
few-of front lines text h =
    let room = has-room front lines text h in
    let texts = room.texts in
    let lines_few = room.lines in
    let bytes = room.bytes in omega (arith, texts, lines_few, bytes)

-- no line may be longer than those that are heard whole
pub limit-low : (wanted : Option Wanted) → limit_for wanted ≤ HEARD_LIMIT
limit-low None = omega arith
limit-low (Some wanted) = kind-low wanted.kind
  where
    kind-low : (kind : OpeningKind) → limit_of kind ≤ HEARD_LIMIT
    kind-low Text = omega arith
    kind-low Saved = omega arith

limit-by : (lines : List (List ℕ)) (wanted : Option Wanted) → IsWanted lines wanted → limit_for wanted ≡ limit_behind lines
limit-by lines None none = sym (ap limit_behind none)
limit-by lines (Some wanted) a = sym (ap limit_behind a.lines_are ∙ ap (λ (o : Option Wanted). limit_of (option_map_or (λ (w : Wanted). w.kind) o Text)) a.asked)

-- a front knows how long the next line may be
pub limit-is : (front : Front) (lines text : List (List ℕ)) → HoldsFront front lines text → limit_for front.wanted ≡ limit_behind lines
limit-is front lines text h = limit-by lines front.wanted h.wanted

unfinished-by : (lines : List (List ℕ)) (wanted : Option Wanted) → IsWanted lines wanted → IsOpeningUnfinished wanted → IsUnfinished lines
unfinished-by lines None none is = nothing_yet none
unfinished-by lines (Some wanted) asks some = wanting wanted.kind wanted.missing some asks

-- an opening goes on behind a front that is open
pub front-of : (front : Front) (lines text : List (List ℕ)) → HoldsFront front lines text → IsOpeningUnfinished front.wanted → IsOpeningFront lines
front-of front lines text h is = record { good = h.good; unfinished = unfinished-by lines front.wanted h.wanted is }

-- a line behind a first line tells one
ask-told : (lines : List (List ℕ)) (line told : List ℕ) (kind : OpeningKind) (missing : ℕ) → AskFor lines kind missing → 0 < missing → told_in kind (line ∷ []) ≡ told ∷ [] → MayFollow kind line
    → AskFor (lines ++ line ∷ []) kind (missing - 1)
ask-told lines line told kind missing a some is follows =
    let longer : length (told_in kind (a.others ++ line ∷ [])) ≡ length (told_in kind a.others) + 1 =
    ap length (told-more kind a.others (line ∷ []) ∙ ap (λ (l : List (List ℕ)). told_in kind a.others ++ l) is) ∙ length-append (told_in kind a.others) (told ∷ []) in
    let same : length (told_in kind a.others) + missing ≡ length (told_in kind (a.others ++ line ∷ [])) + (missing - 1) = omega (arith, longer, some) in
    record {
      first = a.first;
      others = a.others ++ line ∷ [];
      lines_are = ap (λ (l : List (List ℕ)). l ++ line ∷ []) a.lines_are;
      asked = a.asked ∙ ap (λ (n : ℕ). Some (wanted_of_kind kind n)) same;
      fit = All-push (MayFollow kind) a.others line a.fit follows;
    }

-- and one that is passed over none
ask-passed : (lines : List (List ℕ)) (line : List ℕ) (kind : OpeningKind) (missing : ℕ) → AskFor lines kind missing → told_in kind (line ∷ []) ≡ [] → MayFollow kind line → AskFor (lines ++ line ∷ []) kind missing
ask-passed lines line kind missing a none follows =
    let same : told_in kind (a.others ++ line ∷ []) ≡ told_in kind a.others =
    told-more kind a.others (line ∷ []) ∙ ap (λ (l : List (List ℕ)). told_in kind a.others ++ l) none ∙ append-nil (told_in kind a.others) in
    record {
      first = a.first;
      others = a.others ++ line ∷ [];
      lines_are = ap (λ (l : List (List ℕ)). l ++ line ∷ []) a.lines_are;
      asked = a.asked ∙ ap (λ (l : List (List ℕ)). Some (wanted_of_kind kind (length l + missing))) (sym same);
      fit = All-push (MayFollow kind) a.others line a.fit follows;
    }

-- the first line asks for what it says
ask-first : (lines : List (List ℕ)) (line : List ℕ) (wanted : Wanted) → lines ≡ line ∷ [] → wanted_in line ≡ Some wanted → AskFor lines wanted.kind wanted.missing
ask-first lines line wanted alone asked =
    let none : length (told_in wanted.kind []) ≡ 0 = ap length (told-none wanted.kind) in
    let same : wanted.missing ≡ length (told_in wanted.kind []) + wanted.missing = omega (arith, none) in
    record {
      first = line;
      others = [];
      lines_are = alone;
      asked = asked ∙ ap (λ (n : ℕ). Some (wanted_of_kind wanted.kind n)) same;
      fit = All-nil (MayFollow wanted.kind);
    }

told-behind : (lines : List (List ℕ)) (line : List ℕ) (kind : OpeningKind) (missing : ℕ) → AskFor lines kind missing → told_in kind (drop 1 (lines ++ line ∷ [])) ≡ told_in kind (drop 1 lines) ++ told_in kind (line ∷ [])
told-behind lines line kind missing a =
    ap (λ (l : List (List ℕ)). told_in kind (drop 1 (l ++ line ∷ []))) a.lines_are ∙ told-more kind a.others (line ∷ [])
    ∙ ap (λ (l : List (List ℕ)). told_in kind (drop 1 l) ++ told_in kind (line ∷ [])) (sym a.lines_are)

-- this is wanted
asks : (front : Front) (lines text : List (List ℕ)) (wanted : Wanted) → HoldsFront front lines text → front.wanted ≡ Some wanted → AskFor lines wanted.kind wanted.missing
asks front lines text wanted h is = subst (IsWanted lines) is h.wanted

-- and so much was told
tells : (front : Front) (lines text : List (List ℕ)) (wanted : Wanted) → HoldsFront front lines text → front.wanted ≡ Some wanted → text ≡ told_in wanted.kind (drop 1 lines)
tells front lines text wanted h is = h.text_is ∙ ap (λ (o : Option Wanted). lines_told_by o (drop 1 lines)) is

-- what a line tells is taken
pub hold-told : (front counted after : Front) (lines text new : List (List ℕ)) (line told : List ℕ) (wanted : Wanted) → HoldsFront front lines text → front.wanted ≡ Some wanted → 0 < wanted.missing → IsFrontCounted counted lines line
    → after.lines ≡ counted.lines → after.bytes ≡ counted.bytes → after.wanted ≡ Some (wanted_of_kind wanted.kind (wanted.missing - 1)) → told_in wanted.kind (line ∷ []) ≡ told ∷ [] → MayFollow wanted.kind line → IsLine told
    → length told ≤ HEARD_LIMIT → new ≡ text ++ told ∷ [] → HoldsFront after (lines ++ line ∷ []) new
hold-told front counted after lines text new line told wanted h is some c same_lines same_bytes same_wanted told_is follows told_line short made =
    let a = asks front lines text wanted h is in
    record {
      counted = same_lines ∙ c.counted ∙ sym (length-append lines (line ∷ []));
      bytes = same_bytes ∙ c.bytes;
      good = c.good;
      wanted = subst (IsWanted (lines ++ line ∷ [])) (sym same_wanted) (ask-told lines line told wanted.kind wanted.missing a some told_is follows);
      text_is = made ∙ ap (λ (l : List (List ℕ)). l ++ told ∷ []) (tells front lines text wanted h is) ∙ ap (λ (l : List (List ℕ)). told_in wanted.kind (drop 1 lines) ++ l) (sym told_is)
          ∙ sym (told-behind lines line wanted.kind wanted.missing a) ∙ ap (λ (o : Option Wanted). lines_told_by o (drop 1 (lines ++ line ∷ []))) (sym same_wanted);
      texts = subst (All IsLine) (sym made) (All-push IsLine text told h.texts told_line);
      short = subst (All (λ (l : List ℕ). length l ≤ HEARD_LIMIT)) (sym made) (All-push (λ (l : List ℕ). length l ≤ HEARD_LIMIT) text told h.short short);
    }

some-told : (told : List ℕ) → told ∷ [] ≢ []
some-told told none = let many : 1 ≡ 0 = ap length none in omega (arith, many)

-- or there is no memory for it
pub next-told : (front counted : Front) (lines text : List (List ℕ)) (line told : List ℕ) (wanted : Wanted) → HoldsFront front lines text → front.wanted ≡ Some wanted → IsFrontCounted counted lines line
    → told_in wanted.kind (line ∷ []) ≡ told ∷ [] → IsNextText lines line
next-told front counted lines text line told wanted h is c told_is =
    record { kind = wanted.kind; missing = wanted.missing; asked = asks front lines text wanted h is; good = c.good; text = λ none. some-told told (sym told_is ∙ none) }

-- a line that is passed over is taken
pub hold-passed : (front counted : Front) (lines text : List (List ℕ)) (line : List ℕ) (wanted : Wanted) → HoldsFront front lines text → front.wanted ≡ Some wanted → counted.wanted ≡ Some wanted → IsFrontCounted counted lines line
    → told_in wanted.kind (line ∷ []) ≡ [] → MayFollow wanted.kind line → HoldsFront counted (lines ++ line ∷ []) text
hold-passed front counted lines text line wanted h is same c none follows =
    let a = asks front lines text wanted h is in
    record {
      counted = c.counted ∙ sym (length-append lines (line ∷ []));
      bytes = c.bytes;
      good = c.good;
      wanted = subst (IsWanted (lines ++ line ∷ [])) (sym same) (ask-passed lines line wanted.kind wanted.missing a none follows);
      text_is = tells front lines text wanted h is ∙ sym (append-nil (told_in wanted.kind (drop 1 lines))) ∙ ap (λ (l : List (List ℕ)). told_in wanted.kind (drop 1 lines) ++ l) (sym none)
          ∙ sym (told-behind lines line wanted.kind wanted.missing a) ∙ ap (λ (o : Option Wanted). lines_told_by o (drop 1 (lines ++ line ∷ []))) (sym same);
      texts = h.texts;
      short = h.short;
    }

-- the first line is taken
pub hold-first : (front counted after : Front) (lines text : List (List ℕ)) (line : List ℕ) (wanted : Wanted) → HoldsFront front lines text → front.wanted ≡ None → IsFrontCounted counted lines line
    → after.lines ≡ counted.lines → after.bytes ≡ counted.bytes → after.wanted ≡ Some wanted → wanted_in line ≡ Some wanted → HoldsFront after (lines ++ line ∷ []) text
hold-first front counted after lines text line wanted h is c same_lines same_bytes same_wanted asked =
    let none : lines ≡ [] = subst (IsWanted lines) is h.wanted in
    let alone : lines ++ line ∷ [] ≡ line ∷ [] = ap (λ (l : List (List ℕ)). l ++ line ∷ []) none in
    record {
      counted = same_lines ∙ c.counted ∙ sym (length-append lines (line ∷ []));
      bytes = same_bytes ∙ c.bytes;
      good = c.good;
      wanted = subst (IsWanted (lines ++ line ∷ [])) (sym same_wanted) (ask-first (lines ++ line ∷ []) line wanted alone asked);
      text_is = h.text_is ∙ ap (λ (o : Option Wanted). lines_told_by o (drop 1 lines)) is ∙ sym (told-none wanted.kind) ∙ ap (λ (l : List (List ℕ)). told_in wanted.kind (drop 1 l)) (sym alone)
          ∙ ap (λ (o : Option Wanted). lines_told_by o (drop 1 (lines ++ line ∷ []))) (sym same_wanted);
      texts = h.texts;
      short = h.short;
    }

readable-more : (lines : List (List ℕ)) (line : List ℕ) → AreReadable lines → CanBeRead (limit_behind lines) line → AreReadable (lines ++ line ∷ [])
readable-more [] line all good = (good, All-nil (CanBeRead (limit_of (kind_in line))))
readable-more (first ∷ others) line all good = (all.0, All-push (CanBeRead (limit_of (kind_in first))) others line all.1 good)

-- one more line is counted
pub front_counts_line : (front counted : Front) (lines text : List (List ℕ)) (line : List ℕ) → HoldsFront front lines text → counted.lines ≡ front.lines + 1 → counted.bytes ≡ front.bytes + length line + 1
    → counted.bytes ≤ OPENING_LIMIT → CanBeRead (limit_behind lines) line → IsFrontCounted counted lines line
front_counts_line front counted lines text line h next longer few good =
    let bytes : counted.bytes ≡ bytes_of (lines ++ line ∷ []) = longer ∙ ap (λ (n : ℕ). n + length line + 1) h.bytes ∙ sym (bytes-more lines line) in
    record {
      counted = next ∙ ap (λ (n : ℕ). n + 1) h.counted;
      bytes = bytes;
      good = record { readable = readable-more lines line h.good.readable good; few = omega (arith, bytes, few) };
    }

-- or there are too many bytes with it
pub too-much : (front : Front) (lines text : List (List ℕ)) (line : List ℕ) → HoldsFront front lines text → OPENING_LIMIT < front.bytes + length line + 1 → CanBeRead (limit_behind lines) line → IsTooMuch lines line
too-much front lines text line h many good =
    let bytes : front.bytes + length line + 1 ≡ bytes_of (lines ++ line ∷ []) = ap (λ (n : ℕ). n + length line + 1) h.bytes ∙ sym (bytes-more lines line) in
    record { readable = good; many = omega (arith, bytes, many) }

-- the lines are an opening
pub whole-of : (front : Front) (before : List (List ℕ)) (line : List ℕ) (text : List (List ℕ)) (kind : OpeningKind) (opening : OpeningText) → HoldsFront front (before ++ line ∷ []) text → front.wanted ≡ Some (wanted_of_kind kind 0)
    → IsUnfinished before → opening.kind ≡ kind → opening.text ≡ text → opening.lines ≡ front.lines → IsWholeOpening (before ++ line ∷ []) opening
whole-of front before line text kind opening h is wanted same_kind same_text same_lines =
    let all : List (List ℕ) = before ++ line ∷ [] in
    record {
      counted = same_lines ∙ h.counted;
      is_opening = record {
        good = h.good;
        whole = subst (λ (k : OpeningKind). AskFor all k 0) (sym same_kind) (asks front all text (wanted_of_kind kind 0) h is);
        text_is = same_text ∙ tells front all text (wanted_of_kind kind 0) h is ∙ ap (λ (k : OpeningKind). told_in k (drop 1 all)) (sym same_kind);
        before = before;
        last = line;
        parted = refl;
        unfinished = wanted;
      };
      texts = record {
        texts = subst (All IsLine) (sym same_text) h.texts;
        short = subst (All (λ (l : List ℕ). length l ≤ HEARD_LIMIT)) (sym same_text) h.short;
        few = subst (λ (l : List (List ℕ)). length l ≤ 16777216) (sym same_text) (few-of front all text h);
      };
    }

-- the first line asks for nothing
pub first-refused : (front counted : Front) (lines text : List (List ℕ)) (line : List ℕ) → HoldsFront front lines text → front.wanted ≡ None → IsFrontCounted counted lines line → wanted_in line ≡ None
    → (counted.lines ≡ length lines + 1) × CantStand lines line NoServe
first-refused front counted lines text line h is c none = (c.counted, no_first (subst (IsWanted lines) is h.wanted) c.good none)

-- a later line of an opening text is neither a text line nor passed over
pub other-refused : (front counted : Front) (lines text : List (List ℕ)) (line : List ℕ) (wanted : Wanted) → HoldsFront front lines text → front.wanted ≡ Some wanted → wanted.kind ≡ Text → IsFrontCounted counted lines line
    → is_text_line line ≡ false → is_skipped line ≡ false → (counted.lines ≡ length lines + 1) × CantStand lines line BadLine
other-refused front counted lines text line wanted h is of_text c no_text no_skipped =
    let a : AskFor lines Text wanted.missing = subst (λ (k : OpeningKind). AskFor lines k wanted.missing) of_text (asks front lines text wanted h is) in
    (c.counted, no_other wanted.missing a c.good no_text no_skipped)
