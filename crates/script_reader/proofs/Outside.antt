-- The first line outside a grammar: no script begins with the lines up to it.
use Rattle.std.proofs.Common.{◌≡◌, ◌≢◌, ◌⊎◌, inl, inr, ℕ, zero, suc, ◌+◌, ◌<◌, drop, slice_get, unwrap_or, Bool, true, false, List, [], ◌∷◌, ◌++◌, length, filter, Option, Some, None, sym, ap, ◌∙◌, refl, subst, append_assoc, arith, length-append}
use Rattle.knitout_reader.specs.Head.{names_in_line}
use Rattle.script_reader.specs.Grammar.{Grammar, BeginNone, EndsEarly, IsOutside, LacksHeader}
use Rattle.script_reader.specs.Reading.{EndsBehind, StopsBehind}
use Rattle.script_reader.specs.Statements.{Statement, Nothing, Text, Session, Command, Header, Mark, Nonsense, header_said, kind_of, names_said, says_something, statements_of, text_ahead, text_or, statements_told, told_from}
use Rattle.script_reader.specs.declared.fault.Cause.{Cause}
use Rattle.script_reader.specs.declared.fault.Cause.TheVariants.{BadLine}
use Rattle.script_reader.specs.declared.line.Kind.{Kind}
use Rattle.script_reader.specs.declared.line.Kind.TheVariants as kind
use Rattle.script_reader.proofs.Lines.{first_is, length_told, told_line}
use Rattle.script_reader.proofs.Places.{say_all}
use Rattle.script_reader.proofs.Runs.{IsQuiet, onward, statements_run, runs_append, runs_something}

-- the line at a place, with those before and behind it
record IsCut (lines : List (List ℕ)) (n : ℕ) : Type 0 where
  before : List (List ℕ)
  line : List ℕ
  after : List (List ℕ)
  lines_are : lines ≡ before ++ line ∷ after
  long : length before ≡ n

cut : (lines : List (List ℕ)) (n : ℕ) → n < length lines → IsCut lines n
cut [] n within = absurd (omega arith)
cut (line ∷ lines) zero within = record { before = []; line = line; after = lines; lines_are = refl; long = refl }
cut (line ∷ lines) (suc n) within = let c = cut lines n (omega arith) in record {
  before = line ∷ c.before;
  line = c.line;
  after = c.after;
  lines_are = ap (λ (l : List (List ℕ)). line ∷ l) c.lines_are;
  long = ap suc c.long;
}

-- a line that says something ends the search for a text
something_ahead : (k : Kind) → k ≢ kind.Skipped → (line : List ℕ) (a b : Option (List ℕ)) → text_or k line a ≡ text_or k line b
something_ahead kind.Skipped isnt line a b = absurd (isnt refl)
something_ahead kind.Text isnt line a b = refl
something_ahead kind.Session isnt line a b = refl
something_ahead (kind.Command h) isnt line a b = refl
something_ahead kind.Header isnt line a b = refl
something_ahead (kind.Mark m) isnt line a b = refl
something_ahead kind.Other isnt line a b = refl

same_ahead : (before a b : List (List ℕ)) → text_ahead a ≡ text_ahead b → text_ahead (before ++ a) ≡ text_ahead (before ++ b)
same_ahead [] a b same = same
same_ahead (x ∷ before) a b same = ap (text_or (kind_of x) x) (same_ahead before a b same)

-- what lines say up to a place, whatever stands there and behind it, if the text ahead is the same
record IsPlaced (wants : Bool) (before rest : List (List ℕ)) : Type 0 where
  front : List Statement
  next : Bool
  long : length front ≡ length before
  told_are : (more : List (List ℕ)) → text_ahead more ≡ text_ahead rest → told_from wants (before ++ more) ≡ front ++ told_from next more

placed_at : (wants : Bool) (before rest : List (List ℕ)) → IsPlaced wants before rest
placed_at wants [] rest = record { front = []; next = wants; long = refl; told_are = λ more same. refl }
placed_at wants (x ∷ before) rest = go (kind_of x) refl wants (λ w. placed_at w before rest)
  where
    one : (w : Bool) (k : Kind) → kind_of x ≡ k → (y : Statement) (v : Bool)
        → ((more : List (List ℕ)) → text_ahead more ≡ text_ahead rest → statements_told k w x (text_ahead (before ++ more)) (λ u. told_from u (before ++ more)) ≡ y ∷ told_from v (before ++ more)) → IsPlaced v before rest → IsPlaced w (x ∷ before) rest
    one w k is y v says p = record {
      front = y ∷ p.front;
      next = p.next;
      long = ap suc p.long;
      told_are = λ more same. told_line w x (before ++ more) k is ∙ (says more same ∙ ap (λ (l : List Statement). y ∷ l) (p.told_are more same));
    }

    go : (k : Kind) → kind_of x ≡ k → (w : Bool) → ((v : Bool) → IsPlaced v before rest) → IsPlaced w (x ∷ before) rest
    go kind.Skipped is w p = one w kind.Skipped is Nothing w (λ more same. refl) (p w)
    go kind.Text is true p = one true kind.Text is (names_said (names_in_line (drop 1 x))) false (λ more same. refl) (p false)
    go kind.Text is false p = one false kind.Text is (Text (drop 1 x)) false (λ more same. refl) (p false)
    go kind.Session is w p = one w kind.Session is Session false (λ more same. refl) (p false)
    go (kind.Command h) is w p = one w (kind.Command h) is (Command h) false (λ more same. refl) (p false)
    go kind.Header is w p = one w kind.Header is (header_said (text_ahead (before ++ rest))) true
        (λ more same. ap (λ (o : Option (List ℕ)). header_said o ∷ told_from true (before ++ more)) (same_ahead before more rest same)) (p true)
    go (kind.Mark m) is w p = one w (kind.Mark m) is (Mark m) false (λ more same. refl) (p false)
    go kind.Other is w p = one w kind.Other is Nonsense false (λ more same. refl) (p false)

-- two lists in two parts each, the first of which are of one length
same_parts : {A : Type 0} (xs ys more rest : List A) → length xs ≡ length ys → xs ++ more ≡ ys ++ rest → (xs ≡ ys) × (more ≡ rest)
same_parts [] [] more rest long is = (refl, is)
same_parts [] (y ∷ ys) more rest long is = absurd (omega arith)
same_parts (x ∷ xs) [] more rest long is = absurd (omega arith)
same_parts {A = A} (x ∷ xs) (y ∷ ys) more rest long is =
    let p = same_parts xs ys more rest (omega arith) (ap (drop 1) is) in
    let first : x ≡ y = ap (λ l. unwrap_or (slice_get l 0) x) is in
    (ap (λ (q : A × List A). q.0 ∷ q.1) (λ i. (first i, p.0 i)), p.1)

-- The laws of a grammar that are used here: what lawful lines say makes of the empty script what was read, and of a whole script one that may end.
pub record IsRunning (g : Grammar) (with_statement : g.SoFar → Statement → g.SoFar) (start : g.SoFar) {T : Type 0} (IsOf : List (List ℕ) → T → Type 0) : Type 0 where
  pub empty : g.says start ≡ []
  pub quiet : IsQuiet g.cause_of with_statement
  pub nonsense : (s : g.SoFar) → g.cause_of s Nonsense ≡ Some BadLine
  pub header : (s : g.SoFar) (names others : List (List ℕ)) → g.cause_of s (Header names) ≡ g.cause_of s (Header others)
  pub lawful_runs : (s : g.SoFar) → g.IsLawful s → statements_run g.cause_of with_statement start (g.says s) ≡ Some s
  pub script_runs : (first : List ℕ) (lines : List (List ℕ)) (script : T) → IsOf (first ∷ lines) script
      → (s : g.SoFar) × (g.end_cause s ≡ None) × (statements_run g.cause_of with_statement start (filter says_something (statements_of lines)) ≡ Some s)

module _ (g : Grammar) (with_statement : g.SoFar → Statement → g.SoFar) (start : g.SoFar) {T : Type 0} (IsOf : List (List ℕ) → T → Type 0) (running : IsRunning g with_statement start IsOf) where
  abbrev run : g.SoFar → List Statement → Option g.SoFar
  run = statements_run g.cause_of with_statement

  -- what lines make of the empty script that say what was read
  front_runs : (so_far : g.SoFar) (front : List Statement) → g.IsLawful so_far → filter says_something front ≡ g.says so_far → run start front ≡ Some so_far
  front_runs so_far front lawful said = sym (runs_something g.cause_of with_statement running.quiet start front) ∙ ap (run start) said ∙ running.lawful_runs so_far lawful

  module _ (first : List ℕ) (so_far : g.SoFar) (fr : List Statement) (ran : run start fr ≡ Some so_far) (before : List (List ℕ)) (line : List ℕ) (w : Bool) where
    -- what the line says can't stand there, whatever comes behind it
    abbrev IsRefused : List (List ℕ) → Type 0
    IsRefused more = (y : Statement) × (ys : List Statement) × (c : Cause) × (statements_of (before ++ line ∷ more) ≡ fr ++ y ∷ ys) × (g.cause_of so_far y ≡ Some c)

    begin_none : ((more : List (List ℕ)) → IsRefused more) → BeginNone IsOf (first ∷ before ++ line ∷ [])
    begin_none refused more script is =
        let rest : List (List ℕ) = (before ++ line ∷ []) ++ more in
        let r : IsRefused more = refused more in
        let whole = running.script_runs first rest script is in
        let reads : run start (statements_of rest) ≡ Some whole.0 = sym (runs_something g.cause_of with_statement running.quiet start (statements_of rest)) ∙ whole.2 in
        let stops : run start (statements_of rest) ≡ None =
        ap (λ (l : List (List ℕ)). run start (statements_of l)) (append_assoc before (line ∷ []) more) ∙ (ap (run start) r.3
        ∙ (runs_append g.cause_of with_statement start so_far fr (r.0 ∷ r.1) ran ∙ ap (λ (o : Option Cause). onward o (run (with_statement so_far r.0) r.1)) r.4)) in
        let clash : Some whole.0 ≡ None = sym reads ∙ stops in
        cc

    -- what a line of this kind says, where that doesn't hang on what comes behind it
    plain_none : (k : Kind) → kind_of line ≡ k → k ≢ kind.Skipped → (y : Statement) (v : Bool) (c : Cause) → ((more : List (List ℕ)) → statements_told k w line (text_ahead more) (λ u. told_from u more) ≡ y ∷ told_from v more)
        → g.cause_of so_far y ≡ Some c → (after : List (List ℕ)) → ((more : List (List ℕ)) → text_ahead more ≡ text_ahead (line ∷ after) → statements_of (before ++ more) ≡ fr ++ told_from w more)
        → BeginNone IsOf (first ∷ before ++ line ∷ [])
    plain_none k is isnt y v c says stops after told_are = begin_none (λ more. (
      y,
      told_from v more,
      c,
      told_are (line ∷ more) (ap (λ (k : Kind). text_or k line (text_ahead more)) is ∙ (something_ahead k isnt line (text_ahead more) (text_ahead after) ∙ sym (ap (λ (k : Kind). text_or k line (text_ahead after)) is)))
          ∙ ap (λ (l : List Statement). fr ++ l) (told_line w line more k is ∙ says more),
      stops,
    ))

    -- `put head` can't stand there, whatever comes behind it
    header_none : kind_of line ≡ kind.Header → (c : Cause) → g.cause_of so_far (Header []) ≡ Some c → (after : List (List ℕ))
        → ((more : List (List ℕ)) → text_ahead more ≡ text_ahead (line ∷ after) → statements_of (before ++ more) ≡ fr ++ told_from w more) → BeginNone IsOf (first ∷ before ++ line ∷ [])
    header_none is c stops after told_are = begin_none (λ more. go more (text_ahead more) refl)
      where
        at : (more : List (List ℕ)) → statements_of (before ++ line ∷ more) ≡ fr ++ header_said (text_ahead more) ∷ told_from true more
        at more = told_are (line ∷ more) (ap (λ (k : Kind). text_or k line (text_ahead more)) is ∙ sym (ap (λ (k : Kind). text_or k line (text_ahead after)) is)) ∙ ap (λ (l : List Statement). fr ++ l) (told_line w line more kind.Header is)

        go : (more : List (List ℕ)) (o : Option (List ℕ)) → text_ahead more ≡ o → IsRefused more
        go more None none = (Nonsense, told_from true more, BadLine, at more ∙ ap (λ (o : Option (List ℕ)). fr ++ header_said o ∷ told_from true more) none, running.nonsense so_far)
        go more (Some t) some = (Header (unwrap_or (names_in_line t) []), told_from true more, c, at more ∙ ap (λ (o : Option (List ℕ)). fr ++ header_said o ∷ told_from true more) some, running.header so_far (unwrap_or (names_in_line t) []) [] ∙ stops)

    ends_here : (here : Statement) (back : List Statement) (after : List (List ℕ)) (cause : Cause) → told_from w (line ∷ after) ≡ here ∷ back → g.cause_of so_far here ≡ Some cause
        → ((more : List (List ℕ)) → text_ahead more ≡ text_ahead (line ∷ after) → statements_of (before ++ more) ≡ fr ++ told_from w more)
        → BeginNone IsOf (first ∷ before ++ line ∷ []) ⊎ LacksHeader line after
    ends_here here back after cause are stops told_are = go (kind_of line) refl w refl
      where
        at : (k : Kind) → kind_of line ≡ k → statements_told k w line (text_ahead after) (λ u. told_from u after) ≡ here ∷ back
        at k is = sym (told_line w line after k is) ∙ are

        has : (y : Statement) (ys : List Statement) → y ∷ ys ≡ here ∷ back → g.cause_of so_far y ≡ Some cause
        has y ys is = ap (g.cause_of so_far) (first_is y here ys back is) ∙ stops

        header : (o : Option (List ℕ)) → kind_of line ≡ kind.Header → text_ahead after ≡ o → BeginNone IsOf (first ∷ before ++ line ∷ []) ⊎ LacksHeader line after
        header None is none = inr (record { is = is; none = none })
        header (Some t) is some =
            inl (header_none is cause (running.header so_far [] (unwrap_or (names_in_line t) []) ∙ has (Header (unwrap_or (names_in_line t) [])) (told_from true after) (ap (λ (o : Option (List ℕ)). header_said o ∷ told_from true after) (sym some) ∙ at kind.Header is)) after told_are)

        go : (k : Kind) → kind_of line ≡ k → (v : Bool) → w ≡ v → BeginNone IsOf (first ∷ before ++ line ∷ []) ⊎ LacksHeader line after
        go kind.Skipped is v same = let none : None ≡ Some cause = sym (running.quiet.free so_far) ∙ has Nothing (told_from w after) (at kind.Skipped is) in absurd (cc)
        go kind.Text is true same =
            let says : (more : List (List ℕ)) → statements_told kind.Text w line (text_ahead more) (λ u. told_from u more) ≡ names_said (names_in_line (drop 1 line)) ∷ told_from false more =
            λ more. ap (λ (b : Bool). statements_told kind.Text b line (text_ahead more) (λ u. told_from u more)) same in
            inl (plain_none kind.Text is (λ e. cc) (names_said (names_in_line (drop 1 line))) false cause says (has (names_said (names_in_line (drop 1 line))) (told_from false after) (sym (says after) ∙ at kind.Text is)) after told_are)
        go kind.Text is false same =
            let says : (more : List (List ℕ)) → statements_told kind.Text w line (text_ahead more) (λ u. told_from u more) ≡ Text (drop 1 line) ∷ told_from false more =
            λ more. ap (λ (b : Bool). statements_told kind.Text b line (text_ahead more) (λ u. told_from u more)) same in
            inl (plain_none kind.Text is (λ e. cc) (Text (drop 1 line)) false cause says (has (Text (drop 1 line)) (told_from false after) (sym (says after) ∙ at kind.Text is)) after told_are)
        go kind.Session is v same = inl (plain_none kind.Session is (λ e. cc) Session false cause (λ more. refl) (has Session (told_from false after) (at kind.Session is)) after told_are)
        go (kind.Command h) is v same = inl (plain_none (kind.Command h) is (λ e. cc) (Command h) false cause (λ more. refl) (has (Command h) (told_from false after) (at (kind.Command h) is)) after told_are)
        go kind.Header is v same = header (text_ahead after) is refl
        go (kind.Mark m) is v same = inl (plain_none (kind.Mark m) is (λ e. cc) (Mark m) false cause (λ more. refl) (has (Mark m) (told_from false after) (at (kind.Mark m) is)) after told_are)
        go kind.Other is v same = inl (plain_none kind.Other is (λ e. cc) Nonsense false cause (λ more. refl) (has Nonsense (told_from false after) (at kind.Other is)) after told_are)

  -- what was read says all that was read
  grown : (so_far : g.SoFar) (said : List Statement) → g.says so_far ≡ g.says start ++ said → g.says so_far ≡ said
  grown so_far said is = is ∙ ap (λ l. l ++ said) running.empty

  -- a refusal of lines is of the first line outside
  pub refusal_is_outside : (first : List ℕ) (lines : List (List ℕ)) (number : ℕ) (cause : Cause) → StopsBehind g start (first ∷ lines) 1 number cause → IsOutside g IsOf (first ∷ lines) number cause
  refusal_is_outside first lines number cause s =
      let front : List Statement = s.stands.front in
      let back : List Statement = s.stands.back in
      let n : ℕ = length front in
      let placed : 1 + n ≡ s.place = s.stands.placed in
      let count : length lines ≡ n + length (s.here ∷ back) = sym (length_told false lines) ∙ (ap length s.stands.told ∙ length-append front (s.here ∷ back)) in
      let within : n < length lines = omega (arith, count) in
      let c : IsCut lines n = cut lines n within in
      let p : IsPlaced false c.before (c.line ∷ c.after) = placed_at false c.before (c.line ∷ c.after) in
      let same : statements_of (c.before ++ c.line ∷ c.after) ≡ front ++ s.here ∷ back = ap statements_of (sym c.lines_are) ∙ s.stands.told in
      let parts : (p.front ≡ front) × (told_from p.next (c.line ∷ c.after) ≡ s.here ∷ back) =
      same_parts p.front front (told_from p.next (c.line ∷ c.after)) (s.here ∷ back) (p.long ∙ c.long) (sym (p.told_are (c.line ∷ c.after) refl) ∙ same) in
      let good : filter says_something front ≡ g.says s.so_far = s.stands.are ∙ sym (grown s.so_far s.said s.grows) in
      record {
        first = first;
        before = c.before;
        line = c.line;
        after = c.after;
        lines_are = ap (λ (l : List (List ℕ)). first ∷ l) c.lines_are;
        counted = let counted = s.counted in omega (arith, placed, c.long);
        so_far = s.so_far;
        lawful = s.lawful;
        front = front;
        here = s.here;
        back = back;
        told = same;
        placed = sym c.long;
        good_before = good;
        is_cause = s.is_cause;
        ends = ends_here first s.so_far front (front_runs s.so_far front s.lawful good) c.before c.line p.next s.here back c.after cause parts.1 s.is_cause
            (λ more ahead. p.told_are more ahead ∙ ap (λ (l : List Statement). l ++ told_from p.next more) parts.0);
      }

  -- or of lines that end too early
  pub refusal_ends_early : (first : List ℕ) (lines : List (List ℕ)) (number : ℕ) (cause : Cause) → EndsBehind g start (first ∷ lines) 1 number cause → EndsEarly g IsOf (first ∷ lines) number cause
  refusal_ends_early first lines number cause e =
      let good : filter says_something (statements_of lines) ≡ g.says e.so_far = say_all (first ∷ lines) 1 e.said e.says ∙ sym (grown e.so_far e.said e.grows) in
      record {
        first = first;
        rest = lines;
        lines_are = refl;
        counted = e.counted;
        so_far = e.so_far;
        lawful = e.lawful;
        good_before = good;
        is_cause = e.is_cause;
        none = λ script is.
            let whole = running.script_runs first lines script is in
            let one : Some whole.0 ≡ Some e.so_far = sym whole.2 ∙ (ap (run start) good ∙ running.lawful_runs e.so_far e.lawful) in
            let same : whole.0 ≡ e.so_far = cc in
            let clash : None ≡ Some cause = sym whole.1 ∙ (ap g.end_cause same ∙ e.is_cause) in
            cc;
      }

  -- lines with such a line are no script
  pub outside_none : (lines : List (List ℕ)) (number : ℕ) (cause : Cause) (script : T) → IsOutside g IsOf lines number cause → IsOf lines script → ⊥
  outside_none lines number cause script o is =
      let here : IsOf (o.first ∷ o.before ++ o.line ∷ o.after) script = subst (λ (ls : List (List ℕ)). IsOf ls script) o.lines_are is in
      let whole = running.script_runs o.first (o.before ++ o.line ∷ o.after) script here in
      let ran : run start o.front ≡ Some o.so_far = front_runs o.so_far o.front o.lawful o.good_before in
      let reads : run start (statements_of (o.before ++ o.line ∷ o.after)) ≡ Some whole.0 = sym (runs_something g.cause_of with_statement running.quiet start (statements_of (o.before ++ o.line ∷ o.after))) ∙ whole.2 in
      let stops : run start (statements_of (o.before ++ o.line ∷ o.after)) ≡ None =
      ap (run start) o.told ∙ (runs_append g.cause_of with_statement start o.so_far o.front (o.here ∷ o.back) ran ∙ ap (λ (c : Option Cause). onward c (run (with_statement o.so_far o.here) o.back)) o.is_cause) in
      let clash : Some whole.0 ≡ None = sym reads ∙ stops in
      cc
