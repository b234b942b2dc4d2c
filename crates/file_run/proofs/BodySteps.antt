-- The steps of a runner over the lines of a file.
use Rattle.std.proofs.Common.{◌≡◌, ◌⊎◌, ⊎_elim, ℕ, ◌+◌, ◌-◌, ◌<◌, ◌≤◌, Bool, true, List, [], ◌∷◌, ◌++◌, length, take, drop, get_or, All, refl, ap, sym, subst, ◌∙◌, arith, append_assoc, append-nil, length-append, length-drop}
use Rattle.std.specs.List.{AllZip}
use Rattle.std.specs.Prelude.{Option, Some, Result, Ok, Err, OnOk}
use Rattle.std.proofs.lemmas.List.{drop-append-le, drop-drop, length-take, take-append-drop, take_all, take_more}
use Rattle.std.proofs.lemmas.List.Elements.{All-append}
use Rattle.std.proofs.lemmas.Slice.Zip.{AllZip-long}
use Rattle.knit_base.specs.declared.instr.Read.{Read}
use Rattle.knit_base.specs.declared.profile.Profile.{Profile}
use Rattle.knit_base.specs.declared.usual.Usual.{Usual}
use Rattle.knit_base.specs.Lines.{lines_of}
use Rattle.line_cutter.specs.declared.fault.CutFault.{CutFault}
use Rattle.line_cutter.specs.declared.fault.CutFault.TheVariants.{NoMemory}
use Rattle.line_cutter.specs.Cut.{HasGoodLines, IsPlaceBehind, IsFirstBad, IsFirstBadBehind, IsGoodLine, IsNextRefused, GoodLineStandsAt}
use Rattle.line_cutter.proofs.PlacesBehind.{behind-all, behind-between, behind-counted, behind-more, behind-none, between-rest, line_here, refused-behind}
use Rattle.knitout_reader.specs.declared.head.Head.{Head}
use Rattle.knitout_reader.specs.Head.{IsHead}
use Rattle.knitout_reader.specs.Reading.{ReadsAs}
use Rattle.knitout_reader.specs.Usual.{AreByteNames, BeginsWithLine}
use Rattle.knitout_reader.proofs.BodyReadings.{zip-append}
use Rattle.knitout_reader.proofs.SomeReading.{each-reads}
use Rattle.carriage_model.specs.declared.verdict.LoopFact.{LoopFact}
use Rattle.carriage_model.specs.declared.verdict.Verdict.{Verdict}
use Rattle.carriage_model.specs.Carriage.{HasRun, IsRunning, RanOn, TellsRun, is_stopped, next_carriage_line}
use Rattle.carriage_model.specs.Loops.{loops_asked, loops_made}
use Rattle.carriage_model.specs.Run.{run}
use Rattle.carriage_model.specs.State.{empty_state}
use Rattle.carriage_model.specs.Verdict.{IsVerdict}
use Rattle.file_run.specs.declared.body_run.BodyRun.{BodyRun}
use Rattle.file_run.specs.declared.judgement.Judgement.{Judgement}
use Rattle.file_run.specs.declared.judgement.Run.{Run}
use Rattle.file_run.specs.Bodies.{body_of, first_of}
use Rattle.file_run.specs.Judgements.{IsJudgement}
use Rattle.file_run.specs.Runs.{CarriesOut, HasRunBody, HasTakenAll, IsKeptText, IsRefusedHere, IsRun, KeepsBroken, PassesOver, TakesAnyMore, TakesBehind, TakingReads}
use Rattle.file_run.proofs.BrokenLines.{kept-broken, kept-more, kept-over}

module _ (T : Type 0) (Has : TakingReads T) where
  -- how many lines were read
  read-count : (with_loops : Bool) (head : Head) (lines : List (List ℕ)) (body : BodyRun T) → (here : HasRunBody T Has with_loops head lines body) → head.lines + length here.readings ≡ length lines
  read-count with_loops head lines body here =
      omega (arith, here.within, length-drop head.lines lines, AllZip-long (ReadsAs body.profile head.declared) (drop head.lines lines) here.readings here.read)

  -- the number of the next line
  pub next-number : (with_loops : Bool) (head : Head) (lines : List (List ℕ)) (body : BodyRun T) → HasRunBody T Has with_loops head lines body → next_carriage_line body.carriage ≡ length lines + 1
  next-number with_loops head lines body here = omega (arith, here.ran.first_line, here.ran.lines, read-count with_loops head lines body here)

  -- the number of the next line that is taken, where it is no more than it may be
  pub next-taken : (Next : T → ℕ) → ((first : ℕ) (reads : List Read) (taker : T) → Has first reads taker → Next taker ≤ first + length reads)
      → (with_loops : Bool) (head : Head) (lines : List (List ℕ)) (body : BodyRun T) → HasRunBody T Has with_loops head lines body → Next body.taker ≤ length lines + 1
  next-taken Next counted with_loops head lines body here =
      omega (arith, counted (head.lines + 1) here.readings body.taker here.taken, read-count with_loops head lines body here)

  -- the carriage is ready for a line more
  pub is-running : (with_loops : Bool) (head : Head) (lines : List (List ℕ)) (body : BodyRun T) → HasRunBody T Has with_loops head lines body → IsRunning body.carriage
  is-running with_loops head lines body here =
      (with_loops, head.lines + 1, here.readings, subst (λ p. HasRun p with_loops (head.lines + 1) here.readings body.carriage) (sym here.ran.same_profile) here.ran)

  -- one line was read, carried out and taken
  pub carries-out : (head : Head) (text : List ℕ) (start next : ℕ) (line : List ℕ) (r : Read) (old new : BodyRun T)
      → GoodLineStandsAt text start line next → ReadsAs old.profile head.declared line r → new.profile ≡ old.profile → new.names ≡ old.names
      → RanOn r old.carriage new.carriage → ((first : ℕ) (reads : List Read) → Has first reads old.taker → Has first (reads ++ r ∷ []) new.taker)
      → KeepsBroken new.carriage.fault old.broken line new.broken
      → CarriesOut T Has head text start next old new
  carries-out head text start next line r old new stands reads same same_names ran takes keeps = record {
    line = line;
    stands = stands;
    same_profile = same;
    ran = λ with_loops lines here.
        let body : drop head.lines (lines ++ line ∷ []) ≡ drop head.lines lines ++ line ∷ [] = drop-append-le head.lines lines (line ∷ []) here.within in
        let after : HasRun old.profile with_loops (head.lines + 1) (here.readings ++ r ∷ []) new.carriage = ran old.profile with_loops (head.lines + 1) here.readings here.ran in
        let read : AllZip (ReadsAs old.profile head.declared) (drop head.lines (lines ++ line ∷ [])) (here.readings ++ r ∷ []) =
        subst (λ ls. AllZip (ReadsAs old.profile head.declared) ls (here.readings ++ r ∷ [])) (sym body)
        (zip-append (ReadsAs old.profile head.declared) (drop head.lines lines) (line ∷ []) here.readings (r ∷ []) here.read (reads, tt)) in
        record {
          within = omega (arith, here.within, length-append lines (line ∷ []));
          readings = here.readings ++ r ∷ [];
          read = subst (λ p. AllZip (ReadsAs p head.declared) (drop head.lines (lines ++ line ∷ [])) (here.readings ++ r ∷ [])) (sym same) read;
          ran = subst (λ p. HasRun p with_loops (head.lines + 1) (here.readings ++ r ∷ []) new.carriage) (sym same) after;
          taken = takes (head.lines + 1) here.readings here.taken;
          names = subst (AreByteNames head.declared) (sym same_names) here.names;
          broken = kept-more old.profile with_loops (head.lines + 1) here.readings r lines line old.carriage new.carriage old.broken new.broken here.ran after
              (omega (arith, read-count with_loops head lines old here)) here.broken keeps;
        };
  }

  -- lines behind the one that broke a rule were passed over
  pub passes-over : (lines : List (List ℕ)) (count : ℕ) (old new : BodyRun T) → length lines ≡ count → is_stopped old.carriage ≡ true → TakesAnyMore T Has old.taker
      → new.profile ≡ old.profile → new.names ≡ old.names → new.taker ≡ old.taker → new.broken ≡ old.broken
      → ((profile : Profile) (with_loops : Bool) (first : ℕ) (reads more : List Read) → length more ≡ count → HasRun profile with_loops first reads old.carriage
      → HasRun profile with_loops first (reads ++ more) new.carriage)
      → PassesOver T Has lines old new
  passes-over lines count old new counted stopped idle same same_names same_taker same_broken over = record {
    same_profile = same;
    ran = λ with_loops head before here.
        let rest = each-reads old.profile head.declared lines in
        let many : length rest.0 ≡ count = AllZip-long (ReadsAs old.profile head.declared) lines rest.0 rest.1 ∙ counted in
        let body : drop head.lines (before ++ lines) ≡ drop head.lines before ++ lines = drop-append-le head.lines before lines here.within in
        let after : HasRun old.profile with_loops (head.lines + 1) (here.readings ++ rest.0) new.carriage = over old.profile with_loops (head.lines + 1) here.readings rest.0 many here.ran in
        let read : AllZip (ReadsAs old.profile head.declared) (drop head.lines (before ++ lines)) (here.readings ++ rest.0) =
        subst (λ ls. AllZip (ReadsAs old.profile head.declared) ls (here.readings ++ rest.0)) (sym body)
        (zip-append (ReadsAs old.profile head.declared) (drop head.lines before) lines here.readings rest.0 here.read rest.1) in
        record {
          within = omega (arith, here.within, length-append before lines);
          readings = here.readings ++ rest.0;
          read = subst (λ p. AllZip (ReadsAs p head.declared) (drop head.lines (before ++ lines)) (here.readings ++ rest.0)) (sym same) read;
          ran = subst (λ p. HasRun p with_loops (head.lines + 1) (here.readings ++ rest.0) new.carriage) (sym same) after;
          taken = subst (Has (head.lines + 1) (here.readings ++ rest.0)) (sym same_taker) (idle (head.lines + 1) here.readings rest.0 here.taken);
          names = subst (AreByteNames head.declared) (sym same_names) here.names;
          broken = kept-over old.profile with_loops (head.lines + 1) here.readings rest.0 before lines old.carriage new.carriage new.broken here.ran after stopped
              (subst (λ kept. IsKeptText before old.carriage.fault kept) (sym same_broken) here.broken);
        };
  }

  -- a runner has taken the lines of the text up to this place, before which so many of them stand
  pub record HasTakenTo (head : Head) (text : List ℕ) (before count start : ℕ) (old now : BodyRun T) : Type 0 where
    pub behind : IsPlaceBehind text count start
    pub same_profile : now.profile ≡ old.profile
    pub ran : (with_loops : Bool) (lines : List (List ℕ)) → length lines ≡ before → HasRunBody T Has with_loops head lines old
        → HasRunBody T Has with_loops head (lines ++ take count (lines_of text)) now

  pub taken-none : (head : Head) (text : List ℕ) (before : ℕ) (body : BodyRun T) → HasTakenTo head text before 0 0 body body
  taken-none head text before body = record {
    behind = behind-none text;
    same_profile = refl;
    ran = λ with_loops lines len here. subst (λ ls. HasRunBody T Has with_loops head ls body) (sym (append-nil lines)) here;
  }

  pub taken-more : (head : Head) (text : List ℕ) (before count start next : ℕ) (old now new : BodyRun T) → start < length text → HasTakenTo head text before count start old now
      → CarriesOut T Has head text start next now new → HasTakenTo head text before (count + 1) next old new
  taken-more head text before count start next old now new some here more =
      let found : (count < length (lines_of text)) × (get_or (lines_of text) count [] ≡ more.line) = line_here text more.line count start next here.behind more.stands in
      let taken : take (count + 1) (lines_of text) ≡ take count (lines_of text) ++ more.line ∷ [] =
      take_more (lines_of text) count [] found.0 ∙ ap (λ l. take count (lines_of text) ++ l ∷ []) found.1 in
      record {
        behind = behind-more text more.line count start next some here.behind more.stands;
        same_profile = more.same_profile ∙ here.same_profile;
        ran = λ with_loops lines len was.
            subst (λ ls. HasRunBody T Has with_loops head ls new)
            (append_assoc lines (take count (lines_of text)) (more.line ∷ []) ∙ ap (λ ls. lines ++ ls) (sym taken))
            (more.ran with_loops (lines ++ take count (lines_of text)) (here.ran with_loops lines len was));
      }

  -- so the body stands at these lines
  pub stands-at : (head : Head) (text : List ℕ) (before count start : ℕ) (old now : BodyRun T) → HasTakenTo head text before count start old now
      → (with_loops : Bool) (lines : List (List ℕ)) → length lines ≡ before → HasRunBody T Has with_loops head lines old
      → (length (lines ++ take count (lines_of text)) ≡ before + count) × HasRunBody T Has with_loops head (lines ++ take count (lines_of text)) now
  stands-at head text before count start old now here with_loops lines len was =
      (omega (arith, len, length-append lines (take count (lines_of text)), length-take count (lines_of text), here.behind.within), here.ran with_loops lines len was)

  -- a clause of what the taking of lines gives: all of them were taken
  abbrev pub HasTakenLines : Head → List ℕ → ℕ → BodyRun T → BodyRun T → Type 0
  HasTakenLines head text before old new = (with_loops : Bool) (lines : List (List ℕ)) → length lines ≡ before → HasRunBody T Has with_loops head lines old
      → HasRunBody T Has with_loops head (lines ++ lines_of text) new

  pub taken-all : (head : Head) (text : List ℕ) (before count start : ℕ) (old now : BodyRun T) → length text ≤ start → HasTakenTo head text before count start old now
      → HasGoodLines text count × HasTakenLines head text before old now
  taken-all head text before count start old now past here =
      let all = behind-all text count start here.behind past in
      let whole : take count (lines_of text) ≡ lines_of text = take_all count (lines_of text) (omega (arith, all.0)) in (
        behind-counted text count start here.behind past,
        λ with_loops lines len was. subst (λ ls. HasRunBody T Has with_loops head (lines ++ ls) now) whole (here.ran with_loops lines len was),
      )

  pub taken-rest : (head : Head) (text rest : List ℕ) (before count start more : ℕ) (old now new : BodyRun T) → start < length text → rest ≡ drop start text → HasTakenTo head text before count start old now
      → HasGoodLines rest more → TakesBehind T Has head (before + count) (lines_of rest) now new → HasGoodLines text (count + more) × HasTakenLines head text before old new
  taken-rest head text rest before count start more old now new some is here good over =
      let left : HasGoodLines (drop start text) more = subst (λ t. HasGoodLines t more) is good in
      let behind : IsPlaceBehind text (count + more) (length text) = behind-between text count start more (length text) here.behind (between-rest text start more some left) in
      let whole : take count (lines_of text) ++ lines_of rest ≡ lines_of text =
      ap (λ t. take count (lines_of text) ++ lines_of t) is ∙ ap (λ ls. take count (lines_of text) ++ ls) (sym here.behind.left) ∙ take-append-drop count (lines_of text) in (
        behind-counted text (count + more) (length text) behind (omega arith),
        λ with_loops lines len was. subst (λ ls. HasRunBody T Has with_loops head ls new)
            (append_assoc lines (take count (lines_of text)) (lines_of rest) ∙ ap (λ ls. lines ++ ls) whole)
            (over.ran with_loops (lines ++ take count (lines_of text)) (omega (arith, len, length-append lines (take count (lines_of text)), length-take count (lines_of text), here.behind.within))
            (here.ran with_loops lines len was)),
      )

  -- what passes over lines takes them
  pub takes-over : (head : Head) (before : ℕ) (lines : List (List ℕ)) (old new : BodyRun T) → PassesOver T Has lines old new → TakesBehind T Has head before lines old new
  takes-over head before lines old new over = record { ran = λ with_loops front len here. over.ran with_loops head front here; same_profile = over.same_profile }

  -- what was made of all lines
  pub comes-to : (with_loops : Bool) (head : Head) (lines : List (List ℕ)) (body : BodyRun T) (verdict : Verdict) (loops : Option (List LoopFact)) → IsHead lines head
      → (here : HasRunBody T Has with_loops head lines body) → TellsRun body.profile with_loops (head.lines + 1) here.readings verdict loops
      → IsRun T Has with_loops body.profile head.declared lines (record { judgement = record { verdict = verdict; loops = loops }; broken = body.broken; taker = body.taker })
  comes-to with_loops head lines body verdict loops is here tells =
      let first : head.lines + 1 ≡ first_of lines = ap (λ h. h + 1) is.len in
      let whole : drop head.lines lines ≡ body_of lines = ap (λ h. drop h lines) is.len in
      let read : AllZip (ReadsAs body.profile head.declared) (body_of lines) here.readings = subst (λ ls. AllZip (ReadsAs body.profile head.declared) ls here.readings) whole here.read in
      let count : length here.readings ≡ length (body_of lines) = AllZip-long (ReadsAs body.profile head.declared) (body_of lines) here.readings read in
      record {
        judgement = record {
          made = loops_made body.profile empty_state (first_of lines) here.readings;
          judged = record {
            readings = here.readings;
            read = read;
            made = refl;
            judged =
                subst (λ k. IsVerdict (length (body_of lines)) verdict (run body.profile empty_state k here.readings) (loops_made body.profile empty_state k here.readings)) first
                (subst (λ n. IsVerdict n verdict (run body.profile empty_state (head.lines + 1) here.readings) (loops_made body.profile empty_state (head.lines + 1) here.readings)) count tells.verdict_is);
          };
          loops = tells.loops_are ∙ ap (λ k. loops_asked with_loops (loops_made body.profile empty_state k here.readings)) first;
        };
        broken = kept-broken body.profile with_loops (head.lines + 1) (length here.readings) here.readings lines body.broken verdict _ body.carriage here.ran tells.verdict_is here.broken;
        taken = record { readings = here.readings; read = read; taken = subst (λ k. Has k here.readings body.taker) first here.taken };
      }

-- the line that is refused is the first bad one of the file, where so many lines of the text stand before it
pub refused-here : (text : List ℕ) (before count start number : ℕ) (fault : CutFault) → IsPlaceBehind text count start → number ≡ before + count + 1 → IsRefusedHere text start number fault
    → IsFirstBadBehind before (lines_of text) fault
refused-here text before count start number fault here is refused =
    ⊎_elim
    (λ (short : fault ≡ NoMemory). λ front len good. subst (IsFirstBad (front ++ lines_of text)) (sym short) tt)
    (λ (bad : IsNextRefused text start number fault). refused-behind text before count start number fault here bad is)
    refused

-- and so is one that is refused among the lines that are left
pub refused-later : (text rest : List ℕ) (before count start : ℕ) (fault : CutFault) → IsPlaceBehind text count start → rest ≡ drop start text → IsFirstBadBehind (before + count) (lines_of rest) fault
    → IsFirstBadBehind before (lines_of text) fault
refused-later text rest before count start fault here is refused front len good =
    let whole : (front ++ take count (lines_of text)) ++ lines_of rest ≡ front ++ lines_of text =
    append_assoc front (take count (lines_of text)) (lines_of rest)
    ∙ ap (λ t. front ++ (take count (lines_of text) ++ lines_of t)) is
    ∙ ap (λ ls. front ++ (take count (lines_of text) ++ ls)) (sym here.left)
    ∙ ap (λ ls. front ++ ls) (take-append-drop count (lines_of text)) in
    subst (λ ls. IsFirstBad ls fault) whole
    (refused (front ++ take count (lines_of text)) (omega (arith, len, length-append front (take count (lines_of text)), length-take count (lines_of text), here.within))
    (All-append IsGoodLine front (take count (lines_of text)) good here.good))

-- a line that was read at once stands at this place, where the rest of the text begins with it
pub usual-stands : (most : ℕ) (profile : Profile) (names : List (List ℕ)) (text rest : List ℕ) (start len : ℕ) (usual : Usual) → most ≤ 4096 → rest ≡ take (length text - start) (drop start text)
    → (begins : BeginsWithLine most profile names rest usual len) → GoodLineStandsAt text start begins.line (start + len)
usual-stands most profile names text rest start len usual short is begins =
    let left : rest ≡ drop start text = is ∙ take_all (length text - start) (drop start text) (omega (arith, length-drop start text)) in
    let behind : drop len rest ≡ drop (start + len) text = ap (drop len) left ∙ drop-drop len start text ∙ ap (λ k. drop k text) (omega arith) in
    record {
      further = omega (arith, begins.some);
      first = ap lines_of (sym left) ∙ begins.lines ∙ ap (λ (l : List ℕ). begins.line ∷ lines_of l) behind;
      good = record { utf8 = begins.utf8; short = omega (arith, begins.short, short) };
    }

-- what a clause of a result gives
pub on_ok-with : {A E P Q : Type 0} (r : Result A E) → (P → Q) → OnOk r P → OnOk r Q
on_ok-with (Ok a) gives p = gives p
on_ok-with (Err e) gives p = tt

-- what both clauses of a result give
pub on_ok-both : {A E P Q R : Type 0} (r : Result A E) → OnOk r P → OnOk r Q → (P → Q → R) → OnOk r R
on_ok-both (Ok a) p q gives = gives p q
on_ok-both (Err e) p q gives = tt

-- the body that was begun
pub same-body : (T : Type 0) (a b : BodyRun T) → Some a ≡ Some b → a ≡ b
same-body T a b e = cc
