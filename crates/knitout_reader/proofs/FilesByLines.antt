-- Files whose lines come some at a time.
use Rattle.std.proofs.Common.{◌≡◌, ◌≢◌, ℕ, ◌+◌, ◌-◌, ◌<◌, ◌≤◌, true, false, List, [], ◌∷◌, ◌++◌, length, take, drop, get_or, All, ap, sym, subst, ◌∙◌, refl, arith, append-nil, append_assoc, take-append-drop, length-append, length-drop}
use Rattle.std.proofs.lemmas.List.{drop_all, length-take, take_all}
use Rattle.std.proofs.lemmas.List.Elements.{All-append, All-nil}
use Rattle.knit_base.specs.Lines.{lines_of, HasNoLineEnd, IsLine}
use Rattle.line_cutter.specs.declared.fault.CutFault.{CutFault}
use Rattle.line_cutter.specs.Cut.{IsPlaceBehind, IsFirstBad, IsFirstBadBehind, IsGoodLine, GoodLineStandsAt as LineStandsAt}
use Rattle.line_cutter.proofs.PlacesBehind.{behind-more, behind-none, line_here}
use Rattle.knitout_reader.specs.declared.head.Head.{Head}
use Rattle.knitout_reader.specs.declared.head.HeadFault.{HeadFault}
use Rattle.knitout_reader.specs.declared.head.HeadFault.TheVariants.{NoMemory}
use Rattle.knitout_reader.specs.declared.head_reader.HeadReader.{HeadReader}
use Rattle.knitout_reader.specs.declared.file_reader.Stage.{Stage}
use Rattle.knitout_reader.specs.declared.file_reader.Stage.TheVariants.{InHead, InBody, Refused}
use Rattle.knitout_reader.specs.declared.file_reader.FileReader.{FileReader}
use Rattle.knitout_reader.specs.declared.file_reader.ReadFile.{ReadFile}
use Rattle.knitout_reader.specs.Head.{head_len, is_head_line, IsHead, IsHeadFault}
use Rattle.knitout_reader.specs.HeadLines.{AreBehindHead, HasHeadLines}
use Rattle.knitout_reader.specs.FileLines.{BeginBody, EntersText, HasReadFront, HasReadLines, IsReadFile, IsRefusedBy, HasRefusedHead, ReadsBody, ReadsFront, ReadsHead, ReadsWholeFront, Seeing, FileStandsAt, StandsBefore, TakingFileLines}
use Rattle.knitout_reader.proofs.HeadsByLines.{taken_more}

-- what the end of a head's lines is told by
abbrev pub TellsHead : HeadReader → Head → Type 0
TellsHead reader head = (lines more : List (List ℕ)) → HasHeadLines lines reader → AreBehindHead more → IsHead (lines ++ more) head

abbrev pub TellsFault : HeadReader → HeadFault → Type 0
TellsFault reader fault = (lines more : List (List ℕ)) → HasHeadLines lines reader → AreBehindHead more → IsHeadFault (lines ++ more) fault

-- the head has as many lines as were taken
pub head_counted : (lines : List (List ℕ)) (reader : HeadReader) (head : Head) → HasHeadLines lines reader → TellsHead reader head → length lines ≡ head.lines
head_counted lines reader head has tells = sym ((tells lines [] has tt).len ∙ ap head_len (append-nil lines) ∙ has.all)

-- behind lines with which a head doesn't go on
behind_any : (next more : List (List ℕ)) → BeginBody next → AreBehindHead (next ++ more)
behind_any next more begin = subst (λ ls. AreBehindHead (ls ++ more)) (sym begin.lines_are) begin.outside

pub head_by_next : (lines next : List (List ℕ)) (reader : HeadReader) (head : Head) → HasHeadLines lines reader → BeginBody next → TellsHead reader head → (more : List (List ℕ)) → IsHead ((lines ++ next) ++ more) head
head_by_next lines next reader head has begin tells more =
    subst (λ ls. IsHead ls head) (sym (append_assoc lines next more)) (tells lines (next ++ more) has (behind_any next more begin))

pub fault_by_next : (lines next : List (List ℕ)) (reader : HeadReader) (fault : HeadFault) → HasHeadLines lines reader → BeginBody next → TellsFault reader fault → fault ≢ NoMemory → IsRefusedBy (lines ++ next) fault
fault_by_next lines next reader fault has begin tells named = record {
  refused = λ more. subst (λ ls. IsHeadFault ls fault) (sym (append_assoc lines next more)) (tells lines (next ++ more) has (behind_any next more begin));
  named = named;
}

-- a line of a text is a line
pub line_within : (line : List ℕ) → IsGoodLine line → HasNoLineEnd line → IsLine line
line_within line good one = record { utf8 = good.utf8; one = one; short = omega (arith, good.short) }

-- a bad line behind some good ones of a text
first_bad_behind : (before : ℕ) (front later : List (List ℕ)) (now : ℕ) (fault : CutFault) → now ≡ before + length front → All IsGoodLine front → IsFirstBadBehind now later fault → IsFirstBadBehind before (front ++ later) fault
first_bad_behind before front later now fault is good bad lines counted are =
    subst (λ ls. IsFirstBad ls fault) (append_assoc lines front later)
    (bad (lines ++ front) (omega (arith, length-append lines front, is, counted)) (All-append IsGoodLine lines front are good))

-- what is left of a text
pub rest_of : (text : List ℕ) (next : ℕ) → take (length text - next) (drop next text) ≡ drop next text
rest_of text next = take_all (length text - next) (drop next text) (omega (arith, length-drop next text))

module _ (W : Type 0) (Saw : Seeing W) (Took : TakingFileLines W) where
  -- by the stage that it has
  pub in_head : (lines : List (List ℕ)) (start now : FileReader W) (reader : HeadReader) → HasReadLines W Saw Took lines start now → now.stage ≡ InHead reader → ReadsHead W Saw lines start.work now.work reader
  in_head lines start now reader read is = subst (FileStandsAt W Saw Took lines start.work now.work) is read.stage

  pub in_body : (lines : List (List ℕ)) (start now : FileReader W) (head : Head) → HasReadLines W Saw Took lines start now → now.stage ≡ InBody head → ReadsBody W Took lines lines start.work now.work head
  in_body lines start now head read is = subst (FileStandsAt W Saw Took lines start.work now.work) is read.stage

  pub refused_by : (lines : List (List ℕ)) (start now : FileReader W) (fault : HeadFault) → HasReadLines W Saw Took lines start now → now.stage ≡ Refused fault → IsRefusedBy lines fault
  refused_by lines start now fault read is = subst (FileStandsAt W Saw Took lines start.work now.work) is read.stage

  -- the end of a file of a head alone
  pub ended_in_head : (lines : List (List ℕ)) (start now : FileReader W) (reader : HeadReader) (head : Head) (work : W) → HasReadLines W Saw Took lines start now → now.stage ≡ InHead reader → TellsHead reader head
      → ((first : W) (ls : List (List ℕ)) → length ls ≡ head.lines → Saw ls first now.work → Took head ls first work) → IsReadFile W Took lines start.work (record { head = head; lines = now.lines; work = work })
  ended_in_head lines start now reader head work read is tells begun =
      let here : ReadsHead W Saw lines start.work now.work reader = in_head lines start now reader read is in
      record {
        head_is = subst (λ ls. IsHead ls head) (append-nil lines) (tells lines [] here.read tt);
        good = read.good;
        counted = read.counted;
        taken = begun start.work lines (head_counted lines reader head here.read tells) here.seen;
      }

  -- the end of a file whose body has begun
  pub ended_in_body : (lines : List (List ℕ)) (start now : FileReader W) (head : Head) → HasReadLines W Saw Took lines start now → now.stage ≡ InBody head
      → IsReadFile W Took lines start.work (record { head = head; lines = now.lines; work = now.work })
  ended_in_body lines start now head read is =
      let here : ReadsBody W Took lines lines start.work now.work head = in_body lines start now head read is in
      record {
        head_is = subst (λ ls. IsHead ls head) (append-nil lines) (here.head_is []);
        good = read.good;
        counted = read.counted;
        taken = here.taken;
      }

  -- the end of a file whose head is refused
  pub ended_refused : (lines : List (List ℕ)) (start now : FileReader W) (fault : HeadFault) → HasReadLines W Saw Took lines start now → now.stage ≡ Refused fault → HasRefusedHead lines fault
  ended_refused lines start now fault read is = record {
    refused = subst (λ ls. IsHeadFault ls fault) (append-nil lines) ((refused_by lines start now fault read is).refused []);
    good = read.good;
  }

  pub ended_at_fault : (lines : List (List ℕ)) (start now : FileReader W) (reader : HeadReader) (fault : HeadFault) → HasReadLines W Saw Took lines start now → now.stage ≡ InHead reader → TellsFault reader fault → HasRefusedHead lines fault
  ended_at_fault lines start now reader fault read is tells = record {
    refused = subst (λ ls. IsHeadFault ls fault) (append-nil lines) (tells lines [] (in_head lines start now reader read is).read tt);
    good = read.good;
  }

  -- the body begins
  pub body_begun : (lines next : List (List ℕ)) (start was work : W) (reader : HeadReader) (head : Head) → ReadsHead W Saw lines start was reader → BeginBody next → TellsHead reader head
      → ((first : W) (ls : List (List ℕ)) → length ls ≡ head.lines → Saw ls first was → Took head ls first work) → ReadsBody W Took (lines ++ next) lines start work head
  body_begun lines next start was work reader head here begin tells begun =
      let counted : length lines ≡ head.lines = head_counted lines reader head here.read tells in
      record {
        head_is = head_by_next lines next reader head here.read begin tells;
        within = omega (arith, counted);
        taken = begun start lines counted here.seen;
      }

  -- no line of a text
  pub front_none : (text : List ℕ) (reader : HeadReader) (work : W) → ReadsFront W Saw text 0 0 reader reader work work
  front_none text reader work = record {
    behind = behind-none text;
    read = λ lines has. subst (λ ls. HasHeadLines ls reader) (sym (append-nil lines)) has;
    seen = λ start lines saw. subst (λ ls. Saw ls start work) (sym (append-nil lines)) saw;
  }

  -- a line of a text more
  pub front_more : (text line : List ℕ) (count start next : ℕ) (old mid new : HeadReader) (was seeing is : W) → start < length text → ReadsFront W Saw text count start old mid was seeing → LineStandsAt text start line next
      → ((lines : List (List ℕ)) → HasHeadLines lines mid → HasHeadLines (lines ++ line ∷ []) new) → ((first : W) (lines : List (List ℕ)) → Saw lines first seeing → Saw (lines ++ line ∷ []) first is)
      → ReadsFront W Saw text (count + 1) next old new was is
  front_more text line count start next old mid new was seeing is some front stands takes sees =
      let here = line_here text line count start next front.behind stands in
      let joined : (lines : List (List ℕ)) → (lines ++ take count (lines_of text)) ++ line ∷ [] ≡ lines ++ take (count + 1) (lines_of text) =
      λ lines. append_assoc lines (take count (lines_of text)) (line ∷ []) ∙ ap (λ ls. lines ++ ls) (taken_more (lines_of text) count line here.0 (sym here.1)) in
      record {
        behind = behind-more text line count start next some front.behind stands;
        read = λ lines has. subst (λ ls. HasHeadLines ls new) (joined lines) (takes (lines ++ take count (lines_of text)) (front.read lines has));
        seen = λ first lines saw. subst (λ ls. Saw ls first is) (joined lines) (sees first (lines ++ take count (lines_of text)) (front.seen first lines saw));
      }

  -- the next line isn't of the head
  pub front_ended : (text line : List ℕ) (count start next : ℕ) (old mid new : HeadReader) (was is : W) → ReadsFront W Saw text count start old mid was is → LineStandsAt text start line next → new ≡ mid → is_head_line line ≡ false
      → ReadsWholeFront W Saw text count start old new was is
  front_ended text line count start next old mid new was is front stands same outside = record {
    front = subst (λ r. ReadsFront W Saw text count start old r was is) (sym same) front;
    ended = λ _. record { first = line; more = lines_of (drop next text); lines_are = stands.first; outside = outside };
  }

  -- all lines of the text are of the head
  pub front_all : (text : List ℕ) (count start : ℕ) (old new : HeadReader) (was is : W) → length text ≤ start → ReadsFront W Saw text count start old new was is → ReadsWholeFront W Saw text count start old new was is
  front_all text count start old new was is past front = record { front = front; ended = λ further. absurd (omega arith) }

  -- how many lines the head has so far
  pub front_counted : (text : List ℕ) (before count start : ℕ) (old new : HeadReader) (was is : W) → ((first : W) × (lines : List (List ℕ)) × (length lines ≡ before) × ReadsHead W Saw lines first was old)
      → ReadsFront W Saw text count start old new was is → new.lines ≡ before + count
  front_counted text before count start old new was is reading front =
      omega (arith, (front.read reading.1 reading.3.read).counted, length-append reading.1 (take count (lines_of text)), length-take count (lines_of text), front.behind.within, reading.2)

  -- a file that isn't in its head, before any lines
  before_any : (lines next : List (List ℕ)) (start now : W) (stage : Stage) → ((reader : HeadReader) → stage ≡ InHead reader → ⊥) → FileStandsAt W Saw Took lines start now stage → StandsBefore W Saw Took lines next start now stage
  before_any lines next start now (InHead reader) other stands = absurd (other reader refl)
  before_any lines next start now (InBody head) other stands = record {
    head_is = λ more. subst (λ ls. IsHead ls head) (sym (append_assoc lines next more)) (stands.head_is (next ++ more));
    within = stands.within;
    taken = stands.taken;
  }
  before_any lines next start now (Refused fault) other stands = record {
    refused = λ more. subst (λ ls. IsHeadFault ls fault) (sym (append_assoc lines next more)) (stands.refused (next ++ more));
    named = stands.named;
  }

  -- before no lines
  before_none : (lines : List (List ℕ)) (start now : W) (stage : Stage) → StandsBefore W Saw Took lines [] start now stage → FileStandsAt W Saw Took lines start now stage
  before_none lines start now (InHead reader) stands = stands.0
  before_none lines start now (InBody head) stands = subst (λ ls. ReadsBody W Took ls lines start now head) (append-nil lines) stands
  before_none lines start now (Refused fault) stands = subst (λ ls. IsRefusedBy ls fault) (append-nil lines) stands

  -- a text behind the head is entered at its beginning
  pub entered_at_once : (lines : List (List ℕ)) (text : List ℕ) (start now : FileReader W) → ((reader : HeadReader) → now.stage ≡ InHead reader → ⊥) → HasReadLines W Saw Took lines start now → EntersText W Saw Took lines text 0 start now
  entered_at_once lines text start now other read = record {
    front = [];
    parts = refl;
    few = omega arith;
    good = All-nil IsGoodLine;
    read = subst (λ ls. HasReadFront W Saw Took ls (lines_of text) start now) (sym (append-nil lines))
        (record { counted = read.counted; good = read.good; stage = before_any lines (lines_of text) start.work now.work now.stage other read.stage });
  }

  -- a text is entered behind the lines of its front
  pub entered : (lines : List (List ℕ)) (text : List ℕ) (count next : ℕ) (start old now : FileReader W) → HasReadLines W Saw Took lines start old → IsPlaceBehind text count next → now.lines ≡ old.lines + count
      → StandsBefore W Saw Took (lines ++ take count (lines_of text)) (lines_of (drop next text)) start.work now.work now.stage → EntersText W Saw Took lines text next start now
  entered lines text count next start old now read behind counted stands = record {
    front = take count (lines_of text);
    parts = sym (take-append-drop count (lines_of text)) ∙ ap (λ ls. take count (lines_of text) ++ ls) behind.left;
    few = omega (arith, length-take count (lines_of text), behind.fit);
    good = behind.good;
    read = record {
      counted = omega (arith, counted, read.counted, length-append lines (take count (lines_of text)), length-take count (lines_of text), behind.within);
      good = All-append IsGoodLine lines (take count (lines_of text)) read.good behind.good;
      stage = stands;
    };
  }

  -- no line is left of the text
  pub entered_all : (lines : List (List ℕ)) (text : List ℕ) (next : ℕ) (start now : FileReader W) → length text ≤ next → EntersText W Saw Took lines text next start now → HasReadLines W Saw Took (lines ++ lines_of text) start now
  entered_all lines text next start now past enters =
      let none : lines_of (drop next text) ≡ [] = ap lines_of (drop_all next text past) in
      let all : enters.front ≡ lines_of text = sym (append-nil enters.front) ∙ ap (λ ls. enters.front ++ ls) (sym none) ∙ sym enters.parts in
      let read : HasReadFront W Saw Took (lines ++ enters.front) [] start now = subst (λ ls. HasReadFront W Saw Took (lines ++ enters.front) ls start now) none enters.read in
      subst (λ ls. HasReadLines W Saw Took (lines ++ ls) start now) all
      (record { counted = read.counted; good = read.good; stage = before_none (lines ++ enters.front) start.work now.work now.stage read.stage })

  -- all lines of the text are taken
  pub entered_rest : (lines : List (List ℕ)) (text : List ℕ) (next : ℕ) (start mid now : FileReader W) → EntersText W Saw Took lines text next start mid
      → ((first : FileReader W) (ls : List (List ℕ)) → HasReadFront W Saw Took ls (lines_of (drop next text)) first mid → HasReadLines W Saw Took (ls ++ lines_of (drop next text)) first now)
      → HasReadLines W Saw Took (lines ++ lines_of text) start now
  entered_rest lines text next start mid now enters takes =
      subst (λ ls. HasReadLines W Saw Took ls start now)
      (append_assoc lines enters.front (lines_of (drop next text)) ∙ ap (λ ls. lines ++ ls) (sym enters.parts))
      (takes start (lines ++ enters.front) enters.read)

  -- so many lines were taken then
  pub entered_counted : (lines : List (List ℕ)) (text : List ℕ) (next : ℕ) (start old mid : FileReader W) → HasReadLines W Saw Took lines start old → (enters : EntersText W Saw Took lines text next start mid)
      → mid.lines ≡ old.lines + length enters.front
  entered_counted lines text next start old mid read enters = omega (arith, read.counted, enters.read.counted, length-append lines enters.front)

  -- a bad line of what is left of the text
  pub entered_bad : (lines : List (List ℕ)) (text : List ℕ) (next : ℕ) (start old mid : FileReader W) (fault : CutFault) → HasReadLines W Saw Took lines start old → EntersText W Saw Took lines text next start mid
      → IsFirstBadBehind mid.lines (lines_of (drop next text)) fault → IsFirstBadBehind old.lines (lines_of text) fault
  entered_bad lines text next start old mid fault read enters bad =
      subst (λ ls. IsFirstBadBehind old.lines ls fault) (sym enters.parts)
      (first_bad_behind old.lines enters.front (lines_of (drop next text)) mid.lines fault (entered_counted lines text next start old mid read enters) enters.good bad)

  -- the text's lines are all of the head
  pub entered_in_head : (lines : List (List ℕ)) (text : List ℕ) (count next : ℕ) (start old : FileReader W) (reader new : HeadReader) (work : W) → HasReadLines W Saw Took lines start old → old.stage ≡ InHead reader
      → length text ≤ next → ReadsWholeFront W Saw text count next reader new old.work work
      → EntersText W Saw Took lines text next start (record { work = work; stage = InHead new; lines = old.lines + count })
  entered_in_head lines text count next start old reader new work read is past front =
      let here : ReadsHead W Saw lines start.work old.work reader = in_head lines start old reader read is in
      entered lines text count next start old (record { work = work; stage = InHead new; lines = old.lines + count }) read front.front.behind refl
      (record { read = front.front.read lines here.read; seen = front.front.seen start.work lines here.seen }, ap lines_of (drop_all next text past))

  -- the body begins in this text
  pub entered_in_body : (lines : List (List ℕ)) (text : List ℕ) (count next : ℕ) (start old : FileReader W) (reader new moved : HeadReader) (work begun : W) (stage : Stage) → HasReadLines W Saw Took lines start old
      → old.stage ≡ InHead reader → next < length text → ReadsWholeFront W Saw text count next reader new old.work work → moved ≡ new
      → ((first : W) (ls later : List (List ℕ)) → ReadsHead W Saw ls first work moved → BeginBody later → StandsBefore W Saw Took ls later first begun stage)
      → EntersText W Saw Took lines text next start (record { work = begun; stage = stage; lines = old.lines + count })
  entered_in_body lines text count next start old reader new moved work begun stage read is further front same begins =
      let here : ReadsHead W Saw lines start.work old.work reader = in_head lines start old reader read is in
      entered lines text count next start old (record { work = begun; stage = stage; lines = old.lines + count }) read front.front.behind refl
      (begins start.work (lines ++ take count (lines_of text)) (lines_of (drop next text))
      (record {
        read = subst (HasHeadLines (lines ++ take count (lines_of text))) (sym same) (front.front.read lines here.read);
        seen = front.front.seen start.work lines here.seen;
      })
      (front.ended further))
