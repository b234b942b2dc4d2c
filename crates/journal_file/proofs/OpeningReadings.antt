-- How far the reading has come of what stands before the entries, and where it stops.
use Rattle.std.proofs.Common.{◌≡◌, ℕ, zero, suc, ◌+◌, ◌<◌, ◌≤◌, ◌^◌, List, [], ◌∷◌, ◌++◌, length, sym, subst, refl, arith, codes, Result, Ok, Err, IfOk}
use Rattle.knit_base.specs.Spelling.{labelled_number}
use Rattle.knit_base.specs.declared.profile.Profile.{Profile}
use Rattle.journal_file.specs.declared.fault.JournalCause.TheVariants.{BadLine, NoFit}
use Rattle.journal_file.specs.declared.fault.JournalFault.{JournalFault}
use Rattle.journal_file.specs.declared.fault.JournalFault.TheVariants.{At, NoMemory}
use Rattle.journal_file.specs.BlockForms.{BlocksForm, no_block_yet}
use Rattle.journal_file.specs.CountLines.{IsCount}
use Rattle.journal_file.specs.Fronts.{AreFront}
use Rattle.journal_file.specs.Grammars.{Lines, Form, IsUnambiguous, OneLine, Both}
use Rattle.journal_file.specs.HeadForms.{AreHeadLines, no_line_yet, head_with_line}
use Rattle.journal_file.specs.Openings.{said_behind_head, said_of}
use Rattle.journal_file.specs.declared.opening.SavedOpening.{SavedOpening}
use Rattle.journal_file.specs.declared.text.Place.{Place}
use Rattle.journal_file.specs.Reading.{FormHasRead, IsFault, IsFormStop, IsFirstLineTaken, NoneTaken}
use Rattle.journal_file.specs.SavedForms.{AreFirst, BlocksSaid, HeadSaid, IsBehindHead, IsEntryCount, HeadForm, OpeningForm}
use Rattle.journal_file.proofs.BlockReadings.{one_count}
use Rattle.journal_file.proofs.BlocksReadings.{some_blocks}
use Rattle.journal_file.proofs.FormReadings.{both_read, both_stop_first, both_stop_second, line_read, line_stops}
use Rattle.journal_file.proofs.HeadReadings.{some_line, some_lines}
use Rattle.journal_file.proofs.SavedOnes.{first_one, front_one, whole_head_one}

module _ {A B : Type 0} (P : Form A) (Q : A → Form B) (one : IsUnambiguous P) where
  -- the fault of the first part is that of both
  pub both_fault_first : ((a : A) (t : Lines) → P a t → (b : B) × (u : Lines) × Q a b u) → (bytes : List ℕ) (taken : ℕ) (fault : JournalFault) → IsFault P bytes taken fault → IsFault (Both P Q) bytes taken fault
  both_fault_first some bytes taken (At number BadLine) stops = both_stop_first P Q one some bytes taken number stops
  both_fault_first some bytes taken (At number NoFit) stops = stops
  both_fault_first some bytes taken NoMemory stops = tt

  -- and so is that of the second, behind the first
  pub both_fault_second : (bytes : List ℕ) (taken : ℕ) (a : A) (rest : List ℕ) (now : ℕ) → FormHasRead P bytes taken a rest now → (fault : JournalFault) → IsFault (Q a) rest now fault → IsFault (Both P Q) bytes taken fault
  both_fault_second bytes taken a rest now read (At number BadLine) stops = both_stop_second P Q one bytes taken a rest now number read stops
  both_fault_second bytes taken a rest now read (At number NoFit) stops = stops
  both_fault_second bytes taken a rest now read NoMemory stops = tt

-- lines behind the line of a count
module _ {A : Type 0} (label : List ℕ) (least most : ℕ) (fits : most < 2 ^ 32) (Q : ℕ → Form A) where
  pub counted_read : (bytes : List ℕ) (taken count : ℕ) (rest : List ℕ) (now : ℕ) (a : A) (behind : List ℕ) (then_ : ℕ) → IsFirstLineTaken (IsCount label least most) bytes count rest → now ≡ taken + 1 → FormHasRead (Q count) rest now a behind then_
      → FormHasRead (Both (OneLine (IsCount label least most)) Q) bytes taken (count, a) behind then_
  counted_read bytes taken count rest now a behind then_ took is read =
      both_read (OneLine (IsCount label least most)) Q bytes taken count rest now a behind then_ (subst (FormHasRead (OneLine (IsCount label least most)) bytes taken count rest) (sym is) (line_read (IsCount label least most) bytes taken count rest took)) read

  pub counted_fault : (bytes : List ℕ) (taken count : ℕ) (rest : List ℕ) (now : ℕ) → IsFirstLineTaken (IsCount label least most) bytes count rest → now ≡ taken + 1 → (fault : JournalFault) → IsFault (Q count) rest now fault
      → IsFault (Both (OneLine (IsCount label least most)) Q) bytes taken fault
  counted_fault bytes taken count rest now took is fault stops =
      both_fault_second (OneLine (IsCount label least most)) Q (one_count label least most fits) bytes taken count rest now (subst (FormHasRead (OneLine (IsCount label least most)) bytes taken count rest) (sym is) (line_read (IsCount label least most) bytes taken count rest took)) fault stops

  pub counted_none : least ≤ most → ((n : ℕ) → least ≤ n → n ≤ most → (a : A) × (u : Lines) × Q n a u) → (bytes : List ℕ) (taken : ℕ) → NoneTaken (IsCount label least most) bytes → IsFormStop (Both (OneLine (IsCount label least most)) Q) bytes taken (taken + 1)
  counted_none some more bytes taken none =
      both_stop_first (OneLine (IsCount label least most)) Q (one_count label least most fits) (λ n t p. more n p.says.enough p.says.few) bytes taken (taken + 1)
      (line_stops (IsCount label least most) least (labelled_number label least) (record { spelt = refl; enough = omega arith; few = some }) bytes taken none)

-- so many head lines can be
some_head_lines : (n : ℕ) → 2 ≤ n → (xs : List (List ℕ)) × (u : Lines) × AreHeadLines n xs u
some_head_lines zero two = absurd (omega (arith, two))
some_head_lines (suc n) two =
    let l = some_line (no_line_yet (suc n)) (omega arith) (λ is. two) in
    let w = some_lines n (head_with_line (no_line_yet (suc n)) l.0) (omega arith) refl in
    (l.0 ∷ w.0, l.1 ∷ w.1, record { first = l.1 ∷ []; second = w.1; lines_are = refl; says_first = record { line = l.1; lines_are = refl; says = l.2 }; says_second = w.2 })

pub no_head : (bytes : List ℕ) (taken : ℕ) → NoneTaken (IsCount (codes "head ") 2 16777217) bytes → IsFormStop HeadForm bytes taken (taken + 1)
no_head bytes taken none = counted_none (codes "head ") 2 16777217 (omega arith) (λ many. AreHeadLines many) (omega arith) (λ n enough few. some_head_lines n enough) bytes taken none

pub no_blocks : (bytes : List ℕ) (taken : ℕ) → NoneTaken (IsCount (codes "blocks ") 0 65536) bytes → IsFormStop AreFirst bytes taken (taken + 1)
no_blocks bytes taken none = counted_none (codes "blocks ") 0 65536 (omega arith) (λ many. BlocksForm many) (omega arith) (λ n enough few. some_blocks n (no_block_yet n) refl (omega (arith, few))) bytes taken none

count_line : (label : List ℕ) (least most n : ℕ) → least ≤ n → n ≤ most → OneLine (IsCount label least most) n (labelled_number label n ∷ [])
count_line label least most n enough few = record { line = labelled_number label n; lines_are = refl; says = record { spelt = refl; enough = enough; few = few } }

some_count : (n : ℕ) × (u : Lines) × IsEntryCount n u
some_count = (0, labelled_number (codes "entries ") 0 ∷ [], count_line (codes "entries ") 0 4294967295 0 (omega arith) (omega arith))

some_behind_head : (said : BlocksSaid × ℕ) × (u : Lines) × IsBehindHead said u
some_behind_head = (
  ((0, []), 0),
  labelled_number (codes "blocks ") 0 ∷ labelled_number (codes "entries ") 0 ∷ [],
  record {
    first = labelled_number (codes "blocks ") 0 ∷ [];
    second = labelled_number (codes "entries ") 0 ∷ [];
    lines_are = refl;
    says_first = record { first = labelled_number (codes "blocks ") 0 ∷ []; second = []; lines_are = refl; says_first = count_line (codes "blocks ") 0 65536 0 (omega arith) (omega arith); says_second = refl };
    says_second = count_line (codes "entries ") 0 4294967295 0 (omega arith) (omega arith);
  },
)

some_head : (said : HeadSaid × (BlocksSaid × ℕ)) × (u : Lines) × Both HeadForm (λ head. IsBehindHead) said u
some_head =
    let lines = some_head_lines 2 (omega arith) in
    let behind = some_behind_head in (
      ((2, lines.0), behind.0),
      (labelled_number (codes "head ") 2 ∷ lines.1) ++ behind.1,
      record {
        first = labelled_number (codes "head ") 2 ∷ lines.1;
        second = behind.1;
        lines_are = refl;
        says_first = record { first = labelled_number (codes "head ") 2 ∷ []; second = lines.1; lines_are = refl; says_first = count_line (codes "head ") 2 16777217 2 (omega arith) (omega arith); says_second = lines.2 };
        says_second = behind.2;
      },
    )

-- the blocks stop
pub behind_head_fault : (bytes : List ℕ) (taken : ℕ) (fault : JournalFault) → IsFault AreFirst bytes taken fault → IsFault IsBehindHead bytes taken fault
behind_head_fault bytes taken fault stops = both_fault_first AreFirst (λ blocks. IsEntryCount) first_one (λ blocks t p. some_count) bytes taken fault stops

-- there is no count of entries behind them
pub no_entry_count : (bytes : List ℕ) (taken : ℕ) (blocks : BlocksSaid) (rest : List ℕ) (now : ℕ) → FormHasRead AreFirst bytes taken blocks rest now → NoneTaken (IsCount (codes "entries ") 0 4294967295) rest → IsFormStop IsBehindHead bytes taken (now + 1)
no_entry_count bytes taken blocks rest now read none =
    both_stop_second AreFirst (λ blocks. IsEntryCount) first_one bytes taken blocks rest now (now + 1) read
    (line_stops (IsCount (codes "entries ") 0 4294967295) 0 (labelled_number (codes "entries ") 0) (record { spelt = refl; enough = omega arith; few = omega arith }) rest now none)

pub behind_head_read : (bytes : List ℕ) (taken : ℕ) (blocks : BlocksSaid) (rest : List ℕ) (now count : ℕ) (behind : List ℕ) (then_ : ℕ) → FormHasRead AreFirst bytes taken blocks rest now → IsFirstLineTaken (IsCount (codes "entries ") 0 4294967295) rest count behind → then_ ≡ now + 1
    → FormHasRead IsBehindHead bytes taken (blocks, count) behind then_
behind_head_read bytes taken blocks rest now count behind then_ read took is =
    both_read AreFirst (λ blocks. IsEntryCount) bytes taken blocks rest now count behind then_ read (subst (FormHasRead IsEntryCount rest now count behind) (sym is) (line_read (IsCount (codes "entries ") 0 4294967295) rest now count behind took))

-- the first two lines stop, or the head behind them, or what stands behind that
pub front_fault : (bytes : List ℕ) (taken : ℕ) (fault : JournalFault) → IsFault AreFront bytes taken fault → IsFault OpeningForm bytes taken fault
front_fault bytes taken fault stops = both_fault_first AreFront (λ front. Both HeadForm (λ head. IsBehindHead)) front_one (λ front t p. some_head) bytes taken fault stops

pub head_fault : (bytes : List ℕ) (taken : ℕ) (profile : Profile) (rest : List ℕ) (now : ℕ) → FormHasRead AreFront bytes taken (tt, profile) rest now → (fault : JournalFault) → IsFault HeadForm rest now fault → IsFault OpeningForm bytes taken fault
head_fault bytes taken profile rest now read fault stops =
    both_fault_second AreFront (λ front. Both HeadForm (λ head. IsBehindHead)) front_one bytes taken (tt, profile) rest now read fault
    (both_fault_first HeadForm (λ head. IsBehindHead) whole_head_one (λ head t p. some_behind_head) rest now fault stops)

pub opening_fault : (bytes : List ℕ) (taken : ℕ) (profile : Profile) (rest : List ℕ) (now : ℕ) (head : HeadSaid) (behind : List ℕ) (then_ : ℕ) → FormHasRead AreFront bytes taken (tt, profile) rest now → FormHasRead HeadForm rest now head behind then_
    → (fault : JournalFault) → IsFault IsBehindHead behind then_ fault → IsFault OpeningForm bytes taken fault
opening_fault bytes taken profile rest now head behind then_ read more fault stops =
    both_fault_second AreFront (λ front. Both HeadForm (λ head. IsBehindHead)) front_one bytes taken (tt, profile) rest now read fault
    (both_fault_second HeadForm (λ head. IsBehindHead) whole_head_one rest now head behind then_ more fault stops)

pub opening_read : (bytes : List ℕ) (taken : ℕ) (profile : Profile) (rest : List ℕ) (now : ℕ) (head : HeadSaid) (behind : List ℕ) (then_ : ℕ) (said : BlocksSaid × ℕ) (last : List ℕ) (end : ℕ)
    → FormHasRead AreFront bytes taken (tt, profile) rest now → FormHasRead HeadForm rest now head behind then_ → FormHasRead IsBehindHead behind then_ said last end → FormHasRead OpeningForm bytes taken ((tt, profile), (head, said)) last end
opening_read bytes taken profile rest now head behind then_ said last end read more others =
    both_read AreFront (λ front. Both HeadForm (λ head. IsBehindHead)) bytes taken (tt, profile) rest now (head, said) last end read
    (both_read HeadForm (λ head. IsBehindHead) rest now head behind then_ said last end more others)

-- what was read behind the head, with the head and the limits before it
pub opened_whole : (bytes : List ℕ) (taken : ℕ) (profile : Profile) (rest : List ℕ) (now : ℕ) (head : List (List ℕ)) (behind : List ℕ) (then_ : ℕ) → FormHasRead AreFront bytes taken (tt, profile) rest now → FormHasRead HeadForm rest now (length head, head) behind then_
    → (found : Result (SavedOpening × Place) JournalFault) → IfOk found (λ f. f.0.profile ≡ profile) → IfOk found (λ f. f.0.head ≡ head) → IfOk found (λ f. FormHasRead IsBehindHead behind then_ (said_behind_head f.0) f.1.rest.now f.1.taken)
    → IfOk found (λ f. FormHasRead OpeningForm bytes taken (said_of f.0) f.1.rest.now f.1.taken)
opened_whole bytes taken profile rest now head behind then_ read more (Ok f) profile_is head_is others =
    subst (λ p. FormHasRead OpeningForm bytes taken ((tt, p), ((length f.0.head, f.0.head), said_behind_head f.0)) f.1.rest.now f.1.taken) (sym profile_is)
    (subst (λ h. FormHasRead OpeningForm bytes taken ((tt, profile), ((length h, h), said_behind_head f.0)) f.1.rest.now f.1.taken) (sym head_is)
    (opening_read bytes taken profile rest now (length head, head) behind then_ (said_behind_head f.0) f.1.rest.now f.1.taken read more others))
opened_whole bytes taken profile rest now head behind then_ read more (Err fault) profile_is head_is others = tt
