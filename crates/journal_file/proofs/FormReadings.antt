-- How far the reading of a form has come, and where it stops, from what is known of its parts.
use Rattle.std.proofs.Common.{◌≡◌, ◌∙◌, ℕ, zero, suc, ◌+◌, List, [], ◌∷◌, ◌++◌, length, All, ap, sym, subst, refl, arith, append_assoc, append-nil, length-append}
use Rattle.std.proofs.lemmas.List.Elements.{All-head}
use Rattle.knit_base.specs.Lines.{HasNoLineEnd}
use Rattle.journal_file.specs.Grammars.{Lines, Form, IsUnambiguous, Both, OneLine, Chain, behind_all}
use Rattle.journal_file.specs.Lines.{lines_with_ends}
use Rattle.journal_file.specs.Reading.{FormHasRead, IsFault, IsFormStop, IsFirstLineTaken, NoneTaken}
use Rattle.journal_file.specs.declared.fault.JournalCause.TheVariants.{BadLine, NoFit}
use Rattle.journal_file.specs.declared.fault.JournalFault.{JournalFault}
use Rattle.journal_file.specs.declared.fault.JournalFault.TheVariants.{At, NoMemory}
use Rattle.journal_file.proofs.Grammars.{stop_first, stop_later, stop_line, stop_now, stop_second}
use Rattle.journal_file.proofs.Lines.{line_first}

-- one line was read
pub line_read : {A : Type 0} (L : A → List ℕ → Type 0) (bytes : List ℕ) (taken : ℕ) (a : A) (rest : List ℕ) → IsFirstLineTaken L bytes a rest → FormHasRead (OneLine L) bytes taken a rest (taken + 1)
line_read L bytes taken a rest took lines last h =
    let first = line_first bytes took.line rest last lines took.one took.bytes_are h in
    record { read = took.line ∷ []; more = first.0; lines_are = first.1; says = record { line = took.line; lines_are = refl; says = took.says }; left = first.2; counted = omega arith }

-- no line of the kind is next
pub line_stops : {A : Type 0} (L : A → List ℕ → Type 0) (a : A) (line : List ℕ) → L a line → (bytes : List ℕ) (taken : ℕ) → NoneTaken L bytes → IsFormStop (OneLine L) bytes taken (taken + 1)
line_stops L a line says bytes taken none lines last h = (0, omega arith, stop_line L a line says lines bad)
  where
    bad : (other : List ℕ) (behind : Lines) → lines ≡ other ∷ behind → (b : _) → L b other → ⊥
    bad other behind is b it =
        let each : All HasNoLineEnd (other ∷ behind) = subst (All HasNoLineEnd) is h.each in
        none other (lines_with_ends behind ++ last) (All-head HasNoLineEnd other behind each) (h.bytes_are ∙ ap (λ m. lines_with_ends m ++ last) is ∙ append_assoc other (10 ∷ lines_with_ends behind) last) b it

module _ {A B : Type 0} (P : Form A) (Q : A → Form B) where
  -- both parts were read
  pub both_read : (bytes : List ℕ) (taken : ℕ) (a : A) (rest : List ℕ) (now : ℕ) (b : B) (behind : List ℕ) (then_ : ℕ) → FormHasRead P bytes taken a rest now → FormHasRead (Q a) rest now b behind then_
      → FormHasRead (Both P Q) bytes taken (a, b) behind then_
  both_read bytes taken a rest now b behind then_ p q lines last h =
      let w = p lines last h in
      let v = q w.more last w.left in
      record {
        read = w.read ++ v.read;
        more = v.more;
        lines_are = w.lines_are ∙ ap (λ m. w.read ++ m) v.lines_are ∙ sym (append_assoc w.read v.read v.more);
        says = record { first = w.read; second = v.read; lines_are = refl; says_first = w.says; says_second = v.says };
        left = v.left;
        counted = omega (arith, w.counted, v.counted, length-append w.read v.read);
      }

  -- the first part stops
  pub both_stop_first : IsUnambiguous P → ((a : A) (t : Lines) → P a t → (b : B) × (u : Lines) × Q a b u) → (bytes : List ℕ) (taken number : ℕ) → IsFormStop P bytes taken number → IsFormStop (Both P Q) bytes taken number
  both_stop_first one some bytes taken number stops lines last h = let s = stops lines last h in (s.0, s.1, stop_first P Q one lines s.0 some s.2)

  -- the second part stops
  pub both_stop_second : IsUnambiguous P → (bytes : List ℕ) (taken : ℕ) (a : A) (rest : List ℕ) (now number : ℕ) → FormHasRead P bytes taken a rest now → IsFormStop (Q a) rest now number → IsFormStop (Both P Q) bytes taken number
  both_stop_second one bytes taken a rest now number p stops lines last h =
      let w = p lines last h in
      let s = stops w.more last w.left in
      (length w.read + s.0, omega (arith, w.counted, s.1), stop_second P Q one a w.read lines w.more s.0 w.says w.lines_are s.2)

module _ {S A : Type 0} (P : S → Form A) (next : S → A → S) where
  more_of : (n : ℕ) (s : S) (xs : List A) (t : Lines) (x : A) (u : Lines) → Chain P next n s xs t → P (behind_all next s xs) x u → Chain P next (n + 1) s (xs ++ x ∷ []) (t ++ u)
  more_of zero s [] t x u p q =
      let one : suc zero ≡ zero + 1 = omega arith in
      subst (λ k. Chain P next k s (x ∷ []) (t ++ u)) one
      (record { first = u; second = []; lines_are = ap (λ y. y ++ u) p ∙ sym (append-nil u); says_first = q; says_second = refl })
  more_of zero s (y ∷ xs) t x u p q = absurd p
  more_of (suc n) s [] t x u p q = absurd p
  more_of (suc n) s (y ∷ xs) t x u p q =
      let many : suc (n + 1) ≡ suc n + 1 = omega arith in
      subst (λ k. Chain P next k s ((y ∷ xs) ++ x ∷ []) (t ++ u)) many
      (record {
        first = p.first;
        second = p.second ++ u;
        lines_are = ap (λ z. z ++ u) p.lines_are ∙ append_assoc p.first p.second u;
        says_first = p.says_first;
        says_second = more_of n (next s y) xs p.second x u p.says_second q;
      })

  -- nothing was read yet
  pub chain_none : (s : S) (bytes : List ℕ) (taken : ℕ) → FormHasRead (Chain P next 0 s) bytes taken [] bytes taken
  chain_none s bytes taken lines last h = record { read = []; more = lines; lines_are = refl; says = refl; left = h; counted = omega arith }

  -- one more was read
  pub chain_more : (n : ℕ) (s : S) (bytes : List ℕ) (taken : ℕ) (xs : List A) (rest : List ℕ) (now : ℕ) (x : A) (behind : List ℕ) (then_ : ℕ)
      → FormHasRead (Chain P next n s) bytes taken xs rest now → FormHasRead (P (behind_all next s xs)) rest now x behind then_ → FormHasRead (Chain P next (n + 1) s) bytes taken (xs ++ x ∷ []) behind then_
  chain_more n s bytes taken xs rest now x behind then_ p q lines last h =
      let w = p lines last h in
      let v = q w.more last w.left in
      record {
        read = w.read ++ v.read;
        more = v.more;
        lines_are = w.lines_are ∙ ap (λ m. w.read ++ m) v.lines_are ∙ sym (append_assoc w.read v.read v.more);
        says = more_of n s xs w.read x v.read w.says v.says;
        left = v.left;
        counted = omega (arith, w.counted, v.counted, length-append w.read v.read);
      }

  -- the next one stops
  pub chain_stops : ((s : S) → IsUnambiguous (P s)) → (done left : ℕ) (s : S) (bytes : List ℕ) (taken : ℕ) (xs : List A) (rest : List ℕ) (now number : ℕ)
      → ((a : A) (t : Lines) → P (behind_all next s xs) a t → (ys : List A) × (u : Lines) × Chain P next left (next (behind_all next s xs) a) ys u) → FormHasRead (Chain P next done s) bytes taken xs rest now
      → IsFormStop (P (behind_all next s xs)) rest now number → IsFormStop (Chain P next (done + suc left) s) bytes taken number
  chain_stops ones done left s bytes taken xs rest now number some p stops lines last h =
      let w = p lines last h in
      let v = stops w.more last w.left in (
        length w.read + v.0,
        omega (arith, w.counted, v.1),
        stop_later P next ones done (suc left) s xs w.read lines w.more v.0 w.says w.lines_are (stop_now P next ones left (behind_all next s xs) w.more v.0 some v.2),
      )

module _ {S A : Type 0} (P : S → Form A) (next : S → A → S) where
  -- the fault of the next one is that of all
  pub chain_fault : ((s : S) → IsUnambiguous (P s)) → (done left : ℕ) (s : S) (bytes : List ℕ) (taken : ℕ) (xs : List A) (rest : List ℕ) (now : ℕ)
      → ((a : A) (t : Lines) → P (behind_all next s xs) a t → (ys : List A) × (u : Lines) × Chain P next left (next (behind_all next s xs) a) ys u) → FormHasRead (Chain P next done s) bytes taken xs rest now
      → (fault : JournalFault) → IsFault (P (behind_all next s xs)) rest now fault → IsFault (Chain P next (done + suc left) s) bytes taken fault
  chain_fault ones done left s bytes taken xs rest now some p (At number BadLine) stops = chain_stops P next ones done left s bytes taken xs rest now number some p stops
  chain_fault ones done left s bytes taken xs rest now some p (At number NoFit) stops = stops
  chain_fault ones done left s bytes taken xs rest now some p NoMemory stops = tt

  -- behind one more
  pub behind_more : (s : S) (xs : List A) (x : A) → behind_all next s (xs ++ x ∷ []) ≡ next (behind_all next s xs) x
  behind_more s [] x = refl
  behind_more s (y ∷ xs) x = behind_more (next s y) xs x

-- a chain says as many things as it has texts
pub chain_length : {S A : Type 0} (P : S → Form A) (next : S → A → S) (n : ℕ) (s : S) (xs : List A) (t : Lines) → Chain P next n s xs t → length xs ≡ n
chain_length P next zero s [] t p = refl
chain_length P next zero s (x ∷ xs) t p = absurd p
chain_length P next (suc n) s [] t p = absurd p
chain_length P next (suc n) s (x ∷ xs) t p = let rest = chain_length P next n (next s x) xs p.second p.says_second in omega (arith, rest)
