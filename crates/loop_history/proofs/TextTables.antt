-- The table of two texts, one after the other.
use Rattle.std.proofs.Common.{◌≡◌, ℕ, ◌+◌, ◌-◌, ◌<◌, ◌≤◌, Bool, true, false, cond, nat_lt, List, [], ◌∷◌, ◌++◌, length, map, get_or, All, Option, Some, None, inl, inr, refl, sym, ap, subst, ◌∙◌, arith, add_assoc, length-append, append-nil, lt-ltb}
use Rattle.std.specs.List.{Contains}
use Rattle.std.proofs.Math.Path.{ap₂}
use Rattle.std.proofs.lemmas.Bool.{cases_lt, le-ltb}
use Rattle.std.specs.Option.{option_to_list}
use Rattle.std.proofs.lemmas.List.{get_or-append-add, get_or-map, get_or_append_left, length-map, map-append}
use Rattle.std.proofs.lemmas.List.Elements.{All-append, All-cons, All-head, All-map, All-nil, All-tail, All-weaker, Contains-get_or, filter-append}
use Rattle.knit_base.specs.declared.instr.Read.{Read}
use Rattle.knit_base.specs.declared.needle.Needle.{Needle}
use Rattle.knit_base.specs.declared.profile.Profile.{Profile}
use Rattle.knit_base.specs.declared.rule.Fault.{Fault}
use Rattle.knit_base.specs.declared.rule.Reason.{Reason}
use Rattle.carriage_model.specs.declared.verdict.LoopFact.{LoopFact}
use Rattle.carriage_model.specs.Loops.{fact_made, loops_made, made_on}
use Rattle.carriage_model.specs.Rules.{broken}
use Rattle.carriage_model.specs.Run.{Ended, run, run_on}
use Rattle.carriage_model.specs.Run.Ended.{Ends, Stops}
use Rattle.carriage_model.specs.State.{State}
use Rattle.carriage_model.specs.Steps.{step}
use Rattle.face_data.specs.declared.face.Seg.{Seg}
use Rattle.face_data.specs.declared.face.Seg.TheVariants.{Entry, New}
use Rattle.face_data.specs.Segments.{AreRead, Changed, read_segs, segments_on}
use Rattle.face_data.specs.Stands.{StandsFor}
use Rattle.face_data.specs.Summaries.{Summary}
use Rattle.face_data.specs.Through.{through}
use Rattle.face_data.proofs.Stands.{ends_read, loops_made-append}
use Rattle.face_data.proofs.Through.{read-through, with_stacks}
use Rattle.loop_history.specs.declared.row.LoopRow.{LoopRow}
use Rattle.loop_history.specs.Rows.{IsLoopTable, OffsetsRise, fact_of_row, facts_of_rows, row_through, rows_run}
use Rattle.loop_history.specs.Tables.{IsOfEarlier, IsRowOf, TableStandsFor}
use Rattle.loop_history.proofs.TableLines.{StopsAmong, rows_to, stops_among, within_wider}

-- segments are read the same where the needles hold the same
same_reading : (s t : State) (first : ℕ) (segs : List Seg) → ((n : Needle) → s.stacks n ≡ t.stacks n) → read_segs s first segs ≡ read_segs t first segs
same_reading s t first [] same = refl
same_reading s t first (Entry n ∷ segs) same = ap₂ (λ (here rest : List ℕ). here ++ rest) (same n) (same_reading s t first segs same)
same_reading s t first (New offset ∷ segs) same = ap (λ rest. (first + offset) ∷ rest) (same_reading s t first segs same)

-- the loop of a row of the second text, told from the first one's entry
fact_through : (changes : List Changed) (lines first : ℕ) (s t : State) (row : LoopRow) → AreRead changes s first t.stacks →
    fact_of_row t (first + lines) row ≡ fact_of_row s first (row_through changes lines row)
fact_through changes lines first s t row read =
    let held : read_segs t (first + lines) row.through ≡ read_segs s first (through changes lines row.through) =
    same_reading t (with_stacks s (λ n. read_segs s first (segments_on changes n))) (first + lines) row.through read
    ∙ sym (read-through s first lines changes row.through) in
    let line : first + lines + row.offset ≡ first + (lines + row.offset) = add_assoc first lines row.offset in
    λ i. record { line = line i; needle = row.needle; dir = row.dir; yarns = row.yarns; through = held i }

facts_through : (changes : List Changed) (lines first : ℕ) (s t : State) (rows : List LoopRow) → AreRead changes s first t.stacks →
    facts_of_rows t (first + lines) rows ≡ facts_of_rows s first (map (row_through changes lines) rows)
facts_through changes lines first s t [] read = refl
facts_through changes lines first s t (row ∷ rows) read =
    (λ i. fact_through changes lines first s t row read i ∷ facts_through changes lines first s t rows read i)

rows_to-through : (changes : List Changed) (lines first line : ℕ) (rows : List LoopRow) →
    map (row_through changes lines) (rows_to (first + lines) line rows) ≡ rows_to first line (map (row_through changes lines) rows)
rows_to-through changes lines first line [] = refl
rows_to-through changes lines first line (row ∷ rows) =
    go (nat_lt (first + lines + row.offset) line) (rows_to-through changes lines first line rows)
    ∙ ap (λ n. cond (nat_lt n line) (row_through changes lines row ∷ rows_to first line (map (row_through changes lines) rows)) (rows_to first line (map (row_through changes lines) rows)))
    (add_assoc first lines row.offset)
  where
    go : (b : Bool) → map (row_through changes lines) (rows_to (first + lines) line rows) ≡ rows_to first line (map (row_through changes lines) rows) →
        map (row_through changes lines) (cond b (row ∷ rows_to (first + lines) line rows) (rows_to (first + lines) line rows))
        ≡ cond b (row_through changes lines row ∷ rows_to first line (map (row_through changes lines) rows)) (rows_to first line (map (row_through changes lines) rows))
    go true rest = ap (λ xs. row_through changes lines row ∷ xs) rest
    go false rest = rest

-- the rows of lines that all lie before this one
rows_to-before : (first lines line : ℕ) (rows : List LoopRow) → All (λ (row : LoopRow). row.offset < lines) rows → first + lines ≤ line → rows_to first line rows ≡ rows
rows_to-before first lines line [] all past = refl
rows_to-before first lines line (row ∷ rows) all past =
    let early : row.offset < lines = All-head (λ (x : LoopRow). x.offset < lines) row rows all in
    ap (λ b. cond b (row ∷ rows_to first line rows) (rows_to first line rows)) (lt-ltb (first + row.offset) line (omega arith))
    ∙ ap (λ xs. row ∷ xs) (rows_to-before first lines line rows (All-tail (λ (x : LoopRow). x.offset < lines) row rows all) past)

-- none of the rows of lines behind it
rows_to-behind : (changes : List Changed) (first lines line : ℕ) (rows : List LoopRow) → line ≤ first + lines → rows_to first line (map (row_through changes lines) rows) ≡ []
rows_to-behind changes first lines line [] past = refl
rows_to-behind changes first lines line (row ∷ rows) past =
    ap (λ b. cond b (row_through changes lines row ∷ rows_to first line (map (row_through changes lines) rows)) (rows_to first line (map (row_through changes lines) rows)))
    (le-ltb (first + (lines + row.offset)) line (omega arith))
    ∙ rows_to-behind changes first lines line rows past

rows_run-both : (changes : List Changed) (first lines count : ℕ) (rows more : List LoopRow) (ended : Ended) → All (λ (row : LoopRow). row.offset < lines) rows → StopsAmong (first + lines) count ended →
    rows ++ map (row_through changes lines) (rows_run ended (first + lines) more) ≡ rows_run ended first (rows ++ map (row_through changes lines) more)
rows_run-both changes first lines count rows more (Ends t) all among = refl
rows_run-both changes first lines count rows more (Stops t fault) all among =
    ap₂ (λ (xs ys : List LoopRow). xs ++ ys) (sym (rows_to-before first lines fault.line rows all among.0)) (rows_to-through changes lines first fault.line more)
    ∙ sym (filter-append (λ (x : LoopRow). nat_lt (first + x.offset) fault.line) rows (map (row_through changes lines) more))

place_both : (rows more : List LoopRow) (k : ℕ) (d : LoopRow) → length rows ≤ k → get_or (rows ++ more) k d ≡ get_or more (k - length rows) d
place_both rows more k d behind =
    let place : length rows + (k - length rows) ≡ k = omega (arith, behind) in
    ap (λ n. get_or (rows ++ more) n d) (sym place) ∙ get_or-append-add rows more (k - length rows) d

rising_append : (rows more : List LoopRow) (lines : ℕ) → OffsetsRise rows → OffsetsRise more → All (λ (row : LoopRow). row.offset < lines) rows → All (λ (row : LoopRow). lines ≤ row.offset) more → OffsetsRise (rows ++ more)
rising_append rows more lines first second before behind i j d earlier inside = elim (cases_lt j (length rows)) [
  | inl early ↦ (
      let x = get_or_append_left rows more d i (omega arith) in
      let y = get_or_append_left rows more d j early in
      omega (arith, ap (λ (r : LoopRow). r.offset) x, ap (λ (r : LoopRow). r.offset) y, first i j d earlier early))
  | inr late ↦ elim (cases_lt i (length rows)) [
    | inl early ↦ (
        let x = get_or_append_left rows more d i early in
        let y = place_both rows more j d late in
        omega (arith, ap (λ (r : LoopRow). r.offset) x, ap (λ (r : LoopRow). r.offset) y, before i d early, behind (j - length rows) d (omega (arith, inside, length-append rows more))))
    | inr both ↦ (
        let x = place_both rows more i d both in
        let y = place_both rows more j d late in
        omega (arith, ap (λ (r : LoopRow). r.offset) x, ap (λ (r : LoopRow). r.offset) y, second (i - length rows) (j - length rows) d (omega arith) (omega (arith, inside, length-append rows more))))
  ]
]

mapped_at : (changes : List Changed) (lines : ℕ) (rows : List LoopRow) (k : ℕ) (d : LoopRow) → k < length rows → (get_or (map (row_through changes lines) rows) k d).offset ≡ lines + (get_or rows k d).offset
mapped_at changes lines rows k d within = ap (λ (r : LoopRow). r.offset) (get_or-map (row_through changes lines) rows k d d within)

rising_through : (changes : List Changed) (lines : ℕ) (rows : List LoopRow) → OffsetsRise rows → OffsetsRise (map (row_through changes lines) rows)
rising_through changes lines rows rising i j d earlier inside =
    let size = length-map rows (row_through changes lines) in
    omega (arith, mapped_at changes lines rows i d (omega (arith, size)), mapped_at changes lines rows j d (omega (arith, size)), rising i j d earlier (omega (arith, size)))

-- a new loop in what a segment of the second text stands for is one of an earlier line
earlier_held : (lines offset : ℕ) (segs : List Seg) → ((o : ℕ) → Contains segs (New o) → o < lines) → All (IsOfEarlier (lines + offset)) segs
earlier_held lines offset segs fits k d within = go (get_or segs k d) (Contains-get_or segs k d within)
  where
    go : (seg : Seg) → Contains segs seg → IsOfEarlier (lines + offset) seg
    go (Entry n) there = tt
    go (New o) there = omega (arith, fits o there)

-- the new loops of what each needle holds are of lines of the first text
abbrev HoldsEarlier : List Changed → ℕ → Type 0
HoldsEarlier changes lines = (n : Needle) (o : ℕ) → Contains (segments_on changes n) (New o) → o < lines

earlier_through : (changes : List Changed) (lines offset : ℕ) (segs : List Seg) → HoldsEarlier changes lines → All (IsOfEarlier offset) segs → All (IsOfEarlier (lines + offset)) (through changes lines segs)
earlier_through changes lines offset [] fits early = All-nil (IsOfEarlier (lines + offset))
earlier_through changes lines offset (Entry n ∷ segs) fits early =
    All-append (IsOfEarlier (lines + offset)) (segments_on changes n) (through changes lines segs) (earlier_held lines offset (segments_on changes n) (fits n))
    (earlier_through changes lines offset segs fits (All-tail (IsOfEarlier offset) (Entry n) segs early))
earlier_through changes lines offset (New o ∷ segs) fits early =
    let here : o < offset = All-head (IsOfEarlier offset) (New o) segs early in
    All-cons (IsOfEarlier (lines + offset)) (New (lines + o)) (through changes lines segs) (omega arith)
    (earlier_through changes lines offset segs fits (All-tail (IsOfEarlier offset) (New o) segs early))

row_of_both : (changes : List Changed) (lines count : ℕ) (row : LoopRow) → HoldsEarlier changes lines → IsRowOf count row → IsRowOf (lines + count) (row_through changes lines row)
row_of_both changes lines count row fits here = record {
  within = omega (arith, here.within);
  earlier = earlier_through changes lines row.offset row.through fits here.earlier;
}

within_both : (changes : List Changed) (lines count : ℕ) (rows : List LoopRow) → HoldsEarlier changes lines → All (IsRowOf count) rows → All (IsRowOf (lines + count)) (map (row_through changes lines) rows)
within_both changes lines count rows fits all =
    All-map (IsRowOf (lines + count)) (row_through changes lines) rows
    (All-weaker (IsRowOf count) (λ (row : LoopRow). IsRowOf (lines + count) (row_through changes lines row)) (λ row. row_of_both changes lines count row fits) rows all)

behind_all : (changes : List Changed) (lines : ℕ) (rows : List LoopRow) → All (λ (row : LoopRow). lines ≤ row.offset) (map (row_through changes lines) rows)
behind_all changes lines [] = All-nil (λ (row : LoopRow). lines ≤ row.offset)
behind_all changes lines (row ∷ rows) = All-cons (λ (x : LoopRow). lines ≤ x.offset) (row_through changes lines row) (map (row_through changes lines) rows) (omega arith) (behind_all changes lines rows)

-- the run of a second text, where the first one is carried out
run_on-ends : (k : ℕ) (b : Option Reason) (s u : State) (rest both target : Ended) → run_on k b s rest ≡ Ends u → (rest ≡ Ends u → both ≡ target) → run_on k b s both ≡ target
run_on-ends k None s u rest both target ends later = later ends
run_on-ends k (Some reason) s u rest both target ends later = absurd (cc)

run-goes_on : (profile : Profile) (s u : State) (k : ℕ) (xs ys : List Read) → run profile s k xs ≡ Ends u → run profile s k (xs ++ ys) ≡ run profile u (k + length xs) ys
run-goes_on profile s u k [] ys ends =
    let same : s ≡ u = cc in
    ap (λ t. run profile t k ys) same ∙ ap (λ n. run profile u n ys) (let e : k ≡ k + 0 = omega arith in e)
run-goes_on profile s u k (x ∷ xs) ys ends =
    run_on-ends k (broken profile x s) s u (run profile (step profile k x s) (k + 1) xs) (run profile (step profile k x s) (k + 1) (xs ++ ys)) (run profile u (k + length (x ∷ xs)) ys) ends
    (λ later. run-goes_on profile (step profile k x s) u (k + 1) xs ys later ∙ ap (λ n. run profile u n ys) (let e : k + 1 + length xs ≡ k + length (x ∷ xs) = omega arith in e))

-- the same where it stops
run_on-stops : (k : ℕ) (b : Option Reason) (s u : State) (fault : Fault) (rest both : Ended) → run_on k b s rest ≡ Stops u fault → (rest ≡ Stops u fault → both ≡ Stops u fault) → run_on k b s both ≡ Stops u fault
run_on-stops k None s u fault rest both stops later = later stops
run_on-stops k (Some reason) s u fault rest both stops later = stops

run-stays : (profile : Profile) (s u : State) (k : ℕ) (fault : Fault) (xs ys : List Read) → run profile s k xs ≡ Stops u fault → run profile s k (xs ++ ys) ≡ Stops u fault
run-stays profile s u k fault [] ys stops = absurd (cc)
run-stays profile s u k fault (x ∷ xs) ys stops =
    run_on-stops k (broken profile x s) s u fault (run profile (step profile k x s) (k + 1) xs) (run profile (step profile k x s) (k + 1) (xs ++ ys)) stops
    (run-stays profile (step profile k x s) u (k + 1) fault xs ys)

made_on-stops : (k : ℕ) (b : Option Reason) (s u : State) (fault : Fault) (rest : Ended) (fact : Option LoopFact) (both first : List LoopFact) → run_on k b s rest ≡ Stops u fault →
    (rest ≡ Stops u fault → both ≡ first) → made_on b fact both ≡ made_on b fact first
made_on-stops k None s u fault rest fact both first stops later = ap (λ facts. option_to_list fact ++ facts) (later stops)
made_on-stops k (Some reason) s u fault rest fact both first stops later = refl

loops-stay : (profile : Profile) (s u : State) (k : ℕ) (fault : Fault) (xs ys : List Read) → run profile s k xs ≡ Stops u fault → loops_made profile s k (xs ++ ys) ≡ loops_made profile s k xs
loops-stay profile s u k fault [] ys stops = absurd (cc)
loops-stay profile s u k fault (x ∷ xs) ys stops =
    made_on-stops k (broken profile x s) s u fault (run profile (step profile k x s) (k + 1) xs) (fact_made k x s) (loops_made profile (step profile k x s) (k + 1) (xs ++ ys)) (loops_made profile (step profile k x s) (k + 1) xs) stops
    (loops-stay profile (step profile k x s) u (k + 1) fault xs ys)

made_both : (profile : Profile) (summary : Summary) (rows more : List LoopRow) (xs ys : List Read) → StandsFor profile summary xs → TableStandsFor profile rows xs → TableStandsFor profile more ys →
    All (λ (row : LoopRow). row.offset < length xs) rows → (s : State) (first : ℕ) (ended : Ended) → run profile s first xs ≡ ended →
    loops_made profile s first (xs ++ ys) ≡ facts_of_rows s first (rows_run (run profile s first (xs ++ ys)) first (rows ++ map (row_through summary.changes (length xs)) more))
made_both profile summary rows more xs ys sums here there before s first (Ends t) ends =
    let later : List LoopRow = rows_run (run profile t (first + length xs) ys) (first + length xs) more in
    loops_made-append profile s t first xs ys ends
    ∙ ap₂ (λ (a b : List LoopFact). a ++ b)
    (here.made s first ∙ ap (λ ended. facts_of_rows s first (rows_run ended first rows)) ends)
    (there.made t (first + length xs) ∙ facts_through summary.changes (length xs) first s t later (ends_read profile summary xs sums s t first ends))
    ∙ sym (map-append (fact_of_row s first) rows (map (row_through summary.changes (length xs)) later))
    ∙ ap (facts_of_rows s first) (rows_run-both summary.changes first (length xs) (length ys) rows more (run profile t (first + length xs) ys) before (stops_among profile t (first + length xs) ys))
    ∙ ap (λ ended. facts_of_rows s first (rows_run ended first (rows ++ map (row_through summary.changes (length xs)) more))) (sym (run-goes_on profile s t first xs ys ends))
made_both profile summary rows more xs ys sums here there before s first (Stops t fault) stops =
    let among : StopsAmong first (length xs) (Stops t fault) = subst (StopsAmong first (length xs)) stops (stops_among profile s first xs) in
    let mapped : List LoopRow = map (row_through summary.changes (length xs)) more in
    loops-stay profile s t first fault xs ys stops
    ∙ here.made s first ∙ ap (λ ended. facts_of_rows s first (rows_run ended first rows)) stops
    ∙ ap (facts_of_rows s first)
    (sym (append-nil (rows_to first fault.line rows))
    ∙ ap (λ xs. rows_to first fault.line rows ++ xs) (sym (rows_to-behind summary.changes first (length xs) fault.line more (omega (arith, among.1))))
    ∙ sym (filter-append (λ (x : LoopRow). nat_lt (first + x.offset) fault.line) rows mapped))
    ∙ ap (λ ended. facts_of_rows s first (rows_run ended first (rows ++ mapped))) (sym (run-stays profile s t first fault xs ys stops))

-- The table of a text and another one behind it: the rows of the first, and those of the second read through the first.
pub table_both : (profile : Profile) (summary : Summary) (rows more : List LoopRow) (xs ys : List Read) → StandsFor profile summary xs → TableStandsFor profile rows xs → TableStandsFor profile more ys →
    ((n : Needle) (o : ℕ) → Contains (segments_on summary.changes n) (New o) → o < length xs) → TableStandsFor profile (rows ++ map (row_through summary.changes (length xs)) more) (xs ++ ys)
table_both profile summary rows more xs ys sums here there fits =
    let before : All (λ (row : LoopRow). row.offset < length xs) rows = All-weaker (IsRowOf (length xs)) (λ (row : LoopRow). row.offset < length xs) (λ row h. h.within) rows here.within in
    let count : length xs + length ys ≡ length (xs ++ ys) = sym (length-append xs ys) in
    let mapped : List LoopRow = map (row_through summary.changes (length xs)) more in
    record {
      rising = rising_append rows mapped (length xs) here.rising (rising_through summary.changes (length xs) more there.rising) before (behind_all summary.changes (length xs) more);
      within = subst (λ n. All (IsRowOf n) (rows ++ mapped)) count
          (All-append (IsRowOf (length xs + length ys)) rows mapped (All-weaker (IsRowOf (length xs)) (IsRowOf (length xs + length ys)) (λ row. within_wider (length xs) (length xs + length ys) row (omega arith)) rows here.within)
          (within_both summary.changes (length xs) (length ys) more fits there.within));
      made = λ s first. made_both profile summary rows more xs ys sums here there before s first (run profile s first xs) refl;
    }

-- The same rows may stand in a table.
pub is_table_both : (changes : List Changed) (lines : ℕ) (rows more : List LoopRow) → IsLoopTable rows → IsLoopTable more → All (λ (row : LoopRow). row.offset < lines) rows → length rows + length more ≤ 4096
    → IsLoopTable (rows ++ map (row_through changes lines) more)
is_table_both changes lines rows more first second before few =
    let mapped : List LoopRow = map (row_through changes lines) more in
    record {
      few = omega (arith, few, length-append rows mapped, length-map more (row_through changes lines));
      rising = rising_append rows mapped lines first.rising (rising_through changes lines more second.rising) before (behind_all changes lines more);
    }
