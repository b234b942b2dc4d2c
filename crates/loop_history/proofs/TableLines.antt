-- Tables of lines, as one line more comes behind them.
use Rattle.std.proofs.Common.{◌≡◌, ℕ, ◌+◌, ◌<◌, ◌≤◌, cond, nat_lt, List, [], ◌∷◌, ◌++◌, length, get_or, zero, suc, All, Option, Some, None, IfSome, refl, sym, ap, ◌∙◌, arith, length-append, append-nil, append_assoc, lt-ltb, subst}
use Rattle.std.specs.Prelude.{filter}
use Rattle.std.specs.Option.{option_map, option_to_list}
use Rattle.std.proofs.lemmas.Bool.{le-ltb}
use Rattle.std.proofs.lemmas.List.{map-append}
use Rattle.std.proofs.lemmas.List.Elements.{All-head, All-nil, All-push, All-tail, All-weaker, filter-append}
use Rattle.std.proofs.lemmas.List.Quantifiers.{all_pairs_push}
use Rattle.knit_base.specs.declared.instr.Read.{Read}
use Rattle.knit_base.specs.declared.profile.Profile.{Profile}
use Rattle.knit_base.specs.declared.rule.Fault.{Fault}
use Rattle.knit_base.specs.declared.rule.Reason.{Reason}
use Rattle.carriage_model.specs.declared.verdict.LoopFact.{LoopFact}
use Rattle.carriage_model.specs.Loops.{fact_made, loops_made, made_on}
use Rattle.carriage_model.specs.Rules.{broken}
use Rattle.carriage_model.specs.Run.{Ended, run, run_on}
use Rattle.carriage_model.specs.Run.Ended.{Ends, Stops}
use Rattle.carriage_model.specs.State.{State}
use Rattle.carriage_model.specs.Steps.{step}
use Rattle.carriage_model.proofs.CarriageRuns.{loops_more, loops-more, one_more, run-more}
use Rattle.face_data.specs.declared.face.Ending.TheVariants.{Through, Broken}
use Rattle.face_data.specs.Segments.{AreRead}
use Rattle.face_data.specs.Stands.{StandsFor, outcome_of_run}
use Rattle.face_data.specs.Summaries.{Summary, summary_outcome}
use Rattle.face_data.proofs.Stands.{ends_read, goes_through}
use Rattle.loop_history.specs.declared.row.LoopRow.{LoopRow}
use Rattle.loop_history.specs.Rows.{OffsetsRise, fact_of_row, facts_of_rows, rows_run}
use Rattle.loop_history.specs.Tables.{IsOfEarlier, IsRowOf, TableStandsFor}

-- a run of so many lines from line k on stops at one of them, if it stops
abbrev pub StopsAmong : ℕ → ℕ → Ended → Type 0
StopsAmong k lines (Ends s) = Unit {0}
StopsAmong k lines (Stops s fault) = (k ≤ fault.line) × (fault.line < k + lines)

stops_wider : (k less lines : ℕ) (ended : Ended) → less + 1 ≡ lines → StopsAmong (k + 1) less ended → StopsAmong k lines ended
stops_wider k less lines (Ends s) more among = tt
stops_wider k less lines (Stops s fault) more among = (omega (arith, among.0), omega (arith, among.1))

stops_on : (k less lines : ℕ) (b : Option Reason) (s : State) (rest : Ended) → less + 1 ≡ lines → StopsAmong (k + 1) less rest → StopsAmong k lines (run_on k b s rest)
stops_on k less lines None s rest more among = stops_wider k less lines rest more among
stops_on k less lines (Some reason) s rest more among = (omega arith, omega arith)

pub stops_among : (profile : Profile) (s : State) (k : ℕ) (rs : List Read) → StopsAmong k (length rs) (run profile s k rs)
stops_among profile s k [] = tt
stops_among profile s k (r ∷ rs) =
    stops_on k (length rs) (length (r ∷ rs)) (broken profile r s) s (run profile (step profile k r s) (k + 1) rs) (omega arith) (stops_among profile (step profile k r s) (k + 1) rs)

-- the rows of lines before one of this number
abbrev pub rows_to : ℕ → ℕ → List LoopRow → List LoopRow
rows_to first line rows = filter (λ (row : LoopRow). nat_lt (first + row.offset) line) rows

-- all rows are of lines before the one behind them
rows_to-all : (first lines : ℕ) (rows : List LoopRow) → All (λ (row : LoopRow). row.offset < lines) rows → rows_to first (first + lines) rows ≡ rows
rows_to-all first lines [] all = refl
rows_to-all first lines (row ∷ rows) all =
    let early : row.offset < lines = All-head (λ (x : LoopRow). x.offset < lines) row rows all in
    ap (λ b. cond b (row ∷ rows_to first (first + lines) rows) (rows_to first (first + lines) rows)) (lt-ltb (first + row.offset) (first + lines) (omega arith))
    ∙ ap (λ xs. row ∷ xs) (rows_to-all first lines rows (All-tail (λ (x : LoopRow). x.offset < lines) row rows all))

-- the row of a line isn't of a line before it
rows_to-last : (first line lines : ℕ) (row : Option LoopRow) → IfSome row (λ (x : LoopRow). x.offset ≡ lines) → line ≤ first + lines → rows_to first line (option_to_list row) ≡ []
rows_to-last first line lines None here before = refl
rows_to-last first line lines (Some row) here before =
    ap (λ b. cond b (row ∷ []) []) (le-ltb (first + row.offset) line (omega (arith, here)))

-- the loops of a row, if there is one
facts_of_option : (s : State) (first : ℕ) (row : Option LoopRow) → facts_of_rows s first (option_to_list row) ≡ option_to_list (option_map (fact_of_row s first) row)
facts_of_option s first None = refl
facts_of_option s first (Some row) = refl

-- the loops that one line more makes, where the line comes in a state
made_in_state : (profile : Profile) (rows : List LoopRow) (row : Option LoopRow) (lines first : ℕ) (r : Read) (s t : State) (b : Option Reason) (fact : Option LoopFact) (made : List LoopFact)
    → All (λ (x : LoopRow). x.offset < lines) rows → IfSome row (λ (x : LoopRow). x.offset ≡ lines) → made ≡ facts_of_rows s first rows
    → (b ≡ None → fact ≡ option_map (fact_of_row s first) row)
    → made ++ made_on b fact [] ≡ facts_of_rows s first (rows_run (run_on (first + lines) b t (Ends (step profile (first + lines) r t))) first (rows ++ option_to_list row))
made_in_state profile rows row lines first r s t None fact made all here is tells =
    ap (λ more. made ++ more) (append-nil (option_to_list fact) ∙ ap option_to_list (tells refl) ∙ sym (facts_of_option s first row))
    ∙ ap (λ xs. xs ++ facts_of_rows s first (option_to_list row)) is
    ∙ sym (map-append (fact_of_row s first) rows (option_to_list row))
made_in_state profile rows row lines first r s t (Some reason) fact made all here is tells =
    append-nil made ∙ is
    ∙ ap (facts_of_rows s first)
    (sym (append-nil rows)
    ∙ (λ i. sym (rows_to-all first lines rows all) i ++ sym (rows_to-last first (first + lines) lines row here (omega arith)) i)
    ∙ sym (filter-append (λ (x : LoopRow). nat_lt (first + x.offset) (first + lines)) rows (option_to_list row)))

-- the loops that one line more makes, however the run ended before it
made_more : (profile : Profile) (rows : List LoopRow) (row : Option LoopRow) (lines first : ℕ) (r : Read) (s : State) (ended : Ended) (made : List LoopFact)
    → All (λ (x : LoopRow). x.offset < lines) rows → IfSome row (λ (x : LoopRow). x.offset ≡ lines) → StopsAmong first lines ended
    → made ≡ facts_of_rows s first (rows_run ended first rows)
    → ((t : State) → ended ≡ Ends t → broken profile r t ≡ None → fact_made (first + lines) r t ≡ option_map (fact_of_row s first) row)
    → made ++ loops_more profile (first + lines) r ended ≡ facts_of_rows s first (rows_run (one_more profile (first + lines) r ended) first (rows ++ option_to_list row))
made_more profile rows row lines first r s (Ends t) made all here among is tells =
    made_in_state profile rows row lines first r s t (broken profile r t) (fact_made (first + lines) r t) made all here is (tells t refl)
made_more profile rows row lines first r s (Stops t fault) made all here among is tells =
    append-nil made ∙ is
    ∙ ap (facts_of_rows s first)
    (sym (append-nil (rows_to first fault.line rows))
    ∙ ap (λ xs. rows_to first fault.line rows ++ xs) (sym (rows_to-last first fault.line lines row here (omega (arith, among.1))))
    ∙ sym (filter-append (λ (x : LoopRow). nat_lt (first + x.offset) fault.line) rows (option_to_list row)))

-- No line makes no loop.
pub table_none : (profile : Profile) → TableStandsFor profile [] []
table_none profile = record {
  rising = λ i j d before within. absurd (omega arith);
  within = All-nil (IsRowOf 0);
  made = λ s first. refl;
}

-- the row of a line behind so many others, which is drawn through loops of these
pub record IsRowAt (lines : ℕ) (row : LoopRow) : Type 0 where
  pub at : row.offset ≡ lines
  pub earlier : All (IsOfEarlier lines) row.through

row_within : (lines : ℕ) (row : LoopRow) → IsRowAt lines row → IsRowOf (lines + 1) row
row_within lines row here = record {
  within = omega (arith, here.at);
  earlier = subst (λ n. All (IsOfEarlier n) row.through) (sym here.at) here.earlier;
}

-- a row of some lines is one of these and others
pub within_wider : (lines more : ℕ) (row : LoopRow) → lines ≤ more → IsRowOf lines row → IsRowOf more row
within_wider lines more row wider here = record { within = omega (arith, here.within); earlier = here.earlier }

row_placed : (lines : ℕ) (row : Option LoopRow) → IfSome row (IsRowAt lines) → IfSome row (λ (x : LoopRow). x.offset ≡ lines)
row_placed lines None here = tt
row_placed lines (Some row) here = here.at

rising_more : (lines : ℕ) (rows : List LoopRow) (row : Option LoopRow) → OffsetsRise rows → All (IsRowOf lines) rows → IfSome row (IsRowAt lines) → OffsetsRise (rows ++ option_to_list row)
rising_more lines rows None rising within here = subst OffsetsRise (sym (append-nil rows)) rising
rising_more lines rows (Some row) rising within here =
    all_pairs_push (λ (x y : LoopRow). x.offset < y.offset) rows row rising (λ k d below. omega (arith, (within k d below).within, here.at))

within_more : (lines : ℕ) (rows : List LoopRow) (row : Option LoopRow) → All (IsRowOf lines) rows → IfSome row (IsRowAt lines) → All (IsRowOf (lines + 1)) (rows ++ option_to_list row)
within_more lines rows None within here = subst (All (IsRowOf (lines + 1))) (sym (append-nil rows)) (All-weaker (IsRowOf lines) (IsRowOf (lines + 1)) (λ x. within_wider lines (lines + 1) x (omega arith)) rows within)
within_more lines rows (Some row) within here =
    All-push (IsRowOf (lines + 1)) rows row (All-weaker (IsRowOf lines) (IsRowOf (lines + 1)) (λ x. within_wider lines (lines + 1) x (omega arith)) rows within) (row_within lines row here)

-- The table of one line more, which makes the loop of this row wherever the lines before it are carried out and it breaks no rule.
pub table_more : (profile : Profile) (rows : List LoopRow) (lines : List Read) (r : Read) (row : Option LoopRow) → TableStandsFor profile rows lines
    → IfSome row (IsRowAt (length lines))
    → ((s t : State) (first : ℕ) → run profile s first lines ≡ Ends t → broken profile r t ≡ None → fact_made (first + length lines) r t ≡ option_map (fact_of_row s first) row)
    → TableStandsFor profile (rows ++ option_to_list row) (lines ++ r ∷ [])
table_more profile rows lines r row stands here tells = record {
  rising = rising_more (length lines) rows row stands.rising stands.within here;
  within = subst (λ n. All (IsRowOf n) (rows ++ option_to_list row)) (sym (length-append lines (r ∷ []))) (within_more (length lines) rows row stands.within here);
  made = λ s first.
      loops-more profile s first lines r
      ∙ made_more profile rows row (length lines) first r s (run profile s first lines) (loops_made profile s first lines)
      (All-weaker (IsRowOf (length lines)) (λ (x : LoopRow). x.offset < length lines) (λ x h. h.within) rows stands.within)
      (row_placed (length lines) row here) (stops_among profile s first lines) (stands.made s first) (λ t. tells s t first)
      ∙ ap (λ ended. facts_of_rows s first (rows_run ended first (rows ++ option_to_list row))) (sym (run-more profile s first lines r));
}

-- The same where a summary stands for the lines before: it is enough that the row is right in each state whose needles hold what the summary says.
pub table_read : (profile : Profile) (summary : Summary) (rows : List LoopRow) (lines : List Read) (r : Read) (row : Option LoopRow) → StandsFor profile summary lines
    → TableStandsFor profile rows lines → IfSome row (IsRowAt (length lines))
    → ((s t : State) (first : ℕ) → AreRead summary.changes s first t.stacks → broken profile r t ≡ None → fact_made (first + length lines) r t ≡ option_map (fact_of_row s first) row)
    → TableStandsFor profile (rows ++ option_to_list row) (lines ++ r ∷ [])
table_read profile summary rows lines r row sums stands here tells =
    table_more profile rows lines r row stands here (λ s t first ends. tells s t first (ends_read profile summary lines sums s t first ends))

-- the run stopped
abbrev pub HasStopped : Ended → Type 0
HasStopped (Ends s) = ⊥
HasStopped (Stops s fault) = Unit {0}

stopped_ends : (ended : Ended) (t : State) → HasStopped ended → ended ≡ Ends t → ⊥
stopped_ends ended t stopped ends = subst HasStopped ends stopped

stopped_more : (profile : Profile) (k : ℕ) (r : Read) (ended : Ended) → HasStopped ended → HasStopped (one_more profile k r ended)
stopped_more profile k r (Ends s) stopped = absurd stopped
stopped_more profile k r (Stops s fault) stopped = tt

-- The table of lines that stop in every state stands for whatever comes behind them.
pub table_stopped : (profile : Profile) (rows : List LoopRow) (lines more : List Read) → TableStandsFor profile rows lines → ((s : State) (first : ℕ) → HasStopped (run profile s first lines))
    → TableStandsFor profile rows (lines ++ more)
table_stopped profile rows lines [] stands stopped = subst (TableStandsFor profile rows) (sym (append-nil lines)) stands
table_stopped profile rows lines (r ∷ more) stands stopped =
    let one : TableStandsFor profile (rows ++ []) (lines ++ r ∷ []) =
    table_more profile rows lines r None stands tt (λ s t first ends sound. absurd (stopped_ends (run profile s first lines) t (stopped s first) ends)) in
    subst (TableStandsFor profile rows) (append_assoc lines (r ∷ []) more)
    (table_stopped profile rows (lines ++ r ∷ []) more (subst (λ xs. TableStandsFor profile xs (lines ++ r ∷ [])) (append-nil rows) one)
    (λ s first. subst HasStopped (sym (run-more profile s first lines r)) (stopped_more profile (first + length lines) r (run profile s first lines) (stopped s first))))

-- lines whose summary ends broken stop in every state
pub broken_stops : (profile : Profile) (summary : Summary) (lines : List Read) (fault : Fault) → StandsFor profile summary lines → summary.ending ≡ Broken fault →
    (s : State) (first : ℕ) → HasStopped (run profile s first lines)
broken_stops profile summary lines fault sums broke s first = go (run profile s first lines) (sums.outcome s first)
  where
    go : (ended : Ended) → summary_outcome summary s first ≡ outcome_of_run ended → HasStopped ended
    go (Ends t) goes =
        let through = goes_through summary s t first goes in
        let same : Broken fault ≡ Through through.0 = sym broke ∙ through.1 in
        absurd (cc)
    go (Stops t fault) stops = tt

offset_at : (rows : List LoopRow) (i : ℕ) (d : LoopRow) → OffsetsRise rows → i < length rows → i ≤ (get_or rows i d).offset
offset_at rows zero d rising within = omega arith
offset_at rows (suc i) d rising within = omega (arith, offset_at rows i d rising (omega (arith, within)), rising i (suc i) d (omega arith) within)

-- There are no more rows than lines.
pub rows_few : (lines : ℕ) (rows : List LoopRow) → OffsetsRise rows → All (IsRowOf lines) rows → length rows ≤ lines
rows_few lines [] rising within = omega arith
rows_few lines (row ∷ rows) rising within =
    omega (arith, offset_at (row ∷ rows) (length rows) row rising (omega arith), (within (length rows) row (omega arith)).within)
