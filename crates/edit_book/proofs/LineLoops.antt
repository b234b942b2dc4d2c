-- The loop of one line, among those of all blocks.
use Rattle.std.proofs.Common.{◌≡◌, ℕ, suc, ◌+◌, ◌-◌, ◌<◌, ◌≤◌, Bool, true, false, cond, not, nat_lt, ◌==◌, List, [], ◌∷◌, ◌++◌, length, take, position, Option, Some, None, IfSome, unwrap_or, sym, subst, ap, ◌∙◌, refl, length-append, one-add, arith}
use Rattle.std.specs.Prelude.{filter}
use Rattle.std.specs.List.{AllZip, position_or_len, slice_get}
use Rattle.std.specs.Option.{option_map}
use Rattle.std.proofs.lemmas.Bool.{eqb-true, eqb-false, eq-eqb, ne_eqb, leb-true, leb-false, ltb-true, ltb-false}
use Rattle.std.proofs.lemmas.Option.{slice_get_past}
use Rattle.knit_base.specs.declared.instr.Read.{Read}
use Rattle.knit_base.specs.declared.profile.Profile.{Profile}
use Rattle.knit_base.specs.declared.rule.Fault.{Fault}
use Rattle.knit_base.specs.declared.rule.Reason.{Reason}
use Rattle.carriage_model.specs.declared.verdict.LoopFact.{LoopFact}
use Rattle.carriage_model.specs.Loops.{fact_made, fact_of, loops_made, made_on}
use Rattle.carriage_model.specs.Rules.{broken}
use Rattle.carriage_model.specs.Run.{Ended, run, run_on}
use Rattle.carriage_model.specs.Run.Ended.{Ends, Stops}
use Rattle.carriage_model.specs.State.{State}
use Rattle.carriage_model.specs.Steps.{step}
use Rattle.carriage_model.proofs.LoopOfLine.{IsOfLine, fact_made-line, later_lines, made_on-other, other_line}
use Rattle.face_data.specs.Composition.{and_then}
use Rattle.face_data.specs.Stands.{StandsFor, outcome_of_run}
use Rattle.face_data.specs.Summaries.{Outcome, summary_outcome}
use Rattle.face_data.specs.Summaries.Outcome.{went_on}
use Rattle.face_data.proofs.Stands.{loops_made-append}
use Rattle.loop_history.specs.declared.row.LoopRow.{LoopRow}
use Rattle.loop_history.specs.Rows.{fact_of_row, facts_of_rows, rows_run}
use Rattle.loop_history.specs.Tables.{TableStandsFor}
use Rattle.loop_history.proofs.TableLines.{StopsAmong, stops_among}
use Rattle.value_tree.specs.Found.{found_in, place_further}
use Rattle.edit_book.specs.Entered.{stops_by}
use Rattle.edit_book.proofs.Puts.{first_place}
use Rattle.summary_tree.specs.Leaves.{EachStandsFor, Leaf, all_lines, applied_each, leaf_lines, place_of_line}

-- the run doesn't stop at this line or before it
abbrev pub GoesPast : ℕ → Ended → Type 0
GoesPast line (Ends s) = Unit {0}
GoesPast line (Stops s fault) = line < fault.line

-- how a run goes on behind lines that are carried out
goes_on : (k : ℕ) (o : Option Reason) (s u : State) (rest both after : Ended) → run_on k o s rest ≡ Ends u → (rest ≡ Ends u → both ≡ after) → run_on k o s both ≡ after
goes_on k None s u rest both after ends later = later ends
goes_on k (Some reason) s u rest both after ends later = absurd (cc)

pub run_ends : (profile : Profile) (s u : State) (k : ℕ) (xs ys : List Read) → run profile s k xs ≡ Ends u → run profile s k (xs ++ ys) ≡ run profile u (k + length xs) ys
run_ends profile s u k [] ys ends =
    let same : s ≡ u = cc in
    ap (λ t. run profile t k ys) same ∙ ap (λ n. run profile u n ys) (let e : k ≡ k + 0 = omega arith in e)
run_ends profile s u k (x ∷ xs) ys ends =
    goes_on k (broken profile x s) s u (run profile (step profile k x s) (k + 1) xs) (run profile (step profile k x s) (k + 1) (xs ++ ys)) (run profile u (k + length (x ∷ xs)) ys) ends
    (λ later. run_ends profile (step profile k x s) u (k + 1) xs ys later ∙ ap (λ n. run profile u n ys) (let e : k + 1 + length xs ≡ k + length (x ∷ xs) = omega arith in e))

stays : (k : ℕ) (o : Option Reason) (s u : State) (fault : Fault) (rest both : Ended) → run_on k o s rest ≡ Stops u fault → (rest ≡ Stops u fault → both ≡ Stops u fault) → run_on k o s both ≡ Stops u fault
stays k None s u fault rest both stops later = later stops
stays k (Some reason) s u fault rest both stops later = stops

pub run_stops : (profile : Profile) (s u : State) (fault : Fault) (k : ℕ) (xs ys : List Read) → run profile s k xs ≡ Stops u fault → run profile s k (xs ++ ys) ≡ Stops u fault
run_stops profile s u fault k [] ys stops = absurd (cc)
run_stops profile s u fault k (x ∷ xs) ys stops =
    stays k (broken profile x s) s u fault (run profile (step profile k x s) (k + 1) xs) (run profile (step profile k x s) (k + 1) (xs ++ ys)) stops (λ later. run_stops profile (step profile k x s) u fault (k + 1) xs ys later)

-- no line behind the fault makes a loop
made_stays : (k : ℕ) (o : Option Reason) (s u : State) (fault : Fault) (rest : Ended) (fact : Option LoopFact) (made both : List LoopFact) → run_on k o s rest ≡ Stops u fault
    → (rest ≡ Stops u fault → both ≡ made) → made_on o fact both ≡ made_on o fact made
made_stays k None s u fault rest fact made both stops later = ap (made_on None fact) (later stops)
made_stays k (Some reason) s u fault rest fact made both stops later = refl

pub loops_stop : (profile : Profile) (s u : State) (fault : Fault) (k : ℕ) (xs ys : List Read) → run profile s k xs ≡ Stops u fault → loops_made profile s k (xs ++ ys) ≡ loops_made profile s k xs
loops_stop profile s u fault k [] ys stops = absurd (cc)
loops_stop profile s u fault k (x ∷ xs) ys stops =
    made_stays k (broken profile x s) s u fault (run profile (step profile k x s) (k + 1) xs) (fact_made k x s) (loops_made profile (step profile k x s) (k + 1) xs) (loops_made profile (step profile k x s) (k + 1) (xs ++ ys)) stops
    (λ later. loops_stop profile (step profile k x s) u fault (k + 1) xs ys later)

-- the loop of a line among those of two texts
among_both : (line : ℕ) (first second : List LoopFact) → fact_of line second ≡ None → fact_of line (first ++ second) ≡ fact_of line first
among_both line [] second none = none
among_both line (f ∷ first) second none = ap (λ (o : Option LoopFact). cond (f.line == line) (Some f) o) (among_both line first second none)

among_second : (line : ℕ) (first second : List LoopFact) → fact_of line first ≡ None → fact_of line (first ++ second) ≡ fact_of line second
among_second line [] second none = refl
among_second line (f ∷ first) second none = go (f.line == line) none (among_second line first second)
  where
    go : (t : Bool) → cond t (Some f) (fact_of line first) ≡ None → (fact_of line first ≡ None → fact_of line (first ++ second) ≡ fact_of line second)
        → cond t (Some f) (fact_of line (first ++ second)) ≡ fact_of line second
    go true none rest = absurd (cc)
    go false none rest = rest none

-- earlier lines make no loop of this line, nor do later ones (`later_lines`)
pub behind_lines : (profile : Profile) (s : State) (k line : ℕ) (rs : List Read) → k + length rs ≤ line → fact_of line (loops_made profile s k rs) ≡ None
behind_lines profile s k line [] late = refl
behind_lines profile s k line (r ∷ rs) late =
    made_on-other k line (broken profile r s) (fact_made k r s) (loops_made profile (step profile k r s) (k + 1) rs) (fact_made-line k r s) (λ e. omega arith) (behind_lines profile (step profile k r s) (k + 1) line rs (omega arith))

-- nor does a line at the fault or behind it
faulted_at : (k line : ℕ) (o : Option Reason) (s u : State) (fault : Fault) (rest : Ended) (fact : Option LoopFact) (later : List LoopFact) → IfSome fact (IsOfLine k) → run_on k o s rest ≡ Stops u fault
    → fault.line ≤ line → (rest ≡ Stops u fault → (k + 1 ≤ fault.line) × (fact_of line later ≡ None)) → fact_of line (made_on o fact later) ≡ None
faulted_at k line None s u fault rest fact later named stops late rest_is =
    let r = rest_is stops in
    other_line k line fact later named (λ e. omega (arith, e, r.0)) ∙ r.1
faulted_at k line (Some reason) s u fault rest fact later named stops late rest_is = refl

pub behind_fault : (profile : Profile) (s u : State) (fault : Fault) (k line : ℕ) (rs : List Read) → run profile s k rs ≡ Stops u fault → fault.line ≤ line → fact_of line (loops_made profile s k rs) ≡ None
behind_fault profile s u fault k line [] stops late = refl
behind_fault profile s u fault k line (r ∷ rs) stops late =
    faulted_at k line (broken profile r s) s u fault (run profile (step profile k r s) (k + 1) rs) (fact_made k r s) (loops_made profile (step profile k r s) (k + 1) rs) (fact_made-line k r s) stops late
    (λ rest. (
      (subst (StopsAmong (k + 1) (length rs)) rest (stops_among profile (step profile k r s) (k + 1) rs)).0,
      behind_fault profile (step profile k r s) u fault (k + 1) line rs rest late,
    ))

-- the block in which a line stands, and the state in which it begins
pub record BeginsIn (profile : Profile) (leaves : List Leaf) (s : State) (first offset at within : ℕ) (made : List LoopFact) : Type 0 where
  pub leaf : Leaf
  pub there : slice_get leaves at ≡ Some leaf
  pub reads : List Read
  pub table : TableStandsFor profile leaf.1 reads
  pub state : State
  pub behind : applied_each (take at leaves) s first ≡ went_on state
  pub place : within ≤ offset
  pub inside : within < length reads
  pub goes : GoesPast (first + offset) (run profile state (first + (offset - within)) reads)
  pub told : fact_of (first + offset) made ≡ fact_of (first + offset) (loops_made profile state (first + (offset - within)) reads)

-- the line's block is the first
begins_here : (profile : Profile) (l : Leaf) (leaves : List Leaf) (xs ys : List Read) (s : State) (first offset : ℕ) → StandsFor profile l.0 xs → TableStandsFor profile l.1 xs → offset < length xs
    → GoesPast (first + offset) (run profile s first (xs ++ ys)) → BeginsIn profile (l ∷ leaves) s first offset 0 offset (loops_made profile s first (xs ++ ys))
begins_here profile l leaves xs ys s first offset stands table early goes = go (run profile s first xs) refl
  where
    none : first ≡ first + (offset - offset)
    none = omega arith

    result : GoesPast (first + offset) (run profile s first xs) → fact_of (first + offset) (loops_made profile s first (xs ++ ys)) ≡ fact_of (first + offset) (loops_made profile s first xs)
        → BeginsIn profile (l ∷ leaves) s first offset 0 offset (loops_made profile s first (xs ++ ys))
    result past told = record {
      leaf = l;
      there = refl;
      reads = xs;
      table = table;
      state = s;
      behind = refl;
      place = omega arith;
      inside = early;
      goes = subst (GoesPast (first + offset)) (ap (λ n. run profile s n xs) none) past;
      told = told ∙ ap (λ n. fact_of (first + offset) (loops_made profile s n xs)) none;
    }

    go : (ended : Ended) → run profile s first xs ≡ ended → BeginsIn profile (l ∷ leaves) s first offset 0 offset (loops_made profile s first (xs ++ ys))
    go (Ends u) is =
        result (subst (GoesPast (first + offset)) (sym is) tt)
        (ap (fact_of (first + offset)) (loops_made-append profile s u first xs ys is)
        ∙ among_both (first + offset) (loops_made profile s first xs) (loops_made profile u (first + length xs) ys) (later_lines profile u (first + length xs) (first + offset) ys (omega (arith, early))))
    go (Stops u fault) is =
        result (subst (GoesPast (first + offset)) (run_stops profile s u fault first xs ys is ∙ sym is) goes)
        (ap (fact_of (first + offset)) (loops_stop profile s u fault first xs ys is))

-- the block's own lines aren't the one
begins_later : (profile : Profile) (l : Leaf) (leaves : List Leaf) (xs ys : List Read) (s : State) (first offset at within : ℕ) → StandsFor profile l.0 xs → length xs ≤ offset
    → GoesPast (first + offset) (run profile s first (xs ++ ys))
    → ((u : State) → GoesPast (first + length xs + (offset - length xs)) (run profile u (first + length xs) ys)
    → BeginsIn profile leaves u (first + length xs) (offset - length xs) at within (loops_made profile u (first + length xs) ys))
    → BeginsIn profile (l ∷ leaves) s first offset (suc at) within (loops_made profile s first (xs ++ ys))
begins_later profile l leaves xs ys s first offset at within stands late goes rest = go (run profile s first xs) refl
  where
    same : first + length xs + (offset - length xs) ≡ first + offset
    same = omega (arith, late)

    go : (ended : Ended) → run profile s first xs ≡ ended → BeginsIn profile (l ∷ leaves) s first offset (suc at) within (loops_made profile s first (xs ++ ys))
    go (Stops u fault) is =
        let among : StopsAmong first (length xs) (Stops u fault) = subst (StopsAmong first (length xs)) is (stops_among profile s first xs) in
        let past : first + offset < fault.line = subst (GoesPast (first + offset)) (run_stops profile s u fault first xs ys is) goes in
        absurd (omega (arith, among.1, past, late))
    go (Ends u) is =
        let here = rest u (subst (λ n. GoesPast n (run profile u (first + length xs) ys)) (sym same) (subst (GoesPast (first + offset)) (run_ends profile s u first xs ys is) goes)) in
        let line : first + length xs + (offset - length xs - within) ≡ first + (offset - within) = omega (arith, here.place, late) in
        record {
          leaf = here.leaf;
          there = here.there;
          reads = here.reads;
          table = here.table;
          state = here.state;
          behind =
              ap (λ (o : Outcome). and_then o (λ t. applied_each (take at leaves) t (first + l.0.lines))) (stands.outcome s first ∙ ap outcome_of_run is)
              ∙ ap (λ n. applied_each (take at leaves) u (first + n)) stands.lines_are
              ∙ here.behind;
          place = omega (arith, here.place, late);
          inside = here.inside;
          goes = subst (λ n. GoesPast n (run profile here.state (first + (offset - within)) here.reads)) same
              (subst (λ n. GoesPast (first + length xs + (offset - length xs)) (run profile here.state n here.reads)) line here.goes);
          told =
              ap (fact_of (first + offset)) (loops_made-append profile s u first xs ys is)
              ∙ among_second (first + offset) (loops_made profile s first xs) (loops_made profile u (first + length xs) ys) (behind_lines profile s first (first + offset) xs (omega (arith, late)))
              ∙ ap (λ n. fact_of n (loops_made profile u (first + length xs) ys)) (sym same)
              ∙ here.told
              ∙ ap (λ n. fact_of n (loops_made profile here.state (first + length xs + (offset - length xs - within)) here.reads)) same
              ∙ ap (λ n. fact_of (first + offset) (loops_made profile here.state n here.reads)) line;
        }

pub begins_in : (profile : Profile) (leaves : List Leaf) (blocks : List (List Read)) (s : State) (first offset at within : ℕ) → EachStandsFor profile leaves blocks
    → AllZip (λ (leaf : Leaf) (reads : List Read). TableStandsFor profile leaf.1 reads) leaves blocks → place_of_line leaves offset ≡ Some (at, within) → GoesPast (first + offset) (run profile s first (all_lines blocks))
    → BeginsIn profile leaves s first offset at within (loops_made profile s first (all_lines blocks))
begins_in profile [] blocks s first offset at within stand tables found goes = absurd (cc)
begins_in profile (l ∷ leaves) [] s first offset at within stand tables found goes = absurd stand
begins_in profile (l ∷ leaves) (xs ∷ blocks) s first offset at within stand tables found goes =
    go (nat_lt offset (leaf_lines l)) refl (found_in leaf_lines leaves (offset - leaf_lines l)) refl found
    (λ u k there past. begins_in profile leaves blocks u (first + length xs) (offset - length xs) k within stand.1 tables.1 there past)
  where
    own : leaf_lines l ≡ length xs
    own = stand.0.lines_are

    go : (t : Bool) → nat_lt offset (leaf_lines l) ≡ t → (o : Option (ℕ × ℕ)) → found_in leaf_lines leaves (offset - leaf_lines l) ≡ o → cond t (Some (0, offset)) (place_further 1 o) ≡ Some (at, within)
        → ((u : State) (k : ℕ) → found_in leaf_lines leaves (offset - length xs) ≡ Some (k, within) → GoesPast (first + length xs + (offset - length xs)) (run profile u (first + length xs) (all_lines blocks))
        → BeginsIn profile leaves u (first + length xs) (offset - length xs) k within (loops_made profile u (first + length xs) (all_lines blocks)))
        → BeginsIn profile (l ∷ leaves) s first offset at within (loops_made profile s first (xs ++ all_lines blocks))
    go true is o there e rest =
        let first_place : 0 ≡ at = ap (λ (x : Option (ℕ × ℕ)). (unwrap_or x (0, 0)).0) e in
        let same : offset ≡ within = ap (λ (x : Option (ℕ × ℕ)). (unwrap_or x (0, 0)).1) e in
        subst (λ (p : ℕ × ℕ). BeginsIn profile (l ∷ leaves) s first offset p.0 p.1 (loops_made profile s first (xs ++ all_lines blocks))) (λ i. (first_place i, same i))
        (begins_here profile l leaves xs (all_lines blocks) s first offset stand.0 tables.0 (omega (arith, ltb-true offset (leaf_lines l) is, own)) goes)
    go false is None there e rest = absurd (cc)
    go false is (Some p) there e rest =
        let place : 1 + p.0 ≡ at = ap (λ (x : Option (ℕ × ℕ)). (unwrap_or x (0, 0)).0) e in
        let same : p.1 ≡ within = ap (λ (x : Option (ℕ × ℕ)). (unwrap_or x (0, 0)).1) e in
        let found_there : found_in leaf_lines leaves (offset - length xs) ≡ Some (p.0, within) =
        ap (λ n. found_in leaf_lines leaves (offset - n)) (sym own) ∙ there ∙ ap (λ (n : ℕ). let q : ℕ × ℕ = (p.0, n) in Some q) same in
        subst (λ n. BeginsIn profile (l ∷ leaves) s first offset n within (loops_made profile s first (xs ++ all_lines blocks))) (let e2 : suc p.0 ≡ at = omega (arith, place) in e2)
        (begins_later profile l leaves xs (all_lines blocks) s first offset p.0 within stand.0 (omega (arith, ltb-false offset (leaf_lines l) is, own)) goes (λ u past. rest u p.0 found_there past))

-- no block has the line
pub in_no_block : (profile : Profile) (leaves : List Leaf) (blocks : List (List Read)) (offset : ℕ) → EachStandsFor profile leaves blocks → place_of_line leaves offset ≡ None → length (all_lines blocks) ≤ offset
in_no_block profile [] [] offset stand found = omega arith
in_no_block profile [] (xs ∷ blocks) offset stand found = absurd stand
in_no_block profile (l ∷ leaves) [] offset stand found = absurd stand
in_no_block profile (l ∷ leaves) (xs ∷ blocks) offset stand found =
    go (nat_lt offset (leaf_lines l)) refl (found_in leaf_lines leaves (offset - leaf_lines l)) refl found (in_no_block profile leaves blocks (offset - leaf_lines l) stand.1)
  where
    own : leaf_lines l ≡ length xs
    own = stand.0.lines_are

    go : (t : Bool) → nat_lt offset (leaf_lines l) ≡ t → (o : Option (ℕ × ℕ)) → found_in leaf_lines leaves (offset - leaf_lines l) ≡ o → cond t (Some (0, offset)) (place_further 1 o) ≡ None
        → (found_in leaf_lines leaves (offset - leaf_lines l) ≡ None → length (all_lines blocks) ≤ offset - leaf_lines l) → length (xs ++ all_lines blocks) ≤ offset
    go true is o there e rest = absurd (cc)
    go false is None there e rest = omega (arith, rest there, ltb-false offset (leaf_lines l) is, own, length-append xs (all_lines blocks))
    go false is (Some p) there e rest = absurd (cc)

-- what the leaves do is what the lines of their blocks do
pub each_runs : (profile : Profile) (leaves : List Leaf) (blocks : List (List Read)) (s : State) (first : ℕ) → EachStandsFor profile leaves blocks
    → applied_each leaves s first ≡ outcome_of_run (run profile s first (all_lines blocks))
each_runs profile [] [] s first stand = refl
each_runs profile [] (xs ∷ blocks) s first stand = absurd stand
each_runs profile (l ∷ leaves) [] s first stand = absurd stand
each_runs profile (l ∷ leaves) (xs ∷ blocks) s first stand = go (run profile s first xs) refl (λ u. each_runs profile leaves blocks u (first + length xs) stand.1)
  where
    go : (ended : Ended) → run profile s first xs ≡ ended → ((u : State) → applied_each leaves u (first + length xs) ≡ outcome_of_run (run profile u (first + length xs) (all_lines blocks)))
        → and_then (summary_outcome l.0 s first) (λ t. applied_each leaves t (first + l.0.lines)) ≡ outcome_of_run (run profile s first (xs ++ all_lines blocks))
    go (Ends u) is rest =
        ap (λ (o : Outcome). and_then o (λ t. applied_each leaves t (first + l.0.lines))) (stand.0.outcome s first ∙ ap outcome_of_run is)
        ∙ ap (λ n. applied_each leaves u (first + n)) stand.0.lines_are
        ∙ rest u
        ∙ ap outcome_of_run (sym (run_ends profile s u first xs (all_lines blocks) is))
    go (Stops u fault) is rest =
        ap (λ (o : Outcome). and_then o (λ t. applied_each leaves t (first + l.0.lines))) (stand.0.outcome s first ∙ ap outcome_of_run is)
        ∙ ap outcome_of_run (sym (run_stops profile s u fault first xs (all_lines blocks) is))

-- whether they stop by a line
pub past_stop : (line : ℕ) (ended : Ended) → stops_by line (outcome_of_run ended) ≡ false → GoesPast line ended
past_stop line (Ends s) is = tt
past_stop line (Stops s fault) is = leb-false fault.line line is

pub at_stop : (profile : Profile) (s : State) (k line : ℕ) (rs : List Read) → stops_by line (outcome_of_run (run profile s k rs)) ≡ true → fact_of line (loops_made profile s k rs) ≡ None
at_stop profile s k line rs is = go (run profile s k rs) refl is
  where
    go : (ended : Ended) → run profile s k rs ≡ ended → stops_by line (outcome_of_run ended) ≡ true → fact_of line (loops_made profile s k rs) ≡ None
    go (Ends u) ends is = absurd (cc)
    go (Stops u fault) stops is = behind_fault profile s u fault k line rs stops (leb-true fault.line line is)

-- the rows that a fault behind the line leaves out are of other lines
kept_rows : (s : State) (first within stop : ℕ) (rows : List LoopRow) → first + within < stop
    → fact_of (first + within) (facts_of_rows s first (filter (λ (row : LoopRow). nat_lt (first + row.offset) stop) rows)) ≡ fact_of (first + within) (facts_of_rows s first rows)
kept_rows s first within stop [] early = refl
kept_rows s first within stop (row ∷ rows) early = go (nat_lt (first + row.offset) stop) refl (kept_rows s first within stop rows early)
  where
    go : (t : Bool) → nat_lt (first + row.offset) stop ≡ t
        → fact_of (first + within) (facts_of_rows s first (filter (λ (x : LoopRow). nat_lt (first + x.offset) stop) rows)) ≡ fact_of (first + within) (facts_of_rows s first rows)
        → fact_of (first + within) (facts_of_rows s first (cond t (row ∷ filter (λ (x : LoopRow). nat_lt (first + x.offset) stop) rows) (filter (λ (x : LoopRow). nat_lt (first + x.offset) stop) rows)))
        ≡ cond (first + row.offset == first + within) (Some (fact_of_row s first row)) (fact_of (first + within) (facts_of_rows s first rows))
    go true is rest = ap (λ (o : Option LoopFact). cond (first + row.offset == first + within) (Some (fact_of_row s first row)) o) rest
    go false is rest =
        rest ∙ sym (ap (λ (t : Bool). cond t (Some (fact_of_row s first row)) (fact_of (first + within) (facts_of_rows s first rows)))
        (ne_eqb (first + row.offset) (first + within) (λ e. omega (arith, e, early, ltb-false (first + row.offset) stop is))))

abbrev pub at_offset : ℕ → LoopRow → Bool
at_offset within row = row.offset == within

-- the row of the line is the first with its offset
row_first : (s : State) (first within : ℕ) (rows : List LoopRow)
    → fact_of (first + within) (facts_of_rows s first rows) ≡ option_map (fact_of_row s first) (slice_get rows (position_or_len (at_offset within) rows))
row_first s first within [] = refl
row_first s first within (row ∷ rows) = go (row.offset == within) refl (row_first s first within rows)
  where
    go : (t : Bool) → (row.offset == within) ≡ t → fact_of (first + within) (facts_of_rows s first rows) ≡ option_map (fact_of_row s first) (slice_get rows (position_or_len (at_offset within) rows))
        → cond (first + row.offset == first + within) (Some (fact_of_row s first row)) (fact_of (first + within) (facts_of_rows s first rows))
        ≡ option_map (fact_of_row s first) (slice_get (row ∷ rows) (cond (not t) (1 + position_or_len (at_offset within) rows) 0))
    go true is rest = ap (λ (t : Bool). cond t (Some (fact_of_row s first row)) (fact_of (first + within) (facts_of_rows s first rows))) (eq-eqb (first + row.offset) (first + within) (ap (λ n. first + n) (eqb-true row.offset within is)))
    go false is rest =
        ap (λ (t : Bool). cond t (Some (fact_of_row s first row)) (fact_of (first + within) (facts_of_rows s first rows)))
        (ne_eqb (first + row.offset) (first + within) (λ e. eqb-false row.offset within is (omega (arith, e))))
        ∙ simp one-add rest

rows_told : (profile : Profile) (s : State) (first within : ℕ) (rows : List LoopRow) (reads : List Read) → TableStandsFor profile rows reads → GoesPast (first + within) (run profile s first reads)
    → fact_of (first + within) (loops_made profile s first reads) ≡ fact_of (first + within) (facts_of_rows s first rows)
rows_told profile s first within rows reads table goes = ap (fact_of (first + within)) (table.made s first) ∙ go (run profile s first reads) goes
  where
    go : (ended : Ended) → GoesPast (first + within) ended → fact_of (first + within) (facts_of_rows s first (rows_run ended first rows)) ≡ fact_of (first + within) (facts_of_rows s first rows)
    go (Ends u) past = refl
    go (Stops u fault) past = kept_rows s first within fault.line rows past

-- the loop of a row that is found
pub row_found : (profile : Profile) (s : State) (first within place : ℕ) (rows : List LoopRow) (row : LoopRow) (reads : List Read) → TableStandsFor profile rows reads → GoesPast (first + within) (run profile s first reads)
    → position (at_offset within) rows ≡ Some place → slice_get rows place ≡ Some row → fact_of (first + within) (loops_made profile s first reads) ≡ Some (fact_of_row s first row)
row_found profile s first within place rows row reads table goes found there =
    rows_told profile s first within rows reads table goes ∙ row_first s first within rows
    ∙ ap (λ n. option_map (fact_of_row s first) (slice_get rows n)) (sym (first_place (at_offset within) rows place found).0)
    ∙ ap (option_map (fact_of_row s first)) there

-- and where none is found
pub row_missing : (profile : Profile) (s : State) (first within : ℕ) (rows : List LoopRow) (reads : List Read) → TableStandsFor profile rows reads → GoesPast (first + within) (run profile s first reads)
    → position (at_offset within) rows ≡ None → fact_of (first + within) (loops_made profile s first reads) ≡ None
row_missing profile s first within rows reads table goes missing =
    rows_told profile s first within rows reads table goes ∙ row_first s first within rows
    ∙ ap (option_map (fact_of_row s first)) (slice_get_past rows (position_or_len (at_offset within) rows) (go (nat_lt (position_or_len (at_offset within) rows) (length rows)) refl missing))
  where
    go : (t : Bool) → nat_lt (position_or_len (at_offset within) rows) (length rows) ≡ t → cond t (Some (position_or_len (at_offset within) rows)) None ≡ None → length rows ≤ position_or_len (at_offset within) rows
    go true is h = absurd (cc)
    go false is h = ltb-false (position_or_len (at_offset within) rows) (length rows) is
