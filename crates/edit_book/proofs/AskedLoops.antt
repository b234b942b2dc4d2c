-- The loop that is asked for, by what a book keeps.
use Rattle.std.proofs.Common.{◌≡◌, ⊎_elim, ℕ, ◌+◌, ◌-◌, ◌<◌, ◌≤◌, ◌^◌, Bool, true, false, cond, nat_le, List, [], ◌∷◌, length, position, All, Option, Some, None, unwrap_or, sym, subst, ap, ◌∙◌, refl, arith, slice_get}
use Rattle.std.specs.List.{Contains}
use Rattle.std.specs.Map.{lookup}
use Rattle.std.proofs.lemmas.Bool.{eqb-true}
use Rattle.std.proofs.lemmas.List.Quantifiers.{position-Some}
use Rattle.std.proofs.lemmas.Option.{get_or_from_slice_get}
use Rattle.knit_base.specs.declared.instr.Read.{Read}
use Rattle.knit_base.specs.declared.instr.Quarter.{Quarter}
use Rattle.knit_base.specs.declared.needle.Needle.{Needle}
use Rattle.knit_base.specs.declared.rule.Fault.{Fault}
use Rattle.knit_base.specs.Needle.{same_needle, same_needle-true}
use Rattle.knit_base.proofs.Needles.{same_needle-same}
use Rattle.knit_base.proofs.Places.{by_test}
use Rattle.carriage_model.specs.declared.verdict.Brief.TheVariants as brief
use Rattle.carriage_model.specs.declared.verdict.LoopFact.{LoopFact}
use Rattle.carriage_model.specs.Loops.{fact_of, loops_made}
use Rattle.carriage_model.specs.Run.{run}
use Rattle.carriage_model.specs.State.{State, empty_state}
use Rattle.carriage_model.specs.Verdict.{brief_of}
use Rattle.edit_journal.specs.declared.edit.Entry.{Entry}
use Rattle.edit_journal.specs.declared.opening.Opening.{Opening}
use Rattle.edit_journal.specs.Documents.{body, document_of}
use Rattle.face_data.specs.declared.face.FaceView.{FaceView}
use Rattle.face_data.specs.declared.face.Seg.{Seg}
use Rattle.face_data.specs.Segments.{OffsetFits, entry_needles_of}
use Rattle.face_data.specs.Summaries.{Outcome, summary_outcome}
use Rattle.face_data.specs.Summaries.Outcome.{went_on, faulted}
use Rattle.face_data.specs.Verdicts.{verdict_of, verdict_on}
use Rattle.face_data.specs.View.{summary_of}
use Rattle.face_data.proofs.Members.{Contains-cons_cases, Contains-none}
use Rattle.loop_history.specs.declared.row.LoopRow.{LoopRow}
use Rattle.loop_history.specs.Entries.{AreEntriesOf}
use Rattle.loop_history.specs.Rows.{fact_of_row}
use Rattle.loop_history.specs.Tables.{IsRowOf, TableStandsFor}
use Rattle.tree_shape.proofs.RowWalks.{all_get}
use Rattle.edit_book.specs.Books.{BookView, AreLawfulLeaves, document}
use Rattle.edit_book.specs.Entered.{IsStateBehind, entries_held, stops_by}
use Rattle.edit_book.specs.Verdicts.{IsLoopOn, setting_of}
use Rattle.carriage_model.proofs.LoopOfLine.{later_lines}
use Rattle.summary_tree.proofs.NeedleEntries.{own_fit}
use Rattle.edit_book.proofs.LineLoops.{BeginsIn, GoesPast, at_offset, at_stop, begins_in, behind_lines, each_runs, in_no_block, past_stop, row_found, row_missing}
use Rattle.edit_book.proofs.Trees.{AllRead, all_read, setting_at}
use Rattle.summary_tree.specs.Leaves.{IsRootOf, Leaf, all_lines, applied_each, place_of_line}
use Rattle.summary_tree.specs.Trees.{TreeView}

-- each of the needles is found with what it holds
found_among : (s : State) (ns : List Needle) (n : Needle) → Contains ns n → lookup (same_needle n) (entries_held s ns) ≡ Some (s.stacks n)
found_among s [] n there = absurd (Contains-none n there)
found_among s (m ∷ ms) n there =
    by_test (same_needle n m)
    (λ same. ap (λ t. cond t (Some (s.stacks m)) (lookup (same_needle n) (entries_held s ms))) same ∙ ap (λ x. Some (s.stacks x)) (sym (same_needle-true n m same)))
    (λ other. ap (λ t. cond t (Some (s.stacks m)) (lookup (same_needle n) (entries_held s ms))) other
    ∙ ⊎_elim (λ (here : m ≡ n). let same : same_needle n m ≡ true = same_needle-same n m (sym here) in absurd (cc)) (λ (later : Contains ms n). found_among s ms n later) (Contains-cons_cases m ms n there))

entries_told : (s : State) (segs : List Seg) (entries : List (Needle × List ℕ)) → entries ≡ entries_held s (entry_needles_of segs) → AreEntriesOf s entries segs
entries_told s segs entries is n there = sym (ap (λ (found : Option (List ℕ)). unwrap_or found []) (ap (lookup (same_needle n)) is ∙ found_among s (entry_needles_of segs) n there))

-- the row that is found has the offset
found_has : (within place : ℕ) (rows : List LoopRow) (row : LoopRow) → position (at_offset within) rows ≡ Some place → slice_get rows place ≡ Some row → row.offset ≡ within
found_has within place rows row found there =
    eqb-true row.offset within (ap (at_offset within) (sym (get_or_from_slice_get rows place row row there)) ∙ (position-Some (at_offset within) rows place row found).1)

-- the brief on the root tells where the document stops
pub goes_told : (leaves : List Leaf) (view : FaceView) (first line lines made held : ℕ) (rack : Quarter) → IsRootOf leaves view → brief.Sound lines made held rack ≡ brief_of (verdict_of (summary_of view) first)
    → false ≡ stops_by line (applied_each leaves empty_state first)
goes_told leaves view first line lines made held rack root is = go (summary_outcome (summary_of view) empty_state first) is ∙ ap (stops_by line) (root.whole.runs_all empty_state first)
  where
    go : (o : Outcome) → brief.Sound lines made held rack ≡ brief_of (verdict_on o (summary_of view) first) → false ≡ stops_by line o
    go (went_on s) h = refl
    go (faulted f) h = absurd (cc)

pub stops_told : (leaves : List Leaf) (view : FaceView) (first line : ℕ) (fault : Fault) → IsRootOf leaves view → brief.Broken fault ≡ brief_of (verdict_of (summary_of view) first)
    → nat_le fault.line line ≡ stops_by line (applied_each leaves empty_state first)
stops_told leaves view first line fault root is = go (summary_outcome (summary_of view) empty_state first) is ∙ ap (stops_by line) (root.whole.runs_all empty_state first)
  where
    go : (o : Outcome) → brief.Broken fault ≡ brief_of (verdict_on o (summary_of view) first) → nat_le fault.line line ≡ stops_by line o
    go (went_on s) h = absurd (cc)
    go (faulted f) h = let same : fault ≡ f = cc in ap (λ x. nat_le x.line line) same

-- a line's place is reckoned from the first line, whatever names it
pub place_from_first_line : (leaves : List Leaf) (line first here : ℕ) (place : Option (ℕ × ℕ)) → first ≡ here → place_of_line leaves (line - first) ≡ place → place_of_line leaves (line - here) ≡ place
place_from_first_line leaves line first here place same found = ap (λ (n : ℕ). place_of_line leaves (line - n)) (sym same) ∙ found

module _ (o : Opening) (es : List Entry) (line : ℕ) (v : BookView) (room : Bool) (tree : TreeView)
    (s : AreLawfulLeaves o es tree.leaves) (view : record { opening = o; entries = es; journal_room = room; tree = tree } ≡ v) where
  abbrev all : AllRead (setting_at o es) tree.leaves (document_of o es).blocks
  all = all_read (setting_at o es) tree.leaves (document_of o es).blocks s.leaves_are

  abbrev reads : List Read
  reads = all_lines all.blocks

  told : (fact : Option LoopFact) → fact ≡ fact_of line (loops_made o.setting.profile empty_state o.setting.first reads) → IsLoopOn (setting_of v.opening (document v)) (body (document v)) line fact
  told fact is = subst (λ (w : BookView). IsLoopOn (setting_of w.opening (document w)) (body (document w)) line fact) view (record { readings = reads; read = all.read; made = is })

  -- no line of the head makes a loop
  pub none_in_head : line < o.setting.first → IsLoopOn (setting_of v.opening (document v)) (body (document v)) line None
  none_in_head early = told None (sym (later_lines o.setting.profile empty_state o.setting.first line reads early))

  -- nor one that isn't carried out
  pub none_at_stop : stops_by line (applied_each v.tree.leaves empty_state v.opening.setting.first) ≡ true → IsLoopOn (setting_of v.opening (document v)) (body (document v)) line None
  none_at_stop is =
      let here : stops_by line (applied_each tree.leaves empty_state o.setting.first) ≡ true = subst (λ (w : BookView). stops_by line (applied_each w.tree.leaves empty_state w.opening.setting.first) ≡ true) (sym view) is in
      told None (sym (at_stop o.setting.profile empty_state o.setting.first line reads (ap (stops_by line) (sym (each_runs o.setting.profile tree.leaves all.blocks empty_state o.setting.first all.stand)) ∙ here)))

  module _ (behind : o.setting.first ≤ line) where
    whole_line : o.setting.first + (line - o.setting.first) ≡ line
    whole_line = omega (arith, behind)

    -- nor one that isn't there
    pub none_behind : place_of_line tree.leaves (line - o.setting.first) ≡ None → IsLoopOn (setting_of v.opening (document v)) (body (document v)) line None
    none_behind none =
        let past = in_no_block o.setting.profile tree.leaves all.blocks (line - o.setting.first) all.stand none in
        told None (sym (behind_lines o.setting.profile empty_state o.setting.first line reads (omega (arith, past, behind))))

    module _ (goes : stops_by line (applied_each v.tree.leaves empty_state v.opening.setting.first) ≡ false) (at within : ℕ) (found : place_of_line tree.leaves (line - o.setting.first) ≡ Some (at, within))
        (leaf : Leaf) (there : slice_get tree.leaves at ≡ Some leaf) where
      past : GoesPast (o.setting.first + (line - o.setting.first)) (run o.setting.profile empty_state o.setting.first reads)
      past =
          let here : stops_by line (applied_each tree.leaves empty_state o.setting.first) ≡ false = subst (λ (w : BookView). stops_by line (applied_each w.tree.leaves empty_state w.opening.setting.first) ≡ false) (sym view) goes in
          subst (λ n. GoesPast n (run o.setting.profile empty_state o.setting.first reads)) (sym whole_line)
          (past_stop line (run o.setting.profile empty_state o.setting.first reads) (ap (stops_by line) (sym (each_runs o.setting.profile tree.leaves all.blocks empty_state o.setting.first all.stand)) ∙ here))

      begins : BeginsIn o.setting.profile tree.leaves empty_state o.setting.first (line - o.setting.first) at within (loops_made o.setting.profile empty_state o.setting.first reads)
      begins = begins_in o.setting.profile tree.leaves all.blocks empty_state o.setting.first (line - o.setting.first) at within all.stand all.tables found past

      abbrev start : ℕ
      start = o.setting.first + (line - o.setting.first - within)

      own : begins.leaf ≡ leaf
      own = let e : Some begins.leaf ≡ Some leaf = sym begins.there ∙ there in cc

      table : TableStandsFor o.setting.profile leaf.1 begins.reads
      table = subst (λ (x : Leaf). TableStandsFor o.setting.profile x.1 begins.reads) own begins.table

      at_line : o.setting.first + (line - o.setting.first) ≡ start + within
      at_line = omega (arith, begins.place)

      same_line : line ≡ start + within
      same_line = sym whole_line ∙ at_line

      goes_there : GoesPast (start + within) (run o.setting.profile begins.state start begins.reads)
      goes_there = subst (λ n. GoesPast n (run o.setting.profile begins.state start begins.reads)) at_line begins.goes

      told_there : fact_of line (loops_made o.setting.profile empty_state o.setting.first reads) ≡ fact_of (start + within) (loops_made o.setting.profile begins.state start begins.reads)
      told_there =
          ap (λ n. fact_of n (loops_made o.setting.profile empty_state o.setting.first reads)) (sym whole_line) ∙ begins.told
          ∙ ap (λ n. fact_of n (loops_made o.setting.profile begins.state start begins.reads)) at_line

      -- nor one of which the block's table has no row
      pub none_in_table : position (at_offset within) leaf.1 ≡ None → IsLoopOn (setting_of v.opening (document v)) (body (document v)) line None
      none_in_table missing = told None (sym (told_there ∙ row_missing o.setting.profile begins.state start within leaf.1 begins.reads table goes_there missing))

      module _ (place : ℕ) (row : LoopRow) (hit : position (at_offset within) leaf.1 ≡ Some place) (row_is : slice_get leaf.1 place ≡ Some row) where
        is_row : IsRowOf (length begins.reads) row
        is_row = all_get (IsRowOf (length begins.reads)) leaf.1 place row table.within row_is

        first_is : line - within ≡ start
        first_is = omega (arith, same_line)

        -- its line and those of the loops through which it is drawn have numbers of 32 bits
        pub row_fits : line < 2 ^ 32 → (line - within + row.offset < 2 ^ 32) × All (OffsetFits (line - within)) row.through
        row_fits few =
            let offset : row.offset ≡ within = found_has within place leaf.1 row hit row_is in
            let fits : line - within + row.offset < 2 ^ 32 = omega (arith, offset, same_line, few) in
            (fits, own_fit row.offset (line - within) row.through fits is_row.earlier)

        -- the line stands at or behind its block's first
        pub row_behind : within ≤ line
        row_behind = omega (arith, same_line)

        -- the loop of the row is the line's
        pub row_told : (entries : List (Needle × List ℕ)) (fact : LoopFact) → ((t : State) → IsStateBehind v at t → entries ≡ entries_held t (entry_needles_of row.through))
            → ((t : State) → AreEntriesOf t entries row.through → fact ≡ fact_of_row t (line - within) row) → IsLoopOn (setting_of v.opening (document v)) (body (document v)) line (Some fact)
        row_told entries fact held resolved =
            let behind_here : IsStateBehind v at begins.state = subst (λ (w : BookView). IsStateBehind w at begins.state) view begins.behind in
            let is : fact ≡ fact_of_row begins.state start row =
            resolved begins.state (entries_told begins.state row.through entries (held begins.state behind_here)) ∙ ap (λ n. fact_of_row begins.state n row) first_is in
            told (Some fact) (ap (λ (f : LoopFact). Some f) is ∙ sym (told_there ∙ row_found o.setting.profile begins.state start within place leaf.1 row begins.reads table goes_there hit row_is))
