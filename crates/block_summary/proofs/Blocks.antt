-- Blocks of lines, as one line more is read.
use Rattle.std.proofs.Common.{◌≡◌, ℕ, zero, suc, ◌+◌, ◌<◌, ◌≤◌, List, [], ◌∷◌, ◌++◌, length, take, drop, get_or, slice_get, All, Option, Some, None, IfSome, refl, sym, ap, ◌∙◌, subst, arith, inl, inr, append_assoc, length-append}
use Rattle.std.specs.List.{AllZip, Contains}
use Rattle.std.specs.Option.{option_map, option_to_list}
use Rattle.std.proofs.lemmas.List.{append-nil, drop_more, take_all, take_more, take-append-drop}
use Rattle.std.proofs.lemmas.List.Sums.{fold_push}
use Rattle.std.proofs.lemmas.List.Elements.{All-cons, All-contains_itself, All-nil, All-push, All-weaker, Contains-append_left, Contains-append_right, Contains-push_cases}
use Rattle.knit_base.specs.declared.instr.Instr.TheVariants.{Knit, Tuck, Split}
use Rattle.knit_base.specs.declared.instr.Read.{Read}
use Rattle.knit_base.specs.declared.instr.Read.TheVariants as read
use Rattle.knit_base.specs.declared.needle.Needle.{Needle}
use Rattle.knit_base.specs.declared.profile.Profile.{Profile}
use Rattle.knit_base.specs.declared.rule.Fault.{Fault}
use Rattle.knit_base.specs.Instr.{forming_needle, needles_of}
use Rattle.knit_base.specs.Lawful.{IsLawfulRead}
use Rattle.knit_base.specs.Needle.{own_slider}
use Rattle.carriage_model.specs.Loops.{fact_made}
use Rattle.carriage_model.specs.Rules.{broken}
use Rattle.carriage_model.specs.Run.{Ended, run, run_on}
use Rattle.carriage_model.specs.Run.Ended.{Ends, Stops}
use Rattle.carriage_model.specs.State.{State}
use Rattle.carriage_model.specs.Steps.{step}
use Rattle.carriage_model.proofs.CarriageRuns.{one_more, run-more}
use Rattle.face_data.specs.declared.face.Seg.{Seg}
use Rattle.face_data.specs.declared.face.Seg.TheVariants.{Entry, New}
use Rattle.face_data.specs.Composition.{composed}
use Rattle.face_data.specs.Drafts.{no_lines}
use Rattle.face_data.specs.Goodness.{IsGood}
use Rattle.face_data.specs.Segments.{AreRead, Changed, segments_on}
use Rattle.face_data.specs.Sets.{AreNeedlesWithin}
use Rattle.face_data.specs.Stands.{StandsFor, outcome_of_run}
use Rattle.face_data.specs.Summaries.{Summary}
use Rattle.face_data.proofs.Items.{items_bound}
use Rattle.face_data.proofs.Members.{Contains-none, Contains-head, Contains-cons_cases}
use Rattle.face_data.proofs.Owners.{changed_or_own}
use Rattle.face_data.proofs.Stands.{lines-composed}
use Rattle.loop_history.specs.declared.row.LoopRow.{LoopRow}
use Rattle.loop_history.specs.Rows.{fact_of_row}
use Rattle.loop_history.specs.Tables.{IsOfEarlier, TableStandsFor}
use Rattle.loop_history.proofs.TableLines.{HasStopped, IsRowAt, table_more, table_none, table_read, table_stopped, broken_stops}
use Rattle.block_summary.specs.declared.formed.FormedLoop.{FormedLoop}
use Rattle.block_summary.specs.Asks.{fact_of_formed}
use Rattle.block_summary.specs.DraftKnowledge.{stopped_at}
use Rattle.block_summary.specs.declared.line.DraftedLineEnd.TheVariants.{GoesOn, Stops as StopsAt}
use Rattle.block_summary.specs.LineEnds.{EndsAs, loop_of_line}
use Rattle.block_summary.specs.LineSummaries.{NeedlesKnownInLine, SliderKnown, block_summary_of, line_summary}
use Rattle.block_summary.specs.NamedNeedles.{line_needles, needles_named}
use Rattle.block_summary.specs.Prepared.{AddsLine, AreNeedlesKnown, AreRowsOf, DraftHasRead, IsMadeOf, loop_row_of}
use Rattle.block_summary.proofs.FormedLoops.{loop-formed}
use Rattle.block_summary.proofs.LineGoodness.{block_good, block_stands}

-- what stands at a place of two lists
pub zip_at : {A B : Type 0} (R : A → B → Type 0) (xs : List A) (ys : List B) (i : ℕ) (x : A) (d : B) → AllZip R xs ys → slice_get xs i ≡ Some x → R x (get_or ys i d)
zip_at R [] ys i x d all found = absurd (cc)
zip_at R (a ∷ xs) [] i x d all found = absurd all
zip_at R (a ∷ xs) (y ∷ ys) zero x d all found = subst (λ z. R z y) (let same : a ≡ x = cc in same) all.0
zip_at R (a ∷ xs) (y ∷ ys) (suc i) x d all found = zip_at R xs ys i x d all.1 found

slider_known : (on : Option Needle) (known : List Needle) → AreNeedlesWithin (option_to_list (option_map own_slider on)) known → SliderKnown known on
slider_known None known within = tt
slider_known (Some n) known within = within (own_slider n) (Contains-head (own_slider n) [])

line_known : (r : Read) (known : List Needle) → AreNeedlesWithin (line_needles r) known → NeedlesKnownInLine known r
unfolding line_needles
line_known (read.Instr i) known within = record {
  needles = λ n there. within n (Contains-append_left (needles_of i) (option_to_list (option_map own_slider (forming_needle i))) n there);
  slider = slider_known (forming_needle i) known (λ n there. within n (Contains-append_right (needles_of i) (option_to_list (option_map own_slider (forming_needle i))) n there));
}
line_known r known within = tt

within_named : (rs : List Read) (r : Read) → Contains rs r → AreNeedlesWithin (line_needles r) (needles_named rs)
unfolding needles_named
within_named [] r there = absurd (Contains-none r there)
within_named (q ∷ rs) r there = elim (Contains-cons_cases q rs r there) [
  | inl same ↦ subst (λ x. AreNeedlesWithin (line_needles x) (line_needles q ++ needles_named rs)) same (λ n h. Contains-append_left (line_needles q) (needles_named rs) n h)
  | inr later ↦ (λ n h. Contains-append_right (line_needles q) (needles_named rs) n (within_named rs r later n h))
]

-- some needles are all that the lines name
pub named_known : (rs : List Read) → AreNeedlesKnown (needles_named rs) rs
named_known rs r there = line_known r (needles_named rs) (within_named rs r there)

-- the new loops that a needle holds are of earlier lines
pub held_earlier : (carriers limit : ℕ) (known : List Needle) (s : Summary) (n : Needle) → IsGood carriers limit known s → All (IsOfEarlier s.lines) (segments_on s.changes n)
held_earlier carriers limit known s n good = elim (changed_or_own s.changes n) [
  | inl changed ↦ subst (All (IsOfEarlier s.lines)) (sym changed.3)
      (All-weaker (Contains changed.0.1) (IsOfEarlier s.lines) (seg changed.0 changed.1) changed.0.1 (All-contains_itself changed.0.1))
  | inr own ↦ subst (All (IsOfEarlier s.lines)) (sym own) (All-cons (IsOfEarlier s.lines) (Entry n) [] tt (All-nil (IsOfEarlier s.lines)))
]
  where
    seg : (c : Changed) → Contains s.changes c → (x : Seg) → Contains c.1 x → IsOfEarlier s.lines x
    seg c there (Entry m) held = tt
    seg c there (New offset) held = (good.fair.changes_fit c there).offsets offset held

-- the row of a line's loop
row_at : (s : Summary) (formed : Option FormedLoop) (lines : ℕ) → s.lines ≡ lines → IfSome formed (λ (l : FormedLoop). All (IsOfEarlier s.lines) l.through) →
    IfSome (option_map (loop_row_of s.lines) formed) (IsRowAt lines)
row_at s None lines same earlier = tt
row_at s (Some l) lines same earlier = record { at = same; earlier = subst (λ k. All (IsOfEarlier k) l.through) same earlier }

formed_earlier : (carriers limit : ℕ) (known : List Needle) (s : Summary) (r : Read) → IsGood carriers limit known s →
    IfSome (loop_of_line r s.changes) (λ (l : FormedLoop). All (IsOfEarlier s.lines) l.through)
formed_earlier carriers limit known s (read.Instr (Knit dir n [])) good = tt
formed_earlier carriers limit known s (read.Instr (Knit dir n (c ∷ cs))) good = held_earlier carriers limit known s n good
formed_earlier carriers limit known s (read.Instr (Tuck dir n [])) good = tt
formed_earlier carriers limit known s (read.Instr (Tuck dir n (c ∷ cs))) good = All-nil (IsOfEarlier s.lines)
formed_earlier carriers limit known s (read.Instr (Split dir n n2 [])) good = tt
formed_earlier carriers limit known s (read.Instr (Split dir n n2 (c ∷ cs))) good = held_earlier carriers limit known s n good
formed_earlier carriers limit known s r good = tt

row_told : (s : State) (first offset : ℕ) (formed : Option FormedLoop) → fact_of_formed formed s first (first + offset) ≡ option_map (fact_of_row s first) (option_map (loop_row_of offset) formed)
row_told s first offset None = refl
row_told s first offset (Some l) = refl

line_told : (segments : List Changed) (r : Read) (s t : State) (first line : ℕ) → AreRead segments s first t.stacks → fact_made line r t ≡ fact_of_formed (loop_of_line r segments) s first line
line_told segments (read.Instr instr) s t first line held = loop-formed segments instr s t first line held
line_told segments r s t first line held = refl

-- at first no line is read
pub read_none : (profile : Profile) (carriers : ℕ) (lines : List Read) (draft : Summary) (rows : List LoopRow) → draft ≡ no_lines → rows ≡ [] → DraftHasRead profile carriers lines 0 draft rows
read_none profile carriers lines draft rows is none = record {
  is = is;
  lawful = λ r there. absurd (Contains-none r there);
  table = subst (λ (xs : List LoopRow). TableStandsFor profile xs []) (sym none) (table_none profile);
}

one_line_more : (profile : Profile) (xs : List Read) (r : Read) → block_summary_of profile (xs ++ r ∷ []) ≡ composed (block_summary_of profile xs) (line_summary profile r)
one_line_more profile xs r = fold_push (λ draft q. composed draft (line_summary profile q)) no_lines xs r

lawful_more : (profile : Profile) (carriers : ℕ) (xs : List Read) (r : Read) → ((q : Read) → Contains xs q → IsLawfulRead profile carriers q) → IsLawfulRead profile carriers r →
    (q : Read) → Contains (xs ++ r ∷ []) q → IsLawfulRead profile carriers q
lawful_more profile carriers xs r before here q there = elim (Contains-push_cases xs r q there) [
  | inl earlier ↦ before q earlier
  | inr same ↦ subst (IsLawfulRead profile carriers) same here
]

-- the summary of lawful lines stands for them
stands_for : (profile : Profile) (carriers : ℕ) (xs : List Read) → 1 ≤ profile.hold → ((q : Read) → Contains xs q → IsLawfulRead profile carriers q) → StandsFor profile (block_summary_of profile xs) xs
stands_for profile carriers xs some lawful = block_stands profile carriers (needles_named xs) xs some lawful (named_known xs)

good_for : (profile : Profile) (carriers : ℕ) (xs : List Read) → 1 ≤ profile.hold → ((q : Read) → Contains xs q → IsLawfulRead profile carriers q) →
    IsGood carriers profile.hold (needles_named xs) (block_summary_of profile xs)
good_for profile carriers xs some lawful = block_good profile carriers (needles_named xs) xs some lawful (named_known xs)

more_read : (profile : Profile) (carriers : ℕ) (xs : List Read) (r : Read) (rows : List LoopRow) → 1 ≤ profile.hold → ((q : Read) → Contains xs q → IsLawfulRead profile carriers q) →
    TableStandsFor profile rows xs →
    TableStandsFor profile (rows ++ option_to_list (option_map (loop_row_of (block_summary_of profile xs).lines) (loop_of_line r (block_summary_of profile xs).changes))) (xs ++ r ∷ [])
more_read profile carriers xs r rows some lawful table =
    let s : Summary = block_summary_of profile xs in
    let stands : StandsFor profile s xs = stands_for profile carriers xs some lawful in
    table_read profile s rows xs r (option_map (loop_row_of s.lines) (loop_of_line r s.changes)) stands table
    (row_at s (loop_of_line r s.changes) (length xs) stands.lines_are (formed_earlier carriers profile.hold (needles_named xs) s r (good_for profile carriers xs some lawful)))
    (λ u t first held sound.
    line_told s.changes r u t first (first + length xs) held
    ∙ ap (λ k. fact_of_formed (loop_of_line r s.changes) u first (first + k)) (sym stands.lines_are)
    ∙ row_told u first s.lines (loop_of_line r s.changes))

-- One line more is read.
pub read_more : (profile : Profile) (carriers : ℕ) (lines : List Read) (i : ℕ) (d : Read) (old new : Summary) (rows more : List LoopRow) (stop : Option Fault) → 1 ≤ profile.hold → i < length lines →
    AddsLine profile carriers (get_or lines i d) old new rows more stop → stop ≡ None → DraftHasRead profile carriers lines i old rows → DraftHasRead profile carriers lines (i + 1) new more
read_more profile carriers lines i d old new rows more (Some fault) some within adds goes has = absurd (cc)
read_more profile carriers lines i d old new rows more None some within adds goes has =
    let xs : List Read = take i lines in
    let r : Read = get_or lines i d in
    let taken : take (i + 1) lines ≡ xs ++ r ∷ [] = take_more lines i d within in
    record {
      is = adds.added.0 ∙ ap (λ s. composed s (line_summary profile r)) has.is ∙ sym (one_line_more profile xs r) ∙ ap (block_summary_of profile) (sym taken);
      lawful = subst (λ (qs : List Read). (q : Read) → Contains qs q → IsLawfulRead profile carriers q) (sym taken) (lawful_more profile carriers xs r has.lawful adds.lawful);
      table = subst (TableStandsFor profile more) (sym taken)
          (subst (λ (table : List LoopRow). TableStandsFor profile table (xs ++ r ∷ []))
          (ap (λ (s : Summary). rows ++ option_to_list (option_map (loop_row_of s.lines) (loop_of_line r s.changes))) (sym has.is) ∙ sym adds.added.1)
          (more_read profile carriers xs r rows some has.lawful has.table));
    }

-- All lines are read.
pub all_read : (profile : Profile) (carriers : ℕ) (lines : List Read) (i : ℕ) (draft : Summary) (rows : List LoopRow) → 1 ≤ profile.hold → length lines ≤ i →
    DraftHasRead profile carriers lines i draft rows → IsMadeOf profile carriers draft rows lines
all_read profile carriers lines i draft rows some past has =
    let all : take i lines ≡ lines = take_all i lines past in
    let is : draft ≡ block_summary_of profile lines = has.is ∙ ap (block_summary_of profile) all in
    let lawful : (q : Read) → Contains lines q → IsLawfulRead profile carriers q = subst (λ (qs : List Read). (q : Read) → Contains qs q → IsLawfulRead profile carriers q) all has.lawful in
    subst (λ (s : Summary). IsMadeOf profile carriers s rows lines) (sym is) (record {
      stands = stands_for profile carriers lines some lawful;
      table = subst (TableStandsFor profile rows) all has.table;
      good = λ known knows. block_good profile carriers known lines some lawful knows;
      bound = λ known knows. items_bound carriers profile.hold known (block_summary_of profile lines) (block_good profile carriers known lines some lawful knows);
    })

stays_stopped : (profile : Profile) (k : ℕ) (r : Read) (ended : Ended) → HasStopped ended → one_more profile k r ended ≡ ended
stays_stopped profile k r (Ends s) stopped = absurd stopped
stays_stopped profile k r (Stops s fault) stopped = refl

-- lines behind a fault are counted
stands_longer : (profile : Profile) (fault : Fault) (s : Summary) (xs more : List Read) → StandsFor profile (stopped_at fault s) xs →
    StandsFor profile (stopped_at fault (record s { lines = s.lines + length more })) (xs ++ more)
stands_longer profile fault s xs [] stands =
    subst (λ n. StandsFor profile (stopped_at fault (record s { lines = n })) (xs ++ [])) (let same : s.lines ≡ s.lines + 0 = omega arith in same)
    (subst (StandsFor profile (stopped_at fault s)) (sym (append-nil xs)) stands)
stands_longer profile fault s xs (r ∷ more) stands =
    subst (λ n. StandsFor profile (stopped_at fault (record s { lines = n })) (xs ++ r ∷ more)) (let same : s.lines + 1 + length more ≡ s.lines + length (r ∷ more) = omega arith in same)
    (subst (StandsFor profile (stopped_at fault (record s { lines = s.lines + 1 + length more }))) (append_assoc xs (r ∷ []) more)
    (stands_longer profile fault (record s { lines = s.lines + 1 }) (xs ++ r ∷ []) more (one_longer xs r stands)))
  where
    one_longer : (ys : List Read) (q : Read) → StandsFor profile (stopped_at fault s) ys → StandsFor profile (stopped_at fault (record s { lines = s.lines + 1 })) (ys ++ q ∷ [])
    one_longer ys q stands =
        let stopped : (u : State) (first : ℕ) → HasStopped (run profile u first ys) = broken_stops profile (stopped_at fault s) ys fault stands refl in
        let same : (u : State) (first : ℕ) → run profile u first (ys ++ q ∷ []) ≡ run profile u first ys =
        λ u first. run-more profile u first ys q ∙ stays_stopped profile (first + length ys) q (run profile u first ys) (stopped u first) in
        record {
          lines_are = omega (arith, stands.lines_are, length-append ys (q ∷ []));
          outcome = λ u first. stands.outcome u first ∙ ap outcome_of_run (sym (same u first));
          made_are = λ u t first ends. absurd (subst HasStopped (sym (same u first) ∙ ends) (stopped u first));
        }

good_longer : (carriers limit : ℕ) (known : List Needle) (fault : Fault) (s : Summary) (lines : ℕ) → s.lines ≤ lines → IsGood carriers limit known (stopped_at fault s) →
    IsGood carriers limit known (stopped_at fault (record s { lines = lines }))
good_longer carriers limit known fault s lines longer good =
    let fair = good.fair in
    record {
      fair = record {
        made = omega arith;
        asks_fit = fair.asks_fit;
        within = λ c there. let before = fair.within c there in omega (arith, before, longer);
        in_turn = fair.in_turn;
        nested = fair.nested;
        agree = fair.agree;
        in_order = fair.in_order;
        changes_fit = λ c there. absurd (Contains-none c there);
        owns = fair.owns;
        lasts_in_order = fair.lasts_in_order;
        lasts_fit = fair.lasts_fit;
        sizes = fair.sizes;
        ending = record {
          within = let before = fair.ending.within in omega (arith, before, longer);
          last = fair.ending.last;
          unchanged = refl;
          no_lasts = refl;
          made = refl;
        };
      };
      irredundant = good.irredundant;
    }

sound_ends : (profile : Profile) (s t : State) (first : ℕ) (xs : List Read) (r : Read) → run profile s first xs ≡ Ends t → broken profile r t ≡ None → HasStopped (run profile s first (xs ++ r ∷ [])) → ⊥
sound_ends profile s t first xs r ends sound stopped =
    subst HasStopped
    (run-more profile s first xs r ∙ ap (one_more profile (first + length xs) r) ends ∙ ap (λ b. run_on (first + length xs) b t (Ends (step profile (first + length xs) r t))) sound) stopped

-- A line at which the lines are known to stop, and whatever comes behind it.
pub read_stopped : (profile : Profile) (carriers : ℕ) (lines : List Read) (i : ℕ) (d : Read) (old new : Summary) (rows more : List LoopRow) (stop : Option Fault) (fault : Fault) → 1 ≤ profile.hold → i < length lines →
    AddsLine profile carriers (get_or lines i d) old new rows more stop → stop ≡ Some fault → DraftHasRead profile carriers lines i old rows →
    IsMadeOf profile carriers (stopped_at fault (record new { lines = length lines })) more lines
read_stopped profile carriers lines i d old new rows more None fault some within adds stops has = absurd (cc)
read_stopped profile carriers lines i d old new rows more (Some found) fault some within adds stops has =
    let xs : List Read = take i lines in
    let r : Read = get_or lines i d in
    let ys : List Read = xs ++ r ∷ [] in
    let rest : List Read = drop (i + 1) lines in
    let whole : ys ++ rest ≡ lines =
    append_assoc xs (r ∷ []) rest ∙ ap (λ (qs : List Read). xs ++ qs) (sym (drop_more lines i d within)) ∙ take-append-drop i lines in
    let same : found ≡ fault = cc in
    let is : block_summary_of profile ys ≡ stopped_at fault new =
    one_line_more profile xs r ∙ ap (λ s. composed s (line_summary profile r)) (sym has.is) ∙ adds.added.0 ∙ ap (λ f. stopped_at f new) same in
    let lawful : (q : Read) → Contains ys q → IsLawfulRead profile carriers q = lawful_more profile carriers xs r has.lawful adds.lawful in
    let stands : StandsFor profile (stopped_at fault new) ys = subst (λ (s : Summary). StandsFor profile s ys) is (stands_for profile carriers ys some lawful) in
    let stopped : (u : State) (first : ℕ) → HasStopped (run profile u first ys) = broken_stops profile (stopped_at fault new) ys fault stands refl in
    let counted : new.lines + length rest ≡ length lines = omega (arith, stands.lines_are, ap length whole, length-append ys rest) in
    let all : StandsFor profile (stopped_at fault (record new { lines = length lines })) lines =
    subst (λ n. StandsFor profile (stopped_at fault (record new { lines = n })) lines) counted
    (subst (StandsFor profile (stopped_at fault (record new { lines = new.lines + length rest }))) whole (stands_longer profile fault new ys rest stands)) in
    let table : TableStandsFor profile rows ys =
    subst (λ (xs : List LoopRow). TableStandsFor profile xs ys) (append-nil rows)
    (table_more profile rows xs r None has.table tt (λ s t first ends sound. absurd (sound_ends profile s t first xs r ends sound (stopped s first)))) in
    let good : (known : List Needle) → AreNeedlesKnown known lines → IsGood carriers profile.hold known (stopped_at fault (record new { lines = length lines })) =
    λ known knows. good_longer carriers profile.hold known fault new (length lines) (omega (arith, counted))
    (subst (λ (s : Summary). IsGood carriers profile.hold known s) is
    (block_good profile carriers known ys some lawful (λ q there. knows q (subst (λ (qs : List Read). Contains qs q) whole (Contains-append_left ys rest q there))))) in
    record {
      stands = all;
      table = subst (λ (kept : List LoopRow). TableStandsFor profile kept lines) (sym adds.added.1)
          (subst (TableStandsFor profile rows) whole (table_stopped profile rows ys rest table stopped));
      good = good;
      bound = λ known knows. items_bound carriers profile.hold known (stopped_at fault (record new { lines = length lines })) (good known knows);
    }

line_is_one : (profile : Profile) (r : Read) → (line_summary profile r).lines ≡ 1
line_is_one profile read.Blank = refl
line_is_one profile read.Comment = refl
line_is_one profile (read.Broken reason) = refl
line_is_one profile (read.Instr i) = refl

pub one_more_line : (profile : Profile) (r : Read) (old : Summary) → (composed old (line_summary profile r)).lines ≡ old.lines + 1
one_more_line profile r old = lines-composed old (line_summary profile r) ∙ ap (λ n. old.lines + n) (line_is_one profile r)

-- a line that goes on
pub goes_lines : (profile : Profile) (r : Read) (old new : Summary) (formed : Option FormedLoop) → EndsAs profile r old new (GoesOn formed) → new.lines ≡ old.lines + 1
goes_lines profile r old new formed ends = ap (λ (s : Summary). s.lines) ends.0 ∙ one_more_line profile r old

-- a line at which the lines stop
pub stops_lines : (profile : Profile) (r : Read) (old new : Summary) (fault : Fault) → EndsAs profile r old new (StopsAt fault) → new.lines ≡ old.lines + 1
stops_lines profile r old new fault ends = sym (ap (λ (s : Summary). s.lines) ends) ∙ one_more_line profile r old

-- what is known of the line's reading is known of any
pub goes_added : (profile : Profile) (carriers : ℕ) (r q : Read) (old new : Summary) (rows more : List LoopRow) (formed : Option FormedLoop) (offset : ℕ) → r ≡ q → offset ≡ old.lines →
    IsLawfulRead profile carriers q → EndsAs profile q old new (GoesOn formed) → more ≡ rows ++ option_to_list (option_map (loop_row_of offset) formed) →
    AddsLine profile carriers r old new rows more None
goes_added profile carriers r q old new rows more formed offset same at lawful ends is =
    subst (λ x. AddsLine profile carriers x old new rows more None) (sym same) (record {
      lawful = lawful;
      added = (ends.0, is ∙ (λ i. rows ++ option_to_list (option_map (loop_row_of (at i)) (ends.1 i))));
    })

-- the same where it stops
pub stops_added : (profile : Profile) (carriers : ℕ) (r q : Read) (old new : Summary) (rows : List LoopRow) (fault : Fault) → r ≡ q →
    IsLawfulRead profile carriers q → EndsAs profile q old new (StopsAt fault) → AddsLine profile carriers r old new rows rows (Some fault)
stops_added profile carriers r q old new rows fault same lawful ends =
    subst (λ x. AddsLine profile carriers x old new rows rows (Some fault)) (sym same) (record { lawful = lawful; added = (ends, refl) })

-- rows of so many lines are rows of more
pub rows_wider : (lines more : ℕ) (rows : List LoopRow) → more ≡ lines + 1 → AreRowsOf lines rows → AreRowsOf more rows
rows_wider lines more rows one are = record {
  within = All-weaker (λ (row : LoopRow). row.offset < lines) (λ (row : LoopRow). row.offset < more) (λ row before. omega (arith, before, one)) rows are.within;
  few = let few = are.few in omega (arith, few, one);
}

-- and one row more
pub rows_more : (lines more : ℕ) (rows now : List LoopRow) (offset : ℕ) (formed : Option FormedLoop) → more ≡ lines + 1 → offset ≡ lines → now ≡ rows ++ option_to_list (option_map (loop_row_of offset) formed) →
    AreRowsOf lines rows → AreRowsOf more now
rows_more lines more rows now offset None one at is are = subst (λ (xs : List LoopRow). AreRowsOf more xs) (sym (is ∙ append-nil rows)) (rows_wider lines more rows one are)
rows_more lines more rows now offset (Some l) one at is are =
    let wider : AreRowsOf more rows = rows_wider lines more rows one are in
    subst (λ (xs : List LoopRow). AreRowsOf more xs) (sym is) (record {
      within = All-push (λ (row : LoopRow). row.offset < more) rows (loop_row_of offset l) wider.within (omega (arith, one, at));
      few = let few = are.few in omega (arith, few, one, length-append rows (loop_row_of offset l ∷ []));
    })

-- no rows of no line
pub no_rows : (lines : ℕ) (rows : List LoopRow) → rows ≡ [] → AreRowsOf lines rows
no_rows lines rows none =
    subst (λ (xs : List LoopRow). AreRowsOf lines xs) (sym none) (record { within = All-nil (λ (row : LoopRow). row.offset < lines); few = omega arith })
