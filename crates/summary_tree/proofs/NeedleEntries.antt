-- What a needle holds behind leaves, told from the faces of the parts that they make up.
use Rattle.std.proofs.Common.{◌≡◌, ℕ, ◌+◌, ◌<◌, ◌≤◌, ◌^◌, List, [], ◌∷◌, ◌++◌, length, Bool, true, false, cond, All, Option, Some, None, refl, sym, ◌∙◌, ap, subst, arith}
use Rattle.std.proofs.Math.Path.{ap₂}
use Rattle.std.proofs.lemmas.List.{append-nil}
use Rattle.std.proofs.lemmas.List.Elements.{All-nil, All-cons, All-head, All-tail, All-append}
use Rattle.std.specs.List.{Contains}
use Rattle.knit_base.specs.declared.needle.Needle.{Needle}
use Rattle.knit_base.specs.declared.rule.Fault.{Fault}
use Rattle.carriage_model.specs.State.{State, empty_state}
use Rattle.face_data.specs.declared.face.Ending.{Ending}
use Rattle.face_data.specs.declared.face.Ending.TheVariants.{Through, Broken}
use Rattle.face_data.specs.declared.face.Seg.{Seg}
use Rattle.face_data.specs.declared.face.Seg.TheVariants.{Entry, New}
use Rattle.face_data.specs.Composition.{and_then}
use Rattle.face_data.specs.Goodness.{ChangeFits, IsInOrder}
use Rattle.face_data.specs.Segments.{AreRead, Changed, OffsetFits, change_at, segs_or_own, segments_on, read_segs}
use Rattle.face_data.specs.Summaries.{Summary, Outcome, summary_outcome, first_fault, outcome_of}
use Rattle.face_data.specs.Summaries.Outcome.{went_on, faulted}
use Rattle.face_data.specs.Through.{through}
use Rattle.face_data.proofs.Members.{Contains-head, Contains-tail}
use Rattle.face_data.proofs.Stands.{ends_read_at, state_in}
use Rattle.face_data.proofs.Through.{with_stacks, read-through}
use Rattle.knit_base.specs.Needle.{same_needle}
use Rattle.loop_history.specs.Tables.{IsOfEarlier}
use Rattle.loop_history.specs.declared.row.LoopRow.{LoopRow}
use Rattle.tree_shape.specs.declared.node.Child.{Child}
use Rattle.tree_shape.specs.Values.{part}
use Rattle.value_tree.specs.Parts.{StandFor}
use Rattle.value_tree.proofs.TreeParts.{last_stands}
use Rattle.summary_tree.specs.Faces.{FacesView, face_in}
use Rattle.summary_tree.specs.Store.{child_slot, leaf_in, node_in}
use Rattle.summary_tree.proofs.Meets.{part_face, same_there}
use Rattle.summary_tree.specs.Entries.{IsToldBehind}
use Rattle.summary_tree.specs.Laws.{stand_laws, lines_append, applied_append}
use Rattle.summary_tree.specs.Leaves.{Leaf, leaf_line_count, StandTogether, applied_each, WholeLeaf}

-- what goes on did so before
went_before : (o : Outcome) (f : State → Outcome) (t : State) → and_then o f ≡ went_on t → (u : State) × (o ≡ went_on u) × (f u ≡ went_on t)
went_before (went_on u) f t e = (u, refl, e)
went_before (faulted fault) f t e = absurd (cc (e))

-- segments are read alike where the needles hold the same
read_alike : (s t : State) (first : ℕ) (segs : List Seg) → ((n : Needle) → s.stacks n ≡ t.stacks n) → read_segs s first segs ≡ read_segs t first segs
read_alike s t first [] same = refl
read_alike s t first (Entry n ∷ segs) same = ap₂ (λ (here rest : List ℕ). here ++ rest) (same n) (read_alike s t first segs same)
read_alike s t first (New offset ∷ segs) same = ap (λ rest. read_segs s first (New offset ∷ []) ++ rest) (read_alike s t first segs same)

-- read behind a summary, they are those that are read through it before
read_before : (summary : Summary) (s t : State) (first : ℕ) (segs : List Seg) → summary_outcome summary s first ≡ went_on t → read_segs t (first + summary.lines) segs ≡ read_segs s first (through summary.changes summary.lines segs)
read_before summary s t first segs goes =
    read_alike t (with_stacks s (λ n. read_segs s first (segments_on summary.changes n))) (first + summary.lines) segs (ends_read_at (first_fault summary.checks s) summary.ending summary.lasts summary.changes s t first goes)
    ∙ sym (read-through s first summary.lines summary.changes segs)

-- the segments of a change are of the summary's own lines
own_segs : (lines : ℕ) (segs : List Seg) → ((offset : ℕ) → Contains segs (New offset) → offset < lines) → All (IsOfEarlier lines) segs
own_segs lines [] h = All-nil (IsOfEarlier lines)
own_segs lines (Entry n ∷ segs) h = All-cons (IsOfEarlier lines) (Entry n) segs tt (own_segs lines segs (λ offset there. h offset (Contains-tail (Entry n) segs (New offset) there)))
own_segs lines (New offset ∷ segs) h = All-cons (IsOfEarlier lines) (New offset) segs (h offset (Contains-head (New offset) segs)) (own_segs lines segs (λ o there. h o (Contains-tail (New offset) segs (New o) there)))

own_on : (lines : ℕ) (known : List Needle) (changes : List Changed) (n : Needle) → ((c : Changed) → Contains changes c → ChangeFits lines known c) → All (IsOfEarlier lines) (segments_on changes n)
own_on lines known [] n fits = All-cons (IsOfEarlier lines) (Entry n) [] tt (All-nil (IsOfEarlier lines))
own_on lines known (c ∷ changes) n fits = go (same_needle n c.0) (own_on lines known changes n (λ d there. fits d (Contains-tail c changes d there)))
  where
    go : (b : Bool) → All (IsOfEarlier lines) (segments_on changes n) → All (IsOfEarlier lines) (segs_or_own (cond b (Some c.1) (change_at changes n)) n)
    go true rest = own_segs lines c.1 (fits c (Contains-head c changes)).offsets
    go false rest = rest

later : (few more : ℕ) (segs : List Seg) → few ≤ more → All (IsOfEarlier few) segs → All (IsOfEarlier more) segs
later few more [] le all = All-nil (IsOfEarlier more)
later few more (Entry n ∷ segs) le all = All-cons (IsOfEarlier more) (Entry n) segs tt (later few more segs le (All-tail (IsOfEarlier few) (Entry n) segs all))
later few more (New offset ∷ segs) le all =
    let here : offset < few = All-head (IsOfEarlier few) (New offset) segs all in
    All-cons (IsOfEarlier more) (New offset) segs (omega (arith, here, le)) (later few more segs le (All-tail (IsOfEarlier few) (New offset) segs all))

through_own : (lines others : ℕ) (known : List Needle) (changes : List Changed) (segs : List Seg) → ((c : Changed) → Contains changes c → ChangeFits lines known c) → All (IsOfEarlier others) segs → All (IsOfEarlier (lines + others)) (through changes lines segs)
through_own lines others known changes [] fits all = All-nil (IsOfEarlier (lines + others))
through_own lines others known changes (Entry n ∷ segs) fits all =
    All-append (IsOfEarlier (lines + others)) (segments_on changes n) (through changes lines segs)
    (later lines (lines + others) (segments_on changes n) (omega arith) (own_on lines known changes n fits))
    (through_own lines others known changes segs fits (All-tail (IsOfEarlier others) (Entry n) segs all))
through_own lines others known changes (New offset ∷ segs) fits all =
    let here : offset < others = All-head (IsOfEarlier others) (New offset) segs all in
    All-cons (IsOfEarlier (lines + others)) (New (lines + offset)) (through changes lines segs) (omega (arith, here)) (through_own lines others known changes segs fits (All-tail (IsOfEarlier others) (New offset) segs all))

-- behind all leaves the needle holds what it holds there
pub told_behind_all : (all : List Leaf) (needle : Needle) → IsToldBehind all needle all (Entry needle ∷ [])
told_behind_all all needle = record {
  others = 0;
  lines = omega arith;
  offsets = All-cons (IsOfEarlier 0) (Entry needle) [] tt (All-nil (IsOfEarlier 0));
  told = λ first s goes. (s, goes, sym (append-nil (s.stacks needle)));
}

-- what is told behind some leaves is told behind the first of them, through the summary of the others
pub told_before : (all : List Leaf) (needle : Needle) (front back : List Leaf) (whole : Leaf) (segs : List Seg) → StandTogether (front ++ back) → WholeLeaf back whole → IsToldBehind all needle (front ++ back) segs
    → IsToldBehind all needle front (through whole.0.changes whole.0.lines segs)
told_before all needle front back whole segs s w h =
    let b = stand_laws.back front back s in
    let good = w.good b.carriers b.limit b.known b.good in
    record {
      others = whole.0.lines + h.others;
      lines = omega (arith, h.lines, w.lines, lines_append front back);
      offsets = through_own whole.0.lines h.others b.known whole.0.changes segs good.fair.changes_fit h.offsets;
      told = λ first end goes.
          let behind = h.told first end goes in
          let before = went_before (applied_each front empty_state first) (λ u. applied_each back u (first + leaf_line_count front)) behind.0 (sym (applied_append front back empty_state first) ∙ behind.1) in
          let part : summary_outcome whole.0 before.0 (first + leaf_line_count front) ≡ went_on behind.0 = w.runs_all before.0 (first + leaf_line_count front) ∙ before.2 in
          let there : first + leaf_line_count (front ++ back) ≡ first + leaf_line_count front + whole.0.lines = omega (arith, lines_append front back, w.lines) in
          (before.0, before.1, behind.2 ∙ (ap (λ n. read_segs behind.0 n segs) there ∙ read_before whole.0 before.0 behind.0 (first + leaf_line_count front) segs part));
    }

-- all that is left to read is read on empty beds
read_on_empty : (all : List Leaf) (needle : Needle) (segs : List Seg) (first : ℕ) (s : State) (loops : List ℕ) → IsToldBehind all needle [] segs → applied_each all empty_state first ≡ went_on s → loops ≡ read_segs empty_state first segs → loops ≡ s.stacks needle
read_on_empty all needle segs first s loops h goes is =
    let end = h.told first s goes in
    let none : end.0 ≡ empty_state = sym (ap (λ o. state_in o end.0) end.1) in
    let here : first + 0 ≡ first = omega arith in
    is ∙ sym (end.2 ∙ (ap (λ t. read_segs t (first + 0) segs) none ∙ ap (λ n. read_segs empty_state n segs) here))

-- lines of a text that begins there have numbers of 32 bits
pub own_fit : (few first : ℕ) (segs : List Seg) → first + few < 2 ^ 32 → All (IsOfEarlier few) segs → All (OffsetFits first) segs
own_fit few first [] room all = All-nil (OffsetFits first)
own_fit few first (Entry n ∷ segs) room all = All-cons (OffsetFits first) (Entry n) segs tt (own_fit few first segs room (All-tail (IsOfEarlier few) (Entry n) segs all))
own_fit few first (New offset ∷ segs) room all =
    let here : offset < few = All-head (IsOfEarlier few) (New offset) segs all in
    All-cons (OffsetFits first) (New offset) segs (omega (arith, here, room)) (own_fit few first segs room (All-tail (IsOfEarlier few) (New offset) segs all))

-- the lines that are counted up have numbers of 32 bits
offsets_fit : (all : List Leaf) (needle : Needle) (front back : List Leaf) (whole : Leaf) (segs : List Seg) → StandTogether all → WholeLeaf back whole → IsToldBehind all needle (front ++ back) segs → All (OffsetFits whole.0.lines) segs
offsets_fit all needle front back whole segs s w h = own_fit h.others whole.0.lines segs (omega (arith, h.lines, s.few_lines, w.lines, lines_append front back)) h.offsets

-- A walk back over the parts, told by what the store has at them.
module _ (faces : FacesView) (tables : List (Option (List LoopRow))) (all : List Leaf) (needle : Needle) where
  -- what the needle holds behind all leaves is told behind those of these parts
  abbrev pub IsToldOf : List Child → List Seg → Type 0
  IsToldOf parts segs = (some : List Leaf) × StandTogether some × StandFor WholeLeaf (part (leaf_in faces tables) (node_in faces)) parts some × IsToldBehind all needle some segs

  module _ (parts rest : List Child) (child : Child) (segs : List Seg) (split : parts ≡ rest ++ child ∷ []) (t : IsToldOf parts segs) where
    last : (front : List Leaf) × (back : List Leaf) × (v : Leaf) × (t.0 ≡ front ++ back) × StandFor WholeLeaf (part (leaf_in faces tables) (node_in faces)) rest front × (part (leaf_in faces tables) (node_in faces) child ≡ Some v) × WholeLeaf back v
    last = last_stands WholeLeaf (part (leaf_in faces tables) (node_in faces)) rest child t.0 (subst (λ cs. StandFor WholeLeaf (part (leaf_in faces tables) (node_in faces)) cs t.0) split t.2)

    has_face : face_in faces (child_slot child) ≡ Some last.2.0
    has_face = part_face faces tables child last.2 last.5

    together_there : StandTogether (last.0 ++ last.1)
    together_there = subst StandTogether last.3 t.1

    told_there : IsToldBehind all needle (last.0 ++ last.1) segs
    told_there = subst (λ some. IsToldBehind all needle some segs) last.3 t.3

    -- the last part has a face
    pub part_there : face_in faces (child_slot child) ≡ None → ⊥
    part_there e = let bad : Some last.2.0 ≡ None = sym has_face ∙ e in cc (bad)

    pub part_fits : (summary : Summary) → face_in faces (child_slot child) ≡ Some summary → StandTogether all → All (OffsetFits summary.lines) segs
    part_fits summary e s =
        let same : last.2.0 ≡ summary = same_there (face_in faces (child_slot child)) last.2.0 summary has_face e in
        subst (λ (f : Summary). All (OffsetFits f.lines) segs) same (offsets_fit all needle last.0 last.1 last.2 segs s last.6 told_there)

    -- a part's changes stand in the order of their needles
    pub part_in_order : (summary : Summary) → face_in faces (child_slot child) ≡ Some summary → IsInOrder summary.changes
    part_in_order summary e =
        let same : last.2.0 ≡ summary = same_there (face_in faces (child_slot child)) last.2.0 summary has_face e in
        let b = stand_laws.back last.0 last.1 together_there in
        subst (λ (f : Summary). IsInOrder f.changes) same (last.6.good b.carriers b.limit b.known b.good).fair.in_order

    -- one part less
    pub part_read : (summary : Summary) (next : List Seg) → face_in faces (child_slot child) ≡ Some summary → next ≡ through summary.changes summary.lines segs → IsToldOf rest next
    part_read summary next e is =
        let same : last.2.0 ≡ summary = same_there (face_in faces (child_slot child)) last.2.0 summary has_face e in
        let before = told_before all needle last.0 last.1 last.2 segs together_there last.6 told_there in (
          last.0,
          stand_laws.front last.0 last.1 together_there,
          last.4,
          subst (IsToldBehind all needle last.0) (sym is) (subst (λ (f : Summary). IsToldBehind all needle last.0 (through f.changes f.lines segs)) same before),
        )

  -- no part more
  no_part : (parts : List Child) (segs : List Seg) → length parts ≡ 0 → IsToldOf parts segs → IsToldBehind all needle [] segs
  no_part (child ∷ parts) segs none t = absurd (omega (arith, none))
  no_part [] segs none t = subst (λ some. IsToldBehind all needle some segs) t.2 t.3

  pub lines_fit : (parts : List Child) (segs : List Seg) (first : ℕ) → length parts ≡ 0 → IsToldOf parts segs → first + leaf_line_count all < 2 ^ 32 → All (OffsetFits first) segs
  lines_fit parts segs first none t room =
      let h = no_part parts segs none t in
      own_fit h.others first segs (omega (arith, room, h.lines)) h.offsets

  pub loops_read : (parts : List Child) (segs : List Seg) (first : ℕ) (s : State) (loops : List ℕ) → length parts ≡ 0 → IsToldOf parts segs → applied_each all empty_state first ≡ went_on s → loops ≡ read_segs empty_state first segs → loops ≡ s.stacks needle
  loops_read parts segs first s loops none t goes is = read_on_empty all needle segs first s loops (no_part parts segs none t) goes is
