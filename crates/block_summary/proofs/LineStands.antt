-- The summary of a line stands for it.
use Rattle.std.proofs.Common.{◌≡◌, ℕ, ◌+◌, ◌-◌, ◌≤◌, Bool, true, false, cond, List, [], ◌∷◌, ◌++◌, length, map, Option, None, Some, unwrap_or, refl, sym, ap, ◌∙◌, arith}
use Rattle.std.specs.Option.{option_map, option_to_list}
use Rattle.std.specs.List.Sorted.{IsStrictlySortedBy}
use Rattle.std.proofs.lemmas.List.{append-nil}
use Rattle.knit_base.specs.declared.instr.Instr.{Instr}
use Rattle.knit_base.specs.declared.instr.Instr.TheVariants.{Knit, Tuck, Split, Xfer, Drop}
use Rattle.knit_base.specs.declared.instr.Read.{Read}
use Rattle.knit_base.specs.declared.instr.Read.TheVariants as read
use Rattle.knit_base.specs.declared.needle.Needle.{Needle}
use Rattle.knit_base.specs.declared.needle.Dir.{Dir}
use Rattle.knit_base.specs.declared.profile.Profile.{Profile}
use Rattle.knit_base.specs.declared.rule.Fault.{Fault}
use Rattle.knit_base.specs.declared.rule.Reason.{Reason}
use Rattle.knit_base.specs.declared.rule.Rule.TheVariants.{NotAligned, SliderHolds, TooManyLoops}
use Rattle.knit_base.specs.declared.yarns.CarrierNo.{CarrierNo}
use Rattle.knit_base.specs.Needle.{same_needle, same_needle-true, own_slider, rack_facing}
use Rattle.knit_base.specs.Reasons.{or_else}
use Rattle.std.specs.Ordering.{int_eq}
use Rattle.carriage_model.specs.declared.verdict.LoopFact.{LoopFact}
use Rattle.carriage_model.specs.Loops.{loop_formed, loop_of_instr, made_on}
use Rattle.carriage_model.specs.Rules.{broken_instr, carrier_broken, float_broken, rack_broken, slider_broken, slider_broken_on, size_broken, tuck_too_many}
use Rattle.carriage_model.specs.Run.{Ended, run_on}
use Rattle.carriage_model.specs.Run.Ended.{Ends}
use Rattle.carriage_model.specs.State.{State}
use Rattle.carriage_model.specs.Steps.{kept_lasts, step, step_instr}
use Rattle.face_data.specs.declared.face.Cond.{Cond}
use Rattle.face_data.specs.declared.face.Ending.TheVariants.{Through}
use Rattle.face_data.specs.declared.face.Seg.{Seg}
use Rattle.face_data.specs.declared.face.Seg.TheVariants.{Entry, New}
use Rattle.face_data.specs.Conditions.{Ask, ask_of, holds, broken_unless, first_unmet}
use Rattle.face_data.specs.Conditions.Ask.{rack_is, size_at_most}
use Rattle.face_data.specs.Items.{set_items}
use Rattle.face_data.specs.Lasts.{lasts_after, lasts_of_both}
use Rattle.knit_base.specs.Instr.{forming_needle, formed_on}
use Rattle.face_data.specs.Segments.{segments_on, read_segs, AreRead}
use Rattle.face_data.specs.Stands.{StandsFor, outcome_of_run}
use Rattle.face_data.specs.Summaries.{AskedCondition, first_fault, state_after_changes, outcome_of, fault_raised}
use Rattle.face_data.specs.Summaries.Outcome.{went_on, faulted}
use Rattle.face_data.proofs.Drafts.{no_lines-applied}
use Rattle.face_data.proofs.Gathering.{or_else as fault_or_else, first_fault-append}
use Rattle.face_data.proofs.ChangeLists.{or_change, change_at-merged}
use Rattle.face_data.proofs.Conditions.{broken-unless}
use Rattle.carrier_rules.specs.Carriers.{early_of, effect_of, float_conditions, lasts_of}
use Rattle.carrier_rules.proofs.EachCarrier.{conds-broken, floats-broken}
use Rattle.carrier_rules.proofs.Effects.{effect-is}
use Rattle.slider_rules.proofs.Sliders.{slider-unmet}
use Rattle.bed_rules.specs.Beds.{changes_of, segments_after, tuck_rules}
use Rattle.bed_rules.proofs.Stacks.{changed-read}
use Rattle.bed_rules.proofs.SizeRules.{both-unmet, one-unmet}
use Rattle.block_summary.specs.LineSummaries.{asked_for, plainly_asked, rack_asked, asked_of_sizes, slider_asked, sizes_asked, near_asked, conditions_of_instr, gone_over, line_changes, line_summary}
use Rattle.block_summary.proofs.LineLasts.{lasts_put}

-- the fault of a line that is broken for this reason
abbrev at_line : Option Reason → Option Fault
at_line o = option_map (λ reason. record { line = 0; reason = reason }) o

later_at_line : (met : Bool) (reason : Reason) (rest : Option Fault) (more : Option Reason) → rest ≡ at_line more →
    (cond met rest (Some (record { line = 0; reason = reason }))) ≡ at_line (or_else (broken_unless met reason) more)
later_at_line true reason rest more is = is
later_at_line false reason rest more is = refl

-- one condition
alone_at_line : (ask : Ask) (reason : Reason) (s : State) → first_fault (asked_for reason ask ∷ []) s ≡ at_line (broken_unless (holds ask s) reason)
alone_at_line ask reason s = go (holds ask s)
  where
    go : (met : Bool) → cond met None (Some (record { line = 0; reason = reason })) ≡ at_line (broken_unless met reason)
    go true = refl
    go false = refl

-- the conditions on carriers and the hook
plain_faults : (conds : List (Reason × Cond)) (s : State) → first_fault (map plainly_asked conds) s ≡ at_line (first_unmet conds s)
plain_faults [] s = refl
plain_faults (c ∷ cs) s = later_at_line (holds (ask_of [] c.1) s) c.0 (first_fault (map plainly_asked cs) s) (first_unmet cs s) (plain_faults cs s)

-- two lists of conditions for two reasons
both_at_line : (xs ys : List AskedCondition) (first second : Option Reason) (s : State) → first_fault xs s ≡ at_line first → first_fault ys s ≡ at_line second →
    first_fault (xs ++ ys) s ≡ at_line (or_else first second)
both_at_line xs ys first second s one two = first_fault-append xs ys s ∙ (λ i. fault_or_else (one i) (two i)) ∙ join first
  where
    join : (o : Option Reason) → fault_or_else (at_line o) (at_line second) ≡ at_line (or_else o second)
    join None = refl
    join (Some reason) = refl

rack_faults : (instr : Instr) (s : State) → first_fault (rack_asked instr) s ≡ at_line (rack_broken instr s)
rack_faults (Split dir n n2 cs) s =
    alone_at_line (rack_is (rack_facing n n2)) (record { rule = NotAligned; at = 3 }) s ∙ ap at_line (sym (broken-unless (int_eq s.rack (rack_facing n n2)) NotAligned 3))
rack_faults (Xfer n n2) s =
    alone_at_line (rack_is (rack_facing n n2)) (record { rule = NotAligned; at = 2 }) s ∙ ap at_line (sym (broken-unless (int_eq s.rack (rack_facing n n2)) NotAligned 2))
rack_faults instr s = refl

slider_faults : (on : Option Needle) (s : State) → first_fault (slider_asked on) s ≡ at_line (slider_broken_on on s)
slider_faults None s = refl
slider_faults (Some n) s = alone_at_line (size_at_most (own_slider n ∷ []) 0) (record { rule = SliderHolds; at = 2 }) s ∙ ap at_line (sym (slider-unmet n s))

room_faults : (profile : Profile) (n : Needle) (cs : List CarrierNo) (s : State) → 1 ≤ profile.hold →
    first_fault (map asked_of_sizes (tuck_rules profile.hold n cs)) s ≡ at_line (tuck_too_many profile n cs s)
room_faults profile n [] s some = refl
room_faults profile n (c ∷ cs) s some = alone_at_line (size_at_most (n ∷ []) (profile.hold - 1)) (record { rule = TooManyLoops; at = 2 }) s ∙ ap at_line (sym (one-unmet profile n s some))

size_faults : (profile : Profile) (instr : Instr) (s : State) → 1 ≤ profile.hold → first_fault (sizes_asked profile.hold instr) s ≡ at_line (size_broken profile instr s)
size_faults profile (Tuck dir n cs) s some = room_faults profile n cs s some
size_faults profile (Split dir n n2 cs) s some = alone_at_line (size_at_most (n2 ∷ n ∷ []) profile.hold) (record { rule = TooManyLoops; at = 3 }) s ∙ ap at_line (sym (both-unmet profile n n2 3 s))
size_faults profile (Xfer n n2) s some = alone_at_line (size_at_most (n2 ∷ n ∷ []) profile.hold) (record { rule = TooManyLoops; at = 2 }) s ∙ ap at_line (sym (both-unmet profile n n2 2 s))
size_faults profile instr s some = refl

near_faults : (profile : Profile) (instr : Instr) (s : State) → first_fault (near_asked profile.float instr) s ≡ at_line (float_broken profile instr s)
near_faults profile instr s = plain_faults (float_conditions profile.float instr) s ∙ ap at_line (sym (floats-broken profile instr s))

-- The first condition of the line that doesn't hold is the first rule that the line breaks.
pub line_faults : (profile : Profile) (instr : Instr) (s : State) → 1 ≤ profile.hold → first_fault (conditions_of_instr profile instr) s ≡ at_line (broken_instr profile instr s)
line_faults profile instr s some =
    let on : List AskedCondition = slider_asked (forming_needle instr) in
    let sizes : List AskedCondition = sizes_asked profile.hold instr in
    let near : List AskedCondition = near_asked profile.float instr in
    let last : Option Reason = or_else (size_broken profile instr s) (float_broken profile instr s) in
    both_at_line (map plainly_asked (early_of instr)) (rack_asked instr ++ (on ++ (sizes ++ near)))
    (carrier_broken instr s) (or_else (rack_broken instr s) (or_else (slider_broken instr s) last)) s
    (plain_faults (early_of instr) s ∙ ap at_line (sym (conds-broken instr s)))
    (both_at_line (rack_asked instr) (on ++ (sizes ++ near)) (rack_broken instr s) (or_else (slider_broken instr s) last) s
    (rack_faults instr s)
    (both_at_line on (sizes ++ near) (slider_broken instr s) last s
    (slider_faults (forming_needle instr) s)
    (both_at_line sizes near (size_broken profile instr s) (float_broken profile instr s) s (size_faults profile instr s some) (near_faults profile instr s))))

-- what a needle holds after the line, as the rules on needles have it
knit_held : (here : Bool) (own : List Seg) → unwrap_or (cond here (Some (New 0 ∷ [])) None) own ≡ cond here (unwrap_or (cond here (Some []) None) own ++ New 0 ∷ []) (unwrap_or (cond here (Some []) None) own)
knit_held true own = refl
knit_held false own = refl

tuck_held : (n m : Needle) (here : Bool) → same_needle m n ≡ here → unwrap_or (cond here (Some (Entry n ∷ New 0 ∷ [])) None) (Entry m ∷ []) ≡ cond here (Entry m ∷ New 0 ∷ []) (Entry m ∷ [])
tuck_held n m true same = ap (λ q. Entry q ∷ New 0 ∷ []) (sym (same_needle-true m n same))
tuck_held n m false other = refl

over_held : (here there : Bool) (left both own : List Seg) → unwrap_or (or_change (cond here (Some left) None) (cond there (Some both) None)) own ≡ unwrap_or (cond here (Some left) (cond there (Some both) None)) own
over_held true there left both own = refl
over_held false there left both own = refl

split_held : (here there : Bool) (both own : List Seg) → unwrap_or (cond here (Some (New 0 ∷ [])) (cond there (Some both) None)) own
    ≡ cond here (unwrap_or (cond here (Some []) (cond there (Some both) None)) own ++ New 0 ∷ []) (unwrap_or (cond here (Some []) (cond there (Some both) None)) own)
split_held true there both own = refl
split_held false there both own = refl

-- what a needle holds after loops went over
pub gone_over-segments : (n n2 m : Needle) (left : List Seg) →
    segments_on (gone_over n n2 left) m ≡ unwrap_or (cond (same_needle m n) (Some left) (cond (same_needle m n2) (Some (Entry n2 ∷ Entry n ∷ [])) None)) (Entry m ∷ [])
unfolding IsStrictlySortedBy
gone_over-segments n n2 m left =
    ap (λ o. unwrap_or o (Entry m ∷ [])) (change_at-merged ((n2, Entry n2 ∷ Entry n ∷ []) ∷ []) ((n, left) ∷ []) m (tt, tt))
    ∙ over_held (same_needle m n) (same_needle m n2) left (Entry n2 ∷ Entry n ∷ []) (Entry m ∷ [])

line_held : (instr : Instr) (m : Needle) → segments_on (line_changes instr) m ≡ segments_after [] (changes_of instr []) (forming_needle instr) 0 m
line_held (Knit dir n []) m = refl
line_held (Knit dir n (c ∷ cs)) m = knit_held (same_needle m n) (Entry m ∷ [])
line_held (Tuck dir n []) m = refl
line_held (Tuck dir n (c ∷ cs)) m = tuck_held n m (same_needle m n) refl
line_held (Split dir n n2 []) m = gone_over-segments n n2 m []
line_held (Split dir n n2 (c ∷ cs)) m =
    gone_over-segments n n2 m (New 0 ∷ []) ∙ split_held (same_needle m n) (same_needle m n2) (Entry n2 ∷ Entry n ∷ []) (Entry m ∷ [])
line_held (Xfer n n2) m = gone_over-segments n n2 m []
line_held (Drop n) m = refl
line_held instr m = refl

own_read : (s : State) (first : ℕ) → AreRead [] s first s.stacks
own_read s first n = sym (append-nil (s.stacks n))

-- the state that the line makes
pub line_after : (profile : Profile) (instr : Instr) (s : State) (first : ℕ) →
    state_after_changes (effect_of instr) (lasts_of_both [] (lasts_of profile.float instr)) (line_changes instr) s first ≡ step profile first (read.Instr instr) s
line_after profile instr s first =
    let effect = effect-is instr in
    let lasts : (c : CarrierNo) → lasts_after (lasts_of_both [] (lasts_of profile.float instr)) s.lasts c ≡ kept_lasts profile.float instr s.lasts c
    = λ c. lasts_put profile.float instr s.lasts c in
    let stacks : (m : Needle) → read_segs s first (segments_on (line_changes instr) m) ≡ (step_instr first instr s).stacks m
    = λ m. ap (read_segs s first) (line_held instr m) ∙ sym (changed-read [] instr s s first 0 (own_read s first) m)
    ∙ ap (λ k. (step_instr k instr s).stacks m) (let e : first + 0 ≡ first = omega arith in e) in
    λ i. record {
      rack = effect.rack first s i;
      ins = effect.ins first s i;
      hook = effect.hook first s i;
      lasts = λ c. lasts c i;
      stacks = λ m. stacks m i;
    }

fault_here : (first : ℕ) (reason : Reason) → fault_raised first (record { line = 0; reason = reason }) ≡ record { line = first; reason = reason }
fault_here first reason = let same : first + 0 ≡ first = omega arith in λ i. record { line = same i; reason = reason }

instr_outcome : (profile : Profile) (o : Option Reason) (instr : Instr) (s : State) (first : ℕ) →
    outcome_of (at_line o) (Through (effect_of instr)) (lasts_of_both [] (lasts_of profile.float instr)) (line_changes instr) s first
    ≡ outcome_of_run (run_on first o s (Ends (step profile first (read.Instr instr) s)))
instr_outcome profile None instr s first = ap went_on (line_after profile instr s first)
instr_outcome profile (Some reason) instr s first = ap faulted (fault_here first reason)

made_if_none : (o : Option Reason) (fact : Option LoopFact) (count first : ℕ) (s t : State) (rest : Ended) → run_on first o s rest ≡ Ends t →
    length (option_to_list fact) ≡ count → length (made_on o fact []) ≡ count
made_if_none None fact count first s t rest ends is = ap length (append-nil (option_to_list fact)) ∙ is
made_if_none (Some reason) fact count first s t rest ends is = absurd (cc)

formed_items : (k : ℕ) (dir : Dir) (n : Needle) (cs : List CarrierNo) (through : List ℕ) → length (option_to_list (loop_formed k dir n cs through)) ≡ set_items (formed_on n cs)
formed_items k dir n [] through = refl
formed_items k dir n (c ∷ cs) through = refl

loop_items : (instr : Instr) (k : ℕ) (s : State) → length (option_to_list (loop_of_instr k instr s)) ≡ set_items (forming_needle instr)
loop_items (Knit dir n cs) k s = formed_items k dir n cs (s.stacks n)
loop_items (Tuck dir n cs) k s = formed_items k dir n cs []
loop_items (Split dir n n2 cs) k s = formed_items k dir n cs (s.stacks n)
loop_items instr k s = refl

-- The summary of a line stands for it.
pub line_stands : (profile : Profile) (r : Read) → 1 ≤ profile.hold → StandsFor profile (line_summary profile r) (r ∷ [])
line_stands profile read.Blank some = record { lines_are = refl; outcome = λ s first. no_lines-applied s first; made_are = λ s t first ends. refl }
line_stands profile read.Comment some = record { lines_are = refl; outcome = λ s first. no_lines-applied s first; made_are = λ s t first ends. refl }
line_stands profile (read.Broken reason) some = record {
  lines_are = refl;
  outcome = λ s first. ap faulted (fault_here first reason);
  made_are = λ s t first ends. absurd (cc);
}
line_stands profile (read.Instr instr) some = record {
  lines_are = refl;
  outcome = λ s first.
      ap (λ o. outcome_of o (Through (effect_of instr)) (lasts_of_both [] (lasts_of profile.float instr)) (line_changes instr) s first) (line_faults profile instr s some)
      ∙ instr_outcome profile (broken_instr profile instr s) instr s first;
  made_are = λ s t first ends.
      made_if_none (broken_instr profile instr s) (loop_of_instr first instr s) (set_items (forming_needle instr)) first s t (Ends (step profile first (read.Instr instr) s)) ends
      (loop_items instr first s);
}
