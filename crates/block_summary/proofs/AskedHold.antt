-- Conditions that were asked hold after the lines.
use Rattle.std.proofs.Common.{◌≡◌, ℕ, true, List, [], ◌∷◌, ◌++◌, Option, None, Some, refl, sym, ap, ◌∙◌, subst, inl, inr, ◌⊎◌}
use Rattle.std.specs.List.{Contains}
use Rattle.std.proofs.lemmas.Bool.{le-leb, and_from}
use Rattle.std.proofs.lemmas.Bool.Decides.{Decides-eqb, Decides-int_eq}
use Rattle.std.specs.Prelude.{nat_eq, nat_le, ◌&&◌}
use Rattle.std.specs.Ordering.{int_eq}
use Rattle.knit_base.specs.declared.needle.Needle.{Needle}
use Rattle.face_data.specs.declared.bearing.Bearing.TheVariants.{Implied, Silent}
use Rattle.face_data.specs.declared.face.Effect.{Effect}
use Rattle.face_data.specs.declared.face.Last.{Last}
use Rattle.face_data.specs.Answers.{ConditionAnswer, read_answer}
use Rattle.face_data.specs.Answers.ConditionAnswer.{yes_it_does, no_it_does_not, asks}
use Rattle.face_data.specs.Bearings.{bearing, if_so, all_in, same_or_not}
use Rattle.face_data.specs.Composition.{against_kept, from_bearing, next, reads, answer_of_kept}
use Rattle.face_data.specs.Conditions.{Ask}
use Rattle.face_data.specs.Conditions.Ask.{rack_is, carrier_in, carrier_out, hook_free, hook_is, hook_lacks, size_at_most, last_near}
use Rattle.face_data.specs.Segments.{Changed}
use Rattle.face_data.specs.Summaries.{AskedCondition, Summary, fault_raised}
use Rattle.face_data.specs.Composition.{Gathering, gathering_closed, composed, composed_at}
use Rattle.face_data.specs.Segments.{segments_on}
use Rattle.face_data.specs.declared.face.Ending.TheVariants.{Through}
use Rattle.face_data.proofs.Front.{AllHold, reads-hold}
use Rattle.face_data.proofs.Items.{all_in_from}
use Rattle.face_data.proofs.KeptChecks.{against_asks, reads_keep}
use Rattle.face_data.proofs.Members.{Contains-none, Contains-head, Contains-cons_cases}
use Rattle.std.proofs.Common.{arith, ◌≤◌, length, map, IfSome}
use Rattle.knit_base.specs.declared.instr.Instr.TheVariants.{Knit}
use Rattle.knit_base.specs.declared.instr.Read.TheVariants as read
use Rattle.knit_base.specs.declared.needle.Dir.{Dir}
use Rattle.knit_base.specs.declared.yarns.CarrierNo.{CarrierNo}
use Rattle.face_data.specs.declared.face.Seg.{Seg}
use Rattle.std.proofs.lemmas.List.Elements.{Contains-append_left, Contains-append_right}
use Rattle.knit_base.specs.declared.instr.Instr.{Instr}
use Rattle.knit_base.specs.Instr.{forming_needle}
use Rattle.knit_base.specs.Needle.{own_slider}
use Rattle.knit_base.specs.declared.profile.Profile.{Profile}
use Rattle.carrier_rules.specs.Carriers.{early_of}
use Rattle.slider_rules.specs.Sliders.{bare_slider}
use Rattle.block_summary.specs.DraftKnowledge.{AreNearIn, HasAskedAll, HoldsAfter, effect_in, reads_after}
use Rattle.block_summary.specs.declared.line.DraftedLineEnd.{DraftedLineEnd}
use Rattle.block_summary.specs.declared.line.DraftedLineEnd.TheVariants.{GoesOn, Stops}
use Rattle.block_summary.specs.LineEnds.{EndsAs, loop_of_line}
use Rattle.block_summary.specs.LineSummaries.{line_summary, conditions_of_instr, asked_of_sizes, near_asked, plainly_asked, rack_asked, sizes_asked, slider_asked}
use Rattle.block_summary.proofs.DraftSteps.{held_more, no_limit}
use Rattle.block_summary.proofs.LineSteps.{asked_all_gathers}

same_number : (n : ℕ) → nat_eq n n ≡ true
same_number n = (Decides-eqb n n).1 refl

-- a condition implies itself
pub implies_itself : (q : Ask) → bearing q q ≡ Implied
unfolding bearing
implies_itself (rack_is q) = ap same_or_not ((Decides-int_eq q q).1 refl)
implies_itself (carrier_in c) = ap (λ b. if_so b Implied) (same_number c.0)
implies_itself (carrier_out c) = ap (λ b. if_so b Implied) (same_number c.0)
implies_itself hook_free = refl
implies_itself (hook_is set) = ap same_or_not (same_number set)
implies_itself (hook_lacks c) = ap (λ b. if_so b Implied) (same_number c.0)
implies_itself (last_near c at float) =
    ap (λ b. if_so b Implied)
    (and_from (nat_eq c.0 c.0) (int_eq at at && nat_eq float float) (same_number c.0) (and_from (int_eq at at) (nat_eq float float) ((Decides-int_eq at at).1 refl) (same_number float)))
implies_itself (size_at_most names most) =
    ap (λ b. if_so b Implied) (and_from (all_in names names) (nat_le most most) (all_in_from names names (λ n there. there)) (le-leb most most (omega arith)))

last_implies : (kept : List AskedCondition) (c : AskedCondition) (w : Ask) → ((k : AskedCondition) → Contains kept k → bearing k.ask w ≡ Silent) → bearing c.ask w ≡ Implied → answer_of_kept (kept ++ c ∷ []) w ≡ yes_it_does
unfolding answer_of_kept
last_implies [] c w silent implied = ap (λ b. from_bearing b (asks w)) implied
last_implies (k ∷ ks) c w silent implied =
    ap (λ b. from_bearing b (answer_of_kept (ks ++ c ∷ []) w)) (silent k (Contains-head k ks))
    ∙ last_implies ks c w (λ x there. silent x (Contains-append_right (k ∷ []) ks x there)) implied

-- what is known to hold stays known
still_holds : (e : Effect) (la : List Last) (a : List Changed) (lines : ℕ) (kept rest : List AskedCondition) (r : ConditionAnswer) → against_kept kept r ≡ yes_it_does → against_kept (reads e la a lines kept rest).checks r ≡ yes_it_does
still_holds e la a lines kept rest r holds =
    reads_keep (λ ks. against_kept ks r ≡ yes_it_does) e la a lines kept rest holds (λ ks d w there is none held. held_more ks (record { fault = fault_raised lines d.fault; ask = w }) r held)

-- A condition among those that were asked holds after them, where none of them stops the lines.
asked_holds : (e : Effect) (la : List Last) (a : List Changed) (lines : ℕ) (kept rest : List AskedCondition) (d : AskedCondition) → (reads e la a lines kept rest).stop ≡ None → Contains rest d →
    against_kept (reads e la a lines kept rest).checks (read_answer e la a d.ask) ≡ yes_it_does
unfolding reads
asked_holds e la a lines kept [] d goes there = absurd (Contains-none d there)
asked_holds e la a lines kept (c ∷ cs) d goes there =
    go (against_kept kept (read_answer e la a c.ask)) refl goes (λ ks goes_on later. asked_holds e la a lines ks cs d goes_on later) (Contains-cons_cases c cs d there)
  where
    go : (r : ConditionAnswer) → against_kept kept (read_answer e la a c.ask) ≡ r → (next r kept (fault_raised lines c.fault) (λ ks. reads e la a lines ks cs)).stop ≡ None →
        ((ks : List AskedCondition) → (reads e la a lines ks cs).stop ≡ None → Contains cs d → against_kept (reads e la a lines ks cs).checks (read_answer e la a d.ask) ≡ yes_it_does) →
        ((c ≡ d) ⊎ Contains cs d) →
        against_kept (next r kept (fault_raised lines c.fault) (λ ks. reads e la a lines ks cs)).checks (read_answer e la a d.ask) ≡ yes_it_does
    go yes_it_does says goes ih (inl same) =
        still_holds e la a lines kept cs (read_answer e la a d.ask) (ap (λ (x : AskedCondition). against_kept kept (read_answer e la a x.ask)) (sym same) ∙ says)
    go yes_it_does says goes ih (inr later) = ih kept goes later
    go no_it_does_not says goes ih found = absurd (cc)
    go (asks w) says goes ih (inr later) = ih (kept ++ record { fault = fault_raised lines c.fault; ask = w } ∷ []) goes later
    go (asks w) says goes ih (inl same) =
        let both = against_asks kept (read_answer e la a c.ask) w says in
        let answer : read_answer e la a d.ask ≡ asks w = ap (λ (x : AskedCondition). read_answer e la a x.ask) (sym same) ∙ both.0 in
        let new : AskedCondition = record { fault = fault_raised lines c.fault; ask = w } in
        still_holds e la a lines (kept ++ new ∷ []) cs (read_answer e la a d.ask)
        (ap (against_kept (kept ++ new ∷ [])) answer ∙ last_implies kept new w both.1 (implies_itself w))

slider_there : (on : Option Needle) (n : Needle) → on ≡ Some n → Contains (slider_asked on) (asked_of_sizes (bare_slider n))
slider_there None n is = absurd (cc)
slider_there (Some m) n is =
    let same : m ≡ n = cc in subst (λ x. Contains (asked_of_sizes (bare_slider m) ∷ []) (asked_of_sizes (bare_slider x))) same (Contains-head (asked_of_sizes (bare_slider m)) [])

after_rest : (old mid : Summary) (q : Ask) → mid ≡ record old { checks = mid.checks } → against_kept mid.checks (read_answer (effect_in old.ending) old.lasts old.changes q) ≡ yes_it_does → HoldsAfter mid q
after_rest old mid q rest holds =
    ap (λ (s : Summary). against_kept mid.checks (read_answer (effect_in s.ending) s.lasts s.changes q)) rest ∙ holds

gathered_as : (mid : Summary) → reads_after mid [] ≡ record { checks = mid.checks; stop = None }
unfolding reads
gathered_as mid = refl

-- What is known to hold stays known after conditions were asked.
pub stays_known : (old mid : Summary) (all : List AskedCondition) (q : Ask) → HasAskedAll old mid all None → HoldsAfter old q → HoldsAfter mid q
stays_known old mid all q asked holds =
    let gathering : reads_after old all ≡ record { checks = mid.checks; stop = None } = asked_all_gathers old mid all None asked ∙ gathered_as mid in
    let answer : ConditionAnswer = read_answer (effect_in old.ending) old.lasts old.changes q in
    after_rest old mid q asked.rest_stays
    (ap (λ (g : Gathering). against_kept g.checks answer) (sym gathering)
    ∙ still_holds (effect_in old.ending) old.lasts old.changes old.lines old.checks all answer holds)

-- so do floats that are short enough
pub near_after : (old mid : Summary) (all : List AskedCondition) (limit : Option ℕ) (n : Needle) (cs : List CarrierNo) → HasAskedAll old mid all None → AreNearIn old limit n cs → AreNearIn mid limit n cs
near_after old mid all limit n cs asked near = λ float c limited there. stays_known old mid all (last_near c n.at float) asked (near float c limited there)

-- and where there is no limit all are
pub near_free : (old : Summary) (limit : Option ℕ) (n : Needle) (cs : List CarrierNo) → limit ≡ None → AreNearIn old limit n cs
near_free old limit n cs free = λ float c limited there. absurd (no_limit float (sym free ∙ limited))

-- After a line's conditions the own slider of the needle on which it forms a loop is known to hold nothing.
pub slider_asked_holds : (profile : Profile) (instr : Instr) (old mid : Summary) (n : Needle) → forming_needle instr ≡ Some n → HasAskedAll old mid (conditions_of_instr profile instr) None →
    HoldsAfter mid (size_at_most (own_slider n ∷ []) 0)
unfolding reads
slider_asked_holds profile instr old mid n on asked =
    let all = asked_all_gathers old mid (conditions_of_instr profile instr) None asked in
    let later : List AskedCondition = sizes_asked profile.hold instr ++ near_asked profile.float instr in
    let there : Contains (conditions_of_instr profile instr) (asked_of_sizes (bare_slider n)) =
    Contains-append_right (map plainly_asked (early_of instr)) (rack_asked instr ++ (slider_asked (forming_needle instr) ++ later)) (asked_of_sizes (bare_slider n))
    (Contains-append_right (rack_asked instr) (slider_asked (forming_needle instr) ++ later) (asked_of_sizes (bare_slider n))
    (Contains-append_left (slider_asked (forming_needle instr)) later (asked_of_sizes (bare_slider n)) (slider_there (forming_needle instr) n on))) in
    after_rest old mid (size_at_most (own_slider n ∷ []) 0) asked.rest_stays
    (ap (λ (g : Gathering). against_kept g.checks (read_answer (effect_in old.ending) old.lasts old.changes (size_at_most (own_slider n ∷ []) 0))) (sym all)
    ∙ asked_holds (effect_in old.ending) old.lasts old.changes old.lines old.checks (conditions_of_instr profile instr) (asked_of_sizes (bare_slider n)) (ap (λ (g : Gathering). g.stop) all) there)

-- the same, if it forms one
pub some_slider_holds : (profile : Profile) (instr : Instr) (old mid : Summary) (on : Option Needle) → on ≡ forming_needle instr → HasAskedAll old mid (conditions_of_instr profile instr) None →
    IfSome on (λ n. HoldsAfter mid (size_at_most (own_slider n ∷ []) 0))
some_slider_holds profile instr old mid None is asked = tt
some_slider_holds profile instr old mid (Some n) is asked = slider_asked_holds profile instr old mid n (sym is) asked

-- Asking a line's conditions once more changes nothing.
pub asked_again : (profile : Profile) (instr : Instr) (old mid : Summary) → old.ending ≡ Through (effect_in old.ending) → HasAskedAll old mid (conditions_of_instr profile instr) None →
    composed mid (line_summary profile (read.Instr instr)) ≡ composed old (line_summary profile (read.Instr instr))
asked_again profile instr old mid through asked =
    let line : Summary = line_summary profile (read.Instr instr) in
    let e : Effect = effect_in old.ending in
    let between : Summary = record old { checks = mid.checks } in
    let all : reads_after old (conditions_of_instr profile instr) ≡ record { checks = mid.checks; stop = None } = asked_all_gathers old mid (conditions_of_instr profile instr) None asked ∙ gathered_as mid in
    let known : AllHold e old.lasts old.changes mid.checks (conditions_of_instr profile instr) =
    λ d there. ap (λ (g : Gathering). against_kept g.checks (read_answer e old.lasts old.changes d.ask)) (sym all)
    ∙ asked_holds e old.lasts old.changes old.lines old.checks (conditions_of_instr profile instr) d (ap (λ (g : Gathering). g.stop) all) there in
    ap (λ (s : Summary). composed s line) asked.rest_stays
    ∙ ap (λ ending. composed_at ending between line) through
    ∙ ap (λ (g : Gathering). gathering_closed g e between line) (reads-hold e old.lasts old.changes old.lines mid.checks (conditions_of_instr profile instr) known)
    ∙ ap (λ (g : Gathering). gathering_closed g e old line) (sym all)
    ∙ ap (λ ending. composed_at ending old line) (sym through)

-- How a line ends whose conditions were asked before.
pub ends_after_asking : (profile : Profile) (instr : Instr) (old mid new : Summary) (end : DraftedLineEnd) → old.ending ≡ Through (effect_in old.ending) → HasAskedAll old mid (conditions_of_instr profile instr) None →
    EndsAs profile (read.Instr instr) mid new end → EndsAs profile (read.Instr instr) old new end
ends_after_asking profile instr old mid new (GoesOn formed) through asked ends =
    (ends.0 ∙ asked_again profile instr old mid through asked, ends.1 ∙ ap (λ (s : Summary). loop_of_line (read.Instr instr) s.changes) asked.rest_stays)
ends_after_asking profile instr old mid new (Stops fault) through asked ends = sym (asked_again profile instr old mid through asked) ∙ ends

-- A knit of which all is known.
pub knit_ends : (profile : Profile) (dir : Dir) (n : Needle) (cs yarns : List CarrierNo) (through : List Seg) (old new : Summary) → 1 ≤ length cs →
    ((x : CarrierNo) (xs : List CarrierNo) → cs ≡ x ∷ xs → new ≡ composed old (line_summary profile (read.Instr (Knit dir n (x ∷ xs))))) →
    yarns ≡ cs → through ≡ segments_on old.changes n →
    EndsAs profile (read.Instr (Knit dir n cs)) old new (GoesOn (Some (record { needle = n; dir = dir; yarns = yarns; through = through })))
knit_ends profile dir n [] yarns through old new some summary same drawn = absurd (omega (arith, some))
knit_ends profile dir n (c ∷ cs) yarns through old new some summary same drawn =
    (summary c cs refl, λ i. Some (record { needle = n; dir = dir; yarns = same i; through = drawn i }))
