-- One line more: its conditions one after the other, and what it changes.
use Rattle.std.proofs.Common.{◌≡◌, ℕ, ◌+◌, ◌-◌, ◌<◌, ◌≤◌, Bool, true, false, cond, filter, List, [], ◌∷◌, ◌++◌, length, drop, get_or, map, All, Option, None, Some, IfSome, refl, sym, ap, ◌∙◌, subst, arith, append_assoc}
use Rattle.std.specs.Option.{option_map, option_to_list}
use Rattle.std.specs.Prelude.{ℤ}
use Rattle.std.proofs.lemmas.Bool.{true≢false}
use Rattle.std.proofs.lemmas.Int.{ints}
use Rattle.std.proofs.lemmas.List.{append-nil, drop_more, drop_all, get_or-map, length-map}
use Rattle.std.proofs.lemmas.List.Elements.{All-nil, All-cons, All-append, All-head, All-tail}
use Rattle.knit_base.specs.declared.instr.Instr.{Instr}
use Rattle.knit_base.specs.declared.instr.Instr.TheVariants.{CarryIn, CarryOut, HookIn, HookOut, ReleaseHook, Pause, Knit, Tuck, Miss, Split, Xfer}
use Rattle.knit_base.specs.declared.instr.Quarter.{Quarter}
use Rattle.knit_base.specs.declared.instr.Read.TheVariants as read
use Rattle.knit_base.specs.declared.needle.Needle.{Needle}
use Rattle.knit_base.specs.declared.profile.Profile.{Profile}
use Rattle.knit_base.specs.declared.rule.Fault.{Fault}
use Rattle.knit_base.specs.declared.rule.Reason.{Reason}
use Rattle.knit_base.specs.declared.yarns.CarrierNo.{CarrierNo}
use Rattle.knit_base.specs.Instr.{forming_needle}
use Rattle.knit_base.specs.Lawful.{IsLawfulInstr}
use Rattle.face_data.specs.declared.face.Cond.{Cond}
use Rattle.face_data.specs.declared.face.Cond.TheVariants.{LastNear}
use Rattle.face_data.specs.declared.face.Ending.TheVariants.{Through, Broken}
use Rattle.face_data.specs.declared.sizes.SizeAsk.{SizeAsk}
use Rattle.face_data.specs.Answers.{ConditionAnswer, read_answer}
use Rattle.face_data.specs.Answers.ConditionAnswer.{yes_it_does, no_it_does_not, asks}
use Rattle.face_data.specs.Composition.{Gathering, against_kept, gathering_closed, composed, composed_at, effect_of_both, changes_merged, next, reads}
use Rattle.face_data.specs.Conditions.{Ask, ask_of, broken_unless}
use Rattle.face_data.specs.Conditions.Ask.{size_at_most}
use Rattle.face_data.specs.Digests.{IsPlainCondition, IsUnsized}
use Rattle.face_data.specs.Drafts.{no_effect}
use Rattle.face_data.specs.Goodness.{IsInOrder}
use Rattle.face_data.specs.Items.{set_items}
use Rattle.face_data.specs.Lasts.{lasts_of_both}
use Rattle.face_data.specs.Segments.{Changed}
use Rattle.face_data.specs.Sizes.{SizeRule, size_ask, size_asks}
use Rattle.face_data.specs.Summaries.{AskedCondition, Summary, fault_raised}
use Rattle.face_data.specs.Through.{changes_through}
use Rattle.face_data.proofs.Front.{effect-idle}
use Rattle.bed_rules.specs.Beds.{changes_of, crowded_needles, size_rules}
use Rattle.carrier_rules.specs.declared.conds.OfEach.{OfEach}
use Rattle.carrier_rules.specs.declared.conds.OfEach.TheVariants.{InAction, NotInAction, NotInHook}
use Rattle.carrier_rules.specs.Carriers.{cond_of, conds_of, conds_of_each, early_in, early_of, effect_of, float_conditions, floats_in, floats_of_each, is_on_last, lasts_of, rule_of}
use Rattle.carrier_rules.proofs.EachCarrier.{early-is, floats-is}
use Rattle.slider_rules.specs.Sliders.{bare_slider}
use Rattle.block_summary.specs.declared.formed.FormedLoop.{FormedLoop}
use Rattle.block_summary.specs.declared.instr_ask.InstrAsk.{InstrAsk}
use Rattle.block_summary.specs.Asks.{formed_loop, instr_ask, needle_of_formed}
use Rattle.block_summary.specs.DraftKnowledge.{CanBeAsked, HasAsked, HasAskedAll, HasAskedIf, HaveAsked, IsSmall, Took, effect_in, reads_after, reads_or_stops, stopped_at, with_loop_on, changes_written}
use Rattle.block_summary.specs.LineEnds.{summary_with_line}
use Rattle.block_summary.specs.LineSummaries.{conditions_of_instr, asked_for, asked_of_rack, asked_of_sizes, line_changes, line_summary, near_asked, plainly_asked, rack_asked, sizes_asked, slider_asked, summary_asking_nothing}
use Rattle.block_summary.proofs.DraftSteps.{took_rest}
use Rattle.block_summary.proofs.FormedLoops.{needle-formed}
use Rattle.block_summary.proofs.LineChanges.{line_changed, merged_nothing}
use Rattle.block_summary.proofs.LineLasts.{both_put}

fault_here : (lines : ℕ) (reason : Reason) → fault_raised lines (record { line = 0; reason = reason }) ≡ record { line = lines; reason = reason }
fault_here lines reason = let same : lines + 0 ≡ lines = omega arith in λ i. record { line = same i; reason = reason }

-- One condition that was asked is one step of reading the conditions.
asked_once : (old new : Summary) (reason : Reason) (ask : Ask) (goes : Bool) (left : List AskedCondition) → HasAsked old new (record { line = old.lines; reason = reason }) ask goes →
    reads_after old (asked_for reason ask ∷ left) ≡ reads_or_stops (broken_unless goes reason) new left
unfolding reads
asked_once old new reason ask goes left took = go (against_kept old.checks (read_answer (effect_in old.ending) old.lasts old.changes ask)) took
  where
    go : (r : ConditionAnswer) → Took r old new (record { line = old.lines; reason = reason }) goes →
        next r old.checks (fault_raised old.lines (record { line = 0; reason = reason })) (λ ks. reads (effect_in old.ending) old.lasts old.changes old.lines ks left)
        ≡ reads_or_stops (broken_unless goes reason) new left
    go yes_it_does took = λ i. reads_or_stops (broken_unless (sym took.0 i) reason) (sym took.1 i) left
    go no_it_does_not took =
        (λ i. record { checks = old.checks; stop = Some (fault_here old.lines reason i) })
        ∙ (λ i. reads_or_stops (broken_unless (sym took.0 i) reason) (sym took.1 i) left)
    go (asks q) took =
        (λ i. reads (effect_in old.ending) old.lasts old.changes old.lines (old.checks ++ record { fault = fault_here old.lines reason i; ask = q } ∷ []) left)
        ∙ (λ i. reads_or_stops (broken_unless (sym took.0 i) reason) (sym took.1 i) left)

asked_rest : (old new : Summary) (reason : Reason) (ask : Ask) (goes : Bool) → HasAsked old new (record { line = old.lines; reason = reason }) ask goes → new ≡ record old { checks = new.checks }
asked_rest old new reason ask goes took =
    took_rest (against_kept old.checks (read_answer (effect_in old.ending) old.lasts old.changes ask)) old new (record { line = old.lines; reason = reason }) goes took

rest_of_both : (old mid new : Summary) → mid ≡ record old { checks = mid.checks } → new ≡ record mid { checks = new.checks } → new ≡ record old { checks = new.checks }
rest_of_both old mid new first second = second ∙ ap (λ (s : Summary). record s { checks = new.checks }) first

-- at first all conditions are left
pub all_left : (old : Summary) (all : List AskedCondition) → HaveAsked old old all all
all_left old all = record { rest_stays = refl; so_far = λ more. refl }

-- one of them is asked
asked_next : (old mid new : Summary) (all left : List AskedCondition) (reason : Reason) (ask : Ask) (goes : Bool) → HaveAsked old mid all (asked_for reason ask ∷ left) →
    HasAsked mid new (record { line = mid.lines; reason = reason }) ask goes → goes ≡ true → HaveAsked old new all left
asked_next old mid new all left reason ask goes have took on = record {
  rest_stays = rest_of_both old mid new have.rest_stays (asked_rest mid new reason ask goes took);
  so_far = λ more. have.so_far more ∙ asked_once mid new reason ask goes (left ++ more) took ∙ ap (λ b. reads_or_stops (broken_unless b reason) new (left ++ more)) on;
}

-- and can't hold
asked_halt : (old mid new : Summary) (all left : List AskedCondition) (reason : Reason) (ask : Ask) (goes : Bool) → HaveAsked old mid all (asked_for reason ask ∷ left) →
    HasAsked mid new (record { line = mid.lines; reason = reason }) ask goes → goes ≡ false → HasAskedAll old new all (Some reason)
asked_halt old mid new all left reason ask goes have took off = record {
  rest_stays = rest_of_both old mid new have.rest_stays (asked_rest mid new reason ask goes took);
  asked_are = λ more. have.so_far more ∙ asked_once mid new reason ask goes (left ++ more) took ∙ ap (λ b. reads_or_stops (broken_unless b reason) new (left ++ more)) off;
}

-- at last none is left
pub none_left : (old new : Summary) (all : List AskedCondition) → HaveAsked old new all [] → HasAskedAll old new all None
none_left old new all have = record { rest_stays = have.rest_stays; asked_are = have.so_far }

-- no condition
pub none_asked : (old : Summary) → HasAskedAll old old [] None
none_asked old = record { rest_stays = refl; asked_are = λ more. refl }

-- one condition
pub one_asked : (old new : Summary) (reason : Reason) (ask : Ask) (goes : Bool) → HasAsked old new (record { line = old.lines; reason = reason }) ask goes →
    HasAskedAll old new (asked_for reason ask ∷ []) (broken_unless goes reason)
one_asked old new reason ask goes took = record {
  rest_stays = asked_rest old new reason ask goes took;
  asked_are = λ more. asked_once old new reason ask goes more took;
}

-- two lists of conditions
pub both_asked : (old mid new : Summary) (xs ys : List AskedCondition) (stop : Option Reason) → HasAskedAll old mid xs None → HasAskedAll mid new ys stop → HasAskedAll old new (xs ++ ys) stop
both_asked old mid new xs ys stop first second = record {
  rest_stays = rest_of_both old mid new first.rest_stays second.rest_stays;
  asked_are = λ more. ap (reads_after old) (append_assoc xs ys more) ∙ first.asked_are (ys ++ more) ∙ second.asked_are more;
}

-- the first of which stops
pub first_stops : (old new : Summary) (xs ys : List AskedCondition) (reason : Reason) → HasAskedAll old new xs (Some reason) → HasAskedAll old new (xs ++ ys) (Some reason)
first_stops old new xs ys reason first = record {
  rest_stays = first.rest_stays;
  asked_are = λ more. ap (reads_after old) (append_assoc xs ys more) ∙ first.asked_are (ys ++ more);
}

-- the conditions that pass a test
abbrev passing : (Cond → Bool) → List (Reason × Cond) → List (Reason × Cond)
passing p conds = filter (λ (c : Reason × Cond). p c.1) conds

-- those that pass are asked one after the other
pub conds_next : (p : Cond → Bool) (old mid new : Summary) (conds : List (Reason × Cond)) (i : ℕ) (d : Reason × Cond) (goes : Bool) → i < length conds →
    HaveAsked old mid (map plainly_asked (passing p conds)) (map plainly_asked (passing p (drop i conds))) →
    HasAskedIf (p (get_or conds i d).1) mid new (record { line = mid.lines; reason = (get_or conds i d).0 }) (ask_of [] (get_or conds i d).1) goes → goes ≡ true →
    HaveAsked old new (map plainly_asked (passing p conds)) (map plainly_asked (passing p (drop (i + 1) conds)))
conds_next p old mid new conds i d goes within have took on =
    go (p (get_or conds i d).1) (subst (λ (cs : List (Reason × Cond)). HaveAsked old mid all (map plainly_asked (passing p cs))) (drop_more conds i d within) have) took
  where
    all : List AskedCondition
    all = map plainly_asked (passing p conds)

    left : List (Reason × Cond)
    left = passing p (drop (i + 1) conds)

    go : (b : Bool) → HaveAsked old mid all (map plainly_asked (cond b (get_or conds i d ∷ left) left)) →
        HasAskedIf b mid new (record { line = mid.lines; reason = (get_or conds i d).0 }) (ask_of [] (get_or conds i d).1) goes → HaveAsked old new all (map plainly_asked left)
    go true have took = asked_next old mid new all (map plainly_asked left) (get_or conds i d).0 (ask_of [] (get_or conds i d).1) goes have took on
    go false have took = subst (λ (s : Summary). HaveAsked old s all (map plainly_asked left)) (sym took.1) have

-- one of which can't hold
pub conds_halt : (p : Cond → Bool) (old mid new : Summary) (conds : List (Reason × Cond)) (i : ℕ) (d : Reason × Cond) (goes : Bool) → i < length conds →
    HaveAsked old mid (map plainly_asked (passing p conds)) (map plainly_asked (passing p (drop i conds))) →
    HasAskedIf (p (get_or conds i d).1) mid new (record { line = mid.lines; reason = (get_or conds i d).0 }) (ask_of [] (get_or conds i d).1) goes → goes ≡ false →
    HasAskedAll old new (map plainly_asked (passing p conds)) (Some (get_or conds i d).0)
conds_halt p old mid new conds i d goes within have took off =
    go (p (get_or conds i d).1) (subst (λ (cs : List (Reason × Cond)). HaveAsked old mid all (map plainly_asked (passing p cs))) (drop_more conds i d within) have) took
  where
    all : List AskedCondition
    all = map plainly_asked (passing p conds)

    left : List (Reason × Cond)
    left = passing p (drop (i + 1) conds)

    go : (b : Bool) → HaveAsked old mid all (map plainly_asked (cond b (get_or conds i d ∷ left) left)) →
        HasAskedIf b mid new (record { line = mid.lines; reason = (get_or conds i d).0 }) (ask_of [] (get_or conds i d).1) goes → HasAskedAll old new all (Some (get_or conds i d).0)
    go true have took = asked_halt old mid new all (map plainly_asked left) (get_or conds i d).0 (ask_of [] (get_or conds i d).1) goes have took off
    go false have took = absurd (true≢false (sym took.0 ∙ off))

-- and all of them
pub conds_end : (p : Cond → Bool) (old new : Summary) (conds : List (Reason × Cond)) (i : ℕ) → length conds ≤ i →
    HaveAsked old new (map plainly_asked (passing p conds)) (map plainly_asked (passing p (drop i conds))) →
    HasAskedAll old new (map plainly_asked (passing p conds)) None
conds_end p old new conds i past have =
    none_left old new (map plainly_asked (passing p conds))
    (subst (λ (cs : List (Reason × Cond)). HaveAsked old new (map plainly_asked (passing p conds)) (map plainly_asked (passing p cs))) (drop_all i conds past) have)

-- a condition that isn't on a last needle
pub not_on_last : (cond : Cond) → ((c : CarrierNo) (at : ℤ) (float : ℕ) → cond ≡ LastNear c at float → ⊥) → is_on_last cond ≡ false
not_on_last (LastNear c at float) other = absurd (other c at float refl)
not_on_last cond other = refl

-- nor on sizes
pub plain_early : (cond : Cond) → IsUnsized (ask_of [] cond) → ((c : CarrierNo) (at : ℤ) (float : ℕ) → cond ≡ LastNear c at float → ⊥) → IsPlainCondition (ask_of [] cond)
plain_early (LastNear c at float) unsized other = absurd (other c at float refl)
plain_early cond unsized other = unsized

-- one that passes the test was asked
pub asked_if : (b : Bool) (old new : Summary) (fault : Fault) (ask : Ask) (goes : Bool) → b ≡ true → HasAsked old new fault ask goes → HasAskedIf b old new fault ask goes
asked_if true old new fault ask goes passes took = took
asked_if false old new fault ask goes passes took = absurd (cc)

-- and another is passed over
pub passed_over : (b : Bool) (old : Summary) (fault : Fault) (ask : Ask) → b ≡ false → HasAskedIf b old old fault ask true
passed_over true old fault ask fails = absurd (cc)
passed_over false old fault ask fails = (refl, refl)

-- Conditions on sizes up to a place were asked, whatever rules they come from.
pub record SizesAsked (old new : Summary) (sizes : List SizeAsk) (i : ℕ) : Type 0 where
  pub rest_stays : new ≡ record old { checks = new.checks }
  pub have : (rules : List SizeRule) → sizes ≡ size_asks old.changes rules → HaveAsked old new (map asked_of_sizes rules) (map asked_of_sizes (drop i rules))

-- at first none
pub no_sizes : (old : Summary) (sizes : List SizeAsk) → SizesAsked old old sizes 0
no_sizes old sizes = record { rest_stays = refl; have = λ rules is. all_left old (map asked_of_sizes rules) }

-- the rule of a place
abbrev some_rule : SizeAsk → SizeRule
some_rule ask = record { reason = ask.reason; needles = []; most = 0 }

rule_at : (old mid : Summary) (sizes : List SizeAsk) (i : ℕ) (d : SizeAsk) (rules : List SizeRule) → i < length sizes → mid ≡ record old { checks = mid.checks } →
    sizes ≡ size_asks old.changes rules → (i < length rules) × (get_or sizes i d ≡ size_ask mid.changes (get_or rules i (some_rule d)))
rule_at old mid sizes i d rules within rest is =
    let inside : i < length rules = omega (arith, within, ap length is, length-map rules (size_ask old.changes)) in (
      inside,
      ap (λ (xs : List SizeAsk). get_or xs i d) is
          ∙ get_or-map (size_ask old.changes) rules i (some_rule d) d inside
          ∙ ap (λ (s : Summary). size_ask s.changes (get_or rules i (some_rule d))) (sym rest),
    )

sizes_left_at : (old mid : Summary) (i : ℕ) (d : SizeAsk) (rules : List SizeRule) → i < length rules →
    HaveAsked old mid (map asked_of_sizes rules) (map asked_of_sizes (drop i rules)) →
    HaveAsked old mid (map asked_of_sizes rules) (asked_of_sizes (get_or rules i (some_rule d)) ∷ map asked_of_sizes (drop (i + 1) rules))
sizes_left_at old mid i d rules inside have =
    subst (λ (rs : List SizeRule). HaveAsked old mid (map asked_of_sizes rules) (map asked_of_sizes rs)) (drop_more rules i (some_rule d) inside) have

-- one more
pub sizes_next : (old mid new : Summary) (sizes : List SizeAsk) (i : ℕ) (d : SizeAsk) (goes : Bool) → i < length sizes → SizesAsked old mid sizes i →
    new ≡ record mid { checks = new.checks } →
    ((rule : SizeRule) → get_or sizes i d ≡ size_ask mid.changes rule → HasAsked mid new (record { line = mid.lines; reason = rule.reason }) (size_at_most rule.needles rule.most) goes) →
    goes ≡ true → SizesAsked old new sizes (i + 1)
sizes_next old mid new sizes i d goes within asked rest took on = record {
  rest_stays = rest_of_both old mid new asked.rest_stays rest;
  have = λ rules is.
      let at = rule_at old mid sizes i d rules within asked.rest_stays is in
      let rule : SizeRule = get_or rules i (some_rule d) in
      asked_next old mid new (map asked_of_sizes rules) (map asked_of_sizes (drop (i + 1) rules)) rule.reason (size_at_most rule.needles rule.most) goes
      (sizes_left_at old mid i d rules at.0 (asked.have rules is)) (took rule at.1) on;
}

-- one that can't hold
pub sizes_halt : (old mid new : Summary) (sizes : List SizeAsk) (i : ℕ) (d : SizeAsk) (goes : Bool) (rules : List SizeRule) → i < length sizes → SizesAsked old mid sizes i →
    ((rule : SizeRule) → get_or sizes i d ≡ size_ask mid.changes rule → HasAsked mid new (record { line = mid.lines; reason = rule.reason }) (size_at_most rule.needles rule.most) goes) →
    goes ≡ false → sizes ≡ size_asks old.changes rules → HasAskedAll old new (map asked_of_sizes rules) (Some (get_or sizes i d).reason)
sizes_halt old mid new sizes i d goes rules within asked took off is =
    let at = rule_at old mid sizes i d rules within asked.rest_stays is in
    let rule : SizeRule = get_or rules i (some_rule d) in
    subst (λ reason. HasAskedAll old new (map asked_of_sizes rules) (Some reason)) (sym (ap (λ (q : SizeAsk). q.reason) at.1))
    (asked_halt old mid new (map asked_of_sizes rules) (map asked_of_sizes (drop (i + 1) rules)) rule.reason (size_at_most rule.needles rule.most) goes
    (sizes_left_at old mid i d rules at.0 (asked.have rules is)) (took rule at.1) off)

-- all of them
pub sizes_end : (old new : Summary) (sizes : List SizeAsk) (i : ℕ) (rules : List SizeRule) → length sizes ≤ i → SizesAsked old new sizes i → sizes ≡ size_asks old.changes rules →
    HasAskedAll old new (map asked_of_sizes rules) None
sizes_end old new sizes i rules past asked is =
    let behind : length rules ≤ i = omega (arith, past, ap length is, length-map rules (size_ask old.changes)) in
    none_left old new (map asked_of_sizes rules)
    (subst (λ (rs : List SizeRule). HaveAsked old new (map asked_of_sizes rules) (map asked_of_sizes rs)) (drop_all i rules behind) (asked.have rules is))

no_rule : (changes : List Changed) (rule : Option SizeRule) → None ≡ option_map (size_ask changes) rule → rule ≡ None
no_rule changes None is = refl
no_rule changes (Some rule) is = absurd (cc)

-- no slider is asked about
pub no_slider : (old : Summary) (rule : Option SizeRule) → None ≡ option_map (size_ask old.changes) rule → HasAskedAll old old (map asked_of_sizes (option_to_list rule)) None
no_slider old rule is =
    subst (λ (r : Option SizeRule). HasAskedAll old old (map asked_of_sizes (option_to_list r)) None) (sym (no_rule old.changes rule is)) (none_asked old)

-- one is
pub one_slider : (old new : Summary) (ask : SizeAsk) (goes : Bool) (rule : Option SizeRule) →
    ((r : SizeRule) → ask ≡ size_ask old.changes r → HasAsked old new (record { line = old.lines; reason = r.reason }) (size_at_most r.needles r.most) goes) →
    Some ask ≡ option_map (size_ask old.changes) rule → HasAskedAll old new (map asked_of_sizes (option_to_list rule)) (broken_unless goes ask.reason)
one_slider old new ask goes None took is = absurd (cc)
one_slider old new ask goes (Some rule) took is =
    let same : ask ≡ size_ask old.changes rule = cc in
    subst (λ reason. HasAskedAll old new (asked_of_sizes rule ∷ []) (broken_unless goes reason)) (sym (ap (λ (q : SizeAsk). q.reason) same))
    (one_asked old new rule.reason (size_at_most rule.needles rule.most) goes (took rule same))

-- An instruction's conditions, part by part, as its answers have them: first those on carriers and the hook.
pub early_were_asked : (profile : Profile) (instr : Instr) (ask : InstrAsk) (changes : List Changed) (conds : List (Reason × Cond)) (old new : Summary) (stop found : Option Reason) →
    ask ≡ instr_ask profile instr changes → conds ≡ ask.carriers → HasAskedAll old new (map plainly_asked (early_in conds)) stop → stop ≡ found →
    HasAskedAll old new (map plainly_asked (early_of instr)) found
early_were_asked profile instr ask changes conds old new stop found is same asked ends =
    subst (λ (cs : List (Reason × Cond)). HasAskedAll old new (map plainly_asked cs) found) (ap early_in (same ∙ ap (λ (a : InstrAsk). a.carriers) is) ∙ early-is profile.float instr)
    (subst (λ s. HasAskedAll old new (map plainly_asked (early_in conds)) s) ends asked)

-- then the rack
pub rack_was_asked : (profile : Profile) (instr : Instr) (ask : InstrAsk) (changes : List Changed) (old new : Summary) (stop found : Option Reason) →
    ask ≡ instr_ask profile instr changes → HasAskedAll old new (map asked_of_rack (option_to_list ask.rack)) stop → stop ≡ found → HasAskedAll old new (rack_asked instr) found
rack_was_asked profile instr ask changes old new stop found is asked ends =
    subst (λ (rack : Option (Reason × Quarter)). HasAskedAll old new (map asked_of_rack (option_to_list rack)) found) (ap (λ (a : InstrAsk). a.rack) is)
    (subst (λ s. HasAskedAll old new (map asked_of_rack (option_to_list ask.rack)) s) ends asked)

-- the slider
pub slider_was_asked : (profile : Profile) (instr : Instr) (ask : InstrAsk) (changes : List Changed) (slider : Option SizeAsk) (old new : Summary) (stop found : Option Reason) →
    ask ≡ instr_ask profile instr changes → slider ≡ ask.slider → old.changes ≡ changes →
    ((rule : Option SizeRule) → slider ≡ option_map (size_ask old.changes) rule → HasAskedAll old new (map asked_of_sizes (option_to_list rule)) stop) → stop ≡ found →
    HasAskedAll old new (slider_asked (forming_needle instr)) found
slider_was_asked profile instr ask changes slider old new stop found is same stay asked ends =
    let rule : Option SizeRule = option_map bare_slider (forming_needle instr) in
    subst (λ s. HasAskedAll old new (map asked_of_sizes (option_to_list rule)) s) ends
    (asked rule (same ∙ ap (λ (a : InstrAsk). a.slider) is ∙ ap (λ (cs : List Changed). option_map (size_ask cs) rule) (sym stay)))

-- the sizes
pub sizes_were_asked : (profile : Profile) (instr : Instr) (ask : InstrAsk) (changes : List Changed) (sizes : List SizeAsk) (old new : Summary) (stop found : Option Reason) →
    ask ≡ instr_ask profile instr changes → sizes ≡ ask.sizes → old.changes ≡ changes →
    ((rules : List SizeRule) → sizes ≡ size_asks old.changes rules → HasAskedAll old new (map asked_of_sizes rules) stop) → stop ≡ found → HasAskedAll old new (sizes_asked profile.hold instr) found
sizes_were_asked profile instr ask changes sizes old new stop found is same stay asked ends =
    let rules : List SizeRule = size_rules profile.hold instr in
    subst (λ s. HasAskedAll old new (map asked_of_sizes rules) s) ends
    (asked rules (same ∙ ap (λ (a : InstrAsk). a.sizes) is ∙ ap (λ (cs : List Changed). size_asks cs rules) (sym stay)))

-- and last the floats
pub floats_were_asked : (profile : Profile) (instr : Instr) (ask : InstrAsk) (changes : List Changed) (conds : List (Reason × Cond)) (old new : Summary) (stop : Option Reason) →
    ask ≡ instr_ask profile instr changes → conds ≡ ask.carriers → HasAskedAll old new (map plainly_asked (floats_in conds)) stop → HasAskedAll old new (near_asked profile.float instr) stop
floats_were_asked profile instr ask changes conds old new stop is same asked =
    subst (λ (cs : List (Reason × Cond)). HasAskedAll old new (map plainly_asked cs) stop) (ap floats_in (same ∙ ap (λ (a : InstrAsk). a.carriers) is) ∙ floats-is profile.float instr) asked

-- all but the first part
abbrev after_early : Profile → Instr → List AskedCondition
after_early profile instr = rack_asked instr ++ (slider_asked (forming_needle instr) ++ (sizes_asked profile.hold instr ++ near_asked profile.float instr))

-- The first part stops the lines.
pub stops_early : (profile : Profile) (instr : Instr) (old new : Summary) (reason : Reason) → HasAskedAll old new (map plainly_asked (early_of instr)) (Some reason) →
    HasAskedAll old new (conditions_of_instr profile instr) (Some reason)
stops_early profile instr old new reason first = first_stops old new (map plainly_asked (early_of instr)) (after_early profile instr) reason first

-- Or the others are asked then.
pub then_rack : (profile : Profile) (instr : Instr) (old mid new : Summary) (stop : Option Reason) → HasAskedAll old mid (map plainly_asked (early_of instr)) None →
    HasAskedAll mid new (after_early profile instr) stop → HasAskedAll old new (conditions_of_instr profile instr) stop
then_rack profile instr old mid new stop first rest = both_asked old mid new (map plainly_asked (early_of instr)) (after_early profile instr) stop first rest

-- conditions that are asked change no needle
pub same_changes_after : (old new : Summary) (all : List AskedCondition) (stop : Option Reason) (changes : List Changed) → HasAskedAll old new all stop → old.changes ≡ changes → new.changes ≡ changes
same_changes_after old new all stop changes asked same = ap (λ (s : Summary). s.changes) asked.rest_stays ∙ same

-- the conditions of a lawful instruction can be asked
each_can : (of_each : OfEach) (at : ℕ) (cs : List CarrierNo) (carriers : ℕ) → carriers ≤ 64 → All (λ (c : CarrierNo). c.0 < carriers) cs → All CanBeAsked (conds_of_each of_each at cs)
each_can of_each at [] carriers few all = All-nil CanBeAsked
each_can of_each at (c ∷ cs) carriers few all =
    All-cons CanBeAsked (record { rule = rule_of of_each; at = at }, cond_of of_each c) (conds_of_each of_each (at + 1) cs) (here of_each)
    (each_can of_each (at + 1) cs carriers few (All-tail (λ (d : CarrierNo). d.0 < carriers) c cs all))
  where
    small : c.0 < 64
    small = let lt : c.0 < carriers = All-head (λ (d : CarrierNo). d.0 < carriers) c cs all in omega (arith, few, lt)

    here : (o : OfEach) → CanBeAsked (record { rule = rule_of o; at = at }, cond_of o c)
    here InAction = (small, tt)
    here NotInAction = (small, tt)
    here NotInHook = (small, tt)

one_can : (c : Reason × Cond) → CanBeAsked c → All CanBeAsked (c ∷ [])
one_can c can = All-cons CanBeAsked c [] can (All-nil CanBeAsked)

-- those on carriers and the hook
pub early_can : (profile : Profile) (carriers : ℕ) (instr : Instr) → carriers ≤ 64 → IsLawfulInstr profile carriers instr → All CanBeAsked (early_of instr)
early_can profile carriers (CarryIn cs) few lawful = each_can NotInAction 1 cs carriers few lawful.carriers.each
early_can profile carriers (CarryOut cs) few lawful =
    All-append CanBeAsked (conds_of_each InAction 1 cs) (conds_of_each NotInHook 1 cs) (each_can InAction 1 cs carriers few lawful.carriers.each) (each_can NotInHook 1 cs carriers few lawful.carriers.each)
early_can profile carriers (HookIn cs) few lawful = All-append CanBeAsked (conds_of_each NotInAction 1 cs) _ (each_can NotInAction 1 cs carriers few lawful.carriers.each) (one_can _ (tt, tt))
early_can profile carriers (HookOut cs) few lawful = All-append CanBeAsked (conds_of_each InAction 1 cs) _ (each_can InAction 1 cs carriers few lawful.carriers.each) (one_can _ (tt, tt))
early_can profile carriers (ReleaseHook cs) few lawful = one_can _ (tt, tt)
early_can profile carriers (Knit dir n cs) few lawful = each_can InAction 3 cs carriers few lawful.carriers.each
early_can profile carriers (Tuck dir n cs) few lawful = each_can InAction 3 cs carriers few lawful.carriers.each
early_can profile carriers (Miss dir n cs) few lawful = each_can InAction 3 cs carriers few lawful.carriers.each
early_can profile carriers (Split dir n n2 cs) few lawful = each_can InAction 4 cs carriers few lawful.carriers.each
early_can profile carriers instr few lawful = All-nil CanBeAsked

near_can : (float : ℕ) (number : ℤ) (at : ℕ) (cs : List CarrierNo) → All CanBeAsked (floats_of_each float number at cs)
near_can float number at [] = All-nil CanBeAsked
near_can float number at (c ∷ cs) = All-cons CanBeAsked _ (floats_of_each float number (at + 1) cs) (tt, tt) (near_can float number (at + 1) cs)

floats_can : (limit : Option ℕ) (instr : Instr) → All CanBeAsked (float_conditions limit instr)
floats_can None instr = All-nil CanBeAsked
floats_can (Some float) (Knit dir n cs) = near_can float n.at 3 cs
floats_can (Some float) (Tuck dir n cs) = near_can float n.at 3 cs
floats_can (Some float) (Split dir n n2 cs) = near_can float n.at 4 cs
floats_can (Some float) instr = All-nil CanBeAsked

-- and those on floats
pub all_can : (limit : Option ℕ) (instr : Instr) → All CanBeAsked (early_of instr) → All CanBeAsked (conds_of limit instr)
all_can limit instr early = All-append CanBeAsked (early_of instr) (float_conditions limit instr) early (floats_can limit instr)

pub conds_can : (profile : Profile) (carriers : ℕ) (limit : Option ℕ) (instr : Instr) → carriers ≤ 64 → IsLawfulInstr profile carriers instr → All CanBeAsked (conds_of limit instr)
conds_can profile carriers limit instr few lawful = all_can limit instr (early_can profile carriers instr few lawful)

size_small : (changes : List Changed) (rule : SizeRule) → rule.most ≤ 64 → IsSmall (size_ask changes rule)
size_small changes rule few = omega (arith, ints, few)

one_small : (changes : List Changed) (rule : SizeRule) → rule.most ≤ 64 → All IsSmall (size_asks changes (rule ∷ []))
one_small changes rule few = All-cons IsSmall (size_ask changes rule) [] (size_small changes rule few) (All-nil IsSmall)

-- those on sizes
pub sizes_small : (hold : ℕ) (instr : Instr) (changes : List Changed) → hold ≤ 64 → All IsSmall (size_asks changes (size_rules hold instr))
sizes_small hold (Tuck dir n []) changes few = All-nil IsSmall
sizes_small hold (Tuck dir n (c ∷ cs)) changes few = one_small changes (crowded_needles 2 (n ∷ []) (hold - 1)) (let less : hold - 1 ≤ 64 = omega (arith, few) in less)
sizes_small hold (Split dir n n2 cs) changes few = one_small changes (crowded_needles 3 (n2 ∷ n ∷ []) hold) few
sizes_small hold (Xfer n n2) changes few = one_small changes (crowded_needles 2 (n2 ∷ n ∷ []) hold) few
sizes_small hold instr changes few = All-nil IsSmall

-- and on a slider
pub slider_small : (on : Option Needle) (changes : List Changed) → IfSome (option_map (size_ask changes) (option_map bare_slider on)) IsSmall
slider_small None changes = tt
slider_small (Some n) changes = size_small changes (bare_slider n) (omega arith)

-- the conditions of a line and their end, as composition has them
pub asked_all_gathers : (old new : Summary) (all : List AskedCondition) (stop : Option Reason) → HasAskedAll old new all stop → reads_after old all ≡ reads_or_stops stop new []
asked_all_gathers old new all stop asked = ap (reads_after old) (sym (append-nil all)) ∙ asked.asked_are []

-- A line that is known to stop.
pub line_stops : (profile : Profile) (instr : Instr) (old mid : Summary) (reason : Reason) → old.ending ≡ Through (effect_in old.ending) → HasAskedAll old mid (conditions_of_instr profile instr) (Some reason) →
    composed old (line_summary profile (read.Instr instr)) ≡ stopped_at (record { line = mid.lines; reason = reason }) (record mid { lines = mid.lines + 1 })
line_stops profile instr old mid reason through asked =
    ap (λ ending. composed_at ending old (line_summary profile (read.Instr instr))) through
    ∙ ap (λ (g : Gathering). gathering_closed g (effect_in old.ending) old (line_summary profile (read.Instr instr))) (asked_all_gathers old mid (conditions_of_instr profile instr) (Some reason) asked)
    ∙ ap (λ (s : Summary). stopped_at (record { line = mid.lines; reason = reason }) (record mid { lines = s.lines + 1 })) (sym asked.rest_stays)

same_items : (formed : Option FormedLoop) → set_items formed ≡ set_items (needle_of_formed formed)
same_items None = refl
same_items (Some l) = refl

-- A line that goes on.
pub line_goes : (profile : Profile) (carriers : ℕ) (instr : Instr) (old mid : Summary) (ask : InstrAsk) → old.ending ≡ Through (effect_in old.ending) → IsInOrder old.changes →
    IsLawfulInstr profile carriers instr → ask ≡ instr_ask profile instr old.changes → HasAskedAll old mid (conditions_of_instr profile instr) None →
    summary_with_line mid ask ≡ composed old (line_summary profile (read.Instr instr))
unfolding reads
line_goes profile carriers instr old mid ask through order lawful is asked =
    let on : needle_of_formed (formed_loop instr old.changes) ≡ forming_needle instr = needle-formed old.changes instr in
    let changed : with_loop_on (forming_needle instr) old.lines (changes_written old.changes (changes_of instr old.changes)) ≡ changes_merged old.changes (changes_through old.changes old.lines (line_changes instr)) =
    line_changed profile carriers instr old.changes old.lines lawful order in
    ap (λ (s : Summary). summary_with_line s ask) asked.rest_stays
    ∙ ap (summary_with_line (record old { checks = mid.checks })) is
    ∙ (λ i. record {
      lines = old.lines + 1;
      made = old.made + (same_items (formed_loop instr old.changes) ∙ ap set_items on) i;
      checks = mid.checks;
      changes = (ap (λ o. with_loop_on o old.lines (changes_written old.changes (changes_of instr old.changes))) on ∙ changed) i;
      lasts = sym (both_put old.lasts (lasts_of profile.float instr)) i;
      ending = Through (effect_of_both (effect_in old.ending) (effect_of instr));
    })
    ∙ ap (λ (g : Gathering). gathering_closed g (effect_in old.ending) old (line_summary profile (read.Instr instr))) (sym (asked_all_gathers old mid (conditions_of_instr profile instr) None asked))
    ∙ ap (λ ending. composed_at ending old (line_summary profile (read.Instr instr))) (sym through)

-- A line that breaks a rule by itself.
pub broken_stops : (profile : Profile) (old : Summary) (reason : Reason) → old.ending ≡ Through (effect_in old.ending) →
    composed old (line_summary profile (read.Broken reason)) ≡ stopped_at (record { line = old.lines; reason = reason }) (record old { lines = old.lines + 1 })
unfolding reads
broken_stops profile old reason through =
    ap (λ ending. composed_at ending old (line_summary profile (read.Broken reason))) through
    ∙ (λ i. record { lines = old.lines + 1; made = 0; checks = old.checks; changes = []; lasts = []; ending = Broken (fault_here old.lines reason i) })

-- A line that asks and changes nothing.
pub nothing_goes : (old : Summary) → old.ending ≡ Through (effect_in old.ending) → record old { lines = old.lines + 1 } ≡ composed old (summary_asking_nothing (Through no_effect))
unfolding reads
nothing_goes old through =
    let made : old.made ≡ old.made + 0 = omega arith in
    (λ i. record {
      lines = old.lines + 1;
      made = made i;
      checks = old.checks;
      changes = sym (merged_nothing old.changes) i;
      lasts = old.lasts;
      ending = (through ∙ ap Through (sym (effect-idle (effect_in old.ending)))) i;
    })
    ∙ ap (λ ending. composed_at ending old (summary_asking_nothing (Through no_effect))) (sym through)

-- a pause is one
pause_is : (profile : Profile) → line_summary profile (read.Instr Pause) ≡ summary_asking_nothing (Through no_effect)
pause_is profile = go profile.float
  where
    go : (limit : Option ℕ) → record (summary_asking_nothing (Through no_effect)) { checks = near_asked limit Pause; lasts = lasts_of_both [] (lasts_of limit Pause) } ≡ summary_asking_nothing (Through no_effect)
    go None = refl
    go (Some float) = refl

pub pause_goes : (profile : Profile) (old : Summary) → old.ending ≡ Through (effect_in old.ending) → record old { lines = old.lines + 1 } ≡ composed old (line_summary profile (read.Instr Pause))
pause_goes profile old through = nothing_goes old through ∙ ap (composed old) (sym (pause_is profile))

-- the changes of a line were put in, its loop and its last needles; then the line was counted
pub carried_on : (old mid : Summary) (ask : InstrAsk) →
    mid ≡ record old { changes = with_loop_on (needle_of_formed ask.formed) old.lines (changes_written old.changes ask.changed); lasts = lasts_of_both old.lasts ask.lasts } →
    record mid { lines = mid.lines + 1; made = mid.made + set_items ask.formed; ending = Through (effect_of_both (effect_in mid.ending) ask.effect) } ≡ summary_with_line old ask
carried_on old mid ask is =
    ap (λ (s : Summary). record s { lines = s.lines + 1; made = s.made + set_items ask.formed; ending = Through (effect_of_both (effect_in s.ending) ask.effect) }) is
