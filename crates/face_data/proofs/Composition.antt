-- The summary of two blocks one after the other.
use Rattle.std.proofs.Common.{◌≡◌, ℕ, ◌+◌, Bool, true, false, not, ◌&&◌, ◌||◌, List, [], Option, Some, None, refl, sym, ap, ◌∙◌, arith, add_assoc, ◌<◌}
use Rattle.std.specs.Prelude.{unwrap_or, bit_or, nat_eq, ℤ}
use Rattle.std.specs.Int.{bit_at}
use Rattle.knit_base.specs.declared.yarns.CarrierNo.{CarrierNo}
use Rattle.std.specs.Option.{option_map}
use Rattle.std.proofs.Math.Path.{ap₂}
use Rattle.std.proofs.lemmas.Bool.Decides.{nat_tests}
use Rattle.std.proofs.lemmas.Nat.Bits.{same_from_bits, bit_at-lt}
use Rattle.carriage_model.specs.State.{State}
use Rattle.knit_base.specs.Yarns.{contains_carrier, without_set}
use Rattle.face_data.specs.Summaries.{AskedCondition, Summary, Outcome, state_after_changes, rack_after_effect, fault_raised, first_fault, outcome_of, summary_outcome}
use Rattle.face_data.specs.Segments.{Changed, segments_on, read_segs}
use Rattle.face_data.specs.Summaries.Outcome.{went_on, faulted}
use Rattle.face_data.specs.Through.{changes_through}
use Rattle.face_data.proofs.Through.{read-through}
use Rattle.face_data.proofs.Carriers.{has-bit_or, has-without}
use Rattle.face_data.proofs.Gathering.{reads_fault, or_else, AllNameOnce}
use Rattle.face_data.proofs.ChangeLists.{segments_on-both}
use Rattle.knit_base.specs.declared.needle.Needle.{Needle}
use Rattle.knit_base.specs.declared.instr.Quarter.{Quarter}
use Rattle.knit_base.specs.declared.rule.Fault.{Fault}
use Rattle.face_data.specs.declared.face.Effect.{Effect}
use Rattle.face_data.specs.declared.face.Ending.{Ending}
use Rattle.face_data.specs.declared.face.Ending.TheVariants.{Through, Broken}
use Rattle.face_data.specs.Composition.{reads, changes_merged, or_old, effect_of_both, ending_after, changes_with, lasts_with, closed_at, gathering_closed, composed_at, composed, and_then}
use Rattle.face_data.specs.declared.face.Last.{Last}
use Rattle.face_data.specs.Lasts.{AreInOrder, lasts_of_both}
use Rattle.face_data.specs.Goodness.{IsInOrder}
use Rattle.face_data.proofs.LastLists.{after-both_lasts}

rack_of_both : (r q : Option Quarter) (old : ℤ) → rack_after_effect (or_old r q) old ≡ rack_after_effect r (rack_after_effect q old)
rack_of_both None q old = refl
rack_of_both (Some x) q old = refl

hook_of_both : (h k : Option ℕ) (old : ℕ) → unwrap_or (or_old h k) old ≡ unwrap_or h (unwrap_or k old)
hook_of_both None k old = refl
hook_of_both (Some x) k old = refl

bit_from_has : (x y : ℕ) → x < 2 → y < 2 → nat_eq x 1 ≡ nat_eq y 1 → x ≡ y
bit_from_has x y h k e = grind (arith, nat_tests)

-- sets with the same members are the same
pub same_members : (x y : ℕ) → ((c : CarrierNo) → contains_carrier x c ≡ contains_carrier y c) → x ≡ y
same_members x y h = same_from_bits x y (λ i. bit_from_has (bit_at x i) (bit_at y i) (bit_at-lt x i) (bit_at-lt y i) (h (record { 0 = i })))

member_of_both : (x in1 out1 in2 out2 : Bool) →
    ((x && not ((out1 && not in2) || out2)) || ((in1 && not out2) || in2)) ≡ ((((x && not out1) || in1) && not out2) || in2)
member_of_both true true true true true = refl
member_of_both true true true true false = refl
member_of_both true true true false true = refl
member_of_both true true true false false = refl
member_of_both true true false true true = refl
member_of_both true true false true false = refl
member_of_both true true false false true = refl
member_of_both true true false false false = refl
member_of_both true false true true true = refl
member_of_both true false true true false = refl
member_of_both true false true false true = refl
member_of_both true false true false false = refl
member_of_both true false false true true = refl
member_of_both true false false true false = refl
member_of_both true false false false true = refl
member_of_both true false false false false = refl
member_of_both false true true true true = refl
member_of_both false true true true false = refl
member_of_both false true true false true = refl
member_of_both false true true false false = refl
member_of_both false true false true true = refl
member_of_both false true false true false = refl
member_of_both false true false false true = refl
member_of_both false true false false false = refl
member_of_both false false true true true = refl
member_of_both false false true true false = refl
member_of_both false false true false true = refl
member_of_both false false true false false = refl
member_of_both false false false true true = refl
member_of_both false false false true false = refl
member_of_both false false false false true = refl
member_of_both false false false false false = refl

-- the carriers in action after an effect
pub has_after : (x in1 out1 : ℕ) (c : CarrierNo) → contains_carrier (bit_or (without_set x out1) in1) c ≡ ((contains_carrier x c && not (contains_carrier out1 c)) || contains_carrier in1 c)
has_after x in1 out1 c = has-bit_or (without_set x out1) in1 c ∙ ap (λ b. b || contains_carrier in1 c) (has-without x out1 c)

ins_of_both : (x in1 out1 in2 out2 : ℕ) →
    bit_or (without_set x (bit_or (without_set out1 in2) out2)) (bit_or (without_set in1 out2) in2) ≡ bit_or (without_set (bit_or (without_set x out1) in1) out2) in2
ins_of_both x in1 out1 in2 out2 = same_members _ _ (λ c.
    has_after x (bit_or (without_set in1 out2) in2) (bit_or (without_set out1 in2) out2) c
    ∙ ap₂ (λ p q. (contains_carrier x c && not p) || q) (has_after out1 out2 in2 c) (has_after in1 in2 out2 c)
    ∙ member_of_both (contains_carrier x c) (contains_carrier in1 c) (contains_carrier out1 c) (contains_carrier in2 c) (contains_carrier out2 c)
    ∙ sym (has_after (bit_or (without_set x out1) in1) in2 out2 c ∙ ap (λ p. (p && not (contains_carrier out2 c)) || contains_carrier in2 c) (has_after x in1 out1 c)))

-- The state after both effects and the merged changes is the state after the one and then the other.
pub after-both : (e f : Effect) (la lb : List Last) (a b : List Changed) (lines : ℕ) (s : State) (first : ℕ) → IsInOrder b → AreInOrder lb →
    state_after_changes (effect_of_both e f) (lasts_of_both la lb) (changes_merged a (changes_through a lines b)) s first ≡ state_after_changes f lb b (state_after_changes e la a s first) (first + lines)
after-both e f la lb a b lines s first order lasts_order =
    let stacks : (n : Needle) → read_segs s first (segments_on (changes_merged a (changes_through a lines b)) n) ≡ read_segs (state_after_changes e la a s first) (first + lines) (segments_on b n)
    = λ n. ap (read_segs s first) (segments_on-both a b lines n order) ∙ read-through s first lines a (segments_on b n) in
    λ i. record {
      rack = rack_of_both f.rack e.rack s.rack i;
      ins = ins_of_both s.ins e.came e.went f.came f.went i;
      hook = hook_of_both f.hook e.hook s.hook i;
      lasts = λ c. after-both_lasts la lb s.lasts c lasts_order i;
      stacks = λ n. stacks n i;
    }

abbrev closing : Option Fault → Effect → Summary → Summary → State → ℕ → Outcome
closing (Some f) e a b s first = faulted (fault_raised first f)
closing None e a b s first =
    outcome_of None (ending_after a.lines e b.ending) (lasts_with b.ending (lasts_of_both a.lasts b.lasts)) (changes_with b.ending (changes_merged a.changes (changes_through a.changes a.lines b.changes))) s first

closed_outcome : (o stop : Option Fault) (checks : List AskedCondition) (e : Effect) (a b : Summary) (s : State) (first : ℕ) →
    outcome_of o (closed_at stop checks e a b).ending (closed_at stop checks e a b).lasts (closed_at stop checks e a b).changes s first ≡ closing (or_else o stop) e a b s first
closed_outcome (Some g) (Some f) checks e a b s first = refl
closed_outcome None (Some f) checks e a b s first = refl
closed_outcome (Some g) None checks e a b s first = refl
closed_outcome None None checks e a b s first = refl

checks_closed : (stop : Option Fault) (checks : List AskedCondition) (e : Effect) (a b : Summary) → (closed_at stop checks e a b).checks ≡ checks
checks_closed (Some f) checks e a b = refl
checks_closed None checks e a b = refl

raised_twice : (first lines : ℕ) (f : Fault) → fault_raised first (fault_raised lines f) ≡ fault_raised (first + lines) f
raised_twice first lines f = λ i. record f { line = sym (add_assoc first lines f.line) i }

ending_both : (ending : Ending) (e : Effect) (a b : Summary) (s : State) (first : ℕ) → IsInOrder b.changes → AreInOrder b.lasts →
    outcome_of None (ending_after a.lines e ending) (lasts_with ending (lasts_of_both a.lasts b.lasts)) (changes_with ending (changes_merged a.changes (changes_through a.changes a.lines b.changes))) s first
    ≡ outcome_of None ending b.lasts b.changes (state_after_changes e a.lasts a.changes s first) (first + a.lines)
ending_both (Broken f) e a b s first order lasts = ap faulted (raised_twice first a.lines f)
ending_both (Through f) e a b s first order lasts = ap went_on (after-both e f a.lasts b.lasts a.changes b.changes a.lines s first order lasts)

closing_both : (oa ob : Option Fault) (e : Effect) (a b : Summary) (s : State) (first : ℕ) → IsInOrder b.changes → AreInOrder b.lasts →
    first_fault b.checks (state_after_changes e a.lasts a.changes s first) ≡ ob →
    closing (or_else oa (option_map (fault_raised a.lines) ob)) e a b s first
    ≡ and_then (outcome_of oa (Through e) a.lasts a.changes s first) (λ t. summary_outcome b t (first + a.lines))
closing_both (Some f) ob e a b s first order lasts is = refl
closing_both None (Some g) e a b s first order lasts is =
    ap faulted (raised_twice first a.lines g)
    ∙ sym (ap (λ o. outcome_of o b.ending b.lasts b.changes (state_after_changes e a.lasts a.changes s first) (first + a.lines)) is)
closing_both None None e a b s first order lasts is =
    ending_both b.ending e a b s first order lasts
    ∙ sym (ap (λ o. outcome_of o b.ending b.lasts b.changes (state_after_changes e a.lasts a.changes s first) (first + a.lines)) is)

-- what the second block's conditions are read_seg through
abbrev pub AllNameOnceThrough : Ending → Summary → Summary → Type 0
AllNameOnceThrough (Broken f) a b = Unit {0}
AllNameOnceThrough (Through e) a b = AllNameOnce e a.lasts a.changes b.checks

stays_broken : (o : Option Fault) (f : Fault) (la : List Last) (cs : List Changed) (s : State) (first : ℕ) (go : State → Outcome) →
    outcome_of o (Broken f) [] [] s first ≡ and_then (outcome_of o (Broken f) la cs s first) go
stays_broken (Some g) f la cs s first go = refl
stays_broken None f la cs s first go = refl

composed_applied_at : (ending : Ending) (a b : Summary) (s : State) (first : ℕ) → IsInOrder b.changes → AreInOrder b.lasts → AllNameOnceThrough ending a b →
    summary_outcome (composed_at ending a b) s first
    ≡ and_then (outcome_of (first_fault a.checks s) ending a.lasts a.changes s first) (λ t. summary_outcome b t (first + a.lines))
composed_applied_at (Broken f) a b s first order lasts plain = stays_broken (first_fault a.checks s) f a.lasts a.changes s first (λ t. summary_outcome b t (first + a.lines))
composed_applied_at (Through e) a b s first order lasts plain =
    let k = reads e a.lasts a.changes a.lines a.checks b.checks in
    ap (λ cs. outcome_of (first_fault cs s) (gathering_closed k e a b).ending (gathering_closed k e a b).lasts (gathering_closed k e a b).changes s first) (checks_closed k.stop k.checks e a b)
    ∙ closed_outcome (first_fault k.checks s) k.stop k.checks e a b s first
    ∙ ap (λ o. closing o e a b s first) (reads_fault e a.lasts a.changes a.lines a.checks b.checks s first plain)
    ∙ closing_both (first_fault a.checks s) (first_fault b.checks (state_after_changes e a.lasts a.changes s first)) e a b s first order lasts refl

-- Composition is running one after the other, with the first fault kept.
pub composed_applied : (a b : Summary) (s : State) (first : ℕ) → IsInOrder b.changes → AreInOrder b.lasts → AllNameOnceThrough a.ending a b →
    summary_outcome (composed a b) s first ≡ and_then (summary_outcome a s first) (λ t. summary_outcome b t (first + a.lines))
composed_applied a b s first order lasts plain = composed_applied_at a.ending a b s first order lasts plain
