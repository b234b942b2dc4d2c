-- The rule on sizes is a condition on the sizes of needles.
use Rattle.std.proofs.Common.{◌≡◌, ℕ, ◌+◌, ◌-◌, ◌≤◌, not, nat_lt, nat_le, List, [], ◌∷◌, ◌++◌, length, refl, ap, ◌∙◌, arith}
use Rattle.std.proofs.lemmas.List.Sums.{sum_by-cons}
use Rattle.knit_base.specs.declared.needle.Needle.{Needle}
use Rattle.knit_base.specs.declared.profile.Profile.{Profile}
use Rattle.knit_base.specs.declared.rule.Rule.TheVariants.{TooManyLoops}
use Rattle.knit_base.specs.declared.yarns.CarrierNo.{CarrierNo}
use Rattle.knit_base.proofs.Reasons.{or_else-none}
use Rattle.knit_base.specs.Reasons.{broken_if}
use Rattle.carriage_model.specs.Rules.{too_many, tuck_too_many}
use Rattle.carriage_model.specs.State.{State}
use Rattle.face_data.specs.declared.sizes.SizeAsk.{SizeAsk}
use Rattle.face_data.specs.Conditions.{size_of, broken_unless, unmet_size, first_unmet_size}
use Rattle.face_data.specs.Segments.{Changed}
use Rattle.face_data.specs.Sizes.{SizeRule, size_ask, size_asks}
use Rattle.face_data.proofs.Conditions.{broken-unless}
use Rattle.bed_rules.specs.Beds.{crowded_needles, tuck_rules}

both_test : (hold loops total : ℕ) → total ≡ loops → nat_lt hold loops ≡ not (nat_le total hold)
both_test hold loops total is = grind arith

one_test : (hold size total : ℕ) → 1 ≤ hold → total ≡ size → nat_lt hold (size + 1) ≡ not (nat_le total (hold - 1))
one_test hold size total some is = grind arith

size_one : (n : Needle) (t : State) → size_of (n ∷ []) t ≡ length (t.stacks n)
size_one n t = sum_by-cons (λ m. length (t.stacks m)) n [] ∙ omega arith

size_both : (n n2 : Needle) (t : State) → size_of (n2 ∷ n ∷ []) t ≡ length (t.stacks n2) + length (t.stacks n)
size_both n n2 t =
    let first : size_of (n2 ∷ n ∷ []) t ≡ length (t.stacks n2) + size_of (n ∷ []) t = sum_by-cons (λ m. length (t.stacks m)) n2 (n ∷ []) in
    omega (arith, first, size_one n t)

-- two needles' loops are too many for one
pub both-unmet : (profile : Profile) (n n2 : Needle) (at : ℕ) (t : State)
    → too_many profile (length (t.stacks n2) + length (t.stacks n)) at ≡ broken_unless (nat_le (size_of (n2 ∷ n ∷ []) t) profile.hold) (record { rule = TooManyLoops; at = at })
both-unmet profile n n2 at t =
    ap (λ b. broken_if b TooManyLoops at) (both_test profile.hold (length (t.stacks n2) + length (t.stacks n)) (size_of (n2 ∷ n ∷ []) t) (size_both n n2 t))
    ∙ broken-unless (nat_le (size_of (n2 ∷ n ∷ []) t) profile.hold) TooManyLoops at

-- one more loop is too many
pub one-unmet : (profile : Profile) (n : Needle) (t : State) → 1 ≤ profile.hold
    → too_many profile (length (t.stacks n) + 1) 2 ≡ broken_unless (nat_le (size_of (n ∷ []) t) (profile.hold - 1)) (record { rule = TooManyLoops; at = 2 })
one-unmet profile n t some =
    ap (λ b. broken_if b TooManyLoops 2) (one_test profile.hold (length (t.stacks n)) (size_of (n ∷ []) t) some (size_one n t))
    ∙ broken-unless (nat_le (size_of (n ∷ []) t) (profile.hold - 1)) TooManyLoops 2

-- the same of a tuck, which puts one more loop on the needle where it has carriers
pub tuck-unmet : (profile : Profile) (n : Needle) (cs : List CarrierNo) (t : State) → 1 ≤ profile.hold → 1 ≤ length cs
    → tuck_too_many profile n cs t ≡ broken_unless (nat_le (size_of (n ∷ []) t) (profile.hold - 1)) (record { rule = TooManyLoops; at = 2 })
tuck-unmet profile n [] t some more = absurd (omega arith)
tuck-unmet profile n (c ∷ cs) t some more = one-unmet profile n t some

-- of a list with one condition, the first that isn't met is that one, if any
pub one-asked : (before : List SizeAsk) (ask : SizeAsk) (after : List SizeAsk) (s : State) → before ≡ [] → after ≡ before ++ ask ∷ [] → first_unmet_size after s ≡ unmet_size ask s
one-asked before ask after s none more =
    ap (λ asks. first_unmet_size asks s) (more ∙ ap (λ (asks : List SizeAsk). asks ++ ask ∷ []) none) ∙ or_else-none (unmet_size ask s)

-- a list with one condition is that of one rule
pub one-listed : (before : List SizeAsk) (ask : SizeAsk) (after : List SizeAsk) (changes : List Changed) (rule wanted : SizeRule) → before ≡ [] → after ≡ before ++ ask ∷ []
    → ask ≡ size_ask changes rule → rule ≡ wanted → after ≡ size_asks changes (wanted ∷ [])
one-listed before ask after changes rule wanted none more is same =
    more ∙ ap (λ (asks : List SizeAsk). asks ++ ask ∷ []) none ∙ ap (λ (a : SizeAsk). a ∷ []) (is ∙ ap (size_ask changes) same)

-- the same of a tuck
pub tuck-listed : (hold : ℕ) (n : Needle) (cs : List CarrierNo) → 1 ≤ length cs → crowded_needles 2 (n ∷ []) (hold - 1) ∷ [] ≡ tuck_rules hold n cs
tuck-listed hold n [] more = absurd (omega arith)
tuck-listed hold n (c ∷ cs) more = refl

-- and of one without carriers
pub tuck-unlisted : (hold : ℕ) (n : Needle) (cs : List CarrierNo) → length cs ≡ 0 → [] ≡ tuck_rules hold n cs
tuck-unlisted hold n [] none = refl
tuck-unlisted hold n (c ∷ cs) none = absurd (omega arith)
