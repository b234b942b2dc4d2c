-- A transfer: its rack and its room are asked, and then the loops go over.
use Rattle.std.proofs.Common.{◌≡◌, ◌+◌, ◌≤◌, ℕ, Bool, true, List, [], ◌∷◌, ◌++◌, map, Option, None, Some, refl, sym, ap, ◌∙◌, subst, arith}
use Rattle.std.proofs.lemmas.Int.{ints}
use Rattle.std.specs.Option.{option_to_list}
use Rattle.knit_base.specs.declared.instr.Instr.{Instr}
use Rattle.knit_base.specs.declared.instr.Instr.TheVariants.{Xfer}
use Rattle.knit_base.specs.declared.instr.Quarter.{Quarter}
use Rattle.knit_base.specs.declared.instr.Read.TheVariants as read
use Rattle.knit_base.specs.declared.needle.Needle.{Needle}
use Rattle.knit_base.specs.declared.profile.Profile.{Profile}
use Rattle.knit_base.specs.declared.rule.Fault.{Fault}
use Rattle.knit_base.specs.declared.rule.Reason.{Reason}
use Rattle.knit_base.specs.declared.rule.Rule.TheVariants.{TooManyLoops}
use Rattle.knit_base.specs.Lawful.{IsLawfulInstr}
use Rattle.face_data.specs.declared.face.Ending.TheVariants.{Through}
use Rattle.face_data.specs.declared.sizes.SizeAsk.{SizeAsk}
use Rattle.face_data.specs.Composition.{composed, effect_of_both}
use Rattle.face_data.specs.Conditions.{broken_unless}
use Rattle.face_data.specs.Conditions.Ask.{size_at_most}
use Rattle.face_data.specs.Drafts.{no_effect}
use Rattle.face_data.specs.Goodness.{IsInOrder}
use Rattle.face_data.specs.declared.face.Last.{Last}
use Rattle.face_data.specs.Lasts.{lasts_of_both}
use Rattle.face_data.specs.Segments.{Changed}
use Rattle.face_data.specs.Sizes.{SizeRule, size_ask}
use Rattle.face_data.specs.Summaries.{AskedCondition, Summary}
use Rattle.bed_rules.specs.Beds.{crowded_needles, changes_with_move}
use Rattle.carrier_rules.specs.Carriers.{lasts_of}
use Rattle.rack_align.specs.Moves.{rack_ask}
use Rattle.block_summary.specs.Asks.{instr_ask}
use Rattle.block_summary.specs.DraftKnowledge.{HasAsked, HasAskedAll, HoldsAfter, IsSmall, Took, effect_in, changes_written}
use Rattle.block_summary.specs.LineSummaries.{conditions_of_instr, asked_of_rack, asked_of_sizes, line_summary, near_asked}
use Rattle.block_summary.proofs.LineSteps.{both_asked, carried_on, first_stops, line_goes, one_asked}

-- the rule on the room of the second needle
abbrev room_rule : ℕ → Needle → Needle → SizeRule
room_rule hold n n2 = crowded_needles 2 (n2 ∷ n ∷ []) hold

-- a transfer has no floats
no_floats : (limit : Option ℕ) (n n2 : Needle) → near_asked limit (Xfer n n2) ≡ []
no_floats None n n2 = refl
no_floats (Some float) n n2 = refl

-- all its conditions
xfer_asked : (profile : Profile) (n n2 : Needle) →
    conditions_of_instr profile (Xfer n n2) ≡ map asked_of_rack (option_to_list (rack_ask (Xfer n n2))) ++ asked_of_sizes (room_rule profile.hold n n2) ∷ []
xfer_asked profile n n2 =
    ap (λ (near : List AskedCondition). map asked_of_rack (option_to_list (rack_ask (Xfer n n2))) ++ asked_of_sizes (room_rule profile.hold n n2) ∷ near) (no_floats profile.float n n2)

all_asked : (profile : Profile) (instr : Instr) (n n2 : Needle) → instr ≡ Xfer n n2 →
    map asked_of_rack (option_to_list (rack_ask (Xfer n n2))) ++ asked_of_sizes (room_rule profile.hold n n2) ∷ [] ≡ conditions_of_instr profile instr
all_asked profile instr n n2 is = sym (ap (conditions_of_instr profile) is ∙ xfer_asked profile n n2)

-- the needles can't face each other
pub transfer_stops : (profile : Profile) (instr : Instr) (n n2 : Needle) (old new : Summary) (rack : Option (Reason × Quarter)) (stop : Option Reason) (reason : Reason) → instr ≡ Xfer n n2 →
    rack ≡ rack_ask instr → HasAskedAll old new (map asked_of_rack (option_to_list rack)) stop → stop ≡ Some reason → HasAskedAll old new (conditions_of_instr profile instr) (Some reason)
transfer_stops profile instr n n2 old new rack stop reason is rack_is asked halts =
    subst (λ (all : List AskedCondition). HasAskedAll old new all (Some reason)) (all_asked profile instr n n2 is)
    (first_stops old new (map asked_of_rack (option_to_list (rack_ask (Xfer n n2)))) (asked_of_sizes (room_rule profile.hold n n2) ∷ []) reason
    (subst (λ (r : Option (Reason × Quarter)). HasAskedAll old new (map asked_of_rack (option_to_list r)) (Some reason)) (rack_is ∙ ap rack_ask is)
    (subst (λ s. HasAskedAll old new (map asked_of_rack (option_to_list rack)) s) halts asked)))

-- the rack was asked about, and then the room
pub transfer_asked : (profile : Profile) (hold : ℕ) (instr : Instr) (n n2 : Needle) (old mid new : Summary) (rack : Option (Reason × Quarter)) (stop end : Option Reason) (ask : SizeAsk) (goes : Bool) →
    profile.hold ≡ hold → instr ≡ Xfer n n2 →
    rack ≡ rack_ask instr → HasAskedAll old mid (map asked_of_rack (option_to_list rack)) stop → stop ≡ None → ask ≡ size_ask mid.changes (room_rule hold n n2) →
    ((rule : SizeRule) → ask ≡ size_ask mid.changes rule → HasAsked mid new (record { line = mid.lines; reason = rule.reason }) (size_at_most rule.needles rule.most) goes) →
    end ≡ broken_unless goes (record { rule = TooManyLoops; at = 2 }) → HasAskedAll old new (conditions_of_instr profile instr) end
transfer_asked profile hold instr n n2 old mid new rack stop end ask goes limit is rack_is asked goes_on ask_is took ends =
    let rule : SizeRule = room_rule profile.hold n n2 in
    subst (λ (all : List AskedCondition). HasAskedAll old new all end) (all_asked profile instr n n2 is)
    (both_asked old mid new (map asked_of_rack (option_to_list (rack_ask (Xfer n n2)))) (asked_of_sizes rule ∷ []) end
    (subst (λ (r : Option (Reason × Quarter)). HasAskedAll old mid (map asked_of_rack (option_to_list r)) None) (rack_is ∙ ap rack_ask is)
    (subst (λ s. HasAskedAll old mid (map asked_of_rack (option_to_list rack)) s) goes_on asked))
    (subst (λ s. HasAskedAll mid new (asked_of_sizes rule ∷ []) s) (sym ends)
    (one_asked mid new rule.reason (size_at_most rule.needles rule.most) goes (took rule (ask_is ∙ ap (λ h. size_ask mid.changes (room_rule h n n2)) (sym limit))))))

-- the rack was asked about, and there is known to be room
pub transfer_roomy : (profile : Profile) (hold : ℕ) (instr : Instr) (n n2 : Needle) (old mid : Summary) (rack : Option (Reason × Quarter)) (stop : Option Reason) → profile.hold ≡ hold → instr ≡ Xfer n n2 →
    rack ≡ rack_ask instr → HasAskedAll old mid (map asked_of_rack (option_to_list rack)) stop → stop ≡ None → HoldsAfter mid (size_at_most (n2 ∷ n ∷ []) hold) →
    HasAskedAll old mid (conditions_of_instr profile instr) None
transfer_roomy profile hold instr n n2 old mid rack stop limit is rack_is asked goes_on holds =
    let rule : SizeRule = room_rule profile.hold n n2 in
    let fault : Fault = record { line = mid.lines; reason = rule.reason } in
    let took : HasAsked mid mid fault (size_at_most rule.needles rule.most) true =
    subst (λ answer. Took answer mid mid fault true) (sym (subst (λ h. HoldsAfter mid (size_at_most (n2 ∷ n ∷ []) h)) (sym limit) holds)) (refl, refl) in
    subst (λ (all : List AskedCondition). HasAskedAll old mid all None) (all_asked profile instr n n2 is)
    (both_asked old mid mid (map asked_of_rack (option_to_list (rack_ask (Xfer n n2)))) (asked_of_sizes rule ∷ []) None
    (subst (λ (r : Option (Reason × Quarter)). HasAskedAll old mid (map asked_of_rack (option_to_list r)) None) (rack_is ∙ ap rack_ask is)
    (subst (λ s. HasAskedAll old mid (map asked_of_rack (option_to_list rack)) s) goes_on asked))
    (one_asked mid mid rule.reason (size_at_most rule.needles rule.most) true took))

-- room for so few loops is a small condition
pub room_small : (hold : ℕ) (n n2 : Needle) (changes : List Changed) (ask : SizeAsk) → hold ≤ 64 → ask ≡ size_ask changes (room_rule hold n n2) → IsSmall ask
room_small hold n n2 changes ask few is = subst IsSmall (sym is) (let small : IsSmall (size_ask changes (room_rule hold n n2)) = omega (arith, ints, few) in small)

-- a transfer gives no carrier a last needle
no_lasts : (limit : Option ℕ) (n n2 : Needle) (lasts : List Last) → lasts ≡ lasts_of_both lasts (lasts_of limit (Xfer n n2))
no_lasts None n n2 lasts = refl
no_lasts (Some float) n n2 lasts = refl

-- A transfer of which all was asked, with its loops gone over.
pub transfer_goes : (profile : Profile) (carriers : ℕ) (instr : Instr) (n n2 : Needle) (old mid after new : Summary) → old.ending ≡ Through (effect_in old.ending) → IsInOrder old.changes →
    IsLawfulInstr profile carriers instr → instr ≡ Xfer n n2 → HasAskedAll old mid (conditions_of_instr profile instr) None →
    after ≡ record mid { changes = changes_written mid.changes (changes_with_move mid.changes n n2) } →
    new ≡ record after { lines = after.lines + 1; made = after.made + 0; ending = Through (effect_of_both (effect_in after.ending) no_effect) } →
    new ≡ composed old (line_summary profile (read.Instr instr))
transfer_goes profile carriers instr n n2 old mid after new through order lawful is asked went counted =
    let xfer : Instr = Xfer n n2 in
    let same : mid.changes ≡ old.changes = ap (λ (s : Summary). s.changes) asked.rest_stays in
    let put : after ≡ record mid { changes = changes_written mid.changes (changes_with_move old.changes n n2); lasts = lasts_of_both mid.lasts (lasts_of profile.float xfer) } =
    went ∙ (λ i. record mid { changes = changes_written mid.changes (changes_with_move (same i) n n2); lasts = no_lasts profile.float n n2 mid.lasts i }) in
    counted
    ∙ carried_on mid after (instr_ask profile xfer old.changes) put
    ∙ line_goes profile carriers xfer old mid (instr_ask profile xfer old.changes) through order (subst (IsLawfulInstr profile carriers) is lawful) refl
    (subst (λ (i : Instr). HasAskedAll old mid (conditions_of_instr profile i) None) is asked)
    ∙ ap (λ (i : Instr). composed old (line_summary profile (read.Instr i))) (sym is)

-- the changes stand in order, where those with the conditions do
pub rising_before : (old mid : Summary) → mid ≡ record old { checks = mid.checks } → IsInOrder mid.changes → IsInOrder old.changes
rising_before old mid rest rising = subst (λ (s : Summary). IsInOrder s.changes) rest rising
