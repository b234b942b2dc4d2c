-- The summary of a line is fair, and so that of a block is good and stands for it.
use Rattle.std.proofs.Common.{◌≡◌, ℕ, ◌+◌, ◌-◌, ◌≤◌, ◌<◌, Bool, true, false, cond, List, [], ◌∷◌, ◌++◌, map, None, Some, unwrap_or, refl, sym, ap, ◌∙◌, subst, arith, inl, inr, ◌⊎◌}
use Rattle.std.specs.List.{Contains, sum_by}
use Rattle.std.specs.List.Sorted.{IsStrictlySortedBy}
use Rattle.std.proofs.lemmas.Bool.{true≢false}
use Rattle.std.proofs.lemmas.List.Elements.{Contains-append_left, Contains-append_right}
use Rattle.std.proofs.lemmas.List.Sums.{sum_by-cons}
use Rattle.knit_base.specs.declared.instr.Instr.{Instr}
use Rattle.knit_base.specs.declared.instr.Instr.TheVariants.{Knit, Tuck, Split, Xfer, Drop}
use Rattle.knit_base.specs.declared.instr.Read.{Read}
use Rattle.knit_base.specs.declared.instr.Read.TheVariants as read
use Rattle.knit_base.specs.declared.needle.Needle.{Needle}
use Rattle.knit_base.specs.declared.needle.Dir.{Dir}
use Rattle.knit_base.specs.declared.profile.Profile.{Profile}
use Rattle.knit_base.specs.declared.rule.Reason.{Reason}
use Rattle.knit_base.specs.declared.rule.Rule.TheVariants.{SliderHolds, TooManyLoops}
use Rattle.knit_base.specs.declared.yarns.CarrierNo.{CarrierNo}
use Rattle.knit_base.specs.Lawful.{IsLawfulInstr, IsLawfulRead, IsFormedOnHook, AreOpposite}
use Rattle.knit_base.specs.Needle.{same_needle, same_needle-true, own_slider, is_slider}
use Rattle.face_data.specs.declared.face.Seg.{Seg}
use Rattle.face_data.specs.declared.face.Seg.TheVariants.{Entry, New}
use Rattle.face_data.specs.Conditions.Ask.{size_at_most}
use Rattle.face_data.specs.declared.face.Ending.{Ending}
use Rattle.face_data.specs.declared.face.Ending.TheVariants.{Through, Broken}
use Rattle.face_data.specs.declared.face.Last.{Last}
use Rattle.face_data.specs.Drafts.{no_effect}
use Rattle.face_data.specs.Lasts.{lasts_of_both}
use Rattle.face_data.specs.Goodness.{EndingFits, IsInOrder, entries_on, OwnsOnce, MeetsSizes, size_after, SizeFits, size_needles_in, ChangeFits, IsFair, IsGood}
use Rattle.knit_base.specs.Instr.{forming_needle, formed_on}
use Rattle.face_data.specs.Segments.{Changed, segments_on, entry_needles_of, new_of}
use Rattle.face_data.specs.Sets.{IsDistinct, AreNeedlesWithin, IsApart, NestedOrApart}
use Rattle.face_data.specs.Stands.{StandsFor}
use Rattle.face_data.specs.Summaries.{AskedCondition}
use Rattle.face_data.proofs.Drafts.{no_lines_good, drafted_good, drafted_stands}
use Rattle.face_data.proofs.Effects.{set_at_most}
use Rattle.face_data.proofs.Goodness.{owns_nothing, sizes_nothing, members_merged}
use Rattle.face_data.proofs.Members.{Contains-none, Contains-head, Contains-cons_cases}
use Rattle.face_data.proofs.ChangeLists.{order_merged}
use Rattle.face_data.proofs.LastLists.{order_both}
use Rattle.face_data.proofs.Owners.{only_itself}
use Rattle.carrier_rules.specs.Carriers.{early_of, effect_of, lasts_of}
use Rattle.block_summary.specs.LineSummaries.{asked_for, plainly_asked, rack_asked, slider_asked, sizes_asked, near_asked, conditions_of_instr, gone_over, new_loop, line_changes, line_summary, summary_asking_nothing, block_summary_of, NeedlesKnown, NeedlesKnownInLine, SliderKnown}
use Rattle.block_summary.proofs.LineChecks.{rule_asked, NamesAre, nested_among, Each, each_none, each_one, never_falls, CheckIs, EffectFits, effect_fits, checks_fit, float_number, float_set, floats_agree, line_floats, slider_other, slider_across, needles_across}
use Rattle.block_summary.proofs.LineLasts.{lasts_declared}
use Rattle.block_summary.proofs.LineStands.{gone_over-segments, line_stands}
use Rattle.knit_base.proofs.Needles.{same_needle-same, same_needle-false}

only_one : (c d : Changed) → Contains (c ∷ []) d → c ≡ d
only_one c d there = elim (Contains-cons_cases c [] d there) [ inl same ↦ same | inr none ↦ absurd (Contains-none d none) ]

-- the needles and segments of the changes
pub record ChangesAre (known : List Needle) (changes : List Changed) : Type 0 where
  pub order : IsInOrder changes
  pub fit : (c : Changed) → Contains changes c → ChangeFits 1 known c
  pub owns : OwnsOnce changes

no_changes : (known : List Needle) → ChangesAre known []
unfolding IsStrictlySortedBy
no_changes known = record { order = tt; fit = λ c there. absurd (Contains-none c there); owns = owns_nothing }

-- one changed needle
one_cases : (n m : Needle) (segs : List Seg) → ((n ≡ m) × (segments_on ((n, segs) ∷ []) m ≡ segs)) ⊎ (segments_on ((n, segs) ∷ []) m ≡ Entry m ∷ [])
one_cases n m segs = go (same_needle m n) refl
  where
    go : (here : Bool) → same_needle m n ≡ here →
        ((n ≡ m) × (unwrap_or (cond here (Some segs) None) (Entry m ∷ []) ≡ segs)) ⊎ (unwrap_or (cond here (Some segs) None) (Entry m ∷ []) ≡ Entry m ∷ [])
    go true same = inl (sym (same_needle-true m n same), refl)
    go false other = inr refl

one_here : (n : Needle) (segs : List Seg) → segments_on ((n, segs) ∷ []) n ≡ segs
one_here n segs = ap (λ here. unwrap_or (cond here (Some segs) None) (Entry n ∷ [])) (same_needle-same n n refl)

one_other : (n m : Needle) (segs : List Seg) → (m ≡ n → ⊥) → segments_on ((n, segs) ∷ []) m ≡ Entry m ∷ []
one_other n m segs other = ap (λ here. unwrap_or (cond here (Some segs) None) (Entry m ∷ [])) (same_needle-false m n other)

alone : (n : Needle) → IsDistinct (n ∷ [])
alone n = ((λ none. Contains-none n none), tt)

one_change : (known : List Needle) (n : Needle) (segs : List Seg) → Contains known n → IsDistinct (entry_needles_of segs) → ((x : Needle) → Contains (entry_needles_of segs) x → n ≡ x) →
    ((offset : ℕ) → Contains segs (New offset) → offset < 1) → ChangesAre known ((n, segs) ∷ [])
unfolding IsStrictlySortedBy
one_change known n segs there distinct own offsets = record {
  order = (tt, tt);
  fit = λ c is. subst (ChangeFits 1 known) (only_one (n, segs) c is) (record {
    needle = there;
    entries = λ x in_segs. subst (Contains known) (own x in_segs) there;
    offsets = offsets;
  });
  owns = record {
    distinct = λ m. elim (one_cases n m segs) [
      | inl here ↦ subst (λ s. IsDistinct (entry_needles_of s)) (sym here.1) distinct
      | inr other ↦ subst (λ s. IsDistinct (entry_needles_of s)) (sym other) (alone m)
    ];
    owner = λ m other x held_m held_other. itself m x held_m ∙ sym (itself other x held_other);
  };
}
  where
    itself : (m x : Needle) → Contains (entries_on ((n, segs) ∷ []) m) x → m ≡ x
    itself m x there = elim (one_cases n m segs) [
      | inl here ↦ sym here.0 ∙ own x (subst (λ s. Contains (entry_needles_of s) x) here.1 there)
      | inr other ↦ only_itself m x (subst (λ s. Contains (entry_needles_of s) x) other there)
    ]

one_sizes : (limit : ℕ) (n : Needle) (segs : List Seg) (size : Needle → ℕ) → ((m : Needle) → size m ≤ limit) → sum_by size (entry_needles_of segs) + new_of segs ≤ limit →
    (m : Needle) → size_after ((n, segs) ∷ []) size m ≤ limit
one_sizes limit n segs size small here m = elim (one_cases n m segs) [
  | inl changed ↦ subst (λ s. sum_by size (entry_needles_of s) + new_of s ≤ limit) (sym changed.1) here
  | inr other ↦ subst (λ s. sum_by size (entry_needles_of s) + new_of s ≤ limit) (sym other) (let own = small m in omega (arith, own, sum_by-cons size m []))
]

-- loops that went over
over_cases : (n n2 m : Needle) (left : List Seg) →
    ((m ≡ n) × (segments_on (gone_over n n2 left) m ≡ left))
    ⊎ (((m ≡ n2) × (segments_on (gone_over n n2 left) m ≡ Entry n2 ∷ Entry n ∷ [])) ⊎ ((m ≡ n → ⊥) × (segments_on (gone_over n n2 left) m ≡ Entry m ∷ [])))
over_cases n n2 m left = go (same_needle m n) refl (same_needle m n2) refl (gone_over-segments n n2 m left)
  where
    go : (here : Bool) → same_needle m n ≡ here → (there : Bool) → same_needle m n2 ≡ there →
        segments_on (gone_over n n2 left) m ≡ unwrap_or (cond (same_needle m n) (Some left) (cond (same_needle m n2) (Some (Entry n2 ∷ Entry n ∷ [])) None)) (Entry m ∷ []) →
        ((m ≡ n) × (segments_on (gone_over n n2 left) m ≡ left))
        ⊎ (((m ≡ n2) × (segments_on (gone_over n n2 left) m ≡ Entry n2 ∷ Entry n ∷ [])) ⊎ ((m ≡ n → ⊥) × (segments_on (gone_over n n2 left) m ≡ Entry m ∷ [])))
    go true same there is segments =
        inl (same_needle-true m n same, segments ∙ ap (λ b. unwrap_or (cond b (Some left) (cond (same_needle m n2) (Some (Entry n2 ∷ Entry n ∷ [])) None)) (Entry m ∷ [])) same)
    go false other true is segments =
        inr (inl (
          same_needle-true m n2 is,
          segments ∙ (λ i. unwrap_or (cond (other i) (Some left) (cond (is i) (Some (Entry n2 ∷ Entry n ∷ [])) None)) (Entry m ∷ [])),
        ))
    go false other false is segments =
        inr (inr (
          (λ same. true≢false (sym (same_needle-same m n same) ∙ other)),
          segments ∙ (λ i. unwrap_or (cond (other i) (Some left) (cond (is i) (Some (Entry n2 ∷ Entry n ∷ [])) None)) (Entry m ∷ [])),
        ))

-- the needle on which an entry stands after that
heir : Needle → Needle → Needle → Needle
heir n n2 x = cond (same_needle x n) n2 x

heir_same : (n n2 : Needle) → heir n n2 n2 ≡ n2
unfolding heir
heir_same n n2 = go (same_needle n2 n)
  where
    go : (b : Bool) → cond b n2 n2 ≡ n2
    go true = refl
    go false = refl

heir_moved : (n n2 : Needle) → heir n n2 n ≡ n2
unfolding heir
heir_moved n n2 = ap (λ b. cond b n2 n) (same_needle-same n n refl)

heir_other : (n n2 m : Needle) → (m ≡ n → ⊥) → heir n n2 m ≡ m
unfolding heir
heir_other n n2 m other = ap (λ b. cond b n2 m) (same_needle-false m n other)

no_entry : (segs : List Seg) (x : Needle) → entry_needles_of segs ≡ [] → Contains (entry_needles_of segs) x → ⊥
no_entry segs x none there = Contains-none x (subst (λ xs. Contains xs x) none there)

one_of_two : (n n2 x : Needle) → Contains (n2 ∷ n ∷ []) x → (n2 ≡ x) ⊎ (n ≡ x)
one_of_two n n2 x there = elim (Contains-cons_cases n2 (n ∷ []) x there) [ inl first ↦ inl first | inr second ↦ inr (only_itself n x second) ]

two_distinct : (n n2 : Needle) → (n ≡ n2 → ⊥) → IsDistinct (n2 ∷ n ∷ [])
two_distinct n n2 other = ((λ there. other (only_itself n n2 there)), alone n)

no_offsets : (n n2 : Needle) (offset : ℕ) → Contains (Entry n2 ∷ Entry n ∷ []) (New offset) → offset < 1
no_offsets n n2 offset there = elim (Contains-cons_cases (Entry n2) (Entry n ∷ []) (New offset) there) [
  | inl same ↦ absurd (cc)
  | inr later ↦ elim (Contains-cons_cases (Entry n) [] (New offset) later) [ inl same ↦ absurd (cc) | inr none ↦ absurd (Contains-none (New offset) none) ]
]

over_change : (known : List Needle) (n n2 : Needle) (left : List Seg) → Contains known n → Contains known n2 → (n ≡ n2 → ⊥) → entry_needles_of left ≡ [] →
    ((offset : ℕ) → Contains left (New offset) → offset < 1) → ChangesAre known (gone_over n n2 left)
unfolding IsStrictlySortedBy
over_change known n n2 left in_known in_known2 other none offsets = record {
  order = order_merged ((n2, Entry n2 ∷ Entry n ∷ []) ∷ []) ((n, left) ∷ []) (tt, tt) (tt, tt);
  fit = members_merged (ChangeFits 1 known) ((n2, Entry n2 ∷ Entry n ∷ []) ∷ []) ((n, left) ∷ [])
      (λ c is. subst (ChangeFits 1 known) (only_one (n2, Entry n2 ∷ Entry n ∷ []) c is) (record {
        needle = in_known2;
        entries = λ x there. elim (one_of_two n n2 x there) [ inl second ↦ subst (Contains known) second in_known2 | inr first ↦ subst (Contains known) first in_known ];
        offsets = no_offsets n n2;
      }))
      (λ c is. subst (ChangeFits 1 known) (only_one (n, left) c is) (record {
        needle = in_known;
        entries = λ x there. absurd (no_entry left x none there);
        offsets = offsets;
      }));
  owns = record {
    distinct = λ m. elim (over_cases n n2 m left) [
      | inl gone ↦ subst (λ s. IsDistinct (entry_needles_of s)) (sym gone.1) (subst IsDistinct (sym none) tt)
      | inr rest ↦ elim rest [
        | inl both ↦ subst (λ s. IsDistinct (entry_needles_of s)) (sym both.1) (two_distinct n n2 other)
        | inr own ↦ subst (λ s. IsDistinct (entry_needles_of s)) (sym own.1) (alone m)
      ]
    ];
    owner = λ m m2 x held_m held_m2. to_heir m x held_m ∙ sym (to_heir m2 x held_m2);
  };
}
  where
    to_heir : (m x : Needle) → Contains (entries_on (gone_over n n2 left) m) x → m ≡ heir n n2 x
    to_heir m x there = elim (over_cases n n2 m left) [
      | inl gone ↦ absurd (no_entry left x none (subst (λ s. Contains (entry_needles_of s) x) gone.1 there))
      | inr rest ↦ elim rest [
        | inl both ↦ elim (one_of_two n n2 x (subst (λ s. Contains (entry_needles_of s) x) both.1 there)) [
          | inl second ↦ both.0 ∙ sym (heir_same n n2) ∙ ap (heir n n2) second
          | inr first ↦ both.0 ∙ sym (heir_moved n n2) ∙ ap (heir n n2) first
        ]
        | inr own ↦ (let same = only_itself m x (subst (λ s. Contains (entry_needles_of s) x) own.1 there) in sym (heir_other n n2 m own.0) ∙ ap (heir n n2) same)
      ]
    ]

over_sizes : (limit : ℕ) (n n2 : Needle) (left : List Seg) (size : Needle → ℕ) → ((m : Needle) → size m ≤ limit) → sum_by size (entry_needles_of left) + new_of left ≤ limit →
    sum_by size (n2 ∷ n ∷ []) ≤ limit → (m : Needle) → size_after (gone_over n n2 left) size m ≤ limit
over_sizes limit n n2 left size small first second m = elim (over_cases n n2 m left) [
  | inl gone ↦ subst (λ s. sum_by size (entry_needles_of s) + new_of s ≤ limit) (sym gone.1) first
  | inr rest ↦ elim rest [
    | inl both ↦ subst (λ s. sum_by size (entry_needles_of s) + new_of s ≤ limit) (sym both.1) (omega (arith, second))
    | inr own ↦ subst (λ s. sum_by size (entry_needles_of s) + new_of s ≤ limit) (sym own.1) (let mine = small m in omega (arith, mine, sum_by-cons size m []))
  ]
]

over_there : (n n2 : Needle) (left : List Seg) → (n ≡ n2 → ⊥) → segments_on (gone_over n n2 left) n2 ≡ Entry n2 ∷ Entry n ∷ []
over_there n n2 left other =
    gone_over-segments n n2 n2 left
    ∙ (λ i. unwrap_or (cond (same_needle-false n2 n (λ same. other (sym same)) i) (Some left) (cond (same_needle-same n2 n2 refl i) (Some (Entry n2 ∷ Entry n ∷ [])) None)) (Entry n2 ∷ []))

over_other : (n n2 m : Needle) (left : List Seg) → (m ≡ n → ⊥) → (m ≡ n2 → ⊥) → segments_on (gone_over n n2 left) m ≡ Entry m ∷ []
over_other n n2 m left one two =
    gone_over-segments n n2 m left ∙ (λ i. unwrap_or (cond (same_needle-false m n one i) (Some left) (cond (same_needle-false m n2 two i) (Some (Entry n2 ∷ Entry n ∷ [])) None)) (Entry m ∷ []))

-- a loop that is formed
formed_none : (cs : List CarrierNo) → entry_needles_of (new_loop cs) ≡ []
formed_none [] = refl
formed_none (c ∷ cs) = refl

formed_offsets : (cs : List CarrierNo) (offset : ℕ) → Contains (new_loop cs) (New offset) → offset < 1
formed_offsets [] offset there = absurd (Contains-none (New offset) there)
formed_offsets (c ∷ cs) offset there = elim (Contains-cons_cases (New 0) [] (New offset) there) [
  | inl same ↦ (let none : 0 ≡ offset = cc in omega arith)
  | inr none ↦ absurd (Contains-none (New offset) none)
]

formed_sizes : (cs : List CarrierNo) (limit : ℕ) (size : Needle → ℕ) → 1 ≤ limit → sum_by size (entry_needles_of (new_loop cs)) + new_of (new_loop cs) ≤ limit
formed_sizes [] limit size some = omega arith
formed_sizes (c ∷ cs) limit size some = some

-- the line's parts make up a fair summary
assembled : (profile : Profile) (carriers : ℕ) (known first second : List Needle) (instr : Instr) → IsLawfulInstr profile carriers instr →
    Each (CheckIs carriers profile.hold known first second (line_changes instr)) (conditions_of_instr profile instr) →
    NestedOrApart first second → ChangesAre known (line_changes instr) →
    ((size : Needle → ℕ) → ((n : Needle) → size n ≤ profile.hold) → MeetsSizes (conditions_of_instr profile instr) size → (m : Needle) → size_after (line_changes instr) size m ≤ profile.hold) →
    IsFair carriers profile.hold known (line_summary profile (read.Instr instr))
assembled profile carriers known first second instr lawful checks nested changes sizes =
    let effect : EffectFits carriers (effect_of instr) = effect_fits profile carriers instr lawful in
    let number = float_number instr in
    let float = unwrap_or profile.float 0 in
    let lasts : List Last = lasts_of_both [] (lasts_of profile.float instr) in
    let floats = line_floats profile instr in
    record {
      made = set_at_most (forming_needle instr);
      asks_fit = λ c there. (checks c there).fits;
      within = λ c there. (let line = (checks c there).line in omega arith);
      in_turn = never_falls (conditions_of_instr profile instr) (λ c there. (checks c there).line);
      nested = λ c d here there. nested_among first second (size_needles_in c.ask) (size_needles_in d.ask) nested (checks c here).names (checks d there).names;
      agree = λ c d here there. floats_agree number float lasts c.ask d.ask (floats c here) (floats d there);
      in_order = changes.order;
      changes_fit = changes.fit;
      owns = changes.owns;
      lasts_in_order = order_both [] (lasts_of profile.float instr) tt;
      lasts_fit = lasts_declared profile carriers profile.float instr lawful;
      sizes = sizes;
      ending = record {
        lies = λ c there. (checks c there).lies;
        apart = effect.apart;
        came = effect.came;
        went = effect.went;
        hook = effect.hook;
        nears = λ c there. float_set number float lasts c.ask (floats c there);
      };
    }

-- a condition on sizes
sized_is : (carriers hold : ℕ) (known first second : List Needle) (changes : List Changed) (reason : Reason) (names : List Needle) (most : ℕ) → SizeFits hold known names most →
    NamesAre first second names → (m : Needle) → entries_on changes m ≡ names → CheckIs carriers hold known first second changes (asked_for reason (size_at_most names most))
sized_is carriers hold known first second changes reason names most fits are m holds_them = record {
  line = refl;
  fits = fits;
  names = are;
  lies = inl (m, λ n there. subst (λ xs. Contains xs n) (sym holds_them) there);
}

-- the own slider is asked to be empty, where a loop is formed, and stays as it is
slider_each : (carriers hold : ℕ) (known second : List Needle) (changes : List Changed) (n : Needle) (cs : List CarrierNo) → SliderKnown known (formed_on n cs) →
    (is_slider n.bed ≡ false → entries_on changes (own_slider n) ≡ own_slider n ∷ []) → IsFormedOnHook (formed_on n cs) →
    Each (CheckIs carriers hold known (own_slider n ∷ []) second changes) (slider_asked (formed_on n cs))
slider_each carriers hold known second changes n [] there stays hook = each_none (CheckIs carriers hold known (own_slider n ∷ []) second changes)
slider_each carriers hold known second changes n (c ∷ cs) there stays hook =
    each_one (CheckIs carriers hold known (own_slider n ∷ []) second changes) _
    (sized_is carriers hold known (own_slider n ∷ []) second changes (record { rule = SliderHolds; at = 2 }) (own_slider n ∷ []) 0
    (record {
      some = omega arith;
      distinct = alone (own_slider n);
      within = λ x is. subst (Contains known) (only_itself (own_slider n) x is) there;
      at_most = omega arith;
    })
    (inr (inl refl)) (own_slider n) (stays hook))

apart_from_one : (x n : Needle) → (x ≡ n → ⊥) → IsApart (x ∷ []) (n ∷ [])
apart_from_one x n other y here there = other (only_itself x y here ∙ sym (only_itself n y there))

apart_from_two : (x n n2 : Needle) → (x ≡ n → ⊥) → (x ≡ n2 → ⊥) → IsApart (x ∷ []) (n2 ∷ n ∷ [])
apart_from_two x n n2 one two y here there = elim (one_of_two n n2 y there) [
  | inl second ↦ two (only_itself x y here ∙ sym second)
  | inr first ↦ one (only_itself x y here ∙ sym first)
]

-- a condition on sizes is one of the line's
size_asked : (profile : Profile) (instr : Instr) (c : AskedCondition) → Contains (sizes_asked profile.hold instr) c → Contains (conditions_of_instr profile instr) c
size_asked profile instr c there =
    let on : List AskedCondition = slider_asked (forming_needle instr) in
    let last : List AskedCondition = sizes_asked profile.hold instr ++ near_asked profile.float instr in
    Contains-append_right (map plainly_asked (early_of instr)) (rack_asked instr ++ (on ++ last)) c
    (Contains-append_right (rack_asked instr) (on ++ last) c
    (Contains-append_right on last c (Contains-append_left (sizes_asked profile.hold instr) (near_asked profile.float instr) c there)))

nothing_in : (xs : List Needle) → AreNeedlesWithin [] xs
nothing_in xs n there = absurd (Contains-none n there)

-- an instruction that changes no needle
idle : (profile : Profile) (carriers : ℕ) (known : List Needle) (instr : Instr) → IsLawfulInstr profile carriers instr → forming_needle instr ≡ None → sizes_asked profile.hold instr ≡ [] →
    line_changes instr ≡ [] → IsFair carriers profile.hold known (line_summary profile (read.Instr instr))
idle profile carriers known instr lawful none sizes same =
    let P = CheckIs carriers profile.hold known [] [] (line_changes instr) in
    assembled profile carriers known [] [] instr lawful
    (checks_fit profile carriers known [] [] (line_changes instr) instr lawful
    (subst (λ on. Each P (slider_asked on)) (sym none) (each_none P)) (subst (Each P) (sym sizes) (each_none P)))
    (inl (nothing_in [])) (subst (ChangesAre known) (sym same) (no_changes known))
    (λ size small meets m. subst (λ changes. size_after changes size m ≤ profile.hold) (sym same) (sizes_nothing profile.hold size small m))

no_new : (offset : ℕ) → Contains [] (New offset) → offset < 1
no_new offset there = absurd (Contains-none (New offset) there)

tuck_offsets : (n : Needle) (offset : ℕ) → Contains (Entry n ∷ New 0 ∷ []) (New offset) → offset < 1
tuck_offsets n offset there = elim (Contains-cons_cases (Entry n) (New 0 ∷ []) (New offset) there) [
  | inl same ↦ absurd (cc)
  | inr later ↦ formed_offsets (record { 0 = 0 } ∷ []) offset later
]

tuck_fair : (profile : Profile) (carriers : ℕ) (known : List Needle) (dir : Dir) (n : Needle) (c : CarrierNo) (cs : List CarrierNo) → 1 ≤ profile.hold →
    IsLawfulInstr profile carriers (Tuck dir n (c ∷ cs)) → Contains known n → Contains known (own_slider n) →
    IsFair carriers profile.hold known (line_summary profile (read.Instr (Tuck dir n (c ∷ cs))))
tuck_fair profile carriers known dir n c cs some lawful there slider =
    let hook : is_slider n.bed ≡ false = lawful.formed in
    let changes : List Changed = (n, Entry n ∷ New 0 ∷ []) ∷ [] in
    let room : AskedCondition = rule_asked TooManyLoops 2 (size_at_most (n ∷ []) (profile.hold - 1)) in
    assembled profile carriers known (own_slider n ∷ []) (n ∷ []) (Tuck dir n (c ∷ cs)) lawful
    (checks_fit profile carriers known (own_slider n ∷ []) (n ∷ []) changes (Tuck dir n (c ∷ cs)) lawful
    (slider_each carriers profile.hold known (n ∷ []) changes n (c ∷ cs) slider
    (λ is. ap entry_needles_of (one_other n (own_slider n) (Entry n ∷ New 0 ∷ []) (slider_other n is))) hook)
    (each_one (CheckIs carriers profile.hold known (own_slider n ∷ []) (n ∷ []) changes) room
    (sized_is carriers profile.hold known (own_slider n ∷ []) (n ∷ []) changes (record { rule = TooManyLoops; at = 2 }) (n ∷ []) (profile.hold - 1)
    (record {
      some = omega arith;
      distinct = alone n;
      within = λ x is. subst (Contains known) (only_itself n x is) there;
      at_most = omega arith;
    })
    (inr (inr refl)) n (ap entry_needles_of (one_here n (Entry n ∷ New 0 ∷ []))))))
    (inr (inr (apart_from_one (own_slider n) n (slider_other n hook))))
    (one_change known n (Entry n ∷ New 0 ∷ []) there (alone n) (λ x is. only_itself n x is) (tuck_offsets n))
    (λ size small meets m. one_sizes profile.hold n (Entry n ∷ New 0 ∷ []) size small
    (let before : sum_by size (n ∷ []) ≤ profile.hold - 1 = meets room (size_asked profile (Tuck dir n (c ∷ cs)) room (Contains-head room [])) in
    let new : new_of (Entry n ∷ New 0 ∷ []) ≡ 1 = refl in
    let entries : sum_by size (entry_needles_of (Entry n ∷ New 0 ∷ [])) ≡ sum_by size (n ∷ []) = refl in
    omega (arith, before, new, entries, some)) m)

-- the condition that the loops of both have room on one
both_fit : (hold : ℕ) (known : List Needle) (n n2 : Needle) → Contains known n → Contains known n2 → (n ≡ n2 → ⊥) → SizeFits hold known (n2 ∷ n ∷ []) hold
both_fit hold known n n2 one two other = record {
  some = omega arith;
  distinct = two_distinct n n2 other;
  within = λ x there. elim (one_of_two n n2 x there) [ inl second ↦ subst (Contains known) second two | inr first ↦ subst (Contains known) first one ];
  at_most = omega arith;
}

-- loops go over, and no loop is formed
over_fair : (profile : Profile) (carriers : ℕ) (known : List Needle) (instr : Instr) (n n2 : Needle) (at : ℕ) → IsLawfulInstr profile carriers instr → AreOpposite n n2 →
    Contains known n → Contains known n2 → forming_needle instr ≡ None →
    sizes_asked profile.hold instr ≡ rule_asked TooManyLoops at (size_at_most (n2 ∷ n ∷ []) profile.hold) ∷ [] → line_changes instr ≡ gone_over n n2 [] →
    IsFair carriers profile.hold known (line_summary profile (read.Instr instr))
over_fair profile carriers known instr n n2 at lawful opposite one two none sizes same =
    let P = CheckIs carriers profile.hold known [] (n2 ∷ n ∷ []) (line_changes instr) in
    let room : AskedCondition = rule_asked TooManyLoops at (size_at_most (n2 ∷ n ∷ []) profile.hold) in
    let other : n ≡ n2 → ⊥ = needles_across n n2 opposite in
    assembled profile carriers known [] (n2 ∷ n ∷ []) instr lawful
    (checks_fit profile carriers known [] (n2 ∷ n ∷ []) (line_changes instr) instr lawful
    (subst (λ on. Each P (slider_asked on)) (sym none) (each_none P))
    (subst (Each P) (sym sizes) (each_one P room
    (sized_is carriers profile.hold known [] (n2 ∷ n ∷ []) (line_changes instr) (record { rule = TooManyLoops; at = at }) (n2 ∷ n ∷ []) profile.hold
    (both_fit profile.hold known n n2 one two other) (inr (inr refl)) n2
    (ap (λ changes. entries_on changes n2) same ∙ ap entry_needles_of (over_there n n2 [] other))))))
    (inl (nothing_in (n2 ∷ n ∷ [])))
    (subst (ChangesAre known) (sym same) (over_change known n n2 [] one two other refl no_new))
    (λ size small meets m. subst (λ changes. size_after changes size m ≤ profile.hold) (sym same)
    (over_sizes profile.hold n n2 [] size small (omega arith)
    (meets room (size_asked profile instr room (subst (λ checks. Contains checks room) (sym sizes) (Contains-head room [])))) m))

split_fair : (profile : Profile) (carriers : ℕ) (known : List Needle) (dir : Dir) (n n2 : Needle) (c : CarrierNo) (cs : List CarrierNo) → 1 ≤ profile.hold →
    IsLawfulInstr profile carriers (Split dir n n2 (c ∷ cs)) → Contains known n → Contains known (own_slider n) → Contains known n2 →
    IsFair carriers profile.hold known (line_summary profile (read.Instr (Split dir n n2 (c ∷ cs))))
split_fair profile carriers known dir n n2 c cs some lawful one slider two =
    let opposite : AreOpposite n n2 = lawful.moved in
    let hook : is_slider n.bed ≡ false = lawful.formed in
    let other : n ≡ n2 → ⊥ = needles_across n n2 opposite in
    let left : List Seg = New 0 ∷ [] in
    let room : AskedCondition = rule_asked TooManyLoops 3 (size_at_most (n2 ∷ n ∷ []) profile.hold) in
    assembled profile carriers known (own_slider n ∷ []) (n2 ∷ n ∷ []) (Split dir n n2 (c ∷ cs)) lawful
    (checks_fit profile carriers known (own_slider n ∷ []) (n2 ∷ n ∷ []) (gone_over n n2 left) (Split dir n n2 (c ∷ cs)) lawful
    (slider_each carriers profile.hold known (n2 ∷ n ∷ []) (gone_over n n2 left) n (c ∷ cs) slider
    (λ is. ap entry_needles_of (over_other n n2 (own_slider n) left (slider_other n is) (slider_across n n2 opposite))) hook)
    (each_one (CheckIs carriers profile.hold known (own_slider n ∷ []) (n2 ∷ n ∷ []) (gone_over n n2 left)) room
    (sized_is carriers profile.hold known (own_slider n ∷ []) (n2 ∷ n ∷ []) (gone_over n n2 left) (record { rule = TooManyLoops; at = 3 }) (n2 ∷ n ∷ []) profile.hold
    (both_fit profile.hold known n n2 one two other) (inr (inr refl)) n2 (ap entry_needles_of (over_there n n2 left other)))))
    (inr (inr (apart_from_two (own_slider n) n n2 (slider_other n hook) (slider_across n n2 opposite))))
    (over_change known n n2 left one two other refl (formed_offsets (c ∷ cs)))
    (λ size small meets m. over_sizes profile.hold n n2 left size small (formed_sizes (c ∷ cs) profile.hold size some)
    (meets room (size_asked profile (Split dir n n2 (c ∷ cs)) room (Contains-head room []))) m)

-- one needle is left with a new loop or with none
left_fair : (profile : Profile) (carriers : ℕ) (known first : List Needle) (instr : Instr) (n : Needle) (cs : List CarrierNo) → 1 ≤ profile.hold → IsLawfulInstr profile carriers instr →
    Contains known n → Each (CheckIs carriers profile.hold known first [] (line_changes instr)) (slider_asked (forming_needle instr)) → sizes_asked profile.hold instr ≡ [] →
    line_changes instr ≡ (n, new_loop cs) ∷ [] → IsFair carriers profile.hold known (line_summary profile (read.Instr instr))
left_fair profile carriers known first instr n cs some lawful there slider sizes same =
    let P = CheckIs carriers profile.hold known first [] (line_changes instr) in
    assembled profile carriers known first [] instr lawful
    (checks_fit profile carriers known first [] (line_changes instr) instr lawful slider (subst (Each P) (sym sizes) (each_none P)))
    (inr (inl (nothing_in first)))
    (subst (ChangesAre known) (sym same) (one_change known n (new_loop cs) there (subst IsDistinct (sym (formed_none cs)) tt)
    (λ x is. absurd (no_entry (new_loop cs) x (formed_none cs) is)) (formed_offsets cs)))
    (λ size small meets m. subst (λ changes. size_after changes size m ≤ profile.hold) (sym same)
    (one_sizes profile.hold n (new_loop cs) size small (formed_sizes cs profile.hold size some) m))

first_known : (known : List Needle) (n n2 : Needle) → AreNeedlesWithin (n ∷ n2 ∷ []) known → Contains known n
first_known known n n2 within = within n (Contains-head n (n2 ∷ []))

second_known : (known : List Needle) (n n2 : Needle) → AreNeedlesWithin (n ∷ n2 ∷ []) known → Contains known n2
second_known known n n2 within = within n2 (Contains-append_right (n ∷ []) (n2 ∷ []) n2 (Contains-head n2 []))

-- the summary of an instruction's line is fair
pub instr_fair : (profile : Profile) (carriers : ℕ) (known : List Needle) (instr : Instr) → 1 ≤ profile.hold → IsLawfulInstr profile carriers instr → NeedlesKnown known instr →
    IsFair carriers profile.hold known (line_summary profile (read.Instr instr))
instr_fair profile carriers known (Knit dir n cs) some lawful knows =
    left_fair profile carriers known (own_slider n ∷ []) (Knit dir n cs) n cs some lawful (knows.needles n (Contains-head n []))
    (slider_each carriers profile.hold known [] ((n, new_loop cs) ∷ []) n cs knows.slider
    (λ hook. ap entry_needles_of (one_other n (own_slider n) (new_loop cs) (slider_other n hook))) lawful.formed)
    refl refl
instr_fair profile carriers known (Tuck dir n []) some lawful knows = idle profile carriers known (Tuck dir n []) lawful refl refl refl
instr_fair profile carriers known (Tuck dir n (c ∷ cs)) some lawful knows = tuck_fair profile carriers known dir n c cs some lawful (knows.needles n (Contains-head n [])) knows.slider
instr_fair profile carriers known (Split dir n n2 []) some lawful knows =
    over_fair profile carriers known (Split dir n n2 []) n n2 3 lawful lawful.moved (first_known known n n2 knows.needles) (second_known known n n2 knows.needles) refl refl refl
instr_fair profile carriers known (Split dir n n2 (c ∷ cs)) some lawful knows =
    split_fair profile carriers known dir n n2 c cs some lawful (first_known known n n2 knows.needles) knows.slider (second_known known n n2 knows.needles)
instr_fair profile carriers known (Xfer n n2) some lawful knows =
    over_fair profile carriers known (Xfer n n2) n n2 2 lawful lawful.moved (first_known known n n2 knows.needles) (second_known known n n2 knows.needles) refl refl refl
instr_fair profile carriers known (Drop n) some lawful knows =
    left_fair profile carriers known [] (Drop n) n [] some lawful (knows.needles n (Contains-head n [])) (each_none (CheckIs carriers profile.hold known [] [] ((n, []) ∷ []))) refl refl
instr_fair profile carriers known instr some lawful knows = idle profile carriers known instr lawful refl refl refl

-- a line that asks and changes nothing, whichever way it ends
unasked_fair : (carriers hold : ℕ) (known : List Needle) (ending : Ending) → EndingFits carriers (summary_asking_nothing ending) ending → IsFair carriers hold known (summary_asking_nothing ending)
unasked_fair carriers hold known ending fits =
    let none = (no_lines_good carriers hold known).fair in
    record {
      made = omega arith;
      asks_fit = none.asks_fit;
      within = λ c there. absurd (Contains-none c there);
      in_turn = tt;
      nested = none.nested;
      agree = none.agree;
      in_order = none.in_order;
      changes_fit = λ c there. absurd (Contains-none c there);
      owns = none.owns;
      lasts_in_order = tt;
      lasts_fit = none.lasts_fit;
      sizes = none.sizes;
      ending = fits;
    }

nothing_fair : (carriers hold : ℕ) (known : List Needle) → IsFair carriers hold known (summary_asking_nothing (Through no_effect))
nothing_fair carriers hold known =
    let ending = (no_lines_good carriers hold known).fair.ending in
    unasked_fair carriers hold known (Through no_effect) (record {
      lies = λ c there. absurd (Contains-none c there);
      apart = ending.apart;
      came = ending.came;
      went = ending.went;
      hook = ending.hook;
      nears = λ c there. absurd (Contains-none c there);
    })

broken_fair : (carriers hold : ℕ) (known : List Needle) (reason : Reason) → IsFair carriers hold known (summary_asking_nothing (Broken (record { line = 0; reason = reason })))
broken_fair carriers hold known reason =
    unasked_fair carriers hold known (Broken (record { line = 0; reason = reason })) (record {
      within = omega arith;
      last = λ c there. absurd (Contains-none c there);
      unchanged = refl;
      no_lasts = refl;
      made = refl;
    })

-- The summary of a line is fair.
pub line_fair : (profile : Profile) (carriers : ℕ) (known : List Needle) (r : Read) → 1 ≤ profile.hold → IsLawfulRead profile carriers r → NeedlesKnownInLine known r →
    IsFair carriers profile.hold known (line_summary profile r)
line_fair profile carriers known read.Blank some lawful knows = nothing_fair carriers profile.hold known
line_fair profile carriers known read.Comment some lawful knows = nothing_fair carriers profile.hold known
line_fair profile carriers known (read.Broken reason) some lawful knows = broken_fair carriers profile.hold known reason
line_fair profile carriers known (read.Instr instr) some lawful knows = instr_fair profile carriers known instr some lawful knows

-- The summary of a block is good.
pub block_good : (profile : Profile) (carriers : ℕ) (known : List Needle) (rs : List Read) → 1 ≤ profile.hold →
    ((r : Read) → Contains rs r → IsLawfulRead profile carriers r) → ((r : Read) → Contains rs r → NeedlesKnownInLine known r) →
    IsGood carriers profile.hold known (block_summary_of profile rs)
block_good profile carriers known rs some lawful knows =
    drafted_good (line_summary profile) carriers profile.hold known rs (λ r there. line_fair profile carriers known r some (lawful r there) (knows r there))

-- It stands for the lines.
pub block_stands : (profile : Profile) (carriers : ℕ) (known : List Needle) (rs : List Read) → 1 ≤ profile.hold →
    ((r : Read) → Contains rs r → IsLawfulRead profile carriers r) → ((r : Read) → Contains rs r → NeedlesKnownInLine known r) →
    StandsFor profile (block_summary_of profile rs) rs
block_stands profile carriers known rs some lawful knows =
    drafted_stands profile (line_summary profile) carriers profile.hold known rs
    (λ r there. line_fair profile carriers known r some (lawful r there) (knows r there)) (λ r there. line_stands profile r some)
