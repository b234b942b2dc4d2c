-- What is found by the chain of a needle is what the kept conditions say.
use Rattle.std.proofs.Common.{◌≡◌, ◌≤◌, inl, inr, ℕ, Bool, true, false, List, [], ◌∷◌, ◌++◌, get_or, length, map, refl, sym, ap, ◌∙◌, subst, arith}
use Rattle.std.specs.Prelude.{◌&&◌, nat_le}
use Rattle.std.specs.List.{Contains}
use Rattle.std.proofs.lemmas.Bool.{and_parts}
use Rattle.std.proofs.lemmas.List.Elements.{All-contains, Contains-append_left, Contains-push, Contains-push_cases}
use Rattle.knit_base.specs.declared.needle.Needle.{Needle}
use Rattle.face_data.specs.declared.bearing.Bearing.{Bearing}
use Rattle.face_data.specs.declared.bearing.Bearing.TheVariants.{Implied, Refuted, Silent}
use Rattle.face_data.specs.declared.face.Check.{Check}
use Rattle.face_data.specs.declared.face.Cond.{Cond}
use Rattle.face_data.specs.declared.face.Cond.TheVariants.{RackIs, CarrierIn, CarrierOut, HookFree, HookIs, HookLacks, SizeAtMost, LastNear}
use Rattle.face_data.specs.Answers.ConditionAnswer.{yes_it_does, asks}
use Rattle.face_data.specs.Bearings.{all_in, bearing, if_so}
use Rattle.face_data.specs.Composition.{from_bearing, answer_of_kept}
use Rattle.face_data.specs.Conditions.{Ask, ask_of, part_of}
use Rattle.face_data.specs.Conditions.Ask.{rack_is, carrier_in, carrier_out, hook_free, hook_is, hook_lacks, size_at_most, last_near}
use Rattle.face_data.specs.Summaries.{AskedCondition}
use Rattle.face_data.specs.View.{ChecksFit, CondFits, asked_of_check, size_needles_of}
use Rattle.face_data.proofs.Bearings.{all_in_within}
use Rattle.face_data.proofs.Members.{Contains-cons_cases, Contains-head, Contains-none, Contains-tail}
use Rattle.face_data.proofs.Parts.{names_of-more, part_of-last}
use Rattle.block_summary.specs.NeedleChains.{AreAdded, AreFound, HasLink, chain_of}
use Rattle.block_summary.specs.declared.chains.ConditionLink.{ConditionLink}
use Rattle.block_summary.proofs.ChainWalks.{AreSilent}

-- nothing is kept
pub nothing_found : (names : List Needle) (checks : List Check) (links : List ConditionLink) → checks ≡ [] → links ≡ [] → AreFound names checks links
nothing_found names checks links no_checks no_links =
    subst (λ (cs : List Check). AreFound names cs links) (sym no_checks)
    (subst (λ (ls : List ConditionLink). AreFound names [] ls) (sym no_links) (record { needles = λ c n there named. absurd (Contains-none c there); conds = λ l there. absurd (Contains-none l there) }))

-- a condition more that names no needles
pub plain_found : (names : List Needle) (checks now : List Check) (links : List ConditionLink) (check : Check) → size_needles_of names check.cond ≡ [] → now ≡ checks ++ check ∷ [] →
    AreFound names checks links → AreFound names now links
plain_found names checks now links check none is h = subst (λ (cs : List Check). AreFound names cs links) (sym is) (record {
  needles = λ c n there named. elim (Contains-push_cases checks check c there) [
    | inl before ↦ h.needles c n before named
    | inr same ↦ absurd (Contains-none n (subst (λ (ns : List Needle). Contains ns n) (ap (λ (d : Check). size_needles_of names d.cond) (sym same) ∙ none) named))
  ];
  conds = λ l there. let w = h.conds l there in (w.0, Contains-append_left checks (check ∷ []) w.0 w.1, w.2);
})

-- a condition more on sizes, with links of its needles
pub size_found : (names more all : List Needle) (checks now : List Check) (old new : List ConditionLink) (check : Check) → all ≡ names ++ more → now ≡ checks ++ check ∷ [] →
    size_needles_of (names ++ more) check.cond ≡ more → ChecksFit names checks → AreAdded more check.cond old new → AreFound names checks old → AreFound all now new
size_found names more all checks now old new check whole is last fit a h =
    subst (λ (ns : List Needle). AreFound ns now new) (sym whole) (subst (λ (cs : List Check). AreFound (names ++ more) cs new) (sym is) (record {
      needles = λ c n there named. elim (Contains-push_cases checks check c there) [
        | inl before ↦ (let fits : CondFits names c.cond = All-contains (λ (d : Check). CondFits names d.cond) checks c fit before in
            let w = h.needles c n before (subst (λ (ns : List Needle). Contains ns n) (names_of-more names more c.cond fits) named) in (w.0, a.stay w.0 w.1, w.2, w.3))
        | inr same ↦ (let w = a.added n (subst (λ (ns : List Needle). Contains ns n) (ap (λ (d : Check). size_needles_of (names ++ more) d.cond) (sym same) ∙ last) named) in
            (w.0, w.1, w.2 ∙ ap (λ (d : Check). d.cond) same, w.3))
      ];
      conds = λ l there. elim (a.others l there) [
        | inl before ↦ (let w = h.conds l before in (w.0, Contains-append_left checks (check ∷ []) w.0 w.1, w.2))
        | inr to ↦ (check, Contains-push checks check, sym to)
      ];
    }))

pub not_refuted : (b : Bool) → if_so b Implied ≡ Refuted → ⊥
not_refuted true e = absurd (cc)
not_refuted false e = absurd (cc)

-- nothing refutes a condition on sizes
never_refuted : (p : Ask) (needles : List Needle) (most : ℕ) → bearing p (size_at_most needles most) ≡ Refuted → ⊥
unfolding bearing
never_refuted (size_at_most earlier least) needles most e = not_refuted (all_in needles earlier && nat_le least most) e
never_refuted (rack_is x) needles most e = absurd (cc)
never_refuted (carrier_in x) needles most e = absurd (cc)
never_refuted (carrier_out x) needles most e = absurd (cc)
never_refuted hook_free needles most e = absurd (cc)
never_refuted (hook_is x) needles most e = absurd (cc)
never_refuted (hook_lacks x) needles most e = absurd (cc)
never_refuted (last_near c at float) needles most e = absurd (cc)

-- a condition that a kept one implies, where none refutes it
pub implied_by : (names : List Needle) (checks : List Check) (c : Check) (q : Ask) → ((p : Ask) → bearing p q ≡ Refuted → ⊥) → Contains checks c → bearing (ask_of names c.cond) q ≡ Implied →
    answer_of_kept (map (asked_of_check names) checks) q ≡ yes_it_does
unfolding answer_of_kept
implied_by names [] c q never there says = absurd (Contains-none c there)
implied_by names (k ∷ ks) c q never there says =
    go (bearing (ask_of names k.cond) q) refl (λ later. implied_by names ks c q never later says)
  where
    go : (r : Bearing) → bearing (ask_of names k.cond) q ≡ r → (Contains ks c → answer_of_kept (map (asked_of_check names) ks) q ≡ yes_it_does) →
        from_bearing (bearing (ask_of names k.cond) q) (answer_of_kept (map (asked_of_check names) ks) q) ≡ yes_it_does
    go Implied e rest = ap (λ r. from_bearing r (answer_of_kept (map (asked_of_check names) ks) q)) e
    go Refuted e rest = absurd (never (ask_of names k.cond) e)
    go Silent e rest =
        ap (λ r. from_bearing r (answer_of_kept (map (asked_of_check names) ks) q)) e
        ∙ elim (Contains-cons_cases k ks c there) [
          | inl same ↦ (let both : Silent ≡ Implied = sym e ∙ ap (λ (d : Check). bearing (ask_of names d.cond) q) same ∙ says in absurd (cc))
          | inr later ↦ rest later
        ]

-- and one of which none says anything
pub left_by_all : (names : List Needle) (checks : List Check) (q : Ask) → ((c : Check) → Contains checks c → bearing (ask_of names c.cond) q ≡ Silent) → answer_of_kept (map (asked_of_check names) checks) q ≡ asks q
unfolding answer_of_kept
left_by_all names [] q none = refl
left_by_all names (k ∷ ks) q none =
    ap (λ r. from_bearing r (answer_of_kept (map (asked_of_check names) ks) q)) (none k (Contains-head k ks)) ∙ left_by_all names ks q (λ c later. none c (Contains-tail k ks c later))

-- a condition whose needles have links says nothing where those of the first needle's chain don't
silent_cond : (names : List Needle) (links : List ConditionLink) (first : Needle) (rest : List Needle) (most : ℕ) (cond : Cond) → ((n : Needle) → Contains (size_needles_of names cond) n → HasLink links n cond) →
    AreSilent links (chain_of first) names (first ∷ rest) most → bearing (ask_of names cond) (size_at_most (first ∷ rest) most) ≡ Silent
unfolding bearing
silent_cond names links first rest most (RackIs x) linked silent = refl
silent_cond names links first rest most (CarrierIn x) linked silent = refl
silent_cond names links first rest most (CarrierOut x) linked silent = refl
silent_cond names links first rest most HookFree linked silent = refl
silent_cond names links first rest most (HookIs x) linked silent = refl
silent_cond names links first rest most (HookLacks x) linked silent = refl
silent_cond names links first rest most (LastNear c at float) linked silent = refl
silent_cond names links first rest most (SizeAtMost p least) linked silent = go (all_in (first ∷ rest) (part_of names p) && nat_le least most) refl
  where
    go : (b : Bool) → (all_in (first ∷ rest) (part_of names p) && nat_le least most) ≡ b → if_so (all_in (first ∷ rest) (part_of names p) && nat_le least most) Implied ≡ Silent
    go true e =
        let both = and_parts (all_in (first ∷ rest) (part_of names p)) (nat_le least most) e in
        let w = linked first (all_in_within (first ∷ rest) (part_of names p) both.0 first (Contains-head first rest)) in
        ap (λ (d : Cond). bearing (ask_of names d) (size_at_most (first ∷ rest) most)) (sym w.2) ∙ silent w.0 w.1 w.3
    go false e = ap (λ b. if_so b Implied) e

-- what the chain of the first needle says, all say
chain_says : (names : List Needle) (checks : List Check) (links : List ConditionLink) (needles : List Needle) (d : Needle) (most chain : ℕ) (found : Bool) → 1 ≤ length needles → chain ≡ chain_of (get_or needles 0 d) →
    (found ≡ true → (l : ConditionLink) × Contains links l × (bearing (ask_of names l.cond) (size_at_most needles most) ≡ Implied)) →
    (found ≡ false → AreSilent links chain names needles most) → AreFound names checks links →
    answer_of_kept (map (asked_of_check names) checks) (size_at_most needles most) ≡ from_bearing (if_so found Implied) (asks (size_at_most needles most))
chain_says names checks links needles d most chain true some is so not_so h =
    let w = so refl in
    let k = h.conds w.0 w.1 in
    implied_by names checks k.0 (size_at_most needles most) (λ p. never_refuted p needles most) k.1 (ap (λ (c : Cond). bearing (ask_of names c) (size_at_most needles most)) k.2 ∙ w.2)
chain_says names checks links [] d most chain false some is so not_so h = absurd (omega arith)
chain_says names checks links (first ∷ rest) d most chain false some is so not_so h =
    left_by_all names checks (size_at_most (first ∷ rest) most)
    (λ c there. silent_cond names links first rest most c.cond (λ n named. h.needles c n there named) (subst (λ k. AreSilent links k names (first ∷ rest) most) is (not_so refl)))

-- the same as the code puts it
pub implied_as_found : (names lent : List Needle) (checks : List Check) (links : List ConditionLink) (kept : List AskedCondition) (needles : List Needle) (d : Needle) (most chain : ℕ) (found : Bool) → lent ≡ names →
    map (asked_of_check names) checks ≡ kept → 1 ≤ length needles → chain ≡ chain_of (get_or needles 0 d) →
    (found ≡ true → (l : ConditionLink) × Contains links l × (bearing (ask_of lent l.cond) (size_at_most needles most) ≡ Implied)) →
    (found ≡ false → AreSilent links chain lent needles most) → AreFound names checks links →
    answer_of_kept kept (size_at_most needles most) ≡ from_bearing (if_so found Implied) (asks (size_at_most needles most))
implied_as_found names lent checks links kept needles d most chain found same seen some is so not_so h =
    ap (λ (ks : List AskedCondition). answer_of_kept ks (size_at_most needles most)) (sym seen)
    ∙ ap (λ (ns : List Needle). answer_of_kept (map (asked_of_check ns) checks) (size_at_most needles most)) (sym same)
    ∙ chain_says lent checks links needles d most chain found some is so not_so (subst (λ (ns : List Needle). AreFound ns checks links) (sym same) h)

-- the conditions to which links lead name parts of the list of names
pub links_fit : (names lent : List Needle) (checks : List Check) (links : List ConditionLink) → lent ≡ names → ChecksFit names checks → AreFound names checks links →
    (l : ConditionLink) → Contains links l → CondFits lent l.cond
links_fit names lent checks links same fit h l there =
    let w = h.conds l there in
    subst (λ (ns : List Needle). CondFits ns l.cond) (sym same) (subst (λ (c : Cond). CondFits names c) w.2 (All-contains (λ (d : Check). CondFits names d.cond) checks w.0 fit w.1))

-- the needles of the last condition are those behind the others
pub last_named : (names more : List Needle) (start most : ℕ) → start ≡ length names → size_needles_of (names ++ more) (SizeAtMost (record { start = start; len = length more }) most) ≡ more
last_named names more start most is = ap (λ s. part_of (names ++ more) (record { start = s; len = length more })) is ∙ part_of-last names more
