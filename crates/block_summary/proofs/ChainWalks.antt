-- Links of chains: one more of them, and the walk from the last one of a chain back to its first.
use Rattle.std.proofs.Common.{◌≡◌, ◌≢◌, ◌⊎◌, inl, inr, ℕ, ◌+◌, ◌<◌, ◌≤◌, Bool, false, List, [], ◌∷◌, ◌++◌, length, take, get_or, refl, sym, ap, ◌∙◌, subst, arith}
use Rattle.std.specs.List.{Contains}
use Rattle.std.proofs.lemmas.List.{length_push, get_or_push, get_or_append_left, get_or_default, take_more}
use Rattle.std.proofs.lemmas.List.Elements.{Contains-append_left, Contains-push, Contains-push_cases}
use Rattle.knit_base.specs.declared.needle.Needle.{Needle}
use Rattle.face_data.specs.declared.bearing.Bearing.TheVariants.{Implied, Silent}
use Rattle.face_data.specs.declared.face.Cond.{Cond}
use Rattle.face_data.specs.Bearings.{bearing, if_so}
use Rattle.face_data.specs.Conditions.{ask_of}
use Rattle.face_data.specs.Conditions.Ask.{size_at_most}
use Rattle.face_data.proofs.Members.{Contains-none}
use Rattle.block_summary.specs.NeedleChains.{AreAdded, AreLasts, NeedleChainsLeadBack, LeadsTo, chain_of}
use Rattle.block_summary.specs.declared.chains.ConditionLink.{ConditionLink}

below_or_not : (a b : ℕ) → (a < b) ⊎ (b ≤ a)
below_or_not a b = grind arith

here_or_above : (a b : ℕ) → a ≤ b → (a ≡ b) ⊎ (a < b)
here_or_above a b h = grind arith

last_or_before : (k n : ℕ) → k < n + 1 → (k < n) ⊎ (k ≡ n)
last_or_before k n h = grind arith

one_or_two : (a b : ℕ) → (a ≡ b) ⊎ (a ≢ b)
one_or_two a b = go (below_or_not a b) (below_or_not b a)
  where
    go : (a < b) ⊎ (b ≤ a) → (b < a) ⊎ (a ≤ b) → (a ≡ b) ⊎ (a ≢ b)
    go (inl less) other = inr (λ e. absurd (omega arith))
    go (inr h) (inl less) = inr (λ e. absurd (omega arith))
    go (inr h) (inr k) = inl (omega arith)

-- a link more changes nothing of those before it
leads_append : (links : List ConditionLink) (l : ConditionLink) (limit chain place : ℕ) → limit ≤ length links → LeadsTo links limit chain place → LeadsTo (links ++ l ∷ []) limit chain place
leads_append links l limit chain place few h k d before here =
    let at = h k d before (ap (λ (x : ConditionLink). x.chain) (sym (get_or_append_left links (l ∷ []) d k (omega arith))) ∙ here) in
    let high : place < limit = at.1 in
    (at.0, high, ap (λ (x : ConditionLink). x.chain) (get_or_append_left links (l ∷ []) d place (omega arith)) ∙ at.2)

-- it is the last one of its chain
leads_same : (links : List ConditionLink) (l : ConditionLink) (chain : ℕ) → l.chain ≡ chain → LeadsTo (links ++ l ∷ []) (length links + 1) chain (length links)
leads_same links l chain same k d before here = (omega arith, omega arith, ap (λ (x : ConditionLink). x.chain) (get_or_push links l d (length links) refl) ∙ same)

-- and that of another chain stays
leads_other : (links : List ConditionLink) (l : ConditionLink) (chain place : ℕ) → (l.chain ≢ chain) → LeadsTo links (length links) chain place → LeadsTo (links ++ l ∷ []) (length links + 1) chain place
leads_other links l chain place differ h k d before here = go (last_or_before k (length links) before)
  where
    go : (k < length links) ⊎ (k ≡ length links) → (k ≤ place) × (place < length links + 1) × ((get_or (links ++ l ∷ []) place d).chain ≡ chain)
    go (inl earlier) =
        let at = leads_append links l (length links) chain place (omega arith) h k d earlier here in
        let high : place < length links = at.1 in
        (at.0, omega arith, at.2)
    go (inr last) = absurd (differ (ap (λ (x : ConditionLink). x.chain) (sym (get_or_push links l d k (sym last))) ∙ here))

linked_push : (links : List ConditionLink) (l : ConditionLink) → NeedleChainsLeadBack links → LeadsTo links (length links) l.chain l.next → NeedleChainsLeadBack (links ++ l ∷ [])
linked_push links l h last k d within = go (last_or_before k (length links) (subst (λ j. k < j) (length_push links l) within))
  where
    go : (k < length links) ⊎ (k ≡ length links) → LeadsTo (links ++ l ∷ []) k (get_or (links ++ l ∷ []) k d).chain (get_or (links ++ l ∷ []) k d).next
    go (inl before) =
        subst (λ (x : ConditionLink). LeadsTo (links ++ l ∷ []) k x.chain x.next) (sym (get_or_append_left links (l ∷ []) d k before))
        (leads_append links l k (get_or links k d).chain (get_or links k d).next (omega arith) (h k d before))
    go (inr seam) =
        subst (λ (x : ConditionLink). LeadsTo (links ++ l ∷ []) k x.chain x.next) (sym (get_or_push links l d k (sym seam)))
        (subst (λ j. LeadsTo (links ++ l ∷ []) j l.chain l.next) (sym seam) (leads_append links l (length links) l.chain l.next (omega arith) last))

lasts_push : (places more : List ℕ) (links : List ConditionLink) (l : ConditionLink) → get_or more l.chain 0 ≡ length links → ((other : ℕ) → other ≢ l.chain → get_or more other 0 ≡ get_or places other 0) →
    AreLasts places links → AreLasts more (links ++ l ∷ [])
lasts_push places more links l here elsewhere h chain small =
    subst (λ n. LeadsTo (links ++ l ∷ []) n chain (get_or more chain 0)) (sym (length_push links l)) (go (one_or_two chain l.chain))
  where
    go : (chain ≡ l.chain) ⊎ (chain ≢ l.chain) → LeadsTo (links ++ l ∷ []) (length links + 1) chain (get_or more chain 0)
    go (inl same) =
        subst (λ p. LeadsTo (links ++ l ∷ []) (length links + 1) chain p) (sym (ap (λ c. get_or more c 0) same ∙ here)) (leads_same links l chain (sym same))
    go (inr differ) =
        subst (λ p. LeadsTo (links ++ l ∷ []) (length links + 1) chain p) (sym (elsewhere chain differ))
        (leads_other links l chain (get_or places chain 0) (λ e. differ (sym e)) (h chain small))

-- no links
pub no_links : (places : List ℕ) (links : List ConditionLink) → links ≡ [] → AreLasts places links × NeedleChainsLeadBack links
no_links places links none =
    subst (λ (ls : List ConditionLink). AreLasts places ls × NeedleChainsLeadBack ls) (sym none) ((λ chain small k d before here. absurd (omega arith)), (λ k d before. absurd (omega arith)))

-- one link more, as the code puts it
pub links_more : (places more : List ℕ) (links now : List ConditionLink) (l : ConditionLink) (place : ℕ) → place ≡ length links → now ≡ links ++ l ∷ [] → l.chain < 256 → l.next ≡ get_or places l.chain 0 →
    get_or more l.chain 0 ≡ place → ((other : ℕ) → other ≢ l.chain → get_or more other 0 ≡ get_or places other 0) →
    AreLasts places links × NeedleChainsLeadBack links → AreLasts more now × NeedleChainsLeadBack now
links_more places more links now l place at is small next here elsewhere h =
    subst (λ (ls : List ConditionLink). AreLasts more ls × NeedleChainsLeadBack ls) (sym is)
    (lasts_push places more links l (here ∙ at) elsewhere h.0, linked_push links l h.1 (subst (λ p. LeadsTo links (length links) l.chain p) (sym next) (h.0 l.chain small)))

-- no needle, no link
pub added_none : (cond : Cond) (links : List ConditionLink) → AreAdded [] cond links links
added_none cond links = record { stay = λ l h. h; added = λ n h. absurd (Contains-none n h); others = λ l h. inl h }

added_push : (needles : List Needle) (n : Needle) (cond : Cond) (old links : List ConditionLink) (l : ConditionLink) → l.cond ≡ cond → l.chain ≡ chain_of n →
    AreAdded needles cond old links → AreAdded (needles ++ n ∷ []) cond old (links ++ l ∷ [])
added_push needles n cond old links l to mine h = record {
  stay = λ x there. Contains-append_left links (l ∷ []) x (h.stay x there);
  added = λ m there. elim (Contains-push_cases needles n m there) [
    | inl before ↦ (let w = h.added m before in (w.0, Contains-append_left links (l ∷ []) w.0 w.1, w.2, w.3))
    | inr same ↦ (l, Contains-push links l, to, mine ∙ ap chain_of same)
  ];
  others = λ x there. elim (Contains-push_cases links l x there) [
    | inl before ↦ h.others x before
    | inr same ↦ inr (ap (λ (y : ConditionLink). y.cond) (sym same) ∙ to)
  ];
}

-- one needle more
pub added_more : (needles : List Needle) (i : ℕ) (d : Needle) (cond : Cond) (old links now : List ConditionLink) (next : ℕ) → i < length needles →
    now ≡ links ++ record { chain = chain_of (get_or needles i d); cond = cond; next = next } ∷ [] → AreAdded (take i needles) cond old links → AreAdded (take (i + 1) needles) cond old now
added_more needles i d cond old links now next within more h =
    subst (λ (ns : List Needle). AreAdded ns cond old now) (sym (take_more needles i d within))
    (subst (λ (ls : List ConditionLink). AreAdded (take i needles ++ get_or needles i d ∷ []) cond old ls) (sym more)
    (added_push (take i needles) (get_or needles i d) cond old links (record { chain = chain_of (get_or needles i d); cond = cond; next = next }) refl refl h))

-- and one link
pub counted_more : (links now : List ConditionLink) (l : ConditionLink) (n i : ℕ) → now ≡ links ++ l ∷ [] → length links ≡ n + i → length now ≡ n + (i + 1)
counted_more links now l n i is count = ap (λ (ls : List ConditionLink). length ls) is ∙ length_push links l ∙ omega arith

-- the same links
pub links_same : (places : List ℕ) (links now : List ConditionLink) → now ≡ links → AreLasts places links × NeedleChainsLeadBack links → AreLasts places now × NeedleChainsLeadBack now
links_same places links now is h = subst (λ (ls : List ConditionLink). AreLasts places ls × NeedleChainsLeadBack ls) (sym is) h

-- no condition to which a link of this chain leads says anything of the condition on sizes
abbrev pub AreSilent : List ConditionLink → ℕ → List Needle → List Needle → ℕ → Type 0
AreSilent links chain names needles most = (l : ConditionLink) → Contains links l → l.chain ≡ chain → bearing (ask_of names l.cond) (size_at_most needles most) ≡ Silent

-- what is known in the middle of the walk back over the links of a chain
pub record Walks (links : List ConditionLink) (chain : ℕ) (names needles : List Needle) (most limit place : ℕ) : Type 0 where
  pub within : limit ≤ length links
  pub leads : LeadsTo links limit chain place
  pub silent : (k : ℕ) (d : ConditionLink) → limit ≤ k → k < length links → (get_or links k d).chain ≡ chain → bearing (ask_of names (get_or links k d).cond) (size_at_most needles most) ≡ Silent

-- it begins at the last link
pub walk_begins : (places : List ℕ) (links : List ConditionLink) (chain : ℕ) (names needles : List Needle) (most limit place : ℕ) → limit ≡ length links → place ≡ get_or places chain 0 → chain < 256 →
    AreLasts places links → Walks links chain names needles most limit place
walk_begins places links chain names needles most limit place all is small h = record {
  within = omega arith;
  leads = subst (λ n. LeadsTo links n chain place) (sym all) (subst (λ p. LeadsTo links (length links) chain p) (sym is) (h chain small));
  silent = λ k d past within here. absurd (omega arith);
}

-- goes on to the link before
pub walk_on : (links : List ConditionLink) (chain : ℕ) (names needles : List Needle) (most limit place : ℕ) (x : ConditionLink) (found : Bool) → Walks links chain names needles most limit place → NeedleChainsLeadBack links →
    place < limit → x ≡ get_or links place x → x.chain ≡ chain → bearing (ask_of names x.cond) (size_at_most needles most) ≡ if_so found Implied → found ≡ false →
    Walks links chain names needles most place x.next
walk_on links chain names needles most limit place x found w linked before is mine says none = record {
  within = inside;
  leads = subst (λ c. LeadsTo links place c x.next) mine (subst (λ (l : ConditionLink). LeadsTo links place l.chain l.next) (sym is) (linked place x below_all));
  silent = λ k d past small here. go k d small here (here_or_above place k past) (below_or_not k limit);
}
  where
    within : limit ≤ length links
    within = w.within

    inside : place ≤ length links
    inside = let few = within in omega arith

    below_all : place < length links
    below_all = let few = within in omega arith

    go : (k : ℕ) (d : ConditionLink) → k < length links → (get_or links k d).chain ≡ chain → (place ≡ k) ⊎ (place < k) → (k < limit) ⊎ (limit ≤ k) →
        bearing (ask_of names (get_or links k d).cond) (size_at_most needles most) ≡ Silent
    go k d small here (inl at) side =
        ap (λ (l : ConditionLink). bearing (ask_of names l.cond) (size_at_most needles most)) (ap (λ j. get_or links j d) (sym at) ∙ get_or_default links place d x below_all ∙ sym is)
        ∙ says ∙ ap (λ b. if_so b Implied) none
    go k d small here (inr above) (inl below) = absurd (let low = (w.leads k d below here).0 in omega arith)
    go k d small here (inr above) (inr past) = w.silent k d past small here

-- ends where no link of the chain is left
pub walk_ends : (links : List ConditionLink) (chain : ℕ) (names needles : List Needle) (most limit place : ℕ) → Walks links chain names needles most limit place →
    (place < limit → (d : ConditionLink) → (get_or links place d).chain ≡ chain → ⊥) → AreSilent links chain names needles most
walk_ends links chain names needles most limit place w absent l there mine = go (below_or_not there.0 limit)
  where
    here : (get_or links there.0 l).chain ≡ chain
    here = ap (λ (x : ConditionLink). x.chain) there.2 ∙ mine

    go : (there.0 < limit) ⊎ (limit ≤ there.0) → bearing (ask_of names l.cond) (size_at_most needles most) ≡ Silent
    go (inl below) = let at = w.leads there.0 l below here in absurd (absent at.1 l at.2)
    go (inr past) = ap (λ (x : ConditionLink). bearing (ask_of names x.cond) (size_at_most needles most)) (sym there.2) ∙ w.silent there.0 l past there.1 here

-- or at a link of another chain
pub walk_ends_at : (links : List ConditionLink) (chain : ℕ) (names needles : List Needle) (most limit place : ℕ) (x : ConditionLink) → Walks links chain names needles most limit place →
    place < limit → x ≡ get_or links place x → (x.chain ≡ chain → ⊥) → AreSilent links chain names needles most
walk_ends_at links chain names needles most limit place x w before is differ =
    let within : limit ≤ length links = w.within in
    let inside : place < length links = omega arith in
    walk_ends links chain names needles most limit place w
    (λ small d e. differ (ap (λ (l : ConditionLink). l.chain) (is ∙ get_or_default links place x d inside) ∙ e))
