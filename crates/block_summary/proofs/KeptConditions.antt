-- Conditions that are kept, one more at a time, and what they say of a condition on sizes.
use Rattle.std.proofs.Common.{◌≡◌, ℕ, ◌+◌, ◌<◌, ◌≤◌, Bool, true, false, List, [], ◌∷◌, ◌++◌, length, drop, get_or, map, refl, sym, ap, ◌∙◌, subst, arith, length-append}
use Rattle.std.proofs.Math.Path.{ap₂}
use Rattle.std.proofs.lemmas.Grind.{flat_map-append}
use Rattle.std.proofs.lemmas.List.{append-nil, drop_more, drop_all}
use Rattle.std.proofs.lemmas.List.Elements.{All-nil, All-push}
use Rattle.knit_base.specs.declared.needle.Needle.{Needle}
use Rattle.knit_base.specs.declared.rule.Fault.{Fault}
use Rattle.face_data.specs.declared.bearing.Bearing.{Bearing}
use Rattle.face_data.specs.declared.bearing.Bearing.TheVariants.{Implied, Silent}
use Rattle.face_data.specs.declared.digest.Digest.{Digest}
use Rattle.face_data.specs.declared.face.Check.{Check}
use Rattle.face_data.specs.declared.face.Cond.{Cond}
use Rattle.face_data.specs.declared.face.Cond.TheVariants.{RackIs, CarrierIn, CarrierOut, HookFree, HookIs, HookLacks, SizeAtMost, LastNear}
use Rattle.face_data.specs.Answers.{ConditionAnswer}
use Rattle.face_data.specs.Answers.ConditionAnswer.{yes_it_does, asks}
use Rattle.face_data.specs.Bearings.{bearing, if_so}
use Rattle.face_data.specs.Composition.{from_bearing, answer_of_kept}
use Rattle.face_data.specs.Conditions.{Ask, ask_of}
use Rattle.face_data.specs.Conditions.Ask.{rack_is, carrier_in, carrier_out, hook_free, hook_is, hook_lacks, size_at_most, last_near}
use Rattle.face_data.specs.Digests.{blank_digest, digest_with, digest_of, IsPlainCondition, IsUnsized}
use Rattle.face_data.specs.Goodness.{IsIrredundant}
use Rattle.face_data.specs.Summaries.{AskedCondition}
use Rattle.face_data.specs.View.{CondFits, asked_of_check, size_needles_of}
use Rattle.face_data.proofs.Digests.{digest_of-push}
use Rattle.face_data.proofs.KeptChecks.{irredundant_push, settled_asks}
use Rattle.face_data.proofs.Parts.{checks-push, checks_fit-push, last_part, names-push, part_of-last}
use Rattle.block_summary.specs.DraftKnowledge.{KeepsConditions}

-- nothing is kept
pub nothing_kept : (names : List Needle) (checks : List Check) (digest : Digest) → names ≡ [] → checks ≡ [] → digest ≡ blank_digest → KeepsConditions names checks digest
nothing_kept names checks digest no_names no_checks is =
    subst (λ (ns : List Needle). KeepsConditions ns checks digest) (sym no_names)
    (subst (λ (cs : List Check). KeepsConditions [] cs digest) (sym no_checks) (record { fit = All-nil (λ (c : Check). CondFits [] c.cond); whole = refl; digest_is = is; irredundant = tt }))

-- a condition that a digest answers isn't on sizes
pub plain_unsized : (q : Ask) → IsPlainCondition q → IsUnsized q
plain_unsized (rack_is q) plain = tt
plain_unsized (carrier_in c) plain = tt
plain_unsized (carrier_out c) plain = tt
plain_unsized hook_free plain = tt
plain_unsized (hook_is set) plain = tt
plain_unsized (hook_lacks c) plain = tt
plain_unsized (size_at_most names most) plain = absurd plain
plain_unsized (last_near c at float) plain = absurd plain

-- conditions that aren't on sizes name no needles
pub plain_names : (names : List Needle) (cond : Cond) → IsUnsized (ask_of [] cond) → ask_of names cond ≡ ask_of [] cond
plain_names names (RackIs q) plain = refl
plain_names names (CarrierIn c) plain = refl
plain_names names (CarrierOut c) plain = refl
plain_names names HookFree plain = refl
plain_names names (HookIs set) plain = refl
plain_names names (HookLacks c) plain = refl
plain_names names (LastNear c at float) plain = refl
plain_names names (SizeAtMost p most) plain = absurd plain

plain_fits : (names : List Needle) (cond : Cond) → IsUnsized (ask_of [] cond) → CondFits names cond
plain_fits names (RackIs q) plain = tt
plain_fits names (CarrierIn c) plain = tt
plain_fits names (CarrierOut c) plain = tt
plain_fits names HookFree plain = tt
plain_fits names (HookIs set) plain = tt
plain_fits names (HookLacks c) plain = tt
plain_fits names (LastNear c at float) plain = tt
plain_fits names (SizeAtMost p most) plain = absurd plain

pub plain_unnamed : (names : List Needle) (cond : Cond) → IsUnsized (ask_of [] cond) → size_needles_of names cond ≡ []
plain_unnamed names (RackIs q) plain = refl
plain_unnamed names (CarrierIn c) plain = refl
plain_unnamed names (CarrierOut c) plain = refl
plain_unnamed names HookFree plain = refl
plain_unnamed names (HookIs set) plain = refl
plain_unnamed names (HookLacks c) plain = refl
plain_unnamed names (LastNear c at float) plain = refl
plain_unnamed names (SizeAtMost p most) plain = absurd plain

-- one more condition, with its needles written out
pushed_all : (names : List Needle) (checks : List Check) (check : Check) → map (asked_of_check names) (checks ++ check ∷ []) ≡ map (asked_of_check names) checks ++ asked_of_check names check ∷ []
pushed_all names [] check = refl
pushed_all names (c ∷ cs) check = ap (λ ks. asked_of_check names c ∷ ks) (pushed_all names cs check)

-- a condition more that isn't on sizes
pub plain_asked : (names : List Needle) (checks now : List Check) (fault : Fault) (cond : Cond) → IsUnsized (ask_of [] cond) → now ≡ checks ++ record { fault = fault; cond = cond } ∷ [] →
    map (asked_of_check names) now ≡ map (asked_of_check names) checks ++ record { fault = fault; ask = ask_of [] cond } ∷ []
plain_asked names checks now fault cond plain is =
    ap (map (asked_of_check names)) is ∙ pushed_all names checks (record { fault = fault; cond = cond })
    ∙ ap (λ q. map (asked_of_check names) checks ++ record { fault = fault; ask = q } ∷ []) (plain_names names cond plain)

-- the conditions are kept as before
pub plain_kept : (names : List Needle) (checks now : List Check) (digest new : Digest) (fault : Fault) (cond : Cond) → IsUnsized (ask_of [] cond) →
    now ≡ checks ++ record { fault = fault; cond = cond } ∷ [] → new ≡ digest_with digest (ask_of names cond) →
    answer_of_kept (map (asked_of_check names) checks) (ask_of [] cond) ≡ asks (ask_of [] cond) → KeepsConditions names checks digest → KeepsConditions names now new
plain_kept names checks now digest new fault cond plain is says silent are =
    let check : Check = record { fault = fault; cond = cond } in
    let kept : List AskedCondition = map (asked_of_check names) checks in
    let pushed : map (asked_of_check names) (checks ++ check ∷ []) ≡ kept ++ asked_of_check names check ∷ [] = pushed_all names checks check in
    subst (λ (cs : List Check). KeepsConditions names cs new) (sym is) (record {
      fit = All-push (λ (c : Check). CondFits names c.cond) checks check are.fit (plain_fits names cond plain);
      whole = flat_map-append (λ (c : Check). size_needles_of names c.cond) checks (check ∷ [])
          ∙ ap₂ (λ (xs ys : List Needle). xs ++ ys) are.whole (append-nil (size_needles_of names cond) ∙ plain_unnamed names cond plain)
          ∙ append-nil names;
      digest_is = says ∙ ap (λ (d : Digest). digest_with d (ask_of names cond)) are.digest_is ∙ sym (digest_of-push kept (asked_of_check names check)) ∙ ap digest_of (sym pushed);
      irredundant = subst IsIrredundant (sym pushed) (irredundant_push kept (asked_of_check names check) are.irredundant
          (λ c there. subst (λ (q : Ask). bearing c.ask q ≡ Silent) (sym (plain_names names cond plain)) ((settled_asks kept (ask_of [] cond) (ask_of [] cond) silent).1 c there)));
    })

noted_size : (digest : Digest) (names : List Needle) (most : ℕ) → digest_with digest (size_at_most names most) ≡ digest
unfolding digest_with
noted_size digest names most = refl

-- a condition more on sizes, and its needles behind the others
pub record OneMoreKept (names all : List Needle) (checks now : List Check) (digest : Digest) (fault : Fault) (more : List Needle) (most : ℕ) : Type 0 where
  pub kept : KeepsConditions all now digest
  pub asked : map (asked_of_check all) now ≡ map (asked_of_check names) checks ++ record { fault = fault; ask = size_at_most more most } ∷ []

last_kept : (names : List Needle) (checks : List Check) (digest : Digest) (fault : Fault) (more : List Needle) (most : ℕ) →
    answer_of_kept (map (asked_of_check names) checks) (size_at_most more most) ≡ asks (size_at_most more most) → KeepsConditions names checks digest →
    OneMoreKept names (names ++ more) checks (checks ++ record { fault = fault; cond = SizeAtMost (last_part names more) most } ∷ []) digest fault more most
last_kept names checks digest fault more most silent are =
    let check : Check = record { fault = fault; cond = SizeAtMost (last_part names more) most } in
    let kept : List AskedCondition = map (asked_of_check names) checks in
    let new : AskedCondition = record { fault = fault; ask = size_at_most more most } in
    let asked : map (asked_of_check (names ++ more)) (checks ++ check ∷ []) ≡ kept ++ new ∷ [] =
    checks-push checks names more fault (SizeAtMost (last_part names more) most) are.fit
    ∙ ap (λ (ns : List Needle). kept ++ record { fault = fault; ask = size_at_most ns most } ∷ []) (part_of-last names more) in
    record {
      kept = record {
        fit = checks_fit-push checks names more check are.fit (let size = length-append names more in omega arith);
        whole = names-push checks names more check are.fit are.whole (part_of-last names more);
        digest_is = are.digest_is ∙ sym (noted_size (digest_of kept) more most) ∙ sym (digest_of-push kept new) ∙ ap digest_of (sym asked);
        irredundant = subst IsIrredundant (sym asked) (irredundant_push kept new are.irredundant ((settled_asks kept (size_at_most more most) (size_at_most more most) silent).1));
      };
      asked = asked;
    }

-- the same as the code puts it
pub size_kept : (names all : List Needle) (checks now : List Check) (digest : Digest) (fault : Fault) (more : List Needle) (most start len : ℕ) → all ≡ names ++ more →
    start ≡ length names → len ≡ length more → now ≡ checks ++ record { fault = fault; cond = SizeAtMost (record { start = start; len = len }) most } ∷ [] →
    answer_of_kept (map (asked_of_check names) checks) (size_at_most more most) ≡ asks (size_at_most more most) → KeepsConditions names checks digest →
    OneMoreKept names all checks now digest fault more most
size_kept names all checks now digest fault more most start len is begins long has silent are =
    let same : now ≡ checks ++ record { fault = fault; cond = SizeAtMost (last_part names more) most } ∷ [] =
    has ∙ (λ i. checks ++ record { fault = fault; cond = SizeAtMost (record { start = begins i; len = long i }) most } ∷ []) in
    subst (λ (ns : List Needle). OneMoreKept names ns checks now digest fault more most) (sym is)
    (subst (λ (cs : List Check). OneMoreKept names (names ++ more) checks cs digest fault more most) (sym same) (last_kept names checks digest fault more most silent are))

-- what the conditions from a place on say
abbrev pub says_from : List Needle → List Check → ℕ → Ask → Type 0
says_from names checks i q = answer_of_kept (map (asked_of_check names) checks) q ≡ answer_of_kept (map (asked_of_check names) (drop i checks)) q

told : (names lent : List Needle) (check : Check) (q : Ask) (found : Bool) (r : Bearing) → lent ≡ names → bearing (ask_of lent check.cond) q ≡ if_so found Implied → if_so found Implied ≡ r →
    bearing (ask_of names check.cond) q ≡ r
told names lent check q found r same says is = ap (λ (ns : List Needle). bearing (ask_of ns check.cond) q) (sym same) ∙ says ∙ is

-- one that says nothing is passed over
pub says_next : (names lent : List Needle) (checks : List Check) (i : ℕ) (d : Check) (q : Ask) (found : Bool) → lent ≡ names → i < length checks →
    bearing (ask_of lent (get_or checks i d).cond) q ≡ if_so found Implied → found ≡ false → says_from names checks i q → says_from names checks (i + 1) q
unfolding answer_of_kept
says_next names lent checks i d q found same within says none so_far =
    so_far ∙ ap (λ (cs : List Check). answer_of_kept (map (asked_of_check names) cs) q) (drop_more checks i d within)
    ∙ ap (λ b. from_bearing b (answer_of_kept (map (asked_of_check names) (drop (i + 1) checks)) q)) (told names lent (get_or checks i d) q found Silent same says (ap (λ b. if_so b Implied) none))

-- one that implies the condition is found
pub says_here : (names lent : List Needle) (checks : List Check) (i : ℕ) (d : Check) (q : Ask) (found : Bool) → lent ≡ names → i < length checks →
    bearing (ask_of lent (get_or checks i d).cond) q ≡ if_so found Implied → found ≡ true → says_from names checks i q → answer_of_kept (map (asked_of_check names) checks) q ≡ yes_it_does
unfolding answer_of_kept
says_here names lent checks i d q found same within says one so_far =
    so_far ∙ ap (λ (cs : List Check). answer_of_kept (map (asked_of_check names) cs) q) (drop_more checks i d within)
    ∙ ap (λ b. from_bearing b (answer_of_kept (map (asked_of_check names) (drop (i + 1) checks)) q)) (told names lent (get_or checks i d) q found Implied same says (ap (λ b. if_so b Implied) one))

-- behind the last one nothing is said
pub says_nothing : (names : List Needle) (checks : List Check) (i : ℕ) (q : Ask) → length checks ≤ i → says_from names checks i q → answer_of_kept (map (asked_of_check names) checks) q ≡ asks q
unfolding answer_of_kept
says_nothing names checks i q past so_far = so_far ∙ ap (λ (cs : List Check). answer_of_kept (map (asked_of_check names) cs) q) (drop_all i checks past)

-- what is said of the conditions where they lie is said of those that are kept
pub says_of_kept : (names : List Needle) (checks lent : List Check) (kept : List AskedCondition) (q : Ask) (r : ConditionAnswer) → lent ≡ checks → map (asked_of_check names) checks ≡ kept →
    answer_of_kept (map (asked_of_check names) lent) q ≡ r → answer_of_kept kept q ≡ r
says_of_kept names checks lent kept q r same seen says =
    ap (λ (ks : List AskedCondition). answer_of_kept ks q) (sym seen) ∙ ap (λ (cs : List Check). answer_of_kept (map (asked_of_check names) cs) q) (sym same) ∙ says
