-- While the second block's conditions are read, what is known of one is what the digest and the chains of those kept say.
use Rattle.std.proofs.Common.{◌≡◌, ℕ, ◌≤◌, List, [], ◌∷◌, ◌++◌, refl, sym, ap, ◌∙◌, subst, arith, inl, inr}
use Rattle.std.specs.List.{Contains}
use Rattle.std.proofs.lemmas.List.Elements.{Contains-push_cases}
use Rattle.knit_base.specs.declared.needle.Needle.{Needle}
use Rattle.face_data.specs.declared.face.Effect.{Effect}
use Rattle.face_data.specs.Answers.{ConditionAnswer, read_answer}
use Rattle.face_data.specs.Answers.ConditionAnswer.{yes_it_does, no_it_does_not, asks}
use Rattle.face_data.specs.Chains.{chain_at, known_of, answer_known}
use Rattle.face_data.specs.Composition.{against_kept, answer_of_kept}
use Rattle.face_data.specs.Conditions.{Ask}
use Rattle.face_data.specs.Conditions.Ask.{rack_is, carrier_in, carrier_out, hook_free, hook_is, hook_lacks, size_at_most, last_near}
use Rattle.face_data.specs.Digests.{digest_of}
use Rattle.face_data.specs.Goodness.{IsGood, IsIrredundant, NeedlesLieIn, AskFits, size_needles_in}
use Rattle.face_data.specs.Sets.{IsDistinct, NestedOrApart}
use Rattle.face_data.specs.Summaries.{AskedCondition, Summary, fault_raised}
use Rattle.face_data.proofs.Chains.{settled-sizes, kept_nested}
use Rattle.face_data.proofs.Digests.{settled-plain}
use Rattle.face_data.proofs.Goodness.{asks_fit_read, names_read}
use Rattle.face_data.proofs.KeptChecks.{ComesFrom, irredundant_push, against_asks}

-- each kept condition is one of the first block's, or one of the second's read through the first, and none says anything of a later one
pub record AreKept (e : Effect) (a b : Summary) (kept : List AskedCondition) : Type 0 where
  pub irredundant : IsIrredundant kept
  pub come_from : (c : AskedCondition) → Contains kept c → ComesFrom e a.lasts a.changes a.lines a.checks b.checks c

-- at first those of the first block are kept
pub kept-first : (carriers limit : ℕ) (first : List Needle) (e : Effect) (a b : Summary) → IsGood carriers limit first a → AreKept e a b a.checks
kept-first carriers limit first e a b good = record { irredundant = good.irredundant; come_from = λ c there. inl there }

-- then each that is left to ask
pub kept-push : (e : Effect) (a b : Summary) (kept : List AskedCondition) (d : AskedCondition) (ask : Ask) → AreKept e a b kept → Contains b.checks d →
    against_kept kept (read_answer e a.lasts a.changes d.ask) ≡ asks ask → AreKept e a b (kept ++ record { fault = fault_raised a.lines d.fault; ask = ask } ∷ [])
kept-push e a b kept d ask are there is =
    let both = against_asks kept (read_answer e a.lasts a.changes d.ask) ask is in
    let new : AskedCondition = record { fault = fault_raised a.lines d.fault; ask = ask } in
    record {
      irredundant = irredundant_push kept new are.irredundant both.1;
      come_from = λ c here. elim (Contains-push_cases kept new c here) [
        | inl before ↦ are.come_from c before
        | inr same ↦ inr (d, there, both.0 ∙ ap (λ (x : AskedCondition). asks x.ask) same, sym (ap (λ (x : AskedCondition). x.fault) same))
      ];
    }

-- a condition that fits names each needle once
pub AskFits-distinct : (carriers limit : ℕ) (known : List Needle) (w : Ask) → AskFits carriers limit known w → IsDistinct (size_needles_in w)
AskFits-distinct carriers limit known (size_at_most names most) fits = fits.distinct
AskFits-distinct carriers limit known (rack_is x) fits = tt
AskFits-distinct carriers limit known (carrier_in x) fits = tt
AskFits-distinct carriers limit known (carrier_out x) fits = tt
AskFits-distinct carriers limit known hook_free fits = tt
AskFits-distinct carriers limit known (hook_is x) fits = tt
AskFits-distinct carriers limit known (hook_lacks x) fits = tt
AskFits-distinct carriers limit known (last_near c at float) fits = tt

settled-known : (carriers limit : ℕ) (known : List Needle) (kept : List AskedCondition) (w : Ask) → IsIrredundant kept → AskFits carriers limit known w →
    ((c : AskedCondition) → Contains kept c → IsDistinct (size_needles_in c.ask)) → ((c : AskedCondition) → Contains kept c → NestedOrApart (size_needles_in c.ask) (size_needles_in w)) →
    answer_of_kept kept w ≡ known_of (digest_of kept) (chain_at kept) kept w
settled-known carriers limit known kept (size_at_most [] most) alone fits distinct nested = absurd (let some : 1 ≤ 0 = fits.some in omega arith)
settled-known carriers limit known kept (size_at_most (n ∷ names) most) alone fits distinct nested = settled-sizes kept n names most fits.distinct distinct nested
settled-known carriers limit known kept (rack_is x) alone fits distinct nested = settled-plain kept (rack_is x) tt alone
settled-known carriers limit known kept (carrier_in x) alone fits distinct nested = settled-plain kept (carrier_in x) tt alone
settled-known carriers limit known kept (carrier_out x) alone fits distinct nested = settled-plain kept (carrier_out x) tt alone
settled-known carriers limit known kept hook_free alone fits distinct nested = settled-plain kept hook_free tt alone
settled-known carriers limit known kept (hook_is x) alone fits distinct nested = settled-plain kept (hook_is x) tt alone
settled-known carriers limit known kept (hook_lacks x) alone fits distinct nested = settled-plain kept (hook_lacks x) tt alone
settled-known carriers limit known kept (last_near c at float) alone fits distinct nested = refl

-- What is known of the next condition of the second block.
pub answer-known : (carriers limit : ℕ) (first second : List Needle) (e : Effect) (a b : Summary) (kept : List AskedCondition) (d : AskedCondition) → IsGood carriers limit first a →
    IsGood carriers limit second b → ((c : AskedCondition) → Contains a.checks c → NeedlesLieIn a.changes (size_needles_in c.ask)) → AreKept e a b kept → Contains b.checks d →
    against_kept kept (read_answer e a.lasts a.changes d.ask) ≡ answer_known (digest_of kept) (chain_at kept) kept (read_answer e a.lasts a.changes d.ask)
answer-known carriers limit first second e a b kept d ga gb lies are there = go (read_answer e a.lasts a.changes d.ask) refl
  where
    kept_fits : (c : AskedCondition) → Contains kept c → IsDistinct (size_needles_in c.ask)
    kept_fits c here = elim (are.come_from c here) [
      | inl before ↦ AskFits-distinct carriers limit first c.ask (ga.fair.asks_fit c before)
      | inr from ↦ AskFits-distinct carriers limit (first ++ second) c.ask
          (asks_fit_read carriers limit first second e a.lasts a.changes a.lines from.0.ask c.ask ga.fair.owns ga.fair.changes_fit (gb.fair.asks_fit from.0 from.1) from.2)
    ]

    go : (r : ConditionAnswer) → read_answer e a.lasts a.changes d.ask ≡ r → against_kept kept r ≡ answer_known (digest_of kept) (chain_at kept) kept r
    go yes_it_does is = refl
    go no_it_does_not is = refl
    go (asks w) is = settled-known carriers limit (first ++ second) kept w are.irredundant
        (asks_fit_read carriers limit first second e a.lasts a.changes a.lines d.ask w ga.fair.owns ga.fair.changes_fit (gb.fair.asks_fit d there) is)
        kept_fits
        (λ c here. subst (NestedOrApart (size_needles_in c.ask)) (sym (names_read e a.lasts a.changes d.ask w is))
        (kept_nested e a b ga.fair.owns lies gb.fair.nested c d (are.come_from c here) there))
