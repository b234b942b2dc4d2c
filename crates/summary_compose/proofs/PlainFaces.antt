-- Summaries of one line that change no needle and ask nothing of sizes.
use Rattle.std.proofs.Common.{◌≡◌, ◌<◌, List, [], ◌∷◌, None, refl, sym, subst, inl, inr, arith}
use Rattle.std.specs.List.{Contains}
use Rattle.knit_base.specs.declared.needle.Needle.{Needle}
use Rattle.knit_base.specs.declared.rule.Fault.{Fault}
use Rattle.knit_base.proofs.Masks.{contains_carrier-none}
use Rattle.face_data.specs.declared.face.Effect.{Effect}
use Rattle.face_data.specs.declared.face.Ending.{Ending}
use Rattle.face_data.specs.declared.face.Ending.TheVariants.{Through, Broken}
use Rattle.face_data.specs.Drafts.{no_effect}
use Rattle.face_data.specs.Conditions.{Ask}
use Rattle.face_data.specs.Conditions.Ask.{rack_is, carrier_in, carrier_out, hook_free, hook_is, hook_lacks, size_at_most, last_near}
use Rattle.face_data.specs.Digests.{IsPlainCondition}
use Rattle.face_data.specs.Goodness.{AgreeOnLast, AskFits, EndingFits, IsGood, IsSet, ThroughFits, size_needles_in}
use Rattle.face_data.specs.Summaries.{AskedCondition, Summary}
use Rattle.face_data.proofs.Drafts.{no_lines_good}
use Rattle.face_data.proofs.Members.{Contains-none, Contains-cons_cases}

-- a line with these conditions and this ending
abbrev pub one_line : List AskedCondition → Ending → Summary
one_line checks ending = record { lines = 1; made = 0; checks = checks; changes = []; lasts = []; ending = ending }

unasked_good : (ending : Ending) → EndingFits 0 (one_line [] ending) ending → IsGood 0 0 [] (one_line [] ending)
unasked_good ending fits =
    let none = (no_lines_good 0 0 []).fair in
    record {
      fair = record {
        made = omega arith;
        asks_fit = none.asks_fit;
        within = λ c there. absurd (Contains-none c there);
        in_turn = none.in_turn;
        nested = none.nested;
        agree = none.agree;
        in_order = none.in_order;
        changes_fit = λ c there. absurd (Contains-none c there);
        owns = none.owns;
        lasts_in_order = none.lasts_in_order;
        lasts_fit = none.lasts_fit;
        sizes = none.sizes;
        ending = fits;
      };
      irredundant = tt;
    }

-- a line that asks and does nothing
pub idle_good : IsGood 0 0 [] (one_line [] (Through no_effect))
idle_good =
    let ending = (no_lines_good 0 0 []).fair.ending in
    unasked_good (Through no_effect) (record { lies = ending.lies; apart = ending.apart; came = ending.came; went = ending.went; hook = ending.hook; nears = λ c there. absurd (Contains-none c there) })

-- a line that is broken by itself
pub broken_good : (fault : Fault) → fault.line ≡ 0 → IsGood 0 0 [] (one_line [] (Broken fault))
broken_good fault first =
    unasked_good (Broken fault) (record { within = omega (arith, first); last = λ c there. absurd (Contains-none c there); unchanged = refl; no_lasts = refl; made = refl })

-- nothing comes or goes
pub idle_fits : ThroughFits 1 (one_line [] (Through no_effect)) no_effect
idle_fits =
    let ending = (no_lines_good 1 0 []).fair.ending in
    record { lies = λ c there. absurd (Contains-none c there); apart = ending.apart; came = ending.came; went = ending.went; hook = ending.hook; nears = λ c there. absurd (Contains-none c there) }

-- the first carrier comes in
abbrev pub comes : Effect
comes = record { rack = None; came = 1; went = 0; hook = None }

-- it is one of the declared ones
pub comes_fits : ThroughFits 1 (one_line [] (Through comes)) comes
comes_fits = record {
  lies = λ c there. absurd (Contains-none c there);
  apart = λ c came. contains_carrier-none c;
  came = omega arith;
  went = omega arith;
  hook = tt;
  nears = λ c there. absurd (Contains-none c there);
}

only_check : (x c : AskedCondition) → Contains (x ∷ []) c → x ≡ c
only_check x c there = elim (Contains-cons_cases x [] c there) [ inl same ↦ same | inr none ↦ absurd (Contains-none c none) ]

unnamed : (x c : AskedCondition) → size_needles_in x.ask ≡ [] → Contains (x ∷ []) c → (n : Needle) → Contains (size_needles_in c.ask) n → ⊥
unnamed x c none there n named =
    Contains-none n (subst (λ ns. Contains ns n) none (subst (λ (a : AskedCondition). Contains (size_needles_in a.ask) n) (sym (only_check x c there)) named))

agrees : (p q : Ask) → IsPlainCondition p → AgreeOnLast p q
agrees (rack_is x) q plain = tt
agrees (carrier_in c) q plain = tt
agrees (carrier_out c) q plain = tt
agrees hook_free q plain = tt
agrees (hook_is set) q plain = tt
agrees (hook_lacks c) q plain = tt
agrees (size_at_most names most) q plain = absurd plain
agrees (last_near c at float) q plain = absurd plain

set_plain : (p : Ask) → IsPlainCondition p → IsSet [] p
set_plain (rack_is x) plain = tt
set_plain (carrier_in c) plain = tt
set_plain (carrier_out c) plain = tt
set_plain hook_free plain = tt
set_plain (hook_is set) plain = tt
set_plain (hook_lacks c) plain = tt
set_plain (size_at_most names most) plain = absurd plain
set_plain (last_near c at float) plain = absurd plain

-- a line with one condition that isn't on sizes or on a last needle
pub one_check_good : (x : AskedCondition) (effect : Effect) → x.fault.line ≡ 0 → size_needles_in x.ask ≡ [] → IsPlainCondition x.ask → AskFits 1 0 [] x.ask → ThroughFits 1 (one_line [] (Through effect)) effect →
    IsGood 1 0 [] (one_line (x ∷ []) (Through effect))
one_check_good x effect line none plain fits ending =
    let idle = (no_lines_good 1 0 []).fair in
    record {
      fair = record {
        made = omega arith;
        asks_fit = λ c there. subst (λ (a : AskedCondition). AskFits 1 0 [] a.ask) (only_check x c there) fits;
        within = λ c there. subst (λ (a : AskedCondition). a.fault.line < 1) (only_check x c there) (omega (arith, line));
        in_turn = ((λ d later. absurd (Contains-none d later)), tt);
        nested = λ c d here there. inl (λ n named. absurd (unnamed x c none here n named));
        agree = λ c d here there. subst (λ (a : AskedCondition). AgreeOnLast a.ask d.ask) (only_check x c here) (agrees x.ask d.ask plain);
        in_order = idle.in_order;
        changes_fit = λ c there. absurd (Contains-none c there);
        owns = idle.owns;
        lasts_in_order = idle.lasts_in_order;
        lasts_fit = idle.lasts_fit;
        sizes = λ size small meets m. idle.sizes size small (λ c there. absurd (Contains-none c there)) m;
        ending = record {
          lies = λ c there. inr (λ m n named held. unnamed x c none there n named);
          apart = ending.apart;
          came = ending.came;
          went = ending.went;
          hook = ending.hook;
          nears = λ c there. subst (λ (a : AskedCondition). IsSet [] a.ask) (only_check x c there) (set_plain x.ask plain);
        };
      };
      irredundant = ((λ d later. absurd (Contains-none d later)), tt);
    }
