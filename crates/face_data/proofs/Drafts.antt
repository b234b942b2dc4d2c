-- The summary of lines is good and stands for them, where those of single lines are fair and stand for theirs.
use Rattle.std.proofs.Common.{◌≡◌, ℕ, List, [], ◌∷◌, ◌++◌, bit_or, refl, sym, ap, ◌∙◌, subst, arith, inl, inr, fold, append_assoc}
use Rattle.std.specs.List.{Contains}
use Rattle.std.specs.List.Sorted.{IsStrictlySortedBy}
use Rattle.std.proofs.lemmas.List.{append-nil}
use Rattle.std.proofs.lemmas.List.Elements.{Contains-append_cases}
use Rattle.std.proofs.lemmas.Nat.{pow_pos}
use Rattle.knit_base.specs.declared.instr.Read.{Read}
use Rattle.knit_base.specs.declared.needle.Needle.{Needle}
use Rattle.knit_base.specs.declared.profile.Profile.{Profile}
use Rattle.knit_base.specs.Yarns.{without_set}
use Rattle.carriage_model.specs.State.{State}
use Rattle.face_data.specs.Composition.{composed}
use Rattle.face_data.specs.Drafts.{no_lines, drafted_summary}
use Rattle.face_data.specs.Goodness.{IsGood, IsFair}
use Rattle.face_data.specs.Segments.{segments_on, read_segs}
use Rattle.face_data.specs.Sets.{AreNeedlesWithin}
use Rattle.face_data.specs.Stands.{StandsFor}
use Rattle.face_data.specs.Summaries.{Summary, summary_outcome}
use Rattle.face_data.specs.Summaries.Outcome.{went_on}
use Rattle.face_data.proofs.Goodness.{composed_good_fair, good_within, owns_nothing, sizes_nothing}
use Rattle.face_data.proofs.Members.{Contains-none, Contains-head, Contains-tail, Contains-cons_cases}
use Rattle.face_data.proofs.Stands.{stands_fair}
use Rattle.knit_base.proofs.Masks.{bit_or-none, without_set-none, contains_carrier-none}

-- where nobody comes or goes all stay
pub ins-nobody : (set : ℕ) → bit_or (without_set set 0) 0 ≡ set
ins-nobody set = bit_or-none (without_set set 0) ∙ without_set-none set

own_read : (s : State) (k : ℕ) (n : Needle) → read_segs s k (segments_on [] n) ≡ s.stacks n
own_read s k n = append-nil (s.stacks n)

-- no line does nothing
pub no_lines-applied : (s : State) (k : ℕ) → summary_outcome no_lines s k ≡ went_on s
no_lines-applied s k = ap went_on (λ i. record { rack = s.rack; ins = ins-nobody s.ins i; hook = s.hook; lasts = s.lasts; stacks = λ n. own_read s k n i })

-- the summary of no line stands for no line
pub no_lines_stand : (profile : Profile) → StandsFor profile no_lines []
no_lines_stand profile = record {
  lines_are = refl;
  outcome = λ s k. no_lines-applied s k;
  made_are = λ s t k ends. refl;
}

-- it is good
pub no_lines_good : (carriers limit : ℕ) (known : List Needle) → IsGood carriers limit known no_lines
unfolding IsStrictlySortedBy
no_lines_good carriers limit known = record {
  fair = record {
    made = omega arith;
    asks_fit = λ c there. absurd (Contains-none c there);
    within = λ c there. absurd (Contains-none c there);
    in_turn = tt;
    nested = λ c d there. absurd (Contains-none c there);
    agree = λ c d there. absurd (Contains-none c there);
    in_order = tt;
    changes_fit = λ c there. absurd (Contains-none c there);
    owns = owns_nothing;
    lasts_in_order = tt;
    lasts_fit = λ l there. absurd (Contains-none l there);
    sizes = λ size small meets m. sizes_nothing limit size small m;
    ending = record {
      lies = λ c there. absurd (Contains-none c there);
      apart = λ c came. contains_carrier-none c;
      came = pow_pos carriers;
      went = pow_pos carriers;
      hook = tt;
      nears = λ c there. absurd (Contains-none c there);
    };
  };
  irredundant = tt;
}

twice_within : (known : List Needle) → AreNeedlesWithin (known ++ known) known
twice_within known n there = elim (Contains-append_cases known known n there) [ inl first ↦ first | inr second ↦ second ]

-- a good summary, and lines after it
drafted_good_after : (line : Read → Summary) (carriers limit : ℕ) (known : List Needle) (draft : Summary) (rs : List Read) → IsGood carriers limit known draft →
    ((r : Read) → Contains rs r → IsFair carriers limit known (line r)) → IsGood carriers limit known (fold (λ d r. composed d (line r)) draft rs)
drafted_good_after line carriers limit known draft [] good fair = good
drafted_good_after line carriers limit known draft (r ∷ rs) good fair =
    drafted_good_after line carriers limit known (composed draft (line r)) rs
    (good_within carriers limit (known ++ known) known (composed draft (line r)) (twice_within known)
    (composed_good_fair carriers limit known known draft (line r) good (fair r (Contains-head r rs))))
    (λ x there. fair x (Contains-tail r rs x there))

-- The summary of lines is good.
pub drafted_good : (line : Read → Summary) (carriers limit : ℕ) (known : List Needle) (rs : List Read) →
    ((r : Read) → Contains rs r → IsFair carriers limit known (line r)) → IsGood carriers limit known (drafted_summary line rs)
drafted_good line carriers limit known rs fair = drafted_good_after line carriers limit known no_lines rs (no_lines_good carriers limit known) fair

drafted_stands_after : (profile : Profile) (line : Read → Summary) (carriers limit : ℕ) (known : List Needle) (draft : Summary) (before rs : List Read) →
    IsGood carriers limit known draft → StandsFor profile draft before → ((r : Read) → Contains rs r → IsFair carriers limit known (line r)) →
    ((r : Read) → Contains rs r → StandsFor profile (line r) (r ∷ [])) → StandsFor profile (fold (λ d r. composed d (line r)) draft rs) (before ++ rs)
drafted_stands_after profile line carriers limit known draft before [] good stands fair each = subst (StandsFor profile draft) (sym (append-nil before)) stands
drafted_stands_after profile line carriers limit known draft before (r ∷ rs) good stands fair each =
    subst (StandsFor profile (fold (λ d x. composed d (line x)) draft (r ∷ rs))) (append_assoc before (r ∷ []) rs)
    (drafted_stands_after profile line carriers limit known (composed draft (line r)) (before ++ r ∷ []) rs
    (drafted_good_after line carriers limit known draft (r ∷ []) good (λ x there. fair x (alone x there)))
    (stands_fair profile carriers limit known known draft (line r) before (r ∷ []) good (fair r (Contains-head r rs)) stands (each r (Contains-head r rs)))
    (λ x there. fair x (Contains-tail r rs x there))
    (λ x there. each x (Contains-tail r rs x there)))
  where
    alone : (x : Read) → Contains (r ∷ []) x → Contains (r ∷ rs) x
    alone x there = elim (Contains-cons_cases r [] x there) [
      | inl same ↦ subst (Contains (r ∷ rs)) same (Contains-head r rs)
      | inr none ↦ absurd (Contains-none x none)
    ]

-- It stands for them.
pub drafted_stands : (profile : Profile) (line : Read → Summary) (carriers limit : ℕ) (known : List Needle) (rs : List Read) →
    ((r : Read) → Contains rs r → IsFair carriers limit known (line r)) → ((r : Read) → Contains rs r → StandsFor profile (line r) (r ∷ [])) →
    StandsFor profile (drafted_summary line rs) rs
drafted_stands profile line carriers limit known rs fair each =
    drafted_stands_after profile line carriers limit known no_lines [] rs (no_lines_good carriers limit known) (no_lines_stand profile) fair each
