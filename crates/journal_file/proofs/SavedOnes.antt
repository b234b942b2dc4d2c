-- A saved text tells one thing, and so does each part of it.
use Rattle.std.proofs.Common.{◌≡◌, ℕ, Option, None, Some, IfSome, unwrap_or, List, [], ◌∷◌, ◌++◌, ap, sym, subst, refl, arith, codes}
use Rattle.knit_base.specs.Limits.{IsFloatLimit}
use Rattle.knit_base.specs.declared.profile.Profile.{Profile}
use Rattle.journal_file.specs.CountLines.{IsCount}
use Rattle.journal_file.specs.BlockForms.{BlocksForm, block_form, no_block_yet, with_block}
use Rattle.journal_file.specs.EntryForms.{AreEntries, entry_form, same_entries}
use Rattle.journal_file.specs.Fronts.{AreFront, IsTitle}
use Rattle.journal_file.specs.Grammars.{IsUnambiguous, OneLine, Both}
use Rattle.journal_file.specs.HeadForms.{AreHeadLines, head_form, no_line_yet, head_with_line}
use Rattle.journal_file.specs.Profiles.{AreLimits, IsProfile}
use Rattle.journal_file.specs.SavedForms.{AreFirst, IsBehindHead, IsEntryCount, HeadForm, OpeningForm, SavedForm, count_said}
use Rattle.journal_file.specs.Spelling.{needle_limits, other_limits}
use Rattle.journal_file.proofs.Ahead.{entry_one}
use Rattle.journal_file.proofs.BlockReadings.{one_count}
use Rattle.journal_file.proofs.BlocksReadings.{block_one}
use Rattle.journal_file.proofs.FrontReadings.{title_one}
use Rattle.journal_file.proofs.Grammars.{both_one, chain_one, line_one}
use Rattle.journal_file.proofs.HeadReadings.{head_one}
use Rattle.journal_file.proofs.Profiles.{limits_one, needles_one, parts_of}

float_one : (a b : Option ℕ) → IfSome a IsFloatLimit → IfSome b IsFloatLimit → unwrap_or a 0 ≡ unwrap_or b 0 → a ≡ b
float_one None None p q same = refl
float_one (Some n) (Some m) p q same = ap Some same
float_one None (Some m) p q same = absurd (let some = q.some in omega (arith, some, same))
float_one (Some n) None p q same = absurd (let some = p.some in omega (arith, some, same))

limits_told : (p q : Profile) (line : List ℕ) → IsProfile p line → IsProfile q line → p ≡ q
limits_told p q line a b =
    let text = needle_limits p ++ other_limits p in
    let first = parts_of p line text a a.spelt in
    let second = parts_of q line text b a.spelt in
    let n = needles_one text p.low p.high q.low q.high first.behind second.behind first.needles second.needles in
    let l = limits_one first.behind p.rack p.hold q.rack q.hold first.last second.last first.limits (subst (λ t. AreLimits t q.rack q.hold second.last) (sym n.2) second.limits) in
    let count = one_count (codes " ") 0 8192 (omega arith) (unwrap_or p.float 0) (unwrap_or q.float 0) (first.last ∷ []) (second.last ∷ []) [] []
    (record { line = first.last; lines_are = refl; says = first.float }) (record { line = second.last; lines_are = refl; says = second.float }) (ap (λ t. t ∷ []) l.2) in
    let float = float_one p.float q.float a.lawful.float b.lawful.float count.0 in
    (λ i. record { low = n.0 i; high = n.1 i; rack = l.0 i; hold = l.1 i; float = float i })

pub front_one : IsUnambiguous AreFront
front_one = both_one (OneLine IsTitle) (λ said. OneLine IsProfile) title_one (λ said. line_one IsProfile limits_told)

pub head_count_one : IsUnambiguous (OneLine (IsCount (codes "head ") 2 16777217))
head_count_one = one_count (codes "head ") 2 16777217 (omega arith)

pub whole_head_one : IsUnambiguous HeadForm
whole_head_one = both_one (OneLine (IsCount (codes "head ") 2 16777217)) (λ many. AreHeadLines many) head_count_one (λ many. chain_one head_form head_with_line head_one many (no_line_yet many))

pub blocks_count_one : IsUnambiguous (OneLine (IsCount (codes "blocks ") 0 65536))
blocks_count_one = one_count (codes "blocks ") 0 65536 (omega arith)

pub first_one : IsUnambiguous AreFirst
first_one = both_one (OneLine (IsCount (codes "blocks ") 0 65536)) (λ many. BlocksForm many) blocks_count_one (λ many. chain_one block_form with_block block_one many (no_block_yet many))

pub behind_head_one : IsUnambiguous IsBehindHead
behind_head_one = both_one AreFirst (λ blocks. IsEntryCount) first_one (λ blocks. one_count (codes "entries ") 0 4294967295 (omega arith))

pub opening_one : IsUnambiguous OpeningForm
opening_one = both_one AreFront (λ front. Both HeadForm (λ head. IsBehindHead)) front_one (λ front. both_one HeadForm (λ head. IsBehindHead) whole_head_one (λ head. behind_head_one))

pub entries_one : (many : ℕ) → IsUnambiguous (AreEntries many)
entries_one many = chain_one entry_form same_entries (λ s. entry_one) many tt

pub saved_one : IsUnambiguous SavedForm
saved_one = both_one OpeningForm (λ said. AreEntries (count_said said)) opening_one (λ said. entries_one (count_said said))
