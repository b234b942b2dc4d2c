-- What a line of fewer than 2 ^ 16 bytes reads as is lawful.
use Rattle.std.proofs.Common.{ℕ, ◌+◌, ◌<◌, ◌^◌, Bool, true, false, List, [], ◌∷◌, length, All, subst, sym, arith}
use Rattle.std.specs.List.{AllZip}
use Rattle.std.proofs.lemmas.List.Elements.{All-cons, All-head, All-nil, All-tail}
use Rattle.knit_base.specs.declared.instr.Read.{Read}
use Rattle.knit_base.specs.declared.profile.Profile.{Profile}
use Rattle.knit_base.specs.Lawful.{IsLawfulRead}
use Rattle.knitout_reader.specs.Reading.{CodeReadsAs, ReadsAs}
use Rattle.knitout_reader.specs.Tokens.{tokens_of, before_comment, has_comment}
use Rattle.knitout_reader.proofs.Rules.{tokens-lawful}
use Rattle.knitout_reader.proofs.TokenRuns.{few_tokens, short_code}

code_lawful : (profile : Profile) (names tokens : List (List ℕ)) (comment : Bool) (r : Read) → 3 + length tokens < 2 ^ 16 → CodeReadsAs profile names tokens comment r
    → IsLawfulRead profile (length names) r
code_lawful profile names [] false r few reads = subst (IsLawfulRead profile (length names)) (sym reads) tt
code_lawful profile names [] true r few reads = subst (IsLawfulRead profile (length names)) (sym reads) tt
code_lawful profile names (word ∷ rest) comment r few reads = tokens-lawful profile names word rest r (omega (arith, few)) reads

pub reads-lawful : (profile : Profile) (names : List (List ℕ)) (line : List ℕ) (r : Read) → length line < 2 ^ 16 → ReadsAs profile names line r
    → IsLawfulRead profile (length names) r
reads-lawful profile names line r short reads =
    code_lawful profile names (tokens_of (before_comment line)) (has_comment line) r (omega (arith, few_tokens (before_comment line), short_code line, short)) reads

-- the same of each of some lines
pub each-lawful : (profile : Profile) (names lines : List (List ℕ)) (readings : List Read) → All (λ (line : List ℕ). length line < 2 ^ 16) lines
    → AllZip (ReadsAs profile names) lines readings → All (IsLawfulRead profile (length names)) readings
each-lawful profile names [] [] short reads = All-nil (IsLawfulRead profile (length names))
each-lawful profile names [] (r ∷ rs) short reads = absurd reads
each-lawful profile names (line ∷ lines) [] short reads = absurd reads
each-lawful profile names (line ∷ lines) (r ∷ rs) short reads =
    All-cons (IsLawfulRead profile (length names)) r rs (reads-lawful profile names line r (All-head (λ (l : List ℕ). length l < 2 ^ 16) line lines short) reads.0)
    (each-lawful profile names lines rs (All-tail (λ (l : List ℕ). length l < 2 ^ 16) line lines short) reads.1)
