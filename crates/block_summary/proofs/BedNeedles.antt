-- The needles that lines name have numbers of 16 bits, however long the lines are.
use Rattle.std.proofs.Common.{◌≡◌, ⊎_elim, ℕ, ◌<◌, ◌≤◌, ◌^◌, ℤ, pos, negsuc, ◌-ℤ◌, ◌≤ℤ◌, int_lt, Bool, true, false, ◌||◌, List, [], ◌∷◌, All, Option, None, Some, refl, sym, subst, arith}
use Rattle.std.specs.List.{AllZip}
use Rattle.std.specs.Option.{option_map, option_to_list}
use Rattle.std.proofs.lemmas.Bool.{false≢true}
use Rattle.std.proofs.lemmas.Int.{ints}
use Rattle.std.proofs.lemmas.List.Elements.{All-append, All-cons, All-nil}
use Rattle.knit_base.specs.declared.instr.Instr.{Instr}
use Rattle.knit_base.specs.declared.instr.Instr.TheVariants.{Knit, Tuck, Split}
use Rattle.knit_base.specs.declared.instr.Read.{Read}
use Rattle.knit_base.specs.declared.instr.Read.TheVariants as read
use Rattle.knit_base.specs.declared.needle.Bed.{Bed}
use Rattle.knit_base.specs.declared.needle.Needle.{Needle}
use Rattle.knit_base.specs.declared.profile.Profile.{Profile}
use Rattle.knit_base.specs.declared.rule.Reason.{Reason}
use Rattle.knit_base.specs.declared.yarns.CarrierNo.{CarrierNo}
use Rattle.knit_base.specs.Instr.{formed_on, forming_needle, needles_of}
use Rattle.knit_base.specs.Lawful.{AreOnBed, IsOnBed}
use Rattle.knit_base.specs.Limits.{IsLawfulProfile}
use Rattle.knit_base.specs.Needle.{own_slider}
use Rattle.knitout_reader.specs.Reading.{CodeReadsAs, ReadsAs, TokensReadAs, instr_of, needle_on, off_bed, reading_or, static_rule}
use Rattle.knitout_reader.specs.Shapes.{Shape, KnitShape, TuckShape, MissShape, SplitShape, XferShape, DropShape, AmissShape}
use Rattle.knitout_reader.specs.Tokens.{before_comment, has_comment, tokens_of}
use Rattle.knitout_reader.proofs.OneShape.{Fits, FitsNone}
use Rattle.knitout_reader.proofs.Rules.{neither_reason, unbroken_test_fails}
use Rattle.face_data.specs.Spots.{IsNumbered, number_place}
use Rattle.block_summary.specs.NamedNeedles.{line_needles, needles_named}

-- the needles of an instruction lie on the bed
abbrev IsOnBeds : Profile → Read → Type 0
IsOnBeds profile (read.Instr i) = AreOnBed profile (needles_of i)
IsOnBeds profile r = Unit {0}

or_false : (a b : Bool) → (a || b) ≡ false → (a ≡ false) × (b ≡ false)
or_false true b e = absurd (false≢true (sym e))
or_false false b e = (refl, e)

not_below : (a b : ℤ) → int_lt a b ≡ false → b ≤ℤ a
not_below a b e = grind (arith, ints)

on_bed : (profile : Profile) (place : ℕ) (bed : Bed) (at : ℤ) → off_bed profile place at ≡ None → IsOnBed profile (needle_on bed at)
on_bed profile place bed at e =
    let within : (int_lt at profile.low ≡ false) × (int_lt profile.high at ≡ false) = or_false _ _ (unbroken_test_fails _ _ _ e) in
    record { above = not_below _ _ within.0; below = not_below _ _ within.1 }

shape_on_bed : (profile : Profile) (names : List (List ℕ)) (shape : Shape) → static_rule profile names shape ≡ None → AreOnBed profile (needles_of (instr_of names shape))
shape_on_bed profile names (KnitShape dir bed at carriers) e = let first = neither_reason (off_bed profile 2 at) _ e in (on_bed profile 2 bed at first.0, tt)
shape_on_bed profile names (TuckShape dir bed at carriers) e = let first = neither_reason (off_bed profile 2 at) _ e in (on_bed profile 2 bed at first.0, tt)
shape_on_bed profile names (MissShape dir bed at carriers) e = let first = neither_reason (off_bed profile 2 at) _ e in (on_bed profile 2 bed at first.0, tt)
shape_on_bed profile names (SplitShape dir bed at bed2 at2 carriers) e =
    let first = neither_reason (off_bed profile 2 at) _ e in
    let second = neither_reason (off_bed profile 3 at2) _ first.1 in
    (on_bed profile 2 bed at first.0, (on_bed profile 3 bed2 at2 second.0, tt))
shape_on_bed profile names (XferShape bed at bed2 at2) e =
    let first = neither_reason (off_bed profile 1 at) _ e in
    let second = neither_reason (off_bed profile 2 at2) _ first.1 in
    (on_bed profile 1 bed at first.0, (on_bed profile 2 bed2 at2 second.0, tt))
shape_on_bed profile names (DropShape bed at) e = (on_bed profile 1 bed at e, tt)
shape_on_bed profile names (AmissShape bed at) e = (on_bed profile 1 bed at e, tt)
shape_on_bed profile names shape e = tt

reading_on_bed : (profile : Profile) (reason : Option Reason) (i : Instr) → (reason ≡ None → AreOnBed profile (needles_of i)) → IsOnBeds profile (reading_or reason i)
reading_on_bed profile None i holds = holds refl
reading_on_bed profile (Some reason) i holds = tt

tokens_on_bed : (profile : Profile) (names tokens : List (List ℕ)) (r : Read) → TokensReadAs profile names tokens r → IsOnBeds profile r
tokens_on_bed profile names tokens r reads =
    ⊎_elim
    (λ (here : Fits profile names tokens r).
    subst (IsOnBeds profile) (sym here.2) (reading_on_bed profile (static_rule profile names here.0) (instr_of names here.0) (shape_on_bed profile names here.0)))
    (λ (none : FitsNone tokens r). subst (IsOnBeds profile) (sym none.1) tt)
    reads

code_on_bed : (profile : Profile) (names tokens : List (List ℕ)) (comment : Bool) (r : Read) → CodeReadsAs profile names tokens comment r → IsOnBeds profile r
code_on_bed profile names [] false r reads = subst (IsOnBeds profile) (sym reads) tt
code_on_bed profile names [] true r reads = subst (IsOnBeds profile) (sym reads) tt
code_on_bed profile names (word ∷ rest) comment r reads = tokens_on_bed profile names (word ∷ rest) r reads

number_small : (at : ℤ) → (pos 0 -ℤ pos 4096) ≤ℤ at → at ≤ℤ pos 4096 → number_place at < 2 ^ 16
number_small (pos n) above below = let few : n ≤ 4096 = omega (arith, ints, below) in omega (arith, few)
number_small (negsuc n) above below = let few : n ≤ 4096 = omega (arith, ints, above) in omega (arith, few)

numbered : (profile : Profile) (n : Needle) → IsLawfulProfile profile → IsOnBed profile n → IsNumbered n
numbered profile n lawful on = number_small n.at (omega (arith, ints, lawful.lowest, on.above)) (omega (arith, ints, on.below, lawful.highest))

all_numbered : (profile : Profile) (ns : List Needle) → IsLawfulProfile profile → AreOnBed profile ns → All IsNumbered ns
all_numbered profile [] lawful on = All-nil IsNumbered
all_numbered profile (n ∷ ns) lawful on = All-cons IsNumbered n ns (numbered profile n lawful on.0) (all_numbered profile ns lawful on.1)

slider_numbered : (n : Needle) (cs : List CarrierNo) → IsNumbered n → All IsNumbered (option_to_list (option_map own_slider (formed_on n cs)))
slider_numbered n [] is = All-nil IsNumbered
slider_numbered n (c ∷ cs) is = All-cons IsNumbered (own_slider n) [] is (All-nil IsNumbered)

forming_numbered : (profile : Profile) (i : Instr) → IsLawfulProfile profile → AreOnBed profile (needles_of i) → All IsNumbered (option_to_list (option_map own_slider (forming_needle i)))
forming_numbered profile (Knit dir n cs) bounds on = slider_numbered n cs (numbered profile n bounds on.0)
forming_numbered profile (Tuck dir n cs) bounds on = slider_numbered n cs (numbered profile n bounds on.0)
forming_numbered profile (Split dir n n2 cs) bounds on = slider_numbered n cs (numbered profile n bounds on.0)
forming_numbered profile i bounds on = All-nil IsNumbered

line_numbered : (profile : Profile) (r : Read) → IsLawfulProfile profile → IsOnBeds profile r → All IsNumbered (line_needles r)
unfolding line_needles
line_numbered profile (read.Instr i) bounds on =
    All-append IsNumbered (needles_of i) (option_to_list (option_map own_slider (forming_needle i))) (all_numbered profile (needles_of i) bounds on) (forming_numbered profile i bounds on)
line_numbered profile r bounds on = All-nil IsNumbered

-- the needles that lines name, and the own sliders of those on which they form loops
pub named_numbered : (profile : Profile) (names lines : List (List ℕ)) (readings : List Read) → IsLawfulProfile profile → AllZip (ReadsAs profile names) lines readings → All IsNumbered (needles_named readings)
unfolding needles_named
named_numbered profile names [] [] bounds reads = All-nil IsNumbered
named_numbered profile names [] (r ∷ rs) bounds reads = absurd reads
named_numbered profile names (line ∷ lines) [] bounds reads = absurd reads
named_numbered profile names (line ∷ lines) (r ∷ rs) bounds reads =
    All-append IsNumbered (line_needles r) (needles_named rs)
    (line_numbered profile r bounds (code_on_bed profile names (tokens_of (before_comment line)) (has_comment line) r reads.0))
    (named_numbered profile names lines rs bounds reads.1)
