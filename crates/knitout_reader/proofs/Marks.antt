-- The word of a line tells which kind of shape it can have.
use Rattle.std.proofs.Common.{◌≡◌, ℕ, ◌+◌, ◌*◌, ◌<◌, ℤ, Bool, true, nat_eq, List, [], ◌∷◌, length, get_or, drop, Option, codes, ap, sym, subst, ◌∙◌, refl, inl, if◌then◌else◌}
use Rattle.std.proofs.lemmas.Bool.{false≢true}
use Rattle.knit_base.specs.declared.instr.Instr.TheVariants as instr
use Rattle.knit_base.specs.declared.instr.Read.{Read}
use Rattle.knit_base.specs.declared.instr.Read.TheVariants as read
use Rattle.knit_base.specs.declared.profile.Profile.{Profile}
use Rattle.knit_base.specs.declared.needle.Bed.{Bed}
use Rattle.knit_base.specs.declared.needle.Dir.{Dir}
use Rattle.knit_base.specs.Reasons.{or_else}
use Rattle.knitout_reader.specs.declared.words.CarrierOperation.{CarrierOperation}
use Rattle.knitout_reader.specs.declared.words.CarrierOperation.TheVariants as carrier_operation
use Rattle.knitout_reader.specs.declared.words.LoopOperation.{LoopOperation}
use Rattle.knitout_reader.specs.declared.words.LoopOperation.TheVariants as loop_operation
use Rattle.knitout_reader.specs.declared.words.NeedleOperation.{NeedleOperation}
use Rattle.knitout_reader.specs.declared.words.NeedleOperation.TheVariants as needle_operation
use Rattle.knitout_reader.specs.declared.words.FreeOperation.{FreeOperation}
use Rattle.knitout_reader.specs.declared.words.FreeOperation.TheVariants as free_operation
use Rattle.knitout_reader.specs.declared.words.Operation.{Operation}
use Rattle.knitout_reader.specs.declared.words.Operation.TheVariants as operation
use Rattle.knitout_reader.specs.Carriers.{carrier_rule, carriers_of}
use Rattle.knitout_reader.specs.Operations.{IsFreeWord, IsWordOf, carrier_word, carrier_instr, loop_word, loop_instr, loop_slider, needle_operation_word, needle_operation_instr}
use Rattle.knitout_reader.specs.Reading.{TokensReadAs, needle_on, off_bed, reading_or}
use Rattle.knitout_reader.specs.Shapes.{Shape, TokensSpell, IsFormed, IsDivided, IsTwoNeedleShape, IsNamed, IsRacked, CarryInShape, CarryOutShape, HookInShape, HookOutShape, ReleaseHookShape, StitchShape, PauseShape, ExtensionShape, RackShape, KnitShape, TuckShape, MissShape, SplitShape, XferShape, DropShape, AmissShape}

-- A number that differs between the words of any two kinds: 0 where the second byte is a `-`, else of the first byte and the
-- length.
abbrev pub mark : List ℕ → ℕ
mark word = if nat_eq (get_or word 1 0) 45 then 0 else get_or word 0 0 + 256 * length word

-- the mark of the words of such a shape
abbrev pub mark_of : Shape → ℕ
mark_of (CarryInShape carriers) = mark (codes "in")
mark_of (CarryOutShape carriers) = mark (codes "out")
mark_of (HookInShape carriers) = mark (codes "inhook")
mark_of (HookOutShape carriers) = mark (codes "outhook")
mark_of (ReleaseHookShape carriers) = mark (codes "releasehook")
mark_of (StitchShape free) = mark (codes "stitch")
mark_of (PauseShape free) = mark (codes "pause")
mark_of (ExtensionShape name free) = 0
mark_of (RackShape negative whole quarters) = mark (codes "rack")
mark_of (KnitShape dir bed at carriers) = mark (codes "knit")
mark_of (TuckShape dir bed at carriers) = mark (codes "tuck")
mark_of (MissShape dir bed at carriers) = mark (codes "miss")
mark_of (SplitShape dir bed at bed2 at2 carriers) = mark (codes "split")
mark_of (XferShape bed at bed2 at2) = mark (codes "xfer")
mark_of (DropShape bed at) = mark (codes "drop")
mark_of (AmissShape bed at) = mark (codes "amiss")

-- equal lines have equal first tokens
pub first_word : (a b : List ℕ) (xs ys : List (List ℕ)) → a ∷ xs ≡ b ∷ ys → a ≡ b
first_word a b xs ys e = ap (λ l. get_or l 0 []) e

-- and equal tokens behind them
pub other_words : (a b : List ℕ) (xs ys : List (List ℕ)) → a ∷ xs ≡ b ∷ ys → xs ≡ ys
other_words a b xs ys e = ap (drop 1) e

marked : (n : ℕ) (word other : List ℕ) (xs ys : List (List ℕ)) → word ∷ xs ≡ other ∷ ys → nat_eq (mark other) n ≡ true → nat_eq (mark word) n ≡ true
marked n word other xs ys e same = ap (λ w. nat_eq (mark w) n) (first_word word other xs ys e) ∙ same

-- the word has the mark of the shape
pub marks-agree : (word : List ℕ) (rest : List (List ℕ)) (shape : Shape) → TokensSpell (word ∷ rest) shape → nat_eq (mark word) (mark_of shape) ≡ true
marks-agree word rest (CarryInShape carriers) spelled = marked _ _ _ _ _ spelled.spelled refl
marks-agree word rest (CarryOutShape carriers) spelled = marked _ _ _ _ _ spelled.spelled refl
marks-agree word rest (HookInShape carriers) spelled = marked _ _ _ _ _ spelled.spelled refl
marks-agree word rest (HookOutShape carriers) spelled = marked _ _ _ _ _ spelled.spelled refl
marks-agree word rest (ReleaseHookShape carriers) spelled = marked _ _ _ _ _ spelled.spelled refl
marks-agree word rest (StitchShape free) spelled = marked _ _ _ _ _ spelled refl
marks-agree word rest (PauseShape free) spelled = marked _ _ _ _ _ spelled refl
marks-agree word rest (ExtensionShape name free) spelled = marked _ _ _ _ _ spelled refl
marks-agree word rest (RackShape negative whole quarters) spelled = marked _ _ _ _ _ spelled.spelled refl
marks-agree word rest (KnitShape dir bed at carriers) spelled = marked _ _ _ _ _ spelled.spelled refl
marks-agree word rest (TuckShape dir bed at carriers) spelled = marked _ _ _ _ _ spelled.spelled refl
marks-agree word rest (MissShape dir bed at carriers) spelled = marked _ _ _ _ _ spelled.spelled refl
marks-agree word rest (SplitShape dir bed at bed2 at2 carriers) spelled = marked _ _ _ _ _ spelled.spelled refl
marks-agree word rest (XferShape bed at bed2 at2) spelled = marked _ _ _ _ _ spelled.spelled refl
marks-agree word rest (DropShape bed at) spelled = marked _ _ _ _ _ spelled.spelled refl
marks-agree word rest (AmissShape bed at) spelled = marked _ _ _ _ _ spelled.spelled refl

-- where the word is that of a kind, and the operands aren't its own, there is no shape
pub not_formed : (which : LoopOperation) (tokens : List (List ℕ)) → ((dir : Dir) (bed : Bed) (at : ℤ) (carriers : List (List ℕ)) → IsFormed (loop_word which) (loop_word which ∷ tokens) dir bed at carriers → ⊥)
    → (shape : Shape) → TokensSpell (loop_word which ∷ tokens) shape → ⊥
not_formed loop_operation.Knit tokens none (KnitShape dir bed at carriers) spelled = none dir bed at carriers spelled
not_formed loop_operation.Knit tokens none shape spelled = absurd (false≢true (marks-agree (codes "knit") tokens shape spelled))
not_formed loop_operation.Tuck tokens none (TuckShape dir bed at carriers) spelled = none dir bed at carriers spelled
not_formed loop_operation.Tuck tokens none shape spelled = absurd (false≢true (marks-agree (codes "tuck") tokens shape spelled))
not_formed loop_operation.Miss tokens none (MissShape dir bed at carriers) spelled = none dir bed at carriers spelled
not_formed loop_operation.Miss tokens none shape spelled = absurd (false≢true (marks-agree (codes "miss") tokens shape spelled))

-- the same of an operation on one needle
pub not_named : (which : NeedleOperation) (tokens : List (List ℕ)) → ((bed : Bed) (at : ℤ) → IsNamed (needle_operation_word which) (needle_operation_word which ∷ tokens) bed at → ⊥)
    → (shape : Shape) → TokensSpell (needle_operation_word which ∷ tokens) shape → ⊥
not_named needle_operation.Drop tokens none (DropShape bed at) spelled = none bed at spelled
not_named needle_operation.Drop tokens none shape spelled = absurd (false≢true (marks-agree (codes "drop") tokens shape spelled))
not_named needle_operation.Amiss tokens none (AmissShape bed at) spelled = none bed at spelled
not_named needle_operation.Amiss tokens none shape spelled = absurd (false≢true (marks-agree (codes "amiss") tokens shape spelled))

-- the same of `split`
pub not_divided : (tokens : List (List ℕ)) → ((dir : Dir) (bed : Bed) (at : ℤ) (bed2 : Bed) (at2 : ℤ) (carriers : List (List ℕ)) → IsDivided (codes "split") (codes "split" ∷ tokens) dir bed at bed2 at2 carriers → ⊥)
    → (shape : Shape) → TokensSpell (codes "split" ∷ tokens) shape → ⊥
not_divided tokens none (SplitShape dir bed at bed2 at2 carriers) spelled = none dir bed at bed2 at2 carriers spelled
not_divided tokens none shape spelled = absurd (false≢true (marks-agree (codes "split") tokens shape spelled))

-- the same of `xfer`
pub not_moved : (tokens : List (List ℕ)) → ((bed : Bed) (at : ℤ) (bed2 : Bed) (at2 : ℤ) → IsTwoNeedleShape (codes "xfer") (codes "xfer" ∷ tokens) bed at bed2 at2 → ⊥)
    → (shape : Shape) → TokensSpell (codes "xfer" ∷ tokens) shape → ⊥
not_moved tokens none (XferShape bed at bed2 at2) spelled = none bed at bed2 at2 spelled
not_moved tokens none shape spelled = absurd (false≢true (marks-agree (codes "xfer") tokens shape spelled))

-- the same of `rack`
pub not_racked : (tokens : List (List ℕ)) → ((negative : Bool) (whole : List ℕ) (quarters : Option ℕ) → IsRacked (codes "rack") (codes "rack" ∷ tokens) negative whole quarters → ⊥)
    → (shape : Shape) → TokensSpell (codes "rack" ∷ tokens) shape → ⊥
not_racked tokens none (RackShape negative whole quarters) spelled = none negative whole quarters spelled
not_racked tokens none shape spelled = absurd (false≢true (marks-agree (codes "rack") tokens shape spelled))

-- a word that names no operation begins no shape
pub no_operation : (word : List ℕ) (rest : List (List ℕ)) → ((which : Operation) → IsWordOf which word → ⊥) → (shape : Shape) → TokensSpell (word ∷ rest) shape → ⊥
no_operation word rest none (CarryInShape carriers) spelled = none (operation.Carrier carrier_operation.In) (first_word _ _ _ _ spelled.spelled)
no_operation word rest none (CarryOutShape carriers) spelled = none (operation.Carrier carrier_operation.Out) (first_word _ _ _ _ spelled.spelled)
no_operation word rest none (HookInShape carriers) spelled = none (operation.Carrier carrier_operation.HookIn) (first_word _ _ _ _ spelled.spelled)
no_operation word rest none (HookOutShape carriers) spelled = none (operation.Carrier carrier_operation.HookOut) (first_word _ _ _ _ spelled.spelled)
no_operation word rest none (ReleaseHookShape carriers) spelled = none (operation.Carrier carrier_operation.ReleaseHook) (first_word _ _ _ _ spelled.spelled)
no_operation word rest none (StitchShape free) spelled = none (operation.Free free_operation.Stitch) (first_word _ _ _ _ spelled)
no_operation word rest none (PauseShape free) spelled = none (operation.Free free_operation.Pause) (first_word _ _ _ _ spelled)
no_operation word rest none (ExtensionShape name free) spelled = none (operation.Free free_operation.Extension) (name, first_word _ _ _ _ spelled)
no_operation word rest none (RackShape negative whole quarters) spelled = none operation.Rack (first_word _ _ _ _ spelled.spelled)
no_operation word rest none (KnitShape dir bed at carriers) spelled = none (operation.Loop loop_operation.Knit) (first_word _ _ _ _ spelled.spelled)
no_operation word rest none (TuckShape dir bed at carriers) spelled = none (operation.Loop loop_operation.Tuck) (first_word _ _ _ _ spelled.spelled)
no_operation word rest none (MissShape dir bed at carriers) spelled = none (operation.Loop loop_operation.Miss) (first_word _ _ _ _ spelled.spelled)
no_operation word rest none (SplitShape dir bed at bed2 at2 carriers) spelled = none operation.Split (first_word _ _ _ _ spelled.spelled)
no_operation word rest none (XferShape bed at bed2 at2) spelled = none operation.Xfer (first_word _ _ _ _ spelled.spelled)
no_operation word rest none (DropShape bed at) spelled = none (operation.Needle needle_operation.Drop) (first_word _ _ _ _ spelled.spelled)
no_operation word rest none (AmissShape bed at) spelled = none (operation.Needle needle_operation.Amiss) (first_word _ _ _ _ spelled.spelled)

-- readings of operations that are spelt alike
pub carrier-reading : (profile : Profile) (names : List (List ℕ)) (which : CarrierOperation) (tokens : List (List ℕ)) (r : Read) → 0 < length tokens
    → r ≡ reading_or (carrier_rule names 1 tokens) (carrier_instr which (carriers_of names tokens)) → TokensReadAs profile names (carrier_word which ∷ tokens) r
carrier-reading profile names carrier_operation.In tokens r some is = inl (CarryInShape tokens, record { spelled = refl; some = some }, is)
carrier-reading profile names carrier_operation.Out tokens r some is = inl (CarryOutShape tokens, record { spelled = refl; some = some }, is)
carrier-reading profile names carrier_operation.HookIn tokens r some is = inl (HookInShape tokens, record { spelled = refl; some = some }, is)
carrier-reading profile names carrier_operation.HookOut tokens r some is = inl (HookOutShape tokens, record { spelled = refl; some = some }, is)
carrier-reading profile names carrier_operation.ReleaseHook tokens r some is = inl (ReleaseHookShape tokens, record { spelled = refl; some = some }, is)

-- the reading of `knit`, `tuck` and `miss`
pub loop-reading : (profile : Profile) (names : List (List ℕ)) (which : LoopOperation) (tokens : List (List ℕ)) (dir : Dir) (bed : Bed) (at : ℤ) (carriers : List (List ℕ)) (r : Read)
    → IsFormed (loop_word which) (loop_word which ∷ tokens) dir bed at carriers
    → r ≡ reading_or (or_else (off_bed profile 2 at) (or_else (loop_slider which bed carriers) (carrier_rule names 3 carriers))) (loop_instr which dir (needle_on bed at) (carriers_of names carriers))
    → TokensReadAs profile names (loop_word which ∷ tokens) r
loop-reading profile names loop_operation.Knit tokens dir bed at carriers r formed is = inl (KnitShape dir bed at carriers, formed, is)
loop-reading profile names loop_operation.Tuck tokens dir bed at carriers r formed is = inl (TuckShape dir bed at carriers, formed, is)
loop-reading profile names loop_operation.Miss tokens dir bed at carriers r formed is = inl (MissShape dir bed at carriers, formed, is)

-- the reading of an operation on one needle
pub needle-reading : (profile : Profile) (names : List (List ℕ)) (which : NeedleOperation) (tokens : List (List ℕ)) (bed : Bed) (at : ℤ) (r : Read)
    → IsNamed (needle_operation_word which) (needle_operation_word which ∷ tokens) bed at → r ≡ reading_or (off_bed profile 1 at) (needle_operation_instr which (needle_on bed at))
    → TokensReadAs profile names (needle_operation_word which ∷ tokens) r
needle-reading profile names needle_operation.Drop tokens bed at r named is = inl (DropShape bed at, named, is)
needle-reading profile names needle_operation.Amiss tokens bed at r named is = inl (AmissShape bed at, named, is)

-- what an operation that free tokens follow says
abbrev pub free_reading : FreeOperation → Read
free_reading free_operation.Stitch = read.Instr instr.Stitch
free_reading free_operation.Pause = read.Instr instr.Pause
free_reading free_operation.Extension = read.Instr instr.Extension

-- is the reading of its line
pub free-reading : (profile : Profile) (names : List (List ℕ)) (word : List ℕ) (free : List (List ℕ)) → (which : FreeOperation) → IsFreeWord which word
    → (r : Read) → r ≡ free_reading which → TokensReadAs profile names (word ∷ free) r
free-reading profile names word free free_operation.Stitch is r reads = inl (StitchShape free, ap (λ w. w ∷ free) is, reads)
free-reading profile names word free free_operation.Pause is r reads = inl (PauseShape free, ap (λ w. w ∷ free) is, reads)
free-reading profile names word free free_operation.Extension is r reads = inl (ExtensionShape is.0 free, ap (λ w. w ∷ free) is.1, reads)

-- what is read behind a word is read behind one that is equal
pub at_word : (profile : Profile) (names : List (List ℕ)) (word other : List ℕ) (tokens : List (List ℕ)) (r : Read) → word ≡ other
    → TokensReadAs profile names (other ∷ tokens) r → TokensReadAs profile names (word ∷ tokens) r
at_word profile names word other tokens r is reads = subst (λ w. TokensReadAs profile names (w ∷ tokens) r) (sym is) reads
