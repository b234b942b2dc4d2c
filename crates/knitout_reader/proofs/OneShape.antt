-- The tokens of a line have one shape at most, and a line one reading.
use Rattle.std.proofs.Common.{◌≡◌, ⊎_elim, ℕ, ◌/◌, ◌^◌, ◌<◌, ℤ, Bool, true, nat_eq, List, [], ◌∷◌, ◌++◌, length, drop, Option, None, Some, ap, sym, subst, ◌∙◌, refl, arith, codes}
use Rattle.std.proofs.lemmas.Bool.{false≢true}
use Rattle.std.proofs.Math.Nat.{mul-div_cancel, one-le-pow}
use Rattle.knit_base.specs.declared.instr.Read.{Read}
use Rattle.knit_base.specs.declared.profile.Profile.{Profile}
use Rattle.knit_base.specs.declared.needle.Bed.{Bed}
use Rattle.knit_base.specs.declared.needle.Dir.{Dir}
use Rattle.knit_base.specs.declared.needle.Dir.TheVariants.{Right, Left}
use Rattle.knit_base.specs.Spelling.{dir_word}
use Rattle.knitout_reader.specs.Numbers.{IsNeedle, IsRack, IsQuarter}
use Rattle.knitout_reader.specs.Reading.{TokensReadAs, CodeReadsAs, reading_of, unreadable}
use Rattle.knitout_reader.specs.Shapes.{Shape, TokensSpell, AreCarried, AreQuarters, BeginsWithNeedle, IsFormed, IsDivided, IsTwoNeedleShape, IsNamed, IsRacked, CarryInShape, CarryOutShape, HookInShape, HookOutShape, ReleaseHookShape, StitchShape, PauseShape, ExtensionShape, RackShape, KnitShape, TuckShape, MissShape, SplitShape, XferShape, DropShape, AmissShape}
use Rattle.knitout_reader.proofs.Marks.{mark, mark_of, marks-agree, first_word, other_words}
use Rattle.knitout_reader.proofs.Signs.{first_byte}
use Rattle.knitout_reader.proofs.Decimals.{one_rack}
use Rattle.knitout_reader.proofs.OneNeedle.{one_needle}

one_dir : (dir dir' : Dir) → dir_word dir ≡ dir_word dir' → dir ≡ dir'
one_dir Right Right e = refl
one_dir Right Left e = let same : 43 ≡ 45 = first_byte 43 45 [] [] e in absurd (omega (arith, same))
one_dir Left Right e = let same : 45 ≡ 43 = first_byte 45 43 [] [] e in absurd (omega (arith, same))
one_dir Left Left e = refl

one_quarter : (fraction : List ℕ) (q q' : ℕ) → IsQuarter fraction q → IsQuarter fraction q' → q ≡ q'
one_quarter fraction q q' one other =
    let some : 0 < 10 ^ length fraction = omega (arith, one-le-pow (length fraction) 10 (omega arith)) in
    sym (mul-div_cancel q some) ∙ ap (λ n. n / 10 ^ length fraction) (sym one ∙ other) ∙ mul-div_cancel q' some

one_left : (fraction : List ℕ) (quarters quarters' : Option ℕ) → AreQuarters fraction quarters → AreQuarters fraction quarters' → quarters ≡ quarters'
one_left fraction None None one other = refl
one_left fraction None (Some q) one other = absurd (one q other)
one_left fraction (Some q) None one other = absurd (other q one)
one_left fraction (Some q) (Some q') one other = ap Some (one_quarter fraction q q' one other)

one_front : (tokens others others' : List (List ℕ)) (bed bed' : Bed) (at at' : ℤ) → BeginsWithNeedle tokens bed at others → BeginsWithNeedle tokens bed' at' others'
    → (bed ≡ bed') × (at ≡ at') × (others ≡ others')
one_front tokens others others' bed bed' at at' one other =
    let same : one.needle ∷ others ≡ other.needle ∷ others' = sym one.spelled ∙ other.spelled in
    let needles : (bed ≡ bed') × (at ≡ at') =
    one_needle one.needle bed bed' at at' one.named (subst (λ n. IsNeedle n bed' at') (sym (first_word _ _ _ _ same)) other.named) in
    (needles.0, needles.1, other_words _ _ _ _ same)

carried_alike : (word : List ℕ) (tokens carriers carriers' : List (List ℕ)) → AreCarried word tokens carriers → AreCarried word tokens carriers' → carriers ≡ carriers'
carried_alike word tokens carriers carriers' one other = other_words _ _ _ _ (sym one.spelled ∙ other.spelled)

-- equal first needles, and equal tokens behind them
formed_alike : (shape : Dir → Bed → ℤ → List (List ℕ) → Shape) (word : List ℕ) (tokens : List (List ℕ)) (dir dir' : Dir) (bed bed' : Bed) (at at' : ℤ) (carriers carriers' : List (List ℕ))
    → IsFormed word tokens dir bed at carriers → IsFormed word tokens dir' bed' at' carriers' → shape dir bed at carriers ≡ shape dir' bed' at' carriers'
formed_alike shape word tokens dir dir' bed bed' at at' carriers carriers' one other =
    let behind : dir_word dir ∷ one.operands ≡ dir_word dir' ∷ other.operands = other_words _ _ _ _ (sym one.spelled ∙ other.spelled) in
    let dirs : dir ≡ dir' = one_dir dir dir' (first_word _ _ _ _ behind) in
    let needles : (bed ≡ bed') × (at ≡ at') × (carriers ≡ carriers') =
    one_front one.operands _ _ _ _ _ _ one.first (subst (λ ts. BeginsWithNeedle ts bed' at' carriers') (sym (other_words _ _ _ _ behind)) other.first) in
    λ i. shape (dirs i) (needles.0 i) (needles.1 i) (needles.2 i)

divided_alike : (word : List ℕ) (tokens : List (List ℕ)) (dir dir' : Dir) (bed bed' : Bed) (at at' : ℤ) (bed2 bed2' : Bed) (at2 at2' : ℤ) (carriers carriers' : List (List ℕ))
    → IsDivided word tokens dir bed at bed2 at2 carriers → IsDivided word tokens dir' bed' at' bed2' at2' carriers' → SplitShape dir bed at bed2 at2 carriers ≡ SplitShape dir' bed' at' bed2' at2' carriers'
divided_alike word tokens dir dir' bed bed' at at' bed2 bed2' at2 at2' carriers carriers' one other =
    let behind : dir_word dir ∷ one.operands ≡ dir_word dir' ∷ other.operands = other_words _ _ _ _ (sym one.spelled ∙ other.spelled) in
    let dirs : dir ≡ dir' = one_dir dir dir' (first_word _ _ _ _ behind) in
    let needles : (bed ≡ bed') × (at ≡ at') × (one.others ≡ other.others) =
    one_front one.operands _ _ _ _ _ _ one.first (subst (λ ts. BeginsWithNeedle ts bed' at' other.others) (sym (other_words _ _ _ _ behind)) other.first) in
    let needles2 : (bed2 ≡ bed2') × (at2 ≡ at2') × (carriers ≡ carriers') =
    one_front one.others _ _ _ _ _ _ one.second (subst (λ ts. BeginsWithNeedle ts bed2' at2' carriers') (sym needles.2) other.second) in
    λ i. SplitShape (dirs i) (needles.0 i) (needles.1 i) (needles2.0 i) (needles2.1 i) (needles2.2 i)

moved_alike : (word : List ℕ) (tokens : List (List ℕ)) (bed bed' : Bed) (at at' : ℤ) (bed2 bed2' : Bed) (at2 at2' : ℤ)
    → IsTwoNeedleShape word tokens bed at bed2 at2 → IsTwoNeedleShape word tokens bed' at' bed2' at2' → XferShape bed at bed2 at2 ≡ XferShape bed' at' bed2' at2'
moved_alike word tokens bed bed' at at' bed2 bed2' at2 at2' one other =
    let needles : (bed ≡ bed') × (at ≡ at') × (one.others ≡ other.others) =
    one_front one.operands _ _ _ _ _ _ one.first (subst (λ ts. BeginsWithNeedle ts bed' at' other.others) (sym (other_words _ _ _ _ (sym one.spelled ∙ other.spelled))) other.first) in
    let needles2 : (bed2 ≡ bed2') × (at2 ≡ at2') × (◌≡◌ {A = List (List ℕ)} [] []) =
    one_front one.others _ _ _ _ _ _ one.second (subst (λ ts. BeginsWithNeedle ts bed2' at2' []) (sym needles.2) other.second) in
    λ i. XferShape (needles.0 i) (needles.1 i) (needles2.0 i) (needles2.1 i)

named_alike : (shape : Bed → ℤ → Shape) (word : List ℕ) (tokens : List (List ℕ)) (bed bed' : Bed) (at at' : ℤ)
    → IsNamed word tokens bed at → IsNamed word tokens bed' at' → shape bed at ≡ shape bed' at'
named_alike shape word tokens bed bed' at at' one other =
    let needles : (bed ≡ bed') × (at ≡ at') × (◌≡◌ {A = List (List ℕ)} [] []) =
    one_front one.operands _ _ _ _ _ _ one.first (subst (λ ts. BeginsWithNeedle ts bed' at' []) (sym (other_words _ _ _ _ (sym one.spelled ∙ other.spelled))) other.first) in
    λ i. shape (needles.0 i) (needles.1 i)

racked_alike : (word : List ℕ) (tokens : List (List ℕ)) (negative negative' : Bool) (whole whole' : List ℕ) (quarters quarters' : Option ℕ)
    → IsRacked word tokens negative whole quarters → IsRacked word tokens negative' whole' quarters' → RackShape negative whole quarters ≡ RackShape negative' whole' quarters'
racked_alike word tokens negative negative' whole whole' quarters quarters' one other =
    let same : one.token ≡ other.token = first_word _ _ _ _ (other_words _ _ _ _ (sym one.spelled ∙ other.spelled)) in
    let racks : (negative ≡ negative') × (whole ≡ whole') × (one.fraction ≡ other.fraction) =
    one_rack one.token _ _ _ _ _ _ one.named (subst (λ t. IsRack t negative' whole' other.fraction) (sym same) other.named) in
    let left : quarters ≡ quarters' = one_left one.fraction quarters quarters' one.left (subst (λ f. AreQuarters f quarters') (sym racks.2) other.left) in
    λ i. RackShape (racks.0 i) (racks.1 i) (left i)

behind_prefix : (name other : List ℕ) → codes "x-" ++ name ≡ codes "x-" ++ other → name ≡ other
behind_prefix name other e = ap (drop 2) e

-- shapes of one mark are of one kind, and then their parts are equal
alike : (tokens : List (List ℕ)) (s t : Shape) → nat_eq (mark_of s) (mark_of t) ≡ true → TokensSpell tokens s → TokensSpell tokens t → s ≡ t
alike tokens (CarryInShape cs) (CarryInShape ds) e one other = ap CarryInShape (carried_alike _ _ _ _ one other)
alike tokens (CarryOutShape cs) (CarryOutShape ds) e one other = ap CarryOutShape (carried_alike _ _ _ _ one other)
alike tokens (HookInShape cs) (HookInShape ds) e one other = ap HookInShape (carried_alike _ _ _ _ one other)
alike tokens (HookOutShape cs) (HookOutShape ds) e one other = ap HookOutShape (carried_alike _ _ _ _ one other)
alike tokens (ReleaseHookShape cs) (ReleaseHookShape ds) e one other = ap ReleaseHookShape (carried_alike _ _ _ _ one other)
alike tokens (StitchShape ts) (StitchShape us) e one other = ap StitchShape (other_words _ _ _ _ (sym one ∙ other))
alike tokens (PauseShape ts) (PauseShape us) e one other = ap PauseShape (other_words _ _ _ _ (sym one ∙ other))
alike tokens (ExtensionShape name ts) (ExtensionShape name' us) e one other =
    let names : name ≡ name' = behind_prefix name name' (first_word _ _ _ _ (sym one ∙ other)) in
    let frees : ts ≡ us = other_words _ _ _ _ (sym one ∙ other) in
    λ i. ExtensionShape (names i) (frees i)
alike tokens (RackShape n w q) (RackShape n' w' q') e one other = racked_alike _ _ _ _ _ _ _ _ one other
alike tokens (KnitShape dir bed at cs) (KnitShape dir' bed' at' ds) e one other = formed_alike KnitShape _ _ _ _ _ _ _ _ _ _ one other
alike tokens (TuckShape dir bed at cs) (TuckShape dir' bed' at' ds) e one other = formed_alike TuckShape _ _ _ _ _ _ _ _ _ _ one other
alike tokens (MissShape dir bed at cs) (MissShape dir' bed' at' ds) e one other = formed_alike MissShape _ _ _ _ _ _ _ _ _ _ one other
alike tokens (SplitShape dir bed at bed2 at2 cs) (SplitShape dir' bed' at' bed2' at2' ds) e one other = divided_alike _ _ _ _ _ _ _ _ _ _ _ _ _ _ one other
alike tokens (XferShape bed at bed2 at2) (XferShape bed' at' bed2' at2') e one other = moved_alike _ _ _ _ _ _ _ _ _ _ one other
alike tokens (DropShape bed at) (DropShape bed' at') e one other = named_alike DropShape _ _ _ _ _ _ one other
alike tokens (AmissShape bed at) (AmissShape bed' at') e one other = named_alike AmissShape _ _ _ _ _ _ one other
alike tokens s t e one other = absurd (false≢true e)

same_eq : (m n k : ℕ) → nat_eq k m ≡ true → nat_eq k n ≡ true → nat_eq m n ≡ true
same_eq m n k one other = grind arith

-- a word and tokens have one shape at most
pub one-shape : (word : List ℕ) (rest : List (List ℕ)) (s t : Shape) → TokensSpell (word ∷ rest) s → TokensSpell (word ∷ rest) t → s ≡ t
one-shape word rest s t one other =
    alike (word ∷ rest) s t (same_eq (mark_of s) (mark_of t) (mark word) (marks-agree word rest s one) (marks-agree word rest t other)) one other

-- the tokens have a shape, and this is its reading
abbrev pub Fits : Profile → List (List ℕ) → List (List ℕ) → Read → Type 0
Fits profile names tokens r = (shape : Shape) × TokensSpell tokens shape × (r ≡ reading_of profile names shape)

-- they have none, and this is the reading of such a line
abbrev pub FitsNone : List (List ℕ) → Read → Type 0
FitsNone tokens r = ((shape : Shape) → TokensSpell tokens shape → ⊥) × (r ≡ unreadable)

-- a word and tokens have one reading at most
pub one-reading : (profile : Profile) (names : List (List ℕ)) (word : List ℕ) (rest : List (List ℕ)) (r other : Read)
    → TokensReadAs profile names (word ∷ rest) r → TokensReadAs profile names (word ∷ rest) other → other ≡ r
one-reading profile names word rest r other one two =
    ⊎_elim
    (λ (here : Fits profile names (word ∷ rest) r).
    ⊎_elim
    (λ (there : Fits profile names (word ∷ rest) other). there.2 ∙ ap (reading_of profile names) (one-shape word rest there.0 here.0 there.1 here.1) ∙ sym here.2)
    (λ (none : FitsNone (word ∷ rest) other). absurd (none.0 here.0 here.1))
    two)
    (λ (none : FitsNone (word ∷ rest) r).
    ⊎_elim
    (λ (there : Fits profile names (word ∷ rest) other). absurd (none.0 there.0 there.1))
    (λ (unread : FitsNone (word ∷ rest) other). unread.1 ∙ sym none.1)
    two)
    one

reads_as : (profile : Profile) (names : List (List ℕ)) (word : List ℕ) (rest : List (List ℕ)) (comment : Bool) (r : Read) → CodeReadsAs profile names (word ∷ rest) comment r
    → TokensReadAs profile names (word ∷ rest) r
reads_as profile names word rest comment r reads = reads

-- the readings of a line that has tokens are those of its tokens
pub reads-tokens : (profile : Profile) (names tokens rest : List (List ℕ)) (word : List ℕ) (comment : Bool) (r : Read) → tokens ≡ word ∷ rest
    → CodeReadsAs profile names tokens comment r → TokensReadAs profile names (word ∷ rest) r
reads-tokens profile names tokens rest word comment r is reads = reads_as profile names word rest comment r (subst (λ ts. CodeReadsAs profile names ts comment r) is reads)
