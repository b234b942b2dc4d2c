-- What operands say of the shape of a line.
use Rattle.std.proofs.Common.{◌≡◌, ℕ, ℤ, Bool, List, [], ◌∷◌, codes, sym, subst, ◌∙◌}
use Rattle.knit_base.specs.declared.needle.Bed.{Bed}
use Rattle.knit_base.specs.declared.needle.Dir.{Dir}
use Rattle.knit_base.specs.Spelling.{dir_word}
use Rattle.knitout_reader.specs.declared.words.LoopOperation.{LoopOperation}
use Rattle.knitout_reader.specs.declared.words.NeedleOperation.{NeedleOperation}
use Rattle.knitout_reader.specs.Numbers.{IsNeedle, IsRack}
use Rattle.knitout_reader.specs.Operations.{loop_word, needle_operation_word}
use Rattle.knitout_reader.specs.Shapes.{Shape, TokensSpell, BeginsWithNeedle}
use Rattle.knitout_reader.proofs.Marks.{first_word, other_words, not_formed, not_named, not_divided, not_moved, not_racked}

-- the tokens begin with no needle
abbrev pub NoNeedle : List (List ℕ) → Type 0
NoNeedle tokens = (bed : Bed) (at : ℤ) (others : List (List ℕ)) → BeginsWithNeedle tokens bed at others → ⊥

-- where the first token is no needle, no needle stands first
pub no_needle : (tokens others : List (List ℕ)) (token : List ℕ) → tokens ≡ token ∷ others → ((bed : Bed) (at : ℤ) → IsNeedle token bed at → ⊥) → NoNeedle tokens
no_needle tokens others token is none bed at rest begins =
    none bed at (subst (λ t. IsNeedle t bed at) (sym (first_word _ _ _ _ (sym is ∙ begins.spelled))) begins.named)

-- the tokens behind a needle are the same, however it is read
pub behind_needle : (tokens others rest : List (List ℕ)) (bed bed' : Bed) (at at' : ℤ) → BeginsWithNeedle tokens bed at others → BeginsWithNeedle tokens bed' at' rest → rest ≡ others
behind_needle tokens others rest bed bed' at at' one other = other_words _ _ _ _ (sym other.spelled ∙ one.spelled)

-- the tokens behind a direction
behind_dir : (word : List ℕ) (tokens operands others : List (List ℕ)) (dir dir' : Dir) → tokens ≡ dir_word dir ∷ operands → word ∷ tokens ≡ word ∷ dir_word dir' ∷ others → others ≡ operands
behind_dir word tokens operands others dir dir' is spelled = other_words _ _ _ _ (sym (other_words _ _ _ _ spelled) ∙ is)

-- without a needle behind its direction a line that forms loops has no shape
pub no_needle_no_loop_shape : (which : LoopOperation) (tokens operands : List (List ℕ)) (dir : Dir) → tokens ≡ dir_word dir ∷ operands → NoNeedle operands
    → (shape : Shape) → TokensSpell (loop_word which ∷ tokens) shape → ⊥
no_needle_no_loop_shape which tokens operands dir is none =
    not_formed which tokens
    (λ d bed at cs formed. none bed at cs (subst (λ ts. BeginsWithNeedle ts bed at cs) (behind_dir _ _ _ _ _ _ is formed.spelled) formed.first))

-- without a needle behind its direction a `split` has no shape
pub no_needle_no_split_shape : (tokens operands : List (List ℕ)) (dir : Dir) → tokens ≡ dir_word dir ∷ operands → NoNeedle operands
    → (shape : Shape) → TokensSpell (codes "split" ∷ tokens) shape → ⊥
no_needle_no_split_shape tokens operands dir is none =
    not_divided tokens
    (λ d bed at bed2 at2 cs divided.
    none bed at divided.others (subst (λ ts. BeginsWithNeedle ts bed at divided.others) (behind_dir _ _ _ _ _ _ is divided.spelled) divided.first))

-- and none without a second needle
pub undivided-2 : (tokens operands others : List (List ℕ)) (dir : Dir) (bed : Bed) (at : ℤ) → tokens ≡ dir_word dir ∷ operands → BeginsWithNeedle operands bed at others → NoNeedle others
    → (shape : Shape) → TokensSpell (codes "split" ∷ tokens) shape → ⊥
undivided-2 tokens operands others dir bed at is first none =
    not_divided tokens
    (λ d bed' at' bed2 at2 cs divided.
    let begins : BeginsWithNeedle operands bed' at' divided.others = subst (λ ts. BeginsWithNeedle ts bed' at' divided.others) (behind_dir _ _ _ _ _ _ is divided.spelled) divided.first in
    none bed2 at2 cs (subst (λ ts. BeginsWithNeedle ts bed2 at2 cs) (behind_needle _ _ _ _ _ _ _ first begins) divided.second))

-- without a needle an `xfer` has no shape
pub no_needle_no_xfer_shape : (tokens : List (List ℕ)) → NoNeedle tokens → (shape : Shape) → TokensSpell (codes "xfer" ∷ tokens) shape → ⊥
no_needle_no_xfer_shape tokens none =
    not_moved tokens
    (λ bed at bed2 at2 moved. none bed at moved.others (subst (λ ts. BeginsWithNeedle ts bed at moved.others) (sym (other_words _ _ _ _ moved.spelled)) moved.first))

-- and none where the second needle isn't the last token
pub unmoved-2 : (tokens others : List (List ℕ)) (bed : Bed) (at : ℤ) → BeginsWithNeedle tokens bed at others → ((bed2 : Bed) (at2 : ℤ) → BeginsWithNeedle others bed2 at2 [] → ⊥)
    → (shape : Shape) → TokensSpell (codes "xfer" ∷ tokens) shape → ⊥
unmoved-2 tokens others bed at first none =
    not_moved tokens
    (λ bed' at' bed2 at2 moved.
    let begins : BeginsWithNeedle tokens bed' at' moved.others = subst (λ ts. BeginsWithNeedle ts bed' at' moved.others) (sym (other_words _ _ _ _ moved.spelled)) moved.first in
    none bed2 at2 (subst (λ ts. BeginsWithNeedle ts bed2 at2 []) (behind_needle _ _ _ _ _ _ _ first begins) moved.second))

-- an operation on one needle has no shape where that isn't the last token
pub more_tokens_no_needle_shape : (which : NeedleOperation) (tokens : List (List ℕ)) → ((bed : Bed) (at : ℤ) → BeginsWithNeedle tokens bed at [] → ⊥) → (shape : Shape) → TokensSpell (needle_operation_word which ∷ tokens) shape → ⊥
more_tokens_no_needle_shape which tokens none =
    not_named which tokens (λ bed at named. none bed at (subst (λ ts. BeginsWithNeedle ts bed at []) (sym (other_words _ _ _ _ named.spelled)) named.first))

-- without a rack a `rack` has no shape
pub no_rack_no_shape : (tokens others : List (List ℕ)) (token : List ℕ) → tokens ≡ token ∷ others → ((negative : Bool) (whole fraction : List ℕ) → IsRack token negative whole fraction → ⊥)
    → (shape : Shape) → TokensSpell (codes "rack" ∷ tokens) shape → ⊥
no_rack_no_shape tokens others token is none =
    not_racked tokens
    (λ negative whole quarters rack_reading.
    let same : rack_reading.token ≡ token = first_word _ _ _ _ (sym (other_words _ _ _ _ rack_reading.spelled) ∙ is) in
    none negative whole rack_reading.fraction (subst (λ t. IsRack t negative whole rack_reading.fraction) same rack_reading.named))
