-- What is refused of an input excludes what is lawful.
use Rattle.std.proofs.Common.{◌≡◌, inl, inr, ℕ, ◌∷◌, ◌++◌, List, [], length, Some, Ok, Err, All, sym, subst, ◌∙◌, arith, length-append}
use Rattle.std.proofs.lemmas.Bool.{false≢true}
use Rattle.std.proofs.Math.Seq.{get_or-append_seam}
use Rattle.line_cutter.specs.declared.fault.CutFault.{CutFault}
use Rattle.line_cutter.specs.declared.fault.CutFault.TheVariants as cut
use Rattle.line_cutter.specs.Cut.{IsFirstBad, IsGoodLine}
use Rattle.knitout_reader.specs.declared.head.Head.{Head}
use Rattle.knitout_reader.specs.declared.head.HeadFault.{HeadFault}
use Rattle.knitout_reader.specs.declared.head.HeadFault.TheVariants as head
use Rattle.knitout_reader.specs.Head.{IsHead, IsHeadFault}
use Rattle.verdict_report.specs.declared.refusal.Refusal.{Refusal}
use Rattle.input_answers.specs.Due.{BodyFits, IsSizeRefusal, cut_refusal, head_refusal}

good_there : (before : List (List ℕ)) (line : List ℕ) (after : List (List ℕ)) → All IsGoodLine (before ++ line ∷ after) → IsGoodLine line
good_there before line after good =
    subst IsGoodLine (get_or-append_seam before line after []) (good (length before) [] (omega (arith, length-append before (line ∷ after))))

-- of good lines none is bad
pub good-not_bad : (lines : List (List ℕ)) (fault : CutFault) (said : Refusal) → All IsGoodLine lines → IsFirstBad lines fault → cut_refusal fault ≡ Some said → ⊥
good-not_bad lines (cut.NotUtf8 number) said good bad tells =
    let is = good_there bad.before bad.bad bad.after (subst (All IsGoodLine) bad.lines_are good) in
    false≢true (sym bad.is_bad ∙ is.utf8)
good-not_bad lines (cut.LineLong number) said good bad tells =
    let is = good_there bad.before bad.bad bad.after (subst (All IsGoodLine) bad.lines_are good) in
    omega (arith, is.short, bad.is_bad.long)
good-not_bad lines cut.NoMemory said good bad tells = cc

-- lines that have a head are refused for none
pub head-not_bad : (lines : List (List ℕ)) (is_head : Head) (fault : HeadFault) (said : Refusal) → IsHead lines is_head → IsHeadFault lines fault → head_refusal fault ≡ Some said → ⊥
head-not_bad lines is_head head.BadMagic said is bad tells = let clash : Ok is_head.declared ≡ Err head.BadMagic = sym is.names ∙ bad in cc
head-not_bad lines is_head head.NoCarriers said is bad tells = let clash : Ok is_head.declared ≡ Err head.NoCarriers = sym is.names ∙ bad in cc
head-not_bad lines is_head (head.TwoCarriers line) said is bad tells = let clash : Ok is_head.declared ≡ Err (head.TwoCarriers line) = sym is.names ∙ bad in cc
head-not_bad lines is_head (head.CarrierNameTwice line) said is bad tells = let clash : Ok is_head.declared ≡ Err (head.CarrierNameTwice line) = sym is.names ∙ bad in cc
head-not_bad lines is_head (head.ManyCarriers line) said is bad tells = let clash : Ok is_head.declared ≡ Err (head.ManyCarriers line) = sym is.names ∙ bad in cc
head-not_bad lines is_head head.NoMemory said is bad tells = cc

-- a body that fits isn't too large
pub fits-not_large : (size count : ℕ) (said : Refusal) → BodyFits size count → IsSizeRefusal size count said → ⊥
fits-not_large size count said fits (inl lines) = omega (arith, fits.lines, lines.1)
fits-not_large size count said fits (inr blocks) = omega (arith, fits.blocks, blocks.2)
