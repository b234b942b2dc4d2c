-- The lines of a body, written one after another.
use Rattle.std.proofs.Common.{◌≡◌, ℕ, ◌+◌, ◌-◌, ◌<◌, ◌≤◌, List, [], ◌∷◌, ◌++◌, length, take, drop, get_or, Result, Ok, Err, OnOk, ap, sym, subst, ◌∙◌, refl, arith, append_assoc, append-nil, length-drop}
use Rattle.std.specs.List.{AllZip}
use Rattle.std.proofs.lemmas.Grind.{flat_map-append}
use Rattle.std.proofs.lemmas.List.{take_more, get_or-drop, take_all}
use Rattle.std.proofs.lemmas.List.Elements.{AllZip-push}
use Rattle.std.proofs.lemmas.List.Sums.{prefix_len-le-length}
use Rattle.knitout_reader.specs.Head.{head_len, is_head_line}
use Rattle.knit_base.specs.declared.instr.Read.{Read}
use Rattle.knit_base.specs.declared.profile.Profile.{Profile}
use Rattle.knitout_reader.specs.Reading.{ReadsAs}
use Rattle.knitout_writer.specs.Canonical.{canonical, IsCanonicalLine, with_line_feeds}

-- a line that was read and written is in its canonical spelling
pub line-written : {T E : Type 0} (profile : Profile) (names : List (List ℕ)) (line bytes before after : List ℕ) (read : Read) (r : Result T E) → ReadsAs profile names line read → bytes ≡ line
    → OnOk r (after ≡ before ++ canonical names read bytes) → OnOk r ((text : List ℕ) × IsCanonicalLine profile names line text × (after ≡ before ++ text))
line-written profile names line bytes before after read (Ok x) reads same written =
    (canonical names read line, (read, reads, refl), written ∙ ap (λ b. before ++ canonical names read b) same)
line-written profile names line bytes before after read (Err e) reads same written = written

-- a head is no longer than its file
pub head_within : (lines : List (List ℕ)) → head_len lines ≤ length lines
head_within [] = omega arith
head_within (first ∷ lines) = omega (arith, prefix_len-le-length is_head_line lines)

-- one line more
pub lines-more : (R : List ℕ → List ℕ → Type 0) (lines texts : List (List ℕ)) (from i : ℕ) (line text : List ℕ) → from ≤ i → i < length lines → line ≡ get_or lines i [] → R line text
    → AllZip R (take (i - from) (drop from lines)) texts → AllZip R (take (i + 1 - from) (drop from lines)) (texts ++ text ∷ [])
lines-more R lines texts from i line text after within is holds so_far =
    let inside : i - from < length (drop from lines) = omega (arith, length-drop from lines) in
    let here : get_or (drop from lines) (i - from) [] ≡ line = get_or-drop from lines (i - from) [] ∙ ap (λ k. get_or lines k []) (omega arith) ∙ sym is in
    let more : take (i + 1 - from) (drop from lines) ≡ take (i - from) (drop from lines) ++ line ∷ [] =
    ap (λ k. take k (drop from lines)) (omega arith) ∙ take_more (drop from lines) (i - from) [] inside ∙ ap (λ l. take (i - from) (drop from lines) ++ l ∷ []) here in
    subst (λ ls. AllZip R ls (texts ++ text ∷ [])) (sym more) (AllZip-push R (take (i - from) (drop from lines)) texts line text so_far holds)

-- one line more, with its line feed
pub fed-more : (before after pushed fed : List ℕ) (texts : List (List ℕ)) (text : List ℕ) → fed ≡ before ++ with_line_feeds texts → pushed ≡ fed ++ text → after ≡ pushed ++ 10 ∷ []
    → after ≡ before ++ with_line_feeds (texts ++ text ∷ [])
fed-more before after pushed fed texts text so_far more feed =
    feed ∙ ap (λ p. p ++ 10 ∷ []) (more ∙ ap (λ f. f ++ text) so_far)
    ∙ append_assoc (before ++ with_line_feeds texts) text (10 ∷ [])
    ∙ append_assoc before (with_line_feeds texts) (text ++ 10 ∷ [])
    ∙ ap (λ t. before ++ (with_line_feeds texts ++ t)) (sym (append-nil (text ++ 10 ∷ [])))
    ∙ ap (λ t. before ++ t) (sym (flat_map-append (λ line. line ++ 10 ∷ []) texts (text ∷ [])))

-- all of them
pub lines-all : (R : List ℕ → List ℕ → Type 0) (lines texts : List (List ℕ)) (from i : ℕ) → from ≤ i → length lines ≤ i
    → AllZip R (take (i - from) (drop from lines)) texts → AllZip R (drop from lines) texts
lines-all R lines texts from i after past so_far = subst (λ ls. AllZip R ls texts) (take_all (i - from) (drop from lines) (omega (arith, length-drop from lines))) so_far
