-- Changes laid out one after the other.
use Rattle.std.proofs.Common.{◌≡◌, ℕ, List, [], ◌∷◌, ◌++◌, length, map, refl, sym, ◌∙◌, subst}
use Rattle.std.proofs.lemmas.List.Elements.{All-nil}
use Rattle.knit_base.specs.declared.needle.Needle.{Needle}
use Rattle.face_data.specs.declared.face.Change.{Change}
use Rattle.face_data.specs.declared.face.Seg.{Seg}
use Rattle.face_data.specs.View.{ArePacked, changed_of}
use Rattle.std.proofs.Common.{◌+◌, ◌≤◌}
use Rattle.face_data.proofs.Parts.{changes-push, changes_fit-push, last_part, segs-push}

-- no changes
pub nothing_laid : (segs : List Seg) (changes : List Change) → segs ≡ [] → changes ≡ [] → ArePacked segs changes
nothing_laid segs changes no_segs none =
    subst (λ (xs : List Seg). ArePacked xs changes) (sym no_segs)
    (subst (λ (cs : List Change). ArePacked [] cs) (sym none) (record { fit = All-nil (λ (c : Change). c.part.start + c.part.len ≤ length {A = Seg} []); whole = refl }))

-- one change more, and its segments behind the others
pub record OneMoreLaid (segs all : List Seg) (changes now : List Change) (n : Needle) (more : List Seg) : Type 0 where
  pub packed : ArePacked all now
  pub laid : map (changed_of all) now ≡ map (changed_of segs) changes ++ (n, more) ∷ []

last_laid : (segs : List Seg) (changes : List Change) (n : Needle) (more : List Seg) → ArePacked segs changes →
    OneMoreLaid segs (segs ++ more) changes (changes ++ record { needle = n; part = last_part segs more } ∷ []) n more
last_laid segs changes n more are = record {
  packed = record { fit = changes_fit-push changes segs more n are.fit; whole = segs-push changes segs more n are.fit are.whole };
  laid = changes-push changes segs more n are.fit;
}

-- the same as the code puts it
pub change_laid : (segs all : List Seg) (changes now : List Change) (n : Needle) (more : List Seg) (start len : ℕ) → all ≡ segs ++ more → start ≡ length segs → len ≡ length more →
    now ≡ changes ++ record { needle = n; part = record { start = start; len = len } } ∷ [] → ArePacked segs changes → OneMoreLaid segs all changes now n more
change_laid segs all changes now n more start len is begins long has are =
    let same : now ≡ changes ++ record { needle = n; part = last_part segs more } ∷ [] =
    has ∙ (λ i. changes ++ record { needle = n; part = record { start = begins i; len = long i } } ∷ []) in
    subst (λ (xs : List Seg). OneMoreLaid segs xs changes now n more) (sym is)
    (subst (λ (cs : List Change). OneMoreLaid segs (segs ++ more) changes cs n more) (sym same) (last_laid segs changes n more are))
