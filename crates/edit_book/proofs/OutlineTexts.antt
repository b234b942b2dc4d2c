-- The texts of an outline's blocks keep the limits of a document.
use Rattle.std.proofs.Common.{◌≡◌, ◌∙◌, ℕ, ◌≤◌, List, [], ◌∷◌, All, length, map, take, Some, Option, IfSome, ap, sym, subst, arith}
use Rattle.std.specs.Prelude.{flat_map}
use Rattle.std.proofs.lemmas.List.{take_all}
use Rattle.std.proofs.lemmas.List.Elements.{All-cons, All-nil}
use Rattle.std.proofs.lemmas.List.Folds.{flat_map-map}
use Rattle.edit_journal.specs.declared.edit.Entry.{Entry}
use Rattle.edit_journal.specs.declared.opening.Opening.{Opening}
use Rattle.edit_journal.specs.Documents.{Block, document_of, text_at}
use Rattle.edit_book.specs.Books.{Each, HasShortTexts, HasText, IsLawfulOutline}
use Rattle.edit_book.specs.Replies.{block_limit, line_limit}

abbrev pub lines_of : Block → List (List ℕ)
lines_of b = b.lines

short_each : (o : Opening) (es : List Entry) (bs : List Block) → HasShortTexts o es → Each (HasText o es) bs → All (λ (text : List (List ℕ)). length text ≤ 4096) (map lines_of bs)
short_each o es [] short texts = All-nil (λ (text : List (List ℕ)). length text ≤ 4096)
short_each o es (b ∷ bs) short texts =
    All-cons (λ (text : List (List ℕ)). length text ≤ 4096) b.lines (map lines_of bs)
    (subst (λ (t : Option (List (List ℕ))). IfSome t (λ text. length text ≤ 4096)) texts.0 (short b.id b.stamp)) (short_each o es bs short texts.1)

as_many_texts : (bs : List Block) → length (map lines_of bs) ≡ length bs
as_many_texts [] = omega arith
as_many_texts (b ∷ bs) = omega (arith, as_many_texts bs)

-- what a list of all texts keeps
pub record KeepsLimits (texts : List (List (List ℕ))) : Type 0 where
  pub few : length texts ≤ block_limit
  pub short : All (λ (text : List (List ℕ)). length text ≤ 4096) texts
  pub lines : length (flat_map (λ (text : List (List ℕ)). text) texts) ≤ line_limit

texts_kept : (o : Opening) (es : List Entry) (texts : List (List (List ℕ))) → IsLawfulOutline o es → texts ≡ map lines_of (document_of o es).blocks → KeepsLimits texts
texts_kept o es texts lawful is = subst KeepsLimits (sym is) (record {
  few = omega (arith, as_many_texts (document_of o es).blocks, lawful.fits.blocks_fit);
  short = short_each o es (document_of o es).blocks lawful.short lawful.texts;
  lines = omega (arith, ap length (flat_map-map (λ (text : List (List ℕ)). text) lines_of (document_of o es).blocks), lawful.fits.lines_fit);
})

-- so does a list of so many of them that all are taken
pub taken_kept : (o : Opening) (es : List Entry) (at end : ℕ) (texts : List (List (List ℕ))) → IsLawfulOutline o es → end ≡ length (document_of o es).blocks → texts ≡ take at (map lines_of (document_of o es).blocks) → end ≤ at → KeepsLimits texts
taken_kept o es at end texts lawful all taken past =
    texts_kept o es texts lawful (taken ∙ take_all at (map lines_of (document_of o es).blocks) (omega (arith, as_many_texts (document_of o es).blocks, all, past)))
