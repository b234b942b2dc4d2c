-- Blocks with summaries of their texts fit the journal that gave them these texts.
use Rattle.std.proofs.Common.{◌≡◌, ⊎_elim, ℕ, zero, suc, ◌+◌, List, [], ◌∷◌, ◌++◌, length, drop, map, slice_get, Option, Some, sym, ap, ◌∙◌, refl, subst, arith}
use Rattle.edit_journal.specs.declared.edit.BlockAt.{BlockAt}
use Rattle.edit_journal.specs.declared.edit.Entry.{Entry}
use Rattle.edit_journal.specs.declared.opening.Opening.{Opening}
use Rattle.edit_journal.specs.Documents.{Block, Document, AreTextsKnown, document_of, text_at}
use Rattle.edit_journal.proofs.Known.{all_known, text_longer}
use Rattle.edit_book.specs.declared.reply.Again.{Again}
use Rattle.edit_book.specs.declared.reply.BookCommand.TheVariants as ask
use Rattle.edit_book.specs.declared.reply.Reply.{Reply}
use Rattle.edit_book.specs.declared.reply.Reply.TheVariants as reply
use Rattle.edit_book.specs.Headers.{blocks_at}
use Rattle.edit_book.specs.Turns.{AreFitAgain, AreTextsGiven, IsFitAgain, IsRightReply}

blocks_given : (o : Opening) (journal : List Entry) (bs : List Block) → AreTextsKnown o journal bs → AreTextsGiven o journal (blocks_at bs)
blocks_given o journal [] known = tt
blocks_given o journal (b ∷ bs) known = (known.0, blocks_given o journal bs known.1)

-- and these stay so
pub given_longer : (o : Opening) (es more : List Entry) (bs : List BlockAt) → AreTextsGiven o es bs → AreTextsGiven o (es ++ more) bs
given_longer o es more [] given = tt
given_longer o es more (b ∷ bs) given = (text_longer o es more b.block b.stamp b.text given.0, given_longer o es more bs given.1)

-- the blocks that a turn tells have the texts that its journal gave them
pub texts_given : (o : Opening) (n : ℕ) (before : List Entry) (added : Option Entry) (r : Reply) (version : ℕ) (blocks : List BlockAt) → r ≡ reply.Texts version blocks → IsRightReply o before n ask.Texts r added → AreTextsGiven o before blocks
texts_given o n before added r version blocks is right = ⊎_elim
    (λ short. let not : reply.Texts version blocks ≡ reply.NoMemory = sym is ∙ short.0 in absurd (cc))
    (λ due.
    let d : Document = document_of o before in
    let both : reply.Texts (length before) (blocks_at d.blocks) ≡ reply.Texts version blocks = sym due.0 ∙ is in
    let same : blocks_at d.blocks ≡ blocks = cc in
    subst (AreTextsGiven o before) same (blocks_given o before d.blocks (all_known o before).blocks))
    right

-- where the texts from a place on are these, the block at that place has the first of them
pub record Found (bs : List BlockAt) (at : ℕ) (text : List (List ℕ)) (texts : List (List (List ℕ))) : Type 0 where
  pub block : BlockAt
  pub got : slice_get bs at ≡ Some block
  pub text_is : block.text ≡ text
  pub rest : texts ≡ map (λ b. b.text) (drop (at + 1) bs)

pub given_text_found : (bs : List BlockAt) (at : ℕ) (text : List (List ℕ)) (texts : List (List (List ℕ))) → text ∷ texts ≡ map (λ b. b.text) (drop at bs) → Found bs at text texts
given_text_found [] zero text texts is = absurd (cc)
given_text_found [] (suc at) text texts is = absurd (cc)
given_text_found (b ∷ bs) zero text texts is = record { block = b; got = refl; text_is = cc; rest = cc }
given_text_found (b ∷ bs) (suc at) text texts is =
    let f = given_text_found bs at text texts is in
    let next : suc (at + 1) ≡ suc at + 1 = omega arith in
    record { block = f.block; got = f.got; text_is = f.text_is; rest = f.rest ∙ ap (λ (k : ℕ). map (λ (x : BlockAt). x.text) (drop k (b ∷ bs))) next }

-- the block at a place
pub given_at : (o : Opening) (journal : List Entry) (bs : List BlockAt) (i : ℕ) (b : BlockAt) → slice_get bs i ≡ Some b → AreTextsGiven o journal bs → text_at o journal b.block b.stamp ≡ Some b.text
given_at o journal [] i b is given = absurd (cc)
given_at o journal (c ∷ bs) zero b is given = let same : c ≡ b = cc in subst (λ (x : BlockAt). text_at o journal x.block x.stamp ≡ Some x.text) same given.0
given_at o journal (c ∷ bs) (suc i) b is given = given_at o journal bs i b is given.1

-- one more summary
pub fit_more : (o : Opening) (journal : List Entry) (names : List (List ℕ)) (front : List Again) (last : Again) → AreFitAgain o journal names front → IsFitAgain o journal names last → AreFitAgain o journal names (front ++ last ∷ [])
fit_more o journal names [] last fits fit = (fit, tt)
fit_more o journal names (a ∷ front) last fits fit = (fits.0, fit_more o journal names front last fits.1 fit)
