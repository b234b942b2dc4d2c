use Rattle.std.proofs.Common.{◌≡◌, ◌<◌, ℕ, All, List, [], ◌∷◌, subst, sym}
use Rattle.std.proofs.lemmas.List.Elements.{All-head, All-tail}
use Rattle.edit_groups.specs.Chunks.{earlier_steps}
use Rattle.edit_groups.specs.declared.chunk.Chunk.{Chunk}
use Rattle.edit_journal.specs.declared.edit.Entry.{Entry}
use Rattle.turn_book.specs.Journal.{Each}
use Rattle.talk_desk.proofs.document.Document.start.Goals as goal

steps-below : (es : List Entry) → All (λ (e : Entry). e.session < 64) es → Each (λ (c : Chunk). c.session < 64) (earlier_steps es)
steps-below [] below = tt
steps-below (e ∷ es) below = (All-head (λ (x : Entry). x.session < 64) e es below, steps-below es (All-tail (λ (x : Entry). x.session < 64) e es below))

pub start-requires-clause-entries : goal.start-requires-clause-entries
start-requires-clause-entries g c = subst (Each (λ (k : Chunk). k.session < 64)) (sym c.in_ok-book.ensures.chunks) (steps-below c.args.book.entries c.requires.sessions)
