-- How a conversation stands behind one more order.
use Rattle.std.proofs.Common.{◌≡◌, ℕ, Bool, List, [], ◌∷◌, ◌++◌, refl}
use Rattle.edit_journal.specs.declared.opening.Opening.{Opening}
use Rattle.script_reader.specs.Hearing.{Order}
use Rattle.edit_groups.specs.declared.chunk.Chunk.{Chunk}
use Rattle.talk_loop.specs.InStep.{AreDeskAnswers, state_behind}
use Rattle.talk_desk.specs.Conversation.{Answer, Standing, asking, standing_after, standing_behind}

module _ (json : Bool) (head : List (List ℕ)) (opening : Opening) where
  pub standing-more : (s : Standing) (hs : List (Order × Answer)) (o : Order) (a : Answer) → standing_behind json head opening s (hs ++ (o, a) ∷ []) ≡ standing_after json head opening (standing_behind json head opening s hs) o a
  standing-more s [] o a = refl
  standing-more s (h ∷ hs) o a = standing-more (standing_after json head opening s h.0 h.1) hs o a

  -- orders and their answers, and one more
  pub state-more : (earlier : List Chunk) (number : ℕ) (before : List (Order × Answer)) (os : List Order) (as_ : List Answer) (more : List Order) (bs : List Answer) → AreDeskAnswers (asking json head opening earlier number) before os as_
      → state_behind (asking json head opening earlier number) before (os ++ more) (as_ ++ bs) ≡ state_behind (asking json head opening earlier number) (state_behind (asking json head opening earlier number) before os as_) more bs
  state-more earlier number before [] [] more bs h = refl
  state-more earlier number before [] (a ∷ as_) more bs h = absurd h
  state-more earlier number before (o ∷ os) [] more bs h = absurd h
  state-more earlier number before (o ∷ os) (a ∷ as_) more bs h = state-more earlier number (before ++ (o, a) ∷ []) os as_ more bs h.1
